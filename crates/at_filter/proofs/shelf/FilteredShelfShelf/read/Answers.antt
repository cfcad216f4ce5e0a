use Rattle.std.proofs.Common.{◌≡◌, sym, subst, option_map, Some, IfSome, take, drop}
use Rattle.at_filter.specs.Filters.{filtered}
use Rattle.at_filter.proofs.FilteredFiles.{read_on}
use Rattle.at_filter.proofs.shelf.FilteredShelfShelf.read.Goals as goal

pub returns-clause-bytes : goal.returns-clause-bytes
returns-clause-bytes g c =
    let s = c.args.self.now in
    let n = c.in-Ok.given in
    let now = c.pass_front-self.new.room in
    let it = read_on s.filter s.seen n now (g.S.Shelf.left s.shelf) (g.S.Shelf.left c.read.new.self) c.read.new.room c.in-Ok.ensures.bytes c.pass_front-self.ensures.bytes c.in-Ok.ensures.bound in
    subst (λ seen. IfSome (option_map (filtered s.filter s.seen) (g.S.Shelf.left s.shelf)) (λ told. (take n now ≡ take n told) × (option_map (filtered s.filter seen) (g.S.Shelf.left c.read.new.self) ≡ Some (drop n told)))) (sym c.pass_front-self.ensures.seen) it
