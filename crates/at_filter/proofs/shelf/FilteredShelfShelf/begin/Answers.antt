use Rattle.at_filter.proofs.FilteredFiles.{begun_ok, begun_name}
use Rattle.at_filter.proofs.shelf.FilteredShelfShelf.begin.Goals as goal

pub returns-clause-ok : goal.returns-clause-ok
returns-clause-ok g c = begun_ok c.args.self.now.filter c.begin.result _ _ c.args.name.now c.begin.ensures.ok

pub returns-clause-named : goal.returns-clause-named
returns-clause-named g c = begun_name c.args.self.now.filter _ _ c.args.name.now c.begin.ensures.named
