use Rattle.std.proofs.Common.{sym, ◌∙◌}
use Rattle.at_cli.specs.Failures.{meanings_of}
use Rattle.at_cli.proofs.ShelfUses.{by_shelf, large_by_shelf, there_of, name_asked}
use Rattle.std.proofs.lemmas.Result.{IfOk-weaker}
use Rattle.at_cli.proofs.outcome.reading.named_bytes.Goals as goal

pub returns-clause-bytes : goal.returns-clause-bytes
returns-clause-bytes g c = IfOk-weaker c.read_whole.result _ _ (λ v h. by_shelf (g.S.Shelf.files c.args.shelf.now) c.args.name.now v.items (sym c.is_made.ensures ∙ c.if-is_made.false) h) c.read_whole.ensures.bytes

pub returns-clause-large : goal.returns-clause-large
returns-clause-large g c e =
    let files = g.S.Shelf.files c.args.shelf.now in
    large_by_shelf files c.args.name.now (sym c.is_made.ensures ∙ c.if-is_made.false) (there_of c.read_whole.result _ e c.read_whole.ensures.there) (c.read_whole.ensures.large e)

pub returns-clause-asked : goal.returns-clause-asked
returns-clause-asked g c =
    name_asked c.args.name.now (meanings_of g.S.Shelf c.args.shelf.now) (meanings_of g.S.Shelf c.read_whole.new.shelf)
    (sym c.is_made.ensures ∙ c.if-is_made.false) c.read_whole.ensures.begins c.read_whole.ensures.taken c.read_whole.ensures.limit c.read_whole.ensures.named
