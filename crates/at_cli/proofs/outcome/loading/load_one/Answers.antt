use Rattle.std.proofs.Common.{List, ℕ, Err, IfSome, ◌∙◌, ap, subst}
use Rattle.at_cli.specs.Outcomes.{HasBytes, HasBytesOutcome}
use Rattle.at_cli.specs.Failures.{asked_second, meanings_of}
use Rattle.at_cli.proofs.ShelfUses.{ends_sized, failed_as}
use Rattle.at_cli.proofs.outcome.loading.load_one.Goals as goal

pub returns-in-Ok-clause-outcome : goal.returns-in-Ok-clause-outcome
returns-in-Ok-clause-outcome g c end leads =
    let files = g.S.Shelf.files c.args.shelf.now in
    let bytes = c.in-Ok.bytes.items in
    let N : List ℕ → Type 0 = λ name. IfSome files (λ told. HasBytes told name bytes) in
    let named : N c.args.line.first = subst N c.as_str.ensures c.in-Ok.ensures.bytes in
    ends_sized files c.args.line.first bytes (HasBytesOutcome c.args.line c.args.query) end named c.in-Ok.ensures.size leads.0

pub returns-in-Err-Failed-clause-failed : goal.returns-in-Err-Failed-clause-failed
returns-in-Err-Failed-clause-failed g c three =
    failed_as c.as_str.result.now c.args.line.first (asked_second c.args.line.second) (meanings_of g.S.Shelf c.args.shelf.now) (meanings_of g.S.Shelf c.named_bytes.new.shelf) c.as_str.ensures
    (c.named_bytes.ensures.failed (c.in-Err-Failed.is ∙ ap Err c.in-Err-Failed.field-0-is)) c.named_bytes.ensures.asked
