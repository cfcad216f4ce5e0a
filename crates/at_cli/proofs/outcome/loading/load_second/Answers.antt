use Rattle.std.proofs.Common.{◌≡◌, List, [], ◌++◌, ℕ, Err, IfSome, sym, ◌∙◌, ap, subst, append-nil}
use Rattle.std.proofs.lemmas.Option.{same_Some}
use Rattle.at_cli.specs.Texts.{unread_line}
use Rattle.at_cli.specs.Outcomes.{HasBytes, HasPairOutcome}
use Rattle.at_cli.specs.Failures.{asked_name, asked_second, meanings_of, FailedOn}
use Rattle.at_cli.proofs.ShelfUses.{ends_sized, failed_as}
use Rattle.at_cli.proofs.outcome.loading.load_second.Goals as goal

pub returns-in-Ok-clause-outcome : goal.returns-in-Ok-clause-outcome
returns-in-Ok-clause-outcome g c second e end leads =
    let files = g.S.Shelf.files c.args.shelf.now in
    let bytes = c.in-Ok.second.items in
    let text = c.second_text.result.now in
    let N : List ℕ → Type 0 = λ name. IfSome files (λ told. HasBytes told name bytes) in
    let named : N second = subst N (same_Some text second (c.second_text.ensures ∙ e)) c.in-Ok.ensures.bytes in
    ends_sized files second bytes (HasPairOutcome c.args.line c.args.query second c.args.first.items) end named c.in-Ok.ensures.size (leads.0 second e)

pub returns-in-Err-Failed-clause-failed : goal.returns-in-Err-Failed-clause-failed
returns-in-Err-Failed-clause-failed g c three =
    let before = meanings_of g.S.Shelf c.args.shelf.now in
    let after = meanings_of g.S.Shelf c.named_bytes.new.shelf in
    let name = c.second_of.result in
    let same : c.second_text.result.now ≡ name = same_Some c.second_text.result.now name (c.second_text.ensures ∙ sym c.second_of.ensures) in
    let F : List (List ℕ) → Type 0 = λ names. FailedOn names (unread_line name) before after in
    let names : asked_name name ++ [] ≡ asked_second c.args.line.second = append-nil (asked_name name) ∙ ap asked_second c.second_of.ensures in
    subst F names (failed_as c.second_text.result.now name [] before after same (c.named_bytes.ensures.failed (c.in-Err-Failed.is ∙ ap Err c.in-Err-Failed.field-0-is)) c.named_bytes.ensures.asked)
