use Rattle.std.proofs.Common.{◌≡◌, List, ℕ, Option, Some, Err, IfSome, ◌∙◌, ap, subst}
use Rattle.at_io.specs.Files.{Files}
use Rattle.at_cli.specs.Outcomes.{Outcome, HasBytes, Sized, HasPairOutcome, HasFilesOutcome}
use Rattle.at_cli.specs.Failures.{asked_name, asked_second, asked_names, meanings_of, WasAsked, FailedOn}
use Rattle.at_cli.specs.Endings.{status_of, line_of, Ends}
use Rattle.at_cli.specs.Loading.{OnEnd}
use Rattle.at_cli.proofs.Loads.{on_ends}
use Rattle.at_cli.proofs.ShelfUses.{ends_more, name_sized, failed_as, failed_behind, both_asked, asks_all}
use Rattle.at_cli.proofs.outcome.loading.load_two.Goals as goal

pub returns-in-Ok-clause-outcome : goal.returns-in-Ok-clause-outcome
returns-in-Ok-clause-outcome g c second e =
    let files = g.S.Shelf.files c.args.shelf.now in
    let bytes = c.in-Ok.first.items in
    let N : List ℕ → Type 0 = λ name. IfSome files (λ told. HasBytes told name bytes) in
    let named : N c.args.line.first = subst N c.as_str.ensures c.in-Ok.ensures.bytes in
    let Has : Files → Outcome → Type 0 = λ told. Sized told second (HasPairOutcome c.args.line c.args.query second bytes) in
    let E : Option Files → Type 0 = λ w. OnEnd c.load_second.result (Ends Has w) in
    on_ends c.load_second.result (Ends Has files) (Ends (HasFilesOutcome (Some second) c.args.line c.args.query) files)
    (λ end h. ends_more files c.args.line.first bytes (λ told a. Sized told second (HasPairOutcome c.args.line c.args.query second a)) end named c.in-Ok.ensures.size h)
    (subst E c.named_bytes.ensures.same_files (c.load_second.ensures.outcome second e))

pub returns-in-Ok-clause-failed : goal.returns-in-Ok-clause-failed
returns-in-Ok-clause-failed g c =
    let before = meanings_of g.S.Shelf c.args.shelf.now in
    let mid = meanings_of g.S.Shelf c.named_bytes.new.shelf in
    let after = meanings_of g.S.Shelf c.load_second.new.shelf in
    let line = c.args.line in
    let bytes = c.in-Ok.first.items in
    let N : List ℕ → Type 0 = λ name. IfSome before.files (λ told. HasBytes told name bytes) in
    let named : N line.first = subst N c.as_str.ensures c.in-Ok.ensures.bytes in
    let A : List ℕ → Type 0 = λ name. WasAsked (asked_name name) before mid in
    on_ends c.load_second.result (λ end. status_of end ≡ 3 → FailedOn (asked_second line.second) (line_of end) mid after) (λ end. status_of end ≡ 3 → FailedOn (asked_names line) (line_of end) before after)
    (λ end h three. failed_behind (asked_name line.first) (asked_second line.second) (line_of end) before mid after c.named_bytes.ensures.same_files (subst A c.as_str.ensures c.named_bytes.ensures.asked) c.named_bytes.ensures.counted
    (name_sized before.files line.first bytes named c.in-Ok.ensures.size) (h three))
    c.load_second.ensures.failed

pub returns-in-Ok-clause-asked : goal.returns-in-Ok-clause-asked
returns-in-Ok-clause-asked g c =
    let before = meanings_of g.S.Shelf c.args.shelf.now in
    let mid = meanings_of g.S.Shelf c.named_bytes.new.shelf in
    let after = meanings_of g.S.Shelf c.load_second.new.shelf in
    let line = c.args.line in
    let A : List ℕ → Type 0 = λ name. WasAsked (asked_name name) before mid in
    asks_all (asked_names line) before after
    (both_asked (asked_name line.first) (asked_second line.second) before mid after c.named_bytes.ensures.same_files (subst A c.as_str.ensures c.named_bytes.ensures.asked) c.load_second.ensures.asked)

pub returns-in-Err-Failed-clause-failed : goal.returns-in-Err-Failed-clause-failed
returns-in-Err-Failed-clause-failed g c three =
    failed_as c.as_str.result.now c.args.line.first (asked_second c.args.line.second) (meanings_of g.S.Shelf c.args.shelf.now) (meanings_of g.S.Shelf c.named_bytes.new.shelf) c.as_str.ensures
    (c.named_bytes.ensures.failed (c.in-Err-Failed.is ∙ ap Err c.in-Err-Failed.field-0-is)) c.named_bytes.ensures.asked
