use Rattle.std.proofs.Common.{◌≡◌, ◌≢◌, ◌⊎◌, ◌≤◌, ◌^◌, List, ℕ, length, inl, inr, sym, subst, ◌∙◌}
use Rattle.std.proofs.lemmas.Bool.{cases_eq}
use Rattle.at_query.specs.declared.query.reading.QueryEnd.{QueryEnd}
use Rattle.at_query.specs.Queries.{HasQueryFault, IfFaultAt}
use Rattle.at_cli.specs.declared.outcome.ending.Ending.{Ending}
use Rattle.at_cli.specs.Outcomes.{has_right_count, HasCountedOutcome, HasLineOutcome, IsQueryRefused, IsLineRefused, IsQueryAccepted, IsLineAccepted}
use Rattle.at_cli.specs.Failures.{asked_names, ShelfFailedOn}
use Rattle.at_cli.specs.Endings.{status_of, line_of, Ends}
use Rattle.at_cli.proofs.Loads.{on_ends, on_both}
use Rattle.at_cli.proofs.Runs.{ends_query, ends_asked, query_of_line}
use Rattle.at_cli.proofs.OneOutcome.{refused_not_accepted}
use Rattle.at_cli.proofs.outcome.loading.load_line.Goals as goal

pub read_query-requires : goal.read_query-requires
read_query-requires g c = let P : List ℕ → Type 0 = λ text. length text ≤ 2 ^ 28 in subst P (sym (c.as_bytes.ensures.value ∙ c.as_str.ensures)) c.requires.query_fits

pub returns-in-Ok-clause-outcome : goal.returns-in-Ok-clause-outcome
returns-in-Ok-clause-outcome g c =
    let line = c.args.line in
    let query = c.in-Ok.query in
    let files = g.S.Shelf.files c.args.shelf.now in
    let is = query_of_line line query (c.as_bytes.ensures.value ∙ c.as_str.ensures) c.in-Ok.ensures.answer in
    on_ends c.load_query.result (Ends (HasCountedOutcome (has_right_count query.verb line.second) line query) files) (Ends (HasLineOutcome line) files)
    (λ end h. ends_asked line query files end is h) c.load_query.ensures.outcome

pub returns-in-Ok-clause-refused : goal.returns-in-Ok-clause-refused
returns-in-Ok-clause-refused g c =
    let line = c.args.line in
    let query = c.in-Ok.query in
    let is = query_of_line line query (c.as_bytes.ensures.value ∙ c.as_str.ensures) c.in-Ok.ensures.answer in
    let same = c.load_query.new.shelf ≡ c.args.shelf.now in
    on_ends c.load_query.result (λ end. status_of end ≡ 2 → IsQueryRefused line query (line_of end) × same) (λ end. status_of end ≡ 2 → IsLineRefused line (line_of end) × same)
    (λ end h two. (inr (query, is, (h two).0), (h two).1)) c.load_query.ensures.refused

pub returns-in-Ok-clause-refuses : goal.returns-in-Ok-clause-refuses
returns-in-Ok-clause-refuses g c refusal refused =
    let line = c.args.line in
    let query = c.in-Ok.query in
    let is = query_of_line line query (c.as_bytes.ensures.value ∙ c.as_str.ensures) c.in-Ok.ensures.answer in
    on_ends c.load_query.result (λ end. status_of end ≢ 2 → IsQueryAccepted line query) (λ end. (status_of end ≡ 2) ⊎ (status_of end ≡ 5))
    (λ end accepted. elim (cases_eq (status_of end) 2) [
      | inl two ↦ inl two
      | inr other ↦ absurd (refused_not_accepted line refusal refused (query, is, accepted other))
    ]) c.load_query.ensures.accepted

pub returns-in-Ok-clause-failed : goal.returns-in-Ok-clause-failed
returns-in-Ok-clause-failed g c =
    let line = c.args.line in
    let query = c.in-Ok.query in
    let is = query_of_line line query (c.as_bytes.ensures.value ∙ c.as_str.ensures) c.in-Ok.ensures.answer in
    let F : Ending → Type 0 = λ end. ShelfFailedOn g.S.Shelf (asked_names line) (line_of end) c.args.shelf.now c.load_query.new.shelf in
    on_ends c.load_query.result (λ end. (status_of end ≢ 2 → IsQueryAccepted line query) × (status_of end ≡ 3 → F end)) (λ end. status_of end ≡ 3 → IsLineAccepted line × F end)
    (λ end h three. ((query, is, h.0 (λ two. absurd (let clash : 3 ≡ 2 = sym three ∙ two in cc))), h.1 three))
    (on_both c.load_query.result (λ end. status_of end ≢ 2 → IsQueryAccepted line query) (λ end. status_of end ≡ 3 → F end) c.load_query.ensures.accepted c.load_query.ensures.failed)

pub returns-in-Err-Fault-clause-outcome : goal.returns-in-Err-Fault-clause-outcome
returns-in-Err-Fault-clause-outcome g c =
    let P : QueryEnd → Type 0 = λ end. IfFaultAt end (HasQueryFault c.args.line.digits c.args.line.how c.as_bytes.result.now) in
    rw (c.in-Err-Fault.field-0-is) (ends_query c.args.line (g.S.Shelf.files c.args.shelf.now) c.as_bytes.result.now _ (c.as_bytes.ensures.value ∙ c.as_str.ensures) (subst P c.in-Err-Fault.field-0-is c.in-Err-Fault.ensures.answer))
