use Rattle.std.proofs.Common.{◌≡◌, map, string_bytes, refl, sym, subst, inl, inr}
use Rattle.at_cli.specs.declared.words.line.Line.{Line}
use Rattle.at_cli.specs.declared.outcome.ending.Ending.{Ending}
use Rattle.at_cli.specs.LineOf.{SaysLine}
use Rattle.at_cli.specs.Outcomes.{HasOutcome, HasLineOutcome, SayNoLine, IsLineRefused, IsLineAccepted, AreRefused, AreAccepted}
use Rattle.at_cli.specs.Failures.{asked_names, ShelfAsksFor, ShelfFailedOn}
use Rattle.at_cli.specs.Endings.{status_of, line_of, Ends}
use Rattle.at_cli.proofs.Loads.{on_ends, if_loaded}
use Rattle.at_cli.specs.declared.outcome.ending.Ending.TheVariants.{Usage}
use Rattle.at_cli.proofs.Runs.{ends_any, ends_said, said_none, refused_by_line, asked_of}
use Rattle.at_cli.proofs.outcome.loading.load.Goals as goal

pub returns-in-Ok-clause-outcome : goal.returns-in-Ok-clause-outcome
returns-in-Ok-clause-outcome g c =
    let words = map string_bytes c.args.words.now in
    let files = g.S.Shelf.files c.args.shelf.now in
    on_ends c.load_line.result (Ends (HasLineOutcome c.in-Ok.line) files) (Ends (HasOutcome words) files) (λ end h. ends_said words c.in-Ok.line files end c.in-Ok.ensures.line h) c.load_line.ensures.outcome

pub returns-in-Ok-clause-refused : goal.returns-in-Ok-clause-refused
returns-in-Ok-clause-refused g c =
    let words = map string_bytes c.args.words.now in
    let line = c.in-Ok.line in
    let same = c.load_line.new.shelf ≡ c.args.shelf.now in
    on_ends c.load_line.result (λ end. status_of end ≡ 2 → IsLineRefused line (line_of end) × same) (λ end. status_of end ≡ 2 → AreRefused words (line_of end))
    (λ end h two. inr (line, c.in-Ok.ensures.line, (h two).0)) c.load_line.ensures.refused

pub returns-in-Ok-clause-untouched : goal.returns-in-Ok-clause-untouched
returns-in-Ok-clause-untouched g c =
    let line = c.in-Ok.line in
    let same = c.load_line.new.shelf ≡ c.args.shelf.now in
    on_ends c.load_line.result (λ end. status_of end ≡ 2 → IsLineRefused line (line_of end) × same) (λ end. status_of end ≡ 2 → same) (λ end h two. (h two).1) c.load_line.ensures.refused

pub returns-in-Ok-clause-failed : goal.returns-in-Ok-clause-failed
returns-in-Ok-clause-failed g c =
    let words = map string_bytes c.args.words.now in
    let line = c.in-Ok.line in
    let F : Line → Ending → Type 0 = λ l end. ShelfFailedOn g.S.Shelf (asked_names l) (line_of end) c.args.shelf.now c.load_line.new.shelf in
    on_ends c.load_line.result (λ end. status_of end ≡ 3 → IsLineAccepted line × F line end) (λ end. status_of end ≡ 3 → (line : Line) × AreAccepted words line × F line end)
    (λ end h three. let (accepted, failed) = h three in (line, (c.in-Ok.ensures.line, accepted), failed)) c.load_line.ensures.failed

pub returns-in-Ok-clause-says : goal.returns-in-Ok-clause-says
returns-in-Ok-clause-says g c =
    let Says : Line → Type 0 = SaysLine (map string_bytes c.args.words.now) in
    if_loaded c.load_line.result (λ line. line ≡ c.in-Ok.line) Says (λ line same. subst Says (sym same) c.in-Ok.ensures.line) c.load_line.ensures.same_line

pub returns-in-Ok-clause-refuses : goal.returns-in-Ok-clause-refuses
returns-in-Ok-clause-refuses g c refusal h =
    c.load_line.ensures.refuses refusal (refused_by_line (map string_bytes c.args.words.now) c.in-Ok.line refusal c.in-Ok.ensures.line c.in-Ok.ensures.only h)

pub returns-in-Err-Refused-clause-outcome : goal.returns-in-Err-Refused-clause-outcome
returns-in-Err-Refused-clause-outcome g c =
    let words = map string_bytes c.args.words.now in
    let none : SayNoLine words = said_none words c.read_words.result c.in-Err-Refused.field-0 c.read_words.ensures.refused c.in-Err-Refused.is c.in-Err-Refused.field-0-is in
    ends_any (HasOutcome words) (g.S.Shelf.files c.args.shelf.now) Usage (λ told. inl (none, refl))

pub returns-in-Err-Refused-clause-refused : goal.returns-in-Err-Refused-clause-refused
returns-in-Err-Refused-clause-refused g c e =
    inl (said_none (map string_bytes c.args.words.now) c.read_words.result c.in-Err-Refused.field-0 c.read_words.ensures.refused c.in-Err-Refused.is c.in-Err-Refused.field-0-is, refl)

pub returns-in-Ok-clause-asked : goal.returns-in-Ok-clause-asked
returns-in-Ok-clause-asked g c =
    let before = c.args.shelf.now in
    let after = c.load_line.new.shelf in
    asked_of (map string_bytes c.args.words.now) c.in-Ok.line (after ≡ before) (λ line. ShelfAsksFor g.S.Shelf (asked_names line) before after) c.in-Ok.ensures.line c.load_line.ensures.asked
