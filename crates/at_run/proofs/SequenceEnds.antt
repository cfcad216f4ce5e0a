-- What a sequence ends in, as a file of any form does.
-- For `part` and `finish_pieces`.
use Rattle.std.proofs.Common.{◌≡◌, ℕ, List, Some, Result, Ok, Err, MatchResult}
use Rattle.at_text.specs.Spans.{StandsAt}
use Rattle.at_text.specs.Refusals.{IfFound}
use Rattle.at_text.specs.declared.refusals.Refusal.{Refusal}
use Rattle.at_fixed.specs.declared.rounding.Coords.{Coords}
use Rattle.at_query.specs.declared.query.queries.Query.{Query}
use Rattle.at_query.specs.declared.answer.parts.Part.{Part}
use Rattle.at_query.specs.Keeping.{Asked as JsonAsked}
use Rattle.at_seq.specs.Sequences.{HasSeqFault}
use Rattle.at_seq.specs.Answers.{IsSeqPart}
use Rattle.at_run.specs.declared.forms.Form.{Form}
use Rattle.at_run.specs.declared.forms.Form.TheVariants.{Seq}
use Rattle.at_run.specs.declared.readers.FileFragment.{FileFragment}
use Rattle.at_run.specs.declared.readers.FileFragment.TheVariants.{Unread}
use Rattle.at_run.specs.Files.{HasFileFaultIn}
use Rattle.at_run.specs.Answers.{IsFilePart}
use Rattle.at_run.specs.Readers.{Asks, of_json, StandsInForm}

-- what a file of the form ends in
abbrev pub Ends : Form → ℕ → Coords → Query → List ℕ → Result Part Refusal → Type 0
Ends form digits how query bytes end = MatchResult end (IsFilePart form digits how query bytes) (λ e. IfFound e (λ fault. HasFileFaultIn form digits how bytes (Some fault)))

pub sequence_ended : (digits : ℕ) (how : Coords) (query : Query) (bytes : List ℕ) (end : Result Part Refusal) → MatchResult end (IsSeqPart digits how query bytes) (λ e. IfFound e (λ fault. HasSeqFault digits how bytes (Some fault)))
    → Ends Seq digits how query bytes end
sequence_ended digits how query bytes (Ok part) h = record { faultless = h.faultless; features = h.features; are_features = h.are_features; is_part = h.is_part }
sequence_ended digits how query bytes (Err e) h = h

-- of a file that is said to be a sequence
pub ended_in_form : (form : Form) (digits : ℕ) (how : Coords) (query : Query) (bytes : List ℕ) (end : Result Part Refusal) → form ≡ Seq
    → MatchResult end (IsSeqPart digits how query bytes) (λ e. IfFound e (λ fault. HasSeqFault digits how bytes (Some fault))) → Ends form digits how query bytes end
ended_in_form form digits how query bytes end is h = rw is (sequence_ended digits how query bytes end h)

-- of one of which nothing is read yet
pub unread_whole : (asks : Asks) (asked : JsonAsked) (bytes : List ℕ) (from to : ℕ) (whole : FileFragment) (told : Result Part Refusal) → whole ≡ Unread → asked ≡ of_json asks → StandsAt (StandsInForm asks) bytes from to whole
    → Ends Seq asked.digits asked.how asked.query bytes told → Ends asks.form asks.digits asks.how asks.query bytes told
unread_whole asks asked bytes from to whole told is same h ends = let form = rw is at h in rw form (rw same at ends)
