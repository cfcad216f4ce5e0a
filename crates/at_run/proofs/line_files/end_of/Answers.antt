use Rattle.std.proofs.Common.{◌≡◌, List, ℕ, Option, Some, None, Result, Ok, Err, MatchResult, refl}
use Rattle.std.specs.Option.{unwrap_or}
use Rattle.at_text.specs.declared.faults.Fault.{Fault}
use Rattle.at_text.specs.Texts.{utf8_fault}
use Rattle.at_wkt.specs.Lines.{lines_of}
use Rattle.at_query.specs.declared.query.queries.Query.{Query}
use Rattle.at_query.specs.declared.features.Feature.{Feature}
use Rattle.at_query.specs.declared.answer.parts.Part.{Part}
use Rattle.at_query.specs.declared.answer.accumulators.Accumulator.{Accumulator}
use Rattle.at_query.specs.Parts.{IsPart}
use Rattle.at_query.specs.Accumulators.{IsAccumulated}
use Rattle.at_text.specs.declared.refusals.Refusal.{Refusal}
use Rattle.at_text.specs.declared.refusals.Refusal.TheVariants.{Memory}
use Rattle.at_run.specs.declared.forms.Form.TheVariants.{Wkt}
use Rattle.at_query.specs.declared.answer.gathered.Gathered.TheVariants.{Kept, Failed}
use Rattle.at_run.specs.LineFaults.{HasLinesFault}
use Rattle.at_run.specs.Gathering.{Asked, IsGathered}
use Rattle.at_text.specs.Refusals.{IfFound}
use Rattle.at_run.specs.Answers.{IsFilePart}
use Rattle.at_run.proofs.ValidLines.{file_valid, lines_valid}
use Rattle.at_run.proofs.line_files.end_of.Goals as goal

lines_end : (asked : Asked) (bytes : List ℕ) (kept : Accumulator) (end : Result Part Refusal) → IsGathered asked (Kept kept) (lines_of bytes)
    → MatchResult end (λ part. (query : Query) (fs : List Feature) → IsAccumulated query fs kept → IsPart query fs part) (λ e. e ≡ Memory)
    → MatchResult end (IsFilePart Wkt asked.digits asked.how asked.query bytes) (λ e. IfFound e (λ fault. HasLinesFault asked.digits asked.how bytes (Some fault)))
lines_end asked bytes kept (Ok part) (valid, first, (features, are, is)) becomes =
    record {
      faultless = rw (file_valid bytes valid) (first.faults, first.have, first.first_is);
      features = features;
      are_features = are;
      is_part = becomes asked.query features is;
    }
lines_end asked bytes kept (Err end) h e = rw e tt

lines_fault : (asked : Asked) (bytes : List ℕ) (fault : Fault) (found : Option Fault) → found ≡ utf8_fault bytes → IsGathered asked (Failed fault) (lines_of bytes) → HasLinesFault asked.digits asked.how bytes (Some (unwrap_or found fault))
lines_fault asked bytes fault None e h =
    let first = h (lines_valid bytes e) in
    rw (← e) (first.faults, first.have, first.first_is)
lines_fault asked bytes fault (Some encoding) e h = rw (← e) refl

pub returns-in_ok-into_part-in-Kept : goal.returns-in_ok-into_part-in-Kept
returns-in_ok-into_part-in-Kept c asked h =
    lines_end asked c.args.bytes.now c.in-Kept.kept (Ok c.in_ok-into_part-in-Kept.field-0) (rw c.in-Kept.is at h) c.in_ok-into_part-in-Kept.ensures.part

pub returns-in-Failed : goal.returns-in-Failed
returns-in-Failed c asked h =
    rw c.unwrap_or.ensures (lines_fault asked c.args.bytes.now c.in-Failed.fault c.utf8_fault.result c.utf8_fault.ensures (rw c.in-Failed.is at h))
