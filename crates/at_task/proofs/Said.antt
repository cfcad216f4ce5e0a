-- What is said of the bytes of a feed, of each answer.
-- For the poll of `Feed` and `run_feed`.
use Rattle.std.proofs.Common.{ℕ, List, Result, Ok, Err, Some, IfOk}
use Rattle.at_query.specs.declared.answer.parts.Part.{Part}
use Rattle.at_run.specs.Readers.{Asks}
use Rattle.at_run.proofs.OneAnswer.{the_file_fault_in}
use Rattle.at_task.specs.declared.ends.FeedEnd.{FeedEnd}
use Rattle.at_task.specs.declared.ends.FeedEnd.TheVariants.{Found}
use Rattle.at_task.specs.FeedEnds.{IsFed, IsFeedEnd, IsBytesPart, IsOnlyEnd}

module _ (asks : Asks) (bytes : List ℕ) where
  -- a part that is given, beside another fact
  pub part_beside : (W : Type 0) (out : Result Part FeedEnd) → W → IsFed asks bytes out → IfOk out (λ part. W × IsBytesPart asks bytes part)
  part_beside W (Ok part) w h = (w, h)
  part_beside W (Err end) w h = tt

  -- a fault that is found is the only first one
  pub only_end : (end : FeedEnd) → IsFeedEnd asks bytes end → IsOnlyEnd asks bytes (Err end)
  only_end (Found fault) h = the_file_fault_in asks.form asks.digits asks.how bytes (Some fault) h.1
  only_end _ h = tt
