-- Why a feed gives no part, as why a file of its bytes has none.
use Rattle.at_text.specs.declared.refusals.Refusal.{Refusal}
use Rattle.at_text.specs.declared.refusals.Refusal.TheVariants.{Found, Memory}
use Rattle.at_task.specs.declared.ends.FeedEnd.{FeedEnd}
use Rattle.at_task.specs.declared.ends.FeedEnd.TheVariants as ends

abbrev pub file_end : Refusal → FeedEnd
file_end (Found fault) = ends.Found fault
file_end Memory = ends.Memory
