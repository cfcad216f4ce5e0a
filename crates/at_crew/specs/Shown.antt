-- What contracts see of a crew, of its chief and passes, and of its end.
use Rattle.std.specs.Prelude.{◌≡◌, ℕ, List, Option, None, Bool, true, false}
use Rattle.at_crew.specs.declared.job.Job.{Ghosts}
use Rattle.at_crew.specs.declared.crew.Crew.{Crew}
use Rattle.at_crew.specs.declared.crew.Closed.{Closed}
use Rattle.at_crew.specs.declared.chief.Chief.{Chief}
use Rattle.at_crew.specs.declared.pass.Pass.{Pass}
use Rattle.at_crew.specs.Views.{claimed, merged, HasFacts, LedBy}

module _ {J P F : Type 0} where
  -- the job that the crew was made for, and the number of its blocks
  abbrev pub job_of : Crew J P F → J
  job_of crew = crew.table.shared.key

  abbrev pub blocks_of : Crew J P F → ℕ
  blocks_of crew = crew.blocks

  -- the lists of all passes, at the end
  abbrev pub all_claimed : Closed J P F → List ℕ
  all_claimed closed = claimed closed.lists.value.me.0

  abbrev pub all_merged : Closed J P F → List ℕ
  all_merged closed = merged closed.lists.value.me.0

module _ {J P F : Type 0} {g : Ghosts J P F} where
  -- a pass's number, the block that it holds, the number that it fetched last, and whether it is over
  abbrev pub pass_number : Pass J P F g → ℕ
  pass_number pass = pass.number

  abbrev pub block_held : Pass J P F g → Option ℕ
  block_held pass = pass.holding

  abbrev pub last_number : Pass J P F g → Option ℕ
  last_number pass = pass.last

  abbrev pub has_ended : Pass J P F g → Bool
  has_ended pass = pass.over

  -- the blocks that a pass claimed, and the nodes that it merged, in order
  abbrev pub blocks_claimed : Pass J P F g → List ℕ
  blocks_claimed pass = claimed pass.seat.me.0

  abbrev pub nodes_merged : Pass J P F g → List ℕ
  nodes_merged pass = merged pass.seat.me.0

  -- the pass is one of this crew's
  abbrev pub IsPassOf : Crew J P F → Pass J P F g → Type 0
  IsPassOf crew pass = (pass.seat.table_id ≡ crew.table.shared.table_id)
      × HasFacts (g.facts (job_of crew)) pass.seat.me.0

  -- a pass of this crew that holds nothing and isn't over, and one that is over
  abbrev pub IsReady : Crew J P F → Pass J P F g → Type 0
  IsReady crew pass = IsPassOf crew pass × (block_held pass ≡ None) × (has_ended pass ≡ false)

  abbrev pub IsDone : Crew J P F → Pass J P F g → Type 0
  IsDone crew pass = IsPassOf crew pass × (has_ended pass ≡ true)

  -- how many passes a chief may make, made, and made and has not taken back
  abbrev pub passes_allowed : Chief J P F g → ℕ
  passes_allowed chief = chief.passes

  abbrev pub passes_made : Chief J P F g → ℕ
  passes_made chief = chief.made

  abbrev pub passes_away : Chief J P F g → ℕ
  passes_away chief = chief.away

  -- the lists of the passes that it took back, one behind the other
  abbrev pub blocks_gathered : Chief J P F g → List ℕ
  blocks_gathered chief = claimed chief.seat.me.0

  abbrev pub nodes_gathered : Chief J P F g → List ℕ
  nodes_gathered chief = merged chief.seat.me.0

  -- the chief is this crew's
  abbrev pub IsChiefOf : Crew J P F → Chief J P F g → Type 0
  IsChiefOf crew chief = (chief.seat.table_id ≡ crew.table.shared.table_id)
      × LedBy (g.facts (job_of crew)) chief.seat.me.0
