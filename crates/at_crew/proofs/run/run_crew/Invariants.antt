use Rattle.std.proofs.Common.{◌≡◌, ◌≤◌, All, vec_len, vec_capacity}
use Rattle.at_crew.specs.Shown.{IsChiefOf, IsReady, IsDone, passes_allowed, passes_away, passes_made}
use Rattle.at_crew.proofs.run.run_crew.Given as goal

-- so many passes were made, and stand in the row
abbrev pub invariant-loop : goal.invariant-loop
invariant-loop g l = record {
  one_crew : IsChiefOf l.crew l.chief;
  allowed : passes_allowed l.chief ≡ l.fn.passes;
  made : passes_made l.chief ≡ l.counter;
  away : passes_away l.chief ≡ l.counter;
  row : vec_len l.row ≡ l.counter;
  room : l.fn.passes ≤ vec_capacity l.row;
  ready : All (IsReady l.crew) l.row.items;
}

-- those in the row are away
abbrev pub invariant-loop-pass : goal.invariant-loop-pass
invariant-loop-pass g l = record {
  one_crew : IsChiefOf l.crew l.chief;
  made : passes_made l.chief ≡ l.fn.passes;
  away : passes_away l.chief ≡ vec_len l.row;
  over : All (IsDone l.crew) l.row.items;
}

abbrev pub decreases-loop-pass : goal.decreases-loop-pass
decreases-loop-pass g l = goal.left-loop-pass g l
