use Rattle.std.proofs.Common.{◌≡◌, ℕ, ◌+◌, ◌-◌, ◌≤◌, ◌^◌, ◌++◌, false, List, length, vec_len}
use Rattle.futures.specs.Task.{Keeps}
use Rattle.at_task.specs.Ranking.{KeepsBytes}
use Rattle.at_task.proofs.drawing.draw.Given as goal

-- what was taken is behind what was taken before, and no byte is lost
abbrev pub invariant-loop-given : goal.invariant-loop-given
invariant-loop-given g l = let s = g.T.Chunks in record {
  short : length l.intake.taken ≤ 2 ^ 28;
  grown : length l.intake.taken ≡ length l.fn.intake.taken + l.grown;
  taken : (more : List ℕ) × (l.intake.taken ≡ l.fn.intake.taken ++ more);
  bytes : KeepsBytes l.fn.intake.taken (s.rest l.fn.source) l.intake.taken (s.rest l.source);
  asks : l.intake.asks ≡ l.fn.intake.asks;
  unkept : l.fn.intake.kept ≡ false → l.intake.kept ≡ false;
  wide : vec_len l.room ≡ 65536;
  counted : s.waits l.fn.source ≤ s.waits l.source;
  kept : Keeps l.fn.cx l.cx;
}

abbrev pub decreases-loop-given : goal.decreases-loop-given
decreases-loop-given g l = 2 ^ 28 - length l.intake.taken
