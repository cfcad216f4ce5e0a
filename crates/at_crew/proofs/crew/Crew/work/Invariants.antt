use Rattle.std.proofs.Common.{◌≡◌}
use Rattle.at_crew.specs.Shown.{IsReady, pass_number}
use Rattle.at_crew.proofs.Rising.{left_to}
use Rattle.at_crew.proofs.crew.Crew.work.Given as goal

abbrev pub invariant-loop-block : goal.invariant-loop-block
invariant-loop-block g l = IsReady l.fn.self l.pass × (pass_number l.pass ≡ pass_number l.fn.pass)

-- the numbers that a pass fetches rise
abbrev pub decreases-loop-block : goal.decreases-loop-block
decreases-loop-block g l = left_to l.fn.self.blocks l.pass.last
