use Rattle.std.proofs.Common.{◌≡◌}
use Rattle.at_crew.specs.Nodes.{above, ancestors}
use Rattle.at_crew.specs.Views.{rests, adds}
use Rattle.at_crew.specs.Seats.{Bears}
use Rattle.at_crew.proofs.crew.Crew.climb.Given as goal

-- the seat bears the node that lies so high above the leaf, and has merged those up to it
abbrev pub invariant-loop-node : goal.invariant-loop-node
invariant-loop-node g l = record {
  of : l.seat.table_id ≡ l.fn.self.table.shared.table_id;
  bears : Bears g.J.Job.stands (g.J.Job.facts l.fn.merger.job.now) l.fn.self.blocks l.seat.me l.node l.height;
  node : l.node ≡ above l.leaf l.height;
  merged : rests l.seat.me.0 ≡ adds (ancestors l.leaf l.height) (rests l.fn.seat.me.0);
}

abbrev pub decreases-loop-node : goal.decreases-loop-node
decreases-loop-node g l = l.node
