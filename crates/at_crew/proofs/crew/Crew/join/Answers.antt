use Rattle.std.proofs.Common.{◌∙◌, ◌+◌, ◌*◌, ◌/◌, ◌%◌, ◌==◌}
use Rattle.at_crew.specs.Nodes.{first_of, end_of}
use Rattle.at_crew.specs.Seats.{children}
use Rattle.at_crew.proofs.Told.{neighbours, full_carried}
use Rattle.at_crew.proofs.crew.Crew.join.Goals as goal

pub merge-requires : goal.merge-requires
merge-requires g c = let r = c.take_children-a.result in
    let n = neighbours g.J.Job.stands (g.J.Job.facts c.args.merger.now.job.now) c.args.self.now.blocks c.args.height (c.args.node / 2) c.requires.node.0 c.requires.node.1 (c.args.node % 2 == 0) c.args.seat.now.me.1 c.requires.two r.0 r.1 (g.J.Job.count (g.J.Job.facts c.args.merger.now.job.now)) c.requires.count
    (c.take_children-a.ensures.two ∙ (λ i. children (c.args.node % 2 == 0) (c.slot-left.ensures i) (c.slot-right.ensures i) r.0 r.1)) in
    (first_of c.args.self.now.blocks (c.args.height + 1) (c.args.node / 2), first_of c.args.self.now.blocks c.args.height (2 * (c.args.node / 2) + 1), end_of c.args.self.now.blocks (c.args.height + 1) (c.args.node / 2), n.0, n.1, n.2)

pub returns-clause-part : goal.returns-clause-part
returns-clause-part g c = let r = c.take_children-a.result in
    let n = neighbours g.J.Job.stands (g.J.Job.facts c.args.merger.now.job.now) c.args.self.now.blocks c.args.height (c.args.node / 2) c.requires.node.0 c.requires.node.1 (c.args.node % 2 == 0) c.args.seat.now.me.1 c.requires.two r.0 r.1 (g.J.Job.count (g.J.Job.facts c.args.merger.now.job.now)) c.requires.count
    (c.take_children-a.ensures.two ∙ (λ i. children (c.args.node % 2 == 0) (c.slot-left.ensures i) (c.slot-right.ensures i) r.0 r.1)) in (
      c.merge.result,
      full_carried c.args.self.now.blocks c.args.height (c.args.node / 2) c.merge.result c.slot-left.result c.slot-right.result c.put.new.seat.me.1 c.slot-left.ensures c.slot-right.ensures c.put.ensures.full,
      c.merge.ensures (first_of c.args.self.now.blocks (c.args.height + 1) (c.args.node / 2)) (first_of c.args.self.now.blocks c.args.height (2 * (c.args.node / 2) + 1)) (end_of c.args.self.now.blocks (c.args.height + 1) (c.args.node / 2)) n.0 n.1 n.2,
    )
