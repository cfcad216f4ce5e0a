use Rattle.std.proofs.Common.{rules, ◌∙◌, ◌+◌, ◌/◌, ◌^◌, ◌<◌, sym, ap, subst, arith}
use Rattle.at_crew.specs.Nodes.{ancestors}
use Rattle.at_crew.specs.Views.{HasFacts, held_of, adds, held_node, rests}
use Rattle.at_crew.proofs.Told.{parent_at, climbs_facts, above_more, ancestors_more, climbs_adds}
use Rattle.at_crew.proofs.Tree.{height_small}
use Rattle.at_crew.proofs.crew.Crew.climb.Goals as goal

pub returns-then-not-deposit-clause-few : goal.returns-then-not-deposit-clause-few
returns-then-not-deposit-clause-few g c = let b = c.loop-node.invariant.bears.3 in height_small c.args.self.now.blocks b.0 c.loop-node.height c.loop-node.node b.1 c.args.self.now.sized.3

pub join-requires-clause-node : goal.join-requires-clause-node
join-requires-clause-node g c = λ _ _. let b = c.loop-node.invariant.bears.3 in parent_at c.args.self.now.blocks b.0 c.loop-node.height c.loop-node.node b.1 c.loop-node-test.true

pub overflow_add-height : goal.overflow_add-height
overflow_add-height g c = let b = c.loop-node.invariant.bears.3 in let h = height_small c.args.self.now.blocks b.0 c.loop-node.height c.loop-node.node b.1 c.args.self.now.sized.3 in let q : c.loop-node.height + 1 < 2 ^ 32 = omega (arith, h) in search rules

pub loop-node-preserved : goal.loop-node-preserved
loop-node-preserved g c = let i = c.loop-node.invariant in let b = i.bears in let p = held_node (c.loop-node.node / 2) (c.loop-node.height + 1) in
    let at = parent_at c.args.self.now.blocks b.3.0 c.loop-node.height c.loop-node.node b.3.1 c.loop-node-test.true in
    let view = c.join.ensures.of.1 ∙ (c.deposit.ensures.second c.if-not-deposit.false).0 in let r = climbs_facts (g.J.Job.facts c.args.merger.now.job.now) p c.loop-node.seat.me.0 b.0 in record {
      of = c.join.ensures.of.0 ∙ c.deposit.ensures.of ∙ i.of;
      bears = (subst (λ w. HasFacts (g.J.Job.facts c.args.merger.now.job.now) w) (sym view) r.0, ap held_of view ∙ r.1, c.join.ensures.part, at);
      node = above_more c.args.leaf c.loop-node.height c.loop-node.node i.node;
      merged = ap rests view ∙ climbs_adds p c.loop-node.seat.me.0 c.args.seat.now.me.0 (ancestors c.args.leaf c.loop-node.height) i.merged ∙ ap (λ ns. adds ns (rests c.args.seat.now.me.0)) (ancestors_more c.args.leaf c.loop-node.height c.loop-node.node i.node);
    }

pub returns-clause-few : goal.returns-clause-few
returns-clause-few g c = let b = c.loop-node.invariant.bears.3 in height_small c.args.self.now.blocks b.0 c.loop-node.height c.loop-node.node b.1 c.args.self.now.sized.3
