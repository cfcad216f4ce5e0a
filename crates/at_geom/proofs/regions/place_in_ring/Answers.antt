use Rattle.std.proofs.Common.{Bool, not, cond, ap, sym, ◌∙◌, arith}
use Rattle.at_geom.specs.Regions.{is_odd_for}
use Rattle.at_geom.proofs.Elements.{all_edges}
use Rattle.at_geom.proofs.Crossings.{one_edge_on}
use Rattle.at_geom.proofs.regions.place_in_ring.Goals as goal
use Rattle.at_geom.proofs.regions.place_in_ring.Goals.{in-Crossed, in-Passed}

pub loop-to-init : goal.loop-to-init
loop-to-init c = record { on_edge = all_edges c.in-Some.ensures.cases.0 c.requires.ring_in_range; parity = ap (is_odd_for c.args.p) c.in-Some.ensures.cases.0 }

pub loop-to-preserved : goal.loop-to-preserved
loop-to-preserved c =
    let turned = λ (k : Bool). cond k (not c.loop-to.is_odd) c.loop-to.is_odd in
    elim c.match-place_at_edge.branch [
      | in-Crossed w ↦ one_edge_on _ c.loop-to.invariant (omega arith) w.in-Crossed.ensures.0 (w.is_odd-is ∙ sym (ap turned w.in-Crossed.ensures.1))
      | in-Passed w ↦ one_edge_on _ c.loop-to.invariant (omega arith) w.in-Passed.ensures.0 (w.is_odd-is ∙ sym (ap turned w.in-Passed.ensures.1))
    ]
