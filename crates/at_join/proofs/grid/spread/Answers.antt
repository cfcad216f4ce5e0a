use Rattle.std.proofs.Common.{◌≡◌, ◌+◌, ◌-◌, ◌<◌, length, drop, sym, ap, arith, ◌∙◌}
use Rattle.at_query.specs.Joined.{around_both}
use Rattle.at_join.specs.Sides.{spread_onto}
use Rattle.at_join.proofs.Spreads.{onto_last}
use Rattle.at_join.proofs.grid.spread.Goals as goal

pub loop-left-preserved : goal.loop-left-preserved
loop-left-preserved c =
    let i = c.loop-left.invariant in
    let es = c.args.entries.now in
    let n = c.loop-left.left - 1 in
    let lt : n < length es = omega (arith, i.within, c.loop-left-test.true) in
    let up : c.loop-left.left ≡ n + 1 = omega (arith, c.loop-left-test.true) in
    record {
      within = omega (arith, i.within);
      joint = c.wider-joint.ensures ∙ ap (around_both _) (i.joint ∙ ap (λ k. spread_onto c.args.start (drop k es)) up) ∙ sym (onto_last c.args.start es n _ lt);
    }
