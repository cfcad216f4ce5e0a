use Rattle.std.proofs.Common.{◌++◌, sym, subst, ap, ◌∙◌}
use Rattle.at_query.specs.Parts.{AreProper}
use Rattle.at_join.specs.Cells.{spread_of}
use Rattle.at_join.specs.Sides.{spread_onto}
use Rattle.at_join.proofs.Spreads.{joint_is}
use Rattle.at_join.proofs.grid.Grid.new.Goals as goal

pub invariant_of-result : goal.invariant_of-result
invariant_of-result c =
    let ea = c.in_ok-a.ensures.entries in
    let eb = c.in_ok-b.ensures.entries in
    let of_b = c.spread.ensures ∙ ap (spread_onto _) c.as_slice.ensures in
    let of_a = c.spread-joint.ensures ∙ ap (spread_onto c.spread.result) c.as_slice-2.ensures in
    record {
      of_first = c.in_ok-a.ensures.side;
      of_second = c.in_ok-b.ensures.side;
      first = subst AreProper (sym ea) c.requires.first;
      second = subst AreProper (sym eb) c.requires.second;
      joint = joint_is c.args.a c.args.b c.spread-joint.result c.spread.result of_b of_a ∙ ap (λ l. spread_of (l ++ c.args.b)) (sym ea) ∙ ap (λ l. spread_of (c.in_ok-a.a.entries ++ l)) (sym eb);
    }
