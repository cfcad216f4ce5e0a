use Rattle.std.proofs.Common.{sym, subst, arith}
use Rattle.std.specs.Prelude.{All}
use Rattle.std.proofs.lemmas.Int.{ints}
use Rattle.std.proofs.lemmas.List.Elements.{All-push}
use Rattle.at_text.specs.Lists.{SomeOf}
use Rattle.at_band.specs.Banded.{IsAt, IsOrdered, IsWithin}
use Rattle.at_band.proofs.CutHeights.{covering_more, covering_next}
use Rattle.at_band.proofs.cuts.cut_heights.Goals as goal

pub loop-index-preserved : goal.loop-index-preserved
loop-index-preserved c =
    let parts = c.loop-index.parts.items in
    let next = c.next_heights-heights.result in
    let said = c.next_heights-heights.ensures in
    let held = c.loop-index.invariant in
    let is_ordered : IsOrdered next = said.ordered in
    let begins = said.begins in
    let above = held.above in record {
      ordered = subst (All IsOrdered) (sym c.in_ok-push.ensures.items) (All-push IsOrdered parts next held.ordered is_ordered);
      within = subst (All (IsWithin c.args.whole)) (sym c.in_ok-push.ensures.items) (All-push (IsWithin c.args.whole) parts next held.within (record { above = omega (arith, ints, begins, above); below = said.below }));
      above = omega (arith, ints, begins, above, is_ordered);
      below = said.below;
      covering = λ y h k. subst (SomeOf (IsAt y)) (sym c.in_ok-push.ensures.items) (covering_next c.args.whole.low c.loop-index.heights.high parts next begins held.covering y h k);
    }

pub returns-clause-covering : goal.returns-clause-covering
returns-clause-covering c =
    let ends = c.last_heights.ensures.ends in
    λ y h k. subst (SomeOf (IsAt y)) (sym c.in_ok-push-2.ensures.items) (covering_more c.args.whole.low c.loop-index.heights.high c.loop-index.parts.items c.last_heights.result c.last_heights.ensures.begins c.loop-index.invariant.covering y h (omega (arith, ints, k, ends)))
