use Rattle.std.proofs.Common.{◌+◌, ◌<◌, ◌≤◌, length, arith, ◌∙◌}
use Rattle.std.specs.Prelude.{slice_index}
use Rattle.std.proofs.lemmas.List.{length-set, get_or_default}
use Rattle.at_blocks.proofs.MovedCuts.{moved_cuts, first_stays, last_stays}
use Rattle.at_blocks.proofs.cuts.Cuts.near_features.Goals as goal

pub loop-index-preserved : goal.loop-index-preserved
loop-index-preserved c =
    let xs = c.loop-index.places.items in
    let i = c.loop-index.index in
    let y = c.cut_between.result in
    let (cuts, first, last, long, within, end) = c.loop-index.invariant in
    let inside : i + 1 < length xs = omega (arith, c.loop-index-test.true, long, end) in
    let some = c.loop-index.auto.index in
    let here = get_or_default xs i c.index.result.now 0 (omega (arith, inside)) in
    let there = get_or_default xs (i + 1) c.index-in-loop-index.result.now 0 inside in
    let low : slice_index xs i ≤ y = omega (arith, c.cut_between.ensures.order, c.index.ensures, here) in
    let high : y ≤ slice_index xs (i + 1) = omega (arith, c.cut_between.ensures.within, c.index-in-loop-index.ensures, there) in
    (moved_cuts xs i y cuts inside low high, first_stays xs i y some ∙ first, last_stays xs i y (omega (arith, inside)) ∙ last, length-set xs i y ∙ long, within, end)
