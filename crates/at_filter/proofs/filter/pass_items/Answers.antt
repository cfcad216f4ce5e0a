use Rattle.std.proofs.Common.{◌≡◌, ◌+◌, ◌-◌, ◌≤◌, ◌++◌, refl, ap, ◌∙◌, subst, arith, length, take, drop, slice_set}
use Rattle.std.proofs.lemmas.List.{length-set, length-drop, take_rest}
use Rattle.at_filter.specs.declared.filter.Filter.TheVariants.{Items}
use Rattle.at_filter.specs.Filters.{filtered, seen_behind}
use Rattle.at_filter.proofs.Filtering.{passed_on, seen_on}
use Rattle.at_filter.proofs.filter.pass_items.Goals as goal

pub loop-at-preserved : goal.loop-at-preserved
loop-at-preserved c =
    let xs = c.loop-at.bytes in
    let i = c.loop-at.at in
    let k = c.skipped-at.result in
    let y = c.passed_of_items.result in
    let next = c.next_seen-seen.result in
    let ys = slice_set xs i y in
    let less = c.loop-at-test.true in
    let whole = take_rest ys (i + 1) in
    let long : length ys ≡ length xs = length-set xs i y in
    let skips = subst (λ w. filtered Items next w ≡ take k w ++ filtered Items next (drop k w)) whole c.skipped-at.ensures.bytes in
    let sees = subst (λ w. seen_behind Items next w ≡ seen_behind Items next (drop k w)) whole c.skipped-at.ensures.seen in
    let fits : k ≤ length ys - (i + 1) = subst (λ n. k ≤ n) (ap length whole ∙ length-drop (i + 1) ys) c.skipped-at.ensures.within in (
      passed_on c.loop-at.seen next xs ys _ i k y less c.passed_of_items.ensures c.next_seen-seen.ensures refl c.loop-at.invariant.0 skips,
      seen_on c.loop-at.seen next _ xs ys i k y less c.next_seen-seen.ensures refl c.loop-at.invariant.1 sees,
      omega (arith, fits, long, less),
      long ∙ c.loop-at.invariant.3,
    )
