use Rattle.std.proofs.Common.{◌≡◌, ◌+◌, ◌-◌, ◌<◌, ◌≤◌, ◌^◌, ◌∙◌, length, sym, ap, subst, arith}
use Rattle.std.specs.List.{AllZip, range_with_len}
use Rattle.std.specs.List.Sorted.{IsNonDecreasing}
use Rattle.rayon.specs.Numbers.{nat_range}
use Rattle.rayon.proofs.ListFacts.{IfOk-then}
use Rattle.rayon.proofs.ToStd.{nat_range-All}
use Rattle.at_blocks.specs.Places.{last_place}
use Rattle.bench_blocks.specs.Fragments.{IsFragment}
use Rattle.bench_blocks.proofs.blocks.fragments.Goals as goal

pub collect-requires-clause-ready : goal.collect-requires-clause-ready
collect-requires-clause-ready g c κs within =
    let ends = c.into_par_iter.ensures in
    let places = c.args.places.now in
    let bytes = c.args.bytes.now in
    let inside = nat_range-All (λ i. (i + 1 < length places) × IsNonDecreasing places × (last_place places ≤ length bytes) × (length bytes ≤ 2 ^ 28)) 0 (length places - 1)
    (λ i low high. (omega arith, c.requires.order, c.requires.within, c.requires.short)) in
    rw (c.map.ensures.base, c.map.ensures.f, c.with_min_len.ensures.base, ends.0, ends.1) (λ k d lt. (inside k d lt, λ y p. tt))

pub returns : goal.returns
returns g c =
    let ends = c.into_par_iter.ensures in
    let n = length c.args.places.now - 1 in
    let whole : n - 0 ≡ n = omega arith in
    let Is = IsFragment (g.P.Pieces.stands c.args.reader.now) c.args.bytes.now c.args.places.now in
    IfOk-then c.collect.result _ _ c.collect.ensures (λ v h.
    let chain = rw (c.map.ensures.base, c.map.ensures.f, c.with_min_len.ensures.base) at h.1 in
    let range = chain.1 ∙ (λ i. nat_range (ends.0 i) (ends.1 i)) ∙ ap (range_with_len 0) whole in
    subst (λ w. AllZip Is w v.items) range (subst (λ w. AllZip Is chain.0 w) (sym h.2) chain.2))
