use Rattle.std.specs.Prelude.{FitsSigned, All}
use Rattle.std.specs.Int.{w128, int_wrap}
use Rattle.std.proofs.Common.{◌≡◌, ◌∷◌, ◌-ℤ◌, map, ap, sym, subst, ◌∙◌, rules}
use Rattle.std.proofs.lemmas.Int.{to_z-of_z}
use Rattle.at_geom.specs.Segments.{IsInRange}
use Rattle.at_geom.specs.Regions.{sum_of, wrapped_ring_size, wrapped_area_of_rings}
use Rattle.at_geom.proofs.Elements.{head_of_all, tail_of_all}
use Rattle.at_geom.proofs.Shoelace.{wrapped-area_of_rings}
use Rattle.at_geom.proofs.areas.doubled_area.Goals as goal

pub ring_size-requires : goal.ring_size-requires
ring_size-requires c = subst (All IsInRange) (sym c.as_slice-2.ensures) (head_of_all (All IsInRange) (sym c.as_slice.ensures ∙ c.in-Some.ensures.cases.0) c.requires)

pub without_holes-requires : goal.without_holes-requires
without_holes-requires c = tail_of_all (All IsInRange) (sym c.as_slice.ensures ∙ c.in-Some.ensures.cases.0) c.requires

pub returns-clause-exact : goal.returns-clause-exact
returns-clause-exact c few =
    let (f, g) : FitsSigned w128 c.without_holes.result × FitsSigned w128 c.ring_size.result = search rules in
    let parts = sym c.as_slice.ensures ∙ c.in-Some.ensures.cases.0 in
    let e : c.without_holes.result ≡ wrapped_area_of_rings (c.in-Some.exterior.now ∷ c.in-Some.holes.now) =
    (simp to_z-of_z at c.without_holes.ensures) ∙ ap (λ z. int_wrap w128 (z -ℤ sum_of (map wrapped_ring_size c.in-Some.holes.now))) (c.ring_size.ensures ∙ ap wrapped_ring_size c.as_slice-2.ensures) in
    simp to_z-of_z (e ∙ (ap wrapped_area_of_rings (sym parts) ∙ wrapped-area_of_rings c.args.polygon.now.rings c.requires few))
