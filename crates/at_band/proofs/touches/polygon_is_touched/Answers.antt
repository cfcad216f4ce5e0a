use Rattle.std.proofs.Common.{sym, subst, ◌∙◌}
use Rattle.std.specs.Prelude.{All}
use Rattle.at_geom.specs.Segments.{IsInRange}
use Rattle.at_geom.proofs.Elements.{head_of_all, tail_of_all}
use Rattle.at_band.specs.Touched.{IsOnRings}
use Rattle.at_band.proofs.touches.polygon_is_touched.Goals as goal

pub rings_are_touched-requires : goal.rings_are_touched-requires
rings_are_touched-requires c =
    let parts = sym c.as_slice.ensures ∙ c.in-Some.ensures.cases.0 in
    record {
      p_in_range = c.requires.p_in_range;
      exterior_in_range = subst (All IsInRange) (sym c.as_slice-2.ensures) (head_of_all (All IsInRange) parts c.requires.polygon_in_range);
      holes_in_range = tail_of_all (All IsInRange) parts c.requires.polygon_in_range;
    }

pub returns : goal.returns
returns c =
    let whole = sym c.as_slice.ensures ∙ c.in-Some.ensures.cases.0 in
    let said = rw c.as_slice-2.ensures at c.rings_are_touched.ensures in
    (λ t. subst (IsOnRings c.args.p) (sym whole) (said.0 t), λ m. said.1 (subst (IsOnRings c.args.p) whole m))
