use Rattle.std.proofs.Common.{sym, subst, ◌∙◌}
use Rattle.at_geom.specs.declared.shapes.Shape.{Shape}
use Rattle.at_band.specs.Banded.{AreZonesOf}
use Rattle.at_band.proofs.bands.Bands.new.Goals as goal

pub invariant_of-result-2 : goal.invariant_of-result-2
invariant_of-result-2 c =
    subst (λ (s : Shape). AreZonesOf s (record { around = c.in-Some.around; reach = c.reach.result; is_closed = c.are_closed.result }) c.in_ok-zones.zones.items) (sym c.in_ok-kept.ensures) (record {
      framed = record {
        extent_is = sym c.extent.ensures ∙ c.in-Some.is;
        reached = c.reach.ensures;
        closed = rw c.as_slice.ensures at c.are_closed.ensures;
      };
      kept = c.in_ok-zones.ensures.kept;
      covering = c.in_ok-zones.ensures.covering;
    })
