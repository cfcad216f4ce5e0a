use Rattle.std.proofs.Common.{refl, ◌∙◌, ap}
use Rattle.at_geojson.specs.declared.atoms.atom.Areas.{Areas}
use Rattle.at_geojson.specs.Gathering.{firsts, area_fault}
use Rattle.at_geojson.proofs.coordinates.kinds.areas_atom.Goals as goal

pub returns : goal.returns
returns c = let e = c.in_ok-new.ensures.ok in record {
  atom = record { at = c.args.at; least = c.args.least; areas = c.in_ok-new.field-0 };
  result_is = refl;
  at_is = refl;
  least_is = refl;
  polygons = ap (λ (a : Areas). a.polygons.items) e ∙ c.in_ok-polygons.ensures;
  fault = ap (λ (a : Areas). a.fault) e ∙ (c.areas_fault-fault.ensures ∙ ap (firsts area_fault) c.as_slice.ensures.value);
}
