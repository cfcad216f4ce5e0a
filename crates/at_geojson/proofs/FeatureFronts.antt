-- What a feature gives where it is the whole text, by the atom that would keep its part.
-- For `feature_front`.
use Rattle.std.proofs.Common.{◌≡◌, ℕ, List, refl, sym, ◌∙◌, subst, Result}
use Rattle.std.specs.declared.alloc.Global.{Global}
use Rattle.at_text.specs.declared.faults.Fault.{Fault}
use Rattle.at_query.specs.declared.answer.parts.Part.{Part}
use Rattle.at_query.specs.Keeping.{Asked}
use Rattle.at_geojson.specs.declared.atoms.atom.GeoAtom.TheVariants as atoms
use Rattle.at_geojson.specs.declared.at_once.features.FeatureRead.{FeatureRead}
use Rattle.at_geojson.specs.declared.root.FeatureFront.{FeatureFront}
use Rattle.at_geojson.specs.Features.{IsFeatureRead}
use Rattle.at_geojson.specs.Wholes.{IsAnswer, IsFeatureFront, found_end}
use Rattle.at_geojson.proofs.FeatureJoins.{atom_of, whole}
use Rattle.at_geojson.proofs.Roots.{is_answer}
use Rattle.at_geojson.proofs.ValueParts.{attempt_of}

module _ (asked : Asked) (base : ℕ) (w : List ℕ) (alloc : Global) where
  pub front_told : (p : FeatureRead) (front : FeatureFront) → front.len ≡ p.end → front.part ≡ p.part → IsFeatureRead asked base w 0 p → IsFeatureFront asked base w front
  front_told p front len part r =
      let o = atom_of asked base w alloc 0 p r.texts in
      let (text, behind, split, size, tree, spells, own, fold) = attempt_of asked base w (record { end = p.end; atom = atoms.Object o }) (whole asked base w alloc 0 p r) in
      let P : Result Part Fault → Type 0 = λ z. IsAnswer asked tree (found_end z) in
      record {
        text = text;
        behind = behind;
        split = split;
        len = len ∙ size;
        tree = tree;
        spells = spells;
        answer = subst P (sym part) (is_answer asked tree (atoms.Object o) (found_end p.part) refl fold);
      }
