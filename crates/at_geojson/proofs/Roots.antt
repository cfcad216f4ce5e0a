-- What an atom ends in as a whole text is the answer of each tree for which it stands.
-- For `root_part`.
use Rattle.std.proofs.Common.{◌≡◌, ℕ, [], ◌++◌, Option, Some, None, Result, Ok, Err, refl, sym, ◌∙◌, ap, subst}
use Rattle.at_text.specs.Faults.{first_of, fault_at}
use Rattle.at_text.specs.declared.faults.Fault.{Fault}
use Rattle.at_text.specs.declared.faults.FaultKind.TheVariants.{Form}
use Rattle.at_geom.specs.declared.shapes.Shape.{Shape}
use Rattle.at_nest.specs.Tree.{Tree}
use Rattle.at_nest.specs.Twins.{twins_of}
use Rattle.at_query.specs.declared.answer.parts.Part.{Part}
use Rattle.at_query.specs.Parts.{IsPart}
use Rattle.at_query.specs.Keeping.{Asked, asked_texts}
use Rattle.at_query.proofs.QueryFacts.{same_part}
use Rattle.at_geojson.specs.declared.atoms.atom.GeoAtom.{GeoAtom}
use Rattle.at_geojson.specs.declared.atoms.atom.Role.{Role}
use Rattle.at_geojson.specs.declared.atoms.atom.Role.TheVariants as roles
use Rattle.at_text.specs.declared.refusals.Refusal.{Refusal}
use Rattle.at_text.specs.declared.refusals.Refusal.TheVariants.{Found, Memory}
use Rattle.at_geojson.specs.Roles.{Features, root_reading}
use Rattle.at_geojson.specs.Atoms.{twin_of, at_of, role_of, HasPart, IsRoot, IsFold}
use Rattle.at_geojson.specs.Ends.{EndsGeometry, EndsRole, EndsBy, EndsAtom}
use Rattle.at_geojson.specs.Wholes.{faults_of, IsAnswer, found_end}
use Rattle.at_geojson.proofs.Firsts.{none_first}
use Rattle.at_geojson.proofs.Tiers.{twins_first}

module _ (asked : Asked) (t : Tree) where
  abbrev root : Features
  root = root_reading asked.digits asked.how t

  -- where no names are equal
  module _ (none : twins_of t ≡ []) where
    same_faults : faults_of asked.digits asked.how t ≡ root.faults
    same_faults = ap (λ fs. fs ++ root.faults) none

    faulty : (fault : Fault) (end : Result Part Refusal) → first_of root.faults ≡ Some fault → end ≡ Err (Found fault) → IsAnswer asked t end
    faulty fault end e q = subst (IsAnswer asked t) (sym q) (ap first_of same_faults ∙ e)

    found_answer : (p : Result Part Fault) (end : Result Part Refusal) → HasPart asked.query p root → end ≡ found_end p → IsAnswer asked t end
    found_answer (Ok part) end h q = subst (IsAnswer asked t) (sym q) (same_faults ∙ h.0, h.1)
    found_answer (Err fault) end h q = faulty fault end h q

    lone_answer : (at : ℕ) (shape : Shape) (end : Result Part Refusal) → IsRoot asked at (roles.Geometry (Ok shape)) t → EndsGeometry asked.query at (Ok shape) end → IsAnswer asked t end
    lone_answer at shape (Ok part) (feature, e, i, s, n) h = (
      same_faults ∙ ap (λ (z : Features). z.faults) e,
      subst (λ (z : Features). IsPart asked.query z.features part) (sym e)
          (same_part asked.query feature (record { at = at; shape = shape; texts = [] }) (sym i) s (sym (ap (asked_texts asked.query.tests) n)) part h),
    )
    lone_answer at shape (Err Memory) r h = tt
    lone_answer at shape (Err (Found fault)) r h = absurd h

    role_answer : (at : ℕ) (role : Role) (end : Result Part Refusal) → IsRoot asked at role t → EndsRole asked.query at role end → IsAnswer asked t end
    role_answer at roles.Nothing end r h = faulty (fault_at Form at) end (ap first_of r) h
    role_answer at (roles.Geometry (Ok shape)) end r h = lone_answer at shape end r h
    role_answer at (roles.Geometry (Err fault)) end r h = faulty fault end r h
    role_answer at (roles.Feature p) end r h = found_answer p end r h
    role_answer at (roles.Collection p) end r h = found_answer p end r h

  pub is_answer : (a : GeoAtom) (end : Result Part Refusal) → EndsAtom asked.query a end → IsFold asked a t → IsAnswer asked t end
  is_answer a end h fold = go (twin_of a) refl h where
    go : (o : Option Fault) → twin_of a ≡ o → EndsBy asked.query o (at_of a) (role_of a) end → IsAnswer asked t end
    go (Some fault) e q = subst (IsAnswer asked t) (sym q) (twins_first asked.digits asked.how t fault (sym fold.twins ∙ e))
    go None e q = role_answer (none_first (twins_of t) (sym fold.twins ∙ e)) (at_of a) (role_of a) end (fold.read e).object.root q
