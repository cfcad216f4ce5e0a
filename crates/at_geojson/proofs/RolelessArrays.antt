-- An array that is passed over, of items that have no role and are no coordinates but numbers: there is an atom that stands
-- for it, though nothing makes it. For `value`.
use Rattle.std.proofs.Common.{◌≡◌, ℕ, ◌+◌, ◌<◌, ◌≤◌, inl, inr, List, [], ◌∷◌, ◌++◌, All, length, slice_index, Option, Some, None, refl, sym, ◌∙◌, ap, subst, arith}
use Rattle.std.proofs.lemmas.List.Elements.{All-nil, All-cons, All-head, All-tail, All-append}
use Rattle.at_text.specs.Faults.{first_fault}
use Rattle.at_nest.specs.Folds.{AreFolds}
use Rattle.at_nest.specs.Tree.{array, Trees}
use Rattle.at_query.specs.Keeping.{Asked}
use Rattle.at_geojson.specs.declared.atoms.atom.GeoAtom.{GeoAtom}
use Rattle.at_geojson.specs.declared.atoms.atom.GeoAtom.TheVariants as atoms
use Rattle.at_geojson.specs.declared.atoms.atom.Items.{Items}
use Rattle.at_geojson.specs.declared.atoms.sorts.Sort.{Sort}
use Rattle.at_geojson.specs.declared.atoms.sorts.Sort.TheVariants as sorts
use Rattle.at_geojson.specs.declared.coordinates.pairs.Whole.{Whole}
use Rattle.at_geojson.specs.Atoms.{at_of, role_of, role_geometry, role_item, as_run, twin_of, no_roles, IsOwn, IsFold}
use Rattle.at_geojson.specs.Gathering.{firsts, rank, sort_of, sort_of_all, are_all, least_of, pair_atom, seen}
use Rattle.at_geojson.specs.Arrays.{MakesItems, MakesNumbers}
use Rattle.at_geojson.specs.Members.{IsRoleless}
use Rattle.at_geojson.specs.Values.{IsItem, AreItemsRead, EndsArray}
use Rattle.at_geojson.specs.Features.{PassesPart, PassesArray}
use Rattle.at_geojson.proofs.Firsts.{firsts-cons}
use Rattle.at_geojson.proofs.SortFacts.{sort_few}
use Rattle.at_geojson.proofs.ProofOnly.{boxed}
use Rattle.at_geojson.proofs.OwnFolds.{pair_own}
use Rattle.at_geojson.proofs.MixedFolds.{IsForm, forms_all, mixed_folds}
use Rattle.at_geojson.proofs.ArrayReads.{twin_of_pair}
use Rattle.at_geojson.proofs.ArrayAnswers.{closes_each, numbers_fold}
use Rattle.at_geojson.proofs.ValueParts.{heap, items_begin, items_own, items_go_on, array_read}

no_twins : (items : List GeoAtom) → All IsRoleless items → firsts twin_of items ≡ None
no_twins [] plain = refl
no_twins (a ∷ aa) plain =
    firsts-cons twin_of a aa ∙ (ap (λ o. first_fault o (firsts twin_of aa)) (All-head IsRoleless a aa plain).no_twin ∙ no_twins aa (All-tail IsRoleless a aa plain))

-- such items are Form in both roles
forms : (items : List GeoAtom) → All IsRoleless items → All IsForm items
forms [] plain = All-nil IsForm
forms (a ∷ aa) plain = All-cons IsForm a aa (form (All-head IsRoleless a aa plain)) (forms aa (All-tail IsRoleless a aa plain)) where
  form : IsRoleless a → IsForm a
  form r = (
    ap (role_geometry (at_of a)) (sym r.no_role) ∙ ap (λ o. seen (role_geometry (at_of a) (role_of a)) (λ (items : Items). items.geometries) o) (sym r.single),
    ap (role_item (at_of a)) (sym r.no_role) ∙ ap (λ o. seen (role_item (at_of a) (role_of a)) (λ (items : Items). items.features) o) (sym r.single),
  )

-- all of them are numbers, or they are of no one sort
few_sorts : (items : List GeoAtom) → All IsRoleless items → rank (sort_of_all items) ≤ 1
few_sorts [] plain = omega arith
few_sorts (a ∷ aa) plain = sort_few a aa (All-head IsRoleless a aa plain).sort

module _ (asked : Asked) (at : ℕ) where
  -- the atom of an array of these items
  record IsAtomOf (items : List GeoAtom) : Type 0 where
    pub atom : GeoAtom
    pub own : IsOwn asked atom
    pub no_twin : twin_of atom ≡ None
    pub fold : (ts : Trees) → AreFolds (IsFold asked) items ts → IsFold asked atom (array at ts)

  module _ (a : GeoAtom) (aa : List GeoAtom) (own : All (IsOwn asked) (a ∷ aa)) (plain : All IsRoleless (a ∷ aa)) where
    abbrev items : List GeoAtom
    items = a ∷ aa

    -- Form of the least offset in both roles
    abbrev forms_atom : GeoAtom
    forms_atom = atoms.Items (record { at = at; items = boxed heap (no_roles (least_of items)) })

    makes : MakesItems asked at items forms_atom
    makes = inr (_, refl, refl, λ ts h. forms_all asked a aa ts h (forms items plain))

    numbers : (r : GeoAtom) → IsOwn asked r → twin_of r ≡ None → sort_of_all items ≡ sorts.Number → MakesNumbers asked at items r → IsAtomOf items
    numbers r o t e m = record { atom = r; own = o; no_twin = t; fold = λ ts h. numbers_fold asked at items (λ q. absurd (omega (arith, ap length q))) (no_twins items plain) r e m ts h }

    number : (o : Option GeoAtom) → pair_atom at (least_of items) items ≡ o → sort_of_all items ≡ sorts.Number → IsAtomOf items
    number (Some r) p e = numbers r (pair_own asked at (least_of items) items r own p) (twin_of_pair at (least_of items) items r p) e (inl p)
    number None p e = numbers forms_atom (tt, tt) refl e (inr (p, makes))

    atom_by : (s : Sort) → sort_of_all items ≡ s → rank s ≤ 1 → IsAtomOf items
    atom_by sorts.Number e few = number (pair_atom at (least_of items) items) refl e
    atom_by sorts.Other e few = record {
      atom = forms_atom;
      own = (tt, tt);
      no_twin = refl;
      fold = closes_each asked at items forms_atom (λ ts h. mixed_folds asked at items forms_atom (λ q. absurd (omega (arith, ap length q))) (no_twins items plain) (ap rank e) makes ts h);
    }
    atom_by sorts.Position e few = absurd (omega (arith, few))
    atom_by sorts.Points e few = absurd (omega (arith, few))
    atom_by sorts.Lists e few = absurd (omega (arith, few))

    atom_of : IsAtomOf items
    atom_of = atom_by (sort_of_all items) refl (few_sorts items plain)

  ends_with : (items : List GeoAtom) (b : GeoAtom) → All (IsOwn asked) (items ++ b ∷ []) → All IsRoleless (items ++ b ∷ []) → IsAtomOf (items ++ b ∷ [])
  ends_with [] b own plain = atom_of b [] own plain
  ends_with (a ∷ aa) b own plain = atom_of a (aa ++ b ∷ []) own plain

module _ (asked : Asked) (base : ℕ) (w : List ℕ) where
  -- between the items of an array that is passed over: those before the place were
  pub record ArePassed (at place : ℕ) : Type 0 where
    pub items : List GeoAtom
    pub read : AreItemsRead asked base w at place items
    pub plain : All IsRoleless items

  pub passing_begins : (at : ℕ) → at < length w → ArePassed at (at + 1)
  passing_begins at h = record { items = []; read = items_begin asked base w at h; plain = All-nil IsRoleless }

  module _ (at place end : ℕ) (order : at < place) (h : ArePassed at place) (part : PassesPart asked base w place end) (inside : end < length w) where
    plain_more : All IsRoleless (h.items ++ part.0 ∷ [])
    plain_more = All-append IsRoleless h.items (part.0 ∷ []) h.plain (All-cons IsRoleless part.0 [] part.2 (All-nil IsRoleless))

    pub passing_goes_on : slice_index w end ≡ 0x2C → ArePassed at (end + 1)
    passing_goes_on byte = record { items = h.items ++ part.0 ∷ []; read = items_go_on asked base w at place h.items (record { end = end; atom = part.0 }) order h.read part.1 inside byte; plain = plain_more }

    pub passing_ends : slice_index w at ≡ 0x5B → slice_index w end ≡ 0x5D → PassesArray asked base w at (end + 1)
    passing_ends opens byte =
        let p : Whole = record { end = end; atom = part.0 } in
        let q = ends_with asked (base + at) h.items part.0 (items_own asked base w at place h.items p h.read part.1) plain_more in
        (q.atom, array_read asked base w at place h.items p (record { end = end + 1; atom = q.atom }) order opens h.read part.1 inside byte (record { behind = refl; own = q.own; fold = q.fold }), q.no_twin)
