-- Which items have which role, told by the sort of all of them.
-- For `add`, `array`, `object` and `value`.
use Rattle.std.proofs.Common.{◌≡◌, ℕ, suc, ◌≤◌, ◌==◌, Bool, true, false, ◌||◌, if◌then◌else◌, List, [], ◌∷◌, None, is_some, refl, sym, ◌∙◌, ap, arith}
use Rattle.std.specs.List.{list_any}
use Rattle.std.proofs.lemmas.Bool.{true≢false, eqb-true, and_parts}
use Rattle.std.proofs.lemmas.Option.{none-some}
use Rattle.at_geojson.specs.declared.atoms.atom.GeoAtom.{GeoAtom}
use Rattle.at_geojson.specs.declared.atoms.atom.GeoAtom.TheVariants as atoms
use Rattle.at_geojson.specs.declared.atoms.sorts.Sort.TheVariants as sorts
use Rattle.at_geojson.specs.Atoms.{as_run, no_roles, as_number, as_position, as_points, as_area}
use Rattle.at_geojson.specs.Gathering.{rank, sort_of, are_all, sort_of_all, is_object}

-- ---- one item

pub is_number : (a : GeoAtom) → is_some (as_number a) ≡ (rank (sort_of a) == 1)
is_number (atoms.Twin f) = refl
is_number _ = refl

pub is_position : (a : GeoAtom) → as_run a ≡ None → is_some (as_position a) ≡ (rank (sort_of a) == 2)
is_position (atoms.Track t) e = absurd (none-some (no_roles t.at) (sym e))
is_position _ e = refl

pub is_points : (a : GeoAtom) → as_run a ≡ None → is_some (as_points a) ≡ (rank (sort_of a) == 3)
is_points (atoms.Series s) e = absurd (none-some (no_roles s.at) (sym e))
is_points _ e = refl

pub is_area : (a : GeoAtom) → is_some (as_area a) ≡ (rank (sort_of a) == 4)
is_area (atoms.Twin f) = refl
is_area _ = refl

-- no sort but Other has objects
pub sorted_no_object : (a : GeoAtom) → is_object a ≡ true → rank (sort_of a) ≡ 0
sorted_no_object (atoms.Object x) e = refl
sorted_no_object (atoms.Run items) e = refl
sorted_no_object _ e = absurd (true≢false (sym e))

-- ---- all items

pub first_of_all : (k : ℕ) (a : GeoAtom) (aa : List GeoAtom) → are_all k (a ∷ aa) ≡ true → rank (sort_of a) ≡ k
first_of_all k a aa e = eqb-true (rank (sort_of a)) k (and_parts (rank (sort_of a) == k) (are_all k aa) e).0

-- the items are all of the sort that all of them have
pub all_sorted : (k : ℕ) (aa : List GeoAtom) → rank (sort_of_all aa) ≡ suc k → are_all (suc k) aa ≡ true
all_sorted k [] e = refl
all_sorted k (a ∷ aa) e = go (are_all (rank (sort_of a)) (a ∷ aa)) refl where
  go : (b : Bool) → are_all (rank (sort_of a)) (a ∷ aa) ≡ b → are_all (suc k) (a ∷ aa) ≡ true
  go true h = let s : rank (sort_of a) ≡ suc k = ap (λ b. rank (if b then sort_of a else sorts.Other)) (sym h) ∙ e in ap (λ r. are_all r (a ∷ aa)) (sym s) ∙ h
  go false h = absurd (let z : 0 ≡ suc k = ap (λ b. rank (if b then sort_of a else sorts.Other)) (sym h) ∙ e in omega (arith, z))

-- their rank is that of the first, or the least
pub sort_few : (a : GeoAtom) (aa : List GeoAtom) → rank (sort_of a) ≤ 1 → rank (sort_of_all (a ∷ aa)) ≤ 1
sort_few a aa h = go (are_all (rank (sort_of a)) (a ∷ aa)) where
  go : (b : Bool) → rank (if b then sort_of a else sorts.Other) ≤ 1
  go true = h
  go false = omega arith

-- and of no other
pub sort_is : (k : ℕ) (a : GeoAtom) (aa : List GeoAtom) → are_all k (a ∷ aa) ≡ true → rank (sort_of_all (a ∷ aa)) ≡ k
sort_is k a aa e =
    let first = first_of_all k a aa e in
    let all : are_all (rank (sort_of a)) (a ∷ aa) ≡ true = ap (λ r. are_all r (a ∷ aa)) first ∙ e in
    ap (λ b. rank (if b then sort_of a else sorts.Other)) all ∙ first

pub no_other : (k : ℕ) (a : GeoAtom) (aa : List GeoAtom) → (rank (sort_of_all (a ∷ aa)) ≡ k → ⊥) → are_all k (a ∷ aa) ≡ false
no_other k a aa n = go (are_all k (a ∷ aa)) refl where
  go : (b : Bool) → are_all k (a ∷ aa) ≡ b → are_all k (a ∷ aa) ≡ false
  go true h = absurd (n (sort_is k a aa h))
  go false h = h

-- items of a sort are no objects
pub no_objects : (k : ℕ) (aa : List GeoAtom) → are_all (suc k) aa ≡ true → list_any is_object aa ≡ false
no_objects k [] e = refl
no_objects k (a ∷ aa) e = go (is_object a) refl (no_objects k aa (and_parts (rank (sort_of a) == suc k) (are_all (suc k) aa) e).1) where
  go : (b : Bool) → is_object a ≡ b → list_any is_object aa ≡ false → list_any is_object (a ∷ aa) ≡ false
  go true h n = absurd (let z : 0 ≡ suc k = sym (sorted_no_object a h) ∙ eqb-true (rank (sort_of a)) (suc k) (and_parts (rank (sort_of a) == suc k) (are_all (suc k) aa) e).0 in omega (arith, z))
  go false h n = ap (λ b. b || list_any is_object aa) h ∙ n
