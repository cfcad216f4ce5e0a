-- Heights that are cut: each height is one of a part's.
-- For `copy`, `meets` and `new`.
use Rattle.std.proofs.Common.{◌≡◌, ℕ, ℤ, ◌+◌, ◌<◌, ◌≤ℤ◌, ◌<ℤ◌, inl, List, [], ◌∷◌, ◌++◌, length, get_or, take, arith, sym, subst, ap, ap₂, ◌∙◌}
use Rattle.std.specs.Prelude.{All, map}
use Rattle.std.proofs.lemmas.List.{map-append, take_more}
use Rattle.std.proofs.lemmas.List.Elements.{All-push}
use Rattle.std.proofs.lemmas.Int.{ints, by_lt_z}
use Rattle.at_text.specs.Lists.{SomeOf}
use Rattle.at_geom.proofs.Elements.{some_left, some_right}
use Rattle.at_band.specs.declared.thinning.Heights.{Heights}
use Rattle.at_band.specs.Banded.{IsAt}

-- the parts have each height from low that is below the end
abbrev pub AreCoveringBelow : ℤ → ℤ → List Heights → Type 0
AreCoveringBelow low end parts = (y : ℤ) → low ≤ℤ y → y <ℤ end → SomeOf (IsAt y) parts

pub covering_more : (low end : ℤ) (parts : List Heights) (next : Heights) → next.low ≡ end → AreCoveringBelow low end parts
    → (y : ℤ) → low ≤ℤ y → y ≤ℤ next.high → SomeOf (IsAt y) (parts ++ next ∷ [])
covering_more low end parts next e f y h k =
    by_lt_z y end
    (λ m. some_left (IsAt y) parts (next ∷ []) (f y h m))
    (λ m. some_right (IsAt y) parts (next ∷ []) (inl (subst (λ z. z ≤ℤ y) (sym e) m, k)))

pub covering_next : (low end : ℤ) (parts : List Heights) (next : Heights) → next.low ≡ end → AreCoveringBelow low end parts → AreCoveringBelow low next.high (parts ++ next ∷ [])
covering_next low end parts next e f y h k = covering_more low end parts next e f y h (omega (arith, ints, k))

-- what is made at the first of the cuts, one for each
pub record AreMade {X : Type 0} (P : X → Type 0) (f : X → Heights) (cuts : List Heights) (i : ℕ) (made : List X) : Type 0 where
  pub kept : All P made
  pub same : map f made ≡ take i cuts

pub made_more : {X : Type 0} {P : X → Type 0} {f : X → Heights} {cuts : List Heights} {i : ℕ} (d : Heights) {before longer : List X} {next : X} → AreMade P f cuts i before → i < length cuts → longer ≡ before ++ next ∷ [] → P next → f next ≡ get_or cuts i d → AreMade P f cuts (i + 1) longer
made_more {X} {P} {f} {cuts} {i} d {before} {longer} {next} now lt e held at = record {
  kept = subst (All P) (sym e) (All-push P before next now.kept held);
  same = ap (map f) e ∙ (map-append f before (next ∷ []) ∙ (ap₂ (λ xs x. xs ++ x ∷ []) now.same at ∙ sym (take_more cuts i d lt)));
}
