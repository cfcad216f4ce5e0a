-- The rule holds of a new table.
-- For `new` and `run_crew`.
use Rattle.std.proofs.Common.{◌≡◌, ℕ, zero, suc, ◌+◌, ◌/◌, ◌^◌, ◌<◌, ◌≤◌, Option, None, List, [], ◌∷◌, replicate, map, slice_index, refl, sym, ◌∙◌, subst, inl, inr, ⊎_elim, arith}
use Rattle.std.proofs.lemmas.List.{length-replicate, length-map}
use mathlib.Core.Option.{some, some-injective, some-ne-none}
use lib.ListN.{get_elem?}
use Rattle.atomic_table.specs.Table.{opening}
use Rattle.at_crew.specs.declared.view.View.{View}
use Rattle.at_crew.specs.declared.view.View.TheVariants.{Leads}
use Rattle.at_crew.specs.Nodes.{Made, Settled}
use Rattle.at_crew.specs.Views.{leader}
use Rattle.at_crew.specs.Rule.{Knows, CrewRule}

all_zero : (n i : ℕ) → slice_index (replicate n 0) i ≡ 0
all_zero (suc n) (suc i) = all_zero n i
all_zero _ _ = refl

all_home : {P : Type 0} (n i : ℕ) (x : Option P) → i < n → get_elem? (map some (replicate n x)) i ≡ some (some x)
all_home zero i x lt = absurd (omega (arith, lt))
all_home (suc n) zero x lt = refl
all_home (suc n) (suc i) x lt = all_home n i x (omega (arith, lt))

module _ {P F : Type 0} (stands : F → P → ℕ → ℕ → Type 0) (f : F) (k : ℕ) (power : (d : ℕ) × (k ≡ 2 ^ d)) (small : k ≤ 4096) where
  word : (i : ℕ) → slice_index (replicate (k + 1) 0) i ≡ 0
  word i = all_zero (k + 1) i

  not_made : (n : ℕ) → ¬ Made k (replicate (k + 1) 0) n
  not_made n (inl x) = let z = word 0 in omega (arith, x.0, x.1, z)
  not_made n (inr x) = let z = word n in omega (arith, x.1, z)

  not_settled : (n : ℕ) → ¬ Settled k (replicate (k + 1) 0) n
  not_settled n (inl x) = let z = word k in omega (arith, x.1, z)
  not_settled n (inr x) = let z = word (n / 2) in ⊎_elim (λ y. omega (arith, y, z)) (λ y. omega (arith, y, z)) x.1

  opens_at : CrewRule {P = P} stands f k (opening (replicate (k + 1) 0) (replicate k None) (Leads (leader f)))
  opens_at = record {
    power = power;
    small = small;
    wide = length-replicate (k + 1) 0;
    deep = length-map (replicate k None) some ∙ length-replicate k None;
    counted = record {
      chief = refl;
      living = refl;
      few = omega arith;
      ended = (let z = word 0 in omega (arith, z));
      numbers = λ x. (omega arith, λ le. refl);
      each = each;
    };
    marked = record {
      two_bits = λ n p lt. (let z = word n in omega (arith, z));
      one_bit = (let z = word k in omega (arith, z));
      below = λ n p lt set. absurd (not_settled n set);
    };
    listed = record {
      held = λ n p lt. inr ((λ x. not_made n x.0), refl);
      claims = λ x. inr ((λ y. (let z = word 0 in omega (arith, y.0, z))), refl);
      merges = λ x. inr ((λ y. (let z = word x in omega (arith, y.2, z))), refl);
    };
    stored = record {
      tops = λ l h n is set top. absurd (not_settled n set);
      fresh = λ i le lt. all_home k i None lt;
    };
  }
    where
      each : (j : ℕ) (v : View F) → get_elem? (Leads (leader f) ∷ []) j ≡ some v → Knows f k (slice_index (replicate (k + 1) 0) 0) v
      each zero v e = subst (λ (u : View F). Knows f k (slice_index (replicate (k + 1) 0) 0) u) (some-injective (Leads (leader f)) v e) refl
      each (suc j) v e = absurd (some-ne-none v (sym e))

  pub opens : (words : List ℕ) → words ≡ replicate (k + 1) 0 → CrewRule {P = P} stands f k (opening words (replicate k None) (Leads (leader f)))
  opens words e = subst (λ (ws : List ℕ). CrewRule {P = P} stands f k (opening ws (replicate k None) (Leads (leader f)))) (sym e) opens_at
