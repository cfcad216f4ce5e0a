-- What a pass's step keeps of the counts, where its new view counts as the one before.
-- For `claim`, `run_crew`, `settle` and `work`.
use Rattle.std.proofs.Common.{◌≡◌, ◌≢◌, ℕ, ◌+◌, ◌-◌, ◌<◌, ◌≤◌, List, set, sum_by, slice_index, ap, ◌∙◌, refl, subst, ⊎_elim, arith, Option, length}
use mathlib.Core.Option.{some}
use mathlib.Core.Option as maybe
use lib.ListN.{get_elem?}
use Rattle.atomic_table.specs.Table.{State}
use Rattle.atomic_table.proofs.Lists.{at_set}
use Rattle.at_crew.specs.declared.view.Climber.{Climber}
use Rattle.at_crew.specs.declared.view.View.{View}
use Rattle.at_crew.specs.declared.view.View.TheVariants.{Climbs}
use Rattle.at_crew.specs.Views.{times, leads, lives, is_over, made, back, has_number, claimed, merged}
use Rattle.at_crew.specs.Rule.{OneWhere, Knows, PassesCounted, WordsMarked, WorkListed, PartsStored, CrewRule}
use Rattle.at_crew.proofs.Sums.{sum_same, sum_more, counts_same}

module _ {F : Type 0} (f : F) (k : ℕ) where
  pub knows_more : (c c' : ℕ) → c ≤ c' → (v : View F) → Knows f k c v → Knows f k c' v
  knows_more c c' le (Climbs v) h = (h.0, (λ x e. (let l = h.1 x e in omega (arith, l, le))), h.2, h.3)
  knows_more c c' le _ h = h

  -- all views but one are as they were
  pub each_set : (c c' : ℕ) → c ≤ c' → (views : List (View F)) (id : ℕ) (w : View F) → Knows f k c' w → ((j : ℕ) (v : View F) → get_elem? views j ≡ some v → Knows f k c v)
      → (j : ℕ) (v : View F) → get_elem? (set views id w) j ≡ some v → Knows f k c' v
  each_set c c' le views id w mine all j v e = ⊎_elim (λ (x : (j ≡ id) × (w ≡ v)). subst (λ (u : View F). Knows f k c' u) x.1 mine) (λ (x : (j ≢ id) × (get_elem? views j ≡ some v)). knows_more c c' le v (all j v x.1)) (at_set views id j w v e)

-- the same inner nodes are made
abbrev pub SameThrees : ℕ → List ℕ → List ℕ → Type 0
SameThrees k words words' = (n : ℕ) → 0 < n → n < k → (slice_index words' n ≡ 3 → slice_index words n ≡ 3) × (slice_index words n ≡ 3 → slice_index words' n ≡ 3)

module _ {F : Type 0} (k : ℕ) (views : List (View F)) (id : ℕ) (v w : Climber F) (at : get_elem? views id ≡ some (Climbs v)) where
  alike : (q : View F → ℕ) → q (Climbs w) ≡ q (Climbs v) → sum_by q (set views id (Climbs w)) ≡ sum_by q views
  alike q e = sum_same q views id (Climbs v) (Climbs w) at e

  -- n more passes are over
  pub counted_on : (f : F) (c c' n : ℕ) → w.number ≡ v.number → is_over (Climbs w) ≡ is_over (Climbs v) + n → c ≤ c' → c' - k ≡ c - k + n → Knows f k c' (Climbs w)
      → PassesCounted f k c views → PassesCounted f k c' (set views id (Climbs w))
  counted_on f c c' n number over le past mine g =
      let a = alike lives refl in let b = alike back refl in let d = alike made refl in let o = sum_more is_over n views id (Climbs v) (Climbs w) at over in
      record {
        chief = alike leads refl ∙ g.chief;
        living = (let l = g.living in omega (arith, a, b, d, l));
        few = (let l = g.few in omega (arith, d, l));
        ended = (let l = g.ended in omega (arith, o, b, l, past));
        numbers = λ x. (let e = alike (has_number x) (ap (λ i. has_number x (Climbs record { facts = v.facts; number = i; held = v.held; last = v.last; over = v.over; claimed = v.claimed; merged = v.merged })) number) in
            let l = g.numbers x in (omega (arith, e, l.0), λ y. e ∙ l.1 (omega (arith, d, y))));
        each = each_set f k c c' le views id (Climbs w) mine g.each;
      }

  -- nothing is claimed
  pub claims_on : (words words' : List ℕ) → w.claimed ≡ v.claimed → slice_index words' 0 ≡ slice_index words 0 → WorkListed k words views
      → (x : ℕ) → OneWhere ((x < slice_index words' 0) × (x < k)) (sum_by (λ u. times x (claimed u)) (set views id (Climbs w)))
  claims_on words words' same z listed x = counts_same _ _ (sum_by (λ u. times x (claimed u)) views) _ (λ y. (omega (arith, z, y.0), y.1)) (λ y. (omega (arith, z, y.0), y.1))
      (alike (λ u. times x (claimed u)) (ap (times x) same)) (listed.claims x)

  -- nothing is merged
  pub merges_on : (words words' : List ℕ) → w.merged ≡ v.merged → SameThrees k words words' → WorkListed k words views
      → (x : ℕ) → OneWhere ((0 < x) × (x < k) × (slice_index words' x ≡ 3)) (sum_by (λ u. times x (merged u)) (set views id (Climbs w)))
  merges_on words words' same threes listed x = counts_same _ _ (sum_by (λ u. times x (merged u)) views) _ (λ y. (y.0, y.1, (threes x y.0 y.1).1 y.2)) (λ y. (y.0, y.1, (threes x y.0 y.1).0 y.2))
      (alike (λ u. times x (merged u)) (ap (times x) same)) (listed.merges x)

-- the rule after a step, by its parts
pub rule_on : {P F : Type 0} (stands : F → P → ℕ → ℕ → Type 0) (f : F) (k : ℕ) (s : State (Option P) (View F)) → CrewRule stands f k s
    → (words' : List ℕ) (homes' : List (maybe.Option (Option P))) (views' : List (View F)) → length words' ≡ length s.words → length homes' ≡ length s.homes
    → PassesCounted f k (slice_index words' 0) views' → WordsMarked k words' → WorkListed k words' views' → PartsStored stands f k words' homes'
    → CrewRule stands f k record { words = words'; homes = homes'; views = views' }
rule_on stands f k s good words' homes' views' wide deep counted marked listed stored = record {
  power = good.power;
  small = good.small;
  wide = wide ∙ good.wide;
  deep = deep ∙ good.deep;
  counted = counted;
  marked = marked;
  listed = listed;
  stored = stored;
}
