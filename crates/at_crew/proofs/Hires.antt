-- A new pass, and one that comes back, keep the rule.
-- For `close`, `pass`, `run_crew` and `take_back`.
use Rattle.std.proofs.Common.{◌≡◌, ◌≢◌, ℕ, ◌+◌, ◌<◌, ◌≤◌, min, None, true, true≢false, List, [], ◌∷◌, ◌++◌, set, sum_by, slice_index, refl, sym, ap, ◌∙◌, subst, ⊎_elim, arith}
use mathlib.Core.Option.{some}
use lib.ListN.{get_elem?}
use Rattle.std.proofs.lemmas.List.Sums.{sum_by_push}
use native.Mathlib.Decide.{ℕ_discrete}
use Rattle.atomic_table.specs.Table.{Splits, Joins}
use Rattle.atomic_table.proofs.Lists.{at_set, at_snoc, set_else}
use Rattle.at_crew.specs.declared.view.Climber.{Climber}
use Rattle.at_crew.specs.declared.view.Leader.{Leader}
use Rattle.at_crew.specs.declared.view.View.{View}
use Rattle.at_crew.specs.declared.view.View.TheVariants.{Spent, Climbs, Leads}
use Rattle.at_crew.specs.Views.{one_if, times, is_at, leads, lives, is_over, made, back, has_number, holds, claimed, merged, newcomer, hires, hired, gathers, is_chief, is_pass, over_of}
use Rattle.at_crew.specs.Rule.{Knows, PassesCounted, WorkListed, CrewRule}
use Rattle.at_crew.proofs.Sums.{sum_at, sum_more, sum_ge, sum_only, sum_zeros, hit, miss, times_both, counts_same}
use Rattle.at_crew.proofs.Alike.{each_set}
use Rattle.at_crew.proofs.Claims.{some≢none}

module _ {F : Type 0} (f : F) (k c : ℕ) (views : List (View F)) (g : PassesCounted f k c views) (id : ℕ) (h : Leader F) (at : get_elem? views id ≡ some (Leads h)) where
  only : (v : View F) → leads v ≡ 0 → (made v ≡ 0) × (back v ≡ 0)
  only (Leads v) a = absurd (omega (arith, a))
  only _ a = (refl, refl)

  -- the chief's numbers are those of all views
  pub all_made : sum_by made views ≡ h.made
  all_made = sum_only leads (λ (v : View F). 0) made (λ v a b. (only v a).0) views id (Leads h) at g.chief (sum_zeros views)

  pub all_back : sum_by back views ≡ h.back
  all_back = sum_only leads (λ (v : View F). 0) back (λ v a b. (only v a).1) views id (Leads h) at g.chief (sum_zeros views)

module _ {P F : Type 0} (stands : F → P → ℕ → ℕ → Type 0) (f : F) (k : ℕ) where
  hires_at : (id : ℕ) (h : Leader F) → h.made < 64 → Splits (CrewRule stands f k) id (Leads h) (hires (Leads h)) (hired (Leads h))
  hires_at id h few s good at = record { power = good.power; small = good.small; wide = good.wide; deep = good.deep; counted = counted; marked = good.marked; listed = listed; stored = good.stored }
    where
      -- n more by the chief's new view, and m by the pass
      sums : (q : View F → ℕ) (n m : ℕ) → q (hires (Leads h)) ≡ q (Leads h) + n → q (Climbs (newcomer h.facts h.made)) ≡ m → sum_by q (set s.views id (hires (Leads h)) ++ Climbs (newcomer h.facts h.made) ∷ []) ≡ sum_by q s.views + n + m
      sums q n m e e' = let a = sum_more q n s.views id (Leads h) (hires (Leads h)) at e in let b = sum_by_push q (set s.views id (hires (Leads h))) (Climbs (newcomer h.facts h.made)) in omega (arith, a, b, e')

      plain : (q : View F → ℕ) → q (hires (Leads h)) ≡ q (Leads h) → q (Climbs (newcomer h.facts h.made)) ≡ 0 → sum_by q (set s.views id (hires (Leads h)) ++ Climbs (newcomer h.facts h.made) ∷ []) ≡ sum_by q s.views
      plain q e e' = let a = sums q 0 0 (omega (arith, e)) e' in omega (arith, a)

      total : sum_by made s.views ≡ h.made
      total = all_made f k (slice_index s.words 0) s.views good.counted id h at

      numbers : (x : ℕ) → Dec (h.made ≡ x) → (sum_by (has_number x) (set s.views id (hires (Leads h)) ++ Climbs (newcomer h.facts h.made) ∷ []) ≤ 1) × (sum_by made s.views + 1 ≤ x → sum_by (has_number x) (set s.views id (hires (Leads h)) ++ Climbs (newcomer h.facts h.made) ∷ []) ≡ 0)
      numbers x (yes e) = let a = sums (has_number x) 0 1 (omega arith) (hit h.made x e) in let t = total in let z : sum_by (has_number x) s.views ≡ 0 = (good.counted.numbers x).1 (omega (arith, t, e)) in (omega (arith, a, z), λ le. absurd (omega (arith, le, t, e)))
      numbers x (no ne) = let a = sums (has_number x) 0 0 (omega arith) (miss h.made x ne) in let l = good.counted.numbers x in (omega (arith, a, l.0), λ le. (let z = l.1 (omega (arith, le)) in omega (arith, a, z)))

      counted : PassesCounted f k (slice_index s.words 0) (set s.views id (hires (Leads h)) ++ Climbs (newcomer h.facts h.made) ∷ [])
      counted = let t = total in let m = sums made 1 0 refl refl in let b = plain back refl refl in let l = sums lives 0 1 refl refl in let o = plain is_over refl refl in record {
        chief = plain leads refl refl ∙ good.counted.chief;
        living = (let e = good.counted.living in omega (arith, m, b, l, e));
        few = omega (arith, m, t, few);
        ended = (let e = good.counted.ended in omega (arith, o, b, e));
        numbers = λ x. (let r = numbers x (ℕ_discrete h.made x) in (r.0, λ le. r.1 (omega (arith, le, m))));
        each = λ j v e. ⊎_elim (λ (q : get_elem? (set s.views id (hires (Leads h))) j ≡ some v). each_set f k (slice_index s.words 0) (slice_index s.words 0) (omega arith) s.views id (hires (Leads h)) (good.counted.each id (Leads h) at) good.counted.each j v q)
            (λ (q : Climbs (newcomer h.facts h.made) ≡ v). subst (λ (u : View F). Knows f k (slice_index s.words 0) u) q
            (good.counted.each id (Leads h) at, (λ x e'. absurd (some≢none (sym e'))), (λ p e'. absurd (some≢none (sym e'))), λ e'. refl))
            (at_snoc (set s.views id (hires (Leads h))) (Climbs (newcomer h.facts h.made)) v j e);
      }

      listed : WorkListed k s.words (set s.views id (hires (Leads h)) ++ Climbs (newcomer h.facts h.made) ∷ [])
      listed = record {
        held = λ n p lt. counts_same _ _ (sum_by (holds n) s.views) _ (λ x. x) (λ x. x) (plain (holds n) refl refl) (good.listed.held n p lt);
        claims = λ x. counts_same _ _ (sum_by (λ u. times x (claimed u)) s.views) _ (λ y. y) (λ y. y) (plain (λ u. times x (claimed u)) refl refl) (good.listed.claims x);
        merges = λ x. counts_same _ _ (sum_by (λ u. times x (merged u)) s.views) _ (λ y. y) (λ y. y) (plain (λ u. times x (merged u)) refl refl) (good.listed.merges x);
      }

  pub hires_kept : (id : ℕ) (w : View F) → is_chief w ≡ true → made w < 64 → Splits (CrewRule stands f k) id w (hires w) (hired w)
  hires_kept id (Leads h) is few s good at = hires_at id h few s good at
  hires_kept id _ is few s good at = absurd (true≢false (sym is))

  gathers_at : (id : ℕ) (h : Leader F) (other : ℕ) (u : Climber F) → u.over ≡ true → Joins (CrewRule stands f k) id (Leads h) other (Climbs u) (gathers (Leads h) (Climbs u)) Spent
  gathers_at id h other u done s good at ne at' = record { power = good.power; small = good.small; wide = good.wide; deep = good.deep; counted = counted; marked = good.marked; listed = listed; stored = good.stored }
    where
      was : get_elem? s.views other ≡ some (Climbs u)
      was = sym (set_else s.views id other (gathers (Leads h) (Climbs u)) ne) ∙ at'

      sums : (q : View F → ℕ) → q Spent ≡ 0 → sum_by q (set (set s.views id (gathers (Leads h) (Climbs u))) other Spent) + q (Climbs u) + q (Leads h) ≡ sum_by q s.views + q (gathers (Leads h) (Climbs u))
      sums q z = let a = sum_at q (set s.views id (gathers (Leads h) (Climbs u))) other (Climbs u) Spent at' in let b = sum_at q s.views id (Leads h) (gathers (Leads h) (Climbs u)) at in omega (arith, a, b, z)

      over_one : is_over (Climbs u) ≡ 1
      over_one = ap one_if done

      empty : u.held ≡ None
      empty = (good.counted.each other (Climbs u) was).3 done

      -- the pass that comes back was living, so fewer are back than were made
      room : h.back + 1 ≤ h.made
      room = let a = all_made f k (slice_index s.words 0) s.views good.counted id h at in let b = all_back f k (slice_index s.words 0) s.views good.counted id h at in let l = sum_ge lives s.views other (Climbs u) was in let e = good.counted.living in omega (arith, a, b, l, e)

      counted : PassesCounted f k (slice_index s.words 0) (set (set s.views id (gathers (Leads h) (Climbs u))) other Spent)
      counted = let m = sums made refl in let b = sums back refl in let l = sums lives refl in let o = sums is_over refl in let r = room in let one = over_one in let c = sums leads refl in record {
        chief = (let e = good.counted.chief in omega (arith, c, e));
        living = (let e = good.counted.living in omega (arith, m, b, l, e, r));
        few = (let e = good.counted.few in omega (arith, m, e));
        ended = (let e = good.counted.ended in omega (arith, o, b, e, r, one));
        numbers = λ x. (let n = sums (has_number x) refl in let e = good.counted.numbers x in (omega (arith, n, e.0), λ le. (let z = e.1 (omega (arith, le, m)) in omega (arith, n, z))));
        each = λ j v e. ⊎_elim (λ (q : (j ≡ other) × (Spent ≡ v)). subst (λ (t : View F). Knows f k (slice_index s.words 0) t) q.1 tt)
            (λ (q : (j ≢ other) × (get_elem? (set s.views id (gathers (Leads h) (Climbs u))) j ≡ some v)). each_set f k (slice_index s.words 0) (slice_index s.words 0) (omega arith) s.views id (gathers (Leads h) (Climbs u)) (good.counted.each id (Leads h) at) good.counted.each j v q.1)
            (at_set (set s.views id (gathers (Leads h) (Climbs u))) other j Spent v e);
      }

      listed : WorkListed k s.words (set (set s.views id (gathers (Leads h) (Climbs u))) other Spent)
      listed = record {
        held = λ n p lt. (let q = sums (holds n) refl in let z : holds n (Climbs u) ≡ 0 = ap (is_at n) empty in counts_same _ _ (sum_by (holds n) s.views) _ (λ x. x) (λ x. x) (omega (arith, q, z)) (good.listed.held n p lt));
        claims = λ x. (let q = sums (λ (t : View F). times x (claimed t)) refl in let t = times_both x h.claimed u.claimed in counts_same _ _ (sum_by (λ t. times x (claimed t)) s.views) _ (λ y. y) (λ y. y) (omega (arith, q, t)) (good.listed.claims x));
        merges = λ x. (let q = sums (λ (t : View F). times x (merged t)) refl in let t = times_both x h.merged u.merged in counts_same _ _ (sum_by (λ t. times x (merged t)) s.views) _ (λ y. y) (λ y. y) (omega (arith, q, t)) (good.listed.merges x));
      }

  pub gathers_kept : (id : ℕ) (w : View F) (other : ℕ) (z : View F) → is_chief w ≡ true → is_pass z ≡ true → over_of z ≡ true → Joins (CrewRule stands f k) id w other z (gathers w z) Spent
  gathers_kept id (Leads h) other Spent is is' done s good at ne at' = absurd (true≢false (sym is'))
  gathers_kept id (Leads h) other (Climbs u) is is' done s good at ne at' = gathers_at id h other u done s good at ne at'
  gathers_kept id (Leads h) other (Leads u) is is' done s good at ne at' = absurd (true≢false (sym is'))
  gathers_kept id _ other z is is' done s good at ne at' = absurd (true≢false (sym is))

-- the chief's numbers after a pass came back
pub gathers_counts : {F : Type 0} (w z : View F) → is_chief w ≡ true → (is_chief (gathers w z) ≡ true) × (made (gathers w z) ≡ made w) × (back (gathers w z) ≡ min (made w) (back w + 1))
gathers_counts (Leads h) z is = (refl, refl, refl)
gathers_counts _ z is = absurd (true≢false (sym is))
