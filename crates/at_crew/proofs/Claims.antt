-- A claim keeps the rule: below k it takes the leaf's slot, and past k it ends the pass.
-- For most public calls of the crate, `claim`, `close`, `pass` among them.
use Rattle.std.proofs.Common.{◌≡◌, ℕ, suc, ◌+◌, ◌*◌, ◌/◌, ◌%◌, ◌^◌, ◌<◌, ◌≤◌, ◌⊎◌, Option, Some, None, true, false, true≢false, List, set, length, sum_by, slice_index, slice_set, refl, sym, ap, ◌∙◌, subst, inl, inr, ⊎_elim, arith, length-set}
use mathlib.Core.Option.{some, none}
use lib.ListN.{get_elem?}
use Rattle.std.proofs.lemmas.Bool.{cases_lt}
use Rattle.std.proofs.lemmas.Nat.{pow_pos}
use native.Mathlib.Decide.{dec_le, ℕ_discrete}
use Rattle.atomic_table.specs.Table.{State, Act, keeps, takes, Valid, Allows, stepped, carried_after, step}
use Rattle.atomic_table.proofs.Lists.{set_else}
use Rattle.at_crew.specs.declared.view.HeldNode.{HeldNode}
use Rattle.at_crew.specs.declared.view.Climber.{Climber}
use Rattle.at_crew.specs.declared.view.View.{View}
use Rattle.at_crew.specs.declared.view.View.TheVariants.{Spent, Climbs, Leads}
use Rattle.at_crew.specs.Nodes.{IsNode, first_of, Made, Settled, IsTop}
use Rattle.at_crew.specs.Views.{one_if, times, held_node, is_at, lives, is_over, holds, claimed, claiming, ending, is_pass, held_of, over_of}
use Rattle.at_crew.specs.Rule.{OneWhere, PassesCounted, WordsMarked, WorkListed, PartsStored, CrewRule}
use Rattle.at_crew.specs.Steps.{ClaimTells}
use Rattle.at_crew.proofs.Tree.{leaf_node, spans_first, node_pos, node_bound, first_small}
use Rattle.at_crew.proofs.Above.{all_claimed}
use Rattle.at_crew.proofs.Alike.{SameThrees, counted_on, merges_on, rule_on}
use Rattle.at_crew.proofs.Sums.{one_or_other, one_if_small, sum_at, sum_same, sum_more, sum_gap, hit, miss, times_more, counts_same, counts_zero, word_here, word_else}

pub some-inj : {A : Type 0} {a b : A} → Some a ≡ Some b → a ≡ b
some-inj {A} {a} {b} e = ap (λ (o : Option A). elim o [ Some x ↦ x | None ↦ a ]) e

pub some≢none : {A : Type 0} {a : A} → (Some a ≡ None) → ⊥
some≢none e = cc

-- only word 0 changes
pub record Bumped (words words' : List ℕ) (c' : ℕ) : Type 0 where
  pub zero_is : slice_index words' 0 ≡ c'
  pub others : (n : ℕ) → 0 < n → slice_index words' n ≡ slice_index words n

module _ (k : ℕ) (words words' : List ℕ) (c' : ℕ) (b : Bumped words words' c') (le : slice_index words 0 ≤ c') where
  pub made_more : (n : ℕ) → 0 < n → Made k words n → Made k words' n
  made_more n pos (inl m) = let z = b.zero_is in inl (m.0, omega (arith, m.1, z, le))
  made_more n pos (inr m) = inr (m.0, b.others n pos ∙ m.1)

  -- what is made now was made, but for the leaves in between
  pub made_less : (n : ℕ) → 0 < n → (n < k + slice_index words 0 ⊎ (k + c' ≤ n)) → Made k words' n → Made k words n
  made_less n pos (inl lt) (inl m) = inl (m.0, lt)
  made_less n pos (inr ge) (inl m) = let z = b.zero_is in absurd (omega (arith, m.1, ge, z))
  made_less n pos out (inr m) = inr (m.0, sym (b.others n pos) ∙ m.1)

  pub settled_same : 0 < k → (n : ℕ) → Settled k words' n → Settled k words n
  settled_same pos n (inl s) = inl (s.0, sym (b.others k pos) ∙ s.1)
  settled_same pos n (inr s) = let e = b.others (n / 2) (omega (arith, s.0)) in inr (s.0, ⊎_elim (λ x. inl (sym e ∙ x)) (λ x. inr (sym e ∙ x)) s.1)

  pub settled_again : 0 < k → (n : ℕ) → Settled k words n → Settled k words' n
  settled_again pos n (inl s) = inl (s.0, b.others k pos ∙ s.1)
  settled_again pos n (inr s) = let e = b.others (n / 2) (omega (arith, s.0)) in inr (s.0, ⊎_elim (λ x. inl (e ∙ x)) (λ x. inr (e ∙ x)) s.1)

  pub top_same : (n : ℕ) → IsTop k words' n → IsTop k words n
  top_same n (inl e) = inl e
  top_same n (inr s) = let e = b.others (n / 2) (omega (arith, s.0)) in inr (s.0, λ x. s.1 (e ∙ x))

  pub marked_more : 0 < k → WordsMarked k words → WordsMarked k words'
  marked_more pos m = record {
    two_bits = λ n p lt. let e = b.others n p in let h = m.two_bits n p lt in omega (arith, e, h);
    one_bit = (let e = b.others k pos in let h = m.one_bit in omega (arith, e, h));
    below = λ n p lt s. made_more n p (m.below n p lt (settled_same pos n s));
  }

module _ {P F : Type 0} (stands : F → P → ℕ → ℕ → Type 0) (f : F) (k : ℕ) (s : State (Option P) (View F)) (good : CrewRule stands f k s) where
  pub some_blocks : 0 < k
  some_blocks = let p = pow_pos good.power.0 in omega (arith, p, good.power.1)

  pub zero_inside : 0 < length s.words
  zero_inside = omega (arith, good.wide)

  -- word 0 becomes c'
  pub bumped : (c' : ℕ) → Bumped s.words (slice_set s.words 0 c') c'
  bumped c' = record { zero_is = word_here s.words 0 c' zero_inside; others = λ n p. word_else s.words 0 n c' (λ e. omega (arith, e, p)) }

module _ {P F : Type 0} (stands : F → P → ℕ → ℕ → Type 0) (f : F) (k : ℕ) (s : State (Option P) (View F)) (good : CrewRule stands f k s) (id : ℕ) (v : Climber F) (at : get_elem? s.views id ≡ some (Climbs v))
    (free : v.held ≡ None) (on : v.over ≡ false) where
  abbrev c : ℕ
  c = slice_index s.words 0

  abbrev now : Climber F
  now = claiming k c v

  abbrev words' : List ℕ
  words' = slice_set s.words 0 (c + 1)

  pos : 0 < k
  pos = some_blocks stands f k s good

  bump : Bumped s.words words' (c + 1)
  bump = bumped stands f k s good (c + 1)

  step_up : c ≤ c + 1
  step_up = omega arith

  threes : SameThrees k s.words words'
  threes n p lt = (λ e. sym (bump.others n p) ∙ e, λ e. bump.others n p ∙ e)

  -- before, the pass counted for no node
  idle : (n : ℕ) → holds n (Climbs v) ≡ 0
  idle n = ap (is_at n) free

  not_over : is_over (Climbs v) ≡ 0
  not_over = ap one_if on

  pub facts_are : v.facts ≡ f
  facts_are = (good.counted.each id (Climbs v) at).0

  -- the leaf of c was not made, so nothing settled it
  leaf_new : c < k → ¬ (Settled k s.words (k + c))
  leaf_new lt set = ⊎_elim (λ m. omega (arith, m.1)) (λ m. omega (arith, m.0)) (good.marked.below (k + c) (omega (arith, pos)) (omega (arith, lt)) set)

  claim_held : c < k → (n : ℕ) → 0 < n → n < 2 * k → OneWhere (Made k words' n × (¬ Settled k words' n)) (sum_by (holds n) (set s.views id (Climbs now)))
  claim_held lt n p q = one_or_other (λ i. OneWhere (Made k words' i × (¬ Settled k words' i)) (sum_by (holds i) (set s.views id (Climbs now)))) (k + c) n
      (let old : sum_by (holds (k + c)) s.views ≡ 0 = counts_zero _ _ (λ x. ⊎_elim (λ m. omega (arith, m.1)) (λ m. omega (arith, m.0)) x.0) (good.listed.held (k + c) (omega (arith, pos)) (omega (arith, lt))) in
      let one : holds (k + c) (Climbs now) ≡ 1 = hit (k + c) (k + c) refl in
      let more = sum_at (holds (k + c)) s.views id (Climbs v) (Climbs now) at in
      let z = bump.zero_is in
      inl ((inl (omega arith, omega (arith, z)), λ x. leaf_new lt (settled_same k s.words words' (c + 1) bump step_up pos (k + c) x)), omega (arith, old, one, more, idle (k + c))))
      (λ ne. counts_same _ _ (sum_by (holds n) s.views) _
      (λ x. (made_more k s.words words' (c + 1) bump step_up n p x.0, λ y. x.1 (settled_same k s.words words' (c + 1) bump step_up pos n y)))
      (λ x. (made_less k s.words words' (c + 1) bump step_up n p (elim (cases_lt n (k + c)) [ inl d ↦ inl d | inr ge ↦ inr (omega (arith, ge, ne)) ]) x.0, λ y. x.1 (settled_again k s.words words' (c + 1) bump step_up pos n y)))
      (sum_same (holds n) s.views id (Climbs v) (Climbs now) at (miss (k + c) n (λ e. ne (sym e)) ∙ sym (idle n)))
      (good.listed.held n p q))

  claim_listed : c < k → WorkListed k words' (set s.views id (Climbs now))
  claim_listed lt = record {
    held = claim_held lt;
    claims = λ x. listed x (ℕ_discrete c x);
    merges = merges_on k s.views id v now at s.words words' refl threes good.listed;
  }
    where
      listed : (x : ℕ) → Dec (c ≡ x) → OneWhere ((x < slice_index words' 0) × (x < k)) (sum_by (λ u. times x (claimed u)) (set s.views id (Climbs now)))
      listed x (yes e) =
          let old : sum_by (λ u. times x (claimed u)) s.views ≡ 0 = counts_zero _ _ (λ h. omega (arith, h.0, e)) (good.listed.claims x) in
          let more = sum_more (λ (u : View F). times x (claimed u)) 1 s.views id (Climbs v) (Climbs now) at (times_more x c v.claimed ∙ ap (λ n. times x v.claimed + n) (hit c x e)) in
          let z = bump.zero_is in inl ((omega (arith, z, e), omega (arith, lt, e)), omega (arith, old, more))
      listed x (no ne) =
          let same = sum_more (λ (u : View F). times x (claimed u)) 0 s.views id (Climbs v) (Climbs now) at (times_more x c v.claimed ∙ ap (λ n. times x v.claimed + n) (miss c x ne)) in
          let z = bump.zero_is in
          counts_same _ _ (sum_by (λ u. times x (claimed u)) s.views) _ (λ h. (omega (arith, z, h.0), h.1)) (λ h. (omega (arith, z, h.0, ne), h.1)) (omega (arith, same)) (good.listed.claims x)

  claim_counted : c < k → PassesCounted f k (slice_index words' 0) (set s.views id (Climbs now))
  claim_counted lt = let z = bump.zero_is in
      counted_on k s.views id v now at f c (slice_index words' 0) 0 refl (ap (λ n. n + 0) (sym not_over)) (omega (arith, z)) (omega (arith, z, lt)) (
        facts_are,
        (λ x e. (let y : c ≡ x = some-inj e in omega (arith, y, z))),
        (λ p e. (let q : held_node (k + c) 0 ≡ p = some-inj e in (good.power.0, subst (λ (r : HeldNode). IsNode k good.power.0 r.height r.node) q (leaf_node k good.power.0 c good.power.1 lt)))),
        (λ e. absurd (true≢false (sym e))),
      ) good.counted

  claim_stored : c < k → PartsStored stands f k words' (set s.homes c none)
  claim_stored lt = let z = bump.zero_is in record {
    tops = λ l h n is set top.
        let old = good.stored.tops l h n is (settled_same k s.words words' (c + 1) bump step_up pos n set) (top_same k s.words words' (c + 1) bump step_up n top) in
        let was : Made k s.words n = good.marked.below n (node_pos k l h n is) (node_bound k l h n is) (settled_same k s.words words' (c + 1) bump step_up pos n set) in
        let lower : first_of k h n < c = all_claimed k s.words good.marked h n (first_of k h n) (node_pos k l h n is) (first_small k l h n is) (spans_first k l h n is) was in
        (old.0, set_else s.homes c (first_of k h n) none (λ e. omega (arith, lower, e)) ∙ old.1, old.2);
    fresh = λ i le li. set_else s.homes c i none (λ e. omega (arith, le, z, e)) ∙ good.stored.fresh i (omega (arith, le, z)) li;
  }

  pub claim_kept : c < k → CrewRule stands f k record { words = words'; homes = set s.homes c none; views = set s.views id (Climbs now) }
  claim_kept lt = rule_on stands f k s good words' (set s.homes c none) (set s.views id (Climbs now)) (length-set s.words 0 (c + 1)) (length-set s.homes c none)
      (claim_counted lt) (marked_more k s.words words' (c + 1) bump step_up pos good.marked) (claim_listed lt) (claim_stored lt)

  abbrev last : Climber F
  last = ending c v

  end_held : k ≤ c → (n : ℕ) → 0 < n → n < 2 * k → OneWhere (Made k words' n × (¬ Settled k words' n)) (sum_by (holds n) (set s.views id (Climbs last)))
  end_held le n p q = counts_same _ _ (sum_by (holds n) s.views) _
      (λ x. (made_more k s.words words' (c + 1) bump step_up n p x.0, λ y. x.1 (settled_same k s.words words' (c + 1) bump step_up pos n y)))
      (λ x. (made_less k s.words words' (c + 1) bump step_up n p (inl (omega (arith, q, le))) x.0, λ y. x.1 (settled_again k s.words words' (c + 1) bump step_up pos n y)))
      (sum_same (holds n) s.views id (Climbs v) (Climbs last) at (sym (idle n)))
      (good.listed.held n p q)

  end_listed : k ≤ c → WorkListed k words' (set s.views id (Climbs last))
  end_listed le = let z = bump.zero_is in record {
    held = end_held le;
    claims = λ x. counts_same _ _ (sum_by (λ u. times x (claimed u)) s.views) _ (λ h. (omega (arith, z, h.0), h.1)) (λ h. (omega (arith, le, h.1), h.1))
        (sum_same (λ u. times x (claimed u)) s.views id (Climbs v) (Climbs last) at refl) (good.listed.claims x);
    merges = merges_on k s.views id v last at s.words words' refl threes good.listed;
  }

  end_counted : k ≤ c → PassesCounted f k (slice_index words' 0) (set s.views id (Climbs last))
  end_counted le = let z = bump.zero_is in
      counted_on k s.views id v last at f c (slice_index words' 0) 1 refl (ap (λ n. n + 1) (sym not_over)) (omega (arith, z)) (omega (arith, z, le))
      (facts_are, (λ x e. (let y : c ≡ x = some-inj e in omega (arith, y, z))), (λ p e. absurd (some≢none (sym e))), (λ e. refl)) good.counted

  end_stored : k ≤ c → PartsStored stands f k words' s.homes
  end_stored le = let z = bump.zero_is in record {
    tops = λ l h n is set top. good.stored.tops l h n is (settled_same k s.words words' (c + 1) bump step_up pos n set) (top_same k s.words words' (c + 1) bump step_up n top);
    fresh = λ i li lt. absurd (omega (arith, le, z, li, lt));
  }

  pub end_kept : k ≤ c → CrewRule stands f k record { words = words'; homes = s.homes; views = set s.views id (Climbs last) }
  end_kept le = rule_on stands f k s good words' s.homes (set s.views id (Climbs last)) (length-set s.words 0 (c + 1)) refl
      (end_counted le) (marked_more k s.words words' (c + 1) bump step_up pos good.marked) (end_listed le) (end_stored le)

  -- this pass lives and has not ended, so fewer than 64 have
  pub few_fetched : c < k + 64
  few_fetched = let gap = sum_gap is_over lives over_lives s.views id (Climbs v) at in let g = good.counted in let a = g.living in let b = g.few in let d = g.ended in let o = not_over in omega (arith, gap, a, b, d, o)
    where
      over_lives : (u : View F) → is_over u ≤ lives u
      over_lives Spent = omega arith
      over_lives (Climbs u) = one_if_small u.over
      over_lives (Leads u) = omega arith

  pub below_last : (x : ℕ) → v.last ≡ Some x → x < c
  below_last = (good.counted.each id (Climbs v) at).1

module _ {P F : Type 0} (stands : F → P → ℕ → ℕ → Type 0) (count : F → ℕ) (f : F) where
  claims_of : (id : ℕ) (v : Climber F) (carried : List (ℕ × Option P)) → v.held ≡ None → v.over ≡ false
      → Allows (CrewRule stands f (count f)) (count f) id (Climbs v, carried) 0 (λ n. (n + 1) % 2 ^ 64) (ClaimTells count (step (count f) 0 1 0 none) (Climbs v, carried))
  claims_of id v carried free on s good len at lt = cases (dec_le (suc c) k)
    where
      k : ℕ
      k = count f

      c : ℕ
      c = slice_index s.words 0

      few : c < k + 64
      few = few_fetched stands f k s good id v at free on

      small : (c + 1) % 2 ^ 64 ≡ c + 1
      small = let b = good.small in omega (arith, few, b)

      told : (count v.facts ≡ k) × (c < k + 64) × ((x : ℕ) → v.last ≡ Some x → x < c)
      told = (ap count (facts_are stands f k s good id v at free on), few, below_last stands f k s good id v at free on)

      cases : Dec (suc c ≤ k) → (w : View F) × (a : Act (Option P)) × Valid s.homes carried a × CrewRule stands f k (stepped s 0 ((c + 1) % 2 ^ 64) id carried w a) × ClaimTells count (step k 0 1 0 none) (Climbs v, carried) c (w, carried_after carried a)
      cases (yes d) = (
        Climbs (claiming k c v),
        takes c None,
        good.stored.fresh c (omega arith) d,
        subst (λ (n : ℕ). CrewRule stands f k record { words = slice_set s.words 0 n; homes = set s.homes c none; views = set s.views id (Climbs (claiming k c v)) }) (sym small) (claim_kept stands f k s good id v at free on d),
        (told.0, told.1, told.2, inl (d, refl)),
      )
      cases (no d) = (
        Climbs (ending c v),
        keeps,
        tt,
        subst (λ (n : ℕ). CrewRule stands f k record { words = slice_set s.words 0 n; homes = s.homes; views = set s.views id (Climbs (ending c v)) }) (sym small) (end_kept stands f k s good id v at free on (omega (arith, d))),
        (told.0, told.1, told.2, inr (omega (arith, d), refl)),
      )

  pub claims : (slots id : ℕ) (w : View F) (carried : List (ℕ × Option P)) → is_pass w ≡ true → held_of w ≡ None → over_of w ≡ false
      → Allows (CrewRule stands f (count f)) slots id (w, carried) 0 (λ n. (n + 1) % 2 ^ 64) (ClaimTells count (step slots 0 1 0 none) (w, carried))
  claims slots id (Climbs v) carried is free on s good len at lt = let e : count f ≡ slots = sym good.deep ∙ len in
      subst (λ (n : ℕ). (w : View F) × (a : Act (Option P)) × Valid s.homes carried a × CrewRule stands f (count f) (stepped s 0 ((slice_index s.words 0 + 1) % 2 ^ 64) id carried w a) × ClaimTells count (step n 0 1 0 none) (Climbs v, carried) (slice_index s.words 0) (w, carried_after carried a)) e
      (claims_of id v carried free on s good good.deep at lt)
  claims slots id _ carried is free on s good len at lt = absurd (true≢false (sym is))
