-- A pass's numbers rise: what it claimed is at most its last number, and less than the next.
-- For `claim`, `run_crew`, `settle` and `work`.
use Rattle.std.proofs.Common.{◌≡◌, ◌∙◌, ℕ, ◌+◌, ◌-◌, ◌<◌, ◌≤◌, List, [], All, Option, Some, None, refl, ap, sym, subst, ⊎_elim, arith}
use Rattle.std.proofs.lemmas.List.Elements.{All-push}
use Rattle.atomic_table.specs.Table.{Me, Step}
use Rattle.at_crew.specs.declared.view.View.{View}
use Rattle.at_crew.specs.declared.view.View.TheVariants.{Spent, Climbs}
use Rattle.at_crew.specs.Steps.{ClaimTells}
use Rattle.at_crew.specs.Views.{claimed, last_of, adds, rests}
use Rattle.at_crew.proofs.Claims.{some-inj}
use Rattle.at_crew.proofs.Deposits.{me_of}

-- how many numbers below k are above the last one
abbrev pub left_to : ℕ → Option ℕ → ℕ
left_to k None = k + 1
left_to k (Some n) = k - n

module _ {P F : Type 0} (count : F → ℕ) (s : Step (Option P)) (m : List (ℕ × Option P)) (n : ℕ) (w' : Me (Option P) (View F)) where
  pub claim_last : (w : View F) → ClaimTells count s (w, m) n w' → (x : ℕ) → last_of w ≡ Some x → x < n
  claim_last (Climbs v) told = told.2
  claim_last _ told = absurd told

-- all are less than what is more than the last
pub all_less : (last : Option ℕ) (cs : List ℕ) (n : ℕ) → ((x : ℕ) → last ≡ Some x → All (λ m. m ≤ x) cs) → (last ≡ None → cs ≡ []) → ((x : ℕ) → last ≡ Some x → x < n) → All (λ m. m < n) cs
all_less None cs n rising none more = subst (All (λ m. m < n)) (sym (none refl)) (λ k d lt. absurd (omega (arith, lt)))
all_less (Some x) cs n rising none more = λ k d lt. (let a = rising x refl k d lt in let b = more x refl in omega (arith, a, b))

pub all_at_most : (n : ℕ) (cs : List ℕ) → All (λ m. m < n) cs → All (λ m. m ≤ n) cs
all_at_most n cs all = λ k d lt. (let a = all k d lt in omega (arith, a))

-- what was claimed before a claim is less than the number that it found, and what was claimed behind it is at most that
module _ {P F : Type 0} (count : F → ℕ) (s : Step (Option P)) (m : List (ℕ × Option P)) (n : ℕ) (w' : Me (Option P) (View F)) (w : View F) (told : ClaimTells count s (w, m) n w') (last : Option ℕ) (is : last_of w ≡ last)
    (rising : (x : ℕ) → last ≡ Some x → All (λ y. y ≤ x) (claimed w)) (unclaimed : last ≡ None → claimed w ≡ []) where
  pub claim_more : All (λ y. y < n) (claimed w)
  claim_more = all_less last (claimed w) n rising unclaimed (λ x e. claim_last count s m n w' w told x (is ∙ e))

  claimed_then : (w : View F) → ClaimTells count s (w, m) n w' → All (λ y. y < n) (claimed w) → All (λ y. y ≤ n) (claimed w'.0)
  claimed_then (Climbs v) told less = let all = all_at_most n v.claimed less in
      ⊎_elim (λ y. subst (All (λ x. x ≤ n)) (sym (ap (λ (q : Me (Option P) (View F)). claimed q.0) y.1)) (All-push (λ x. x ≤ n) v.claimed n all (omega arith))) (λ y. subst (All (λ x. x ≤ n)) (sym (ap (λ (q : Me (Option P) (View F)). claimed q.0) y.1)) all) told.3
  claimed_then _ told less = absurd told

  pub claim_rises : (x : ℕ) → Some n ≡ Some x → All (λ y. y ≤ x) (claimed w'.0)
  claim_rises x e = subst (λ (k : ℕ). All (λ y. y ≤ k) (claimed w'.0)) (some-inj e) (claimed_then w told claim_more)

-- what settles a part claims nothing
pub settled_same : {P F : Type 0} (old put new : Me (Option P) (View F)) (ns : List ℕ) {slots : List (ℕ × Option P)} → put ≡ me_of old.0 slots → new.0 ≡ adds ns (rests put.0) → claimed new.0 ≡ claimed old.0
settled_same {F = F} old put new ns e e' = ap claimed e' ∙ adds_none_claimed ns put.0 ∙ ap (λ m. claimed m.0) e
  where
    adds_none_claimed : (ns : List ℕ) (w : View F) → claimed (adds ns (rests w)) ≡ claimed w
    adds_none_claimed ns Spent = refl
    adds_none_claimed ns _ = refl
