-- What lies below a made node is settled, so two nodes with nothing made above them share no block.
-- For most public calls of the crate, `claim`, `close`, `pass` among them.
use Rattle.std.proofs.Common.{◌≡◌, ℕ, zero, suc, ◌+◌, ◌-◌, ◌*◌, ◌/◌, ◌<◌, List, slice_index, sym, subst, inl, inr, ⊎_elim, arith}
use Rattle.std.proofs.lemmas.Bool.{cases_lt, cases_eq}
use Rattle.at_crew.specs.Nodes.{IsNode, Made, Settled, IsTop}
use Rattle.at_crew.specs.Rule.{WordsMarked}
use Rattle.at_crew.proofs.Tree.{up, up_reaches, Spans, node_pos, node_bound}

module _ (k : ℕ) (words : List ℕ) (marked : WordsMarked k words) where
  -- a made inner node has both bits
  pub both_bits : (n : ℕ) → n < k → Made k words n → slice_index words n ≡ 3
  both_bits n lt (inl m) = absurd (omega (arith, m.0, lt))
  both_bits n lt (inr m) = m.1

  pub under : (n : ℕ) → 1 < n → slice_index words (n / 2) ≡ 3 → Settled k words n
  under n lt e = inr (lt, inr e)

  -- what is j + 1 steps below a made node is settled, and its parent has both bits
  pub settled_below : (j n m : ℕ) → 0 < m → n < 2 * k → up (suc j) n ≡ m → Made k words m → (1 < n) × (slice_index words (n / 2) ≡ 3)
  settled_below zero n m pos lt e made = let here : Made k words (n / 2) = subst (λ (x : ℕ). Made k words x) (sym e) made in let p : 0 < n / 2 = omega (arith, pos, e) in
      (omega (arith, p), both_bits (n / 2) (omega (arith, lt)) here)
  settled_below (suc j) n m pos lt e made = let r = settled_below j (n / 2) m pos (omega (arith, lt)) e made in let p : 1 < n / 2 = r.0 in
      let s : Settled k words (n / 2) = under (n / 2) r.0 r.1 in let m' : Made k words (n / 2) = marked.below (n / 2) (omega (arith, p)) (omega (arith, lt)) s in
      (omega (arith, p), both_bits (n / 2) (omega (arith, lt)) m')

  not_below : (j n m : ℕ) → 0 < m → n < 2 * k → up j n ≡ m → Made k words m → IsTop k words n → n ≡ m
  not_below zero n m pos lt e made top = e
  not_below (suc j) n m pos lt e made (inl one) = let r = settled_below j n m pos lt e made in absurd (omega (arith, r.0, one))
  not_below (suc j) n m pos lt e made (inr top) = let r = settled_below j n m pos lt e made in absurd (top.1 r.1)

  -- two made nodes that have a block in common, with nothing made above either, are one
  pub apart : (l h n l' h' m x : ℕ) → IsNode k l h n → IsNode k l' h' m → Spans k h n x → Spans k h' m x → Made k words n → Made k words m → IsTop k words n → IsTop k words m → n ≡ m
  apart l h n l' h' m x isn ism sn sm maden madem topn topm = elim (cases_lt h' h) [
    | inr le ↦
        let e : h' ≡ h + (h' - h) = omega (arith, le) in
        not_below (h' - h) n m (node_pos k l' h' m ism) (node_bound k l h n isn) (up_reaches k h n m x (h' - h) sn (subst (λ (i : ℕ). Spans k i m x) e sm)) madem topn
    | inl gt ↦
        let e : h ≡ h' + (h - h') = omega (arith, gt) in
        sym (not_below (h - h') m n (node_pos k l h n isn) (node_bound k l' h' m ism) (up_reaches k h' m n x (h - h') sm (subst (λ (i : ℕ). Spans k i n x) e sn)) maden topm)
  ]

  leaf_span : (x : ℕ) → Spans k 0 (k + x) x
  leaf_span x = (omega arith, omega arith)

  claimed_at : (h n x : ℕ) → 0 < n → x < k → up h (k + x) ≡ n → Made k words n → x < slice_index words 0
  claimed_at zero n x pos lt e made = ⊎_elim (λ m. omega (arith, m.1, e)) (λ m. absurd (omega (arith, m.0, e))) made
  claimed_at (suc h) n x pos lt e made = let r = settled_below h (k + x) n pos (omega (arith, lt)) e made in
      ⊎_elim (λ m. omega (arith, m.1)) (λ m. absurd (omega (arith, m.0))) (marked.below (k + x) (omega (arith, r.0)) (omega (arith, lt)) (under (k + x) r.0 r.1))

  -- each block of a made node was claimed
  pub all_claimed : (h n x : ℕ) → 0 < n → x < k → Spans k h n x → Made k words n → x < slice_index words 0
  all_claimed h n x pos lt s made = let e : h ≡ 0 + h = omega arith in claimed_at h n x pos lt (up_reaches k 0 (k + x) n x h (leaf_span x) (subst (λ (i : ℕ). Spans k i n x) e s)) made

  -- a node that is not settled has nothing made above it
  pub held_is_top : (n : ℕ) → 0 < n → (¬ Settled k words n) → IsTop k words n
  held_is_top n pos not = elim (cases_eq n 1) [ inl e ↦ inl e | inr ne ↦ inr (omega (arith, pos, ne), λ e. not (under n (omega (arith, pos, ne)) e)) ]
