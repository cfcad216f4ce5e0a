-- What a deposit at a parent changes: the word of the parent p of node n, and slots of blocks that the pass's node spans.
-- For `claim`, `run_crew`, `settle` and `work`.
use Rattle.std.proofs.Common.{◌≡◌, ◌≢◌, ℕ, ◌+◌, ◌*◌, ◌/◌, ◌%◌, ◌<◌, ◌⊎◌, Option, bit_or, List, set, length, slice_index, slice_set, refl, sym, ap, ◌∙◌, subst, inl, inr, arith, length-set}
use mathlib.Core.Option as maybe
use lib.ListN.{get_elem?}
use native.Mathlib.Decide.{ℕ_discrete}
use Rattle.atomic_table.proofs.Lists.{set_else}
use Rattle.std.proofs.lemmas.Bool.{cases_eq}
use Rattle.at_crew.specs.Nodes.{bit_of, Settled}
use Rattle.at_crew.specs.Rule.{WordsMarked}
use Rattle.at_crew.proofs.Tree.{Spans}
use Rattle.at_crew.proofs.Sums.{word_here, word_else}

-- only word p changes
pub record Turned (words words' : List ℕ) (p u : ℕ) : Type 0 where
  pub here : slice_index words' p ≡ u
  pub others : (n : ℕ) → n ≢ p → slice_index words' n ≡ slice_index words n

pub turned_at : (words : List ℕ) (p u : ℕ) → p < length words → Turned words (slice_set words p u) p u
turned_at words p u lt = record { here = word_here words p u lt; others = λ n ne. word_else words p n u ne }

-- slots change only where the node spans
pub record Laid {P : Type 0} (k h n : ℕ) (homes homes' : List (maybe.Option (Option P))) : Type 0 where
  pub long : length homes' ≡ length homes
  pub others : (i : ℕ) → (¬ Spans k h n i) → get_elem? homes' i ≡ get_elem? homes i

pub laid_same : {P : Type 0} (k h n : ℕ) (homes : List (maybe.Option (Option P))) → Laid k h n homes homes
laid_same k h n homes = record { long = refl; others = λ i out. refl }

pub laid_set : {P : Type 0} (k h n : ℕ) (homes homes' : List (maybe.Option (Option P))) (o : ℕ) (x : maybe.Option (Option P)) → Spans k h n o → Laid k h n homes homes' → Laid k h n homes (set homes' o x)
laid_set k h n homes homes' o x inside laid = record { long = length-set homes' o x ∙ laid.long; others = λ i out. set_else homes' o i x (λ e. out (subst (λ (j : ℕ). Spans k h n j) (sym e) inside)) ∙ laid.others i out }

-- the node's bit is not in its parent's word u
pub or_first : (n u : ℕ) → u ≡ 0 → bit_or u (bit_of n) ≡ bit_of n
or_first n u e = ap (λ (x : ℕ). bit_or x (bit_of n)) e

pub or_second : (n u : ℕ) → u + bit_of n ≡ 3 → bit_or u (bit_of n) ≡ 3
or_second n u e = cases (ℕ_discrete (n % 2) 0)
  where
    cases : Dec (n % 2 ≡ 0) → bit_or u (bit_of n) ≡ 3
    cases (yes z) = let b : bit_of n ≡ 1 = omega (arith, z) in let u' : u ≡ 2 = omega (arith, e, z) in ap (λ (x : ℕ). bit_or x (bit_of n)) u' ∙ ap (λ (x : ℕ). bit_or 2 x) b
    cases (no z) = let b : bit_of n ≡ 2 = omega (arith, z) in let u' : u ≡ 1 = omega (arith, e, z) in ap (λ (x : ℕ). bit_or x (bit_of n)) u' ∙ ap (λ (x : ℕ). bit_or 1 x) b

-- the two words that the parent of a node that is not settled can have
pub found_words : (k : ℕ) (words : List ℕ) (n : ℕ) → WordsMarked k words → 1 < n → n < 2 * k → (¬ Settled k words n) → (slice_index words (n / 2) ≡ 0) ⊎ (slice_index words (n / 2) + bit_of n ≡ 3)
found_words k words n marked lt small not =
    let four = marked.two_bits (n / 2) (omega (arith, lt)) (omega (arith, small)) in
    let not_bit : ¬ (slice_index words (n / 2) ≡ bit_of n) = λ e. not (inr (lt, inl e)) in
    let not_both : ¬ (slice_index words (n / 2) ≡ 3) = λ e. not (inr (lt, inr e)) in
    elim (cases_eq (slice_index words (n / 2)) 0) [ inl e ↦ inl e | inr ne ↦ inr (omega (arith, four, not_bit, not_both, ne)) ]
