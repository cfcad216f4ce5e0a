-- Sums whose range is wrapped round, and what they say of trees.
use Rattle.std.proofs.Common.{◌≡◌, ℕ, ◌+◌, ◌%◌, ◌^◌, inl, inr, false, List, [], ◌∷◌, ◌++◌, refl, sym, ◌∙◌, ap, subst, arith}
use Rattle.std.specs.List.{sum, sum_by}
use Rattle.std.proofs.Math.Nat.{mod-add-mod, add-mod-mod}
use Rattle.std.proofs.lemmas.Bool.{true≢false}
use Rattle.std.proofs.lemmas.List.Sums.{sum_by-cons}
use Rattle.at_text.specs.Texts.{is_run}
use Rattle.at_lex.specs.Strings.{JsonString}
use Rattle.at_lex.specs.Runs.{JsonRun}
use Rattle.at_lex.specs.Spans.{AreRun}
use Rattle.at_lex.proofs.RunBytes.{word_run}
use Rattle.at_nest.specs.declared.algebra.Member.{Member}
use Rattle.at_nest.specs.Folds.{IsScalarText, trees, Covers, AreItemFolds, AreMemberFolds}
use Rattle.at_nest.proofs.TreeParts.{array_parts, object_parts}
use Rattle.at_nest.specs.Tree.{Tree, literal, number, text, array, object, Trees, no_trees, tree_and, Members, no_members, member_and, Spells}
use Rattle.at_lex.proofs.Unique.{head_same}
use Rattle.bench_nest.specs.Nodes.{nodes_of, nodes_of_items, nodes_of_members, CountsNodes, CountsMany}

-- ---- a string, literal or number is one value

string_no : (b : ℕ) (w v : List ℕ) → w ≡ b ∷ v → (b ≡ 0x22 → ⊥) → JsonString w → ⊥
string_no b w v e other s = other (head_same b 0x22 v _ (sym e ∙ s.2))

run_no : (b : ℕ) (w v : List ℕ) → w ≡ b ∷ v → is_run b ≡ false → JsonRun w → ⊥
run_no b w v e none r = true≢false (sym (subst AreRun e (word_run w r)).0 ∙ none)

-- neither begins with this byte
no_scalar : (b : ℕ) (w v : List ℕ) → w ≡ b ∷ v → (b ≡ 0x22 → ⊥) → is_run b ≡ false → IsScalarText w → ⊥
no_scalar b w v e other none h = elim h [ inl s ↦ string_no b w v e other s | inr r ↦ run_no b w v e none r ]

pub scalar_counts : (at : ℕ) (w : List ℕ) (t : Tree) → IsScalarText w → Spells at w t → CountsNodes 1 t
scalar_counts at w (literal i l) h s = refl
scalar_counts at w (number i n) h s = refl
scalar_counts at w (text i cs) h s = refl
scalar_counts at w (array i ts) h s = let (f, (v, k, t)) = array_parts ts i at w s in absurd (no_scalar 0x5B w _ k (λ e. omega (arith, e)) refl h)
scalar_counts at w (object i ms) h s = let (f, (v, k, t)) = object_parts ms i at w s in absurd (no_scalar 0x7B w _ k (λ e. omega (arith, e)) refl h)

-- ---- sums

sums_on : (m x s n k : ℕ) → x ≡ n % m → s % m ≡ k % m → (x + s) % m ≡ (n + k) % m
sums_on m x s n k e f = ap (λ z. (z + s) % m) e ∙ (mod-add-mod n m s ∙ (sym (add-mod-mod n s m) ∙ (ap (λ z. (n + z) % m) f ∙ add-mod-mod n k m)))

trees_counted : (us vs : List Tree) → nodes_of_items (trees (us ++ vs)) ≡ nodes_of_items (trees us) + nodes_of_items (trees vs)
trees_counted [] vs = let f : nodes_of_items (trees vs) ≡ 0 + nodes_of_items (trees vs) = omega arith in f
trees_counted (t ∷ us) vs = let f : nodes_of_items (trees (us ++ vs)) ≡ nodes_of_items (trees us) + nodes_of_items (trees vs) = trees_counted us vs in omega (arith, f)

covers_counted : (x : ℕ) (us : List Tree) → Covers CountsNodes CountsMany x us → x ≡ nodes_of_items (trees us) % 2 ^ 64
covers_counted x us (inl (t, e, h)) = h ∙ (ap (λ z. z % 2 ^ 64) (let f : nodes_of t ≡ nodes_of t + 0 = omega arith in f) ∙ ap (λ z. nodes_of_items (trees z) % 2 ^ 64) (sym e))
covers_counted x us (inr h) = h

items_counted : (xs : List ℕ) (ts : List Tree) → AreItemFolds CountsNodes CountsMany xs ts → sum xs % 2 ^ 64 ≡ nodes_of_items (trees ts) % 2 ^ 64
items_counted [] ts e = ap (λ z. nodes_of_items (trees z) % 2 ^ 64) (sym e)
items_counted (x ∷ xs) ts (us, vs, e, k, h) = ap (λ z. z % 2 ^ 64) (sum_by-cons (λ y. y) x xs)
    ∙ (sums_on (2 ^ 64) x (sum xs) (nodes_of_items (trees us)) (nodes_of_items (trees vs)) (covers_counted x us k) (items_counted xs vs h)
    ∙ ap (λ z. z % 2 ^ 64) (sym (trees_counted us vs) ∙ ap (λ z. nodes_of_items (trees z)) (sym e)))

members_counted : (xs : List (Member ℕ)) (ms : Members) → AreMemberFolds CountsNodes xs ms → sum_by (λ m. m.value) xs % 2 ^ 64 ≡ nodes_of_members ms % 2 ^ 64
members_counted [] no_members h = refl
members_counted (x ∷ xs) (member_and name i t ms) h = ap (λ z. z % 2 ^ 64) (sum_by-cons (λ (y : Member ℕ). y.value) x xs) ∙ sums_on (2 ^ 64) x.value (sum_by (λ (y : Member ℕ). y.value) xs) (nodes_of t) (nodes_of_members ms) h.2 (members_counted xs ms h.3)
members_counted [] (member_and name i t ms) h = absurd h
members_counted (x ∷ xs) no_members h = absurd h

one_more : (m s k : ℕ) → s % m ≡ k % m → (s % m + 1) % m ≡ (1 + k) % m
one_more m s k e = ap (λ z. (z + 1) % m) e ∙ (mod-add-mod k m 1 ∙ ap (λ z. z % m) (let f : k + 1 ≡ 1 + k = omega arith in f))

pub array_counts : (at : ℕ) (xs : List ℕ) (ts : List Tree) → AreItemFolds CountsNodes CountsMany xs ts → CountsNodes ((sum xs % 2 ^ 64 + 1) % 2 ^ 64) (array at (trees ts))
array_counts at xs ts h = one_more (2 ^ 64) (sum xs) (nodes_of_items (trees ts)) (items_counted xs ts h)

pub object_counts : (at : ℕ) (xs : List (Member ℕ)) (ms : Members) → AreMemberFolds CountsNodes xs ms → CountsNodes ((sum_by (λ m. m.value) xs % 2 ^ 64 + 1) % 2 ^ 64) (object at ms)
object_counts at xs ms h = one_more (2 ^ 64) (sum_by (λ (y : Member ℕ). y.value) xs) (nodes_of_members ms) (members_counted xs ms h)
