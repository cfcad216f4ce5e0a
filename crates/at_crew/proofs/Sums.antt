-- Sums over all views when one changes, and counts of a number.
-- For most public calls of the crate, `claim`, `close`, `pass` among them.
use Rattle.std.proofs.Common.{◌≡◌, ◌≢◌, ℕ, zero, suc, ◌+◌, ◌<◌, ◌≤◌, ◌==◌, eq-eqb, ne_eqb, Bool, true, false, cond, List, [], ◌∷◌, ◌++◌, set, length, sum_by, slice_index, refl, sym, ap, ◌∙◌, subst, inl, inr, arith}
use Rattle.std.proofs.lemmas.List.Sums.{sum_by-cons, sum_by-append, sum_by_push}
use Rattle.std.proofs.lemmas.Bool.{cases_eq}
use Rattle.std.proofs.lemmas.List.{get_or-set_same, get_or-set_other}
use mathlib.Core.Option.{some, some-injective, some-ne-none}
use lib.ListN.{get_elem?}
use Rattle.at_crew.specs.Views.{one_if, times}
use Rattle.at_crew.specs.Rule.{OneWhere}

module _ {V : Type 0} (f : V → ℕ) where
  pub sum_at : (views : List V) (id : ℕ) (v w : V) → get_elem? views id ≡ some v → sum_by f (set views id w) + f v ≡ sum_by f views + f w
  sum_at [] id v w e = absurd (some-ne-none v (sym e))
  sum_at (x ∷ xs) zero v w e = let a = sum_by-cons f w xs in let b = sum_by-cons f x xs in let x' : f x ≡ f v = ap f (some-injective x v e) in omega (arith, a, b, x')
  sum_at (x ∷ xs) (suc id) v w e = let a = sum_by-cons f x (set xs id w) in let b = sum_by-cons f x xs in let r = sum_at xs id v w e in omega (arith, a, b, r)

  -- a view that counts as the one before it
  pub sum_same : (views : List V) (id : ℕ) (v w : V) → get_elem? views id ≡ some v → f w ≡ f v → sum_by f (set views id w) ≡ sum_by f views
  sum_same views id v w e same = let s = sum_at views id v w e in omega (arith, s, same)

  -- a view that counts for n more
  pub sum_more : (n : ℕ) (views : List V) (id : ℕ) (v w : V) → get_elem? views id ≡ some v → f w ≡ f v + n → sum_by f (set views id w) ≡ sum_by f views + n
  sum_more n views id v w e more = let s = sum_at views id v w e in omega (arith, s, more)

  pub sum_less : (n : ℕ) (views : List V) (id : ℕ) (v w : V) → get_elem? views id ≡ some v → f v ≡ f w + n → sum_by f (set views id w) + n ≡ sum_by f views
  sum_less n views id v w e less = let s = sum_at views id v w e in omega (arith, s, less)

  pub sum_ge : (views : List V) (id : ℕ) (v : V) → get_elem? views id ≡ some v → f v ≤ sum_by f views
  sum_ge [] id v e = absurd (some-ne-none v (sym e))
  sum_ge (x ∷ xs) zero v e = let b = sum_by-cons f x xs in let x' : f x ≡ f v = ap f (some-injective x v e) in omega (arith, b, x')
  sum_ge (x ∷ xs) (suc id) v e = let b = sum_by-cons f x xs in let r = sum_ge xs id v e in omega (arith, b, r)

-- what holds of one number, and of all others, holds of each
pub one_or_other : (P : ℕ → Type 0) (n m : ℕ) → P n → (m ≢ n → P m) → P m
one_or_other P n m here other = elim (cases_eq m n) [ inl e ↦ subst P (sym e) here | inr ne ↦ other ne ]

pub hit : (a b : ℕ) → a ≡ b → one_if (a == b) ≡ 1
hit a b e = ap one_if (eq-eqb a b e)

pub miss : (a b : ℕ) → a ≢ b → one_if (a == b) ≡ 0
miss a b ne = ap one_if (ne_eqb a b ne)

pub times_more : (x n : ℕ) (xs : List ℕ) → times x (xs ++ n ∷ []) ≡ times x xs + one_if (n == x)
times_more x n xs = sum_by_push (λ (y : ℕ). cond (y == x) 1 0) xs n

pub times_both : (x : ℕ) (xs ys : List ℕ) → times x (xs ++ ys) ≡ times x xs + times x ys
times_both x xs ys = sum_by-append (λ (y : ℕ). cond (y == x) 1 0) xs ys

pub counts_same : (p q : Type 0) (m n : ℕ) → (p → q) → (q → p) → n ≡ m → OneWhere p m → OneWhere q n
counts_same p q m n to from e (inl h) = inl (to h.0, e ∙ h.1)
counts_same p q m n to from e (inr h) = inr ((λ x. h.0 (from x)), e ∙ h.1)

pub counts_one : (p : Type 0) (n : ℕ) → p → OneWhere p n → n ≡ 1
counts_one p n h (inl x) = x.1
counts_one p n h (inr x) = absurd (x.0 h)

pub counts_zero : (p : Type 0) (n : ℕ) → (¬ p) → OneWhere p n → n ≡ 0
counts_zero p n h (inl x) = absurd (h x.0)
counts_zero p n h (inr x) = x.1

pub counts_yes : (p : Type 0) (n : ℕ) → 0 < n → OneWhere p n → p
counts_yes p n h (inl x) = x.0
counts_yes p n h (inr x) = absurd (omega (arith, h, x.1))

pub one_if_small : (b : Bool) → one_if b ≤ 1
one_if_small true = omega arith
one_if_small false = omega arith

pub word_here : (ws : List ℕ) (i n : ℕ) → i < length ws → slice_index (set ws i n) i ≡ n
word_here ws i n lt = get_or-set_same ws i n 0 lt

pub word_else : (ws : List ℕ) (i j n : ℕ) → j ≢ i → slice_index (set ws i n) j ≡ slice_index ws j
word_else ws i j n ne = get_or-set_other ws i j n 0 ne

pub sum_le : {V : Type 0} (f g : V → ℕ) → ((v : V) → f v ≤ g v) → (views : List V) → sum_by f views ≤ sum_by g views
sum_le f g le [] = omega arith
sum_le f g le (x ∷ xs) = let a = sum_by-cons f x xs in let b = sum_by-cons g x xs in let r = sum_le f g le xs in let l = le x in omega (arith, a, b, r, l)

-- where f is never more than g, it is less in sum by what it is less at one place
pub sum_gap : {V : Type 0} (f g : V → ℕ) → ((v : V) → f v ≤ g v) → (views : List V) (id : ℕ) (v : V) → get_elem? views id ≡ some v → sum_by f views + g v ≤ sum_by g views + f v
sum_gap f g le [] id v e = absurd (some-ne-none v (sym e))
sum_gap f g le (x ∷ xs) zero v e = let a = sum_by-cons f x xs in let b = sum_by-cons g x xs in let x' : f x ≡ f v = ap f (some-injective x v e) in let y' : g x ≡ g v = ap g (some-injective x v e) in let r = sum_le f g le xs in omega (arith, a, b, x', y', r)
sum_gap f g le (x ∷ xs) (suc id) v e = let a = sum_by-cons f x xs in let b = sum_by-cons g x xs in let r = sum_gap f g le xs id v e in let l = le x in omega (arith, a, b, r, l)

pub sum_none : {V : Type 0} (f e g : V → ℕ) → ((v : V) → f v ≡ 0 → e v ≡ 0 → g v ≡ 0) → (views : List V) → sum_by f views ≡ 0 → sum_by e views ≡ 0 → sum_by g views ≡ 0
sum_none f e g none [] a b = refl
sum_none f e g none (x ∷ xs) a b = let p = sum_by-cons f x xs in let q = sum_by-cons e x xs in let r = sum_by-cons g x xs in let z = none x (omega (arith, a, p)) (omega (arith, b, q)) in
    let rest = sum_none f e g none xs (omega (arith, a, p)) (omega (arith, b, q)) in omega (arith, r, z, rest)

-- where one view is all that f counts, and e counts none, g counts no other
pub sum_only : {V : Type 0} (f e g : V → ℕ) → ((v : V) → f v ≡ 0 → e v ≡ 0 → g v ≡ 0) → (views : List V) (id : ℕ) (v : V) → get_elem? views id ≡ some v → sum_by f views ≡ f v → sum_by e views ≡ 0 → sum_by g views ≡ g v
sum_only f e g none [] id v at a b = absurd (some-ne-none v (sym at))
sum_only f e g none (x ∷ xs) zero v at a b = let p = sum_by-cons f x xs in let q = sum_by-cons e x xs in let r = sum_by-cons g x xs in let f' : f x ≡ f v = ap f (some-injective x v at) in let g' : g x ≡ g v = ap g (some-injective x v at) in
    let rest = sum_none f e g none xs (omega (arith, a, p, f')) (omega (arith, b, q)) in omega (arith, r, g', rest)
sum_only f e g none (x ∷ xs) (suc id) v at a b = let p = sum_by-cons f x xs in let q = sum_by-cons e x xs in let r = sum_by-cons g x xs in let ge = sum_ge f xs id v at in
    let z = none x (omega (arith, a, p, ge)) (omega (arith, b, q)) in let rest = sum_only f e g none xs id v at (omega (arith, a, p, ge)) (omega (arith, b, q)) in omega (arith, r, z, rest)

pub sum_zeros : {V : Type 0} (views : List V) → sum_by (λ (v : V). 0) views ≡ 0
sum_zeros {V} [] = refl
sum_zeros {V} (x ∷ xs) = let p = sum_by-cons (λ (v : V). 0) x xs in let r = sum_zeros xs in omega (arith, p, r)
