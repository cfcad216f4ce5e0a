-- Offsets that rise: each stands once, so a pair of offsets names one pair of entries.
-- For `cell_pairs`, `merge`, `new`, `pairs_grid`, `pairs_plain` and `run`.
use Rattle.std.proofs.Common.{◌≡◌, ◌≢◌, ℕ, zero, suc, ◌+◌, ◌<◌, ◌==◌, Bool, true, false, ◌&&◌, cond, List, [], ◌∷◌, ◌++◌, map, Option, Some, None, inl, inr, arith, refl, sym, ap, subst, ◌∙◌}
use Rattle.std.specs.Prelude.{count_by, sum_by, Contains}
use Rattle.std.specs.List.{AllByRecursion}
use Rattle.std.specs.List.Sorted.{IsPermutation}
use Rattle.std.proofs.lemmas.Bool.{eq-eqb, ne_eqb}
use Rattle.std.proofs.lemmas.List.Sums.{sum_by-append, sum_by-cons}
use Rattle.std.proofs.lemmas.List.Sorted.{sum_by-IsPermutation}
use Rattle.at_text.specs.Lists.{SomeOf}
use Rattle.at_geom.specs.declared.rectangles.Extent.{Extent}
use Rattle.at_query.specs.declared.answer.parts.Entry.{Entry}
use Rattle.at_query.specs.declared.answer.answers.Pair.{Pair}
use Rattle.at_query.specs.Parts.{AreRising}
use Rattle.at_join.specs.declared.outlines.Outline.{Outline}
use Rattle.at_query.specs.Results.{pairs_of}
use Rattle.at_join.specs.Cells.{is_pair, times}
use Rattle.at_join.specs.Sides.{outline_of, outlined}
use Rattle.at_join.proofs.FoundLists.{count_joined, count_mapped}

abbrev pub In : {X : Type 0} → X → List X → Type 0
In {X} x xs = SomeOf (λ (y : X). y ≡ x) xs

pub in_from : {X : Type 0} (xs : List X) (x : X) → Contains xs x → In x xs
in_from [] x (k, lt, e) = absurd (omega (arith, lt))
in_from (y ∷ ys) x (zero, lt, e) = inl e
in_from (y ∷ ys) x (suc k, lt, e) = inr (in_from ys x (k, omega (arith, lt), e))

pub contains_from : {X : Type 0} (xs : List X) (x : X) → In x xs → Contains xs x
contains_from [] x h = absurd h
contains_from (y ∷ ys) x (inl e) = (zero, omega arith, e)
contains_from (y ∷ ys) x (inr h) = let (k, lt, e) = contains_from ys x h in (suc k, omega (arith, lt), e)

pub of_all : {X : Type 0} (P : X → Type 0) (xs : List X) (x : X) → AllByRecursion P xs → In x xs → P x
of_all P [] x all h = absurd h
of_all P (y ∷ ys) x all (inl e) = subst P e all.0
of_all P (y ∷ ys) x all (inr h) = of_all P ys x all.1 h

-- ---- rising offsets

abbrev pub Rises : List Entry → Type 0
Rises es = AreRising (map (λ (e : Entry). e.at) es)

abbrev pub AreAbove : ℕ → List Entry → Type 0
AreAbove n es = AllByRecursion (λ (e : Entry). n < e.at) es

raised : (n m : ℕ) (es : List Entry) → n < m → AreAbove m es → AreAbove n es
raised n m [] lt h = tt
raised n m (e ∷ es) lt h = (omega (arith, h.0, lt), raised n m es lt h.1)

pub above : (e : Entry) (es : List Entry) → Rises (e ∷ es) → AreAbove e.at es
above e [] h = tt
above e (f ∷ es) h = (h.0, raised e.at f.at es h.0 (above f es h.1))

pub rest_rises : (e : Entry) (es : List Entry) → Rises (e ∷ es) → Rises es
rest_rises e [] h = tt
rest_rises e (f ∷ es) h = h.1

-- one offset, one entry
pub one_entry : (es : List Entry) (e f : Entry) → Rises es → In e es → In f es → e.at ≡ f.at → e ≡ f
one_entry [] e f r h k same = absurd h
one_entry (x ∷ es) e f r (inl h) (inl k) same = sym h ∙ k
one_entry (x ∷ es) e f r (inl h) (inr k) same = absurd (let lt = of_all (λ (y : Entry). x.at < y.at) es f (above x es r) k in let s = ap (λ (y : Entry). y.at) h in omega (arith, lt, s, same))
one_entry (x ∷ es) e f r (inr h) (inl k) same = absurd (let lt = of_all (λ (y : Entry). x.at < y.at) es e (above x es r) h in let s = ap (λ (y : Entry). y.at) k in omega (arith, lt, s, same))
one_entry (x ∷ es) e f r (inr h) (inr k) same = one_entry es e f (rest_rises x es r) h k same

-- ---- sums in which one offset counts

no_other : (w : Entry → ℕ) (n : ℕ) (es : List Entry) → ((e : Entry) → e.at ≢ n → w e ≡ 0) → AreAbove n es → sum_by w es ≡ 0
no_other w n [] none h = refl
no_other w n (e ∷ es) none h =
    let off = none e (λ s. let lt = h.0 in omega (arith, lt, s)) in
    omega (arith, sum_by-cons w e es, off, no_other w n es none h.1)

sum_one : (w : Entry → ℕ) (n : ℕ) (es : List Entry) (e : Entry) → ((e : Entry) → e.at ≢ n → w e ≡ 0) → Rises es → In e es → e.at ≡ n → sum_by w es ≡ w e
sum_one w n [] e none r h at = absurd h
sum_one w n (y ∷ es) e none r (inl h) at =
    let rest = no_other w n es none (subst (λ m. AreAbove m es) (ap (λ (z : Entry). z.at) h ∙ at) (above y es r)) in
    omega (arith, sum_by-cons w y es, rest, ap w h)
sum_one w n (y ∷ es) e none r (inr h) at =
    let lt = of_all (λ (z : Entry). y.at < z.at) es e (above y es r) h in
    let off = none y (λ s. omega (arith, lt, s, at)) in
    omega (arith, sum_by-cons w y es, off, sum_one w n es e none (rest_rises y es r) h at)

-- an entry has its offset once
pub entry_once : (n : ℕ) (es : List Entry) (e : Entry) → Rises es → In e es → e.at ≡ n → count_by (λ (z : Entry). z.at == n) es ≡ 1
entry_once n es e r h at = sum_one (λ z. cond (z.at == n) 1 0) n es e (λ z ne. ap {B = ℕ} (λ b. cond b 1 0) (ne_eqb z.at n ne)) r h at ∙ ap {B = ℕ} (λ b. cond b 1 0) (eq-eqb e.at n at)

-- what an extent counts, where there is one
abbrev pub optional : (Extent → ℕ) → Option Extent → ℕ
optional w None = 0
optional w (Some x) = w x

outline_sum : (w : ℕ → Extent → ℕ) (k at : ℕ) (o : Option Extent) → sum_by (λ (q : Outline). w q.at q.extent) (outline_of k at o) ≡ optional (w at) o
outline_sum w k at None = refl
outline_sum w k at (Some x) = let e = sum_by-cons (λ (q : Outline). w q.at q.extent) (record { extent = x; at = at; index = k }) [] in omega (arith, e)

pub outlined_sum : (w : ℕ → Extent → ℕ) (k : ℕ) (es : List Entry) → sum_by (λ (q : Outline). w q.at q.extent) (outlined k es) ≡ sum_by (λ (e : Entry). optional (w e.at) e.extent) es
outlined_sum w k [] = refl
outlined_sum w k (e ∷ es) =
    let parts = sum_by-append (λ (q : Outline). w q.at q.extent) (outline_of k e.at e.extent) (outlined (k + 1) es) in
    let one = outline_sum w k e.at e.extent in
    let rest = outlined_sum w (k + 1) es in
    let whole = sum_by-cons (λ (z : Entry). optional (w z.at) z.extent) e es in
    omega (arith, parts, one, rest, whole)

none_here : (m : ℕ) (o : Option Extent) → m ≡ 0 → optional (λ x. m) o ≡ 0
none_here m None e = refl
none_here m (Some x) e = e

-- an entry with an extent has one outline
pub outline_once : (n : ℕ) (es : List Entry) (outlines : List Outline) (e : Entry) (x : Extent) → IsPermutation (outlined 0 es) outlines → Rises es → In e es → e.at ≡ n → e.extent ≡ Some x → count_by (λ (q : Outline). q.at == n) outlines ≡ 1
outline_once n es outlines e x moved r h at is =
    let w : ℕ → Extent → ℕ = λ m y. cond (m == n) 1 0 in
    sum_by-IsPermutation (λ q. cond (q.at == n) 1 0) (outlined 0 es) outlines moved
    ∙ outlined_sum w 0 es
    ∙ sum_one (λ z. optional (w z.at) z.extent) n es e (λ z ne. none_here (cond (z.at == n) 1 0) z.extent (ap {B = ℕ} (λ b. cond b 1 0) (ne_eqb z.at n ne))) r h at
    ∙ ap (optional (w e.at)) is
    ∙ ap {B = ℕ} (λ b. cond b 1 0) (eq-eqb e.at n at)

-- ---- how often a pair of offsets stands among the pairs

-- where each element has a number, and a pair those of its elements
module _ {X : Type 0} (number : X → ℕ) (made : X × X → Pair) (is : (x y : X) → made (x, y) ≡ record { first = number x; second = number y }) where
  row_times : (p : Pair) (q : X) (ys : List X) (b : Bool) → (number q == p.first) ≡ b → count_by (λ (y : X). is_pair p (made (q, y))) ys ≡ cond b (count_by (λ (y : X). number y == p.second) ys) 0
  row_times p q [] true e = refl
  row_times p q [] false e = refl
  row_times p q (y ∷ ys) true e =
      sum_by-cons (λ (z : X). cond (is_pair p (made (q, z))) 1 0) y ys
      ∙ ap (λ n. cond (is_pair p (made (q, y))) 1 0 + n) (row_times p q ys true e)
      ∙ ap (λ (r : Pair). cond (is_pair p r) 1 0 + count_by (λ (z : X). number z == p.second) ys) (is q y)
      ∙ ap (λ b. cond (b && (number y == p.second)) 1 0 + count_by (λ (z : X). number z == p.second) ys) e
      ∙ sym (sum_by-cons (λ (z : X). cond (number z == p.second) 1 0) y ys)
  row_times p q (y ∷ ys) false e =
      sum_by-cons (λ (z : X). cond (is_pair p (made (q, z))) 1 0) y ys
      ∙ ap (λ n. cond (is_pair p (made (q, y))) 1 0 + n) (row_times p q ys false e)
      ∙ ap (λ (r : Pair). cond (is_pair p r) 1 0 + 0) (is q y)
      ∙ ap (λ b. cond (b && (number y == p.second)) 1 0 + 0) e

  one_row : (b : Bool) (n : ℕ) → n ≡ 1 → cond b n 0 ≡ cond b 1 0
  one_row b n e = ap (λ m. cond b m 0) e

  pub pair_times : (p : Pair) (xs ys : List X) → count_by (λ (y : X). number y == p.second) ys ≡ 1 → times p (map made (pairs_of xs ys)) ≡ count_by (λ (x : X). number x == p.first) xs
  pair_times p [] ys one = refl
  pair_times p (q ∷ xs) ys one =
      let row : List (X × X) = map (λ (y : X). (q, y)) ys in
      let whole = count_mapped (is_pair p) made (row ++ pairs_of xs ys) in
      let parts = count_joined (λ (z : X × X). is_pair p (made z)) row (pairs_of xs ys) in
      let first = count_mapped (λ (z : X × X). is_pair p (made z)) (λ (y : X). (q, y)) ys ∙ (row_times p q ys (number q == p.first) refl ∙ one_row (number q == p.first) _ one) in
      let rest = sym (count_mapped (is_pair p) made (pairs_of xs ys)) ∙ pair_times p xs ys one in
      let goal = sum_by-cons (λ (x : X). cond (number x == p.first) 1 0) q xs in
      omega (arith, whole, parts, first, rest, goal)
