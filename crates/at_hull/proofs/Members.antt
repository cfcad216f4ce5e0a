-- Elements of lists, joined and turned round.
-- For most public calls of the crate, `add`, `covers`, `covers_all` among them.
use Rattle.std.proofs.Common.{◌≡◌, ◌⊎◌, inl, inr, zero, suc, List, [], ◌∷◌, ◌++◌, get_or, reverse, All, Contains, arith, sym, ap, ◌∙◌, subst, refl, IsPermutation}
use Rattle.std.proofs.lemmas.List.{reverse-append, append_assoc}
use Rattle.std.proofs.lemmas.List.Sorted.{All-permutation, IsPermutation-sym, IsPermutation-reverse}
use Rattle.std.proofs.lemmas.List.Elements.{All-contains, All-contains_itself, All-weaker, Contains-get_or, Contains-append_left, Contains-append_right, Contains-append_cases}
use Rattle.at_geom.specs.declared.positions.Pos.{Pos}
use Rattle.at_hull.specs.Hulls.{AreDifferent}

-- ---- an element is the first, or one of those behind it

pub at_first : (p x : Pos) (xs : List Pos) → p ≡ x → Contains (x ∷ xs) p
at_first p x xs e = (0, omega arith, sym e)

pub at_later : (p x : Pos) (xs : List Pos) → Contains xs p → Contains (x ∷ xs) p
at_later p x xs m = (suc m.0, omega (arith, m.1), m.2)

pub first_or_later : (p x : Pos) (xs : List Pos) → Contains (x ∷ xs) p → (p ≡ x) ⊎ Contains xs p
first_or_later p x xs (zero, l, e) = inl (sym e)
first_or_later p x xs (suc k, l, e) = inr (k, omega (arith, l), e)

pub in_none : (p : Pos) → Contains [] p → ⊥
in_none p m = omega (arith, m.1)

pub only_one : (a p : Pos) → Contains (a ∷ []) p → p ≡ a
only_one a p m = elim (first_or_later p a [] m) [ inl e ↦ e | inr n ↦ absurd (in_none p n) ]

-- ---- all elements

pub all_by : (P : Pos → Type 0) (xs : List Pos) → ((p : Pos) → Contains xs p → P p) → All P xs
all_by P xs f = λ k d l. f (get_or xs k d) (Contains-get_or xs k d l)

-- what holds of all positions holds of some of them
pub all_of_fewer : (P : Pos → Type 0) (xs ps : List Pos) → All (Contains ps) xs → All P ps → All P xs
all_of_fewer P xs ps h f = All-weaker (Contains ps) P (λ p m. All-contains P ps p f m) xs h

pub all_left : (P : Pos → Type 0) (xs ys : List Pos) → All P (xs ++ ys) → All P xs
all_left P xs ys f = all_by P xs (λ p m. All-contains P (xs ++ ys) p f (Contains-append_left xs ys p m))

pub all_right : (P : Pos → Type 0) (xs ys : List Pos) → All P (xs ++ ys) → All P ys
all_right P xs ys f = all_by P ys (λ p m. All-contains P (xs ++ ys) p f (Contains-append_right xs ys p m))

-- ---- turned round

pub reverse_cons : (x : Pos) (xs : List Pos) → reverse (x ∷ xs) ≡ reverse xs ++ x ∷ []
reverse_cons x xs = reverse-append (x ∷ []) xs

-- a stack above a list, with its end let down
pub unreel : (x : Pos) (xs ys : List Pos) → reverse (x ∷ xs) ++ ys ≡ reverse xs ++ x ∷ ys
unreel x xs ys = ap (λ (w : List Pos). w ++ ys) (reverse_cons x xs) ∙ append_assoc (reverse xs) (x ∷ []) ys

in_moved : (xs ys : List Pos) (p : Pos) → IsPermutation xs ys → Contains ys p → Contains xs p
in_moved xs ys p h m = All-contains (Contains xs) ys p (All-permutation (Contains xs) xs ys h (All-contains_itself xs)) m

pub in_reverse : (p : Pos) (xs : List Pos) → Contains (reverse xs) p → Contains xs p
in_reverse p xs m = in_moved xs (reverse xs) p (IsPermutation-reverse xs) m

pub to_reverse : (p : Pos) (xs : List Pos) → Contains xs p → Contains (reverse xs) p
to_reverse p xs m = in_moved (reverse xs) xs p (IsPermutation-sym xs (reverse xs) (IsPermutation-reverse xs)) m

-- ---- no position twice

pub different_parts : (xs ys : List Pos) → AreDifferent xs → AreDifferent ys → ((p : Pos) → Contains xs p → Contains ys p → ⊥) → AreDifferent (xs ++ ys)
different_parts [] ys h k f = k
different_parts (x ∷ xs) ys h k f = (λ m. elim (Contains-append_cases xs ys x m) [ inl n ↦ h.0 n | inr n ↦ f x (at_first x x xs refl) n ], different_parts xs ys h.1 k (λ p m n. f p (at_later p x xs m) n))

pub different_reverse : (xs : List Pos) → AreDifferent xs → AreDifferent (reverse xs)
different_reverse [] h = tt
different_reverse (x ∷ xs) h =
    subst AreDifferent (sym (reverse_cons x xs)) (different_parts (reverse xs) (x ∷ []) (different_reverse xs h.1) (λ m. in_none x m, tt)
    (λ p m n. h.0 (subst (Contains xs) (only_one x p n) (in_reverse p xs m))))
