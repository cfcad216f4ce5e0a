-- What is true of each element of a list, and of some element of a list.
-- For most public calls of the crate, `are_closed`, `doubled_area`, `in_polygon` among them.
use Rattle.std.proofs.Common.{◌≡◌, ℕ, suc, ◌+◌, ◌<◌, ◌⊎◌, inl, inr, Bool, true, false, List, [], ◌∷◌, ◌++◌, length, get_or, drop, arith, subst, sym, ◌∙◌}
use Rattle.std.specs.Prelude.{All, IsTrue}
use Rattle.std.proofs.lemmas.Bool.{false≢true}
use Rattle.std.proofs.lemmas.List.{drop_more}
use Rattle.at_text.specs.Lists.{SomeOf}
use Rattle.at_geom.specs.declared.positions.Pos.{Pos}
use Rattle.at_geom.specs.Segments.{IsInRange, edges}

pub head_of_all : {X : Type 0} (P : X → Type 0) {xs : List X} {x : X} {rest : List X} → xs ≡ x ∷ rest → All P xs → P x
head_of_all {X} P {xs} {x} {rest} e h = (subst (All P) e h) 0 x (omega arith)

pub tail_of_all : {X : Type 0} (P : X → Type 0) {xs : List X} {x : X} {rest : List X} → xs ≡ x ∷ rest → All P xs → All P rest
tail_of_all {X} P {xs} {x} {rest} e h = λ k d lt. (subst (All P) e h) (suc k) d (omega arith)

-- ---- some element

pub some_left : {X : Type 0} (P : X → Type 0) (xs ys : List X) → SomeOf P xs → SomeOf P (xs ++ ys)
some_left P [] ys h = absurd h
some_left P (x ∷ xs) ys (inl h) = inl h
some_left P (x ∷ xs) ys (inr h) = inr (some_left P xs ys h)

pub some_right : {X : Type 0} (P : X → Type 0) (xs ys : List X) → SomeOf P ys → SomeOf P (xs ++ ys)
some_right P [] ys h = h
some_right P (x ∷ xs) ys h = inr (some_right P xs ys h)

pub some_of_parts : {X : Type 0} (P : X → Type 0) (xs ys : List X) → SomeOf P (xs ++ ys) → SomeOf P xs ⊎ SomeOf P ys
some_of_parts P [] ys h = inr h
some_of_parts P (x ∷ xs) ys (inl h) = inl (inl h)
some_of_parts P (x ∷ xs) ys (inr h) = elim (some_of_parts P xs ys h) [ inl k ↦ inl (inr k) | inr k ↦ inr k ]

pub some_one : {X : Type 0} (P : X → Type 0) (xs : List X) → SomeOf P xs → (x : X) × P x
some_one P [] h = absurd h
some_one P (x ∷ xs) (inl h) = (x, h)
some_one P (x ∷ xs) (inr h) = some_one P xs h

-- a test that answered false
pub untrue : {M : Type 0} (r : Bool) → r ≡ false → (M → IsTrue r) → ¬ M
untrue r e f m = false≢true (sym e ∙ f m)

pub not_first : {X : Type 0} (P : X → Type 0) (x : X) (xs : List X) → ¬ P x → SomeOf P (x ∷ xs) → SomeOf P xs
not_first P x xs f (inl h) = absurd (f h)
not_first P x xs f (inr h) = h

-- ---- loops that look for an element

-- some of the whole has the property exactly if some of the rest, which the loop has still to look through, has it
pub record SomeIsLeft {X : Type 0} (P : X → Type 0) (whole rest : List X) : Type 0 where
  pub in_rest : SomeOf P whole → SomeOf P rest
  pub from_rest : SomeOf P rest → SomeOf P whole

-- the same of a loop over the positions behind the first
pub record SomeEdgeIsLeft (P : Pos × Pos → Type 0) (path : List Pos) (a : Pos) (rest : List Pos) (i : ℕ) : Type 0 where
  pub from_in_range : IsInRange a
  pub rest_in_range : All IsInRange rest
  pub left : SomeIsLeft P (edges path) (edges (a ∷ drop i rest))

-- the loop's item ends an edge
pub all_edges : {P : Pos × Pos → Type 0} {path : List Pos} {a : Pos} {rest : List Pos} → path ≡ a ∷ rest → All IsInRange path → SomeEdgeIsLeft P path a rest 0
all_edges {P} e ranged = record {
  from_in_range = head_of_all IsInRange e ranged;
  rest_in_range = tail_of_all IsInRange e ranged;
  left = record { in_rest = subst (λ (l : List Pos). SomeOf P (edges l)) e; from_rest = subst (λ (l : List Pos). SomeOf P (edges l)) (sym e) };
}

pub not_in_edge : {P : Pos × Pos → Type 0} {path : List Pos} {a : Pos} {rest : List Pos} {i : ℕ} (d : Pos) → SomeEdgeIsLeft P path a rest i → i < length rest → ¬ P (a, get_or rest i d) → SomeEdgeIsLeft P path (get_or rest i d) rest (i + 1)
not_in_edge {P} {path} {a} {rest} {i} d now lt f =
    let split = drop_more rest i d lt in
    record {
      from_in_range = now.rest_in_range i d lt;
      rest_in_range = now.rest_in_range;
      left = record {
        in_rest = λ h. not_first P _ _ f (subst (λ (r : List Pos). SomeOf P (edges (a ∷ r))) split (now.left.in_rest h));
        from_rest = λ h. now.left.from_rest (subst (λ (r : List Pos). SomeOf P (edges (a ∷ r))) (sym split) (inr h));
      };
    }

-- ---- lists in three parts

pub first_of_three : {X : Type 0} (P : X → Type 0) (xs ys zs : List X) → SomeOf P xs → SomeOf P ((xs ++ ys) ++ zs)
first_of_three P xs ys zs h = some_left P (xs ++ ys) zs (some_left P xs ys h)

pub second_of_three : {X : Type 0} (P : X → Type 0) (xs ys zs : List X) → SomeOf P ys → SomeOf P ((xs ++ ys) ++ zs)
second_of_three P xs ys zs h = some_left P (xs ++ ys) zs (some_right P xs ys h)

pub third_of_three : {X : Type 0} (P : X → Type 0) (xs ys zs : List X) → SomeOf P zs → SomeOf P ((xs ++ ys) ++ zs)
third_of_three P xs ys zs h = some_right P (xs ++ ys) zs h

pub only_third : {X : Type 0} (P : X → Type 0) (xs ys zs : List X) → ¬ SomeOf P xs → ¬ SomeOf P ys → SomeOf P ((xs ++ ys) ++ zs) → SomeOf P zs
only_third P xs ys zs f g h =
    elim (some_of_parts P (xs ++ ys) zs h) [
      | inr k ↦ k
      | inl k ↦ elim (some_of_parts P xs ys k) [ inl m ↦ absurd (f m) | inr m ↦ absurd (g m) ]
    ]
