-- The last of what is open, and arrays with nothing in them that are it.
-- For `finish`, `finish_span`, `merge` and `run_block`.
use Rattle.std.proofs.Common.{◌≡◌, ℕ, ◌-◌, zero, suc, Option, Some, None, List, [], ◌∷◌, ◌++◌, refl, sym, ◌∙◌, ap, append-nil, append_assoc, arith, length, take, Ok, Err, MatchOption}
use Rattle.std.proofs.lemmas.Option.{none-some, same_Some}
use Rattle.std.specs.List.{slice_get, slice_set}
use Rattle.at_nest.specs.declared.finishing.Next.{Next}
use Rattle.at_nest.specs.declared.finishing.Next.TheVariants as next
use Rattle.at_nest.specs.declared.levels.Nest.{Nest}
use Rattle.at_nest.specs.declared.levels.Level.{Level as CodeLevel}
use Rattle.at_nest.specs.declared.levels.Open.{Open}
use Rattle.at_nest.specs.declared.levels.Open.TheVariants as placed
use Rattle.at_nest.specs.declared.levels.Open.TheVariants.{Nested}
use Rattle.at_nest.specs.declared.levels.ArrayState.TheVariants as array
use Rattle.at_nest.specs.Shown.{Held, array_level, held_of, round_of, helds_of, open_levels, nested}
use Rattle.at_nest.specs.Nests.{nest_in, PutsLast}
use Rattle.at_nest.specs.NextItems.{levels_next, level_after, IsNoValue}
use Rattle.at_nest.specs.Refusals.{last_of}
use Rattle.at_nest.proofs.Showing.{open_last}

pub last_got : {A : Type 0} (xs : List A) → slice_get xs (length xs - 1) ≡ last_of xs
last_got (x ∷ (y ∷ xs)) = let i : length (x ∷ (y ∷ xs)) - 1 ≡ suc (length (y ∷ xs) - 1) = omega arith in ap (slice_get (x ∷ (y ∷ xs))) i ∙ last_got (y ∷ xs)
last_got _ = refl

pub last_behind : {A : Type 0} (xs : List A) (x : A) → last_of (xs ++ x ∷ []) ≡ Some x
last_behind (y ∷ (z ∷ xs)) x = last_behind (z ∷ xs) x
last_behind _ x = refl

-- the innermost levels, and those round them
pub open_top : {X : Type 0} (os : List (Open X)) (o : Open X) → last_of os ≡ Some o → (hs : List (Held X)) × (open_levels os ≡ helds_of o ++ hs)
open_top [] o e = absurd (none-some o e)
open_top (k ∷ []) o e = ([], ap helds_of (same_Some k o e) ∙ sym (append-nil (helds_of o)))
open_top (k ∷ (m ∷ os)) o e = let (hs, f) = open_top (m ∷ os) o e in (hs ++ helds_of k, ap (λ z. z ++ helds_of k) f ∙ append_assoc (helds_of o) hs (helds_of k))

pub open_none : {X : Type 0} (os : List (Open X)) → None ≡ last_of os → os ≡ []
open_none [] e = refl
open_none (k ∷ []) e = absurd (none-some k e)
open_none (k ∷ (m ∷ os)) e = let f : m ∷ os ≡ [] = open_none (m ∷ os) e in cc

pub puts_last : {X : Type 0} (os : List (Open X)) (o : Open X) → PutsLast os (slice_set os (length os - 1) o) o
puts_last [] o x e = absurd (none-some x e)
puts_last (k ∷ []) o x e = ([], ap helds_of (same_Some k x e) ∙ sym (append-nil (helds_of x)), sym (append-nil (helds_of o)))
puts_last (k ∷ (m ∷ os)) o x e = let (hs, f, g) = puts_last (m ∷ os) o x e in
    let i : length (k ∷ (m ∷ os)) - 1 ≡ suc (length (m ∷ os) - 1) = omega arith in (
      hs ++ helds_of k,
      ap (λ z. z ++ helds_of k) f ∙ append_assoc (helds_of x) hs (helds_of k),
      ap (λ n. open_levels (slice_set (k ∷ (m ∷ os)) n o)) i ∙ (ap (λ z. z ++ helds_of k) g ∙ append_assoc (helds_of o) hs (helds_of k)),
    )

pub all_but_last : {A : Type 0} (xs : List A) (x : A) → last_of xs ≡ Some x → xs ≡ take (length xs - 1) xs ++ x ∷ []
all_but_last [] x e = absurd (none-some x e)
all_but_last (y ∷ []) x e = ap (λ z. z ∷ []) (same_Some y x e)
all_but_last (y ∷ (z ∷ xs)) x e = let i : length (y ∷ (z ∷ xs)) - 1 ≡ suc (length (z ∷ xs) - 1) = omega arith in
    ap (λ v. y ∷ v) (all_but_last (z ∷ xs) x e) ∙ ap (λ n. take n (y ∷ (z ∷ xs)) ++ x ∷ []) (sym i)

-- a nest of one array was left out
pub left_nested : {X : Type 0} (old new : List (Open X)) (r : Option (Open X)) (m : Nest) → m.more ≡ 0 → last_of old ≡ Some (Nested m) → MatchOption r ((old ≡ []) × (new ≡ [])) (λ o. old ≡ new ++ o ∷ []) → open_levels old ≡ array_level m.last array.Empty [] ∷ open_levels new
left_nested old new None m e f (g, h) = absurd (none-some (Nested m) (sym (ap last_of g) ∙ f))
left_nested {X} old new (Some o) m e f g = let same : o ≡ Nested m = same_Some o (Nested m) (sym (ap last_of g ∙ last_behind new o) ∙ f) in
    ap open_levels g ∙ (open_last new o ∙ (ap (λ (z : Open X). helds_of z ++ open_levels new) same ∙ ap (λ z. nested m.last (suc z) ++ open_levels new) e))

-- the nest with one array less
pub less_nested : {X : Type 0} (old new : List (Open X)) (last more : ℕ) (m n : Nest) → m.last ≡ last → m.more ≡ suc more → n.last ≡ last - 1 → n.more ≡ more → last_of old ≡ Some (Nested m) → PutsLast old new (Nested n)
    → open_levels old ≡ array_level last array.Empty [] ∷ open_levels new
less_nested old new last more m n e f g h i puts = let (hs, p, q) = puts (Nested m) i in
    p ∙ (ap (λ z. nested z (suc m.more) ++ hs) e ∙ (ap (λ z. array_level last array.Empty [] ∷ (nested (last - 1) z ++ hs)) f
    ∙ (ap (λ z. array_level last array.Empty [] ∷ (nested (last - 1) (suc z) ++ hs)) (sym h) ∙ (ap (λ z. array_level last array.Empty [] ∷ (nested z (suc n.more) ++ hs)) (sym g) ∙ ap (λ z. array_level last array.Empty [] ∷ z) (sym q)))))

-- it was a level, since it was no nest
pub popped_level : {X : Type 0} (old new : List (Open X)) (o : Open X) (r : Option (CodeLevel X)) → nest_in (last_of old) ≡ None → old ≡ new ++ o ∷ [] → MatchOption r ((n : Nest) × (o ≡ Nested n)) (λ l. helds_of o ≡ held_of l ∷ [])
    → MatchOption r ((open_levels old ≡ []) × (open_levels new ≡ [])) (λ l. open_levels old ≡ held_of l ∷ open_levels new)
popped_level old new o (Some l) none e h = ap open_levels e ∙ (open_last new o ∙ ap (λ z. z ++ open_levels new) h)
popped_level old new o None none e (n, f) = absurd (none-some n (sym none ∙ (ap (λ z. nest_in (last_of z)) e ∙ (ap nest_in (last_behind new o) ∙ ap (λ z. nest_in (Some z)) f))))

-- ---- what may stand behind

pub nested_next : (X : Type 0) (last n : ℕ) → levels_next {X = X} (Ok next.Value) (nested last n) ≡ Ok next.Value
nested_next X last zero = refl
nested_next X last (suc n) = ap (λ z. level_after {X = X} z (array_level last array.Empty [])) (nested_next X (last - 1) n)

pub nested_off : (X : Type 0) (last n : ℕ) (k : Next) → IsNoValue k → levels_next {X = X} (Ok k) (nested last (suc n)) ≡ Err (last - n)
nested_off X last zero k h = first k h ∙ (let e : last ≡ last - 0 = omega arith in ap Err e)
  where
    first : (k : Next) → IsNoValue k → level_after {X = X} (Ok k) (array_level last array.Empty []) ≡ Err last
    first next.Value h = absurd h
    first _ h = refl
nested_off X last (suc n) k h = ap (λ z. level_after {X = X} z (array_level last array.Empty [])) (nested_off X (last - 1) n k h) ∙ (let e : (last - 1) - n ≡ last - suc n = omega arith in ap Err e)

-- what is round the innermost level takes a value where it may stand
pub round_next : {X : Type 0} (o : Open X) → levels_next (Ok next.Value) (round_of o) ≡ Ok next.Value
round_next {X} (Nested n) = nested_next X (n.last - 1) n.more
round_next (placed.Array l) = refl
round_next _ = refl
