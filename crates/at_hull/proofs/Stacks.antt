-- A vector of which the end is read and dropped, as a stack with its end first.
-- For `add`, `covers`, `hull`, `hull_join`, `into_hull` and `join`.
use Rattle.std.proofs.Common.{◌≡◌, suc, ℤ, pos, List, [], ◌∷◌, ◌++◌, reverse, arith, sym, ap, ◌∙◌, subst, refl}
use Rattle.std.specs.Prelude.{int_le, All}
use Rattle.std.proofs.lemmas.List.{reverse-append}
use Rattle.std.proofs.lemmas.List.Elements.{All-head}
use Rattle.std.proofs.lemmas.Int.{ints}
use Rattle.at_geom.proofs.Comparisons.{le_false}
use Rattle.at_geom.specs.declared.positions.Pos.{Pos}
use Rattle.at_geom.specs.Segments.{turn, sign_of}
use Rattle.at_hull.specs.Walks.{is_dropped}
use Rattle.at_hull.proofs.Members.{all_left, all_right}

pub sign_le : (z : ℤ) → int_le (sign_of z) (pos 0) ≡ int_le z (pos 0)
sign_le (pos (suc n)) = sym (le_false (pos (suc n)) (pos 0) (omega (arith, ints)))
sign_le _ = refl

pub dropped_at : (next b a : Pos) (way front rest : List Pos) → way ≡ front ++ b ∷ [] → front ≡ rest ++ a ∷ [] → is_dropped next (reverse way) ≡ int_le (turn a b next) (pos 0)
dropped_at next b a way front rest e f = ap (λ (w : List Pos). is_dropped next w) (ap reverse e ∙ reverse-append front (b ∷ []) ∙ ap (λ (w : List Pos). b ∷ w) (ap reverse f ∙ reverse-append rest (a ∷ [])))

pub last_has : (P : Pos → Type 0) (b : Pos) (way front : List Pos) → way ≡ front ++ b ∷ [] → All P way → P b
last_has P b way front e h = All-head P b [] (all_right P front (b ∷ []) (subst (λ (w : List Pos). All P w) e h))

pub front_has : (P : Pos → Type 0) (b : Pos) (way front : List Pos) → way ≡ front ++ b ∷ [] → All P way → All P front
front_has P b way front e h = all_left P front (b ∷ []) (subst (λ (w : List Pos). All P w) e h)
