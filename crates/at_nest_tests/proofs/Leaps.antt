-- An empty array that begins a text, or two of them.
use Rattle.std.proofs.Common.{◌≡◌, ℕ, List, [], ◌∷◌, ◌++◌, refl, ◌∙◌, ap, arith, ◌+◌, ◌≤◌, length, slice_index, drop, inr}
use Rattle.std.proofs.lemmas.List.Elements.{All-nil, All-cons}
use Rattle.at_nest.specs.declared.algebra.Attempt.TheVariants.{Whole}
use Rattle.at_nest.specs.Tree.{Tree, array, no_trees, tree_and}
use Rattle.at_nest.specs.Folds.{IsAttempt, HasBrackets, IsItemsAttempt}
use Rattle.at_nest.proofs.TreeParts.{array_made, items_made, further_items_made}

two_first : (w : List ℕ) → 2 ≤ length w → w ≡ slice_index w 0 ∷ (slice_index w 1 ∷ drop 2 w)
two_first [] h = absurd (omega (arith, h))
two_first (a ∷ []) h = absurd (omega (arith, h))
two_first (a ∷ b ∷ w) h = refl

pub empty_attempt : (at : ℕ) (w : List ℕ) → 2 ≤ length w → slice_index w 0 ≡ 0x5B → slice_index w 1 ≡ 0x5D → IsAttempt {X = ℕ} (λ x. Unit {0}) (λ x t. Unit {0}) at w (Whole 2 1)
empty_attempt at w long opens closes =
    let bytes : w ≡ (0x5B ∷ (0x5D ∷ [])) ++ drop 2 w = two_first w long ∙ (ap (λ z. z ∷ (slice_index w 1 ∷ drop 2 w)) opens ∙ ap (λ z. 0x5B ∷ (z ∷ drop 2 w)) closes) in
    (0x5B ∷ (0x5D ∷ []), drop 2 w, bytes, refl, array at no_trees, array_made no_trees at at (0x5B ∷ (0x5D ∷ [])) (refl, ([], refl, tt)), tt, tt)

pub two_attempt : (at : ℕ) (w more : List ℕ) → w ≡ 0x5B ∷ (0x5D ∷ (0x2C ∷ (0x5B ∷ (0x5D ∷ more)))) → IsItemsAttempt {X = ℕ} (λ x. Unit {0}) (λ x t. Unit {0}) (λ x ts. Unit {0}) at w (Whole 5 2)
two_attempt at w more e =
    let empty : List ℕ = 0x5B ∷ (0x5D ∷ []) in
    let further : ℕ = at + 0 + 2 + 0 in
    let first : Tree = array (at + 0) no_trees in
    let second : Tree = array (further + 1 + 0) no_trees in
    let one_more = further_items_made second no_trees further (0x2C ∷ empty)
    (empty, refl, ([], empty, [], [], refl, tt, tt, array_made no_trees (further + 1 + 0) (further + 1 + 0) empty (refl, ([], refl, tt)), refl)) in (
      0x5B ∷ (0x5D ∷ (0x2C ∷ (0x5B ∷ (0x5D ∷ [])))),
      more,
      e,
      refl,
      first,
      second ∷ [],
      items_made first (tree_and second no_trees) at (0x5B ∷ (0x5D ∷ (0x2C ∷ empty))) ([], empty, [], 0x2C ∷ empty, refl, tt, tt, array_made no_trees (at + 0) (at + 0) empty (refl, ([], refl, tt)), one_more),
      All-cons HasBrackets first (second ∷ []) tt (All-cons HasBrackets second [] tt (All-nil HasBrackets)),
      tt,
      inr tt,
    )
