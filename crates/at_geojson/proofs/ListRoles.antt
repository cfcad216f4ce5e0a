-- Trees one behind another: what a position and a list of positions are not, and what is read of joined lists of trees.
-- For `add`, `array` and `value`.
use Rattle.std.proofs.Common.{◌≡◌, ℕ, List, [], ◌∷◌, ◌++◌, Option, Some, None, refl, sym, ◌∙◌, ap, option_map, option_and_then}
use Rattle.std.proofs.lemmas.Option.{none-some, same_Some}
use Rattle.at_fixed.specs.Numerals.{Numeral}
use Rattle.at_wkt.specs.Positions.{Position, Positions}
use Rattle.at_nest.specs.Tree.{Tree, number, array}
use Rattle.at_geojson.specs.Names.{items_of}
use Rattle.at_geojson.specs.Coordinates.{each, number_at, position_of, position_of_numbers, positions_of, area_of, if_some_items}

abbrev joined : {Y : Type 0} → Option Y → Option (List Y) → Option (List Y)
joined p q = option_and_then (λ y. option_map (λ ys. y ∷ ys) q) p

-- ---- what f gives of each

parts : {Y : Type 0} (p : Option Y) (q : Option (List Y)) (ys : List Y) → joined p q ≡ Some ys → (y : Y) × (rest : List Y) × (p ≡ Some y) × (q ≡ Some rest) × (ys ≡ y ∷ rest)
parts None q ys e = absurd (none-some ys e)
parts (Some y) None ys e = absurd (none-some ys e)
parts (Some y) (Some rest) ys e = (y, rest, refl, refl, sym (same_Some (y ∷ rest) ys e))

module _ {Y : Type 0} (f : Tree → Option Y) where
  pub each_append : (us vs : List Tree) (ys zs : List Y) → each f us ≡ Some ys → each f vs ≡ Some zs → each f (us ++ vs) ≡ Some (ys ++ zs)
  each_append [] vs ys zs e h = h ∙ ap (λ z. Some (z ++ zs)) (same_Some [] ys e)
  each_append (u ∷ us) vs ys zs e h =
      let (y, rest, p, q, k) = parts (f u) (each f us) ys e in
      ap (λ o. joined o (each f (us ++ vs))) p ∙ (ap (λ o. option_map (λ xs. y ∷ xs) o) (each_append us vs rest zs q h) ∙ ap (λ z. Some (z ++ zs)) (sym k))

  pub none_here : (u : Tree) (us : List Tree) → f u ≡ None → each f (u ∷ us) ≡ None
  none_here u us e = ap (λ o. joined o (each f us)) e

  front : (p : Option Y) (q r : Option (List Y)) → (q ≡ None → r ≡ None) → joined p q ≡ None → joined p r ≡ None
  front None q r h e = refl
  front (Some y) None r h e = ap (λ o. option_map (λ xs. y ∷ xs) o) (h refl)
  front (Some y) (Some zs) r h e = absurd (none-some (y ∷ zs) (sym e))

  pub none_front : (us vs : List Tree) → each f us ≡ None → each f (us ++ vs) ≡ None
  none_front [] vs e = absurd (none-some [] (sym e))
  none_front (u ∷ us) vs e = front (f u) (each f us) (each f (us ++ vs)) (none_front us vs) e

  behind : (p : Option Y) (r : Option (List Y)) → r ≡ None → joined p r ≡ None
  behind None r e = refl
  behind (Some y) r e = ap (λ o. option_map (λ xs. y ∷ xs) o) e

  pub none_back : (us vs : List Tree) → each f vs ≡ None → each f (us ++ vs) ≡ None
  none_back [] vs e = e
  none_back (u ∷ us) vs e = behind (f u) (each f (us ++ vs)) (none_back us vs e)

  -- at least one tree, of which each is of g's kind, and f gives nothing of such
  pub no_each : {Z : Type 0} (g : Tree → Option Z) → ((t : Tree) (z : Z) → g t ≡ Some z → f t ≡ None) → (us : List Tree) (z : Z) (zs : List Z) → each g us ≡ Some (z ∷ zs) → each f us ≡ None
  no_each {Z} g n [] z zs e = absurd (no_more (same_Some [] (z ∷ zs) e)) where
    no_more : [] ≡ z ∷ zs → ⊥
    no_more k = none-some z (ap (λ (w : List Z). elim w [ [] ↦ None | x ∷ xs ↦ Some x ]) k)
  no_each g n (u ∷ us) z zs e = let (y, rest, p, q, k) = parts (g u) (each g us) (z ∷ zs) e in none_here u us (n u y p)

-- ---- a tree with one role has no other

pub position_no_number : (t : Tree) (p : Position) → position_of t ≡ Some p → number_at t ≡ None
position_no_number (array i ts) p e = refl
position_no_number _ p e = absurd (none-some p e)

number_no_position : (t : Tree) (n : Numeral × ℕ) → number_at t ≡ Some n → position_of t ≡ None
number_no_position (number i m) n e = refl
number_no_position _ n e = absurd (none-some n e)

pub list_no_number : (t : Tree) (p : Positions) → positions_of t ≡ Some p → number_at t ≡ None
list_no_number (array i ts) p e = refl
list_no_number _ p e = absurd (none-some p e)

abbrev listed : ℕ → Option (List Position) → Option Positions
listed i o = option_map (λ items. record { at = i; items = items }) o

has_items : (i : ℕ) (o : Option (List Position)) (p : Positions) → listed i o ≡ Some p → (ps : List Position) × (o ≡ Some ps)
has_items i None p e = absurd (none-some p e)
has_items i (Some ps) p e = (ps, refl)

first_number : (o : Option (Numeral × ℕ)) (q : Option (List (Numeral × ℕ))) (p : Position) → option_and_then position_of_numbers (joined o q) ≡ Some p → (n : Numeral × ℕ) × (o ≡ Some n)
first_number None q p e = absurd (none-some p e)
first_number (Some n) q p e = (n, refl)

numbers_no_list : (i : ℕ) (zs : List Tree) (p : Position) → option_and_then position_of_numbers (each number_at zs) ≡ Some p → listed i (each position_of zs) ≡ None
numbers_no_list i [] p e = absurd (none-some p e)
numbers_no_list i (z ∷ zs) p e = let (n, k) = first_number (number_at z) (each number_at zs) p e in ap (listed i) (none_here position_of z zs (number_no_position z n k))

pub position_no_list : (t : Tree) (p : Position) → position_of t ≡ Some p → positions_of t ≡ None
position_no_list (array i ts) p e = numbers_no_list i (items_of ts) p e
position_no_list _ p e = absurd (none-some p e)

number_no_list : (t : Tree) (n : Numeral × ℕ) → number_at t ≡ Some n → positions_of t ≡ None
number_no_list (number i m) n e = refl
number_no_list _ n e = absurd (none-some n e)

numbers_no_area : (zs : List Tree) (p : Position) → option_and_then position_of_numbers (each number_at zs) ≡ Some p → option_and_then if_some_items (each positions_of zs) ≡ None
numbers_no_area [] p e = absurd (none-some p e)
numbers_no_area (z ∷ zs) p e = let (n, k) = first_number (number_at z) (each number_at zs) p e in ap (option_and_then if_some_items) (none_here positions_of z zs (number_no_list z n k))

pub position_no_area : (t : Tree) (p : Position) → position_of t ≡ Some p → area_of t ≡ None
position_no_area (array i ts) p e = numbers_no_area (items_of ts) p e
position_no_area _ p e = absurd (none-some p e)

no_numbers : (xs : List Tree) (ps : List Position) → each position_of xs ≡ Some ps → option_and_then position_of_numbers (each number_at xs) ≡ None
no_numbers [] ps e = refl
no_numbers (x ∷ xs) ps e = let (y, rest, p, q, k) = parts (position_of x) (each position_of xs) ps e in ap (option_and_then position_of_numbers) (none_here number_at x xs (position_no_number x y p))

no_lists : (xs : List Tree) (ps : List Position) → each position_of xs ≡ Some ps → option_and_then if_some_items (each positions_of xs) ≡ None
no_lists [] ps e = refl
no_lists (x ∷ xs) ps e = let (y, rest, p, q, k) = parts (position_of x) (each position_of xs) ps e in ap (option_and_then if_some_items) (none_here positions_of x xs (position_no_list x y p))

pub list_no_position : (t : Tree) (p : Positions) → positions_of t ≡ Some p → position_of t ≡ None
list_no_position (array i ts) p e = let (ps, k) = has_items i (each position_of (items_of ts)) p e in no_numbers (items_of ts) ps k
list_no_position _ p e = absurd (none-some p e)

pub list_no_area : (t : Tree) (p : Positions) → positions_of t ≡ Some p → area_of t ≡ None
list_no_area (array i ts) p e = let (ps, k) = has_items i (each position_of (items_of ts)) p e in no_lists (items_of ts) ps k
list_no_area _ p e = absurd (none-some p e)
