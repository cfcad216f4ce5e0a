-- Items in brackets, one after another.
-- For `read_line`, `read_geometry` and `Room::check_line`: items in brackets as the grammar has them.
use Rattle.std.proofs.Common.{◌≡◌, ℕ, ◌+◌, Bool, true, false, List, [], ◌∷◌, ◌++◌, length, codes, refl, sym, ◌∙◌, ap, subst, arith, append-nil, append_assoc, length-append}
use Rattle.at_wkt.proofs.Names.{Many, Exactly, ◌▸◌, is_blank, InBrackets, Parted, Item, Items}
use Rattle.at_wkt.specs.Geometry.{◌‿◌}
use Rattle.at_wkt.specs.Readers.{RestOf}
use Rattle.at_wkt.proofs.Steps.{Then, Same}

-- ---- parts regrouped

module _ (P Q R : ℕ → List ℕ → Type 0) where
  pub to_right : (at : ℕ) (w : List ℕ) → ((P ▸ Q) ▸ R) at w → (P ▸ (Q ▸ R)) at w
  to_right at w (v, r, e, (a, b, f, p, q), t) =
      (a, b ++ r, e ∙ (ap (λ z. z ++ r) f ∙ append_assoc a b r), p, (b, r, refl, q, subst (λ o. R o r) (omega (arith, ap length f, length-append a b)) t))

  pub to_left : (at : ℕ) (w : List ℕ) → (P ▸ (Q ▸ R)) at w → ((P ▸ Q) ▸ R) at w
  to_left at w (a, s, e, p, (b, r, f, q, t)) =
      (a ++ b, r, e ∙ (ap (λ z. a ++ z) f ∙ sym (append_assoc a b r)), (a, b, refl, p, q), subst (λ o. R o r) (omega (arith, length-append a b)) t)

pub behind : (P Q R : ℕ → List ℕ → Type 0) → ((at : ℕ) (w : List ℕ) → Q at w → R at w) → (at : ℕ) (w : List ℕ) → (P ▸ Q) at w → (P ▸ R) at w
behind P Q R h at w (v, r, e, p, q) = (v, r, e, p, h (at + length v) r q)

module _ (A B C K : ℕ → List ℕ → Type 0) where
  three_right : (at : ℕ) (w : List ℕ) → ((A ▸ (B ▸ C)) ▸ K) at w → (A ▸ (B ▸ (C ▸ K))) at w
  three_right at w h = behind A ((B ▸ C) ▸ K) (B ▸ (C ▸ K)) (to_right B C K) at w (to_right A (B ▸ C) K at w h)

  three_left : (at : ℕ) (w : List ℕ) → (A ▸ (B ▸ (C ▸ K))) at w → ((A ▸ (B ▸ C)) ▸ K) at w
  three_left at w h = to_left A (B ▸ C) K at w (behind A (B ▸ (C ▸ K)) ((B ▸ C) ▸ K) (to_left B C K) at w h)

module _ (A B C D K : ℕ → List ℕ → Type 0) where
  pub four_right : (at : ℕ) (w : List ℕ) → ((A ▸ (B ▸ (C ▸ D))) ▸ K) at w → (A ▸ (B ▸ (C ▸ (D ▸ K)))) at w
  four_right at w h = behind A ((B ▸ (C ▸ D)) ▸ K) (B ▸ (C ▸ (D ▸ K))) (three_right B C D K) at w (to_right A (B ▸ (C ▸ D)) K at w h)

  pub four_left : (at : ℕ) (w : List ℕ) → (A ▸ (B ▸ (C ▸ (D ▸ K)))) at w → ((A ▸ (B ▸ (C ▸ D))) ▸ K) at w
  four_left at w h = to_left A (B ▸ (C ▸ D)) K at w (behind A (B ▸ (C ▸ (D ▸ K))) ((B ▸ (C ▸ D)) ▸ K) (three_left B C D K) at w h)

module _ (A B C D E K : ℕ → List ℕ → Type 0) where
  pub five_right : (at : ℕ) (w : List ℕ) → ((A ▸ (B ▸ (C ▸ (D ▸ E)))) ▸ K) at w → (A ▸ (B ▸ (C ▸ (D ▸ (E ▸ K))))) at w
  five_right at w h = behind A ((B ▸ (C ▸ (D ▸ E))) ▸ K) (B ▸ (C ▸ (D ▸ (E ▸ K)))) (four_right B C D E K) at w (to_right A (B ▸ (C ▸ (D ▸ E))) K at w h)

  pub five_left : (at : ℕ) (w : List ℕ) → (A ▸ (B ▸ (C ▸ (D ▸ (E ▸ K))))) at w → ((A ▸ (B ▸ (C ▸ (D ▸ E)))) ▸ K) at w
  five_left at w h = to_left A (B ▸ (C ▸ (D ▸ E))) K at w (behind A (B ▸ (C ▸ (D ▸ (E ▸ K)))) ((B ▸ (C ▸ (D ▸ E))) ▸ K) (four_left B C D E K) at w h)

-- ---- items

module _ {X : Type 0} (P : ℕ → X → ℕ → List ℕ → Type 0) where
  -- what follows an item
  abbrev pub Rest : X × Bool → ℕ → List X → ℕ → List ℕ → Type 0
  Rest p = RestOf P p.1

  items_to : (d : ℕ) (p : (X × Bool) × List X) (at : ℕ) (v : List ℕ) → Then (Item P) Rest d p at v → Items P d (p.0.0 ∷ p.1) at v
  items_to d ((x, true), xs) at v (a, b, e, q, (f, g)) = let P1 : List X → Type 0 = λ l. Items P d (x ∷ l) at v in
      subst P1 (sym f) (subst (λ u. Item P d (x, true) at u) (sym (e ∙ (ap (λ z. a ++ z) g ∙ append-nil a))) q)
  items_to d ((x, false), []) at v (a, b, e, q, h) = absurd h
  items_to d ((x, false), y ∷ ys) at v (a, b, e, q, h) = (a, b, e, q, h)

  items_from : (d : ℕ) (xs : List X) (at : ℕ) (v : List ℕ) → Items P d xs at v → (p : (X × Bool) × List X) × (xs ≡ p.0.0 ∷ p.1) × Then (Item P) Rest d p at v
  items_from d [] at v h = absurd h
  items_from d (x ∷ []) at v h = (((x, true), []), refl, (v, [], sym (append-nil v), h, (refl, refl)))
  items_from d (x ∷ y ∷ ys) at v h = (((x, false), y ∷ ys), refl, h)

  pub items_same : Same (Items P) (Then (Item P) Rest) (λ at p. p.0.0 ∷ p.1)
  items_same = record { to = items_to; from = items_from }

  -- items parted by commas, blanks, a closing bracket
  pub parted_to : (d : ℕ) (xs : List X) (at : ℕ) (v : List ℕ) → Items P d xs at v → (Many is_blank ▸ (Parted (P d) xs ‿ Exactly (codes ")"))) at v
  parted_to d [] at v h = absurd h
  parted_to d (x ∷ []) at v h = h
  parted_to d (x ∷ y ∷ rest) at v (a, b, e, p, q) =
      let X = P d x in let M = Many is_blank in let C = Exactly (codes ",") in let Q = Parted (P d) (y ∷ rest) in let Z = Many is_blank ▸ Exactly (codes ")") in
      behind M (X ▸ (M ▸ (C ▸ (M ▸ (Q ▸ Z))))) ((X ▸ (M ▸ (C ▸ (M ▸ Q)))) ▸ Z) (five_left X M C M Q Z) at v (four_right M X M C (M ▸ (Q ▸ Z)) at v (a, b, e, p, parted_to d (y ∷ rest) (at + length a) b q))

  pub parted_from : (d : ℕ) (xs : List X) (at : ℕ) (v : List ℕ) → (Many is_blank ▸ (Parted (P d) xs ‿ Exactly (codes ")"))) at v → Items P d xs at v
  parted_from d [] at v (a, b, e, p, (s, t, f, q, r)) = q
  parted_from d (x ∷ []) at v h = h
  parted_from d (x ∷ y ∷ rest) at v h =
      let X = P d x in let M = Many is_blank in let C = Exactly (codes ",") in let Q = Parted (P d) (y ∷ rest) in let Z = Many is_blank ▸ Exactly (codes ")") in
      let (a, b, e, p, q) = four_left M X M C (M ▸ (Q ▸ Z)) at v (behind M ((X ▸ (M ▸ (C ▸ (M ▸ Q)))) ▸ Z) (X ▸ (M ▸ (C ▸ (M ▸ (Q ▸ Z))))) (five_right X M C M Q Z) at v h) in
      (a, b, e, p, parted_from d (y ∷ rest) (at + length a) b q)

  -- an opening bracket, and then items
  abbrev pub Opened : ℕ → List X → ℕ → List ℕ → Type 0
  Opened d xs = Exactly (codes "(") ▸ Items P d xs

  pub brackets_same : Same (λ d xs. InBrackets (Parted (P d) xs)) Opened (λ at xs. xs)
  brackets_same = record {
    to = λ d xs at v h. behind (Exactly (codes "(")) (Items P d xs) (Many is_blank ▸ (Parted (P d) xs ‿ Exactly (codes ")"))) (λ i u q. parted_to d xs i u q) at v h;
    from = λ d xs at v h. (xs, refl, behind (Exactly (codes "(")) (Many is_blank ▸ (Parted (P d) xs ‿ Exactly (codes ")"))) (Items P d xs) (λ i u q. parted_from d xs i u q) at v h);
  }
