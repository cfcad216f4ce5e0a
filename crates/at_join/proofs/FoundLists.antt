-- What is found in a list: in its parts, one element after another, and past elements that haven't the property.
-- For `cell_pairs`, `merge`, `new`, `pairs_grid`, `pairs_plain` and `run`.
use Rattle.std.proofs.Common.{◌≡◌, ℕ, ◌+◌, ◌-◌, ◌<◌, ◌≤◌, Bool, List, [], ◌∷◌, ◌++◌, length, get_or, take, drop, map, arith, refl, sym, ap, subst, ◌∙◌}
use Rattle.std.specs.Prelude.{All, count_by, cond}
use Rattle.std.specs.List.{AllByRecursion}
use Rattle.std.proofs.lemmas.List.{append_assoc, append-nil, map-append, map_more, take_more, take-append-drop, get_or-take, get_or-drop, length-take, length-drop}
use Rattle.std.proofs.lemmas.Grind.{flat_map-append}
use Rattle.std.proofs.lemmas.List.Elements.{recursion_from_All}
use Rattle.std.proofs.lemmas.List.Sums.{sum_by-append, sum_by-cons}
use Rattle.std.proofs.ByRecursion.{All-append}
use Rattle.std.proofs.Math.Seq.{take-add}
use Rattle.at_query.specs.Results.{Keeps, pairs_of}
use Rattle.at_query.proofs.KeptLists.{keeps-append, keeps_one, drops_one}
use Rattle.at_join.specs.Meetings.{Finds}

-- the elements from one to another
abbrev pub part_of : {X : Type 0} → List X → ℕ → ℕ → List X
part_of xs from to = take (to - from) (drop from xs)

pub take_to : {X : Type 0} (xs : List X) (from to : ℕ) → from ≤ to → take to xs ≡ take from xs ++ part_of xs from to
take_to {X} xs from to le = let e : to ≡ from + (to - from) = omega (arith, le) in ap (λ (n : ℕ). take n xs) e ∙ take-add from (to - from) xs

-- what holds of each element from one to another holds of the part
pub part_all : {X : Type 0} (R : X → Type 0) (xs : List X) (from to : ℕ) → ((k : ℕ) (d : X) → from ≤ k → k < to → k < length xs → R (get_or xs k d)) → All R (part_of xs from to)
part_all R xs from to h = λ k d lt.
    let n = length-take (to - from) (drop from xs) in
    let m = length-drop from xs in
    let small : k < to - from = omega (arith, lt, n) in
    subst R (sym (get_or-take (to - from) (drop from xs) k d small ∙ get_or-drop from xs k d)) (h (from + k) d (omega arith) (omega (arith, small)) (omega (arith, lt, n, m)))

module _ {X Y : Type 0} (P : X → Type 0) (f : X → Y) where
  pub finds_one : (x : X) (old : List Y) → P x → Finds P f (x ∷ []) old (old ++ f x ∷ [])
  finds_one x old p = (x ∷ [], keeps_one P x p, refl)

  pub finds_not : (x : X) (old : List Y) → (¬ P x) → Finds P f (x ∷ []) old old
  finds_not x old n = ([], drops_one P x n, sym (append-nil old))

  -- in a list, and then in what stands behind it
  pub finds_next : {whole : List X} (xs ys : List X) (old mid new : List Y) → whole ≡ xs ++ ys → Finds P f xs old mid → Finds P f ys mid new → Finds P f whole old new
  finds_next xs ys old mid new is (ks, h, e) (ls, k, d) = (
    ks ++ ls,
    subst (λ (l : List X). Keeps P l (ks ++ ls)) (sym is) (keeps-append P xs ys ks ls h k),
    d ∙ ap (λ l. l ++ map f ls) e ∙ append_assoc old (map f ks) (map f ls) ∙ ap (λ l. old ++ l) (sym (map-append f ks ls)),
  )

  -- one element more
  pub finds_more : (xs : List X) (i : ℕ) (d : X) (old mid new : List Y) → i < length xs → Finds P f (take i xs) old mid → Finds P f (get_or xs i d ∷ []) mid new → Finds P f (take (i + 1) xs) old new
  finds_more xs i d old mid new lt = finds_next (take i xs) (get_or xs i d ∷ []) old mid new (take_more xs i d lt)

  -- none of the elements has the property
  finds_none : (xs : List X) (old : List Y) → AllByRecursion (λ (x : X). ¬ P x) xs → Finds P f xs old old
  finds_none [] old miss = ([], refl, sym (append-nil old))
  finds_none (x ∷ xs) old miss = finds_next (x ∷ []) xs old old old refl (finds_not x old miss.0) (finds_none xs old miss.1)

  -- elements more, none of which has the property
  pub finds_past : (xs : List X) (i j : ℕ) (old new : List Y) → i ≤ j → ((k : ℕ) (d : X) → i ≤ k → k < j → k < length xs → ¬ P (get_or xs k d)) → Finds P f (take i xs) old new → Finds P f (take j xs) old new
  finds_past xs i j old new le miss h =
      let part = part_of xs i j in
      finds_next (take i xs) part old new new (take_to xs i j le) h (finds_none part new (recursion_from_All (λ (x : X). ¬ P x) part (part_all (λ (x : X). ¬ P x) xs i j miss)))

-- ---- pairs

-- the pairs of a list and of what stands behind it
pub pairs_next : {X : Type 0} {whole : List X} (xs zs ys : List X) → whole ≡ xs ++ zs → pairs_of whole ys ≡ pairs_of xs ys ++ pairs_of zs ys
pairs_next {X} xs zs ys is = ap (λ (l : List X). pairs_of l ys) is ∙ flat_map-append (λ (x : X). map (λ (y : X). (x, y)) ys) xs zs

-- one element of the second list more
row_more : {X : Type 0} (x : X) (ys : List X) (i : ℕ) (d : X) → i < length ys → pairs_of (x ∷ []) (take (i + 1) ys) ≡ pairs_of (x ∷ []) (take i ys) ++ (x, get_or ys i d) ∷ []
row_more {X} x ys i d lt =
    let pair : X → X × X = λ y. (x, y) in
    append-nil (map pair (take (i + 1) ys)) ∙ map_more pair ys i d lt ∙ ap (λ (l : List (X × X)). l ++ (x, get_or ys i d) ∷ []) (sym (append-nil (map pair (take i ys))))

no_row : {X : Type 0} (R : X × X → Type 0) (x : X) (ys : List X) → ((y : X) → R (x, y)) → AllByRecursion R (map (λ (y : X). (x, y)) ys)
no_row R x [] h = tt
no_row R x (y ∷ ys) h = (h y, no_row R x ys h)

no_rows : {X : Type 0} (R : X × X → Type 0) (xs ys : List X) → AllByRecursion (λ (x : X). (y : X) → R (x, y)) xs → AllByRecursion R (pairs_of xs ys)
no_rows R [] ys h = tt
no_rows {X} R (x ∷ xs) ys h = All-append R (map (λ (y : X). (x, y)) ys) (pairs_of xs ys) (no_row R x ys h.0) (no_rows R xs ys h.1)

module _ {X Y : Type 0} (P : X × X → Type 0) (f : X × X → Y) where
  pub finds_pair : (x : X) (ys : List X) (i : ℕ) (d : X) (old mid new : List Y) → i < length ys
      → Finds P f (pairs_of (x ∷ []) (take i ys)) old mid → Finds P f ((x, get_or ys i d) ∷ []) mid new → Finds P f (pairs_of (x ∷ []) (take (i + 1) ys)) old new
  finds_pair x ys i d old mid new lt = finds_next P f (pairs_of (x ∷ []) (take i ys)) ((x, get_or ys i d) ∷ []) old mid new (row_more x ys i d lt)

  pub finds_row : (xs ys : List X) (i : ℕ) (d : X) (old mid new : List Y) → i < length xs
      → Finds P f (pairs_of (take i xs) ys) old mid → Finds P f (pairs_of (get_or xs i d ∷ []) ys) mid new → Finds P f (pairs_of (take (i + 1) xs) ys) old new
  finds_row xs ys i d old mid new lt = finds_next P f (pairs_of (take i xs) ys) (pairs_of (get_or xs i d ∷ []) ys) old mid new (pairs_next (take i xs) (get_or xs i d ∷ []) ys (take_more xs i d lt))

  -- elements of the first list, of which none has a pair
  pub past_rows : (xs ys : List X) (i j : ℕ) (old new : List Y) → i ≤ j
      → ((k : ℕ) (d : X) → i ≤ k → k < j → k < length xs → (y : X) → ¬ P (get_or xs k d, y)) → Finds P f (pairs_of (take i xs) ys) old new → Finds P f (pairs_of (take j xs) ys) old new
  past_rows xs ys i j old new le miss h =
      let part = part_of xs i j in
      let none = no_rows (λ (z : X × X). ¬ P z) part ys (recursion_from_All (λ (x : X). (y : X) → ¬ P (x, y)) part (part_all (λ (x : X). (y : X) → ¬ P (x, y)) xs i j miss)) in
      finds_next P f (pairs_of (take i xs) ys) (pairs_of part ys) old new new (pairs_next (take i xs) part ys (take_to xs i j le)) h (finds_none P f (pairs_of part ys) new none)

-- ---- counts

pub count_joined : {X : Type 0} (p : X → Bool) (xs ys : List X) → count_by p (xs ++ ys) ≡ count_by p xs + count_by p ys
count_joined p xs ys = sum_by-append (λ x. cond (p x) 1 0) xs ys

pub count_mapped : {X Z : Type 0} (p : Z → Bool) (h : X → Z) (xs : List X) → count_by p (map h xs) ≡ count_by (λ (x : X). p (h x)) xs
count_mapped p h [] = refl
count_mapped p h (x ∷ xs) = sum_by-cons (λ z. cond (p z) 1 0) (h x) (map h xs) ∙ ap (λ n. cond (p (h x)) 1 0 + n) (count_mapped p h xs) ∙ sym (sum_by-cons (λ y. cond (p (h y)) 1 0) x xs)

-- of the pairs of a list and of what stands behind it
pub count_next : {X : Type 0} (p : X × X → Bool) {whole : List X} (xs zs ys : List X) → whole ≡ xs ++ zs → count_by p (pairs_of whole ys) ≡ count_by p (pairs_of xs ys) + count_by p (pairs_of zs ys)
count_next p xs zs ys is = ap (count_by p) (pairs_next xs zs ys is) ∙ count_joined p (pairs_of xs ys) (pairs_of zs ys)

pub count_row : {X : Type 0} (p : X × X → Bool) (xs ys : List X) (i : ℕ) (d : X) → i < length xs
    → count_by p (pairs_of (take (i + 1) xs) ys) ≡ count_by p (pairs_of (take i xs) ys) + count_by (λ (y : X). p (get_or xs i d, y)) ys
count_row {X} p xs ys i d lt =
    let x = get_or xs i d in
    count_next p (take i xs) (x ∷ []) ys (take_more xs i d lt)
    ∙ ap (λ n. count_by p (pairs_of (take i xs) ys) + n) (ap (count_by p) (append-nil (map (λ (y : X). (x, y)) ys)) ∙ count_mapped p (λ (y : X). (x, y)) ys)

pub count_rows_least : {X : Type 0} (p : X × X → Bool) (xs ys : List X) (i : ℕ) → count_by p (pairs_of (take i xs) ys) ≤ count_by p (pairs_of xs ys)
count_rows_least p xs ys i = let e = count_next p (take i xs) (drop i xs) ys (sym (take-append-drop i xs)) in omega (arith, e)
