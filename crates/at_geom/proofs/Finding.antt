-- Walks over lists that end at the first element which passes a test.
-- For `some_position`, `some_segment`, and those who call them.
use Rattle.std.proofs.Common.{◌≡◌, ℕ, ◌+◌, ◌<◌, inl, inr, Bool, true, false, List, [], ◌∷◌, ◌++◌, length, get_or, drop, refl, ap, subst, sym, ◌∙◌}
use Rattle.std.specs.Prelude.{All, flat_map, IsTrue, ◌↔◌}
use Rattle.std.proofs.lemmas.Bool.{false≢true}
use Rattle.std.proofs.lemmas.List.{drop_more}
use Rattle.at_text.specs.Lists.{SomeOf}
use Rattle.at_geom.specs.declared.positions.Pos.{Pos}
use Rattle.at_geom.specs.Segments.{IsInRange, edges}
use Rattle.at_geom.specs.Walks.{IsSearchAnswer, Searches}
use Rattle.at_geom.proofs.Elements.{head_of_all, tail_of_all, some_left, first_of_three, second_of_three}

-- what is found in the rest, which the loop has still to look through, is found in the whole
pub record Decides {X : Type 0} (Says : X → Bool → Type 0) (whole rest : List X) : Type 0 where
  pub decides : (r : Bool) → IsSearchAnswer Says rest r → IsSearchAnswer Says whole r

-- the same of a loop over what gives lists, and of one over the positions behind the first
pub record DecidesItems {X Y : Type 0} (Says : Y → Bool → Type 0) (f : X → List Y) (xs : List X) (i : ℕ) : Type 0 where
  pub left : Decides Says (flat_map f xs) (flat_map f (drop i xs))

pub record DecidesEdges (Says : Pos × Pos → Bool → Type 0) (path : List Pos) (a : Pos) (rest : List Pos) (i : ℕ) : Type 0 where
  pub from_in_range : IsInRange a
  pub rest_in_range : All IsInRange rest
  pub left : Decides Says (edges path) (edges (a ∷ drop i rest))

-- nothing is found in the first list
behind : {X : Type 0} (Says : X → Bool → Type 0) (xs ys : List X) (r : Bool) → IsSearchAnswer Says xs false → IsSearchAnswer Says ys r → IsSearchAnswer Says (xs ++ ys) r
behind Says [] ys r none h = h
behind Says (x ∷ xs) ys true none h = inr (behind Says xs ys true none.1 h)
behind Says (x ∷ xs) ys false none h = (none.0, behind Says xs ys false none.1 h)

answered : {X : Type 0} {Says : X → Bool → Type 0} {xs part : List X} {r s : Bool} → part ≡ xs → Searches Says part r → r ≡ s → IsSearchAnswer Says xs s
answered {Says = Says} {xs = xs} {r = r} e h t = subst (IsSearchAnswer Says xs) t (subst (λ (l : List _). IsSearchAnswer Says l r) e h.answer)

-- the next element of the rest doesn't pass
pub passed : {X : Type 0} {Says : X → Bool → Type 0} {whole next rest : List X} {x : X} → Decides Says whole next → next ≡ x ∷ rest → Says x false → Decides Says whole rest
passed {X} {Says} {rest = rest} {x = x} now e none = record {
  decides = λ r h. now.decides r (subst (λ (l : List X). IsSearchAnswer Says l r) (sym e) (behind Says (x ∷ []) rest r (none, tt) h));
}

-- the loop's item y gives a list, which was looked through
pub item_found : {X Y : Type 0} {Says : Y → Bool → Type 0} {f : X → List Y} {xs : List X} {i : ℕ} {y : X} {part : List Y} {r : Bool} → DecidesItems Says f xs i → y ≡ get_or xs i y → i < length xs → part ≡ f y → Searches Says part r → r ≡ true → Searches Says (flat_map f xs) true
item_found {X} {Y} {Says} {f} {xs} {i} {y} now is lt e found t =
    let here = answered (e ∙ ap f is) found t in
    record { answer = now.left.decides true (subst (λ (l : List X). IsSearchAnswer Says (flat_map f l) true) (sym (drop_more xs i y lt)) (some_left (λ (x : Y). Says x true) (f (get_or xs i y)) (flat_map f (drop (i + 1) xs)) here)) }

pub item_passed : {X Y : Type 0} {Says : Y → Bool → Type 0} {f : X → List Y} {xs : List X} {i : ℕ} {y : X} {part : List Y} {r : Bool} → DecidesItems Says f xs i → y ≡ get_or xs i y → i < length xs → part ≡ f y → Searches Says part r → r ≡ false → DecidesItems Says f xs (i + 1)
item_passed {X} {Y} {Says} {f} {xs} {i} {y} now is lt e none t =
    let here = answered (e ∙ ap f is) none t in
    record {
      left = record {
        decides = λ r h. now.left.decides r (subst (λ (l : List X). IsSearchAnswer Says (flat_map f l) r) (sym (drop_more xs i y lt)) (behind Says (f (get_or xs i y)) (flat_map f (drop (i + 1) xs)) r here h));
      };
    }

-- the loop's item ends an edge
pub all_edges : {Says : Pos × Pos → Bool → Type 0} {path : List Pos} {a : Pos} {rest : List Pos} → path ≡ a ∷ rest → All IsInRange path → DecidesEdges Says path a rest 0
all_edges {Says} e ranged = record {
  from_in_range = head_of_all IsInRange e ranged;
  rest_in_range = tail_of_all IsInRange e ranged;
  left = record { decides = λ r. subst (λ (l : List Pos). IsSearchAnswer Says (edges l) r) (sym e) };
}

pub edge_passed : {Says : Pos × Pos → Bool → Type 0} {path : List Pos} {a : Pos} {rest : List Pos} {i : ℕ} (d : Pos) → DecidesEdges Says path a rest i → i < length rest → Says (a, get_or rest i d) false → DecidesEdges Says path (get_or rest i d) rest (i + 1)
edge_passed {a = a} {rest = rest} {i = i} d now lt none = record {
  from_in_range = now.rest_in_range i d lt;
  rest_in_range = now.rest_in_range;
  left = passed now.left (ap (λ (l : List Pos). edges (a ∷ l)) (drop_more rest i d lt)) none;
}

-- ---- lists in three parts, looked through one after the other

pub found_in_first : {X : Type 0} {Says : X → Bool → Type 0} {xs : List X} (ys zs : List X) {part : List X} {r : Bool} → part ≡ xs → Searches Says part r → r ≡ true → Searches Says ((xs ++ ys) ++ zs) true
found_in_first {X} {Says} {xs} ys zs e h t = record { answer = first_of_three (λ (x : X). Says x true) xs ys zs (answered e h t) }

pub found_in_second : {X : Type 0} {Says : X → Bool → Type 0} (xs : List X) {ys : List X} (zs : List X) {part : List X} {r : Bool} → part ≡ ys → Searches Says part r → r ≡ true → Searches Says ((xs ++ ys) ++ zs) true
found_in_second {X} {Says} xs {ys} zs e h t = record { answer = second_of_three (λ (x : X). Says x true) xs ys zs (answered e h t) }

pub in_third : {X : Type 0} {Says : X → Bool → Type 0} {xs ys zs one two three : List X} {q r s : Bool} → one ≡ xs → two ≡ ys → three ≡ zs → Searches Says one q → q ≡ false → Searches Says two r → r ≡ false → Searches Says three s → Searches Says ((xs ++ ys) ++ zs) s
in_third {X} {Says} {xs} {ys} {zs} {s = s} e f g first no_first second no_second third =
    record { answer = behind Says (xs ++ ys) zs s (behind Says xs ys false (answered e first no_first) (answered f second no_second)) (answered g third refl) }

-- ---- what the test decides

means : {X : Type 0} (Says : X → Bool → Type 0) (P : X → Type 0) → ((x : X) (b : Bool) → Says x b → IsTrue b ↔ P x) → (xs : List X) (r : Bool) → IsSearchAnswer Says xs r → IsTrue r ↔ SomeOf P xs
means Says P told [] true h = absurd h
means Says P told [] false h = (λ t. absurd (false≢true t), λ m. absurd m)
means Says P told (x ∷ xs) true (inl h) = (λ _. inl ((told x true h).0 refl), λ _. refl)
means Says P told (x ∷ xs) true (inr h) = (λ _. inr ((means Says P told xs true h).0 refl), λ _. refl)
means Says P told (x ∷ xs) false (h, k) = (
  λ t. absurd (false≢true t),
  λ m. absurd (elim m [ inl n ↦ false≢true ((told x false h).1 n) | inr n ↦ false≢true ((means Says P told xs false k).1 n) ]),
)

pub found_means : {X : Type 0} {Says : X → Bool → Type 0} (P : X → Type 0) {xs : List X} {r : Bool} → Searches Says xs r → ((x : X) (b : Bool) → Says x b → IsTrue b ↔ P x) → IsTrue r ↔ SomeOf P xs
found_means {Says = Says} P {xs} {r} h told = means Says P told xs r h.answer
