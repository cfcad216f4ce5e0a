-- A level that is closed spells an array or an object, and its meaning is built from the marks.
-- For `finish`, `finish_span`, `merge` and `run_block`.
use Rattle.std.proofs.Common.{◌≡◌, ℕ, List, [], ◌∷◌, ◌++◌, Option, Some, None, true, refl, sym, ◌∙◌, ap, subst, append-nil, ◌+◌, length}
use Rattle.std.proofs.lemmas.Option.{same_Some, option_and_then_some}
use Rattle.at_lex.specs.declared.tokens.Bracket.{Bracket}
use Rattle.at_lex.specs.declared.tokens.Bracket.TheVariants.{Brace, Square}
use Rattle.at_lex.specs.Strings.{Character}
use Rattle.at_lex.specs.Spans.{AreSpaces, opening, closing}
use Rattle.at_nest.specs.Tree.{Tree, text, array, object, Trees, no_trees, tree_and, Members, no_members, member_and, Spells, SpellsItems, SpellsFurtherItems, SpellsMembers, SpellsFurtherMembers}
use Rattle.at_nest.specs.Forms.{Meaning, fold_of, folds_of, folds_of_members, Mark, comma as a_comma, colon as a_colon, quoted, entry, IsMark, Formed}
use Rattle.at_nest.specs.Walks.{Kind, comma_kind, colon_kind, text_kind, value_kind, mark_kind}
use Rattle.at_nest.specs.Levels.{Mode, at_items, at_value, at_after, at_members, at_name, at_colon, at_member, at_further, first_mode, move, closes_at, moves, values_in, pairs_in, built, marks}
use Rattle.at_nest.proofs.JsonMachine.{wrong}
use Rattle.at_nest.proofs.TreeParts.{PaddedParts, AfterParts, MemberParts, items_made, further_items_made, members_made, further_members_made, array_made, object_made}
use Rattle.at_nest.proofs.Lexical.{none_put}

closed_end : (md n : Mode) (b : Bracket) → ◌≡◌ {A = Option Mode} (Some md) (Some n) → closes_at n b ≡ true → closes_at md b ≡ true
closed_end md n b e h = ap (λ x. closes_at x b) (same_Some md n e) ∙ h

-- ---- arrays

-- the rest of an array's items, behind an item
abbrev FurtherItems : {X : Type 0} → Meaning X → ℕ → List ℕ → List (Mark X) → Type 0
FurtherItems m at r xs = (b y : List ℕ) × (ts : Trees) × (r ≡ b ++ y) × AreSpaces b × SpellsFurtherItems (at + length b) y ts × (folds_of m ts ≡ values_in m xs)

further_items : {X : Type 0} (m : Meaning X) (xs : List (Mark X)) (at : ℕ) (r : List ℕ) (n : Mode) → Formed m at r (marks xs) → moves at_after xs ≡ Some n → closes_at n Square ≡ true → FurtherItems m at r xs
further_items m [] at r n f e h = (r, [], no_trees, sym (append-nil r), f, refl, refl)
further_items m (a_comma i ∷ []) at r n f e h = wrong (closed_end at_value n Square e h)
further_items m (a_comma i ∷ (quoted j cs ∷ xs)) at r n (a, v, y, d, ha, (fi, hv), hap, (a2, v2, y2, d2, ha2, hp2, hap2, hf2)) e h =
    let (b3, y3, ts, d3, hb3, s3, q3) = further_items m xs (at + length a + length v + length a2 + length v2) y2 n hf2 e h in
    let width : at + length a + length v ≡ at + length a + 1 = ap (λ z. at + length a + length z) hv in (
      a,
      0x2C ∷ y,
      tree_and (text j cs) ts,
      d ∙ ap (λ z. a ++ (z ++ y)) hv,
      ha,
      further_items_made (text j cs) ts (at + length a) (0x2C ∷ y)
          (y, refl, (a2, v2, b3, y3, d2 ∙ ap (λ z. a2 ++ (v2 ++ z)) d3, ha2, hb3, subst (λ k. Spells (k + length a2) v2 (text j cs)) width hp2, subst (λ k. SpellsFurtherItems (k + length a2 + length v2 + length b3) y3 ts) width s3)),
      ap (λ z. m.of_text j cs ∷ z) q3,
    )
further_items m (a_comma i ∷ (entry j x ∷ xs)) at r n (a, v, y, d, ha, (fi, hv), hap, (a2, v2, y2, d2, ha2, (fj, t, sp, nt, ex), hap2, hf2)) e h =
    let (b3, y3, ts, d3, hb3, s3, q3) = further_items m xs (at + length a + length v + length a2 + length v2) y2 n hf2 e h in
    let width : at + length a + length v ≡ at + length a + 1 = ap (λ z. at + length a + length z) hv in (
      a,
      0x2C ∷ y,
      tree_and t ts,
      d ∙ ap (λ z. a ++ (z ++ y)) hv,
      ha,
      further_items_made t ts (at + length a) (0x2C ∷ y)
          (y, refl, (a2, v2, b3, y3, d2 ∙ ap (λ z. a2 ++ (v2 ++ z)) d3, ha2, hb3, subst (λ k. Spells (k + length a2) v2 t) width sp, subst (λ k. SpellsFurtherItems (k + length a2 + length v2 + length b3) y3 ts) width s3)),
      ap (λ z. fold_of m t ∷ z) q3 ∙ ap (λ z. z ∷ values_in m xs) (sym ex),
    )
further_items m _ at r n f e h = none_put n e

items_spelled : {X : Type 0} (m : Meaning X) (xs : List (Mark X)) (at : ℕ) (r : List ℕ) (n : Mode) → Formed m at r (marks xs) → moves at_items xs ≡ Some n → closes_at n Square ≡ true
    → (ts : Trees) × SpellsItems at r ts × (folds_of m ts ≡ values_in m xs)
items_spelled m [] at r n f e h = (no_trees, f, refl)
items_spelled m (quoted i cs ∷ xs) at r n (a, v, y, d, ha, hp, hap, hf) e h = let (b, z, ts, d2, hb, s, q) = further_items m xs (at + length a + length v) y n hf e h in
    (tree_and (text i cs) ts, items_made (text i cs) ts at r (a, v, b, z, d ∙ ap (λ k. a ++ (v ++ k)) d2, ha, hb, hp, s), ap (λ k. m.of_text i cs ∷ k) q)
items_spelled m (entry i x ∷ xs) at r n (a, v, y, d, ha, (fi, t, sp, nt, ex), hap, hf) e h = let (b, z, ts, d2, hb, s, q) = further_items m xs (at + length a + length v) y n hf e h in
    (tree_and t ts, items_made t ts at r (a, v, b, z, d ∙ ap (λ k. a ++ (v ++ k)) d2, ha, hb, sp, s), ap (λ k. fold_of m t ∷ k) q ∙ ap (λ k. k ∷ values_in m xs) (sym ex))
items_spelled m _ at r n f e h = none_put n e

-- ---- objects

module _ {X : Type 0} (m : Meaning X) where
  -- what follows by the grammar in each state of an object, with the meanings of the members
  abbrev FurtherOf : ℕ → List ℕ → List (Mark X) → Type 0
  FurtherOf at r xs = (b y : List ℕ) × (ms : Members) × (r ≡ b ++ y) × AreSpaces b × SpellsFurtherMembers (at + length b) y ms × (folds_of_members m ms ≡ pairs_in m None xs)

  abbrev ValueOf : (List Character × ℕ) → ℕ → List ℕ → List (Mark X) → Type 0
  ValueOf p at r xs = (t : Tree) × (ms : Members) × PaddedParts (λ j v. Spells j v t) (λ j z. SpellsFurtherMembers j z ms) at r × ((p.0, p.1, fold_of m t) ∷ folds_of_members m ms ≡ pairs_in m (Some p) xs)

  abbrev ColonOf : (List Character × ℕ) → ℕ → List ℕ → List (Mark X) → Type 0
  ColonOf p at r xs = (t : Tree) × (ms : Members) × (b y : List ℕ) × (r ≡ b ++ y) × AreSpaces b × AfterParts 0x3A (PaddedParts (λ j v. Spells j v t) (λ j z. SpellsFurtherMembers j z ms)) (at + length b) y
      × ((p.0, p.1, fold_of m t) ∷ folds_of_members m ms ≡ pairs_in m (Some p) xs)

  abbrev NameOf : ℕ → List ℕ → List (Mark X) → Type 0
  NameOf at r xs = (cs : List Character) × (i : ℕ) × (t : Tree) × (ms : Members)
      × MemberParts cs i t ms at r × ((cs, i, fold_of m t) ∷ folds_of_members m ms ≡ pairs_in m None xs)

  mutual
    further_of : (xs : List (Mark X)) (at : ℕ) (r : List ℕ) (n : Mode) → Formed m at r (marks xs) → moves at_further xs ≡ Some n → closes_at n Brace ≡ true → FurtherOf at r xs
    further_of [] at r n f e h = (r, [], no_members, sym (append-nil r), f, refl, refl)
    further_of (a_comma i ∷ xs) at r n (a, v, y, d, ha, (fi, hv), hap, hf) e h =
        let (cs, j, t, ms, s, q) = name_of xs (at + length a + length v) y n hf e h in
        let width : at + length a + length v ≡ at + length a + 1 = ap (λ z. at + length a + length z) hv in (
          a,
          0x2C ∷ y,
          member_and cs j t ms,
          d ∙ ap (λ z. a ++ (z ++ y)) hv,
          ha,
          further_members_made cs j t ms (at + length a) (0x2C ∷ y) (y, refl, subst (λ k. MemberParts cs j t ms k y) width s),
          q,
        )
    further_of _ at r n f e h = none_put n e

    name_of : (xs : List (Mark X)) (at : ℕ) (r : List ℕ) (n : Mode) → Formed m at r (marks xs) → moves at_name xs ≡ Some n → closes_at n Brace ≡ true → NameOf at r xs
    name_of [] at r n f e h = wrong (closed_end at_name n Brace e h)
    name_of (quoted i cs ∷ xs) at r n (a, v, y, d, ha, hp, hap, hf) e h =
        let (t, ms, b, z, d2, hb, s, q) = colon_of (cs, i) xs (at + length a + length v) y n hf e h in
        (cs, i, t, ms, (a, v, b, z, d ∙ ap (λ k. a ++ (v ++ k)) d2, ha, hb, hp, s), q)
    name_of _ at r n f e h = none_put n e

    colon_of : (p : List Character × ℕ) (xs : List (Mark X)) (at : ℕ) (r : List ℕ) (n : Mode) → Formed m at r (marks xs) → moves at_colon xs ≡ Some n → closes_at n Brace ≡ true → ColonOf p at r xs
    colon_of p [] at r n f e h = wrong (closed_end at_colon n Brace e h)
    colon_of p (a_colon i ∷ xs) at r n (a, v, y, d, ha, (fi, hv), hap, hf) e h =
        let (t, ms, s, q) = value_behind p xs (at + length a + length v) y n hf e h in
        let width : at + length a + length v ≡ at + length a + 1 = ap (λ z. at + length a + length z) hv in
        (t, ms, a, 0x3A ∷ y, d ∙ ap (λ z. a ++ (z ++ y)) hv, ha, (y, refl, subst (λ k. PaddedParts (λ j v. Spells j v t) (λ j z. SpellsFurtherMembers j z ms) k y) width s), q)
    colon_of p _ at r n f e h = none_put n e

    value_behind : (p : List Character × ℕ) (xs : List (Mark X)) (at : ℕ) (r : List ℕ) (n : Mode) → Formed m at r (marks xs) → moves at_member xs ≡ Some n → closes_at n Brace ≡ true → ValueOf p at r xs
    value_behind p [] at r n f e h = wrong (closed_end at_member n Brace e h)
    value_behind p (quoted i cs ∷ xs) at r n (a, v, y, d, ha, hp, hap, hf) e h =
        let (b, z, ms, d2, hb, s, q) = further_of xs (at + length a + length v) y n hf e h in
        (text i cs, ms, (a, v, b, z, d ∙ ap (λ k. a ++ (v ++ k)) d2, ha, hb, hp, s), ap (λ k. (p.0, p.1, m.of_text i cs) ∷ k) q)
    value_behind p (entry i x ∷ xs) at r n (a, v, y, d, ha, (fi, t, sp, nt, ex), hap, hf) e h =
        let (b, z, ms, d2, hb, s, q) = further_of xs (at + length a + length v) y n hf e h in
        (t, ms, (a, v, b, z, d ∙ ap (λ k. a ++ (v ++ k)) d2, ha, hb, sp, s), ap (λ k. (p.0, p.1, fold_of m t) ∷ k) q ∙ ap (λ k. (p.0, p.1, k) ∷ pairs_in m None xs) (sym ex))
    value_behind p _ at r n f e h = none_put n e

members_spelled : {X : Type 0} (m : Meaning X) (xs : List (Mark X)) (at : ℕ) (r : List ℕ) (n : Mode) → Formed m at r (marks xs) → moves at_members xs ≡ Some n → closes_at n Brace ≡ true
    → (ms : Members) × SpellsMembers at r ms × (folds_of_members m ms ≡ pairs_in m None xs)
members_spelled m [] at r n f e h = (no_members, f, refl)
members_spelled m (quoted i cs ∷ xs) at r n (a, v, y, d, ha, hp, hap, hf) e h =
    let (t, ms, b, z, d2, hb, s, q) = colon_of m (cs, i) xs (at + length a + length v) y n hf e h in
    (member_and cs i t ms, members_made cs i t ms at r (a, v, b, z, d ∙ ap (λ k. a ++ (v ++ k)) d2, ha, hb, hp, s), q)
members_spelled m _ at r n f e h = none_put n e

-- the bracket that a level of the mode has
abbrev bracket_of : Mode → Bracket
bracket_of at_items = Square
bracket_of at_value = Square
bracket_of at_after = Square
bracket_of _ = Brace

move_keeps : (md n : Mode) (k : Kind) → move md k ≡ Some n → bracket_of n ≡ bracket_of md
move_keeps at_items n (text_kind) e = ap bracket_of (sym (same_Some _ n e))
move_keeps at_items n (value_kind) e = ap bracket_of (sym (same_Some _ n e))
move_keeps at_value n (text_kind) e = ap bracket_of (sym (same_Some _ n e))
move_keeps at_value n (value_kind) e = ap bracket_of (sym (same_Some _ n e))
move_keeps at_after n (comma_kind) e = ap bracket_of (sym (same_Some _ n e))
move_keeps at_members n (text_kind) e = ap bracket_of (sym (same_Some _ n e))
move_keeps at_name n (text_kind) e = ap bracket_of (sym (same_Some _ n e))
move_keeps at_colon n (colon_kind) e = ap bracket_of (sym (same_Some _ n e))
move_keeps at_member n (text_kind) e = ap bracket_of (sym (same_Some _ n e))
move_keeps at_member n (value_kind) e = ap bracket_of (sym (same_Some _ n e))
move_keeps at_further n (comma_kind) e = ap bracket_of (sym (same_Some _ n e))
move_keeps _ n _ e = none_put n e

moves_keep : {X : Type 0} (xs : List (Mark X)) (md n : Mode) → moves md xs ≡ Some n → bracket_of n ≡ bracket_of md
moves_keep [] md n e = ap bracket_of (sym (same_Some md n e))
moves_keep (x ∷ xs) md n e = option_and_then_some (λ z. moves z xs) (move md (mark_kind x)) n e (λ v f g. moves_keep xs v n g ∙ move_keeps md v (mark_kind x) f)

first_keeps : (b : Bracket) → bracket_of (first_mode b) ≡ b
first_keeps Square = refl
first_keeps Brace = refl

closer_is : (md : Mode) (c : Bracket) → closes_at md c ≡ true → bracket_of md ≡ c
closer_is at_items Square h = refl
closer_is at_after Square h = refl
closer_is at_members Brace h = refl
closer_is at_further Brace h = refl
closer_is _ _ h = wrong h

same_level : {X : Type 0} (m : Meaning X) (b : Bracket) (xs : List (Mark X)) (at : ℕ) (r : List ℕ) (n : Mode) → Formed m (at + 1) r (marks xs) → moves (first_mode b) xs ≡ Some n → closes_at n b ≡ true
    → IsMark m at (opening b ∷ (r ++ (closing b ∷ []))) (entry at (built m b at xs))
same_level m Square xs at r n f e h = let (ts, s, q) = items_spelled m xs (at + 1) r n f e h in (refl, array at ts, array_made ts at at (opening Square ∷ (r ++ closing Square ∷ [])) (refl, (r, refl, s)), tt, ap (m.of_array at) (sym q))
same_level m Brace xs at r n f e h = let (ms, s, q) = members_spelled m xs (at + 1) r n f e h in (refl, object at ms, object_made ms at at (opening Brace ∷ (r ++ closing Brace ∷ [])) (refl, (r, refl, s)), tt, ap (m.of_object at) (sym q))

-- an opener, the marks of a level that may be closed, and the closer spell a value that means what is built
pub level_spelled : {X : Type 0} (m : Meaning X) (b c : Bracket) (xs : List (Mark X)) (at : ℕ) (r : List ℕ) (n : Mode) → Formed m (at + 1) r (marks xs) → moves (first_mode b) xs ≡ Some n → closes_at n c ≡ true
    → IsMark m at (opening b ∷ (r ++ (closing c ∷ []))) (entry at (built m b at xs))
level_spelled m b c xs at r n f e h = let same : c ≡ b = sym (closer_is n c h) ∙ (moves_keep xs (first_mode b) n e ∙ first_keeps b) in
    subst (λ z. IsMark m at (opening b ∷ (r ++ (closing z ∷ []))) (entry at (built m b at xs))) (sym same) (same_level m b xs at r n f e (ap (closes_at n) (sym same) ∙ h))
