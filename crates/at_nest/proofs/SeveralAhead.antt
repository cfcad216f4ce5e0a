-- Items of an array that were read at once, as what is read of the bytes from the first one's bracket on.
-- For `merge` and `run_block`.
use Rattle.std.proofs.Common.{◌≡◌, ℕ, inl, List, [], ◌∷◌, ◌++◌, Option, false, refl, sym, ◌∙◌, ap, subst, arith, append_assoc, append-nil, All, ◌+◌, ◌<◌, ◌≤◌, zero, suc, take, drop, take-append-drop, length, length-append}
use Rattle.std.proofs.lemmas.List.Elements.{All-nil, All-cons, All-head, All-tail}
use Rattle.at_text.specs.Texts.{is_space}
use Rattle.at_lex.specs.Spans.{AreSpaces, opening}
use Rattle.at_lex.specs.declared.tokens.Bracket.{Bracket}
use Rattle.at_lex.proofs.Unique.{head_same}
use Rattle.at_nest.specs.declared.pieces.SpanStop.{SpanStop as CodeHalt}
use Rattle.at_nest.specs.declared.algebra.Attempt.TheVariants.{Whole, Unsaid}
use Rattle.at_nest.specs.declared.algebra.Attempt.{Attempt}
use Rattle.at_nest.specs.Tree.{Tree, no_trees, Spells, SpellsItems, SpellsFurtherItems}
use Rattle.at_nest.specs.Borders.{ends_run}
use Rattle.at_nest.specs.Forms.{Piece, entry, mark, Formed}
use Rattle.at_nest.specs.Folds.{trees, Covers, IsAttempt, HasBrackets, IsItemsAttempt}
use Rattle.at_nest.specs.Levels.{further, marks, push_all}
use Rattle.at_nest.specs.Shown.{Shown}
use Rattle.at_nest.specs.KeptItems.{free, row_marks, row_trees, IsPushedAs, PushesItems, OwnAtom}
use Rattle.at_nest.specs.Reading.{ReadsAhead}
use Rattle.at_nest.proofs.TreeParts as parts
use Rattle.at_nest.proofs.Walks.{ends_append, spaces_end}
use Rattle.at_nest.proofs.Held.{covers_holds}
use Rattle.at_nest.proofs.Items.{apart_by}
use Rattle.at_nest.proofs.Told.{fold_free}
use Rattle.at_nest.proofs.Ahead.{IsEnded, no_opening, brackets_ended, brackets_no_text, value_brackets}

-- ---- a value alone is several items, one in number

pub attempt_items : {X : Type 0} (IsOwn : X → Type 0) (IsFold : X → Tree → Type 0) (IsRun : X → List Tree → Type 0) (at : ℕ) (w : List ℕ) (a : Attempt X) → (b : Bracket) × (more : List ℕ) × (w ≡ opening b ∷ more) → IsAttempt IsOwn IsFold at w a → IsItemsAttempt IsOwn IsFold IsRun at w a
attempt_items IsOwn IsFold IsRun at w (Whole len x) (b, more, e) (v, r, split, size, t, spells, own, fold) = (
  v,
  r,
  split,
  size,
  t,
  [],
  parts.items_made t no_trees at v ([], v, [], [], sym (append-nil v), tt, tt, (let e : at ≡ at + 0 = omega arith in subst (λ n. Spells n v t) e spells), refl),
  All-cons HasBrackets t [] (value_brackets at v r more b t (sym split ∙ e) spells) (All-nil HasBrackets),
  own,
  inl (t, refl, fold),
)
attempt_items IsOwn IsFold IsRun at w (Unsaid looked) begins h = tt

-- items of the first bytes alone
pub items_front : {X : Type 0} (IsOwn : X → Type 0) (IsFold : X → Tree → Type 0) (IsRun : X → List Tree → Type 0) (at : ℕ) (front back w : List ℕ) (a : Attempt X) → front ++ back ≡ w → IsItemsAttempt IsOwn IsFold IsRun at front a → IsItemsAttempt IsOwn IsFold IsRun at w a
items_front IsOwn IsFold IsRun at front back w (Whole len x) e (v, r, split, size, t, ts, spells, has, own, covers) = (v, r ++ back, sym e ∙ (ap (λ z. z ++ back) split ∙ append_assoc v r back), size, t, ts, spells, has, own, covers)
items_front IsOwn IsFold IsRun at front back w (Unsaid looked) e h = tt

-- the attempt saw the first n bytes
pub items_seen : {X : Type 0} (IsOwn : X → Type 0) (IsFold : X → Tree → Type 0) (IsRun : X → List Tree → Type 0) (at n : ℕ) (w : List ℕ) (len : ℕ) (x : X) (a : Attempt X) → a ≡ Whole len x → IsItemsAttempt IsOwn IsFold IsRun at (take n w) a → IsItemsAttempt IsOwn IsFold IsRun at w (Whole len x)
items_seen IsOwn IsFold IsRun at n w len x a e h = subst (λ z. IsItemsAttempt IsOwn IsFold IsRun at w z) e (items_front IsOwn IsFold IsRun at (take n w) (drop n w) w a (take-append-drop n w) h)

pub items_fit : {X : Type 0} (IsOwn : X → Type 0) (IsFold : X → Tree → Type 0) (IsRun : X → List Tree → Type 0) (at : ℕ) (w : List ℕ) (len : ℕ) (x : X) → IsItemsAttempt IsOwn IsFold IsRun at w (Whole len x) → len ≤ length w
items_fit IsOwn IsFold IsRun at w len x (v, r, split, size, t, ts, spells, has, own, covers) = let e : length w ≡ length (v ++ r) = ap (λ z. length z) split in omega (arith, size, e, length-append v r)

-- the first bytes begin as all do
pub front_begins : (n : ℕ) (b : Bracket) (w : List ℕ) → 0 < n → (more : List ℕ) × (w ≡ opening b ∷ more) → (c : Bracket) × (more : List ℕ) × (take n w ≡ opening c ∷ more)
front_begins zero b w h begins = absurd (omega (arith, h))
front_begins (suc n) b w h (more, e) = (b, take n more, ap (take (suc n)) e)

-- ---- an item with brackets

item_formed : (at : ℕ) (w a v r : List ℕ) (t : Tree) (ps : List (Piece Tree)) → w ≡ a ++ (v ++ r) → AreSpaces a → HasBrackets t → Spells (at + length a) v t → Formed free (at + length a + length v) r ps → Formed free at w (mark (entry (at + length a) t) ∷ ps)
item_formed at w a v r t ps e spaces has spells more = (a, v, r, e, spaces, (refl, t, spells, brackets_no_text t has, sym (fold_free t)), apart_by v r (brackets_ended (at + length a) v t has spells).1, more)

-- ---- the items behind the first one

abbrev AreFurther : ℕ → List ℕ → List Tree → Type 0
AreFurther at w ts = (es : List (ℕ × ℕ × Tree)) × (row_trees es ≡ ts) × Formed free at w (marks (row_marks es))

further_formed : (ts : List Tree) (at : ℕ) (b r : List ℕ) → AreSpaces b → SpellsFurtherItems (at + length b) r (trees ts) → All HasBrackets ts → AreFurther at (b ++ r) ts
further_formed [] at b r spaces e has = ([], refl, subst AreSpaces (sym (ap (λ z. b ++ z) e ∙ append-nil b)) spaces)
further_formed (t ∷ ts) at b r spaces h has =
    let (y, e, (a, v, c, z, split, before, behind, spells, more)) = parts.further_items_parts t (trees ts) (at + length b) r h in
    let k : ℕ = at + length b + 1 in
    let (es, same, formed) = further_formed ts (k + length a + length v) c z behind more (All-tail HasBrackets t ts has) in (
      (at + length b, k + length a, t) ∷ es,
      ap (λ us. t ∷ us) same,
      (b, 0x2C ∷ [], y, ap (λ u. b ++ u) e, spaces, (refl, refl), refl, item_formed k y a v (c ++ z) t (marks (row_marks es)) split before (All-head HasBrackets t ts has) spells formed),
    )

-- ---- their last byte is of no run

both_ended : (x y : List ℕ) → ends_run x ≡ false → ends_run y ≡ false → ends_run (x ++ y) ≡ false
both_ended x [] h k = ap ends_run (append-nil x) ∙ h
both_ended x (c ∷ y) h k = ends_append x c y ∙ k

item_ended : (at : ℕ) (w a v b r : List ℕ) (t : Tree) → w ≡ a ++ (v ++ (b ++ r)) → AreSpaces a → AreSpaces b → HasBrackets t → Spells at v t → ends_run r ≡ false → ends_run w ≡ false
item_ended at w a v b r t e before behind has spells h = ap ends_run e ∙ both_ended a (v ++ (b ++ r)) (spaces_end a before) (both_ended v (b ++ r) (brackets_ended at v t has spells).1 (both_ended b r (spaces_end b behind) h))

further_ended : (ts : List Tree) (at : ℕ) (r : List ℕ) → SpellsFurtherItems at r (trees ts) → All HasBrackets ts → ends_run r ≡ false
further_ended [] at r e has = ap ends_run e
further_ended (t ∷ ts) at r h has =
    let (y, e, (a, v, c, z, split, before, behind, spells, more)) = parts.further_items_parts t (trees ts) at r h in
    ap ends_run e
    ∙ both_ended (0x2C ∷ []) y refl (item_ended (at + 1 + length a) y a v c z t split before behind (All-head HasBrackets t ts has) spells (further_ended ts (at + 1 + length a + length v + length c) z more (All-tail HasBrackets t ts has)))

-- ---- all of them

no_spaces : (a x more : List ℕ) (b : Bracket) → AreSpaces a → a ++ x ≡ opening b ∷ more → length a ≡ 0
no_spaces [] x more b h e = refl
no_spaces (c ∷ a) x more b h e = absurd (no_opening is_space refl refl b c h.0 (head_same c (opening b) (a ++ x) more e))

record AreSeveral (at : ℕ) (v : List ℕ) (t : Tree) (ts : List Tree) : Type 0 where
  others : List (ℕ × ℕ × Tree)
  same : row_trees others ≡ ts
  formed : Formed free at v (marks (entry at t ∷ row_marks others))
  ended : IsEnded v

several_formed : (at : ℕ) (v r more : List ℕ) (b : Bracket) (t : Tree) (ts : List Tree) → v ++ r ≡ opening b ∷ more → SpellsItems at v (trees (t ∷ ts)) → All HasBrackets (t ∷ ts) → AreSeveral at v t ts
several_formed at v r more b t ts e h has =
    let (a, u, c, z, split, before, behind, spells, others) = parts.items_parts t (trees ts) at v h in
    let first : HasBrackets t = All-head HasBrackets t ts has in
    let rest : All HasBrackets ts = All-tail HasBrackets t ts has in
    let none : length a ≡ 0 = no_spaces a ((u ++ (c ++ z)) ++ r) more b before (sym (append_assoc a (u ++ (c ++ z)) r) ∙ (ap (λ y. y ++ r) (sym split) ∙ e)) in
    let place : at + length a ≡ at = omega (arith, none) in
    let (es, same, formed) = further_formed ts (at + length a + length u) c z behind others rest in
    let long : 0 < length u = (brackets_ended (at + length a) u t first spells).0 in
    let size : length v ≡ length (a ++ (u ++ (c ++ z))) = ap (λ y. length y) split in
    record {
      others = es;
      same = same;
      formed = subst (λ n. Formed free at v (marks (entry n t ∷ row_marks es))) place (item_formed at v a u (c ++ z) t (marks (row_marks es)) split before first spells formed);
      ended = (
        omega (arith, long, size, length-append a (u ++ (c ++ z)), length-append u (c ++ z)),
        item_ended (at + length a) v a u c z t split before behind first spells (further_ended ts (at + length a + length u + length c) z others rest),
      );
    }

pub several_ahead : {X : Type 0} (IsOwn : X → Type 0) (IsFold : X → Tree → Type 0) (IsRun : X → List Tree → Type 0) (old new : Shown X) (r : Option CodeHalt) (b : Bracket) (at : ℕ) (ahead : List ℕ) (len : ℕ) (x : X) → (more : List ℕ) × (ahead ≡ opening b ∷ more) → IsItemsAttempt IsOwn IsFold IsRun at ahead (Whole len x)
    → PushesItems (OwnAtom IsOwn IsFold IsRun) old new r at x → ReadsAhead (OwnAtom IsOwn IsFold IsRun) old new r at ahead (at + len)
several_ahead IsOwn IsFold IsRun old new r b at ahead len x (more, e) (v, rest, split, size, t, ts, spells, has, own, covers) pushes =
    let q : AreSeveral at v t ts = several_formed at v rest more b t ts (sym split ∙ e) spells has in
    let ps : List (Piece Tree) = marks (entry at t ∷ row_marks q.others) in (
      v,
      rest,
      split,
      ap (λ n. at + n) size,
      q.ended.0,
      q.ended.1,
      λ base w f h. (
        further (record { outer = ps; levels = [] }),
        record { formed = subst (Formed free at v) (sym (append-nil ps)) q.formed; levels = tt },
        subst (λ z. IsPushedAs (OwnAtom IsOwn IsFold IsRun) base w new r (push_all free z f)) (sym (append-nil ps))
            (pushes base w f t q.others h (covers_holds IsOwn IsFold IsRun x (t ∷ row_trees q.others) own (subst (λ z. Covers IsFold IsRun x (t ∷ z)) (sym q.same) covers))),
      ),
    )
