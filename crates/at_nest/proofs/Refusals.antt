-- A token that is refused stands where no bytes before the span make its first byte viable.
-- For `merge` and `run_block`.
use Rattle.std.proofs.Common.{◌≡◌, ℕ, ◌⊎◌, inl, inr, List, [], ◌∷◌, ◌++◌, Option, Some, None, option_and_then, true, false, not, refl, sym, ◌∙◌, ap, subst, arith, append_assoc, append-nil, ◌+◌, length, length-append, true≢false}
use Rattle.std.proofs.lemmas.Option.{none-some, same_Some, option_and_then_some}
use Rattle.std.proofs.lemmas.Bool.{not-true}
use Rattle.at_lex.specs.Spans.{end_of, IsKind}
use Rattle.at_lex.specs.Stream.{Left, GivesItem}
use Rattle.at_lex.specs.declared.tokens.Start.TheVariants.{Out}
use Rattle.at_lex.specs.declared.tokens.Bracket.{Bracket}
use Rattle.at_lex.specs.declared.tokens.Bracket.TheVariants.{Brace, Square}
use Rattle.at_lex.specs.declared.tokens.Token.{Token}
use Rattle.at_lex.specs.declared.tokens.TokenKind.{TokenKind}
use Rattle.at_lex.specs.declared.tokens.TokenKind.TheVariants as token
use Rattle.at_lex.specs.declared.tokens.Item.TheVariants.{Whole as WholeItem}
use Rattle.at_lex.proofs.Unique.{head_same}
use Rattle.at_nest.specs.declared.bodies.Body.{Body}
use Rattle.at_nest.specs.declared.levels.ArrayState.TheVariants as array
use Rattle.at_nest.specs.declared.levels.ObjectState.TheVariants as object
use Rattle.at_nest.specs.declared.pieces.Piece.{Piece as CodePiece}
use Rattle.at_nest.specs.declared.pieces.Piece.TheVariants.{Comma, Colon, Text, Value, Row as RowPiece, Members as MembersPiece, Closers as ClosersPiece}
use Rattle.at_nest.specs.declared.variants.Variant.TheVariants.{Broken}
use Rattle.at_nest.specs.Tree.{Tree}
use Rattle.at_nest.specs.Borders.{ends_run, are_apart}
use Rattle.at_nest.specs.Forms.{Meaning, Piece, comma, colon, quoted, entry, opens, closes, mark, IsPiece, Formed}
use Rattle.at_nest.specs.Walks.{Kind, an_opener, a_closer, comma_kind, colon_kind, text_kind, value_kind, kind_of, at_of, next, walk_on, reached}
use Rattle.at_nest.specs.Levels.{Level, Form, full, marks, opened, pieces_of, plain_halt}
use Rattle.at_nest.specs.Stops.{IsDeadHere, AreLevels, IsStop}
use Rattle.at_nest.specs.Shown.{Held, array_level, object_level, Shown, shown, stop_at, takes_value}
use Rattle.at_nest.specs.MemberMarks.{ValueMark, string_value, other_value, mark_of, MemberMarks, member_marks}
use Rattle.at_nest.specs.Closers.{turn}
use Rattle.at_nest.specs.KeptItems.{Content, free, closers, row_marks, IsHeld, EachHeld, IsHeldPiece, ArePieces, EachPiece, IsShown, halt_of}
use Rattle.at_nest.specs.Refusals.{not_behind_value, not_behind_text, not_behind_mark, not_behind_piece, not_behind_last, last_of, not_in, is_refused}
use Rattle.at_nest.specs.VariantMeanings.{HoldsBehind}
use Rattle.at_nest.proofs.JsonMachine.{State, Frame, in_array, in_object, value, items, members, name, colon as colon_state, after, step, wrong}
use Rattle.at_nest.proofs.Steps.{Settled, is_clear, settled_step}
use Rattle.at_nest.proofs.Values.{go}
use Rattle.at_nest.proofs.PieceSteps.{Halts, piece_first, piece_at, piece_halts, next_still}
use Rattle.at_nest.proofs.Walks.{Reads, Halted, walk_reads, walk_halts, cases, spaces_apart}
use Rattle.at_nest.proofs.Lexical.{At, at_run}
use Rattle.at_nest.proofs.Joins.{Cut, formed_cut, formed_append, formed_out, end_append, run_split, viable_runs, apart_front, apart_nothing, apart_join}
use Rattle.at_nest.proofs.Ran.{ran_start, goes_settled}
use Rattle.at_nest.proofs.Pushes.{dead_level, level_more, stop_before, halts_after}
use Rattle.at_nest.proofs.Merges.{stop_right, apart_both}
use Rattle.at_nest.proofs.TokenReads.{run_tree}
use Rattle.at_nest.proofs.Items.{Consumed}
use Rattle.at_nest.proofs.Closers.{closers_more}

-- ---- what the grammar's states are behind a piece

value_leads : (s t : State) → next s value_kind ≡ Some t → (st : List Frame) × (t ≡ after st)
value_leads (value st) t e = (st, sym (same_Some (after st) t e))
value_leads (items st) t e = (in_array ∷ st, sym (same_Some (after (in_array ∷ st)) t e))
value_leads (after (in_array ∷ st)) t e = absurd (none-some t e)
value_leads _ t e = absurd (none-some t e)

closer_leads : (b : Bracket) (s t : State) → next s (a_closer b) ≡ Some t → (st : List Frame) × (t ≡ after st)
closer_leads Square (items st) t e = (st, sym (same_Some (after st) t e))
closer_leads Brace (members st) t e = (st, sym (same_Some (after st) t e))
closer_leads Square (after (in_array ∷ st)) t e = (st, sym (same_Some (after st) t e))
closer_leads Brace (after (in_object ∷ st)) t e = (st, sym (same_Some (after st) t e))
closer_leads _ _ t e = absurd (none-some t e)

text_leads : (s t : State) → next s text_kind ≡ Some t → (st : List Frame) × ((t ≡ after st) ⊎ (t ≡ colon_state st))
text_leads (value st) t e = (st, inl (sym (same_Some (after st) t e)))
text_leads (items st) t e = (in_array ∷ st, inl (sym (same_Some (after (in_array ∷ st)) t e)))
text_leads (members st) t e = (st, inr (sym (same_Some (colon_state st) t e)))
text_leads (name st) t e = (st, inr (sym (same_Some (colon_state st) t e)))
text_leads (after (in_array ∷ st)) t e = absurd (none-some t e)
text_leads _ t e = absurd (none-some t e)

comma_leads : (s t : State) → next s comma_kind ≡ Some t → (st : List Frame) × ((t ≡ value st) ⊎ (t ≡ name st))
comma_leads (after (in_array ∷ st)) t e = (in_array ∷ st, inl (sym (same_Some (value (in_array ∷ st)) t e)))
comma_leads (after (in_object ∷ st)) t e = (st, inr (sym (same_Some (name st) t e)))
comma_leads _ t e = absurd (none-some t e)

colon_leads : (s t : State) → next s colon_kind ≡ Some t → (st : List Frame) × (t ≡ value st)
colon_leads (colon_state st) t e = (in_object ∷ st, sym (same_Some (value (in_object ∷ st)) t e))
colon_leads (after (in_array ∷ st)) t e = absurd (none-some t e)
colon_leads _ t e = absurd (none-some t e)

-- ---- a token behind a piece

-- what the grammar sees of a whole token
abbrev token_kind : TokenKind → Kind
token_kind (token.Opens b) = an_opener b
token_kind (token.Closes b) = a_closer b
token_kind token.Comma = comma_kind
token_kind token.Colon = colon_kind
token_kind token.Text = text_kind
token_kind _ = value_kind

value_then : (k : TokenKind) → not_behind_value k ≡ true → (st : List Frame) → next (after st) (token_kind k) ≡ None
value_then (token.Closes b) e st = wrong e
value_then token.Comma e st = wrong e
value_then (token.Broken n) e st = wrong e
value_then _ e (in_array ∷ st) = refl
value_then _ e _ = refl

text_then_value : (k : TokenKind) → not_behind_text k ≡ true → not_behind_value k ≡ true
text_then_value (token.Closes b) h = h
text_then_value token.Comma h = h
text_then_value token.Colon h = wrong h
text_then_value (token.Broken n) h = h
text_then_value _ h = refl

text_then : (k : TokenKind) → not_behind_text k ≡ true → (st : List Frame) (t : State) → (t ≡ after st) ⊎ (t ≡ colon_state st) → next t (token_kind k) ≡ None
text_then token.Colon e st t f = wrong e
text_then k e st t (inl f) = ap (λ z. next z (token_kind k)) f ∙ value_then k (text_then_value k e) st
text_then k e st t (inr f) = ap (λ z. next z (token_kind k)) f

mark_then : (k : TokenKind) → not_behind_mark k ≡ true → (st : List Frame) (t : State) → (t ≡ value st) ⊎ (t ≡ name st) → next t (token_kind k) ≡ None
mark_then (token.Opens b) e st t f = wrong e
mark_then token.Text e st t f = wrong e
mark_then token.Run e st t f = wrong e
mark_then (token.Broken n) e st t f = wrong e
mark_then k e st t (inl f) = ap (λ z. next z (token_kind k)) f
mark_then k e st t (inr f) = ap (λ z. next z (token_kind k)) f

-- wherever the first may stand, the second has no place behind it
abbrev Refuses : Kind → Kind → Type 0
Refuses j k = (s t : State) → next s j ≡ Some t → next t k ≡ None

behind_value : (k : TokenKind) → not_behind_value k ≡ true → Refuses value_kind (token_kind k)
behind_value k h s t e = let (st, f) = value_leads s t e in ap (λ z. next z (token_kind k)) f ∙ value_then k h st

behind_closer : (b : Bracket) (k : TokenKind) → not_behind_value k ≡ true → Refuses (a_closer b) (token_kind k)
behind_closer b k h s t e = let (st, f) = closer_leads b s t e in ap (λ z. next z (token_kind k)) f ∙ value_then k h st

behind_text : (k : TokenKind) → not_behind_text k ≡ true → Refuses text_kind (token_kind k)
behind_text k h s t e = let (st, f) = text_leads s t e in text_then k h st t f

behind_comma : (k : TokenKind) → not_behind_mark k ≡ true → Refuses comma_kind (token_kind k)
behind_comma k h s t e = let (st, f) = comma_leads s t e in mark_then k h st t f

behind_colon : (k : TokenKind) → not_behind_mark k ≡ true → Refuses colon_kind (token_kind k)
behind_colon k h s t e = let (st, f) = colon_leads s t e in mark_then k h st t (inl f)

-- ---- the machine for bytes, behind any bytes that lead outside text

-- where the bytes from d on go on behind the bytes y, the machine is settled before them
abbrev IsReady : State → List ℕ → Type 0
IsReady q w = (u : State) × Settled q u × (is_clear q w ≡ true)

ready : (q t : State) (y : List ℕ) (d : ℕ) (w : List ℕ) → go (value []) y ≡ Some q → At q Out → are_apart y (d ∷ w) ≡ true → go q (d ∷ w) ≡ Some t → IsReady q (d ∷ w)
ready q t y d w e at1 apart g = option_and_then_some (λ z. go z w) (step q d) t g (λ v f k. goes_settled q v (ends_run y) d w at1 (ran_start q y e) apart f)

-- ---- two pieces of which the second has no place

some_byte : (a v z : List ℕ) (c : ℕ) (u : List ℕ) → v ≡ c ∷ u → (d : ℕ) × (o : List ℕ) × (a ++ (v ++ z) ≡ d ∷ o)
some_byte [] v z c u e = (c, u ++ z, ap (λ y. y ++ z) e)
some_byte (d ∷ a) v z c u e = (d, a ++ (v ++ z), refl)

regroup : (a v b z : List ℕ) → a ++ (v ++ (b ++ z)) ≡ (a ++ (v ++ b)) ++ z
regroup a v b z = ap (λ y. a ++ y) (sym (append_assoc v b z)) ∙ sym (append_assoc a (v ++ b) z)

halted_goes : (q t : State) (k i : ℕ) (w : List ℕ) → Halted q k w i → go q w ≡ Some t → ⊥
halted_goes q t k i w h e = let (p, f, g) = run_split q t h.before (h.byte ∷ h.others) (ap (go q) (sym h.split) ∙ e) in
    let none : step p h.byte ≡ None = ap (λ z. step z h.byte) (same_Some p h.last (sym f ∙ h.goes)) ∙ h.halts in
    none-some t (sym (ap (option_and_then (λ z. go z h.others)) none) ∙ g)

-- the bytes w of the first piece, with white space round it, and then a byte with which the second one begins
two_stop : {X : Type 0} (m : Meaning X) (c p : Piece X) (k j : ℕ) (w v : List ℕ) (b : ℕ) (u : List ℕ) (q s t : State) → Refuses (kind_of c) (kind_of p) → Settled q s → is_clear q w ≡ true → is_clear q (w ++ (b ∷ [])) ≡ true
    → Formed m k w (c ∷ []) → are_apart w (b ∷ []) ≡ true → IsPiece m j v p → v ≡ b ∷ u → go q (w ++ (b ∷ [])) ≡ Some t → ⊥
two_stop m c p k j w v b u q s t refuses settled clear clear2 formed apart hp e g = let (q2, f, g2) = run_split q t w (b ∷ []) g in elim (cases (next s (kind_of c))) [
  | inl n ↦ halted_goes q q2 k (at_of c) w (walk_halts m (c ∷ []) k w q s (at_of c) settled clear formed (ap (λ o. walk_on o (at_of c) (λ z. reached z)) n)) f
  | inr (s2, n) ↦ (let r : Reads q s2 w = walk_reads m (c ∷ []) k w q s s2 settled clear formed (ap (λ o. walk_on o (at_of c) (λ z. reached z)) n) in
      let h : Halts s2 v = piece_halts m s2 j v p (next_still s (kind_of c) s2 n) hp (refuses s s2 n) in
      let none : step s2 b ≡ None = ap (step s2) (head_same b h.byte u h.others (sym e ∙ h.split)) ∙ h.halts in
      halts_after q r.last t w b r.goes (settled_step r.last s2 b r.settled (not-true _ (r.clear (b ∷ []) apart clear2)) ∙ none) g)
]

dead_two : {X : Type 0} (m : Meaning X) (at : ℕ) (w : List ℕ) (front : List (Piece X)) (c p : Piece X) → Refuses (kind_of c) (kind_of p) → Formed m at w (front ++ (c ∷ (p ∷ []))) → IsDeadHere at w (at_of p)
dead_two {X} m at w front c p refuses f =
    let cut : Cut m at w front (c ∷ (p ∷ [])) = formed_cut m at w front (c ∷ (p ∷ [])) f in
    let k : ℕ = at + length cut.front in
    let (a, v, r, d, ha, hc, hap, hr) = cut.second in
    let (a2, v2, r2, d2, ha2, hp, hap2, hr2) = hr in
    let (c1, u1, e1) = piece_first m (k + length a) v c hc in
    let (b, u, e2) = piece_first m (k + length a + length v + length a2) v2 p hp in
    let w1 : List ℕ = a ++ (v ++ a2) in
    let rest : r ≡ a2 ++ (b ∷ (u ++ r2)) = d2 ∙ ap (λ z. a2 ++ (z ++ r2)) e2 in
    let back : cut.back ≡ w1 ++ (b ∷ (u ++ r2)) = d ∙ (ap (λ z. a ++ (v ++ z)) rest ∙ regroup a v a2 (b ∷ (u ++ r2))) in
    let split : w ≡ (cut.front ++ w1) ++ (b ∷ (u ++ r2)) = cut.split ∙ (ap (λ z. cut.front ++ z) back ∙ sym (append_assoc cut.front w1 (b ∷ (u ++ r2)))) in
    let apart_r : are_apart v (a2 ++ (b ∷ (u ++ r2))) ≡ true = ap (are_apart v) (sym rest) ∙ hap in
    let first : Formed m k w1 (c ∷ []) = (a, v, a2, refl, ha, hc, apart_front v a2 (b ∷ (u ++ r2)) apart_r, ha2) in
    let one : a2 ++ (b ∷ (u ++ r2)) ≡ (a2 ++ (b ∷ [])) ++ (u ++ r2) = sym (append_assoc a2 (b ∷ []) (u ++ r2)) in
    let apart_b : are_apart w1 (b ∷ []) ≡ true = apart_join a v a2 (b ∷ []) c1 u1 e1 (apart_front v (a2 ++ (b ∷ [])) (u ++ r2) (ap (are_apart v) (sym one) ∙ apart_r)) (spaces_apart a2 (b ∷ []) ha2) in
    let apart_w : are_apart cut.front w1 ≡ true = apart_front cut.front w1 (b ∷ (u ++ r2)) (ap (are_apart cut.front) (sym back) ∙ cut.apart) in
    let (d0, o0, e0) = some_byte a v a2 c1 u1 e1 in
    record {
      before = cut.front ++ w1;
      byte = b;
      others = u ++ r2;
      split = split;
      place = (let i : at_of p ≡ k + length a + length v + length a2 = piece_at m (k + length a + length v + length a2) v2 p hp in
          omega (arith, i, length-append cut.front w1, length-append a (v ++ a2), length-append v a2));
      dead = λ x xout xapart viable.
          let (t, run) = viable_runs (x ++ ((cut.front ++ w1) ++ (b ∷ []))) viable in
          let y : List ℕ = x ++ cut.front in
          let same : y ++ (w1 ++ (b ∷ [])) ≡ x ++ ((cut.front ++ w1) ++ (b ∷ [])) = append_assoc x cut.front (w1 ++ (b ∷ [])) ∙ ap (λ z. x ++ z) (sym (append_assoc cut.front w1 (b ∷ []))) in
          let (q, go1, go2) = run_split (value []) t y (w1 ++ (b ∷ [])) (ap (go (value [])) same ∙ run) in
          let yout : end_of Out y ≡ Out = end_append Out x cut.front ∙ (ap (λ z. end_of z cut.front) xout ∙ formed_out m at cut.front front cut.first) in
          let at1 : At q Out = subst (At q) yout (at_run (value []) q y Out refl go1) in
          let apart_x : are_apart x (cut.front ++ w1) ≡ true = apart_front x (cut.front ++ w1) (b ∷ (u ++ r2)) (ap (are_apart x) (sym split) ∙ xapart) in
          let apart_y : are_apart y (d0 ∷ o0) ≡ true = ap (are_apart y) (sym e0) ∙ apart_both x cut.front w1 apart_x apart_w in
          let (q2, go3, go4) = run_split q t w1 (b ∷ []) go2 in
          let is_ready : IsReady q (d0 ∷ o0) = ready q q2 y d0 o0 go1 at1 apart_y (ap (go q) (sym e0) ∙ go3) in
          let (s, settled, clear) = is_ready in
          two_stop m c p k (k + length a + length v + length a2) w1 v2 b u q s t refuses settled (ap (is_clear q) e0 ∙ clear) (ap (λ z. is_clear q (z ++ (b ∷ []))) e0 ∙ clear) first apart_b hp e2 go2;
    }

-- ---- what is kept, and the items that it stands for

broken_none : {X : Type 0} (hs : List (Held X)) (o : Option (CodePiece X)) (outer : List (CodePiece X)) (n : ℕ) → last_of outer ≡ o → not_in hs outer (token.Broken n) ≡ true → ⊥
broken_none [] (Some (Comma i)) outer n e h = true≢false (sym h ∙ ap (λ z. not_behind_last z (token.Broken n)) e)
broken_none [] _ outer n e h = true≢false (sym h ∙ ap (λ z. not_behind_last z (token.Broken n)) e)
broken_none (k ∷ hs) o outer n e h = wrong h

record PieceOf (at : ℕ) (v : List ℕ) (k : TokenKind) : Type 0 where
  piece : Piece Tree
  is_piece : IsPiece free at v piece
  kind : kind_of piece ≡ token_kind k

piece_of : (at : ℕ) (v more : List ℕ) (k : TokenKind) → ((n : ℕ) → k ≡ token.Broken n → ⊥) → IsKind at v more k → PieceOf at v k
piece_of at v more (token.Opens b) n h = record { piece = opens b at; is_piece = (refl, h); kind = refl }
piece_of at v more (token.Closes b) n h = record { piece = closes b at; is_piece = (refl, h); kind = refl }
piece_of at v more token.Comma n h = record { piece = mark (comma at); is_piece = (refl, h); kind = refl }
piece_of at v more token.Colon n h = record { piece = mark (colon at); is_piece = (refl, h); kind = refl }
piece_of at v more token.Text n h = let (cs, ok, e) = h.1 in record { piece = mark (quoted at cs); is_piece = (refl, (ok, e)); kind = refl }
piece_of at v more token.Run n h = let (y, spells, no_text, same) = run_tree at v h.1 in record { piece = mark (entry at y); is_piece = (refl, y, spells, no_text, same); kind = refl }
piece_of at v more (token.Broken place) n h = absurd (n place refl)

row_last : (es : List (ℕ × ℕ × Tree)) (e : ℕ × ℕ × Tree) → (front : List (Piece Tree)) × (j : ℕ) × (t : Tree) × (marks (row_marks (e ∷ es)) ≡ front ++ (mark (entry j t) ∷ []))
row_last [] e = (mark (comma e.0) ∷ [], e.1, e.2, refl)
row_last (g ∷ es) e = let (front, j, t, q) = row_last es g in (mark (comma e.0) ∷ (mark (entry e.1 e.2) ∷ front), j, t, ap (λ z. mark (comma e.0) ∷ (mark (entry e.1 e.2) ∷ z)) q)

members_last : (es : List MemberMarks) (e : MemberMarks) → (front : List (Piece Tree)) × (v : ValueMark) × (marks (member_marks (e ∷ es)) ≡ front ++ (mark (mark_of v) ∷ []))
members_last [] e = (mark (comma e.comma_at) ∷ (mark (quoted e.name_at e.characters) ∷ (mark (colon e.colon_at) ∷ [])), e.value, refl)
members_last (g ∷ es) e = let q = members_last es g in
    (mark (comma e.comma_at) ∷ (mark (quoted e.name_at e.characters) ∷ (mark (colon e.colon_at) ∷ (mark (mark_of e.value) ∷ q.0))), q.1, ap (λ z. mark (comma e.comma_at) ∷ (mark (quoted e.name_at e.characters) ∷ (mark (colon e.colon_at) ∷ (mark (mark_of e.value) ∷ z)))) q.2)

-- behind a member's value, whichever it is
behind_member : (v : ValueMark) (k : TokenKind) → not_behind_text k ≡ true → Refuses (kind_of (mark (mark_of v))) (token_kind k)
behind_member (string_value i cs) k h = behind_text k h
behind_member (other_value i t) k h = behind_value k (text_then_value k h)

-- the last piece, behind which the token has no place
record LastPiece (ps : List (Piece Tree)) (k : TokenKind) : Type 0 where
  front : List (Piece Tree)
  last : Piece Tree
  split : ps ≡ front ++ (last ∷ [])
  refuses : Refuses (kind_of last) (token_kind k)

module _ {X : Type 0} (IsKept : X → Content → Type 0) where
  piece_refuses : (base : ℕ) (w : List ℕ) (c : CodePiece X) (p : Piece Tree) (k : TokenKind) → IsHeldPiece IsKept base w c p → not_behind_piece c k ≡ true → Refuses (kind_of p) (token_kind k)
  piece_refuses base w (Comma i) (mark (comma j)) k u h = behind_comma k h
  piece_refuses base w (Colon i) (mark (colon j)) k u h = behind_colon k h
  piece_refuses base w (Text span x) (mark (quoted j cs)) k u h = behind_text k h
  piece_refuses base w (Value i x) (mark (entry j t)) k u h = behind_value k h
  piece_refuses base w _ _ k u h = absurd u

  last_is : (base : ℕ) (w : List ℕ) (c : CodePiece X) (us : List (Piece Tree)) (k : TokenKind) → ArePieces IsKept base w c us → not_behind_piece c k ≡ true → LastPiece us k
  last_is base w c us k (inl (p, e, u)) h = record { front = []; last = p; split = e; refuses = piece_refuses base w c p k u h }
  last_is base w (RowPiece r) us k (inr u) h = let (front, j, t, q) = row_last u.others (r.comma, r.first, u.tree) in record { front = front; last = mark (entry j t); split = u.split ∙ q; refuses = behind_value k h }
  last_is base w (MembersPiece r) us k (inr u) h = let q = members_last u.others u.first in record { front = q.0; last = mark (mark_of q.1); split = u.split ∙ q.2; refuses = behind_member q.1 k h }
  last_is base w (ClosersPiece r) us k (inr u) h = record { front = closers r.first r.second r.from u.0; last = closes (turn r.first r.second u.0) (r.from + u.0); split = u.2 ∙ sym (closers_more r.first r.second r.from u.0); refuses = behind_closer (turn r.first r.second u.0) k h }
  last_is base w _ us k (inr u) h = absurd u

  outer_last : (base : ℕ) (w : List ℕ) (cs : List (CodePiece X)) (ps : List (Piece Tree)) (k : TokenKind) → EachPiece IsKept base w cs ps → not_behind_last (last_of cs) k ≡ true → LastPiece ps k
  outer_last base w [] ps k e h = wrong h
  outer_last base w (c ∷ []) ps k (us, vs, e, u, n) h = let r : LastPiece us k = last_is base w c us k u h in record { front = r.front; last = r.last; split = e ∙ (ap (λ z. us ++ z) n ∙ (append-nil us ∙ r.split)); refuses = r.refuses }
  outer_last base w (c ∷ (d ∷ cs)) ps k (us, vs, e, u, more) h = let r : LastPiece vs k = outer_last base w (d ∷ cs) vs k more h in
      record { front = us ++ r.front; last = r.last; split = e ∙ (ap (λ z. us ++ z) r.split ∙ sym (append_assoc us r.front (r.last ∷ []))); refuses = r.refuses }

  level_none : (h : Held X) (l : Level Tree) (b : Bracket) → IsHeld IsKept h l → not (takes_value h) ≡ true → (st : List Frame) → next (full l.mode st) (an_opener b) ≡ None
  level_none (array_level i array.Empty xs) l b u e st = wrong e
  level_none (array_level i array.Comma xs) l b u e st = wrong e
  level_none (object_level i (object.Colon n) ms) l b u e st = wrong e
  level_none (array_level i s xs) l b u e st = ap (λ z. next (full z st) (an_opener b)) u.2
  level_none (object_level i s ms) l b u e st = ap (λ z. next (full z st) (an_opener b)) u.2

  dead_token : (base : ℕ) (piece : List ℕ) (s : Shown X) (f : Form Tree) (at : ℕ) (w : List ℕ) (k : TokenKind) (p : Piece Tree) → IsShown IsKept base piece s f → is_refused s k ≡ true → kind_of p ≡ token_kind k → AreLevels f.levels
      → Formed free at w (pieces_of f ++ (p ∷ [])) → IsDeadHere at w (at_of p)
  dead_token base piece s f at w k p shows h kind levels formed = by_levels s.levels f.levels k shows.1 h kind levels formed
    where
      by_levels : (hs : List (Held X)) (ls : List (Level Tree)) (k : TokenKind) → EachHeld IsKept hs ls → not_in hs s.outer k ≡ true → kind_of p ≡ token_kind k → AreLevels ls → Formed free at w ((f.outer ++ opened ls) ++ (p ∷ [])) → IsDeadHere at w (at_of p)
      by_levels [] [] k u h kind levels formed = let r : LastPiece f.outer k = outer_last base piece s.outer f.outer k shows.0 h in
          let same : (f.outer ++ []) ++ (p ∷ []) ≡ r.front ++ (r.last ∷ (p ∷ [])) = ap (λ z. z ++ (p ∷ [])) (append-nil f.outer ∙ r.split) ∙ append_assoc r.front (r.last ∷ []) (p ∷ []) in
          dead_two free at w r.front r.last p (subst (λ z. Refuses (kind_of r.last) z) (sym kind) r.refuses) (subst (Formed free at w) same formed)
      by_levels (g ∷ hs) (l ∷ ls) (token.Opens b) u h kind levels formed =
          dead_level free at w (f.outer ++ opened ls) l.bracket l.from l.inside p l.mode (subst (Formed free at w) (level_more f.outer ls l.bracket l.from l.inside (p ∷ [])) formed) levels.0 (λ st. ap (next (full l.mode st)) kind ∙ level_none g l b u.0 h st)
      by_levels [] (l ∷ ls) k u h kind levels formed = absurd u
      by_levels (g ∷ hs) [] k u h kind levels formed = absurd u
      by_levels (g ∷ hs) (l ∷ ls) _ u h kind levels formed = wrong h

  -- the piece stops before a token that is refused
  pub consumed_refused : (base : ℕ) (piece : List ℕ) (from lead : ℕ) (bytes : List ℕ) (body : Body X) (old new : Left) (t : Token) → Consumed IsKept base piece from bytes (shown body) old → (g : GivesItem old (WholeItem t) new) → is_refused (shown body) t.kind ≡ true
      → HoldsBehind IsKept base piece from bytes lead (Broken lead body (stop_at t.from))
  consumed_refused base piece from lead bytes body old new t h g no_place s u e l at at2 =
      let a : List ℕ = g.0 in let v : List ℕ = g.1 in let r : List ℕ = g.2 in
      let whole : (n : ℕ) → t.kind ≡ token.Broken n → ⊥ = λ n k. broken_none (shown body).levels (last_of (shown body).outer) (shown body).outer n refl (subst (λ z. is_refused (shown body) z ≡ true) k no_place) in
      let here : old.at + length a ≡ from + length h.read + length a = omega (arith, h.place) in
      let p : PieceOf (from + length h.read + length a) v t.kind = piece_of (from + length h.read + length a) v r t.kind whole (subst (λ n. IsKind n v r t.kind) here g.6.2) in
      let apart : are_apart h.read ((a ++ v) ++ r) ≡ true = ap (are_apart h.read) (append_assoc a v r) ∙ (ap (are_apart h.read) (sym g.4) ∙ h.apart) in
      let one : Formed free (from + length h.read) (a ++ v) (p.piece ∷ []) = (a, v, [], ap (λ z. a ++ z) (sym (append-nil v)), g.5, p.is_piece, apart_nothing v, tt) in
      let formed : Formed free from (h.read ++ (a ++ v)) (pieces_of h.form ++ (p.piece ∷ [])) = formed_append free from h.read (a ++ v) (pieces_of h.form) (p.piece ∷ []) h.is_form.formed one (apart_front h.read (a ++ v) r apart) in
      let dead = dead_token base piece (shown body) h.form from (h.read ++ (a ++ v)) t.kind p.piece h.is_shown no_place p.kind h.is_form.levels formed in
      let stop : IsStop free from (h.read ++ (a ++ v)) h.form (plain_halt (at_of p.piece)) = stop_before free from (h.read ++ (a ++ v)) h.form p.piece h.is_form.levels formed dead in
      let all : (h.read ++ (a ++ v)) ++ r ≡ bytes = append_assoc h.read (a ++ v) r ∙ (ap (λ z. h.read ++ z) (append_assoc a v r ∙ sym g.4) ∙ sym h.split) in
      let place : at_of p.piece ≡ t.from = piece_at free (from + length h.read + length a) v p.piece p.is_piece ∙ (sym here ∙ sym g.6.0) in
      let there : IsStop free from bytes h.form (plain_halt t.from) = subst (λ n. IsStop free from bytes h.form (plain_halt n)) place (subst (λ z. IsStop free from z h.form (plain_halt (at_of p.piece))) all (stop_right free from (h.read ++ (a ++ v)) r h.form (plain_halt (at_of p.piece)) stop)) in
      record {
        first = u;
        form = h.form;
        is_broken = record { more = bytes; split = e; lead = l; stop = subst (λ n. IsStop free n bytes h.form (halt_of (stop_at t.from))) at there };
        is_shown = h.is_shown;
        lead_at = at2;
      }
