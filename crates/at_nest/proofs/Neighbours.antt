-- Two spans that stand one behind the other: what stands for each gives what stands for both.
-- For `finish`, `finish_span` and `merge`.
use Rattle.std.proofs.Common.{◌≡◌, ℕ, Option, Some, None, List, [], ◌∷◌, ◌++◌, true, refl, sym, ◌∙◌, ap, subst, arith, append_assoc, append-nil, ◌+◌, ◌-◌, ◌≤◌, length, length-append, take, drop, inl, inr}
use Rattle.std.proofs.Math.Seq.{take-append_seam, drop-append_seam}
use Rattle.at_text.specs.declared.texts.Span.{Span}
use Rattle.at_lex.specs.Strings.{Character, string_text}
use Rattle.at_lex.specs.Spans.{end_of}
use Rattle.at_lex.specs.declared.tokens.Start.{Start}
use Rattle.at_nest.specs.declared.pieces.Piece.{Piece as CodePiece}
use Rattle.at_nest.specs.declared.pieces.Piece.TheVariants.{Comma, Colon, Text, Value, Members as MembersPiece}
use Rattle.at_nest.specs.declared.pieces.SpanStop.{SpanStop as CodeHalt}
use Rattle.at_nest.specs.Tree.{Tree}
use Rattle.at_nest.specs.Borders.{are_apart}
use Rattle.at_nest.specs.Forms.{Piece, mark, comma, colon, quoted, entry}
use Rattle.at_nest.specs.Levels.{Form, Pushed, further, stopped, SpanStop, push_then}
use Rattle.at_nest.specs.Stops.{IsForm, IsStop}
use Rattle.at_nest.specs.Unions.{IsToken, Ends, merged, variant_of}
use Rattle.at_nest.specs.Variants.{IsAllLead, IsLeadEnd, IsWhole, IsBroken, IsVariant}
use Rattle.at_nest.specs.Shown.{Shown}
use Rattle.at_nest.specs.declared.pieces.NamedValue.{NamedValue}
use Rattle.at_nest.specs.MemberMarks.{MemberMarks}
use Rattle.at_nest.specs.KeptItems.{Content, EachNamed, AreRow, free, EachPiece, ArePieces, IsHeldPiece, IsShown, IsPushedAs, IsTextAt, IsPartOf, Joins}
use Rattle.at_nest.specs.Reading.{IsPlaced, Reads}
use Rattle.at_nest.specs.VariantMeanings.{Meets}
use Rattle.at_nest.proofs.Joining.{went_on, did_stop}
use Rattle.at_nest.proofs.Joins.{apart_front}
use Rattle.at_nest.proofs.Unions.{whole_end, token_of, token_apart, joined_apart, right_place, ends_variant, ends_right, ends_token, apart_pending, union_split, lead_more, lead_bytes, ended_by, pending_on, left_nil, ends_broken, right_stops}
use Rattle.at_nest.proofs.Merges.{apart_both}

-- ---- what is kept of a part is kept of the whole

text_within : (base : ℕ) (w y z : List ℕ) (b : ℕ) (span : Span) (cs : List Character) → base ≡ b + length y → IsTextAt base w span cs → IsTextAt b (y ++ (w ++ z)) span cs
text_within base w y z b span cs e (ok, a, q, d, i, j) = (
  ok,
  y ++ a,
  q ++ z,
  ap (λ v. y ++ (v ++ z)) d ∙ (ap (λ v. y ++ v) (append_assoc a (string_text cs ++ q) z ∙ ap (λ v. a ++ v) (append_assoc (string_text cs) q z)) ∙ sym (append_assoc y a (string_text cs ++ (q ++ z)))),
  omega (arith, i, e, length-append y a),
  j,
)

module _ {X : Type 0} (IsKept : X → Content → Type 0) where
  piece_within : (base : ℕ) (w y z : List ℕ) (b : ℕ) (c : CodePiece X) (p : Piece Tree) → base ≡ b + length y → IsHeldPiece IsKept base w c p → IsHeldPiece IsKept b (y ++ (w ++ z)) c p
  piece_within base w y z b (Comma i) (mark (comma j)) e h = h
  piece_within base w y z b (Colon i) (mark (colon j)) e h = h
  piece_within base w y z b (Text span x) (mark (quoted j cs)) e h = (h.0, text_within base w y z b span cs e h.1, h.2)
  piece_within base w y z b (Value i x) (mark (entry j t)) e h = h
  piece_within base w y z b _ _ e h = absurd h

  named_within : (base : ℕ) (w y z : List ℕ) (b : ℕ) (ms : List (NamedValue X)) (es : List MemberMarks) → base ≡ b + length y → EachNamed IsKept base w ms es → EachNamed IsKept b (y ++ (w ++ z)) ms es
  named_within base w y z b [] [] e h = tt
  named_within base w y z b (m ∷ ms) (g ∷ es) e h = (h.0, text_within base w y z b m.name g.characters e h.1, h.2, named_within base w y z b ms es e h.3)
  named_within base w y z b _ _ e h = absurd h

  row_within : (base : ℕ) (w y z : List ℕ) (b : ℕ) (c : CodePiece X) (ps : List (Piece Tree)) → base ≡ b + length y → AreRow IsKept base w c ps → AreRow IsKept b (y ++ (w ++ z)) c ps
  row_within base w y z b (MembersPiece r) ps e h = record { first = h.first; others = h.others; split = h.split; comma_is = h.comma_is; colon_is = h.colon_is; items = named_within base w y z b r.items.items (h.first ∷ h.others) e h.items }
  row_within base w y z b _ ps e h = h

  are_within : (base : ℕ) (w y z : List ℕ) (b : ℕ) (c : CodePiece X) (ps : List (Piece Tree)) → base ≡ b + length y → ArePieces IsKept base w c ps → ArePieces IsKept b (y ++ (w ++ z)) c ps
  are_within base w y z b c ps e (inl (p, s, h)) = inl (p, s, piece_within base w y z b c p e h)
  are_within base w y z b c ps e (inr r) = inr (row_within base w y z b c ps e r)

  pieces_within : (base : ℕ) (w y z : List ℕ) (b : ℕ) (cs : List (CodePiece X)) (ps : List (Piece Tree)) → base ≡ b + length y → EachPiece IsKept base w cs ps → EachPiece IsKept b (y ++ (w ++ z)) cs ps
  pieces_within base w y z b [] ps e h = h
  pieces_within base w y z b (c ∷ cs) ps e (us, vs, s, h, hs) = (us, vs, s, are_within base w y z b c us e h, pieces_within base w y z b cs vs e hs)

  pub shown_within : (base : ℕ) (w y z : List ℕ) (b : ℕ) (s : Shown X) (f : Form Tree) → base ≡ b + length y → IsShown IsKept base w s f → IsShown IsKept b (y ++ (w ++ z)) s f
  shown_within base w y z b s f e h = (pieces_within base w y z b s.outer f.outer e h.0, h.1)

  pub shown_right : (base : ℕ) (w z : List ℕ) (s : Shown X) (f : Form Tree) → IsShown IsKept base w s f → IsShown IsKept base (w ++ z) s f
  shown_right base w z s f h = shown_within base w [] z base s f (let e : base ≡ base + 0 = omega arith in e) h

  pub shown_left : (base : ℕ) (y w : List ℕ) (s : Shown X) (f : Form Tree) → IsShown IsKept (base + length y) w s f → IsShown IsKept base (y ++ w) s f
  shown_left base y w s f h = subst (λ z. IsShown IsKept base (y ++ z) s f) (append-nil w) (shown_within (base + length y) w y [] base s f refl h)

  -- ---- the token between them, and the items of the right one

  pub meets_stop : (bytes : List ℕ) (old behind new : Shown X) (i : CodeHalt) (at : ℕ) (v : List ℕ) → Reads IsKept old new (Some i) at v → Meets IsKept bytes old behind new (Some i) at v
  meets_stop bytes old behind new i at v reads base w f g more part hf hg levels placed token = let q = reads base w f more hf placed token in
      (q.0, q.1, did_stop IsKept base w new i (merged free (further f) q.0) (λ k. merged free (further k) (further g)) q.2)

  pub meets_on : (bytes : List ℕ) (old mid behind new : Shown X) (r : Option CodeHalt) (at : ℕ) (v : List ℕ) → Reads IsKept old mid None at v → Joins IsKept bytes mid behind new r → Meets IsKept bytes old behind new r at v
  meets_on bytes old mid behind new r at v reads joins base w f g more part hf hg levels placed token =
      let q = reads base w f more hf placed token in
      let k = went_on IsKept base w mid (merged free (further f) q.0) q.2 in
      (q.0, q.1, subst (λ o. IsPushedAs IsKept base w new r (push_then (λ z. merged free (further z) (further g)) o)) (sym k.1) (joins base w k.0 g part k.2 hg levels))

  -- ---- the bytes of the token

  -- all bytes, around the token
  around : (bytes b0 b1 w x u a v y c : List ℕ) → bytes ≡ b0 ++ ((w ++ x) ++ b1) → w ≡ u ++ (a ++ v) → x ≡ y ++ c → bytes ≡ (b0 ++ (u ++ a)) ++ ((v ++ y) ++ (c ++ b1))
  around bytes b0 b1 w x u a v y c e f k = rw (e, f, k) (simp append_assoc)

  pub joint_bytes : (bytes : List ℕ) (at : ℕ) (w x u a v y c : List ℕ) (from to : ℕ) → IsPartOf bytes at (w ++ x) → w ≡ u ++ (a ++ v) → x ≡ y ++ c → from + length v ≡ at + length w → to ≡ at + length w + length y
      → (take (to - from) (drop from bytes) ≡ v ++ y) × (from ≤ to) × (to ≤ length bytes)
  joint_bytes bytes at w x u a v y c from to (b0, b1, e, i) f k p q =
      let all : bytes ≡ (b0 ++ (u ++ a)) ++ ((v ++ y) ++ (c ++ b1)) = around bytes b0 b1 w x u a v y c e f k in
      let wide : length w ≡ length u + (length a + length v) = ap (λ z. length z) f ∙ (length-append u (a ++ v) ∙ ap (λ n. length u + n) (length-append a v)) in
      let front : length (b0 ++ (u ++ a)) ≡ length b0 + (length u + length a) = length-append b0 (u ++ a) ∙ ap (λ n. length b0 + n) (length-append u a) in
      let here : from ≡ length (b0 ++ (u ++ a)) = omega (arith, p, i, wide, front) in
      let size : to - from ≡ length (v ++ y) = omega (arith, p, q, length-append v y) in
      let long : length bytes ≡ length (b0 ++ (u ++ a)) + (length (v ++ y) + length (c ++ b1)) = ap (λ z. length z) all ∙ (length-append (b0 ++ (u ++ a)) ((v ++ y) ++ (c ++ b1)) ∙ ap (λ n. length (b0 ++ (u ++ a)) + n) (length-append (v ++ y) (c ++ b1))) in (
        ap (λ n. take n (drop from bytes)) size ∙ (ap (take (length (v ++ y))) (ap (λ n. drop n bytes) here ∙ (ap (drop (length (b0 ++ (u ++ a)))) all ∙ drop-append_seam (b0 ++ (u ++ a)) ((v ++ y) ++ (c ++ b1)))) ∙ take-append_seam (v ++ y) (c ++ b1)),
        omega (arith, p, q),
        omega (arith, p, q, here, long, length-append v y),
      )

  pub joint_placed : (at : ℕ) (w x u a v y c : List ℕ) (from : ℕ) → w ≡ u ++ (a ++ v) → x ≡ y ++ c → from + length v ≡ at + length w → IsPlaced at (w ++ x) from (v ++ y)
  joint_placed at w x u a v y c from f k p =
      let wide : length w ≡ length u + (length a + length v) = ap (λ z. length z) f ∙ (length-append u (a ++ v) ∙ ap (λ n. length u + n) (length-append a v)) in
      (u ++ a, c, rw (f, k) (simp append_assoc), omega (arith, p, wide, length-append u a))

-- ---- the union of two spans

pub whole_whole : (s : Start) (at : ℕ) (w1 w2 u : List ℕ) (f : Form Tree) (v x : List ℕ) (g : Form Tree) (y : List ℕ) (p : Pushed Tree) (h : IsWhole free s at w1 u f v) (k : IsWhole free (end_of s w1) (at + length w1) w2 x g y)
    → Ends free (at + length u + length h.middle) (v ++ x) (k.middle ++ y) p
    → IsVariant free s at (w1 ++ w2) (variant_of u y (push_then (λ q. merged free (further q) (further g)) (merged free (further f) p)))
whole_whole s at w1 w2 u f v x g y p h k ends =
    let more : List ℕ = k.middle ++ y in
    let is_token : IsToken (v ++ x) more = token_of v x more h.pending (subst (λ t. IsLeadEnd t x more) (whole_end free s at w1 u f v h) k.lead) in
    let left : List ℕ = h.middle ++ (v ++ x) in
    let apart1 : are_apart left more ≡ true = joined_apart h.middle v x more h.apart h.ended (token_apart (v ++ x) more is_token) in
    let places : at + length w1 + length x ≡ at + length u + length left = right_place at w1 u h.middle v x h.split in
    let o : Pushed Tree = merged free (further f) p in
    ends_variant free s at (w1 ++ w2) u (left ++ k.middle) y (push_then (λ q. merged free (further q) (further g)) o)
    (ends_right free (at + length u) left k.middle y o (further g)
    (ends_token free (at + length u) h.middle (v ++ x) more f p h.form ends (ap (are_apart h.middle) (append_assoc v x more) ∙ apart_pending h.middle v (x ++ more) h.apart h.ended))
    (subst (λ n. IsForm free n k.middle g) places k.form) (apart_front left k.middle y apart1))
    (record {
      split = union_split w1 w2 u h.middle v x more h.split k.split ∙ ap (λ z. u ++ z) (sym (append_assoc left k.middle y));
      lead = subst (IsLeadEnd s u) (lead_bytes h.middle v x k.middle y) (lead_more s u (h.middle ++ v) (x ++ more) h.lead);
      pending = k.pending;
      apart = apart_both left k.middle y apart1 k.apart;
      ended = λ n. ended_by h.middle (v ++ x) k.middle y is_token (k.ended n) n;
    })

pub whole_all : (s : Start) (at : ℕ) (w1 x u : List ℕ) (f : Form Tree) (v : List ℕ) → IsWhole free s at w1 u f v → IsAllLead (end_of s w1) x → IsWhole free s at (w1 ++ x) u f (v ++ x)
whole_all s at w1 x u f v h k = record {
  middle = h.middle;
  split = ap (λ z. z ++ x) h.split ∙ (append_assoc u (h.middle ++ v) x ∙ ap (λ z. u ++ z) (append_assoc h.middle v x));
  lead = subst (IsLeadEnd s u) (append_assoc h.middle v x) (lead_more s u (h.middle ++ v) x h.lead);
  form = h.form;
  pending = pending_on v x h.pending (subst (λ t. IsAllLead t x) (whole_end free s at w1 u f v h) k);
  apart = apart_pending h.middle v x h.apart h.ended;
  ended = λ n. h.ended (left_nil v x n);
}

pub whole_broken : (s : Start) (at : ℕ) (w1 w2 u : List ℕ) (f : Form Tree) (v x : List ℕ) (g : Form Tree) (i : SpanStop) (p : Pushed Tree) (h : IsWhole free s at w1 u f v) (k : IsBroken free (end_of s w1) (at + length w1) w2 x g i)
    → Ends free (at + length u + length h.middle) (v ++ x) k.more p
    → IsVariant free s at (w1 ++ w2) (variant_of u [] (push_then (λ q. merged free (further q) (stopped g i)) (merged free (further f) p)))
whole_broken s at w1 w2 u f v x g i p h k ends =
    let is_token : IsToken (v ++ x) k.more = token_of v x k.more h.pending (subst (λ t. IsLeadEnd t x k.more) (whole_end free s at w1 u f v h) k.lead) in
    let left : List ℕ = h.middle ++ (v ++ x) in
    let apart1 : are_apart left k.more ≡ true = joined_apart h.middle v x k.more h.apart h.ended (token_apart (v ++ x) k.more is_token) in
    let places : at + length w1 + length x ≡ at + length u + length left = right_place at w1 u h.middle v x h.split in
    let o : Pushed Tree = merged free (further f) p in
    let first_end : Ends free (at + length u) left k.more o = ends_token free (at + length u) h.middle (v ++ x) k.more f p h.form ends (ap (are_apart h.middle) (append_assoc v x k.more) ∙ apart_pending h.middle v (x ++ k.more) h.apart h.ended) in
    ends_broken free s at (w1 ++ w2) u (left ++ k.more) (push_then (λ q. merged free (further q) (stopped g i)) o) (right_stops free g i o)
    (ends_right free (at + length u) left k.more [] o (stopped g i) (subst (λ z. Ends free (at + length u) left z o) (sym (append-nil k.more)) first_end) (subst (λ n. IsStop free n k.more g i) places k.stop) apart1)
    (union_split w1 w2 u h.middle v x k.more h.split k.split)
    (subst (IsLeadEnd s u) (append_assoc h.middle v (x ++ k.more) ∙ (ap (λ z. h.middle ++ z) (sym (append_assoc v x k.more)) ∙ sym (append_assoc h.middle (v ++ x) k.more))) (lead_more s u (h.middle ++ v) (x ++ k.more) h.lead))
