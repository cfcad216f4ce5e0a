-- The items of a piece, read one by one: what has been read stands in a form, and what is left is with the reader.
-- For `merge` and `run_block`.
use Rattle.std.proofs.Common.{◌≡◌, ◌≢◌, ℕ, Option, Some, None, List, [], ◌∷◌, ◌++◌, true, false, not, ◌&&◌, IsTrue, refl, sym, ◌∙◌, ap, subst, arith, append_assoc, append-nil, ◌+◌, ◌-◌, ◌≤◌, ◌<◌, suc, length, length-append, take, drop, if◌then◌else◌}
use Rattle.std.proofs.lemmas.Bool.{and_right}
use Rattle.std.proofs.Math.Seq.{take-append_seam, drop-append_seam}
use Rattle.at_text.specs.Texts.{is_run}
use Rattle.at_lex.specs.Spans.{AreSpaces, opening, closing, end_of, begins_run, is_broken, IsKind, IsToken as IsLexed, IsPend as IsLexedPend}
use Rattle.at_lex.specs.Stream.{Left, GivesItem, IsBegun}
use Rattle.at_lex.specs.declared.tokens.Start.{Start}
use Rattle.at_lex.specs.declared.tokens.Start.TheVariants.{Out}
use Rattle.at_lex.specs.declared.tokens.Bracket.TheVariants.{Brace, Square}
use Rattle.at_lex.specs.declared.tokens.Token.{Token}
use Rattle.at_lex.specs.declared.tokens.TokenKind.{TokenKind}
use Rattle.at_lex.specs.declared.tokens.TokenKind.TheVariants as kinds
use Rattle.at_lex.specs.declared.tokens.Item.TheVariants.{Whole as WholeItem, End}
use Rattle.at_lex.specs.declared.tokens.Lead.TheVariants as leads
use Rattle.at_lex.specs.declared.tokens.Pend.{Pend}
use Rattle.at_lex.specs.declared.tokens.Pend.TheVariants as pends
use Rattle.at_lex.proofs.Unique.{not-false}
use Rattle.at_nest.specs.declared.bodies.Body.{Body}
use Rattle.at_nest.specs.declared.pieces.SpanStop.{SpanStop as CodeHalt}
use Rattle.at_nest.specs.declared.variants.Variant.{Variant}
use Rattle.at_nest.specs.declared.variants.Variant.TheVariants.{Whole, Broken}
use Rattle.at_nest.specs.Tree.{Tree}
use Rattle.at_nest.specs.Borders.{ends_run, are_apart}
use Rattle.at_nest.specs.Forms.{Formed}
use Rattle.at_nest.specs.Levels.{Form, pieces_of, Pushed, further, stopped}
use Rattle.at_nest.specs.Stops.{IsForm, IsStop}
use Rattle.at_nest.specs.Unions.{Ends, merged, empty_form}
use Rattle.at_nest.specs.Variants.{IsLeadEnd, IsPending, none_pending, run_pending, text_pending}
use Rattle.at_nest.specs.Shown.{Shown, shown}
use Rattle.at_nest.specs.KeptItems.{Content, free, IsShown, IsPushedAs, halt_of}
use Rattle.at_nest.specs.Reading.{IsPlaced, is_bracket, ReadsToken, ReadsAhead, HasBytes, pend_from}
use Rattle.at_nest.specs.VariantMeanings.{HoldsVariant, HoldsBehind}
use Rattle.at_nest.proofs.Walks.{ends_append, spaces_end}
use Rattle.at_nest.proofs.Joins.{apart_front, formed_append, formed_out, end_append}
use Rattle.at_nest.proofs.Merges.{apart_last}
use Rattle.at_nest.proofs.Unions.{ends_token, string_last, lead_out, closes_out}

-- ---- what ends a token

pub apart_by : (v r : List ℕ) → ends_run v ≡ false → are_apart v r ≡ true
apart_by v r e = ap (λ z. not (z && begins_run r)) e

pub record EndsWell (v r : List ℕ) : Type 0 where
  pub first : ℕ
  pub others : List ℕ
  pub some : v ≡ first ∷ others
  pub apart : are_apart v r ≡ true
  pub ended : r ≡ [] → ends_run v ≡ false

one_byte : (v r : List ℕ) (b : ℕ) → v ≡ b ∷ [] → is_run b ≡ false → EndsWell v r
one_byte v r b e n = let f : ends_run v ≡ false = ap ends_run e ∙ n in record { first = b; others = []; some = e; apart = apart_by v r f; ended = λ q. f }

run_some : (v : List ℕ) → IsTrue (begins_run v) → (b : ℕ) × (o : List ℕ) × (v ≡ b ∷ o)
run_some [] h = absurd (cc)
run_some (b ∷ o) h = (b, o, refl)

pub first_of : (w : List ℕ) → w ≢ [] → (b : ℕ) × (o : List ℕ) × (w ≡ b ∷ o)
first_of [] k = absurd (k refl)
first_of (b ∷ o) k = (b, o, refl)

pub lexed_ends : (at : ℕ) (v r : List ℕ) (k : TokenKind) → is_broken k ≡ false → IsKind at v r k → EndsWell v r
lexed_ends at v r (kinds.Opens Brace) n h = one_byte v r 0x7B h refl
lexed_ends at v r (kinds.Opens Square) n h = one_byte v r 0x5B h refl
lexed_ends at v r (kinds.Closes Brace) n h = one_byte v r 0x7D h refl
lexed_ends at v r (kinds.Closes Square) n h = one_byte v r 0x5D h refl
lexed_ends at v r kinds.Comma n h = one_byte v r 0x2C h refl
lexed_ends at v r kinds.Colon n h = one_byte v r 0x3A h refl
lexed_ends at v r kinds.Text n h = let (u, e, c) = h.0 in let f : ends_run v ≡ false = ap ends_run e ∙ string_last u c in record { first = 0x22; others = u; some = e; apart = apart_by v r f; ended = λ q. f }
lexed_ends at v r kinds.Run n h = let (b, o, e) = run_some v h.0.0.0 in
    record { first = b; others = o; some = e; apart = ap not (and_right (ends_run v) (begins_run r) (not-false (begins_run r) h.0.2)); ended = λ q. absurd (h.0.1 q) }
lexed_ends at v r (kinds.Broken place) n h = absurd (cc)

-- a bracket is one byte
bracket_byte : (at : ℕ) (v r : List ℕ) (k : TokenKind) → is_bracket k ≡ true → IsKind at v r k → (is_broken k ≡ false) × (b : ℕ) × (v ≡ b ∷ [])
bracket_byte at v r (kinds.Opens b) n h = (refl, opening b, h)
bracket_byte at v r (kinds.Closes b) n h = (refl, closing b, h)
bracket_byte at v r _ n h = absurd (cc)

-- ---- white space

apart_spaces : (x a y : List ℕ) → are_apart x (a ++ y) ≡ true → AreSpaces a → are_apart (x ++ a) y ≡ true
apart_spaces x [] y h k = ap (λ z. are_apart z y) (append-nil x) ∙ h
apart_spaces x (c ∷ a) y h k = apart_by (x ++ (c ∷ a)) y (ends_append x c a ∙ spaces_end (c ∷ a) k)

ended_spaces : (x a y : List ℕ) → (a ++ y ≡ [] → ends_run x ≡ false) → AreSpaces a → y ≡ [] → ends_run (x ++ a) ≡ false
ended_spaces x [] y h k n = ap ends_run (append-nil x) ∙ h n
ended_spaces x (c ∷ a) y h k n = ends_append x c a ∙ spaces_end (c ∷ a) k

spaces_form : (at : ℕ) (x a : List ℕ) (f : Form Tree) → IsForm free at x f → AreSpaces a → are_apart x a ≡ true → IsForm free at (x ++ a) f
spaces_form at x a f h k e = record { formed = subst (Formed free at (x ++ a)) (append-nil (pieces_of f)) (formed_append free at x a (pieces_of f) [] h.formed k e); levels = h.levels }

-- ---- what has been read

module _ {X : Type 0} (IsKept : X → Content → Type 0) where
  pub record Consumed (base : ℕ) (piece : List ℕ) (from : ℕ) (bytes : List ℕ) (kept : Shown X) (left : Left) : Type 0 where
    pub read : List ℕ
    pub form : Form Tree
    pub split : bytes ≡ read ++ left.rest
    pub is_form : IsForm free from read form
    pub is_shown : IsShown IsKept base piece kept form
    pub apart : are_apart read left.rest ≡ true
    pub ended : left.rest ≡ [] → ends_run read ≡ false
    pub place : left.at ≡ from + length read
    pub out : left.state ≡ Out

  pub consumed_none : (base : ℕ) (piece : List ℕ) (kept : Shown X) (left : Left) → IsShown IsKept base piece kept empty_form → left.state ≡ Out → Consumed base piece left.at left.rest kept left
  consumed_none base piece kept left h e = record { read = []; form = empty_form; split = refl; is_form = record { formed = tt; levels = tt }; is_shown = h; apart = refl; ended = λ n. refl; place = (let q : left.at ≡ left.at + 0 = omega arith in q); out = e }

  split_item : (u x a v r bytes rest : List ℕ) (piece : List ℕ) → piece ≡ u ++ bytes → bytes ≡ x ++ rest → rest ≡ a ++ (v ++ r) → piece ≡ (u ++ (x ++ a)) ++ (v ++ r)
  split_item u x a v r bytes rest piece e f k = e ∙ (ap (λ z. u ++ z) (f ∙ (ap (λ z. x ++ z) k ∙ sym (append_assoc x a (v ++ r)))) ∙ sym (append_assoc u (x ++ a) (v ++ r)))

  item_place : (base from i j : ℕ) (u x a : List ℕ) → from ≡ base + length u → i ≡ from + length x → j ≡ i + length a → j ≡ base + length (u ++ (x ++ a))
  item_place base from i j u x a e f k = omega (arith, e, f, k, length-append u (x ++ a), length-append x a)

  pub placed : (base : ℕ) (piece : List ℕ) (from : ℕ) (bytes : List ℕ) (kept : Shown X) (old new : Left) (t : Token) → HasBytes base piece from bytes → Consumed base piece from bytes kept old → (g : GivesItem old (WholeItem t) new) → IsPlaced base piece t.from g.1
  placed base piece from bytes kept old new t (u, e, i) h (a, v, r, q, d, spaces, lexed, n) =
      (u ++ (h.read ++ a), r, split_item u h.read a v r bytes old.rest piece e h.split d, item_place base from old.at t.from u h.read a i h.place lexed.0)

  -- the token's bytes
  pub token_bytes : (base : ℕ) (piece : List ℕ) (from : ℕ) (bytes : List ℕ) (kept : Shown X) (old new : Left) (t : Token) → HasBytes base piece from bytes → Consumed base piece from bytes kept old → (g : GivesItem old (WholeItem t) new)
      → (take (t.to - t.from) (drop (t.from - base) piece) ≡ g.1) × (base ≤ t.from) × (t.from ≤ t.to) × (t.to ≤ base + length piece) × (t.to ≡ t.from + length g.1)
  token_bytes base piece from bytes kept old new t hb h g = let (y, z, e, i) = placed base piece from bytes kept old new t hb h g in
      let v : List ℕ = g.1 in
      let to : t.to ≡ t.from + length v = g.6.1 ∙ ap (λ n. n + length v) (sym g.6.0) in
      let size : length piece ≡ length y + (length v + length z) = ap (λ x. length x) e ∙ (length-append y (v ++ z) ∙ ap (λ n. length y + n) (length-append v z)) in
      let off : t.from - base ≡ length y = omega (arith, i) in
      let len : t.to - t.from ≡ length v = omega (arith, to) in (
        ap (λ n. take n (drop (t.from - base) piece)) len ∙ (ap (take (length v)) (ap (λ n. drop n piece) off ∙ (ap (drop (length y)) e ∙ drop-append_seam y (v ++ z))) ∙ take-append_seam v z),
        omega (arith, i),
        omega (arith, to),
        omega (arith, to, size, i),
        to,
      )

  whole_further : (base : ℕ) (w : List ℕ) (at : ℕ) (x r : List ℕ) (kept : Shown X) (o : Pushed Tree) → IsPushedAs IsKept base w kept None o → Ends free at x r o → (k : Form Tree) × IsForm free at x k × IsShown IsKept base w kept k
  whole_further base w at x r kept (further k) h e = (k, e, h)
  whole_further base w at x r kept (stopped k i) h e = absurd h

  token_pushed : (base : ℕ) (piece : List ℕ) (from : ℕ) (bytes : List ℕ) (kept kept2 : Shown X) (old new : Left) (t : Token) (o : Option CodeHalt) → HasBytes base piece from bytes → (h : Consumed base piece from bytes kept old) → (g : GivesItem old (WholeItem t) new)
      → ReadsToken IsKept kept kept2 o g.1 t → (p : Pushed Tree) × Ends free from ((h.read ++ g.0) ++ g.1) g.2 (merged free (further h.form) p) × IsPushedAs IsKept base piece kept2 o (merged free (further h.form) p)
  token_pushed base piece from bytes kept kept2 old new t o hb h g reads =
      let a : List ℕ = g.0 in let v : List ℕ = g.1 in let r : List ℕ = g.2 in
      let here : t.from ≡ from + length (h.read ++ a) = omega (arith, g.6.0, h.place, length-append h.read a) in
      let lexed : IsLexed t.from v r t = subst (λ n. IsLexed n v r t) (sym g.6.0) g.6 in
      let apart : are_apart h.read (a ++ (v ++ r)) ≡ true = ap (are_apart h.read) (sym g.4) ∙ h.apart in
      let q = reads base piece h.form r h.is_shown (placed base piece from bytes kept old new t hb h g) lexed in (
        q.0,
        ends_token free from (h.read ++ a) v r h.form q.0 (spaces_form from h.read a h.form h.is_form g.5 (apart_front h.read a (v ++ r) apart))
            (subst (λ n. Ends free n v r q.0) here q.1) (apart_spaces h.read a (v ++ r) apart g.5),
        q.2,
      )

  next_left : (old new : Left) (t : Token) (g : GivesItem old (WholeItem t) new) → is_broken t.kind ≡ false → new.rest ≡ g.2
  next_left old new t g n = ap (λ z. z.rest) g.7 ∙ ap (λ b. if b then [] else g.2) n

  -- a token more
  pub consumed_on : (base : ℕ) (piece : List ℕ) (from : ℕ) (bytes : List ℕ) (kept kept2 : Shown X) (old new : Left) (t : Token) → HasBytes base piece from bytes → Consumed base piece from bytes kept old → (g : GivesItem old (WholeItem t) new) → is_broken t.kind ≡ false
      → ReadsToken IsKept kept kept2 None g.1 t → Consumed base piece from bytes kept2 new
  consumed_on base piece from bytes kept kept2 old new t hb h g whole reads =
      let q = token_pushed base piece from bytes kept kept2 old new t None hb h g reads in
      let k = whole_further base piece from ((h.read ++ g.0) ++ g.1) g.2 kept2 (merged free (further h.form) q.0) q.2 q.1 in
      let left : new.rest ≡ g.2 = next_left old new t g whole in
      let w : EndsWell g.1 g.2 = lexed_ends (old.at + length g.0) g.1 g.2 t.kind whole g.6.2 in
      record {
        read = (h.read ++ g.0) ++ g.1;
        form = k.0;
        split = h.split ∙ (ap (λ z. h.read ++ z) g.4 ∙ (sym (append_assoc h.read g.0 (g.1 ++ g.2)) ∙ (sym (append_assoc (h.read ++ g.0) g.1 g.2) ∙ ap (λ z. ((h.read ++ g.0) ++ g.1) ++ z) (sym left))));
        is_form = k.1;
        is_shown = k.2;
        apart = ap (are_apart ((h.read ++ g.0) ++ g.1)) left ∙ apart_last (h.read ++ g.0) [] g.1 g.2 w.first w.others w.some w.apart;
        ended = λ n. ap (λ z. ends_run ((h.read ++ g.0) ++ z)) w.some ∙ (ends_append (h.read ++ g.0) w.first w.others ∙ (ap ends_run (sym w.some) ∙ w.ended (sym left ∙ n)));
        place = ap (λ z. z.at) g.7 ∙ omega (arith, g.6.1, h.place, length-append (h.read ++ g.0) g.1, length-append h.read g.0);
        out = ap (λ z. z.state) g.7;
      }

  did_break : (base : ℕ) (piece : List ℕ) (from lead : ℕ) (bytes x r : List ℕ) (body : Body X) (i : CodeHalt) (o : Pushed Tree) → IsPushedAs IsKept base piece (shown body) (Some i) o → Ends free from x r o → x ++ r ≡ bytes → HoldsBehind IsKept base piece from bytes lead (Broken lead body i)
  did_break base piece from lead bytes x r body i (further k) h e all s u split l at at2 = absurd h
  did_break base piece from lead bytes x r body i (stopped k j) h e all s u split l at at2 = record {
    first = u;
    form = k;
    is_broken = record { more = bytes; split = split; lead = l; stop = subst (λ n. IsStop free n bytes k (halt_of i)) at (subst (λ z. IsStop free from z k (halt_of i)) all (subst (IsStop free from (x ++ r) k) (sym h.1) e)) };
    is_shown = h.0;
    lead_at = at2;
  }

  -- a token at which the piece stops
  pub consumed_stop : (base : ℕ) (piece : List ℕ) (from lead : ℕ) (bytes : List ℕ) (body : Body X) (kept : Shown X) (old new : Left) (t : Token) (i : CodeHalt) → HasBytes base piece from bytes → Consumed base piece from bytes kept old → (g : GivesItem old (WholeItem t) new)
      → ReadsToken IsKept kept (shown body) (Some i) g.1 t → HoldsBehind IsKept base piece from bytes lead (Broken lead body i)
  consumed_stop base piece from lead bytes body kept old new t i hb h g reads =
      let q = token_pushed base piece from bytes kept (shown body) old new t (Some i) hb h g reads in
      let all : ((h.read ++ g.0) ++ g.1) ++ g.2 ≡ bytes = append_assoc (h.read ++ g.0) g.1 g.2 ∙ (append_assoc h.read g.0 (g.1 ++ g.2) ∙ (ap (λ z. h.read ++ z) (sym g.4) ∙ sym h.split)) in
      did_break base piece from lead bytes ((h.read ++ g.0) ++ g.1) g.2 body i (merged free (further h.form) q.0) q.2 q.1 all

  -- ---- from a bracket on

  -- the bytes from the bracket to the piece's end
  pub ahead_bytes : (base : ℕ) (piece : List ℕ) (from : ℕ) (bytes : List ℕ) (kept : Shown X) (old mid : Left) (t : Token) → HasBytes base piece from bytes → Consumed base piece from bytes kept old → (g : GivesItem old (WholeItem t) mid)
      → (drop (t.from - base) piece ≡ g.1 ++ g.2) × (base ≤ t.from) × (t.from ≤ base + length piece)
  ahead_bytes base piece from bytes kept old mid t hb h g = let (y, z, e, i) = placed base piece from bytes kept old mid t hb h g in
      let (u, whole, j) = hb in
      let all : piece ≡ (u ++ (h.read ++ g.0)) ++ (g.1 ++ g.2) = split_item u h.read g.0 g.1 g.2 bytes old.rest piece whole h.split g.4 in
      let here : t.from ≡ base + length (u ++ (h.read ++ g.0)) = item_place base from old.at t.from u h.read g.0 j h.place g.6.0 in
      let off : t.from - base ≡ length (u ++ (h.read ++ g.0)) = omega (arith, here) in
      let size : length piece ≡ length (u ++ (h.read ++ g.0)) + length (g.1 ++ g.2) = ap (λ x. length x) all ∙ length-append (u ++ (h.read ++ g.0)) (g.1 ++ g.2) in
      (ap (λ n. drop n piece) off ∙ (ap (drop (length (u ++ (h.read ++ g.0)))) all ∙ drop-append_seam (u ++ (h.read ++ g.0)) (g.1 ++ g.2)), omega (arith, here), omega (arith, here, size))

  ahead_pushed : (base : ℕ) (piece : List ℕ) (from : ℕ) (bytes : List ℕ) (kept kept2 : Shown X) (old mid : Left) (t : Token) (o : Option CodeHalt) (to : ℕ) → (h : Consumed base piece from bytes kept old) → (g : GivesItem old (WholeItem t) mid)
      → (q : ReadsAhead IsKept kept kept2 o t.from (g.1 ++ g.2) to) → (p : Pushed Tree) × Ends free from ((h.read ++ g.0) ++ q.0) q.1 (merged free (further h.form) p) × IsPushedAs IsKept base piece kept2 o (merged free (further h.form) p)
  ahead_pushed base piece from bytes kept kept2 old mid t o to h g q =
      let a : List ℕ = g.0 in let v : List ℕ = q.0 in let r : List ℕ = q.1 in
      let here : t.from ≡ from + length (h.read ++ a) = omega (arith, g.6.0, h.place, length-append h.read a) in
      let apart : are_apart h.read (a ++ (v ++ r)) ≡ true = ap (λ z. are_apart h.read (a ++ z)) (sym q.2) ∙ (ap (are_apart h.read) (sym g.4) ∙ h.apart) in
      let p = q.6 base piece h.form h.is_shown in (
        p.0,
        ends_token free from (h.read ++ a) v r h.form p.0 (spaces_form from h.read a h.form h.is_form g.5 (apart_front h.read a (v ++ r) apart))
            (subst (λ n. Ends free n v r p.0) here p.1) (apart_spaces h.read a (v ++ r) apart g.5),
        p.2,
      )

  behind_first : (v r w : List ℕ) (b : ℕ) → 0 < length v → b ∷ w ≡ v ++ r → (u : List ℕ) × (v ≡ b ∷ u) × (w ≡ u ++ r)
  behind_first [] r w b h e = absurd (omega (arith, h))
  behind_first (c ∷ u) r w b h e = let same : b ≡ c = cc in (u, ap (λ z. z ∷ u) (sym same), cc)

  -- what is left behind the bytes that were read
  pub ahead_left : (old mid : Left) (t : Token) (v r : List ℕ) (to : ℕ) → is_bracket t.kind ≡ true → (g : GivesItem old (WholeItem t) mid) → g.1 ++ g.2 ≡ v ++ r → to ≡ t.from + length v → 0 < length v
      → (mid.state ≡ Out) × (mid.at ≤ to) × (to ≤ mid.at + length mid.rest) × (drop (to - mid.at) mid.rest ≡ r)
  ahead_left old mid t v r to is g e i some =
      let (k, b, one) = bracket_byte (old.at + length g.0) g.1 g.2 t.kind is g.6.2 in
      let (u, first, more) = behind_first v r g.2 b some (ap (λ z. z ++ g.2) (sym one) ∙ e) in
      let rest : mid.rest ≡ g.2 = next_left old mid t g k in
      let at : mid.at ≡ t.from + 1 = ap (λ z. z.at) g.7 ∙ omega (arith, g.6.1, g.6.0, ap (λ z. length z) one) in
      let size : length v ≡ suc (length u) = ap (λ z. length z) first in
      let off : to - mid.at ≡ length u = omega (arith, i, at, size) in
      let left : length mid.rest ≡ length u + length r = ap (λ z. length z) (rest ∙ more) ∙ length-append u r in
      (ap (λ z. z.state) g.7, omega (arith, i, at, size), omega (arith, i, at, size, left), ap (λ n. drop n mid.rest) off ∙ (ap (drop (length u)) (rest ∙ more) ∙ drop-append_seam u r))

  pub consumed_ahead : (base : ℕ) (piece : List ℕ) (from : ℕ) (bytes : List ℕ) (kept kept2 : Shown X) (old mid new : Left) (t : Token) (to : ℕ) → Consumed base piece from bytes kept old → is_bracket t.kind ≡ true → (g : GivesItem old (WholeItem t) mid)
      → ReadsAhead IsKept kept kept2 None t.from (g.1 ++ g.2) to → new ≡ record { at = to; rest = drop (to - mid.at) mid.rest; state = Out } → Consumed base piece from bytes kept2 new
  consumed_ahead base piece from bytes kept kept2 old mid new t to h is g q n =
      let p = ahead_pushed base piece from bytes kept kept2 old mid t None to h g q in
      let f = whole_further base piece from ((h.read ++ g.0) ++ q.0) q.1 kept2 (merged free (further h.form) p.0) p.2 p.1 in
      let (out, low, high, dropped) = ahead_left old mid t q.0 q.1 to is g q.2 q.3 q.4 in
      let left : new.rest ≡ q.1 = ap (λ z. z.rest) n ∙ dropped in
      let (c, u, some) = first_of q.0 (λ e. absurd (omega (arith, q.4, ap (λ z. length z) e))) in
      let last : ends_run ((h.read ++ g.0) ++ q.0) ≡ false = ap (λ z. ends_run ((h.read ++ g.0) ++ z)) some ∙ (ends_append (h.read ++ g.0) c u ∙ (ap ends_run (sym some) ∙ q.5)) in
      record {
        read = (h.read ++ g.0) ++ q.0;
        form = f.0;
        split = h.split ∙ (ap (λ z. h.read ++ z) (g.4 ∙ ap (λ z. g.0 ++ z) q.2) ∙ (sym (append_assoc h.read g.0 (q.0 ++ q.1)) ∙ (sym (append_assoc (h.read ++ g.0) q.0 q.1) ∙ ap (λ z. ((h.read ++ g.0) ++ q.0) ++ z) (sym left))));
        is_form = f.1;
        is_shown = f.2;
        apart = apart_by ((h.read ++ g.0) ++ q.0) new.rest last;
        ended = λ m. last;
        place = ap (λ z. z.at) n ∙ omega (arith, q.3, g.6.0, h.place, length-append (h.read ++ g.0) q.0, length-append h.read g.0);
        out = ap (λ z. z.state) n;
      }

  pub consumed_ahead_stop : (base : ℕ) (piece : List ℕ) (from lead : ℕ) (bytes : List ℕ) (body : Body X) (kept : Shown X) (old mid : Left) (t : Token) (i : CodeHalt) (to : ℕ) → Consumed base piece from bytes kept old → (g : GivesItem old (WholeItem t) mid)
      → ReadsAhead IsKept kept (shown body) (Some i) t.from (g.1 ++ g.2) to → HoldsBehind IsKept base piece from bytes lead (Broken lead body i)
  consumed_ahead_stop base piece from lead bytes body kept old mid t i to h g q =
      let p = ahead_pushed base piece from bytes kept (shown body) old mid t (Some i) to h g q in
      let all : ((h.read ++ g.0) ++ q.0) ++ q.1 ≡ bytes = append_assoc (h.read ++ g.0) q.0 q.1 ∙ (append_assoc h.read g.0 (q.0 ++ q.1) ∙ (ap (λ z. h.read ++ z) (sym (g.4 ∙ ap (λ z. g.0 ++ z) q.2)) ∙ sym h.split)) in
      did_break base piece from lead bytes ((h.read ++ g.0) ++ q.0) q.1 body i (merged free (further h.form) p.0) p.2 p.1 all

  pending_is : (at : ℕ) (v : List ℕ) (p : Pend) → IsLexedPend at v p → IsPending v
  pending_is at v pends.Nothing h = none_pending h
  pending_is at v (pends.Run i) h = run_pending h.1.1 h.1.0
  pending_is at v (pends.Text i) h = text_pending h.1 h.2 h.3

  pend_place : (at end : ℕ) (v : List ℕ) (p : Pend) → IsLexedPend at v p → at + length v ≡ end → pend_from p end + length v ≡ end
  pend_place at end v pends.Nothing h e = let n : length v ≡ 0 = ap (λ z. length z) h in omega (arith, n)
  pend_place at end v (pends.Run i) h e = omega (arith, h.0, e)
  pend_place at end v (pends.Text i) h e = omega (arith, h.0, e)

  -- the end of the piece
  pub consumed_end : (base : ℕ) (piece : List ℕ) (from lead : ℕ) (bytes : List ℕ) (body : Body X) (old new : Left) (p : Pend) (end : Start) → HasBytes base piece from bytes → Consumed base piece from bytes (shown body) old → GivesItem old (End p end) new
      → HoldsBehind IsKept base piece from bytes lead (Whole lead body (pend_from p (base + length piece)) end)
  consumed_end base piece from lead bytes body old new p end hb h (a, v, d, spaces, pend, last, n) s u e l at at2 =
      let apart : are_apart h.read (a ++ v) ≡ true = ap (are_apart h.read) (sym d) ∙ h.apart in
      let split : bytes ≡ (h.read ++ a) ++ v = h.split ∙ (ap (λ z. h.read ++ z) d ∙ sym (append_assoc h.read a v)) in
      let sum : length piece ≡ length u + (length h.read + (length a + length v)) = ap (λ z. length z) (e ∙ ap (λ z. u ++ z) (h.split ∙ ap (λ z. h.read ++ z) d)) ∙ (length-append u (h.read ++ (a ++ v)) ∙ ap (λ k. length u + k) (length-append h.read (a ++ v) ∙ ap (λ k. length h.read + k) (length-append a v))) in
      record {
        first = u;
        form = h.form;
        last = v;
        is_whole = record {
          middle = h.read ++ a;
          split = e ∙ ap (λ z. u ++ z) split;
          lead = subst (IsLeadEnd s u) split l;
          form = subst (λ k. IsForm free k (h.read ++ a) h.form) at (spaces_form from h.read a h.form h.is_form spaces (apart_front h.read a v apart));
          pending = pending_is (old.at + length a) v p pend;
          apart = apart_spaces h.read a v apart spaces;
          ended = ended_spaces h.read a v (λ q. h.ended (d ∙ q)) spaces;
        };
        is_shown = h.is_shown;
        lead_at = at2;
        pend_at = pend_place (old.at + length a) (base + length piece) v p pend (omega (arith, h.place, at, sum));
        end_is = last ∙ (ap (λ z. end_of z old.rest) h.out ∙ sym (ap (end_of s) (e ∙ ap (λ z. u ++ z) h.split) ∙ (end_append s u (h.read ++ old.rest) ∙ (ap (λ z. end_of z (h.read ++ old.rest)) (lead_out s u bytes l) ∙ (end_append Out h.read old.rest ∙ ap (λ z. end_of z old.rest) (formed_out free from h.read (pieces_of h.form) h.is_form.formed))))));
      }

-- ---- the lead

pub begun_text : (s : Start) (base : ℕ) (piece : List ℕ) (n : ℕ) (left : Left) → IsBegun s base piece (leads.TextEnds n) left → HasBytes base piece left.at left.rest × (left.state ≡ Out)
begun_text Out base piece n left (u, e, l, i, q) = absurd l
begun_text s base piece n left (u, e, l, i, q) = ((u, e, i), q ∙ closes_out s u l.1)

-- ---- the variants

module _ {X : Type 0} (IsKept : X → Content → Type 0) where
  pub behind_nothing : (s : Start) (base : ℕ) (piece : List ℕ) (left : Left) (v : Variant X) → IsBegun s base piece leads.Nothing left → piece ≢ [] → HoldsBehind IsKept base piece left.at left.rest base v → HoldsVariant IsKept s base piece v
  behind_nothing Out base piece left v (u, e, l, i, q) n h = let here : left.at ≡ base = (let k : length u ≡ 0 = ap (λ z. length z) l.0 in omega (arith, i, k)) in
      h Out [] (e ∙ ap (λ z. z ++ left.rest) l.0) (ends_here left.rest l.1 (λ m. n (e ∙ (ap (λ z. z ++ left.rest) l.0 ∙ m)))) (here ∙ (let z : base ≡ base + 0 = omega arith in z)) (let z : base ≡ base + 0 = omega arith in z)
    where
      ends_here : (rest : List ℕ) → IsTrue (not (begins_run rest)) → rest ≢ [] → IsLeadEnd Out [] rest
      ends_here [] k m = absurd (m refl)
      ends_here (b ∷ o) k m = (tt, not-false (begins_run (b ∷ o)) k, b, o, refl)
  behind_nothing _ base piece left v (u, e, l, i, q) n h = absurd l

  pub behind_run : (s : Start) (base : ℕ) (piece : List ℕ) (n : ℕ) (left : Left) (v : Variant X) → IsBegun s base piece (leads.RunEnds n) left → HoldsBehind IsKept base piece left.at left.rest n v → HoldsVariant IsKept s base piece v
  behind_run Out base piece n left v (u, e, l, i, q) h = let c = first_of left.rest l.1.1 in h Out u e (l.1.0.1, not-false (begins_run left.rest) l.1.2, c.0, c.1, c.2) i l.0
  behind_run _ base piece n left v (u, e, l, i, q) h = absurd l

  pub behind_text : (s : Start) (base : ℕ) (piece : List ℕ) (n : ℕ) (left : Left) (v : Variant X) → IsBegun s base piece (leads.TextEnds n) left → HoldsBehind IsKept base piece left.at left.rest n v → HoldsVariant IsKept s base piece v
  behind_text Out base piece n left v (u, e, l, i, q) h = absurd l
  behind_text s base piece n left v (u, e, l, i, q) h = h s u e l.1 i l.0
