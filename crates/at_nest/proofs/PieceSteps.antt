-- What one piece of a form leads to in the machine for bytes.
-- For `finish`, `finish_span`, `merge` and `run_block`.
use Rattle.std.proofs.Common.{◌≡◌, ℕ, inl, inr, List, [], ◌∷◌, ◌++◌, Some, None, option_and_then, true, false, ◌==◌, refl, sym, ◌∙◌, ap, subst, arith, rules, append-nil}
use Rattle.std.proofs.lemmas.Option.{none-some, same_Some}
use Rattle.at_text.specs.Texts.{is_space}
use Rattle.at_nest.proofs.TreeParts as parts
use Rattle.at_nest.proofs.JsonNumber as num
use Rattle.at_lex.specs.declared.tokens.Bracket.{Bracket}
use Rattle.at_lex.specs.declared.tokens.Bracket.TheVariants.{Brace, Square}
use Rattle.at_lex.specs.Strings.{JsonString}
use Rattle.at_lex.specs.Runs.{the_null, the_true, the_false}
use Rattle.at_nest.specs.Tree.{Tree, literal, number, text, array, object, Spells}
use Rattle.at_nest.proofs.JsonMachine.{State, Frame, in_array, value, items, members, name, colon, after, step, begin_value, opening_split}
use Rattle.at_nest.specs.Borders.{are_apart}
use Rattle.at_lex.specs.Spans.{opening, closing}
use Rattle.at_nest.specs.Forms.{Meaning, Piece, comma as a_comma, colon as a_colon, quoted, entry, opens, closes, mark, IsPiece, IsNoText}
use Rattle.at_nest.proofs.Steps.{Settled, IsStill, is_clear, still_settled}
use Rattle.at_nest.proofs.Values.{go, Enters, value_enters, value_at, items_at, Named, named, string_enters}
use Rattle.at_nest.specs.Walks.{Kind, an_opener, a_closer, comma_kind, colon_kind, text_kind, value_kind, kind_of, next, begin_next, name_next, at_of}

-- a piece that is one byte, and the byte
data IsByte : Kind → ℕ → Type 0 where
  opens_byte : (b : Bracket) → IsByte (an_opener b) (opening b)
  closes_byte : (b : Bracket) → IsByte (a_closer b) (closing b)
  a_comma_byte : IsByte comma_kind 0x2C
  a_colon_byte : IsByte colon_kind 0x3A

byte_steps : (k : Kind) (c : ℕ) → IsByte k c → (s : State) → IsStill s → step s c ≡ next s k
byte_steps _ _ (opens_byte Square) (after (in_array ∷ st)) h = refl
byte_steps _ _ (opens_byte Brace) (after (in_array ∷ st)) h = refl
byte_steps _ _ (closes_byte Square) (after (in_array ∷ st)) h = refl
byte_steps _ _ (closes_byte Brace) (after (in_array ∷ st)) h = refl
byte_steps _ _ a_comma_byte (after (in_array ∷ st)) h = refl
byte_steps _ _ a_colon_byte (after (in_array ∷ st)) h = refl
byte_steps _ _ _ _ h = search rules

-- the byte is not c, where no value begins with c
pub not_byte : (b c : ℕ) (st : List Frame) (s : State) → begin_value st c ≡ None → begin_value st b ≡ Some s → (b == c) ≡ false
not_byte b c st s e f = grind (arith, e, f)

-- the machine goes through the piece, wherever it may stand
pub record Goes (s t : State) (v : List ℕ) : Type 0 where
  pub last : State
  pub goes : go s v ≡ Some last
  pub settled : Settled last t
  pub clear : (x : List ℕ) → are_apart v x ≡ true → is_clear last x ≡ true

-- the piece begins with a byte that has no place
pub record Halts (s : State) (v : List ℕ) : Type 0 where
  pub byte : ℕ
  pub others : List ℕ
  pub split : v ≡ byte ∷ others
  pub halts : step s byte ≡ None

pub still_clear : (t : State) (x : List ℕ) → IsStill t → is_clear t x ≡ true
still_clear _ x h = search rules

pub begin_still : (st : List Frame) (k : Kind) (t : State) → begin_next st k ≡ Some t → IsStill t
begin_still st (an_opener Square) t e = subst IsStill (same_Some _ t e) tt
begin_still st _ t e = search (rules, none-some)

name_still : (st : List Frame) (k : Kind) (t : State) → name_next st k ≡ Some t → IsStill t
name_still st _ t e = search (rules, none-some)

-- the state that the grammar's next state is, and that it is between tokens
pub next_still : (s : State) (k : Kind) (t : State) → next s k ≡ Some t → IsStill t
next_still (value st) k t e = begin_still st k t e
next_still (items st) (an_opener b) t e = begin_still (in_array ∷ st) (an_opener b) t e
next_still (members st) (a_closer Square) t e = absurd (none-some t e)
next_still (name st) k t e = name_still st k t e
next_still (after (in_array ∷ st)) (a_closer Square) t e = subst IsStill (same_Some _ t e) tt
next_still _ _ t e = search (rules, none-some)

-- ---- strings and values in each state

from_enter : (st : List Frame) (s t : State) (v : List ℕ) (h : Enters st v) → ((z : List ℕ) → go s (v ++ z) ≡ go h.last z) → t ≡ after st → Goes s t v
from_enter st s t v h f e = record {
  last = h.last;
  goes = ap (go s) (sym (append-nil v)) ∙ f [];
  settled = subst (λ x. Settled h.last x) (sym e) h.settled;
  clear = h.clear;
}

from_name : (st : List Frame) (s t : State) (v : List ℕ) (h : Named st v) → ((z : List ℕ) → go s (v ++ z) ≡ go h.last z) → t ≡ colon st → Goes s t v
from_name st s t v h f e = record {
  last = h.last;
  goes = ap (go s) (sym (append-nil v)) ∙ f [];
  settled = subst (λ x. Settled h.last x) (sym e) h.settled;
  clear = λ x k. h.clear x;
}

text_goes : (s t : State) (v : List ℕ) → JsonString v → next s text_kind ≡ Some t → Goes s t v
text_goes (value st) t v h e = let k : Enters st v = string_enters st v h in from_enter st (value st) t v k (λ z. value_at st v z k) (sym (same_Some _ t e))
text_goes (items st) t v h e = let k : Enters (in_array ∷ st) v = string_enters (in_array ∷ st) v h in from_enter (in_array ∷ st) (items st) t v k (λ z. items_at st v z k) (sym (same_Some _ t e))
text_goes (members st) t v h e = let k : Named st v = named st v h in from_name st (members st) t v k k.first_goes (sym (same_Some _ t e))
text_goes (name st) t v h e = let k : Named st v = named st v h in from_name st (name st) t v k k.goes (sym (same_Some _ t e))
text_goes (after (in_array ∷ st)) t v h e = absurd (none-some t e)
text_goes _ t v h e = absurd (none-some t e)

pub quote_halts : (s : State) → IsStill s → next s text_kind ≡ None → step s 0x22 ≡ None
quote_halts (after (in_array ∷ st)) i e = refl
quote_halts _ i e = search rules

pub text_halts : (s : State) (v : List ℕ) → IsStill s → JsonString v → next s text_kind ≡ None → Halts s v
text_halts s v i h e = let (u, f, r) = opening_split v h in record { byte = 0x22; others = u; split = f; halts = quote_halts s i e }

value_goes : (s t : State) (at : ℕ) (v : List ℕ) (x : Tree) → Spells at v x → next s value_kind ≡ Some t → Goes s t v
value_goes (value st) t at v x h e = let k : Enters st v = value_enters x st at v h in from_enter st (value st) t v k (λ z. value_at st v z k) (sym (same_Some _ t e))
value_goes (items st) t at v x h e = let k : Enters (in_array ∷ st) v = value_enters x (in_array ∷ st) at v h in from_enter (in_array ∷ st) (items st) t v k (λ z. items_at st v z k) (sym (same_Some _ t e))
value_goes (after (in_array ∷ st)) t at v x h e = absurd (none-some t e)
value_goes _ t at v x h e = absurd (none-some t e)

-- the first byte, or 0
abbrev pub first : List ℕ → ℕ
first [] = 0
first (b ∷ w) = b

quote_of : (c d : ℕ) → c ≡ d → (d == 0x22) ≡ false → (c == 0x22) ≡ false
quote_of c d e h = ap (λ x. x == 0x22) e ∙ h

number_quote : (c : ℕ) (u : List ℕ) → num.Rest num.start (c ∷ u) → (c == 0x22) ≡ false
number_quote c u (inl (e, r)) = quote_of c 0x2D e refl
number_quote c u (inr (inl (e, r))) = quote_of c 0x30 e refl
number_quote c u (inr (inr (h, r))) = grind (arith, h)

-- what is no string doesn't begin with a quote
no_quote : (t : Tree) (at c : ℕ) (u : List ℕ) → Spells at (c ∷ u) t → IsNoText t → (c == 0x22) ≡ false
no_quote (literal i the_null) at c u h n = quote_of c 0x6E (ap first h.1) refl
no_quote (literal i the_true) at c u h n = quote_of c 0x74 (ap first h.1) refl
no_quote (literal i the_false) at c u h n = quote_of c 0x66 (ap first h.1) refl
no_quote (number i m) at c u (f, (h, e)) n = number_quote c u ((num.start-JsonNumber (c ∷ u)).1 (m, h, e))
no_quote (text i cs) at c u h n = absurd n
no_quote (array i ts) at c u h n = let (f, (v, e, s)) = parts.array_parts ts i at (c ∷ u) h in quote_of c 0x5B (ap first e) refl
no_quote (object i ms) at c u h n = let (f, (v, e, s)) = parts.object_parts ms i at (c ∷ u) h in quote_of c 0x7B (ap first e) refl

-- the five tests of a byte that none of the states without a value passes
pub record Unmarked (c : ℕ) : Type 0 where
  pub space : is_space c ≡ false
  pub quote : (c == 0x22) ≡ false
  pub comma_byte : (c == 0x2C) ≡ false
  pub colon_byte : (c == 0x3A) ≡ false
  pub square : (c == 0x5D) ≡ false
  pub brace : (c == 0x7D) ≡ false

unmarked : (t : Tree) (at : ℕ) (v : List ℕ) → Spells at v t → IsNoText t → (c : ℕ) × (u : List ℕ) × (v ≡ c ∷ u) × Unmarked c
unmarked t at v h n = let k : Enters [] v = value_enters t [] at v h in (
  k.byte,
  k.others,
  k.split,
  record {
    space = k.no_space;
    quote = no_quote t at k.byte k.others (subst (λ x. Spells at x t) k.split h) n;
    comma_byte = not_byte k.byte 0x2C [] k.next refl k.begins;
    colon_byte = not_byte k.byte 0x3A [] k.next refl k.begins;
    square = not_byte k.byte 0x5D [] k.next refl k.begins;
    brace = not_byte k.byte 0x7D [] k.next refl k.begins;
  },
)

pub unmarked_halts : (s : State) (c : ℕ) → IsStill s → Unmarked c → next s value_kind ≡ None → step s c ≡ None
unmarked_halts (after (in_array ∷ st)) c i u e = grind arith
unmarked_halts _ c i u e = grind arith

-- ---- each piece

-- a piece of one byte leads to a state that is between tokens
byte_goes : (s t : State) (k : Kind) (c : ℕ) (v : List ℕ) → IsByte k c → IsStill s → v ≡ c ∷ [] → next s k ≡ Some t → Goes s t v
byte_goes s t k c v b h e g = record {
  last = t;
  goes = ap (go s) e ∙ ap (option_and_then (λ x. Some x)) (byte_steps k c b s h ∙ g);
  settled = still_settled t (next_still s k t g);
  clear = λ x i. still_clear t x (next_still s k t g);
}

pub piece_goes : {X : Type 0} (m : Meaning X) (s t : State) (at : ℕ) (v : List ℕ) (p : Piece X) → IsStill s → IsPiece m at v p → next s (kind_of p) ≡ Some t → Goes s t v
piece_goes m s t at v (opens b i) h (f, e) g = byte_goes s t (an_opener b) (opening b) v (opens_byte b) h e g
piece_goes m s t at v (closes b i) h (f, e) g = byte_goes s t (a_closer b) (closing b) v (closes_byte b) h e g
piece_goes m s t at v (mark (a_comma i)) h (f, e) g = byte_goes s t comma_kind 0x2C v a_comma_byte h e g
piece_goes m s t at v (mark (a_colon i)) h (f, e) g = byte_goes s t colon_kind 0x3A v a_colon_byte h e g
piece_goes m s t at v (mark (quoted i cs)) h (f, (k, e)) g = text_goes s t v (cs, k, e) g
piece_goes m s t at v (mark (entry i x)) h (f, y, sp, n, e) g = value_goes s t at v y sp g

byte_halts : (s : State) (k : Kind) (c : ℕ) (v : List ℕ) → IsByte k c → IsStill s → v ≡ c ∷ [] → next s k ≡ None → Halts s v
byte_halts s k c v b h e g = record { byte = c; others = []; split = e; halts = byte_steps k c b s h ∙ g }

pub piece_halts : {X : Type 0} (m : Meaning X) (s : State) (at : ℕ) (v : List ℕ) (p : Piece X) → IsStill s → IsPiece m at v p → next s (kind_of p) ≡ None → Halts s v
piece_halts m s at v (opens b i) h (f, e) g = byte_halts s (an_opener b) (opening b) v (opens_byte b) h e g
piece_halts m s at v (closes b i) h (f, e) g = byte_halts s (a_closer b) (closing b) v (closes_byte b) h e g
piece_halts m s at v (mark (a_comma i)) h (f, e) g = byte_halts s comma_kind 0x2C v a_comma_byte h e g
piece_halts m s at v (mark (a_colon i)) h (f, e) g = byte_halts s colon_kind 0x3A v a_colon_byte h e g
piece_halts m s at v (mark (quoted i cs)) h (f, (k, e)) g = text_halts s v h (cs, k, e) g
piece_halts m s at v (mark (entry i x)) h (f, y, sp, n, e) g = let (c, u, d, k) = unmarked y at v sp n in
    record { byte = c; others = u; split = d; halts = unmarked_halts s c h k g }

-- a piece has a first byte
pub piece_first : {X : Type 0} (m : Meaning X) (at : ℕ) (v : List ℕ) (p : Piece X) → IsPiece m at v p → (c : ℕ) × (u : List ℕ) × (v ≡ c ∷ u)
piece_first m at v (opens b i) (f, e) = (opening b, [], e)
piece_first m at v (closes b i) (f, e) = (closing b, [], e)
piece_first m at v (mark (a_comma i)) (f, e) = (0x2C, [], e)
piece_first m at v (mark (a_colon i)) (f, e) = (0x3A, [], e)
piece_first m at v (mark (quoted i cs)) (f, (k, e)) = let (u, d, r) = opening_split v (cs, k, e) in (0x22, u, d)
piece_first m at v (mark (entry i x)) (f, y, sp, n, e) = let (c, u, d, k) = unmarked y at v sp n in (c, u, d)

pub piece_at : {X : Type 0} (m : Meaning X) (at : ℕ) (v : List ℕ) (p : Piece X) → IsPiece m at v p → at_of p ≡ at
piece_at m at v (mark (a_comma i)) h = h.0
piece_at m at v _ h = h.0
