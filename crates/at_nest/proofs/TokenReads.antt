-- What the readers of strings and runs find of a token, told as what the token pushes.
-- For `finish`, `finish_span`, `merge` and `run_block`.
use Rattle.std.proofs.Common.{◌≡◌, ◌≢◌, ℕ, zero, suc, ◌⊎◌, inl, inr, List, [], ◌∷◌, ◌++◌, Option, Some, None, true, false, refl, sym, ◌∙◌, ap, subst, arith, append_assoc, append-nil, ◌+◌, ◌-◌, ◌==◌, ◌<◌, ◌≤◌, length, length-append, take, slice_index, true≢false, if◌then◌else◌}
use Rattle.std.proofs.Math.Seq.{take-append_seam, take-length, get_or-append_seam}
use Rattle.std.proofs.lemmas.Option.{none-some, same_Some}
use Rattle.at_text.specs.Prefix.{Viable, LongestViable}
use Rattle.at_text.specs.Texts.{is_run}
use Rattle.at_text.proofs.Machine.{run}
use Rattle.at_lex.specs.Strings.{Character, JsonString, AreCharacters, string_text}
use Rattle.at_lex.specs.Runs.{JsonRun, IsRunEnd, the_null, the_true, the_false}
use Rattle.at_lex.specs.Spans.{begins_run, AreRun, ClosesText, IsText, EndsRun, IsRefused, opening, closing, IsKind}
use Rattle.at_lex.specs.declared.tokens.Start.TheVariants.{InString}
use Rattle.at_lex.specs.declared.tokens.Bracket.{Bracket}
use Rattle.at_lex.specs.declared.tokens.Token.{Token}
use Rattle.at_lex.specs.declared.tokens.TokenKind.TheVariants as kinds
use Rattle.at_lex.specs.declared.runs.RunEnd.{RunEnd}
use Rattle.at_lex.specs.declared.runs.RunEnd.TheVariants.{Null, True, False, Number, BadAt}
use Rattle.at_lex.proofs.JsonString as str
use Rattle.at_lex.proofs.Unique.{not-false}
use Rattle.at_nest.specs.declared.pieces.Within.TheVariants as code
use Rattle.at_nest.specs.declared.pieces.SpanStop.{SpanStop as CodeHalt}
use Rattle.at_nest.specs.Tree.{Tree, literal, number, Spells}
use Rattle.at_nest.specs.Forms.{Meaning, Piece, opens, closes, mark, Mark, quoted, entry, IsPiece, IsMark, Formed, IsNoText, fold_of}
use Rattle.at_nest.specs.Levels.{Form, Pushed, further, stopped, SpanStop, plain_halt, in_run, in_text, push, push_then, first_mode}
use Rattle.at_nest.specs.Unions.{IsToken, no_token, a_run, a_text, Ends, merged, empty_form}
use Rattle.at_nest.specs.Shown.{Shown}
use Rattle.at_nest.specs.KeptItems.{Content, free, IsShown, IsPushedAs, halt_of, PushesText}
use Rattle.at_nest.specs.Reading.{stop_within, within_from, Reads, ReadsToken, ReadsRun}
use Rattle.at_nest.specs.Stops.{IsForm}
use Rattle.at_nest.proofs.Longest.{string_runs}
use Rattle.at_nest.proofs.Strings.{whole_string}
use Rattle.at_nest.proofs.Items.{first_of}
use Rattle.at_nest.proofs.Joins.{apart_nothing}
use Rattle.at_nest.proofs.Readings.{IsReading, string_stops, run_stops, first_stops, reading_ends}
use Rattle.at_nest.proofs.Runs.{run_there}
use Rattle.at_nest.proofs.PieceSteps.{first}
use Rattle.at_nest.proofs.Begun.{tail_of, unlike}

-- ---- lists cut at a place

pub cut_at : (t : List ℕ) (n : ℕ) → n < length t → (a : List ℕ) × (byte : ℕ) × (o : List ℕ) × (t ≡ a ++ (byte ∷ o)) × (length a ≡ n)
cut_at [] n h = absurd (omega (arith, h))
cut_at (b ∷ t) zero h = ([], b, t, refl, refl)
cut_at (b ∷ t) (suc n) h = let (a, c, o, e, l) = cut_at t n (omega (arith, h)) in (b ∷ a, c, o, ap (λ z. b ∷ z) e, ap suc l)

cut_or_end : (t : List ℕ) (n : ℕ) → n ≤ length t → ((a : List ℕ) × (byte : ℕ) × (o : List ℕ) × (t ≡ a ++ (byte ∷ o)) × (length a ≡ n)) ⊎ (length t ≡ n)
cut_or_end [] n h = inr (omega (arith, h))
cut_or_end (b ∷ t) zero h = inl ([], b, t, refl, refl)
cut_or_end (b ∷ t) (suc n) h = elim (cut_or_end t n (omega (arith, h))) [
  | inl r ↦ (let (a, c, o, e, l) = r in inl (b ∷ a, c, o, ap (λ z. b ∷ z) e, ap suc l))
  | inr e ↦ inr (ap suc e)
]

pub take_is : (t a : List ℕ) (byte : ℕ) (o : List ℕ) (n : ℕ) → t ≡ a ++ (byte ∷ o) → length a ≡ n → take n t ≡ a
take_is t a byte o n e l = ap (λ k. take k t) (sym l) ∙ (ap (take (length a)) e ∙ take-append_seam a (byte ∷ o))

pub there_is : (t a : List ℕ) (byte : ℕ) (o : List ℕ) (n : ℕ) → t ≡ a ++ (byte ∷ o) → length a ≡ n → slice_index t n ≡ byte
there_is t a byte o n e l = ap (λ k. slice_index t k) (sym l) ∙ (ap (λ z. slice_index z (length a)) e ∙ get_or-append_seam a byte o 0)

take_one_more : (t a : List ℕ) (byte : ℕ) (o : List ℕ) (n : ℕ) → t ≡ a ++ (byte ∷ o) → length a ≡ n → take (n + 1) t ≡ a ++ byte ∷ []
take_one_more t a byte o n e l =
    let size : n + 1 ≡ length (a ++ byte ∷ []) = omega (arith, l, length-append a (byte ∷ [])) in
    ap (λ k. take k t) size ∙ (ap (take (length (a ++ byte ∷ []))) (e ∙ sym (append_assoc a (byte ∷ []) o)) ∙ take-append_seam (a ++ byte ∷ []) o)

below_length : (t a : List ℕ) (byte : ℕ) (o : List ℕ) (n : ℕ) → t ≡ a ++ (byte ∷ o) → length a ≡ n → n < length t
below_length t a byte o n e l = omega (arith, l, length-append a (byte ∷ o), ap (λ z. length z) e)

-- ---- strings

no_opening : (q : str.State) (byte : ℕ) → run str.step str.opening [] ≡ Some q → byte ≡ 0x22 → str.step q byte ≡ None → ⊥
no_opening q byte r b n = none-some str.inside (sym n ∙ (ap (λ z. str.step z byte) (sym (same_Some str.opening q r)) ∙ ap (str.step str.opening) b))

pub text_refused : {X : Type 0} (m : Meaning X) (at : ℕ) (t more u : List ℕ) (n : ℕ) → t ≡ 0x22 ∷ u → ClosesText InString u → LongestViable JsonString t n → n < length t
    → (0 < n) × IsReading m at t more (stopped empty_form (record { kind = in_text; item = at; place = at + n }))
text_refused m at t more u n e ending longest below =
    let (a, byte, o, s, l) = cut_at t n below in
    let (q, r, stops) = string_runs t n longest in
    by_front a byte o q s l (ap (run str.step str.opening) (sym (take_is t a byte o n s l)) ∙ r) (ap (str.step q) (sym (there_is t a byte o n s l)) ∙ stops below)
  where
    by_front : (a : List ℕ) (byte : ℕ) (o : List ℕ) (q : str.State) → t ≡ a ++ (byte ∷ o) → length a ≡ n → run str.step str.opening a ≡ Some q → str.step q byte ≡ None
        → (0 < n) × IsReading m at t more (stopped empty_form (record { kind = in_text; item = at; place = at + n }))
    by_front [] byte o q s l r k = absurd (no_opening q byte r (ap first (sym s ∙ e)) k)
    by_front (c ∷ v) byte o q s l r k =
        let c_is : c ≡ 0x22 = ap first (sym s ∙ e) in
        let u_is : u ≡ v ++ (byte ∷ o) = ap tail_of (sym e ∙ s) in (
          omega (arith, l),
          subst (λ z. IsReading m at t more (stopped empty_form (record { kind = in_text; item = at; place = at + z }))) l
              (string_stops v byte o q (e ∙ ap (λ z. 0x22 ∷ z) u_is) (subst (ClosesText InString) u_is ending) (ap (λ z. run str.step str.opening (z ∷ v)) (sym c_is) ∙ r) k),
        )

-- a closed string that is viable to its end is one
pub text_whole : (t u : List ℕ) (n : ℕ) → t ≡ 0x22 ∷ u → ClosesText InString u → LongestViable JsonString t n → n ≡ length t → JsonString t
text_whole t u n e ending longest all = let (q, r, stops) = string_runs t n longest in
    subst JsonString (sym e) (whole_string u q ending (ap (run str.step str.opening) (sym (ap (λ k. take k t) all ∙ (take-length t ∙ e))) ∙ r))

-- ---- runs

abbrev pub run_halt : ℕ → ℕ → SpanStop
run_halt at zero = plain_halt at
run_halt at (suc n) = record { kind = in_run; item = at; place = at + suc n }

-- a byte in the run stops it
pub run_refused_inside : {X : Type 0} (m : Meaning X) (at : ℕ) (t more : List ℕ) (n : ℕ) → AreRun t → LongestViable JsonRun t n → n < length t → IsReading m at t more (stopped empty_form (run_halt at n))
run_refused_inside m at t more n are longest below = let (a, byte, y, s, l) = cut_at t n below in in_run_at a byte y s l
  where
    in_run_at : (a : List ℕ) (byte : ℕ) (y : List ℕ) → t ≡ a ++ (byte ∷ y) → length a ≡ n → IsReading m at t more (stopped empty_form (run_halt at n))
    in_run_at [] byte y s l = subst (λ z. IsReading m at t more (stopped empty_form (run_halt at z))) l
        (first_stops byte (y ++ more) (ap (λ z. z ++ more) s) (run_there [] byte y (subst AreRun s are)) (λ v. longest.longest (below_length t [] byte y n s l) (subst (Viable JsonRun) (sym (take_one_more t [] byte y n s l)) v)))
    in_run_at (c ∷ v) byte y s l = subst (λ z. IsReading m at t more (stopped empty_form (run_halt at z))) l
        (run_stops c v byte (y ++ more) (ap (λ z. z ++ more) s ∙ append_assoc (c ∷ v) (byte ∷ y) more) (subst AreRun s are).0 (subst (Viable JsonRun) (take_is t (c ∷ v) byte y n s l) longest.front)
        (inl (run_there (c ∷ v) byte y (subst AreRun s are), λ x. longest.longest (below_length t (c ∷ v) byte y n s l) (subst (Viable JsonRun) (sym (take_one_more t (c ∷ v) byte y n s l)) x))))

pub run_refused : {X : Type 0} (m : Meaning X) (at : ℕ) (t more : List ℕ) (b : ℕ) (o : List ℕ) (n : ℕ) → AreRun t → begins_run t ≡ true → more ≡ b ∷ o → begins_run more ≡ false → ¬ (JsonRun t) → LongestViable JsonRun t n
    → IsReading m at t more (stopped empty_form (run_halt at n))
run_refused m at t more b o n are begins e ends none_such longest = elim (cut_or_end t n longest.fits) [
  | inl r ↦ (let (a, byte, y, s, l) = r in run_refused_inside m at t more n are longest (below_length t a byte y n s l))
  | inr l ↦ at_end t refl l
]
  where
    at_end : (z : List ℕ) → t ≡ z → length t ≡ n → IsReading m at t more (stopped empty_form (run_halt at n))
    at_end [] s l = absurd (true≢false (sym begins ∙ ap begins_run s))
    at_end (c ∷ v) s l = subst (λ z. IsReading m at t more (stopped empty_form (run_halt at z))) (sym (ap (λ z. length z) s) ∙ l)
        (run_stops c v b o (ap (λ z. z ++ more) s ∙ ap (λ z. (c ∷ v) ++ z) e) (subst AreRun s are).0
        (subst (Viable JsonRun) (ap (λ k. take k t) (sym l) ∙ (take-length t ∙ s)) longest.front)
        (inr (sym (ap begins_run e) ∙ ends, λ j. none_such (subst JsonRun (sym s) j))))

-- the tree of a whole run
pub run_tree : (at : ℕ) (t : List ℕ) → JsonRun t → (y : Tree) × Spells at t y × IsNoText y × (y ≡ fold_of free y)
run_tree at t (inl (l, e)) = (literal at l, (refl, e), tt, refl)
run_tree at t (inr (n, h, e)) = (number at n, (refl, (h, e)), tt, refl)

pub run_end_is : (t : List ℕ) (e : RunEnd) → IsRunEnd t e → ((n : ℕ) → e ≢ BadAt n) → JsonRun t
run_end_is t Null h n = inl (the_null, h)
run_end_is t True h n = inl (the_true, h)
run_end_is t False h n = inl (the_false, h)
run_end_is t Number h n = inr h
run_end_is t (BadAt k) h n = absurd (n k refl)

-- ---- what is kept

then_further : (o : Pushed Tree) → push_then (λ k. further k) o ≡ o
then_further (further k) = refl
then_further (stopped k i) = refl

pub one_mark : {X : Type 0} (IsKept : X → Content → Type 0) (base : ℕ) (w : List ℕ) (new : Shown X) (r : Option CodeHalt) (f : Form Tree) (x : Mark Tree) → IsPushedAs IsKept base w new r (push free f (mark x))
    → IsPushedAs IsKept base w new r (merged free (further f) (further (record { outer = mark x ∷ []; levels = [] })))
one_mark IsKept base w new r f x h = subst (IsPushedAs IsKept base w new r) (sym (then_further (push free f (mark x)))) h

pub one_close : {X : Type 0} (IsKept : X → Content → Type 0) (base : ℕ) (w : List ℕ) (new : Shown X) (r : Option CodeHalt) (f : Form Tree) (b : Bracket) (i : ℕ) → IsPushedAs IsKept base w new r (push free f (closes b i))
    → IsPushedAs IsKept base w new r (merged free (further f) (further (record { outer = closes b i ∷ []; levels = [] })))
one_close IsKept base w new r f b i h = subst (IsPushedAs IsKept base w new r) (sym (then_further (push free f (closes b i)))) h

one_formed : (at : ℕ) (v : List ℕ) (p : Piece Tree) → IsPiece free at v p → Formed free at v (p ∷ [])
one_formed at v p h = ([], v, [], sym (append-nil v), tt, (let e : at ≡ at + 0 = omega arith in subst (λ n. IsPiece free n v p) e h), apart_nothing v, tt)

pub mark_ends : (at : ℕ) (v more : List ℕ) (x : Mark Tree) → IsMark free at v x → Ends free at v more (further (record { outer = mark x ∷ []; levels = [] }))
mark_ends at v more x h = record { formed = one_formed at v (mark x) h; levels = tt }

pub close_ends : (at : ℕ) (v more : List ℕ) (b : Bracket) → v ≡ closing b ∷ [] → Ends free at v more (further (record { outer = closes b at ∷ []; levels = [] }))
close_ends at v more b e = record { formed = one_formed at v (closes b at) (refl, e); levels = tt }

pub open_ends : (at : ℕ) (v more : List ℕ) (b : Bracket) → v ≡ opening b ∷ [] → Ends free at v more (further (record { outer = []; levels = record { bracket = b; from = at; inside = []; mode = first_mode b } ∷ [] }))
open_ends at v more b e = record { formed = one_formed at v (opens b at) (refl, e); levels = (refl, tt) }

-- a stop in a token: what is kept stays
pub stop_pushed : {X : Type 0} (IsKept : X → Content → Type 0) (base : ℕ) (w : List ℕ) (s : Shown X) (h : CodeHalt) (f : Form Tree) (i : SpanStop) → IsShown IsKept base w s f → halt_of h ≡ i → IsPushedAs IsKept base w s (Some h) (merged free (further f) (stopped empty_form i))
stop_pushed IsKept base w s h f i k e = (k, e)

pub run_halt_is : (at n : ℕ) → halt_of (stop_within code.Run at n) ≡ run_halt at n
run_halt_is at zero = refl
run_halt_is at (suc n) = refl

pub text_halt_is : (at n : ℕ) → 0 < n → halt_of (stop_within code.Text at n) ≡ record { kind = in_text; item = at; place = at + n }
text_halt_is at zero h = absurd (omega (arith, h))
text_halt_is at (suc n) h = refl

pub run_no_quote : (b : ℕ) → is_run b ≡ true → (b == 0x22) ≡ false
run_no_quote b h = unlike is_run b 0x22 refl h

within_run : (v : List ℕ) → begins_run v ≡ true → within_from v ≡ code.Run
within_run [] h = refl
within_run (b ∷ v) h = ap (λ z. if z then code.Text else code.Run) (run_no_quote b h)

within_text : (v u : List ℕ) → v ≡ 0x22 ∷ u → within_from v ≡ code.Text
within_text v u e = ap within_from e

-- a token that spells nothing
pub broken_reads : {X : Type 0} (IsKept : X → Content → Type 0) (s : Shown X) (v : List ℕ) (token : Token) (place : ℕ) → token.kind ≡ kinds.Broken place → ReadsToken IsKept s s (Some (stop_within (within_from v) token.from (place - token.from))) v token
broken_reads IsKept s v token place e base w f after h placed lexed =
    let k = subst (IsKind token.from v after) e (subst (λ n. IsKind n v after token.kind) (sym lexed.0) lexed.2) in
    let n : ℕ = k.0 in
    let off : place - token.from ≡ n = omega (arith, k.1) in
    subst (λ d. (p : Pushed Tree) × Ends free token.from v after p × IsPushedAs IsKept base w s (Some (stop_within (within_from v) token.from d)) (merged free (further f) p)) (sym off) (by_kind n k.2)
  where
    by_kind : (n : ℕ) → ((IsText v × IsRefused JsonString v n × (n < length v)) ⊎ (EndsRun v after × IsRefused JsonRun v n))
        → (p : Pushed Tree) × Ends free token.from v after p × IsPushedAs IsKept base w s (Some (stop_within (within_from v) token.from n)) (merged free (further f) p)
    by_kind n (inl (is, refused, below)) = let (u, q, c) = is in let r = text_refused free token.from v after u n q c refused.1 below in (
      stopped empty_form (record { kind = in_text; item = token.from; place = token.from + n }),
      reading_ends free token.from v after _ r.1,
      stop_pushed IsKept base w s (stop_within (within_from v) token.from n) f _ h (ap (λ z. halt_of (stop_within z token.from n)) (within_text v u q) ∙ text_halt_is token.from n r.0),
    )
    by_kind n (inr (is, refused)) = let (b, o, q) = first_of after is.1 in (
      stopped empty_form (run_halt token.from n),
      reading_ends free token.from v after _ (run_refused free token.from v after b o n is.0.1 is.0.0 q (not-false (begins_run after) is.2) refused.0 refused.1),
      stop_pushed IsKept base w s (stop_within (within_from v) token.from n) f _ h (ap (λ z. halt_of (stop_within z token.from n)) (within_run v is.0.0) ∙ run_halt_is token.from n),
    )

-- ---- tokens that were cut

pub cut_is_run : (t more : List ℕ) (b : ℕ) (u : List ℕ) → IsToken t more → t ≡ b ∷ u → b ≢ 0x22 → begins_run t ≡ true
cut_is_run t more b u (no_token e c o f) q n = absurd (not_nil b u (sym q ∙ e))
  where
    not_nil : (b : ℕ) (o : List ℕ) → b ∷ o ≡ [] → ⊥
    not_nil b o e = cc
cut_is_run t more b u (a_run r k c d o e) q n = k
cut_is_run t more b u (a_text z e c) q n = absurd (n (ap first (sym q ∙ e)))

pub cut_stops_text : {X : Type 0} (IsKept : X → Content → Type 0) (s : Shown X) (at : ℕ) (t : List ℕ) (n : ℕ) → IsText t → LongestViable JsonString t n → n < length t → Reads IsKept s s (Some (stop_within code.Text at n)) at t
cut_stops_text IsKept s at t n (u, q, c) longest below base w f more h placed token = let r = text_refused free at t more u n q c longest below in
    (stopped empty_form (record { kind = in_text; item = at; place = at + n }), reading_ends free at t more _ r.1, stop_pushed IsKept base w s (stop_within code.Text at n) f _ h (text_halt_is at n r.0))

pub cut_reads_text : {X : Type 0} (IsKept : X → Content → Type 0) (old new : Shown X) (r : Option CodeHalt) (at : ℕ) (t : List ℕ) → JsonString t → ((cs : List Character) → AreCharacters cs → t ≡ string_text cs → PushesText IsKept old new r (record { from = at; to = at + length t }) cs)
    → Reads IsKept old new r at t
cut_reads_text IsKept old new r at t (cs, ok, e) pushes base w f more h (a, z, d, i) token = (
  further (record { outer = mark (quoted at cs) ∷ []; levels = [] }),
  mark_ends at t more (quoted at cs) (refl, (ok, e)),
  one_mark IsKept base w new r f (quoted at cs) (pushes cs ok e base w f h (ok, a, z, d ∙ ap (λ v. a ++ (v ++ z)) e, i, ap (λ v. at + length v) e)),
)

pub cut_stops_run : {X : Type 0} (IsKept : X → Content → Type 0) (s : Shown X) (at : ℕ) (t : List ℕ) (n : ℕ) → begins_run t ≡ true → ¬ (JsonRun t) → LongestViable JsonRun t n → Reads IsKept s s (Some (stop_within code.Run at n)) at t
cut_stops_run IsKept s at t n k none_such longest base w f more h placed (no_token e b o q) = absurd (true≢false (sym k ∙ ap begins_run e))
cut_stops_run IsKept s at t n k none_such longest base w f more h placed (a_text u e c) = absurd (true≢false (sym k ∙ ap begins_run e))
cut_stops_run IsKept s at t n k none_such longest base w f more h placed (a_run are begins ends b o q) =
    (stopped empty_form (run_halt at n), reading_ends free at t more _ (run_refused free at t more b o n are begins q ends none_such longest), stop_pushed IsKept base w s (stop_within code.Run at n) f _ h (run_halt_is at n))

pub cut_reads_run : {X : Type 0} (IsKept : X → Content → Type 0) (old new : Shown X) (r : Option CodeHalt) (at : ℕ) (t : List ℕ) → JsonRun t → ReadsRun IsKept old new r at t → Reads IsKept old new r at t
cut_reads_run IsKept old new r at t j pushes base w f more h placed token = let (y, spells, no_text, same) = run_tree at t j in
    (further (record { outer = mark (entry at y) ∷ []; levels = [] }), mark_ends at t more (entry at y) (refl, y, spells, no_text, same), one_mark IsKept base w new r f (entry at y) (pushes base w f y h spells))

pub cut_nothing : {X : Type 0} (IsKept : X → Content → Type 0) (s : Shown X) (at : ℕ) (t : List ℕ) → t ≡ [] → Reads IsKept s s None at t
cut_nothing IsKept s at t e base w f more h placed token = (further empty_form, subst (λ z. IsForm free at z empty_form) (sym e) (record { formed = tt; levels = tt }), h)

-- ---- tokens of a piece

pub lexed_text : {X : Type 0} (IsKept : X → Content → Type 0) (old new : Shown X) (r : Option CodeHalt) (t : List ℕ) (token : Token) → JsonString t → ((cs : List Character) → AreCharacters cs → t ≡ string_text cs → PushesText IsKept old new r (record { from = token.from; to = token.from + length t }) cs)
    → ReadsToken IsKept old new r t token
lexed_text IsKept old new r t token (cs, ok, e) pushes base w f after h (a, z, d, i) lexed = (
  further (record { outer = mark (quoted token.from cs) ∷ []; levels = [] }),
  mark_ends token.from t after (quoted token.from cs) (refl, (ok, e)),
  one_mark IsKept base w new r f (quoted token.from cs) (pushes cs ok e base w f h (ok, a, z, d ∙ ap (λ v. a ++ (v ++ z)) e, i, ap (λ v. token.from + length v) e)),
)

pub lexed_run : {X : Type 0} (IsKept : X → Content → Type 0) (old new : Shown X) (r : Option CodeHalt) (t : List ℕ) (token : Token) → JsonRun t → ReadsRun IsKept old new r token.from t → ReadsToken IsKept old new r t token
lexed_run IsKept old new r t token j pushes base w f after h placed lexed = let (y, spells, no_text, same) = run_tree token.from t j in
    (further (record { outer = mark (entry token.from y) ∷ []; levels = [] }), mark_ends token.from t after (entry token.from y) (refl, y, spells, no_text, same), one_mark IsKept base w new r f (entry token.from y) (pushes base w f y h spells))
