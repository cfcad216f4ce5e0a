-- Strings by lexical states: how the parts of one join, and that the reader of a string goes through them.
-- For most public calls of the crate, `copy`, `from_slice`, `lex` among them.
use Rattle.std.proofs.Common.{◌≡◌, ◌≢◌, ℕ, ◌+◌, ◌<◌, ◌≤◌, List, [], ◌∷◌, ◌++◌, length, take, drop, slice_index, Option, Some, None, option_and_then, Bool, true, false, cond, ◌==◌, IsTrue, refl, sym, ◌∙◌, ap, subst, arith, ◌⊎◌, inl, inr, add-one, take-suc, ◌-◌, length-drop, get_or-drop}
use Rattle.std.proofs.Math.Seq.{take-add}
use Rattle.std.proofs.lemmas.Option.{none-some, same_Some, option_and_then_some}
use Rattle.std.specs.List.{AllByRecursion}
use Rattle.std.specs.Char.{is_ascii_hexdigit}
use Rattle.at_text.proofs.Machine.{run}
use Rattle.at_lex.specs.declared.tokens.Start.{Start}
use Rattle.at_lex.specs.declared.tokens.Start.TheVariants.{Out, InString, InEscape}
use Rattle.at_lex.specs.Spans.{after_byte, end_of, ClosesText, StaysInText}
use Rattle.at_lex.specs.Fronts.{IsFront, is_quiet}
use Rattle.at_lex.proofs.FrontLemmas.{front_all, front_behind}
use Rattle.at_lex.specs.Strings.{is_plain}
use Rattle.at_lex.specs.StringStates.{State, opening, inside, escaped, hex4, hex3, hex2, hex1, closed, step, lexical_of}

-- ---- lexical states alone

pub end_append : (s : Start) (u v : List ℕ) → end_of s (u ++ v) ≡ end_of (end_of s u) v
end_append s [] v = refl
end_append s (b ∷ u) v = end_append (after_byte s b) u v

pub closes_cons : (s : Start) (b : ℕ) (u : List ℕ) → s ≢ Out → ClosesText (after_byte s b) u → ClosesText s (b ∷ u)
closes_cons s b u h k = grind arith

pub stays_append : (s : Start) (u v : List ℕ) → StaysInText s u → StaysInText (end_of s u) v → StaysInText s (u ++ v)
stays_append Out u v h k = absurd h
stays_append InString (b ∷ u) v h k = stays_append (after_byte InString b) u v h k
stays_append InEscape (b ∷ u) v h k = stays_append InString u v h k
stays_append _ [] v h k = k

pub stays_closes : (s : Start) (u v : List ℕ) → StaysInText s u → ClosesText (end_of s u) v → ClosesText s (u ++ v)
stays_closes Out u v h k = absurd h
stays_closes InString (b ∷ u) v h k = stays_closes (after_byte InString b) u v h k
stays_closes InEscape (b ∷ u) v h k = stays_closes InString u v h k
stays_closes _ [] v h k = k

pub stays_end : (s : Start) (u : List ℕ) → StaysInText s u → end_of s u ≢ Out
stays_end Out u h = absurd h
stays_end InString (b ∷ u) h = stays_end (after_byte InString b) u h
stays_end InEscape (b ∷ u) h = stays_end InString u h
stays_end _ [] h = λ e. cc

pub closes_end : (s : Start) (u : List ℕ) → ClosesText s u → end_of s u ≡ Out
closes_end Out [] h = refl
closes_end InString (b ∷ u) h = closes_end (after_byte InString b) u h
closes_end InEscape (b ∷ u) h = closes_end InString u h
closes_end _ _ h = absurd h

pub stays_start : (s : Start) → s ≢ Out → StaysInText s []
stays_start s h = grind arith

quiet_stays : (b : ℕ) → is_quiet b ≡ true → after_byte InString b ≡ InString
quiet_stays b h = let p : (b == 0x22) ≡ false = grind (arith, h) in let q : (b == 0x5C) ≡ false = grind (arith, h) in rw (q, p) refl

-- bytes that are no quote and no backslash stay in a string
pub quiet_text : (u : List ℕ) → AllByRecursion (λ b. IsTrue (is_quiet b)) u → StaysInText InString u × (end_of InString u ≡ InString)
quiet_text [] h = (tt, refl)
quiet_text (b ∷ u) (h, hs) = let e = quiet_stays b h in let (p, q) = quiet_text u hs in
    (subst (λ (s : Start). StaysInText s u) (sym e) p, ap (λ (s : Start). end_of s u) e ∙ q)

-- ---- the reader of a string

chosen : {X : Type 0} (c : Bool) (x y z : X) → cond c x y ≡ z → ((c ≡ true) × (x ≡ z)) ⊎ ((c ≡ false) × (y ≡ z))
chosen h = grind arith

lexical_is : (s t : State) → ◌≡◌ {A = Option State} (Some s) (Some t) → lexical_of s ≡ lexical_of t
lexical_is s t e = ap lexical_of (same_Some s t e)

none_is : {P : Type 0} (t : State) → ◌≡◌ {A = Option State} None (Some t) → P
none_is t e = absurd (none-some t e)

digit_step : (u t : State) (b : ℕ) → lexical_of u ≡ InString → cond (is_ascii_hexdigit b) (Some u) None ≡ Some t → after_byte InString b ≡ lexical_of t
digit_step u t b h k = grind arith

pub lexical_step : (q t : State) (b : ℕ) → step q b ≡ Some t → after_byte (lexical_of q) b ≡ lexical_of t
lexical_step opening t b e = grind arith
lexical_step inside t b e = grind arith
lexical_step escaped t b e = grind arith
lexical_step hex4 t b e = digit_step hex3 t b refl e
lexical_step hex3 t b e = digit_step hex2 t b refl e
lexical_step hex2 t b e = digit_step hex1 t b refl e
lexical_step hex1 t b e = digit_step inside t b refl e
lexical_step closed t b e = none_is t e

pub lexical_run : (q t : State) (u : List ℕ) → run step q u ≡ Some t → end_of (lexical_of q) u ≡ lexical_of t
lexical_run q t [] e = lexical_is q t e
lexical_run q t (b ∷ u) e = option_and_then_some (λ x. run step x u) (step q b) t e (λ x f g. ap (λ (s : Start). end_of s u) (lexical_step q x b f) ∙ lexical_run x t u g)

-- nothing goes on behind the closing quote
closed_ends : (t : State) (u : List ℕ) → run step closed u ≡ Some t → (u ≡ []) × (t ≡ closed)
closed_ends t [] e = (refl, sym (same_Some closed t e))
closed_ends t (b ∷ u) e = none_is t e

-- through which states the reader of a string comes behind its opening quote
abbrev pub is_within : State → Bool
is_within opening = false
is_within closed = false
is_within _ = true

within_next : (q t : State) (b : ℕ) → step q b ≡ Some t → is_within q ≡ true → (t ≡ closed) ⊎ (is_within t ≡ true)
within_next q t b h k = grind arith

pub within_no_out : (q : State) → is_within q ≡ true → lexical_of q ≢ Out
within_no_out q h = grind arith

-- the reader of a string closes it, or stays in it
abbrev pub Reaches : State → Start → List ℕ → Type 0
Reaches t s u = ((t ≡ closed) × ClosesText s u) ⊎ ((is_within t ≡ true) × StaysInText s u)

reaches_cons : (t : State) (s : Start) (b : ℕ) (u : List ℕ) → s ≢ Out → Reaches t (after_byte s b) u → Reaches t s (b ∷ u)
reaches_cons t s b u h k = grind arith

reaches : (q t : State) (u : List ℕ) → is_within q ≡ true → run step q u ≡ Some t → Reaches t (lexical_of q) u
reaches q t [] h e = inr (subst (λ (x : State). is_within x ≡ true) (same_Some q t e) h, stays_start (lexical_of q) (within_no_out q h))
reaches q t (b ∷ u) h e = option_and_then_some (λ x. run step x u) (step q b) t e (λ x f g.
    let n = within_no_out q h in
    let after : lexical_of x ≡ after_byte (lexical_of q) b = sym (lexical_step q x b f) in
    elim (within_next q x b f h) [
      | inl is ↦ (let ends = closed_ends t u (ap (λ (y : State). run step y u) (sym is) ∙ g) in
          let out : after_byte (lexical_of q) b ≡ Out = sym after ∙ ap lexical_of is in
          let P : Start → Type 0 = λ s. ClosesText s [] in
          let done : ClosesText (lexical_of q) (b ∷ []) = closes_cons (lexical_of q) b [] n (subst P (sym out) tt) in
          let Q : List ℕ → Type 0 = λ v. ClosesText (lexical_of q) (b ∷ v) in
          inl (ends.1, subst Q (sym ends.0) done))
      | inr is ↦ reaches_cons t (lexical_of q) b u n (subst (λ (s : Start). Reaches t s u) after (reaches x t u is g))
    ])

-- what the reader goes through behind the opening quote
pub read_text : (t : State) (u : List ℕ) → run step opening (0x22 ∷ u) ≡ Some t → Reaches t InString u
read_text t u e = reaches inside t u refl e

pub plain_run : (u : List ℕ) → AllByRecursion (λ b. IsTrue (is_plain b)) u → run step inside u ≡ Some inside
plain_run [] h = refl
plain_run (b ∷ u) (h, hs) = let p : (b == 0x22) ≡ false = grind (arith, h) in let q : (b == 0x5C) ≡ false = grind (arith, h) in
    let e : step inside b ≡ Some inside = ap (λ c. cond (b == 0x22) (Some closed) (cond (b == 0x5C) (Some escaped) (cond c (Some inside) None))) h ∙ rw (p, q) refl in
    ap (option_and_then (λ x. run step x u)) e ∙ plain_run u hs

-- two parts that the reader goes through, one after the other
pub run_on : {S : Type 0} (next : S → ℕ → Option S) (s t x : S) (u v : List ℕ) → run next s u ≡ Some t → run next t v ≡ Some x → run next s (u ++ v) ≡ Some x
run_on next s t x [] v e f = ap (λ y. run next y v) (same_Some s t e) ∙ f
run_on next s t x (b ∷ u) v e f = option_and_then_some (λ y. run next y u) (next s b) t e (λ y g h. ap (option_and_then (λ z. run next z (u ++ v))) g ∙ run_on next y t x u v h f)

-- ---- one byte or more of a string that is begun

one_more : (w : List ℕ) (n : ℕ) → n < length w → take (n + 1) w ≡ take n w ++ slice_index w n ∷ []
one_more w n h = rw (add-one n, take-suc w n 0 h) refl

pub string_left : (s : Start) → s ≢ Out → s ≢ InEscape → s ≡ InString
string_left s h k = grind arith

abbrev pub IsIn : Start → List ℕ → Start → Type 0
IsIn s u t = StaysInText s u × (t ≡ end_of s u)

in_more : (s t : Start) (u v : List ℕ) → IsIn s u t → StaysInText t v → IsIn s (u ++ v) (end_of t v)
in_more s t u v (h, e) k = (stays_append s u v h (subst (λ (x : Start). StaysInText x v) e k), ap (λ (x : Start). end_of x v) e ∙ sym (end_append s u v))

pub text_escaped : (s : Start) (w : List ℕ) (n : ℕ) → n < length w → IsIn s (take n w) InEscape → IsIn s (take (n + 1) w) InString
text_escaped s w n h k = let P : List ℕ → Type 0 = λ v. IsIn s v InString in subst P (sym (one_more w n h)) (in_more s InEscape (take n w) (slice_index w n ∷ []) k tt)

pub text_quiet : (s : Start) (w : List ℕ) (n k : ℕ) → IsIn s (take n w) InString → IsFront is_quiet (drop n w) k → IsIn s (take (n + k) w) InString
text_quiet s w n k h f = let (stays, same) = quiet_text (take k (drop n w)) (front_all is_quiet (drop n w) k f) in
    let P : List ℕ → Type 0 = λ v. IsIn s v InString in
    let Q : Start → Type 0 = λ t. IsIn s (take n w ++ take k (drop n w)) t in
    subst P (sym (take-add n k w)) (subst Q same (in_more s InString (take n w) (take k (drop n w)) h stays))

pub text_slashed : (s : Start) (w : List ℕ) (n : ℕ) → n < length w → IsIn s (take n w) InString → slice_index w n ≡ 0x5C → IsIn s (take (n + 1) w) InEscape
text_slashed s w n h k e = let P : List ℕ → Type 0 = λ v. IsIn s v InEscape in
    let all : take (n + 1) w ≡ take n w ++ 0x5C ∷ [] = one_more w n h ∙ ap (λ b. take n w ++ b ∷ []) e in
    subst P (sym all) (in_more s InString (take n w) (0x5C ∷ []) k tt)

pub text_closed : (s : Start) (w : List ℕ) (n : ℕ) → n < length w → IsIn s (take n w) InString → slice_index w n ≡ 0x22 → ClosesText s (take (n + 1) w)
text_closed s w n h k l = grind (arith, one_more, stays_closes)

pub loud_byte : (b : ℕ) → is_quiet b ≡ false → b ≢ 0x22 → b ≡ 0x5C
loud_byte b h n = grind (arith, h, n)

-- past the bytes that are no quote and no backslash
pub quiet_part : (s t : Start) (w : List ℕ) (n k : ℕ) → IsIn s (take n w) t → t ≢ InEscape → IsFront is_quiet (take (length w - n) (drop n w)) k
    → IsIn s (take (n + k) w) InString × (t ≡ InString)
quiet_part s t w n k (h, e) not_escape f =
    let is : t ≡ InString = string_left t (λ q. stays_end s (take n w) h (sym e ∙ q)) not_escape in
    (text_quiet s w n k (h, sym is ∙ e) (front_behind is_quiet w n k f), is)

-- the byte behind them is loud
pub quiet_stops : (w : List ℕ) (n k : ℕ) → n ≤ length w → n + k < length w → IsFront is_quiet (take (length w - n) (drop n w)) k → is_quiet (slice_index w (n + k)) ≡ false
quiet_stops w n k fits h f = ap is_quiet (sym (get_or-drop n w k 0)) ∙ (front_behind is_quiet w n k f).stops (omega (arith, length-drop n w))
