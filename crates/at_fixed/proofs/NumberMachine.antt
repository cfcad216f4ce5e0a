-- A machine for the numbers of JSON and of WKT, and that it is one for their grammars.
-- For `json_number`, `leading_number`, `plain_len`, `plain_number`, `read_fixed` and `wkt_number`.
use Rattle.std.proofs.Common.{◌≡◌, ℕ, ◌⊎◌, inl, inr, ◌↔◌, List, [], ◌∷◌, ◌++◌, Option, Some, None, IfSome, IsTrue, Bool, true, false, cond, refl, sym, ◌∙◌, ap, subst, arith, true≢false, ◌<◌, ◌≤◌, length, take, slice_index}
use Rattle.std.proofs.lemmas.Option.{same_Some}
use Rattle.std.specs.Bool.{⊤}
use Rattle.at_text.specs.Texts.{is_digit, is_one_of}
use Rattle.at_text.specs.Prefix.{TakesLongest}
use Rattle.at_text.proofs.Machine.{IsMachine, run, longest_at, TakesLongest-same}
use Rattle.at_fixed.specs.declared.notation.Notation.{Notation}
use Rattle.at_fixed.specs.declared.notation.Notation.TheVariants.{Json, Wkt}
use Rattle.at_fixed.specs.Numerals.{Exponent, fraction_text, exponent_text, IsAtMostOneOf, AreDigits, AreSomeDigits, IsExponent, IsJsonWhole, JsonNumber, AreWktDigits, WktNumber, NumberOf}
use Rattle.at_fixed.specs.States.{State, start, signed, zero_digit, whole, point, fraction, letter, power_sign, power, is_letter, is_sign, is_first_digit, behind_digits, step, accepts}

-- what may follow, cell by cell
abbrev pub Rest : Notation → State → List ℕ → Type 0
Rest Json start (b ∷ w) = ((b ≡ 0x2D) × Rest Json signed w) ⊎ (((b ≡ 0x30) × Rest Json zero_digit w) ⊎ ((is_first_digit b ≡ true) × Rest Json whole w))
Rest Wkt start (b ∷ w) = ((is_sign b ≡ true) × Rest Wkt signed w) ⊎ (((is_digit b ≡ true) × Rest Wkt whole w) ⊎ ((b ≡ 0x2E) × Rest Wkt point w))
Rest Json signed (b ∷ w) = ((b ≡ 0x30) × Rest Json zero_digit w) ⊎ ((is_first_digit b ≡ true) × Rest Json whole w)
Rest Wkt signed (b ∷ w) = ((is_digit b ≡ true) × Rest Wkt whole w) ⊎ ((b ≡ 0x2E) × Rest Wkt point w)
Rest g zero_digit [] = ⊤
Rest g zero_digit (b ∷ w) = ((b ≡ 0x2E) × Rest g (behind_digits g) w) ⊎ ((is_letter b ≡ true) × Rest g letter w)
Rest g whole [] = ⊤
Rest g whole (b ∷ w) = ((is_digit b ≡ true) × Rest g whole w) ⊎ (((b ≡ 0x2E) × Rest g (behind_digits g) w) ⊎ ((is_letter b ≡ true) × Rest g letter w))
Rest g point (b ∷ w) = (is_digit b ≡ true) × Rest g fraction w
Rest g fraction [] = ⊤
Rest g fraction (b ∷ w) = ((is_digit b ≡ true) × Rest g fraction w) ⊎ ((is_letter b ≡ true) × Rest g letter w)
Rest g letter (b ∷ w) = ((is_digit b ≡ true) × Rest g power w) ⊎ ((is_sign b ≡ true) × Rest g power_sign w)
Rest g power_sign (b ∷ w) = (is_digit b ≡ true) × Rest g power w
Rest g power [] = ⊤
Rest g power (b ∷ w) = (is_digit b ≡ true) × Rest g power w
Rest _ _ [] = ⊥

-- ---- tests

pub one_of_two : (x y b : ℕ) → is_one_of (x ∷ y ∷ []) b ≡ true → (b ≡ x) ⊎ (b ≡ y)
one_of_two x y b h = grind (arith, h)

pub letter_is : (P : ℕ → Type 0) → P 0x65 → P 0x45 → (b : ℕ) → is_letter b ≡ true → P b
letter_is P p q b h = elim (one_of_two 0x65 0x45 b h) [ inl e ↦ subst P (sym e) p | inr e ↦ subst P (sym e) q ]

pub sign_is : (P : ℕ → Type 0) → P 0x2B → P 0x2D → (b : ℕ) → is_sign b ≡ true → P b
sign_is P p q b h = elim (one_of_two 0x2B 0x2D b h) [ inl e ↦ subst P (sym e) p | inr e ↦ subst P (sym e) q ]

-- ---- the machine is one

moved : (g : Notation) (s t : State) (w : List ℕ) → ◌≡◌ {A = Option State} (Some s) (Some t) → Rest g t w → Rest g s w
moved g s t w f r = let P : State → Type 0 = λ x. Rest g x w in subst P (sym (same_Some s t f)) r

letter_at : (g : Notation) (s : State) (b : ℕ) → step g s 0x65 ≡ Some letter → step g s 0x45 ≡ Some letter → is_letter b ≡ true → step g s b ≡ Some letter
letter_at g s b p q h = letter_is (λ c. step g s c ≡ Some letter) p q b h

goes : (g : Notation) (s : State) (b : ℕ) (w : List ℕ) → Rest g s (b ∷ w) → (t : State) × (step g s b ≡ Some t) × Rest g t w
goes g s b w h = grind arith

-- the test holds and leads to s, or it does not and the other way is taken
by_test : (g : Notation) (c : Bool) (s t : State) (o : Option State) (w : List ℕ) → cond c (Some s) o ≡ Some t → Rest g t w → ((c ≡ true) × Rest g s w) ⊎ (o ≡ Some t)
by_test g c s t o w h k = grind arith

by_last : (g : Notation) (c : Bool) (s t : State) (w : List ℕ) → cond c (Some s) None ≡ Some t → Rest g t w → (c ≡ true) × Rest g s w
by_last g c s t w h k = grind arith

comes : (g : Notation) (s t : State) (b : ℕ) (w : List ℕ) → step g s b ≡ Some t → Rest g t w → Rest g s (b ∷ w)
comes g s t b w h k = grind arith

yes : {P : Type 0} → P → P ↔ IsTrue true
yes p = ((λ _. refl), (λ _. p))

no : ⊥ ↔ IsTrue false
no = ((λ x. absurd x), (λ e. true≢false (sym e)))

ends : (g : Notation) (s : State) → Rest g s [] ↔ IsTrue (accepts s)
ends g s = grind arith

lives : (g : Notation) (s : State) → (w : List ℕ) × Rest g s w
lives Json start = (0x30 ∷ [], inr (inl (refl, tt)))
lives Wkt start = (0x30 ∷ [], inr (inl (refl, tt)))
lives Json signed = (0x30 ∷ [], inl (refl, tt))
lives Wkt signed = (0x30 ∷ [], inl (refl, tt))
lives g point = (0x30 ∷ [], (refl, tt))
lives g letter = (0x30 ∷ [], inl (refl, tt))
lives g power_sign = (0x30 ∷ [], (refl, tt))
lives g _ = ([], tt)

pub machine : (g : Notation) → IsMachine (Rest g) (step g) accepts
machine g = record { ends = ends g; goes = goes g; comes = comes g; lives = lives g }

-- ---- a number is what may follow at the start

power_of : (g : Notation) (w : List ℕ) → AreDigits w → Rest g power w
power_of g [] h = tt
power_of g (b ∷ w) (h, hs) = (h, power_of g w hs)

power_sign_of : (g : Notation) (w : List ℕ) → AreSomeDigits w → Rest g power_sign w
power_sign_of g w h = grind (arith, power_of)

letter_of : (g : Notation) (s w : List ℕ) → IsAtMostOneOf (0x2B ∷ 0x2D ∷ []) s → AreSomeDigits w → Rest g letter (s ++ w)
letter_of g [] [] p h = h
letter_of g [] (b ∷ w) p (h, hs) = inl (h, power_of g w hs)
letter_of g (c ∷ []) w p h = inr (p, power_sign_of g w h)
letter_of g (c ∷ d ∷ s) w p h = absurd p

fraction_of : (g : Notation) (ds : List ℕ) (e : Option Exponent) → AreDigits ds → IfSome e IsExponent → Rest g fraction (ds ++ exponent_text e)
fraction_of g [] None h p = tt
fraction_of g [] (Some e) h p = inr (p.letter, letter_of g e.sign e.digits p.sign p.digits)
fraction_of g (b ∷ ds) e (h, hs) p = inl (h, fraction_of g ds e hs p)

-- the digits that a notation lets stand behind a point with digits before it
abbrev IsFraction : Notation → List ℕ → Type 0
IsFraction Json ds = AreSomeDigits ds
IsFraction Wkt ds = AreDigits ds

behind_of : (g : Notation) (ds : List ℕ) (e : Option Exponent) → IsFraction g ds → IfSome e IsExponent → Rest g (behind_digits g) (ds ++ exponent_text e)
behind_of g ds e h k = grind (arith, fraction_of)

zero_of : (g : Notation) (f : Option (List ℕ)) (e : Option Exponent) → IfSome f (IsFraction g) → IfSome e IsExponent → Rest g zero_digit (fraction_text f ++ exponent_text e)
zero_of g f e h k = grind (arith, letter_of, behind_of)

widened : (g : Notation) (w : List ℕ) → Rest g zero_digit w → Rest g whole w
widened g [] r = tt
widened g (b ∷ w) r = inr r

whole_of : (g : Notation) (ds : List ℕ) (f : Option (List ℕ)) (e : Option Exponent) → AreDigits ds → IfSome f (IsFraction g) → IfSome e IsExponent → Rest g whole (ds ++ (fraction_text f ++ exponent_text e))
whole_of g [] f e h q p = widened g _ (zero_of g f e q p)
whole_of g (b ∷ ds) f e (h, hs) q p = inl (h, whole_of g ds f e hs q p)

json_signed_of : (ds : List ℕ) (f : Option (List ℕ)) (e : Option Exponent) → IsJsonWhole ds → IfSome f AreSomeDigits → IfSome e IsExponent → Rest Json signed (ds ++ (fraction_text f ++ exponent_text e))
json_signed_of ds f e h k l = grind (arith, zero_of, whole_of)

point_of : (g : Notation) (ds : List ℕ) (e : Option Exponent) → AreSomeDigits ds → IfSome e IsExponent → Rest g point (ds ++ exponent_text e)
point_of g ds e h k = grind (arith, fraction_of)

wkt_signed_of : (ds : List ℕ) (f : Option (List ℕ)) (e : Option Exponent) → AreWktDigits ds f → IfSome e IsExponent → Rest Wkt signed (ds ++ (fraction_text f ++ exponent_text e))
wkt_signed_of ds f e h k = grind (arith, point_of, whole_of)

json_start_of : (s w : List ℕ) → IsAtMostOneOf (0x2D ∷ []) s → Rest Json signed w → Rest Json start (s ++ w)
json_start_of [] [] h r = r
json_start_of [] (b ∷ w) h r = inr r
json_start_of (c ∷ []) w h r = inl (grind (arith, h), r)
json_start_of (c ∷ d ∷ s) w h r = absurd h

wkt_start_of : (s w : List ℕ) → IsAtMostOneOf (0x2B ∷ 0x2D ∷ []) s → Rest Wkt signed w → Rest Wkt start (s ++ w)
wkt_start_of [] [] h r = r
wkt_start_of [] (b ∷ w) h r = inr r
wkt_start_of (c ∷ []) w h r = inl (h, r)
wkt_start_of (c ∷ d ∷ s) w h r = absurd h

-- ---- what may follow at the start is a number

power_from : (g : Notation) (w : List ℕ) → Rest g power w → AreDigits w
power_from g [] r = tt
power_from g (b ∷ w) (h, r) = (h, power_from g w r)

power_sign_from : (g : Notation) (w : List ℕ) → Rest g power_sign w → AreSomeDigits w
power_sign_from g w h = grind (arith, power_from)

exponent_from : (g : Notation) (b : ℕ) (w : List ℕ) → is_letter b ≡ true → Rest g letter w → (e : Exponent) × IsExponent e × (b ∷ w ≡ exponent_text (Some e))
exponent_from g b [] h r = absurd r
exponent_from g b (c ∷ w) h (inl (d, r)) = (record { letter = b; sign = []; digits = c ∷ w }, record { letter = h; sign = tt; digits = (d, power_from g w r) }, refl)
exponent_from g b (c ∷ w) h (inr (s, r)) = (record { letter = b; sign = c ∷ []; digits = w }, record { letter = h; sign = s; digits = power_sign_from g w r }, refl)

abbrev FractionParts : List ℕ → Type 0
FractionParts w = (ds : List ℕ) × (e : Option Exponent) × AreDigits ds × IfSome e IsExponent × (w ≡ ds ++ exponent_text e)

abbrev Tail : Notation → List ℕ → Type 0
Tail g w = (f : Option (List ℕ)) × (e : Option Exponent) × IfSome f (IsFraction g) × IfSome e IsExponent × (w ≡ fraction_text f ++ exponent_text e)

abbrev WholeParts : Notation → List ℕ → Type 0
WholeParts g w = (ds v : List ℕ) × AreDigits ds × Tail g v × (w ≡ ds ++ v)

fraction_from : (g : Notation) (w : List ℕ) → Rest g fraction w → FractionParts w
fraction_from g [] r = ([], None, tt, tt, refl)
fraction_from g (b ∷ w) (inl (h, r)) = let (ds, e, hs, p, eq) = fraction_from g w r in (b ∷ ds, e, (h, hs), p, ap (λ x. b ∷ x) eq)
fraction_from g (b ∷ w) (inr (h, r)) = let (e, p, eq) = exponent_from g b w h r in ([], Some e, tt, p, eq)

behind_from : (g : Notation) (b : ℕ) (w : List ℕ) → b ≡ 0x2E → Rest g (behind_digits g) w → Tail g (b ∷ w)
behind_from Json b [] h r = absurd r
behind_from Json b (c ∷ w) h (d, r) = let (ds, e, hs, p, eq) = fraction_from Json w r in
    (Some (c ∷ ds), e, (d, hs), p, ap (λ x. x ∷ c ∷ w) h ∙ ap (λ x. 0x2E ∷ c ∷ x) eq)
behind_from Wkt b w h r = let (ds, e, hs, p, eq) = fraction_from Wkt w r in
    (Some ds, e, hs, p, ap (λ x. x ∷ w) h ∙ ap (λ x. 0x2E ∷ x) eq)

zero_from : (g : Notation) (w : List ℕ) → Rest g zero_digit w → Tail g w
zero_from g [] r = (None, None, tt, tt, refl)
zero_from g (b ∷ w) (inl (h, r)) = behind_from g b w h r
zero_from g (b ∷ w) (inr (h, r)) = let (e, p, eq) = exponent_from g b w h r in (None, Some e, tt, p, eq)

whole_from : (g : Notation) (w : List ℕ) → Rest g whole w → WholeParts g w
whole_from g [] r = ([], [], tt, zero_from g [] tt, refl)
whole_from g (b ∷ w) (inl (h, r)) = let (ds, v, hs, t, eq) = whole_from g w r in (b ∷ ds, v, (h, hs), t, ap (λ x. b ∷ x) eq)
whole_from g (b ∷ w) (inr r) = ([], b ∷ w, tt, zero_from g (b ∷ w) r, refl)

json_from : (s ds w : List ℕ) → IsAtMostOneOf (0x2D ∷ []) s → IsJsonWhole ds → Tail Json w → JsonNumber (s ++ (ds ++ w))
json_from s ds w h d (f, e, p, q, eq) =
    (record { sign = s; whole = ds; fraction = f; exponent = e }, record { sign = h; whole = d; fraction = p; exponent = q }, ap (λ x. s ++ (ds ++ x)) eq)

json_signed_from : (s w : List ℕ) → IsAtMostOneOf (0x2D ∷ []) s → Rest Json signed w → JsonNumber (s ++ w)
json_signed_from s [] h r = absurd r
json_signed_from s (b ∷ w) h (inl (e, r)) = json_from s (b ∷ []) w h (inl (e, refl)) (zero_from Json w r)
json_signed_from s (b ∷ w) h (inr (d, r)) = let (ds, v, hs, t, eq) = whole_from Json w r in
    subst (λ x. JsonNumber (s ++ (b ∷ x))) (sym eq) (json_from s (b ∷ ds) v h (inr (d, hs)) t)

wkt_from : (s : List ℕ) (b : ℕ) (ds w : List ℕ) → IsAtMostOneOf (0x2B ∷ 0x2D ∷ []) s → AreDigits (b ∷ ds) → Tail Wkt w → WktNumber (s ++ (b ∷ ds ++ w))
wkt_from s b ds w h d (f, e, p, q, eq) =
    (record { sign = s; whole = b ∷ ds; fraction = f; exponent = e }, record { sign = h; digits = (d, p); exponent = q }, ap (λ x. s ++ (b ∷ ds ++ x)) eq)

wkt_point_from : (s : List ℕ) (b : ℕ) (w : List ℕ) → IsAtMostOneOf (0x2B ∷ 0x2D ∷ []) s → b ≡ 0x2E → Rest Wkt point w → WktNumber (s ++ (b ∷ w))
wkt_point_from s b [] h eb r = absurd r
wkt_point_from s b (c ∷ w) h eb (d, r) = let (ds, e, hs, p, eq) = fraction_from Wkt w r in (
  record { sign = s; whole = []; fraction = Some (c ∷ ds); exponent = e },
  record { sign = h; digits = (d, hs); exponent = p },
  ap (λ x. s ++ (x ∷ c ∷ w)) eb ∙ ap (λ x. s ++ (0x2E ∷ c ∷ x)) eq,
)

wkt_signed_from : (s w : List ℕ) → IsAtMostOneOf (0x2B ∷ 0x2D ∷ []) s → Rest Wkt signed w → WktNumber (s ++ w)
wkt_signed_from s [] h r = absurd r
wkt_signed_from s (b ∷ w) h (inl (d, r)) = let (ds, v, hs, t, eq) = whole_from Wkt w r in
    subst (λ x. WktNumber (s ++ (b ∷ x))) (sym eq) (wkt_from s b ds v h (d, hs) t)
wkt_signed_from s (b ∷ w) h (inr (e, r)) = wkt_point_from s b w h e r

number_from : (g : Notation) (w : List ℕ) → Rest g start w → NumberOf g w
number_from Json (b ∷ w) (inl (e, r)) = json_signed_from (b ∷ []) w (rw e refl) r
number_from Json (b ∷ w) (inr r) = json_signed_from [] (b ∷ w) tt r
number_from Wkt (b ∷ w) (inl (h, r)) = wkt_signed_from (b ∷ []) w h r
number_from Wkt (b ∷ w) (inr r) = wkt_signed_from [] (b ∷ w) tt r
number_from _ [] r = absurd r

number_of : (g : Notation) (w : List ℕ) → NumberOf g w → Rest g start w
number_of g w h = grind (arith, json_start_of, json_signed_of, wkt_start_of, wkt_signed_of)

pub start-number : (g : Notation) (w : List ℕ) → Rest g start w ↔ NumberOf g w
start-number g w = (number_from g w, number_of g w)

-- what a reader that follows the machine answers where it stops
pub number_at : (g : Notation) (s : State) (w : List ℕ) (n : ℕ) → n ≤ length w → run (step g) start (take n w) ≡ Some s
    → (n < length w → step g s (slice_index w n) ≡ None) → TakesLongest (NumberOf g) w (record { len = n; whole = accepts s })
number_at g s w n h e stops = TakesLongest-same (Rest g start) (NumberOf g) w (record { len = n; whole = accepts s }) (start-number g) (longest_at (machine g) start s w n h e stops)
