-- Positions: two numbers, further ones, and the delimiter behind them.
-- For `read_line`, `read_geometry` and `Room::check_line`: the grammar of positions, read on.
use Rattle.std.proofs.Common.{IsTrue, ◌≡◌, ◌≢◌, ℕ, zero, suc, ◌+◌, ◌-◌, ◌<◌, ◌⊎◌, inl, inr, Bool, true, false, ◌||◌, List, [], ◌∷◌, ◌++◌, length, codes, Option, Some, None, refl, sym, ◌∙◌, ap, subst, arith, append_assoc, length-append, true≢false}
use Rattle.std.proofs.ByRecursion.{All-append}
use Rattle.at_wkt.proofs.Names.{is_digit, is_one_of, ◌▸◌, Numeral, fraction_text, exponent_text, numeral_text, IsAtMostOneOf, AreWktDigits, IsWktNumeral, WktNumber, Dimension, is_blank, SpellsNumber, SpellsFurther, between, next, Allows, Stuck, Leads, SkipsBlanks, NumberBreaks, NumberSkips, delimiter, Delimiter, FurtherNumbers, Reaches, is_delimiter}
use Rattle.at_fixed.proofs.DigitParts.{part-length}
use Rattle.at_wkt.proofs.Leads.{offset, Ahead, Begins, Inhabited, leads_ahead}
use Rattle.at_wkt.proofs.Steps.{Then, no_blank, AreBlanks, one_blanks, one_byte}
use Rattle.at_wkt.proofs.NumberSteps.{Number, stops_number, ends_there, front_viable}

-- ---- first bytes

-- the bytes that numbers begin with
abbrev pub begins_number : ℕ → Bool
begins_number b = is_digit b || is_one_of (0x2B ∷ 0x2D ∷ 0x2E ∷ []) b

pub delimiter_is : (last : Bool) → is_delimiter (delimiter last) ≡ true
delimiter_is true = refl
delimiter_is false = refl

pub delimiter_no_blank : (last : Bool) → no_blank (delimiter last) ≡ true
delimiter_no_blank true = refl
delimiter_no_blank false = refl

delimiter_stops : (last : Bool) → stops_number (delimiter last) ≡ true
delimiter_stops true = refl
delimiter_stops false = refl

pub blank_stops : (b : ℕ) → is_blank b ≡ true → stops_number b ≡ true
blank_stops b h = grind (arith, h)

pub begin_no_blank : (b : ℕ) → begins_number b ≡ true → no_blank b ≡ true
begin_no_blank b h = grind (arith, h)

begin_no_delimiter : (b : ℕ) → begins_number b ≡ true → is_delimiter b ≡ false
begin_no_delimiter b h = grind (arith, h)

sign_begins : (b : ℕ) → is_one_of (0x2B ∷ 0x2D ∷ []) b ≡ true → begins_number b ≡ true
sign_begins b h = grind (arith, h)

digit_begins : (b : ℕ) → is_digit b ≡ true → begins_number b ≡ true
digit_begins b h = grind (arith, h)

-- the bytes begin with one that begins numbers
abbrev pub FirstOfNumber : List ℕ → Type 0
FirstOfNumber w = (b : ℕ) × (t : List ℕ) × (w ≡ b ∷ t) × (begins_number b ≡ true)

front_first : (whole : List ℕ) (f : Option (List ℕ)) (rest : List ℕ) → AreWktDigits whole f → FirstOfNumber (whole ++ (fraction_text f ++ rest))
front_first [] None rest h = absurd h
front_first [] (Some ds) rest h = (0x2E, ds ++ rest, refl, refl)
front_first (b ∷ w) f rest ((h, hs), k) = (b, w ++ (fraction_text f ++ rest), refl, digit_begins b h)

signed_first : (s w : List ℕ) → IsAtMostOneOf (0x2B ∷ 0x2D ∷ []) s → FirstOfNumber w → FirstOfNumber (s ++ w)
signed_first [] w h k = k
signed_first (b ∷ []) w h k = (b, w, refl, sign_begins b h)
signed_first (b ∷ c ∷ s) w h k = absurd h

pub number_first : (n : Numeral) → IsWktNumeral n → FirstOfNumber (numeral_text n)
number_first n h = signed_first n.sign _ h.sign (front_first n.whole n.fraction (exponent_text n.exponent) h.digits)

pub number_begins : {Y : Type 0} (Q : Numeral × ℕ → ℕ → Y → ℕ → List ℕ → Type 0) → Begins begins_number (Then Number Q)
number_begins Q d p at v (a, b, e, (ei, (hn, en)), q) =
    let (x, t, f, h) = number_first p.0.0 hn in
    (x, t ++ b, e ∙ ap (λ z. z ++ b) (en ∙ f), h)

-- ---- one number of one digit

abbrev pub nought : Numeral
nought = record { sign = []; whole = codes "0"; fraction = None; exponent = None }

pub nought_numeral : IsWktNumeral nought
nought_numeral = record { sign = tt; digits = ((refl, tt), tt); exponent = tt }

-- ---- further numbers

-- what a word of further numbers is: blanks, and then the delimiter or a number
pub record FurtherWord (k d : ℕ) (v : List ℕ) : Type 0 where
  pub blanks : List ℕ
  pub byte : ℕ
  pub rest : List ℕ
  pub text : v ≡ blanks ++ (byte ∷ rest)
  pub are_blanks : AreBlanks blanks
  pub is_none : no_blank byte ≡ true
  pub cases : ((is_delimiter byte ≡ true) × (k ≡ d)) ⊎ ((is_delimiter byte ≡ false) × (k < d) × (blanks ≢ []))

pub further_word : (k d : ℕ) (last : Bool) (at : ℕ) (v : List ℕ) → FurtherNumbers k d last at v → FurtherWord k d v
further_word k d last at v ([], en, (a, b, e, none, (x, y, f, hx, hy))) = record {
  blanks = x;
  byte = delimiter last;
  rest = [];
  text = e ∙ (ap (λ z. z ++ b) none ∙ (f ∙ ap (λ z. x ++ z) hy));
  are_blanks = hx;
  is_none = delimiter_no_blank last;
  cases = inl (delimiter_is last, omega (arith, en));
}
further_word k d last at v (n ∷ ns, en, (a, b, e, (x, y, f, hx, (num, s, g, (hn, tn), more)), q)) =
    let (c, t, tf, hc) = number_first n hn in
    record {
      blanks = x;
      byte = c;
      rest = t ++ (s ++ b);
      text = e ∙ (ap (λ z. z ++ b) (f ∙ ap (λ z. x ++ z) (g ∙ ap (λ z. z ++ s) (tn ∙ tf))) ∙ (append_assoc x ((c ∷ t) ++ s) b ∙ ap (λ z. x ++ (c ∷ z)) (append_assoc t s b)));
      are_blanks = hx.1;
      is_none = begin_no_blank c hc;
      cases = inr (begin_no_delimiter c hc, omega (arith, en), hx.0);
    }

pub further_begins : (k : ℕ) → Begins stops_number (FurtherNumbers k)
further_begins k d last at v h = go (further_word k d last at v h) where
  first_of_word : (b : ℕ) (x t : List ℕ) → AreBlanks x → (stops_number b ≡ true) ⊎ (x ≢ []) → (y : ℕ) × (u : List ℕ) × (x ++ (b ∷ t) ≡ y ∷ u) × (stops_number y ≡ true)
  first_of_word b [] t h (inl s) = (b, t, refl, s)
  first_of_word b [] t h (inr no_one) = absurd (no_one refl)
  first_of_word b (y ∷ ys) t (h, hs) s = (y, ys ++ (b ∷ t), refl, blank_stops y h)

  stop_of : (b : ℕ) → is_delimiter b ≡ true → stops_number b ≡ true
  stop_of b h = grind (arith, h)

  go : FurtherWord k d v → (y : ℕ) × (u : List ℕ) × (v ≡ y ∷ u) × (stops_number y ≡ true)
  go f =
      let s : (stops_number f.byte ≡ true) ⊎ (f.blanks ≢ []) = elim f.cases [ inl (h, e) ↦ inl (stop_of f.byte h) | inr (h, e, n) ↦ inr n ] in
      let (y, u, e, p) = first_of_word f.byte f.blanks f.rest f.are_blanks s in (y, u, f.text ∙ e, p)

-- ---- words of further numbers

abbrev pub AnyNumber : ℕ → List ℕ → Type 0
AnyNumber at w = WktNumber w

-- a number whose value isn't used, and then a part
abbrev pub Skipped : {Y : Type 0} → (ℕ → Y → ℕ → List ℕ → Type 0) → ℕ → Y → ℕ → List ℕ → Type 0
Skipped Q d y = AnyNumber ▸ Q d y

pub further_more : (k d : ℕ) (last : Bool) (at : ℕ) (a v : List ℕ) → a ≢ [] → AreBlanks a → Skipped (FurtherNumbers (k + 1)) d last (at + length a) v → FurtherNumbers k d last at (a ++ v)
further_more k d last at a v some ha (x, y, e, (n, hn, en), (ns, el, (s, t, f, hs, q))) =
    let place : ((at + length a) + length x) + length s ≡ at + length (a ++ (x ++ s)) = omega (arith, length-append a (x ++ s), length-append x s) in (
      n ∷ ns,
      omega (arith, el),
      (
        a ++ (x ++ s),
        t,
        ap (λ z. a ++ z) (e ∙ (ap (λ z. x ++ z) f ∙ sym (append_assoc x s t))) ∙ sym (append_assoc a (x ++ s) t),
        (a, x ++ s, refl, (some, ha), (x, s, refl, (hn, en), hs)),
        subst (λ o. Delimiter d last o t) place q,
      ),
    )

pub further_pad : (k d : ℕ) (last : Bool) (at : ℕ) (a v : List ℕ) → AreBlanks a → FurtherNumbers k d last (at + length a) v → FurtherNumbers k d last at (a ++ v)
further_pad k d last at a v ha ([], en, (x, y, e, none, (b, z, f, hb, hz))) =
    ([], en, ([], a ++ v, refl, refl, (a ++ b, z, ap (λ u. a ++ u) (e ∙ (ap (λ u. u ++ y) none ∙ f)) ∙ sym (append_assoc a b z), All-append (λ b. IsTrue (is_blank b)) a b ha hb, hz)))
further_pad k d last at a v ha (n ∷ ns, en, (x, y, e, (b, z, f, (some, hb), more), q)) =
    let one : (at + length a) + length b ≡ at + length (a ++ b) = omega (arith, length-append a b) in
    let two : (at + length a) + length x ≡ at + length (a ++ x) = omega (arith, length-append a x) in (
      n ∷ ns,
      en,
      (
        a ++ x,
        y,
        ap (λ u. a ++ u) e ∙ sym (append_assoc a x y),
        (a ++ b, z, ap (λ u. a ++ u) f ∙ sym (append_assoc a b z), ((λ none. some (append_none a b none)), All-append (λ b. IsTrue (is_blank b)) a b ha hb), subst (λ o. (SpellsNumber n ▸ SpellsFurther ns) o z) one more),
        subst (λ o. Delimiter d last o y) two q,
      ),
    ) where
      append_none : (a b : List ℕ) → a ++ b ≡ [] → b ≡ []
      append_none [] b e = e
      append_none (c ∷ a) b e = cc

-- a word of further numbers where positions have d, at least k
pub further_lives : (m k d : ℕ) → k + m ≡ d → (last : Bool) (at : ℕ) → (v : List ℕ) × FurtherNumbers k d last at v
further_lives zero k d e last at = (delimiter last ∷ [], ([], e, ([], delimiter last ∷ [], refl, refl, ([], delimiter last ∷ [], refl, tt, refl))))
further_lives (suc m) k d e last at =
    let (v, q) = further_lives m (k + 1) d (omega (arith, e)) last (at + 1 + 1) in
    (0x20 ∷ (0x30 ∷ v), further_more k d last at (0x20 ∷ []) (0x30 ∷ v) (λ none. cc) (refl, tt) (0x30 ∷ [], v, refl, (nought, nought_numeral, refl), q))

pub further_inhabited : Inhabited (FurtherNumbers 2)
further_inhabited d at (low, high) = let (v, q) = further_lives (d - 2) 2 d (omega arith) true at in (true, v, q)

-- ---- reading on

module _ (base : ℕ) (w : List ℕ) (j m : ℕ) (c : Dimension) (k : ℕ) (skips : SkipsBlanks w j m) where
  -- a word that agrees with the text has its blanks, and then its byte
  pub further_agrees : (d : ℕ) (last : Bool) (at : ℕ) (v r s : List ℕ) → FurtherNumbers k d last at v → Ahead w m s → v ++ r ≡ between w j m ++ s
      → ((is_delimiter (next w m) ≡ true) × (k ≡ d)) ⊎ ((is_delimiter (next w m) ≡ false) × (k < d) × (between w j m ≢ []))
  further_agrees d last at v r s q (t, es) e =
      let f = further_word k d last at v q in
      let line : f.blanks ++ (f.byte ∷ (f.rest ++ r)) ≡ between w j m ++ (next w m ∷ t) = sym (append_assoc f.blanks (f.byte ∷ f.rest) r) ∙ (ap (λ z. z ++ r) (sym f.text) ∙ (e ∙ ap (λ z. between w j m ++ z) es)) in
      let (same, byte, rest) = one_byte f.blanks (between w j m) f.byte (next w m) (f.rest ++ r) t f.are_blanks skips.blanks f.is_none skips.stops line in
      let P : ℕ → List ℕ → Type 0 = λ b x. ((is_delimiter b ≡ true) × (k ≡ d)) ⊎ ((is_delimiter b ≡ false) × (k < d) × (x ≢ [])) in
      subst (P (next w m)) same (subst (λ b. P b f.blanks) byte f.cases)

  -- where no word agrees with the text, it is stuck behind the blanks
  pub further_dead : Reaches c k → ((d : ℕ) → Allows c d → ((is_delimiter (next w m) ≡ true) × (k ≡ d)) ⊎ ((is_delimiter (next w m) ≡ false) × (k < d) × (between w j m ≢ [])) → ⊥)
      → Stuck (FurtherNumbers k) base w j c m
  further_dead (d0, a0, h0) never = record {
    order = skips.order;
    within = skips.within;
    viable = (let (v, q) = further_lives (d0 - k) k d0 (omega arith) true ((base + j) + length (between w j m)) in
        (d0, true, v, a0, further_pad k d0 true (base + j) (between w j m) v skips.blanks q));
    dead = λ d last v r s a q e. never d a (further_agrees d last (base + j) v r (next w m ∷ s) q (s, refl) e);
  }

  pub further_leads : j < m → is_delimiter (next w m) ≡ false → Leads (FurtherNumbers k) (Skipped (FurtherNumbers (k + 1))) base w j c m c (λ y. y)
  further_leads long none = leads_ahead (FurtherNumbers k) (Skipped (FurtherNumbers (k + 1))) base w j c m c (λ y. y) begins_number begins skips.order skips.within (λ d a. a)
      (λ d y r a q. further_more k d y (base + j) (between w j m) r some skips.blanks (subst (λ o. Skipped (FurtherNumbers (k + 1)) d y o r) (sym (offset base w j m skips.order skips.within)) q))
      comes where
        some : between w j m ≢ []
        some e = absurd (omega (arith, part-length w j m skips.order skips.within, ap length e))

        begins : Begins begins_number (Skipped (FurtherNumbers (k + 1)))
        begins d last at v (a, b, e, (n, hn, en), q) = let (x, t, f, h) = number_first n hn in (x, t ++ b, e ∙ ap (λ z. z ++ b) (en ∙ f), h)

        comes : (d : ℕ) (x : Bool) (v r s : List ℕ) → Allows c d → FurtherNumbers k d x (base + j) v → Ahead w m s → v ++ r ≡ between w j m ++ s
            → (y : Bool) × (u : List ℕ) × (v ≡ between w j m ++ u) × (x ≡ y) × Skipped (FurtherNumbers (k + 1)) d y (base + m) u × Allows c d
        comes d x v r s a ([], en, q) t e = absurd (elim (further_agrees d x (base + j) v r s ([], en, q) t e) [
          | inl (h, f) ↦ true≢false (sym h ∙ none)
          | inr (h, less, f) ↦ omega (arith, en)
        ])
        comes d x v r s a (n ∷ ns, en, (p, y, ev, (b, z, f, (sb, hb), (num, fs, g, hn, more)), q)) (t, es) e =
            let (c0, t0, tf, hc) = number_first n hn.0 in
            let text : v ≡ b ++ (c0 ∷ (t0 ++ (fs ++ y))) = ev ∙ (ap (λ z. z ++ y) (f ∙ ap (λ z. b ++ z) (g ∙ ap (λ z. z ++ fs) (hn.1 ∙ tf))) ∙ (append_assoc b ((c0 ∷ t0) ++ fs) y ∙ ap (λ z. b ++ (c0 ∷ z)) (append_assoc t0 fs y))) in
            let line : b ++ (c0 ∷ ((t0 ++ (fs ++ y)) ++ r)) ≡ between w j m ++ (next w m ∷ t) = sym (append_assoc b (c0 ∷ (t0 ++ (fs ++ y))) r) ∙ (ap (λ z. z ++ r) (sym text) ∙ (e ∙ ap (λ z. between w j m ++ z) es)) in
            let same : b ≡ between w j m = one_blanks b (between w j m) c0 (next w m) _ t hb skips.blanks (begin_no_blank c0 hc) skips.stops line in
            let place : (base + j) + length b ≡ base + m = ap (λ z. (base + j) + length z) same ∙ offset base w j m skips.order skips.within in
            let one : ((base + j) + length b) + length num ≡ (base + m) + length num = ap (λ z. z + length num) place in
            let two : (base + j) + length p ≡ ((base + m) + length num) + length fs = omega (arith, place, ap length f, ap length g, length-append b z, length-append num fs) in (
              x,
              num ++ (fs ++ y),
              ev ∙ (ap (λ u. u ++ y) (f ∙ ap (λ u. b ++ u) g) ∙ (append_assoc b (num ++ fs) y ∙ (ap (λ u. b ++ u) (append_assoc num fs y) ∙ ap (λ u. u ++ (num ++ (fs ++ y))) same))),
              refl,
              (num, fs ++ y, refl, (n, hn.0, hn.1), (ns, omega (arith, en), (fs, y, refl, subst (λ o. SpellsFurther ns o fs) one more, subst (λ o. Delimiter d x o y) two q))),
              a,
            )

-- where a number whose value isn't used stands, the text goes on behind it
module _ {Y : Type 0} (Q : ℕ → Y → ℕ → List ℕ → Type 0) (begins : Begins stops_number Q) (base : ℕ) (w : List ℕ) (i : ℕ) (c : Dimension) (j : ℕ) where
  pub skip_leads : NumberSkips w i j → Leads (Skipped Q) Q base w i c j c (λ y. y)
  skip_leads h = leads_ahead (Skipped Q) Q base w i c j c (λ y. y) stops_number begins h.order h.within (λ d a. a)
      (λ d y r a q. (between w i j, r, refl, h.number, subst (λ o. Q d y o r) (sym (offset base w i j h.order h.within)) q))
      (λ d p v r s a (v1, v2, ev, word, q) t e.
      let line : v1 ++ (v2 ++ r) ≡ between w i j ++ s = sym (append_assoc v1 v2 r) ∙ (ap (λ z. z ++ r) (sym ev) ∙ e) in
      let same : v1 ≡ between w i j = ends_there Q begins base w i c j h.order h.within h.longest d p v1 v2 r s ((base + i) + length v1) word q t line in
      let place : (base + i) + length v1 ≡ base + j = ap (λ z. (base + i) + length z) same ∙ offset base w i j h.order h.within in
      (p, v2, ev ∙ ap (λ z. z ++ v2) same, refl, subst (λ o. Q d p o v2) place q, a))

  pub skip_stuck : (d : ℕ) → Allows c d → ((at : ℕ) → (y : Y) × (u : List ℕ) × Q d y at u) → NumberBreaks w i j → Stuck (Skipped Q) base w i c j
  skip_stuck d0 a0 lives h = record {
    order = h.order;
    within = h.within;
    viable = (let (more, word) = front_viable w i j h.order h.longest in
        let (y, u, q) = lives ((base + i) + length (between w i j ++ more)) in
        (d0, y, more ++ u, a0, (between w i j ++ more, u, sym (append_assoc (between w i j) more u), word, q)));
    dead = λ d p v r s a (v1, v2, ev, word, q) e.
        let line : v1 ++ (v2 ++ r) ≡ between w i j ++ (next w j ∷ s) = sym (append_assoc v1 v2 r) ∙ (ap (λ z. z ++ r) (sym ev) ∙ e) in
        let same : v1 ≡ between w i j = ends_there Q begins base w i c j h.order h.within h.longest d p v1 v2 r (next w j ∷ s) ((base + i) + length v1) word q (s, refl) line in
        h.no_number (subst WktNumber same word);
  }
