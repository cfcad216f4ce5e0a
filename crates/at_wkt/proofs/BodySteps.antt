-- Parts that are EMPTY or in brackets.
-- For `read_line`, `read_geometry` and `Room::check_line`: what each kind of geometry spells behind its head.
use Rattle.std.proofs.Common.{◌↔◌, ◌≡◌, ℕ, ◌+◌, ◌<◌, ◌≤◌, ◌⊎◌, inl, inr, Bool, true, false, not, ◌==◌, List, [], ◌∷◌, ◌++◌, length, codes, Option, Some, None, refl, sym, ◌∙◌, ap, subst, arith, true≢false, append_assoc}
use Rattle.std.specs.Char.{to_ascii_uppercase}
use Rattle.std.specs.Str.{str_to_ascii_uppercase}
use Rattle.at_wkt.proofs.Names.{Many, Exactly, ◌▸◌, Dimension, Position, Positions, is_blank, SpellsPosition, InBrackets, Parted, EmptyWord, EmptyOrParted, SpellsRing, SpellsList, SpellsPoint, SpellsPointMember, between, opens, next, Spelt, Stuck, Leads, SkipsBlanks, Item, KeywordStands, KeywordBreaks, HasCount, EnclosedPosition}
use Rattle.at_fixed.proofs.DigitParts.{part-part}
use Rattle.at_wkt.proofs.Leads.{part-cons, ahead_stuck, Begins, Inhabited, same_or_less}
use Rattle.at_wkt.proofs.Agreement.{Passes, Fails}
use Rattle.at_wkt.proofs.Steps.{When, when_leads, no_blank, one_byte}
use Rattle.at_wkt.proofs.WordSteps.{Word, word_spelt, word_stuck, opens_no_blank}
use Rattle.at_wkt.proofs.PositionSteps.{begins_number, number_first, begin_no_blank}
use Rattle.at_wkt.proofs.ListSteps.{position_lives, items_inhabited, begins_other}
use Rattle.at_wkt.proofs.Lists.{brackets_same}

abbrev pub is_open : ℕ → Bool
is_open b = b == 0x28

abbrev pub is_shut : ℕ → Bool
is_shut b = not (b == 0x28)

-- EMPTY begins with its letter
pub empty_first : (w : List ℕ) → str_to_ascii_uppercase w ≡ codes "EMPTY" → (b : ℕ) × (t : List ℕ) × (w ≡ b ∷ t) × (to_ascii_uppercase b ≡ 0x45)
empty_first [] e = absurd (omega (arith, ap length e))
empty_first (b ∷ t) e = (b, t, refl, cc)

letter_not_open : (b : ℕ) → to_ascii_uppercase b ≡ 0x45 → is_open b ≡ false
letter_not_open b h = grind (arith, h)

letter_opens : (b : ℕ) → to_ascii_uppercase b ≡ 0x45 → opens b ≡ true
letter_opens b h = grind (arith, h)

pub empty_opens : Passes opens EmptyWord
empty_opens at v h = let (b, t, e, k) = empty_first v h in (b, t, e, letter_opens b k)

pub empty_fails : Fails is_open EmptyWord
empty_fails at v h = let (b, t, e, k) = empty_first v h in (b, t, e, letter_not_open b k)

pub word_begins : {Y : Type 0} (none : Y) → Begins is_shut (Word (codes "EMPTY") none)
word_begins none d y at v (e, k) = let (b, t, eb, up) = empty_fails at v k in (b, t, eb, ap not up)

open_opens : (b : ℕ) → is_open b ≡ true → opens b ≡ true
open_opens b h = grind (arith, h)

-- P is EMPTY, which stands for one value, or what is in brackets
pub record Choice {X Y : Type 0} (P : ℕ → Y → ℕ → List ℕ → Type 0) (Q : ℕ → X → ℕ → List ℕ → Type 0) (f : X → Y) (none : Y) : Type 0 where
  pub open_ : (d : ℕ) (x : X) (at : ℕ) (v : List ℕ) → Q d x at v → P d (f x) at v
  pub empty : (d at : ℕ) (v : List ℕ) → EmptyWord at v → P d none at v
  pub cases : (d : ℕ) (y : Y) (at : ℕ) (v : List ℕ) → P d y at v → ((y ≡ none) × EmptyWord at v) ⊎ ((x : X) × (y ≡ f x) × Q d x at v)
  pub bracket : Begins is_open Q

module _ {X Y : Type 0} (P : ℕ → Y → ℕ → List ℕ → Type 0) (Q : ℕ → X → ℕ → List ℕ → Type 0) (f : X → Y) (none : Y) (choice : Choice P Q f none) where
  pub choice_begins : Begins opens P
  choice_begins d y at v h = elim (choice.cases d y at v h) [
    | inl (e, k) ↦ empty_opens at v k
    | inr (x, e, q) ↦ (let (b, t, eb, o) = choice.bracket d x at v q in (b, t, eb, open_opens b o))
  ]

  pub choice_inhabited : Inhabited P
  choice_inhabited d at h = (none, codes "EMPTY", choice.empty d at (codes "EMPTY") refl)

  open_when : When P Q (λ at x. f x) is_open
  open_when = record {
    to = λ d x at v q. choice.open_ d x at v q;
    from = λ d y at v h. elim (choice.cases d y at v h) [
      | inl (e, k) ↦ inr (empty_fails at v k)
      | inr (x, e, q) ↦ inl (x, e, q)
    ];
  }

  shut_when : When P (Word (codes "EMPTY") none) (λ at y. y) is_shut
  shut_when = record {
    to = λ d y at v (e, k). let G : Y → Type 0 = λ z. P d z at v in subst G (sym e) (choice.empty d at v k);
    from = λ d y at v h. elim (choice.cases d y at v h) [
      | inl (e, k) ↦ inl (y, refl, (e, k))
      | inr (x, e, q) ↦ inr (let (b, t, eb, o) = choice.bracket d x at v q in (b, t, eb, ap not o))
    ];
  }

  module _ (base : ℕ) (w : List ℕ) (i : ℕ) (c : Dimension) where
    pub choice_open : i ≤ length w → is_open (next w i) ≡ true → Leads P Q base w i c i c f
    choice_open inside here = when_leads P Q (λ at x. f x) is_open is_open base w i c open_when choice.bracket inside here

    pub choice_empty : (j : ℕ) → is_open (next w i) ≡ false → KeywordStands w i j (codes "EMPTY") → HasCount c → Spelt P base w i c j c none
    choice_empty j here h some = (when_leads P (Word (codes "EMPTY") none) (λ at y. y) is_shut is_shut base w i c shut_when (word_begins none) (omega (arith, h.order, h.within)) (ap not here)).spelt j c none
        (word_spelt (codes "EMPTY") none base w i j c h some)

    pub choice_broken : (n : ℕ) → is_open (next w i) ≡ false → KeywordBreaks w i n (codes "EMPTY") → HasCount c → Stuck P base w i c n
    choice_broken n here h some = (when_leads P (Word (codes "EMPTY") none) (λ at y. y) is_shut is_shut base w i c shut_when (word_begins none) (omega (arith, h.order, h.within)) (ap not here)).stuck n
        (word_stuck (codes "EMPTY") none base w i n c refl h some)

-- ---- what the choices are

open_begins : {X : Type 0} (R : ℕ → X → ℕ → List ℕ → Type 0) → Begins is_open (λ d x. Exactly (codes "(") ▸ R d x)
open_begins R d x at v (a, b, e, here, q) = (0x28, b, e ∙ ap (λ z. z ++ b) here, refl)

pub enclosed_begins : Begins is_open EnclosedPosition
enclosed_begins = open_begins (λ d p. Many is_blank ▸ (SpellsPosition d p ▸ (Many is_blank ▸ Exactly (codes ")"))))

pub ring_begins : Begins is_open SpellsRing
ring_begins d ps at v (e, h) = open_begins (λ d (ps : Positions). Many is_blank ▸ (Parted (SpellsPosition d) ps.items ▸ (Many is_blank ▸ Exactly (codes ")")))) d ps at v h

-- a part of which there is one, or none for EMPTY
option_choice : {X : Type 0} (P : ℕ → Option X → ℕ → List ℕ → Type 0) (Q : ℕ → X → ℕ → List ℕ → Type 0) → ((d at : ℕ) (v : List ℕ) → P d None at v ↔ EmptyWord at v) → ((d : ℕ) (x : X) (at : ℕ) (v : List ℕ) → P d (Some x) at v ↔ Q d x at v)
    → Begins is_open Q → Choice P Q (λ x. Some x) None
option_choice {X} P Q none some bracket = record {
  open_ = λ d x at v. (some d x at v).1;
  empty = λ d at v. (none d at v).1;
  cases = by_case;
  bracket = bracket;
} where
  by_case : (d : ℕ) (y : Option X) (at : ℕ) (v : List ℕ) → P d y at v → ((y ≡ None) × EmptyWord at v) ⊎ ((x : X) × (y ≡ Some x) × Q d x at v)
  by_case d None at v h = inl (refl, (none d at v).0 h)
  by_case d (Some x) at v h = inr (x, refl, (some d x at v).0 h)

pub point_choice : Choice SpellsPoint EnclosedPosition (λ p. Some p) None
point_choice = option_choice SpellsPoint EnclosedPosition (λ d at v. ((λ k. k), (λ k. k))) (λ d p at v. ((λ h. h), (λ h. h))) enclosed_begins

pub list_choice : Choice SpellsList SpellsRing (λ ps. Some ps) None
list_choice = option_choice SpellsList SpellsRing (λ d at v. ((λ k. k), (λ k. k))) (λ d ps at v. ((λ h. h), (λ h. h))) ring_begins

abbrev pub Bracketed : {X : Type 0} → (ℕ → X → ℕ → List ℕ → Type 0) → ℕ → List X → ℕ → List ℕ → Type 0
Bracketed P d xs = InBrackets (Parted (P d) xs)

pub parted_choice : {X : Type 0} (P : ℕ → X → ℕ → List ℕ → Type 0) → Choice (λ d xs. EmptyOrParted (P d) xs) (Bracketed P) (λ xs. xs) []
parted_choice {X} P = record {
  open_ = opened;
  empty = λ d at v k. k;
  cases = parted_cases;
  bracket = open_begins (λ d xs. Many is_blank ▸ (Parted (P d) xs ▸ (Many is_blank ▸ Exactly (codes ")"))));
} where
  opened : (d : ℕ) (xs : List X) (at : ℕ) (v : List ℕ) → Bracketed P d xs at v → EmptyOrParted (P d) xs at v
  opened d [] at v (a, b, e, h, (x, y, f, k, (p, q, g, none, m))) = absurd none
  opened d (x ∷ xs) at v h = h

  parted_cases : (d : ℕ) (xs : List X) (at : ℕ) (v : List ℕ) → EmptyOrParted (P d) xs at v → ((xs ≡ []) × EmptyWord at v) ⊎ ((ys : List X) × (xs ≡ ys) × Bracketed P d ys at v)
  parted_cases d [] at v h = inl (refl, h)
  parted_cases d (x ∷ xs) at v h = inr (x ∷ xs, refl, h)

-- ---- members

pub blankless : {X : Type 0} (P : ℕ → X → ℕ → List ℕ → Type 0) → Begins opens P → Begins no_blank P
blankless P begins d x at v h = let (b, t, e, o) = begins d x at v h in (b, t, e, opens_no_blank b o)

pub ring_no_blank : Begins no_blank SpellsRing
ring_no_blank = blankless SpellsRing (begins_other is_open opens SpellsRing open_opens ring_begins)

pub ring_inhabited : Inhabited SpellsRing
ring_inhabited d at h =
    let (xs, v, q) = items_inhabited SpellsPosition position_lives d (at + 1) h in
    (record { at = at; items = xs }, 0x28 ∷ v, (refl, (brackets_same SpellsPosition).to d xs at (0x28 ∷ v) (0x28 ∷ [], v, refl, refl, q)))

-- a bare position begins as its first number
bare_first : (d : ℕ) (p : Position) (at : ℕ) (v : List ℕ) → SpellsPosition d p at v → (b : ℕ) × (t : List ℕ) × (v ≡ b ∷ t) × (begins_number b ≡ true)
bare_first d p at v (ns, en, (a, r, e, (ei, (hn, ea)), q)) = let (b, t, f, k) = number_first p.x hn in (b, t ++ r, e ∙ ap (λ z. z ++ r) (ea ∙ f), k)

pub number_shut : (b : ℕ) → begins_number b ≡ true → opens b ≡ false
number_shut b h = grind (arith, h)

pub member_when : When SpellsPointMember SpellsPoint (λ at p. p) opens
member_when = record { to = to; from = from } where
  to : (d : ℕ) (y : Option Position) (at : ℕ) (v : List ℕ) → SpellsPoint d y at v → SpellsPointMember d y at v
  to d None at v h = h
  to d (Some p) at v h = inr h

  from : (d : ℕ) (y : Option Position) (at : ℕ) (v : List ℕ) → SpellsPointMember d y at v → ((z : Option Position) × (y ≡ z) × SpellsPoint d z at v) ⊎ ((b : ℕ) × (t : List ℕ) × (v ≡ b ∷ t) × (opens b ≡ false))
  from d None at v h = inl (None, refl, h)
  from d (Some p) at v (inr h) = inl (Some p, refl, h)
  from d (Some p) at v (inl h) = inr (let (b, t, e, k) = bare_first d p at v h in (b, t, e, number_shut b k))

pub member_inhabited : Inhabited SpellsPointMember
member_inhabited d at h = (None, codes "EMPTY", refl)

pub member_begins : Begins no_blank SpellsPointMember
member_begins d (Some p) at v (inl h) = let (b, t, e, k) = bare_first d p at v h in (b, t, e, begin_no_blank b k)
member_begins d (Some p) at v (inr h) = blankless SpellsPoint (choice_begins SpellsPoint EnclosedPosition (λ p. Some p) None point_choice) d (Some p) at v h
member_begins d None at v h = blankless SpellsPoint (choice_begins SpellsPoint EnclosedPosition (λ p. Some p) None point_choice) d None at v h

-- ---- a member that is a bare position

module _ (base : ℕ) (w : List ℕ) (i a : ℕ) (c : Dimension) (skips : SkipsBlanks w i a) (bare : opens (next w a) ≡ false) where
  -- a member's item whose first byte opens nothing is a position's
  bare_item : (d : ℕ) (y : Option Position) (last : Bool) (at : ℕ) (v r t : List ℕ) → Item SpellsPointMember d (y, last) at v → v ++ r ≡ between w i a ++ (next w a ∷ t)
      → (p : Position) × (y ≡ Some p) × Item SpellsPosition d (p, last) at v
  bare_item d y last at v r t (b1, r1, e1, hb, (x, z, ez, hm, hd)) f = go y hm where
    no_opener : (b : ℕ) (u : List ℕ) → x ≡ b ∷ u → opens b ≡ true → ⊥
    no_opener b u ex ob =
        let line : b1 ++ (b ∷ ((u ++ z) ++ r)) ≡ between w i a ++ (next w a ∷ t) = ap (λ q. b1 ++ ((q ++ z) ++ r)) (sym ex) ∙ (sym (append_assoc b1 (x ++ z) r) ∙ (ap (λ q. (b1 ++ q) ++ r) (sym ez) ∙ (ap (λ q. q ++ r) (sym e1) ∙ f))) in
        let (same, byte, rest) = one_byte b1 (between w i a) b (next w a) ((u ++ z) ++ r) t hb skips.blanks (opens_no_blank b ob) skips.stops line in
        true≢false (sym ob ∙ (ap opens byte ∙ bare))

    go : (y : Option Position) → SpellsPointMember d y (at + length b1) x → (p : Position) × (y ≡ Some p) × Item SpellsPosition d (p, last) at v
    go None h = absurd (let (b, u, eb, o) = choice_begins SpellsPoint EnclosedPosition (λ p. Some p) None point_choice d None (at + length b1) x h in no_opener b u eb o)
    go (Some p) (inl h) = (p, refl, (b1, r1, e1, hb, (x, z, ez, h, hd)))
    go (Some p) (inr h) = absurd (let (b, u, eb, o) = choice_begins SpellsPoint EnclosedPosition (λ p. Some p) None point_choice d (Some p) (at + length b1) x h in no_opener b u eb o)

  -- the text goes on with the byte behind the blanks
  behind_blanks : (n : ℕ) (s : List ℕ) → a ≤ n → n ≤ length w → (t : List ℕ) × (between w i n ++ (next w n ∷ s) ≡ between w i a ++ (next w a ∷ t))
  behind_blanks n s low high = let (t, e) = ahead_stuck w a n s low high (same_or_less a n low) in
      (t, ap (λ z. z ++ (next w n ∷ s)) (part-part w i a n skips.order low high) ∙ (append_assoc (between w i a) (between w a n) (next w n ∷ s) ∙ ap (λ z. between w i a ++ z) e))

  member_of : (d : ℕ) (p : Position) (last : Bool) (at : ℕ) (v : List ℕ) → Item SpellsPosition d (p, last) at v → Item SpellsPointMember d (Some p, last) at v
  member_of d p last at v (b1, r1, e1, hb, (x, z, ez, hm, hd)) = (b1, r1, e1, hb, (x, z, ez, inl hm, hd))

  pub bare_stuck : (n : ℕ) → a ≤ n → Stuck (Item SpellsPosition) base w i c n → Stuck (Item SpellsPointMember) base w i c n
  bare_stuck n low h = record {
    order = h.order;
    within = h.within;
    viable = (let (d, x, more, b, q) = h.viable in (d, (Some x.0, x.1), more, b, member_of d x.0 x.1 (base + i) (between w i n ++ more) q));
    dead = λ d y v r s b q e.
        let (t, f) = behind_blanks n s low h.within in
        let (p, ey, q') = bare_item d y.0 y.1 (base + i) v r t q (e ∙ f) in
        h.dead d (p, y.1) v r s b q' e;
  }

  pub bare_spelt : (j : ℕ) (c' : Dimension) (p : Position) (last : Bool) → a < j → Spelt (Item SpellsPosition) base w i c j c' (p, last) → Spelt (Item SpellsPointMember) base w i c j c' (Some p, last)
  bare_spelt j c' p last low h = record {
    order = h.order;
    within = h.within;
    some = h.some;
    narrows = h.narrows;
    sound = λ d b. member_of d p last (base + i) (between w i j) (h.sound d b);
    only = λ d y v r s b q e.
        let joint : between w i j ++ s ≡ between w i a ++ (next w a ∷ (between w (a + 1) j ++ s)) =
        ap (λ z. z ++ s) (part-part w i a j skips.order (let l : a ≤ j = omega arith in l) h.within ∙ ap (λ z. between w i a ++ z) (part-cons w a j low h.within)) ∙ append_assoc (between w i a) (next w a ∷ between w (a + 1) j) s in
        let (q0, ey, q') = bare_item d y.0 y.1 (base + i) v r (between w (a + 1) j ++ s) q (e ∙ joint) in
        let (ep, ev, b') = h.only d (q0, y.1) v r s b q' e in
        (ap (λ z. (z, y.1)) ey ∙ ap (λ (z : Position × Bool). (Some z.0, z.1)) ep, ev, b');
  }
