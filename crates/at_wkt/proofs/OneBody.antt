-- What stands behind a geometry's word spells one value: positions, items in brackets, and what may be EMPTY.
-- For the laws of OneGeometry.
use Rattle.std.proofs.Common.{◌≡◌, ℕ, ◌+◌, ◌⊎◌, inl, inr, Bool, true, false, ◌||◌, ◌==◌, IsTrue, List, [], ◌∷◌, ◌++◌, length, codes, Option, Some, None, refl, sym, ◌∙◌, ap, subst, append_assoc, true≢false, arith}
use Rattle.std.proofs.ByRecursion.{All-append}
use Rattle.std.specs.List.{AllByRecursion}
use Rattle.at_wkt.proofs.Names.{Exactly, Many, ◌▸◌, Numeral, Position, is_blank, SpellsNumber, SpellsFurther, SpellsPosition, EmptyWord, EmptyOrParted, SpellsRing, SpellsList, SpellsPoint, SpellsPointMember, SpellsArea, opens, delimiter, Delimiter, Item, Items, FurtherNumbers, EnclosedPosition}
use Rattle.at_text.specs.Parts.{At}
use Rattle.at_fixed.proofs.NumeralParts.{one_numeral}
use Rattle.at_wkt.proofs.Agreement.{pair_same, Agree, OneValue, Fails, Passes, agree_then, agree_map, agree_exactly, agree_any_case, agree_front, agree_many, agree_some, agree_apart, agree_turned, agree_as, fails_then, passes_then, fails_many, fails_some, not_fails}
use Rattle.at_wkt.proofs.Leads.{Begins}
use Rattle.at_wkt.proofs.Steps.{no_blank}
use Rattle.at_wkt.proofs.NumberSteps.{in_number, number_bytes}
use Rattle.at_wkt.proofs.Lists.{brackets_same}
use Rattle.at_wkt.proofs.PositionSteps.{begins_number, number_first}
use Rattle.at_wkt.proofs.ItemSteps.{Gap, SecondNumber, TwoNumbers, position_of, EndedPosition, position_same}
use Rattle.at_wkt.proofs.ListSteps.{ended_begins}
use Rattle.at_wkt.proofs.BodySteps.{is_open, Choice, choice_begins, point_choice, list_choice, parted_choice, Bracketed, blankless, member_begins, empty_fails, ring_no_blank, number_shut}

-- ---- delimiters

delimiter_stops : (test : ℕ → Bool) → test 0x29 ≡ false → test 0x2C ≡ false → (last : Bool) → Fails test (Exactly (delimiter last ∷ []))
delimiter_stops test h k true at v e = (0x29, [], e, h)
delimiter_stops test h k false at v e = (0x2C, [], e, k)

one_delimiter : (a b : Bool) → Agree (Exactly (delimiter a ∷ [])) (Exactly (delimiter b ∷ [])) (a ≡ b)
one_delimiter true false at v w r s e f line =
    let bytes : 0x29 ∷ r ≡ 0x2C ∷ s = ap (λ z. z ++ r) (sym e) ∙ (line ∙ ap (λ z. z ++ s) f) in
    let first : 0x29 ≡ 0x2C = cc in
    absurd (true≢false (ap (λ z. z == 0x29) first))
one_delimiter false true at v w r s e f line =
    let bytes : 0x2C ∷ r ≡ 0x29 ∷ s = ap (λ z. z ++ r) (sym e) ∙ (line ∙ ap (λ z. z ++ s) f) in
    let first : 0x2C ≡ 0x29 = cc in
    absurd (true≢false (sym (ap (λ z. z == 0x29) first)))
one_delimiter _ _ at v w r s e f line = (refl, e ∙ sym f)

pub blank_delimiter : (d e : ℕ) (a b : Bool) → Agree (Delimiter d a) (Delimiter e b) (a ≡ b)
blank_delimiter d e a b = agree_many is_blank (Exactly (delimiter a ∷ [])) (Exactly (delimiter b ∷ [])) (delimiter_stops is_blank refl refl a) (delimiter_stops is_blank refl refl b) (one_delimiter a b)

-- ---- a number, and behind it what no number has

numbers_same : (n m : Numeral) (i j at : ℕ) (v : List ℕ) → At i (SpellsNumber n) at v → At j (SpellsNumber m) at v → (n ≡ m) × (i ≡ j)
numbers_same n m i j at v (ei, (hn, en)) (ej, (hm, em)) = (one_numeral n m hn hm (sym en ∙ em), ei ∙ sym ej)

are_number_bytes : (n : Numeral) (i at : ℕ) (v : List ℕ) → At i (SpellsNumber n) at v → Many in_number at v
are_number_bytes n i at v (ei, (hn, en)) = subst (AllByRecursion (λ b. IsTrue (in_number b))) (sym en) (number_bytes n hn)

pub one_number : {F : Type 0} (n m : Numeral) (i j : ℕ) (B D : ℕ → List ℕ → Type 0) → Fails in_number B → Fails in_number D → Agree B D F
    → Agree (At i (SpellsNumber n) ▸ B) (At j (SpellsNumber m) ▸ D) (((n ≡ m) × (i ≡ j)) × F)
one_number n m i j B D stop end two = agree_front in_number (At i (SpellsNumber n)) B (At j (SpellsNumber m)) D (are_number_bytes n i) (are_number_bytes m j) stop end (numbers_same n m i j) two

-- ---- further numbers up to the delimiter

in_further : ℕ → Bool
in_further b = is_blank b || in_number b

blank_further : (b : ℕ) → is_blank b ≡ true → in_further b ≡ true
unfolding in_further
blank_further b h = grind (arith, h)

number_further : (b : ℕ) → in_number b ≡ true → in_further b ≡ true
unfolding in_further
number_further b h = grind (arith, h)

blank_no_number : (b : ℕ) → is_blank b ≡ true → in_number b ≡ false
blank_no_number b h = grind (arith, h)

begin_no_blank : (b : ℕ) → begins_number b ≡ true → is_blank b ≡ false
begin_no_blank b h = grind (arith, h)

pub wider : (p q : ℕ → Bool) → ((b : ℕ) → p b ≡ true → q b ≡ true) → (w : List ℕ) → AllByRecursion (λ b. IsTrue (p b)) w → AllByRecursion (λ b. IsTrue (q b)) w
wider p q f [] h = tt
wider p q f (b ∷ w) (h, hs) = (f b h, wider p q f w hs)

further_bytes : (ns : List Numeral) (at : ℕ) (v : List ℕ) → SpellsFurther ns at v → AllByRecursion (λ b. IsTrue (in_further b)) v
further_bytes [] at v none = subst (AllByRecursion (λ b. IsTrue (in_further b))) (sym none) tt
further_bytes (n ∷ ns) at v (a, b, e, (some, ha), (c, d, f, (hn, en), more)) =
    let blanks = wider is_blank in_further blank_further a ha in
    let number = wider in_number in_further number_further c (subst (AllByRecursion (λ b. IsTrue (in_number b))) (sym en) (number_bytes n hn)) in
    subst (AllByRecursion (λ b. IsTrue (in_further b))) (sym (e ∙ ap (λ z. a ++ z) f)) (All-append (λ b. IsTrue (in_further b)) a (c ++ d) blanks (All-append (λ b. IsTrue (in_further b)) c d number (further_bytes ns _ d more)))

-- further numbers, as bytes that pass and the delimiter
further_plain : (k d : ℕ) (last : Bool) (at : ℕ) (v : List ℕ) → FurtherNumbers k d last at v → (Many in_further ▸ Exactly (delimiter last ∷ [])) at v
further_plain k d last at v (ns, en, (a, b, e, more, (x, y, f, hx, hy))) =
    (a ++ x, y, e ∙ (ap (λ z. a ++ z) f ∙ sym (append_assoc a x y)), All-append (λ b. IsTrue (in_further b)) a x (further_bytes ns at a more) (wider is_blank in_further blank_further x hx), hy)

one_further : (k l d e : ℕ) (a b : Bool) → Agree (FurtherNumbers k d a) (FurtherNumbers l e b) (a ≡ b)
unfolding in_further
one_further k l d e a b = agree_as (FurtherNumbers k d a) (FurtherNumbers l e b) (Many in_further ▸ Exactly (delimiter a ∷ [])) (Many in_further ▸ Exactly (delimiter b ∷ [])) (further_plain k d a) (further_plain l e b)
    (agree_many in_further (Exactly (delimiter a ∷ [])) (Exactly (delimiter b ∷ [])) (delimiter_stops in_further refl refl a) (delimiter_stops in_further refl refl b) (one_delimiter a b))

further_fails : (k d : ℕ) (last : Bool) → Fails in_number (FurtherNumbers k d last)
further_fails k d last at v ([], en, (a, b, e, none, q)) =
    let (x, t, f, h) = fails_many is_blank in_number (Exactly (delimiter last ∷ [])) blank_no_number (delimiter_stops in_number refl refl last) (at + length a) b q in
    (x, t, e ∙ (ap (λ z. z ++ b) none ∙ f), h)
further_fails k d last at v (n ∷ ns, en, q) =
    fails_then in_number (SpellsFurther (n ∷ ns)) (Delimiter d last) (fails_some is_blank in_number (SpellsNumber n ▸ SpellsFurther ns) blank_no_number) at v q

-- ---- a position

number_stops_blanks : (n : Numeral) (i : ℕ) → Fails is_blank (At i (SpellsNumber n))
number_stops_blanks n i at v (ei, (hn, en)) = let (b, t, f, h) = number_first n hn in (b, t, en ∙ f, begin_no_blank b h)

one_second : OneValue SecondNumber
one_second d e ((n, i), a) ((m, j), b) = agree_map (SecondNumber d ((n, i), a)) (SecondNumber e ((m, j), b)) (λ ((x, y), z). pair_same (pair_same x y) z)
    (one_number n m i j (FurtherNumbers 2 d a) (FurtherNumbers 2 e b) (further_fails 2 d a) (further_fails 2 e b) (one_further 2 2 d e a b))

second_fails : (d : ℕ) (p : (Numeral × ℕ) × Bool) → Fails is_blank (SecondNumber d p)
second_fails d ((n, i), last) = fails_then is_blank (At i (SpellsNumber n)) (FurtherNumbers 2 d last) (number_stops_blanks n i)

one_gap : OneValue (Gap SecondNumber)
one_gap d e p q = agree_some is_blank (SecondNumber d p) (SecondNumber e q) (second_fails d p) (second_fails e q) (one_second d e p q)

one_two : OneValue TwoNumbers
one_two d e ((n, i), p) ((m, j), q) = agree_map (TwoNumbers d ((n, i), p)) (TwoNumbers e ((m, j), q)) (λ ((x, y), z). pair_same (pair_same x y) z)
    (one_number n m i j (Gap SecondNumber d p) (Gap SecondNumber e q) (fails_some is_blank in_number (SecondNumber d p) blank_no_number) (fails_some is_blank in_number (SecondNumber e q) blank_no_number) (one_gap d e p q))

one_ended : OneValue EndedPosition
one_ended d e p q at v w r s hp hq line =
    let (y, ep, hy) = position_same.from d p at v hp in
    let (z, eq, hz) = position_same.from e q at w hq in
    let (same, text) = one_two d e y z at v w r s hy hz line in
    (ep ∙ (ap position_of same ∙ sym eq), text)

ended_fails : (d : ℕ) (p : Position × Bool) → Fails is_blank (EndedPosition d p)
ended_fails d p at v h = let (b, t, e, k) = ended_begins d p at v h in (b, t, e, begin_no_blank b k)

pub one_position : OneValue (Item SpellsPosition)
one_position d e p q = agree_many is_blank (EndedPosition d p) (EndedPosition e q) (ended_fails d p) (ended_fails e q) (one_ended d e p q)

-- ---- items

pub shuts : {X : Type 0} (P : ℕ → X → ℕ → List ℕ → Type 0) → Begins no_blank P → (d : ℕ) (x : X) → Fails is_blank (P d x)
shuts P begins d x = not_fails is_blank (P d x) (λ at v h. begins d x at v h)

pub one_item : {X : Type 0} (P : ℕ → X → ℕ → List ℕ → Type 0) → Begins no_blank P → OneValue P → OneValue (Item P)
one_item {X} P begins one d e (x, a) (y, b) = agree_many is_blank (P d x ▸ Delimiter d a) (P e y ▸ Delimiter e b)
    (fails_then is_blank (P d x) (Delimiter d a) (shuts P begins d x)) (fails_then is_blank (P e y) (Delimiter e b) (shuts P begins e y))
    (agree_map (P d x ▸ Delimiter d a) (P e y ▸ Delimiter e b) (λ (p, q). pair_same p q) (agree_then (P d x) (Delimiter d a) (P e y) (Delimiter e b) (one d e x y) (blank_delimiter d e a b)))

last_or_not : {X : Type 0} (x y : X) → ◌≡◌ {A = X × Bool} (x, true) (y, false) → ⊥
last_or_not {X} x y e = true≢false (ap (λ (z : X × Bool). z.1) e)

module _ {X : Type 0} (P : ℕ → X → ℕ → List ℕ → Type 0) (one : OneValue (Item P)) where
  pub one_items : OneValue (Items P)
  one_items d e [] ys at v w r s h k line = absurd h
  one_items d e (x ∷ xs) [] at v w r s h k line = absurd k
  one_items d e (x ∷ []) (y ∷ []) at v w r s h k line = let (same, text) = one d e (x, true) (y, true) at v w r s h k line in (ap (λ z. z.0 ∷ []) same, text)
  one_items d e (x ∷ []) (y ∷ z ∷ zs) at v w r s h (a, b, f, p, q) line =
      absurd (last_or_not x y (one d e (x, true) (y, false) at v a r (b ++ s) h p (line ∙ (ap (λ u. u ++ s) f ∙ append_assoc a b s))).0)
  one_items d e (x ∷ z ∷ zs) (y ∷ []) at v w r s (a, b, f, p, q) k line =
      absurd (last_or_not y x (sym (one d e (x, false) (y, true) at a w (b ++ r) s p k (sym (append_assoc a b r) ∙ (ap (λ u. u ++ r) (sym f) ∙ line))).0))
  one_items d e (x ∷ x2 ∷ xs) (y ∷ y2 ∷ ys) at v w r s h k line =
      let (same, text) = agree_then (Item P d (x, false)) (Items P d (x2 ∷ xs)) (Item P e (y, false)) (Items P e (y2 ∷ ys)) (one d e (x, false) (y, false)) (one_items d e (x2 ∷ xs) (y2 ∷ ys)) at v w r s h k line in
      let head : x ≡ y = ap (λ z. z.0) same.0 in
      (ap (λ z. z ∷ (x2 ∷ xs)) head ∙ ap (λ z. y ∷ z) same.1, text)

  pub one_bracketed : OneValue (Bracketed P)
  one_bracketed d e xs ys at v w r s h k line =
      let (xs2, ex, hx) = (brackets_same P).from d xs at v h in
      let (ys2, ey, hy) = (brackets_same P).from e ys at w k in
      let (same, text) = agree_then (Exactly (codes "(")) (Items P d xs2) (Exactly (codes "(")) (Items P e ys2) (agree_exactly (codes "(")) (one_items d e xs2 ys2) at v w r s hx hy line in
      (ex ∙ (same.1 ∙ sym ey), text)

-- ---- in brackets, or EMPTY

pub one_choice : {X Y : Type 0} (P : ℕ → Y → ℕ → List ℕ → Type 0) (Q : ℕ → X → ℕ → List ℕ → Type 0) (f : X → Y) (none : Y) → Choice P Q f none → OneValue Q → OneValue P
one_choice P Q f none choice one d e x y at v w r s h k line = elim (choice.cases d x at v h) [
  | inl (ex, hx) ↦ elim (choice.cases e y at w k) [
    | inl (ey, hy) ↦ (ex ∙ sym ey, (agree_any_case (codes "EMPTY") at v w r s hx hy line).1)
    | inr (z, ez, hz) ↦ agree_turned (Q e z) EmptyWord (agree_apart is_open (Q e z) EmptyWord (choice.bracket e z) empty_fails) at v w r s hx hz line
  ]
  | inr (z, ez, hz) ↦ elim (choice.cases e y at w k) [
    | inl (ey, hy) ↦ agree_apart is_open (Q d z) EmptyWord (choice.bracket d z) empty_fails at v w r s hz hy line
    | inr (u, eu, hu) ↦ (let (same, text) = one d e z u at v w r s hz hu line in (ez ∙ (ap f same ∙ sym eu), text))
  ]
]

pub one_ring : OneValue SpellsRing
one_ring d e ps qs at v w r s (ep, hp) (eq, hq) line =
    let (same, text) = one_bracketed SpellsPosition one_position d e ps.items qs.items at v w r s hp hq line in
    let place : ps.at ≡ qs.at = ep ∙ sym eq in
    (ap (λ z. record { at = z; items = ps.items }) place ∙ ap (λ z. record { at = qs.at; items = z }) same, text)

pub one_enclosed : OneValue EnclosedPosition
one_enclosed d e p q = agree_map (EnclosedPosition d p) (EnclosedPosition e q) (λ (_, h). ap (λ z. z.0) h)
    (agree_then (Exactly (codes "(")) (Item SpellsPosition d (p, true)) (Exactly (codes "(")) (Item SpellsPosition e (q, true)) (agree_exactly (codes "(")) (one_position d e (p, true) (q, true)))

pub one_point : OneValue SpellsPoint
one_point = one_choice SpellsPoint EnclosedPosition (λ p. Some p) None point_choice one_enclosed

pub one_list : OneValue SpellsList
one_list = one_choice SpellsList SpellsRing (λ ps. Some ps) None list_choice one_ring

pub one_parted : {X : Type 0} (P : ℕ → X → ℕ → List ℕ → Type 0) → OneValue (Item P) → OneValue (λ d xs. EmptyOrParted (P d) xs)
one_parted P one = one_choice (λ d xs. EmptyOrParted (P d) xs) (Bracketed P) (λ xs. xs) [] (parted_choice P) (one_bracketed P one)

pub one_area : OneValue SpellsArea
one_area = one_parted SpellsRing (one_item SpellsRing ring_no_blank one_ring)

pub one_lines : OneValue (λ d ls. EmptyOrParted (SpellsList d) ls)
one_lines = one_parted SpellsList (one_item SpellsList (blankless SpellsList (choice_begins SpellsList SpellsRing (λ ps. Some ps) None list_choice)) one_list)

pub one_areas : OneValue (λ d areas. EmptyOrParted (SpellsArea d) areas)
one_areas = one_parted SpellsArea (one_item SpellsArea (blankless SpellsArea (choice_begins SpellsArea (Bracketed SpellsRing) (λ xs. xs) [] (parted_choice SpellsRing))) one_area)

-- ---- points of a multipoint

-- a point as it stands in a list: EMPTY or in brackets, or without
ended_member : (d : ℕ) (p : Option Position) (last : Bool) (at : ℕ) (v : List ℕ) → (SpellsPointMember d p ▸ Delimiter d last) at v
    → (SpellsPoint d p ▸ Delimiter d last) at v ⊎ ((q : Position) × (p ≡ Some q) × EndedPosition d (q, last) at v)
ended_member d None last at v h = inl h
ended_member d (Some p) last at v (a, b, e, inl h, q) = inr (p, refl, (a, b, e, h, q))
ended_member d (Some p) last at v (a, b, e, inr h, q) = inl (a, b, e, h, q)

bare_fails : (d : ℕ) (p : Position × Bool) → Fails opens (EndedPosition d p)
bare_fails d p at v h = let (b, t, e, k) = ended_begins d p at v h in (b, t, e, number_shut b k)

point_opens : (d : ℕ) (p : Option Position) (last : Bool) → Passes opens (SpellsPoint d p ▸ Delimiter d last)
point_opens d p last = passes_then opens (SpellsPoint d p) (Delimiter d last) (choice_begins SpellsPoint EnclosedPosition (λ p. Some p) None point_choice d p)

one_ended_member : (d e : ℕ) (p q : Option Position) (a b : Bool) → Agree (SpellsPointMember d p ▸ Delimiter d a) (SpellsPointMember e q ▸ Delimiter e b) (◌≡◌ {A = Option Position × Bool} (p, a) (q, b))
one_ended_member d e p q a b at v w r s h k line = elim (ended_member d p a at v h) [
  | inl hp ↦ elim (ended_member e q b at w k) [
    | inl hq ↦ (let (same, text) = agree_then (SpellsPoint d p) (Delimiter d a) (SpellsPoint e q) (Delimiter e b) (one_point d e p q) (blank_delimiter d e a b) at v w r s hp hq line in (pair_same same.0 same.1, text))
    | inr (y, ey, hy) ↦ agree_apart opens (SpellsPoint d p ▸ Delimiter d a) (EndedPosition e (y, b)) (point_opens d p a) (bare_fails e (y, b)) at v w r s hp hy line
  ]
  | inr (x, ex, hx) ↦ elim (ended_member e q b at w k) [
    | inl hq ↦ agree_turned (SpellsPoint e q ▸ Delimiter e b) (EndedPosition d (x, a)) (agree_apart opens (SpellsPoint e q ▸ Delimiter e b) (EndedPosition d (x, a)) (point_opens e q b) (bare_fails d (x, a))) at v w r s hx hq line
    | inr (y, ey, hy) ↦ (let (same, text) = one_ended d e (x, a) (y, b) at v w r s hx hy line in (pair_same (ex ∙ (ap (λ z. Some z.0) same ∙ sym ey)) (ap (λ z. z.1) same), text))
  ]
]

one_member : OneValue (Item SpellsPointMember)
one_member d e (p, a) (q, b) = agree_many is_blank (SpellsPointMember d p ▸ Delimiter d a) (SpellsPointMember e q ▸ Delimiter e b)
    (fails_then is_blank (SpellsPointMember d p) (Delimiter d a) (shuts SpellsPointMember member_begins d p)) (fails_then is_blank (SpellsPointMember e q) (Delimiter e b) (shuts SpellsPointMember member_begins e q))
    (one_ended_member d e p q a b)

pub one_points : OneValue (λ d ps. EmptyOrParted (SpellsPointMember d) ps)
one_points = one_parted SpellsPointMember one_member
