-- A box: four numbers, each with the byte behind it, behind the word.
-- For `read_query`.
use Rattle.std.proofs.Common.{◌≡◌, ℕ, Bool, true, false, if◌then◌else◌, min, List, [], ◌∷◌, ◌++◌, codes, Option, Some, None, refl, sym, ◌∙◌, ap, arith}
use Rattle.at_fixed.specs.declared.rounding.Coords.{Coords}
use Rattle.at_fixed.specs.Numerals.{Numeral}
use Rattle.at_geom.specs.declared.rectangles.Extent.{Extent}
use Rattle.at_query.specs.declared.query.boxes.Corners.{Corners}
use Rattle.at_query.specs.Spelling.{Placed, SpelledBox}
use Rattle.at_query.specs.Queries.{lesser, least_of, faults_with, is_reversed, numbers_faults, placed_faults}
use Rattle.at_query.specs.Readers.{Behind, Then, NumberMeaning, BoxMeaning, Four, fault_with, number_meaning, Number, FourNumbers, box_meaning, Box, box_in, four_in, extent_in, four_fault}
use Rattle.at_query.proofs.Parted.{Lives, Tells, behind_lives, then_lives, told_lives}

-- ---- the least of offsets

pub lesser-assoc : (a b c : Option ℕ) → lesser (lesser a b) c ≡ lesser a (lesser b c)
lesser-assoc None b c = refl
lesser-assoc (Some a) None c = refl
lesser-assoc (Some a) (Some b) None = refl
lesser-assoc (Some a) (Some b) (Some c) = let e : min (min a b) c ≡ min a (min b c) = omega arith in ap (λ n. Some n) e

pub lesser-none : (a : Option ℕ) → lesser a None ≡ a
lesser-none None = refl
lesser-none (Some a) = refl

pub least_of-append : (a b : List ℕ) → least_of (a ++ b) ≡ lesser (least_of a) (least_of b)
least_of-append [] b = refl
least_of-append (n ∷ a) b = ap (lesser (Some n)) (least_of-append a b) ∙ sym (lesser-assoc (Some n) (least_of a) (least_of b))

reversed_least : (b : Bool) (at : ℕ) → least_of (if b then at ∷ [] else []) ≡ (if b then Some at else None)
reversed_least true at = refl
reversed_least false at = refl

some_least : (n : ℕ) (o : Option ℕ) (e : Extent) (at : ℕ) → lesser (Some n) o ≡ fault_with (lesser (Some n) o) e at
some_least n None e at = refl
some_least n (Some m) e at = refl

least_with : (ns : List ℕ) (e : Extent) (at : ℕ) → least_of (faults_with ns e at) ≡ fault_with (least_of ns) e at
least_with [] e at = reversed_least (is_reversed e) at
least_with (n ∷ ns) e at = some_least n (least_of ns) e at

module _ (digits : ℕ) (how : Coords) where
  -- ---- the four numbers

  abbrev N : ℕ → NumberMeaning → ℕ → List ℕ → Type 0
  N d = Number digits how d

  nought : Numeral
  nought = record { sign = []; whole = 0x30 ∷ []; fraction = None; exponent = None }

  pub number_lives : (d : ℕ) → Lives (N d)
  unfolding nought
  number_lives d at =
      let n : Placed = record { number = nought; at = at } in
      (number_meaning digits how n, 0x30 ∷ d ∷ [], (n, refl, (0x30 ∷ [], d ∷ [], refl, (refl, (record { sign = tt; digits = ((refl, tt), tt); exponent = tt }, refl)), refl)))

  abbrev Last : NumberMeaning × NumberMeaning → ℕ → List ℕ → Type 0
  Last = Then (N 0x20) (N 0x29)

  abbrev Three : NumberMeaning × (NumberMeaning × NumberMeaning) → ℕ → List ℕ → Type 0
  Three = Then (N 0x2C) Last

  pub last_lives : Lives Last
  last_lives = then_lives (number_lives 0x20) (number_lives 0x29)

  pub three_lives : Lives Three
  three_lives = then_lives (number_lives 0x2C) last_lives

  -- ---- the box

  -- the meaning of a box of these numbers, whose word stands at the offset
  abbrev pub box_of : ℕ → Four → BoxMeaning
  box_of at f =
      let extent : Extent = record { low = record { x = f.0.value; y = f.1.0.value }; high = record { x = f.1.1.0.value; y = f.1.1.1.value } } in
      record { extent = extent; fault = fault_with (lesser f.0.fault (lesser f.1.0.fault (lesser f.1.1.0.fault f.1.1.1.fault))) extent at }

  abbrev four_of : SpelledBox → Four
  four_of b = (number_meaning digits how b.low_x, (number_meaning digits how b.low_y, (number_meaning digits how b.high_x, number_meaning digits how b.high_y)))

  numbers_least : (b : SpelledBox) → least_of (numbers_faults digits how b) ≡ lesser (least_of (placed_faults digits how b.low_x)) (lesser (least_of (placed_faults digits how b.low_y))
      (lesser (least_of (placed_faults digits how b.high_x)) (least_of (placed_faults digits how b.high_y))))
  numbers_least b = simp least_of-append

  meaning_is : (b : SpelledBox) → box_meaning digits how b ≡ box_of b.at (four_of b)
  meaning_is b =
      let extent : Extent = (box_of b.at (four_of b)).extent in
      ap (λ z. record { extent = extent; fault = z }) (least_with (numbers_faults digits how b) extent b.at ∙ ap (λ z. fault_with z extent b.at) (numbers_least b))

  same_four : (b : SpelledBox) (f : Four) → f.0 ≡ number_meaning digits how b.low_x → f.1.0 ≡ number_meaning digits how b.low_y → f.1.1.0 ≡ number_meaning digits how b.high_x → f.1.1.1 ≡ number_meaning digits how b.high_y
      → f ≡ four_of b
  same_four b f e1 e2 e3 e4 = let same : ◌≡◌ {A = Four} (f.0, (f.1.0, (f.1.1.0, f.1.1.1))) (four_of b) = cc in same

  pub box_tells : Tells (Box digits how) (Behind (codes "box(") (FourNumbers digits how)) box_of
  box_tells = record {
    to = λ f at v (v1, v2, ev, word, (v3, v4, e2, (p1, m1, s1), (v5, v6, e3, (p2, m2, s2), (v7, v8, e4, (p3, m3, s3), (p4, m4, s4))))).
        let b : SpelledBox = record { at = at; low_x = p1; low_y = p2; high_x = p3; high_y = p4 } in
        (b, ap (box_of at) (same_four b f m1 m2 m3 m4) ∙ sym (meaning_is b), (refl, (v1, v2, ev, word, (v3, v4, e2, s1, (v5, v6, e3, s2, (v7, v8, e4, s3, s4))))));
    from = λ m at v (b, em, (ei, (v1, v2, ev, word, (v3, v4, e2, s1, (v5, v6, e3, s2, (v7, v8, e4, s3, s4)))))). (
      four_of b,
      em ∙ (meaning_is b ∙ ap (λ z. box_of z (four_of b)) ei),
      (v1, v2, ev, word, (v3, v4, e2, (b.low_x, refl, s1), (v5, v6, e3, (b.low_y, refl, s2), (v7, v8, e4, (b.high_x, refl, s3), (b.high_y, refl, s4))))),
    );
  }

  pub four_lives : Lives (FourNumbers digits how)
  four_lives = then_lives (number_lives 0x20) three_lives

  pub box_lives : Lives (Box digits how)
  box_lives = told_lives box_tells (behind_lives (codes "box(") four_lives)

  -- the meaning is what was read
  pub box_is : (at : ℕ) (c : Corners) (end : ℕ) (extent : Extent) (fault : Option ℕ) → extent ≡ extent_in c → fault ≡ fault_with (four_fault c) extent at
      → box_of at (four_in c) ≡ box_in (record { end = end; extent = extent; fault = fault })
  box_is at c end extent fault e f =
      let same : fault_with (four_fault c) (extent_in c) at ≡ fault = ap (λ z. fault_with (four_fault c) z at) (sym e) ∙ sym f in
      ap (λ z. record { extent = extent_in c; fault = z }) same ∙ ap (λ z. record { extent = z; fault = fault }) (sym e)
