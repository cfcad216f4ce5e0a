-- A test, told by its first letter, and tests behind one another up to the end of the text.
-- For `read_query`.
use Rattle.std.proofs.Common.{◌≡◌, ℕ, ◌+◌, ◌≤◌, ◌==◌, ◌||◌, ◌⊎◌, inl, inr, Bool, true, false, List, ◌∷◌, ◌++◌, length, codes, None, refl, ◌∙◌, ap, arith}
use Rattle.at_fixed.specs.declared.rounding.Coords.{Coords}
use Rattle.at_lex.specs.Strings.{units_of}
use Rattle.at_query.specs.declared.query.queries.Test.TheVariants.{Has}
use Rattle.at_query.specs.Spelling.{Spelled, in_box, meets_box, meets, has, SpellsTest}
use Rattle.at_wkt.specs.Readers.{next}
use Rattle.at_query.specs.Readers.{Stops, Behind, Then, TestMeaning, kept_in, met_box, box_meaning, Box, Text, Target, InTest, MeetsTest, HasTest, test_meaning, OneTest}
use Rattle.at_query.proofs.Parted.{Lives, Begins, When, Tells, none_stops, behind_lives, then_lives}
use Rattle.at_query.proofs.GeometryParts.{target_lives}
use Rattle.at_query.proofs.StringParts.{text_lives}

-- ---- a name and a value

abbrev Value : List ℕ → ℕ → List ℕ → Type 0
Value = Behind (codes " = ") Text

abbrev Pair : List ℕ × List ℕ → ℕ → List ℕ → Type 0
Pair = Then Text Value

abbrev pub has_meaning : List ℕ × List ℕ → TestMeaning
has_meaning p = record { test = Has p.0 p.1; fault = None }

pub value_lives : Lives Value
value_lives = behind_lives (codes " = ") text_lives

pub pair_lives : Lives Pair
pair_lives = then_lives text_lives value_lives

pub has_tells : Tells HasTest (Behind (codes "has ") Pair) (λ at. has_meaning)
has_tells = record { to = λ p at v h. (p, refl, h); from = λ m at v (p, em, h). (p, em, h) }

-- ---- the first letters

abbrev pub is_i : ℕ → Bool
is_i b = b == 0x69

abbrev pub is_m : ℕ → Bool
is_m b = b == 0x6D

abbrev pub is_h : ℕ → Bool
is_h b = b == 0x68

abbrev is_some : ℕ → Bool
is_some b = (b == 0x69) || ((b == 0x6D) || (b == 0x68))

abbrev pub letter : Spelled → ℕ
letter (in_box b) = 0x69
letter (has name value) = 0x68
letter _ = 0x6D

pub front : (t : Spelled) (at : ℕ) (v : List ℕ) → SpellsTest t at v → (u : List ℕ) × (v ≡ letter t ∷ u)
front (in_box b) at v (v1, v2, ev, word, s) = (codes "n " ++ v2, ev ∙ ap (λ z. z ++ v2) word)
front (has name value) at v (v1, v2, ev, word, s) = (codes "as " ++ v2, ev ∙ ap (λ z. z ++ v2) word)
front _ at v (v1, v2, ev, word, s) = (codes "eets " ++ v2, ev ∙ ap (λ z. z ++ v2) word)

some_letter : (t : Spelled) → is_some (letter t) ≡ true
some_letter (in_box b) = refl
some_letter _ = refl

module _ (digits : ℕ) (how : Coords) where
  pub in_tells : Tells (InTest digits how) (Behind (codes "in ") (Box digits how)) (λ at. kept_in)
  in_tells = record { to = λ b at v h. (b, refl, h); from = λ m at v (b, em, h). (b, em, h) }

  -- a test is of the kind P, or begins with another letter
  abbrev Or : (ℕ → Bool) → (TestMeaning → ℕ → List ℕ → Type 0) → Type 0
  Or test P = (m : TestMeaning) (at : ℕ) (v : List ℕ) (t : Spelled) → m ≡ test_meaning digits how t → SpellsTest t at v → ((n : TestMeaning) × (m ≡ n) × P n at v) ⊎ ((b : ℕ) × (u : List ℕ) × (v ≡ b ∷ u) × (test b ≡ false))

  in_from : Or is_i (InTest digits how)
  in_from m at v (in_box b) em (v1, v2, ev, word, s) = inl (m, refl, (box_meaning digits how b, em, (v1, v2, ev, word, (b, refl, s))))
  in_from m at v t em s = let (u, e) = front t at v s in inr (letter t, u, e, refl)

  meets_from : Or is_m (MeetsTest digits how)
  meets_from m at v (meets_box b) em (v1, v2, ev, word, s) = inl (m, refl, (v1, v2, ev, word, inl (box_meaning digits how b, em, (b, refl, s))))
  meets_from m at v (meets g) em (v1, v2, ev, word, s) = inl (m, refl, (v1, v2, ev, word, inr (g, em, s)))
  meets_from m at v t em s = let (u, e) = front t at v s in inr (letter t, u, e, refl)

  has_from : Or is_h HasTest
  has_from m at v (has name value) em (v1, v2, ev, word, (v3, v4, e2, s, (v5, v6, e3, equals, t))) =
      inl (m, refl, ((_, _), em, (v1, v2, ev, word, (v3, v4, e2, (name, refl, s), (v5, v6, e3, equals, (value, refl, t))))))
  has_from m at v t em s = let (u, e) = front t at v s in inr (letter t, u, e, refl)

  pub when_in : When (OneTest digits how) (InTest digits how) (λ m. m) is_i
  when_in = record {
    to = λ m at v (bm, em, (v1, v2, ev, word, (b, eb, s))). (in_box b, em ∙ ap kept_in eb, (v1, v2, ev, word, s));
    from = λ m at v (t, em, s). in_from m at v t em s;
    begins = λ m at v (b, em, (v1, v2, ev, word, more)). (0x69, codes "n " ++ v2, ev ∙ ap (λ z. z ++ v2) word, refl);
  }

  target_to : (m : TestMeaning) (at : ℕ) (v v1 v2 : List ℕ) → v ≡ v1 ++ v2 → v1 ≡ codes "meets " → Target digits how m (at + length v1) v2 → OneTest digits how m at v
  target_to m at v v1 v2 ev word (inl (bm, em, (b, eb, s))) = (meets_box b, em ∙ ap met_box eb, (v1, v2, ev, word, s))
  target_to m at v v1 v2 ev word (inr (g, em, s)) = (meets g, em, (v1, v2, ev, word, s))

  pub when_meets : When (OneTest digits how) (MeetsTest digits how) (λ m. m) is_m
  when_meets = record {
    to = λ m at v (v1, v2, ev, word, t). target_to m at v v1 v2 ev word t;
    from = λ m at v (t, em, s). meets_from m at v t em s;
    begins = λ m at v (v1, v2, ev, word, more). (0x6D, codes "eets " ++ v2, ev ∙ ap (λ z. z ++ v2) word, refl);
  }

  pub when_has : When (OneTest digits how) HasTest (λ m. m) is_h
  when_has = record {
    to = λ m at v (p, em, (v1, v2, ev, word, (v3, v4, e2, (name, en, s), (v5, v6, e3, equals, (value, e4, t))))).
        (has name value, em ∙ (ap (λ z. has_meaning (z, p.1)) en ∙ ap (λ z. has_meaning (units_of name, z)) e4), (v1, v2, ev, word, (v3, v4, e2, s, (v5, v6, e3, equals, t))));
    from = λ m at v (t, em, s). has_from m at v t em s;
    begins = λ m at v (p, em, (v1, v2, ev, word, more)). (0x68, codes "as " ++ v2, ev ∙ ap (λ z. z ++ v2) word, refl);
  }

  pub one_lives : Lives (OneTest digits how)
  one_lives at = let (m, v, h) = behind_lives (codes "meets ") (target_lives digits how) at in (m, v, when_meets.to m at v h)

  one_begins : Begins is_some (OneTest digits how)
  one_begins m at v (t, em, s) = let (u, e) = front t at v s in (letter t, u, e, some_letter t)

  none_of : (b : ℕ) → is_i b ≡ false → is_m b ≡ false → is_h b ≡ false → is_some b ≡ false
  none_of b e f g = grind (arith, e, f, g)

  pub test_stops : (w : List ℕ) (i : ℕ) → i ≤ length w → is_i (next w i) ≡ false → is_m (next w i) ≡ false → is_h (next w i) ≡ false → Stops (OneTest digits how) w i i
  test_stops w i within e f g = none_stops is_some w i one_begins one_lives within (none_of (next w i) e f g)
