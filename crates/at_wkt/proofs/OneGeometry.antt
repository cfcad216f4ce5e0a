-- A text spells at most one geometry, and no geometry's spelling is a proper prefix of a spelling.
-- For `only` in what `read_line` and `read_geometry` answer (`HasLineShape`, `HasFirstLineFault`, `IsPrefixOf`).
use Rattle.std.proofs.Common.{◌≡◌, ℕ, ◌+◌, inl, inr, Bool, true, false, ◌||◌, ◌==◌, IsTrue, List, [], ◌++◌, length, codes, Option, Some, None, refl, sym, ◌∙◌, ap, subst, append-nil, append_assoc, true≢false, arith}
use Rattle.std.specs.List.{AllByRecursion}
use Rattle.std.proofs.ByRecursion.{All-append}
use Rattle.std.specs.Char.{to_ascii_uppercase}
use Rattle.std.proofs.lemmas.List.{append_cancel_left}
use Rattle.at_wkt.proofs.Names.{Exactly, AnyCase, Many, ◌▸◌, Kind, Position, Positions, Point, LineString, Polygon, MultiPoint, MultiLineString, MultiPolygon, GeometryCollection, Geometry, point, line_string, polygon, multi_point, multi_line_string, multi_polygon, collection, Geometries, no_geometries, geometry_and, is_blank, EmptyWord, EmptyOrParted, Letter, SpellsPoint, SpellsList, SpellsPointMember, SpellsArea, SpellsGeometry, SpellsFurtherGeometries, IsLineOf, opens, word_of, Delimiter, Body, FurtherThen, EnclosedPosition, SpellsRing}
use Rattle.at_text.specs.Parts.{Nothing}
use Rattle.at_wkt.specs.Geometry.{SpellsGeometries}
use Rattle.at_wkt.proofs.Agreement.{Agree, OneValue, Fails, Passes, agree_then, agree_map, agree_exactly, agree_any_case, agree_many, agree_apart, agree_turned, agree_as, fails_then, not_fails}
use Rattle.at_wkt.proofs.Lists.{to_left, to_right, behind}
use Rattle.at_wkt.proofs.WordSteps.{kind_only, one_letter, two_letters}
use Rattle.at_wkt.proofs.BodySteps.{is_open, choice_begins, point_choice, list_choice, parted_choice, Bracketed, empty_opens, empty_fails}
use Rattle.at_wkt.proofs.GeometrySteps.{geometry_parts, further_join, Spelling}
use Rattle.at_wkt.proofs.CollectionSteps.{kind_first}
use Rattle.at_wkt.proofs.OneBody.{blank_delimiter, one_point, one_list, one_area, one_points, one_lines, one_areas, wider}

-- ---- blanks and a letter between the word and the body

abbrev is_letter : ℕ → Bool
is_letter b = (to_ascii_uppercase b == 0x5A) || (to_ascii_uppercase b == 0x4D)

abbrev in_head : ℕ → Bool
in_head b = is_blank b || is_letter b

abbrev AreHead : List ℕ → Type 0
AreHead w = AllByRecursion (λ b. IsTrue (in_head b)) w

blank_head : (b : ℕ) → is_blank b ≡ true → in_head b ≡ true
blank_head b h = grind (arith, h)

z_head : (b : ℕ) → to_ascii_uppercase b ≡ 0x5A → in_head b ≡ true
z_head b h = grind (arith, h)

m_head : (b : ℕ) → to_ascii_uppercase b ≡ 0x4D → in_head b ≡ true
m_head b h = grind (arith, h)

opens_no_head : (b : ℕ) → opens b ≡ true → in_head b ≡ false
opens_no_head b h = grind (arith, h)

letter_head : (d at : ℕ) (w : List ℕ) → Letter d at w → AreHead w
letter_head d at w (inl (none, low, high)) = subst AreHead (sym none) tt
letter_head d at w (inr (inl (inl z, more))) = let (b, e, h) = one_letter w w 0x5A z in subst AreHead (sym e) (z_head b h, tt)
letter_head d at w (inr (inl (inr m, more))) = let (b, e, h) = one_letter w w 0x4D m in subst AreHead (sym e) (m_head b h, tt)
letter_head d at w (inr (inr (zm, more))) = let (b, c, e, h, k) = two_letters w 0x5A 0x4D zm in subst AreHead (sym e) (z_head b h, (m_head c k, tt))

-- the letter and the blanks round it, as bytes that pass
head_plain : (d : ℕ) (B : ℕ → List ℕ → Type 0) (at : ℕ) (v : List ℕ) → (Many is_blank ▸ (Letter d ▸ (Many is_blank ▸ B))) at v → (Many in_head ▸ B) at v
head_plain d B at v h =
    let one : ((Many is_blank ▸ Letter d) ▸ (Many is_blank ▸ B)) at v = to_left (Many is_blank) (Letter d) (Many is_blank ▸ B) at v h in
    let (u, z, g, (p, q, i, (l, m, j, hl, hm), hq), hz) = to_left (Many is_blank ▸ Letter d) (Many is_blank) B at v one in
    (u, z, g, subst AreHead (sym (i ∙ ap (λ t. t ++ q) j)) (All-append (λ b. IsTrue (in_head b)) (l ++ m) q (All-append (λ b. IsTrue (in_head b)) l m (wider is_blank in_head blank_head l hl) (letter_head d (at + length l) m hm)) (wider is_blank in_head blank_head q hq)), hz)

opens_stops : (A : ℕ → List ℕ → Type 0) → Passes opens A → Fails in_head A
opens_stops A h at v a = let (b, t, e, k) = h at v a in (b, t, e, opens_no_head b k)

-- ---- the word of a kind, and what stands behind it

module _ {E : Type 0} (k : Kind) (d : ℕ) (B : ℕ → List ℕ → Type 0) (h : Geometry) (stop : Fails in_head B) (end : (e : ℕ) → Fails in_head (Body k e h)) (two : (e : ℕ) → Agree B (Body k e h) E) where
  one_head : (e : ℕ) → Agree (Many is_blank ▸ (Letter d ▸ (Many is_blank ▸ B))) (Many is_blank ▸ (Letter e ▸ (Many is_blank ▸ Body k e h))) E
  one_head e = agree_as (Many is_blank ▸ (Letter d ▸ (Many is_blank ▸ B))) (Many is_blank ▸ (Letter e ▸ (Many is_blank ▸ Body k e h))) (Many in_head ▸ B) (Many in_head ▸ Body k e h)
      (head_plain d B) (head_plain e (Body k e h)) (agree_many in_head B (Body k e h) stop (end e) (two e))

  of_kind : Agree (AnyCase (word_of k) ▸ (Many is_blank ▸ (Letter d ▸ (Many is_blank ▸ B)))) (Spelling h) E
  of_kind at v w r s (a, b, f, p, q) hh line =
      let (m, e, (c, z, i, n, t)) = geometry_parts h at w hh in
      let whole : a ++ (b ++ r) ≡ c ++ (z ++ s) = sym (append_assoc a b r) ∙ (ap (λ u. u ++ r) (sym f) ∙ (line ∙ (ap (λ u. u ++ s) i ∙ append_assoc c z s))) in
      let (ek, same) = kind_only m k a c (b ++ r) (z ++ s) n p whole in
      let T : Kind → Type 0 = λ x. (Many is_blank ▸ (Letter e ▸ (Many is_blank ▸ Body x e h))) (at + length c) z in
      let (x, text) = agree_then (AnyCase (word_of k)) (Many is_blank ▸ (Letter d ▸ (Many is_blank ▸ B))) (AnyCase (word_of k)) (Many is_blank ▸ (Letter e ▸ (Many is_blank ▸ Body k e h))) (agree_any_case (word_of k)) (one_head e)
      at v w r s (a, b, f, p, q) (c, z, i, n ∙ ap word_of (sym ek), subst T (sym ek) t) line in
      (x.1, text)

module _ {X : Type 0} (P : ℕ → X → ℕ → List ℕ → Type 0) (make : X → Geometry) where
  abbrev Made : ℕ → Geometry → ℕ → List ℕ → Type 0
  Made e h at w = (y : X) × (h ≡ make y) × P e y at w

  one_made : OneValue P → (d e : ℕ) (x : X) (h : Geometry) → Agree (P d x) (Made e h) (make x ≡ h)
  one_made one d e x h at v w r s p (y, eh, q) line = let (same, text) = one d e x y at v w r s p q line in (ap make same ∙ sym eh, text)

  made_stops : ((d : ℕ) (x : X) → Passes opens (P d x)) → (e : ℕ) (h : Geometry) → Fails in_head (Made e h)
  made_stops begins e h at v (y, eh, q) = opens_stops (P e y) (begins e y) at v q

point_opens : (d : ℕ) (p : Option Position) → Passes opens (SpellsPoint d p)
point_opens d p = choice_begins SpellsPoint EnclosedPosition (λ p. Some p) None point_choice d p

list_opens : (d : ℕ) (p : Option Positions) → Passes opens (SpellsList d p)
list_opens d p = choice_begins SpellsList SpellsRing (λ ps. Some ps) None list_choice d p

parted_opens : {X : Type 0} (P : ℕ → X → ℕ → List ℕ → Type 0) (d : ℕ) (xs : List X) → Passes opens (EmptyOrParted (P d) xs)
parted_opens P d xs = choice_begins (λ d xs. EmptyOrParted (P d) xs) (Bracketed P) (λ xs. xs) [] (parted_choice P) d xs

abbrev Members : Geometries → ℕ → List ℕ → Type 0
Members gs i v = SpellsGeometries i v gs

members_opens : (gs : Geometries) → Passes opens (Members gs)
members_opens no_geometries at v h = empty_opens at v h
members_opens (geometry_and g gs) at v (a, b, e, here, q) = (0x28, b, e ∙ ap (λ z. z ++ b) here, refl)

members_open : (g : Geometry) (gs : Geometries) → Passes is_open (Members (geometry_and g gs))
members_open g gs at v (a, b, e, here, q) = (0x28, b, e ∙ ap (λ z. z ++ b) here, refl)

pub geometry_shuts : (g : Geometry) → Fails is_blank (Spelling g)
geometry_shuts g = not_fails is_blank (Spelling g) (λ at v h.
    let (k, d, (a, r, e, w, q)) = geometry_parts g at v h in
    let (b, t, f, n) = kind_first k a w in (b, t ++ r, e ∙ ap (λ z. z ++ r) f, n))

-- ---- members of a collection

-- the members up to the closing bracket
abbrev Ended : Geometry → Geometries → ℕ → List ℕ → Type 0
Ended g gs = Exactly (codes "(") ▸ (Many is_blank ▸ (Spelling g ▸ FurtherThen gs Nothing))

members_plain : (g : Geometry) (gs : Geometries) (at : ℕ) (v : List ℕ) → Members (geometry_and g gs) at v → Ended g gs at v
members_plain g gs at v (a, b, e, here, (c, d, f, hm, q)) =
    let F : ℕ → List ℕ → Type 0 = λ i v. SpellsFurtherGeometries i v gs in
    let (x, y, i, hg, r) = to_right (Spelling g) F (Delimiter 0 true) (at + length a + length c) d q in
    let more = behind F (Delimiter 0 true) (Delimiter 0 true ▸ Nothing) (λ j u t. (u, [], sym (append-nil u), t, refl)) (at + length a + length c + length x) y r in
    (a, b, e, here, (c, d, f, hm, (x, y, i, hg, further_join gs Nothing _ y more)))

one_nothing : Agree Nothing Nothing (Unit {0})
one_nothing at v w r s p q line = (tt, p ∙ sym q)

last_or_further : {E : Type 0} (B D : ℕ → List ℕ → Type 0) → Agree (Delimiter 0 true ▸ B) (Delimiter 0 false ▸ D) E
last_or_further B D at v w r s (a, b, e, p, q) (c, d, f, m, n) line =
    let whole : a ++ (b ++ r) ≡ c ++ (d ++ s) = sym (append_assoc a b r) ∙ (ap (λ z. z ++ r) (sym e) ∙ (line ∙ (ap (λ z. z ++ s) f ∙ append_assoc c d s))) in
    absurd (true≢false (blank_delimiter 0 0 true false at a c (b ++ r) (d ++ s) p m whole).0)

-- a geometry behind blanks, and what follows it
one_next : (g h : Geometry) (gs hs : Geometries) → Agree (Spelling g) (Spelling h) (g ≡ h) → Agree (FurtherThen gs Nothing) (FurtherThen hs Nothing) (gs ≡ hs)
    → Agree (Many is_blank ▸ (Spelling g ▸ FurtherThen gs Nothing)) (Many is_blank ▸ (Spelling h ▸ FurtherThen hs Nothing)) ((g ≡ h) × (gs ≡ hs))
one_next g h gs hs one rest = agree_many is_blank (Spelling g ▸ FurtherThen gs Nothing) (Spelling h ▸ FurtherThen hs Nothing) (fails_then is_blank (Spelling g) (FurtherThen gs Nothing) (geometry_shuts g))
    (fails_then is_blank (Spelling h) (FurtherThen hs Nothing) (geometry_shuts h)) (agree_then (Spelling g) (FurtherThen gs Nothing) (Spelling h) (FurtherThen hs Nothing) one rest)

-- whatever two geometries are spelled at one offset, with whatever behind them, they are the same where the texts are
mutual
  pub one_geometry : (g h : Geometry) → Agree (Spelling g) (Spelling h) (g ≡ h)
  one_geometry (point p) h at v w r s (d, q) hh line = of_kind Point d (SpellsPoint d p) h (opens_stops (SpellsPoint d p) (point_opens d p)) (λ e. made_stops SpellsPoint point point_opens e h)
      (λ e. one_made SpellsPoint point one_point d e p h) at v w r s q hh line
  one_geometry (line_string p) h at v w r s (d, q) hh line = of_kind LineString d (SpellsList d p) h (opens_stops (SpellsList d p) (list_opens d p)) (λ e. made_stops SpellsList line_string list_opens e h)
      (λ e. one_made SpellsList line_string one_list d e p h) at v w r s q hh line
  one_geometry (polygon p) h at v w r s (d, q) hh line = of_kind Polygon d (SpellsArea d p) h (opens_stops (SpellsArea d p) (parted_opens SpellsRing d p)) (λ e. made_stops SpellsArea polygon (parted_opens SpellsRing) e h)
      (λ e. one_made SpellsArea polygon one_area d e p h) at v w r s q hh line
  one_geometry (multi_point p) h at v w r s (d, q) hh line = of_kind MultiPoint d (EmptyOrParted (SpellsPointMember d) p) h (opens_stops (EmptyOrParted (SpellsPointMember d) p) (parted_opens SpellsPointMember d p))
      (λ e. made_stops (λ d ps. EmptyOrParted (SpellsPointMember d) ps) multi_point (parted_opens SpellsPointMember) e h) (λ e. one_made (λ d ps. EmptyOrParted (SpellsPointMember d) ps) multi_point one_points d e p h) at v w r s q hh line
  one_geometry (multi_line_string p) h at v w r s (d, q) hh line = of_kind MultiLineString d (EmptyOrParted (SpellsList d) p) h (opens_stops (EmptyOrParted (SpellsList d) p) (parted_opens SpellsList d p))
      (λ e. made_stops (λ d ps. EmptyOrParted (SpellsList d) ps) multi_line_string (parted_opens SpellsList) e h) (λ e. one_made (λ d ps. EmptyOrParted (SpellsList d) ps) multi_line_string one_lines d e p h) at v w r s q hh line
  one_geometry (multi_polygon p) h at v w r s (d, q) hh line = of_kind MultiPolygon d (EmptyOrParted (SpellsArea d) p) h (opens_stops (EmptyOrParted (SpellsArea d) p) (parted_opens SpellsArea d p))
      (λ e. made_stops (λ d ps. EmptyOrParted (SpellsArea d) ps) multi_polygon (parted_opens SpellsArea) e h) (λ e. one_made (λ d ps. EmptyOrParted (SpellsArea d) ps) multi_polygon one_areas d e p h) at v w r s q hh line
  one_geometry (collection gs) h at v w r s (d, q) hh line = of_kind GeometryCollection d (Members gs) h (opens_stops (Members gs) (members_opens gs)) (λ e. made_stops (λ d hs. Members hs) collection (λ d hs. members_opens hs) e h)
      (λ e at2 v2 w2 r2 s2 p (hs, eh, m) line2. let (same, text) = one_all gs hs at2 v2 w2 r2 s2 p m line2 in (ap collection same ∙ sym eh, text)) at v w r s q hh line

  one_all : (gs hs : Geometries) → Agree (Members gs) (Members hs) (gs ≡ hs)
  one_all no_geometries no_geometries at v w r s p q line = (refl, (agree_any_case (codes "EMPTY") at v w r s p q line).1)
  one_all no_geometries (geometry_and h hs) at v w r s p q line = agree_turned (Members (geometry_and h hs)) EmptyWord (agree_apart is_open (Members (geometry_and h hs)) EmptyWord (members_open h hs) empty_fails) at v w r s p q line
  one_all (geometry_and g gs) no_geometries at v w r s p q line = agree_apart is_open (Members (geometry_and g gs)) EmptyWord (members_open g gs) empty_fails at v w r s p q line
  one_all (geometry_and g gs) (geometry_and h hs) at v w r s p q line =
      let (same, text) = agree_then (Exactly (codes "(")) (Many is_blank ▸ (Spelling g ▸ FurtherThen gs Nothing)) (Exactly (codes "(")) (Many is_blank ▸ (Spelling h ▸ FurtherThen hs Nothing)) (agree_exactly (codes "(")) (one_next g h gs hs (one_geometry g h) (one_further gs hs)) at v w r s (members_plain g gs at v p) (members_plain h hs at w q) line in
      (ap (λ z. geometry_and z gs) same.1.0 ∙ ap (λ z. geometry_and h z) same.1.1, text)

  one_further : (gs hs : Geometries) → Agree (FurtherThen gs Nothing) (FurtherThen hs Nothing) (gs ≡ hs)
  one_further no_geometries no_geometries at v w r s p q line = agree_map (Delimiter 0 true ▸ Nothing) (Delimiter 0 true ▸ Nothing) (λ _. refl) (agree_then (Delimiter 0 true) Nothing (Delimiter 0 true) Nothing (blank_delimiter 0 0 true true) one_nothing) at v w r s p q line
  one_further no_geometries (geometry_and h hs) at v w r s p q line = last_or_further Nothing (Many is_blank ▸ (Spelling h ▸ FurtherThen hs Nothing)) at v w r s p q line
  one_further (geometry_and g gs) no_geometries at v w r s p q line = agree_turned (Delimiter 0 true ▸ Nothing) (Delimiter 0 false ▸ (Many is_blank ▸ (Spelling g ▸ FurtherThen gs Nothing))) (last_or_further Nothing (Many is_blank ▸ (Spelling g ▸ FurtherThen gs Nothing))) at v w r s p q line
  one_further (geometry_and g gs) (geometry_and h hs) at v w r s p q line =
      let (same, text) = agree_then (Delimiter 0 false) (Many is_blank ▸ (Spelling g ▸ FurtherThen gs Nothing)) (Delimiter 0 false) (Many is_blank ▸ (Spelling h ▸ FurtherThen hs Nothing)) (blank_delimiter 0 0 false false) (one_next g h gs hs (one_geometry g h) (one_further gs hs)) at v w r s p q line in
      (ap (λ z. geometry_and z gs) same.1.0 ∙ ap (λ z. geometry_and h z) same.1.1, text)

-- ---- the laws

-- a text spells at most one geometry
pub one_spelled : (at : ℕ) (w : List ℕ) (g h : Geometry) → SpellsGeometry at w g → SpellsGeometry at w h → g ≡ h
one_spelled at w g h p q = (one_geometry g h at w w [] [] p q refl).0

-- of what begins one text, no geometry's spelling is longer than another's
pub one_prefix : (at : ℕ) (v w r s : List ℕ) (g h : Geometry) → SpellsGeometry at v g → SpellsGeometry at w h → v ++ r ≡ w ++ s → (g ≡ h) × (v ≡ w) × (r ≡ s)
one_prefix at v w r s g h p q line =
    let (same, text) = one_geometry g h at v w r s p q line in
    (same, text, append_cancel_left w r s (ap (λ z. z ++ r) (sym text) ∙ line))

-- a line spells at most one geometry
pub one_line : (at : ℕ) (w : List ℕ) (g h : Geometry) → IsLineOf at w g → IsLineOf at w h → g ≡ h
one_line at w g h (a, b, e, ha, (x, y, f, hg, hy)) (c, d, i, hc, (z, u, j, hh, hu)) =
    let line : (a ++ x) ++ y ≡ (c ++ z) ++ u = append_assoc a x y ∙ (ap (λ t. a ++ t) (sym f) ∙ (sym e ∙ (i ∙ (ap (λ t. c ++ t) j ∙ sym (append_assoc c z u))))) in
    (agree_many is_blank (Spelling g) (Spelling h) (geometry_shuts g) (geometry_shuts h) (one_geometry g h) at (a ++ x) (c ++ z) y u (a, x, refl, ha, hg) (c, z, refl, hc, hh) line).0
