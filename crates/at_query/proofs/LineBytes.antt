-- What a line without a label spells is ASCII, and a position takes at least four bytes of it, with the comma or bracket behind it.
-- For the answers and joins of at_run.
use Rattle.std.proofs.Common.{◌≡◌, ℕ, ◌+◌, ◌-◌, ◌*◌, ◌<◌, ◌≤◌, inl, inr, Bool, true, IsTrue, List, [], ◌∷◌, ◌++◌, length, map, Option, Some, None, codes, refl, sym, ap, subst, arith, length-append}
use Rattle.std.specs.List.{AllByRecursion, list_all}
use Rattle.std.specs.Option.{IfSome}
use Rattle.std.specs.Char.{to_ascii_uppercase, is_ascii}
use Rattle.std.specs.Str.{IsUtf8}
use Rattle.std.proofs.lemmas.Str.{IsUtf8-from_ascii}
use Rattle.std.proofs.lemmas.Str.Ascii.{uppercase_is}
use Rattle.std.proofs.lemmas.List.{length-map}
use Rattle.std.proofs.lemmas.List.Sums.{AllPass-from_list_all}
use Rattle.std.proofs.lemmas.List.Elements.{recursion_from_All}
use Rattle.std.proofs.ByRecursion.{All-append, IsAscii-from_all}
use Rattle.at_text.specs.Parts.{Exactly, AnyCase, Many, OneOrMore, ◌▸◌, At}
use Rattle.at_text.specs.Texts.{is_digit}
use Rattle.at_fixed.specs.Numerals.{Numeral, Exponent, IsExponent, IsAtMostOneOf, AreDigits, AreSomeDigits, AreWktDigits, fraction_text, exponent_text}
use Rattle.at_wkt.specs.Positions.{Position, Positions}
use Rattle.at_wkt.specs.Geometry.{Geometry, point, line_string, polygon, multi_point, multi_line_string, multi_polygon, collection, Geometries, no_geometries, geometry_and, is_blank, SpellsNumber, SpellsFurther, SpellsPosition, InBrackets, EmptyWord, Parted, EmptyOrParted, SpellsRing, SpellsList, SpellsPoint, SpellsPointMember, SpellsArea, Letter, Kind, SpellsGeometry, SpellsGeometries, SpellsFurtherGeometries, IsLineOf, WktLine}
use Rattle.at_wkt.specs.Lines.{is_blank_text}

-- each byte is below 0x80
abbrev AreAscii : List ℕ → Type 0
AreAscii w = AllByRecursion (λ b. b < 128) w

-- what the part says is said in at least so many bytes, which are such bytes alone
abbrev Takes : ℕ → (ℕ → List ℕ → Type 0) → Type 0
Takes a P = (at : ℕ) (w : List ℕ) → P at w → (a ≤ length w) × AreAscii w

less : {a b : ℕ} {P : ℕ → List ℕ → Type 0} → Takes a P → b ≤ a → Takes b P
less p le at w h = let (m, x) = p at w h in ((omega (arith, m, le)), x)

joined_ascii : (v w : List ℕ) → AreAscii v → AreAscii w → AreAscii (v ++ w)
joined_ascii v w = All-append (λ b. b < 128) v w

both_parts : {a b : ℕ} {P Q : ℕ → List ℕ → Type 0} → Takes a P → Takes b Q → Takes (a + b) (P ▸ Q)
both_parts p q at w (v, r, e, hp, hq) =
    let (m, x) = p at v hp in let (n, y) = q (at + length v) r hq in
    ((omega (arith, m, n, ap length e, length-append v r)), subst AreAscii (sym e) (joined_ascii v r x y))

nothing : (w : List ℕ) → w ≡ [] → (0 ≤ length w) × AreAscii w
nothing w e = ((omega arith), subst AreAscii (sym e) tt)

-- ---- bytes that pass a test

many_ascii : (test : ℕ → Bool) → ((b : ℕ) → IsTrue (test b) → b < 128) → Takes 0 (Many test)
many_ascii test small at [] h = ((omega arith), tt)
many_ascii test small at (b ∷ w) h = ((omega arith), (small b h.0, (many_ascii test small at w h.1).1))

all_pass : (test : ℕ → Bool) (w : List ℕ) → list_all test w ≡ true → Many test 0 w
all_pass test w h = recursion_from_All (λ b. test b ≡ true) w (AllPass-from_list_all test w h)

blanks : Takes 0 (Many is_blank)
blanks = many_ascii is_blank (λ b h. grind (arith, h))

-- with any number of blanks before it, and between two of them
behind : {a : ℕ} {P : ℕ → List ℕ → Type 0} → Takes a P → Takes a (Many is_blank ▸ P)
behind p = less (both_parts blanks p) (omega arith)

apart : {a b : ℕ} {P Q : ℕ → List ℕ → Type 0} → Takes a P → Takes b Q → Takes (a + b) (P ▸ Many is_blank ▸ Q)
apart p q = both_parts p (behind q)

some_blanks : Takes 1 (OneOrMore is_blank)
some_blanks at [] h = absurd (h.0 refl)
some_blanks at (b ∷ w) h = ((omega arith), (blanks at (b ∷ w) h.1).1)

-- ---- words

one_byte : (c : ℕ) → c < 128 → Takes 1 (Exactly (c ∷ []))
one_byte c h at w e = ((omega (arith, ap length e)), subst AreAscii (sym e) (h, tt))

comma : Takes 1 (Exactly (codes ","))
comma = one_byte 0x2C (omega arith)

uppers_ascii : (w : List ℕ) → AreAscii (map to_ascii_uppercase w) → AreAscii w
uppers_ascii [] h = tt
uppers_ascii (b ∷ w) h = (grind (arith, (uppercase_is b).2, h.0), uppers_ascii w h.1)

word_ascii : (word : List ℕ) → list_all is_ascii word ≡ true → Takes (length word) (AnyCase word)
word_ascii word h at w e = ((omega (arith, ap length e, length-map w to_ascii_uppercase)), uppers_ascii w (subst AreAscii (sym e) (many_ascii is_ascii (λ b h. grind (arith, h)) 0 word (all_pass is_ascii word h)).1))

in_brackets : {a : ℕ} {P : ℕ → List ℕ → Type 0} → Takes a P → Takes (a + 2) (InBrackets P)
in_brackets p = less (apart (one_byte 0x28 (omega arith)) (apart p (one_byte 0x29 (omega arith)))) (omega arith)

empty_word : Takes 1 EmptyWord
empty_word = less (word_ascii (codes "EMPTY") refl) (omega arith)

-- ---- numbers and positions

digits_ascii : (w : List ℕ) → AreDigits w → AreAscii w
digits_ascii w h = (many_ascii is_digit (λ b h. grind (arith, h)) 0 w h).1

some_digits_ascii : (w : List ℕ) → AreSomeDigits w → AreAscii w
some_digits_ascii [] h = absurd h
some_digits_ascii (b ∷ w) h = ((digits_ascii (b ∷ []) (h.0, tt)).0, digits_ascii w h.1)

one_sign : (w : List ℕ) → IsAtMostOneOf (0x2B ∷ 0x2D ∷ []) w → AreAscii w
one_sign [] h = tt
one_sign (b ∷ []) h = (grind (arith, h), tt)
one_sign (b ∷ c ∷ w) h = absurd h

mantissa : (whole : List ℕ) (fraction : Option (List ℕ)) → AreWktDigits whole fraction → (1 ≤ length whole + length (fraction_text fraction)) × AreAscii whole × AreAscii (fraction_text fraction)
mantissa [] None h = absurd h
mantissa [] (Some f) h = ((omega arith), tt, (omega arith, some_digits_ascii f h))
mantissa (b ∷ w) None h = ((omega arith), digits_ascii (b ∷ w) h.0, tt)
mantissa (b ∷ w) (Some f) h = ((omega arith), digits_ascii (b ∷ w) h.0, (omega arith, digits_ascii f h.1))

power_ascii : (e : Option Exponent) → IfSome e IsExponent → AreAscii (exponent_text e)
power_ascii None h = tt
power_ascii (Some e) h = (grind (arith, h.letter), joined_ascii e.sign e.digits (one_sign e.sign h.sign) (some_digits_ascii e.digits h.digits))

number : (n : Numeral) → Takes 1 (SpellsNumber n)
number n at w (is, e) =
    let (some, whole, fraction) = mantissa n.whole n.fraction is.digits in
    let behind = joined_ascii (fraction_text n.fraction) (exponent_text n.exponent) fraction (power_ascii n.exponent is.exponent) in (
      (omega (arith, some, ap length e, length-append {A = ℕ})),
      subst AreAscii (sym e) (joined_ascii n.sign (n.whole ++ (fraction_text n.fraction ++ exponent_text n.exponent)) (one_sign n.sign is.sign)
          (joined_ascii n.whole (fraction_text n.fraction ++ exponent_text n.exponent) whole behind)),
    )

pub number_size : (n : Numeral) (at : ℕ) (w : List ℕ) → SpellsNumber n at w → 1 ≤ length w
number_size n at w h = (number n at w h).0

number_at : (i : ℕ) (n : Numeral) → Takes 1 (At i (SpellsNumber n))
number_at i n at w h = number n at w h.1

further_numbers : (ns : List Numeral) → Takes 0 (SpellsFurther ns)
further_numbers [] at w e = nothing w e
further_numbers (n ∷ ns) at w h = less (both_parts some_blanks (both_parts (number n) (further_numbers ns))) (omega arith) at w h

position : (d : ℕ) (p : Position) → Takes 3 (SpellsPosition d p)
position d p at w (further, e, h) = less (both_parts (number_at p.x_at p.x) (both_parts some_blanks (both_parts (number_at p.y_at p.y) (further_numbers further)))) (omega arith) at w h

-- ---- lists

-- the sum of what each element weighs
abbrev pub total : {X : Type 0} → (X → ℕ) → List X → ℕ
total c [] = 0
total c (x ∷ xs) = c x + total c xs

parted : {X : Type 0} {P : X → ℕ → List ℕ → Type 0} (c : X → ℕ) → ((x : X) → Takes (4 * c x - 1) (P x)) → (xs : List X) → Takes (4 * total c xs - 1) (Parted P xs)
parted c p [] at w h = absurd h
parted c p (x ∷ []) at w h = less (p x) (omega arith) at w h
parted c p (x ∷ y ∷ rest) at w h = less (apart (p x) (apart comma (parted c p (y ∷ rest)))) (omega arith) at w h

listed : {X : Type 0} {P : X → ℕ → List ℕ → Type 0} (c : X → ℕ) → ((x : X) → Takes (4 * c x - 1) (P x)) → (xs : List X) → Takes (4 * total c xs + 1) (EmptyOrParted P xs)
listed c p [] at w h = empty_word at w h
listed c p (x ∷ rest) at w h = less (in_brackets (parted c p (x ∷ rest))) (omega arith) at w h

-- ---- parts of geometries, by how many positions they have

abbrev pub one_of : Option Position → ℕ
one_of None = 0
one_of (Some p) = 1

abbrev pub items_of : Positions → ℕ
items_of ps = length ps.items

abbrev pub listed_of : Option Positions → ℕ
listed_of None = 0
listed_of (Some ps) = items_of ps

abbrev pub rings_of : List Positions → ℕ
rings_of rings = total items_of rings

pub each_one : {X : Type 0} (xs : List X) → total (λ x. 1) xs ≡ length xs
each_one [] = refl
each_one (x ∷ xs) = omega (arith, each_one xs)

ring : (d : ℕ) (ps : Positions) → Takes (4 * items_of ps + 1) (SpellsRing d ps)
ring d ps at w (i, h) = less (in_brackets (parted (λ p. 1) (position d) ps.items)) (omega (arith, each_one ps.items)) at w h

list : (d : ℕ) (ps : Option Positions) → Takes (4 * listed_of ps + 1) (SpellsList d ps)
list d None at w h = empty_word at w h
list d (Some ps) at w h = ring d ps at w h

point_part : (d : ℕ) (p : Option Position) → Takes (4 * one_of p + 1) (SpellsPoint d p)
point_part d None at w h = empty_word at w h
point_part d (Some p) at w h = in_brackets (position d p) at w h

member : (d : ℕ) (p : Option Position) → Takes (4 * one_of p - 1) (SpellsPointMember d p)
member d None at w h = less empty_word (omega arith) at w h
member d (Some p) at w (inl h) = position d p at w h
member d (Some p) at w (inr h) = less (in_brackets (position d p)) (omega arith) at w h

area : (d : ℕ) (rings : List Positions) → Takes (4 * rings_of rings + 1) (SpellsArea d rings)
area d rings = listed items_of (λ ps. less (ring d ps) (omega arith)) rings

-- ---- geometries

dimension : (d : ℕ) → Takes 0 (Letter d)
dimension d at w (inl h) = nothing w h.0
dimension d at w (inr (inl (inl h, e))) = less (word_ascii (codes "Z") refl) (omega arith) at w h
dimension d at w (inr (inl (inr h, e))) = less (word_ascii (codes "M") refl) (omega arith) at w h
dimension d at w (inr (inr (h, e))) = less (word_ascii (codes "ZM") refl) (omega arith) at w h

kind : {a : ℕ} (word : List ℕ) {Body : ℕ → ℕ → List ℕ → Type 0} → list_all is_ascii word ≡ true → ((d : ℕ) → Takes a (Body d)) → Takes a (Kind word Body)
kind word small p at w (d, h) = less (apart (word_ascii word small) (apart (dimension d) (p d))) (omega arith) at w h

abbrev mutual
  pub weight_of : Geometry → ℕ
  weight_of (point p) = one_of p
  weight_of (line_string ps) = listed_of ps
  weight_of (polygon rings) = rings_of rings
  weight_of (multi_point ps) = total one_of ps
  weight_of (multi_line_string ls) = total listed_of ls
  weight_of (multi_polygon areas) = total rings_of areas
  weight_of (collection gs) = weight_of_all gs

  pub weight_of_all : Geometries → ℕ
  weight_of_all no_geometries = 0
  weight_of_all (geometry_and g gs) = weight_of g + weight_of_all gs

mutual
  geometry : (g : Geometry) (at : ℕ) (w : List ℕ) → SpellsGeometry at w g → (4 * weight_of g + 1 ≤ length w) × AreAscii w
  geometry (point p) at w h = kind (codes "POINT") refl (λ d. point_part d p) at w h
  geometry (line_string ps) at w h = kind (codes "LINESTRING") refl (λ d. list d ps) at w h
  geometry (polygon rings) at w h = kind (codes "POLYGON") refl (λ d. area d rings) at w h
  geometry (multi_point ps) at w h = kind (codes "MULTIPOINT") refl (λ d. listed one_of (member d) ps) at w h
  geometry (multi_line_string ls) at w h = kind (codes "MULTILINESTRING") refl (λ d. listed listed_of (λ ps. less (list d ps) (omega arith)) ls) at w h
  geometry (multi_polygon areas) at w h = kind (codes "MULTIPOLYGON") refl (λ d. listed rings_of (λ rings. less (area d rings) (omega arith)) areas) at w h
  geometry (collection gs) at w h = kind (codes "GEOMETRYCOLLECTION") refl (λ d. geometries gs) at w h

  geometries : (gs : Geometries) (at : ℕ) (w : List ℕ) → SpellsGeometries at w gs → (4 * weight_of_all gs + 1 ≤ length w) × AreAscii w
  geometries no_geometries at w h = empty_word at w h
  geometries (geometry_and g gs) at w h = less (in_brackets (both_parts (geometry g) (further_geometries gs))) (omega arith) at w h

  further_geometries : (gs : Geometries) (at : ℕ) (w : List ℕ) → SpellsFurtherGeometries at w gs → (4 * weight_of_all gs ≤ length w) × AreAscii w
  further_geometries no_geometries at w h = nothing w h
  further_geometries (geometry_and g gs) at w h = less (behind (apart comma (both_parts (geometry g) (further_geometries gs)))) (omega arith) at w h

line : (g : Geometry) (at : ℕ) (w : List ℕ) → IsLineOf at w g → (4 * weight_of g + 1 ≤ length w) × AreAscii w
line g at w h = less (behind (both_parts (geometry g) blanks)) (omega arith) at w h

pub line_size : (g : Geometry) (at : ℕ) (w : List ℕ) → IsLineOf at w g → 4 * weight_of g + 1 ≤ length w
line_size g at w h = (line g at w h).0

-- ---- the encoding

ascii_valid : (w : List ℕ) → AreAscii w → IsUtf8 w
ascii_valid w h = IsUtf8-from_ascii w (IsAscii-from_all w h)

-- a line without a label
pub plain_valid : (at : ℕ) (w : List ℕ) → WktLine at w → IsUtf8 w
plain_valid at w (g, h) = ascii_valid w (line g at w h).1

pub blanks_valid : (w : List ℕ) → AllByRecursion (λ b. IsTrue (is_blank b)) w → IsUtf8 w
blanks_valid w h = ascii_valid w (blanks 0 w h).1

pub blank_text_valid : (w : List ℕ) → is_blank_text w ≡ true → IsUtf8 w
blank_text_valid w h = blanks_valid w (all_pass is_blank w h)

pub byte_valid : (b : ℕ) → b < 128 → IsUtf8 (b ∷ [])
byte_valid b h = ascii_valid (b ∷ []) (h, tt)
