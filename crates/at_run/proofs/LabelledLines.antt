-- Lines with labels: a line spells one label or none and one geometry, and where reading one stops, no line goes on.
-- For `answer`, `answer_join`, `finish_pieces`, `join_into` and `part`.
use Rattle.std.proofs.Common.{◌≡◌, ℕ, ◌+◌, ◌≤◌, ◌==◌, false, IsTrue, nat_lt, List, [], ◌∷◌, ◌++◌, length, take, codes, flat_map, Option, Some, None, refl, sym, ◌∙◌, ap, subst, arith, append_assoc, length-append, true≢false}
use Rattle.std.specs.List.{AllByRecursion}
use Rattle.std.specs.Char.{to_ascii_uppercase}
use Rattle.std.specs.Str.{str_to_ascii_uppercase}
use Rattle.std.proofs.Math.Seq.{take-append-add}
use Rattle.std.proofs.lemmas.List.{append_cancel_left}
use Rattle.at_text.specs.Prefix.{LongestViable}
use Rattle.at_text.specs.Syntax.{stop_fault}
use Rattle.at_lex.specs.Strings.{Character, character_text, SpellsString}
use Rattle.at_wkt.specs.Geometry.{Geometry, point, line_string, polygon, multi_point, multi_line_string, multi_polygon, collection, is_blank, SpellsGeometry, IsLineOf, WktLine}
use Rattle.at_wkt.proofs.Agreement.{one_front}
use Rattle.at_wkt.proofs.OneGeometry.{one_line}
use Rattle.at_query.proofs.OneSpelled.{one_string}
use Rattle.at_run.specs.Labels.{SpellsLabelled, LabelledLine}

abbrev pub AreBlanks : List ℕ → Type 0
AreBlanks w = AllByRecursion (λ b. IsTrue (is_blank b)) w

-- ---- what begins behind the first blanks

abbrev BeginsPlain : List ℕ → Type 0
BeginsPlain v = (b : ℕ) × (t : List ℕ) × (v ≡ b ∷ t) × (is_blank b ≡ false) × ((b == 0x22) ≡ false)

by_letter : (a r v : List ℕ) (letter : ℕ) (rest : List ℕ) → v ≡ a ++ r → str_to_ascii_uppercase a ≡ letter ∷ rest → 0x41 ≤ letter → BeginsPlain v
by_letter [] r v letter rest e u h = absurd (let none : [] ≡ letter ∷ rest = u in cc)
by_letter (b ∷ a) r v letter rest e u h = let upper : to_ascii_uppercase b ≡ letter = cc in (b, a ++ r, e, grind (arith, upper, h), grind (arith, upper, h))

geometry_begins : (g : Geometry) (at : ℕ) (v : List ℕ) → SpellsGeometry at v g → BeginsPlain v
geometry_begins (point p) at v (d, (a, r, e, h, q)) = by_letter a r v 0x50 (codes "OINT") e h (omega arith)
geometry_begins (line_string p) at v (d, (a, r, e, h, q)) = by_letter a r v 0x4C (codes "INESTRING") e h (omega arith)
geometry_begins (polygon p) at v (d, (a, r, e, h, q)) = by_letter a r v 0x50 (codes "OLYGON") e h (omega arith)
geometry_begins (multi_point p) at v (d, (a, r, e, h, q)) = by_letter a r v 0x4D (codes "ULTIPOINT") e h (omega arith)
geometry_begins (multi_line_string p) at v (d, (a, r, e, h, q)) = by_letter a r v 0x4D (codes "ULTILINESTRING") e h (omega arith)
geometry_begins (multi_polygon p) at v (d, (a, r, e, h, q)) = by_letter a r v 0x4D (codes "ULTIPOLYGON") e h (omega arith)
geometry_begins (collection p) at v (d, (a, r, e, h, q)) = by_letter a r v 0x47 (codes "EOMETRYCOLLECTION") e h (omega arith)

-- the bytes begin with a quote
abbrev pub BeginsQuoted : List ℕ → Type 0
BeginsQuoted v = (t : List ℕ) × (v ≡ 0x22 ∷ t)

pub string_begins : (cs : List Character) (at : ℕ) (v : List ℕ) → SpellsString cs at v → BeginsQuoted v
string_begins cs at v h = (flat_map character_text cs ++ 0x22 ∷ [], h.1)

pub quoted_front : (s r v : List ℕ) → BeginsQuoted s → v ≡ s ++ r → BeginsQuoted v
quoted_front s r v (t, e) f = (t ++ r, f ∙ ap (λ z. z ++ r) e)

-- blanks are all blanks where what stands behind them isn't one
pub same_blanks : (a c x y : List ℕ) → AreBlanks a → AreBlanks c → (b : ℕ) × (t : List ℕ) × (x ≡ b ∷ t) × (is_blank b ≡ false) → (b : ℕ) × (t : List ℕ) × (y ≡ b ∷ t) × (is_blank b ≡ false)
    → a ++ x ≡ c ++ y → (a ≡ c) × (x ≡ y)
same_blanks a c x y ha hc (b, t, e, p) (d, u, f, q) line =
    let same : a ≡ c = one_front is_blank a c b d t u ha hc p q (ap (λ z. a ++ z) (sym e) ∙ (line ∙ ap (λ z. c ++ z) f)) in
    (same, append_cancel_left c x y (ap (λ z. z ++ x) (sym same) ∙ line))

pub quote_stops : (v : List ℕ) → BeginsQuoted v → (b : ℕ) × (t : List ℕ) × (v ≡ b ∷ t) × (is_blank b ≡ false)
quote_stops v (t, e) = (0x22, t, e, refl)

-- a text that a quote begins past its blanks is no line without a label
pub quoted_not_plain : (a v : List ℕ) (at : ℕ) (w : List ℕ) (g : Geometry) → AreBlanks a → BeginsQuoted v → w ≡ a ++ v → IsLineOf at w g → ⊥
quoted_not_plain a v at w g ha hv e (c, y, f, hc, (x, z, k, hx, hz)) =
    let (b, u, i, p, n) = geometry_begins g (at + length c) x hx in
    let begin : y ≡ b ∷ (u ++ z) = k ∙ ap (λ s. s ++ z) i in
    let (same, rest) = same_blanks a c v y ha hc (quote_stops v hv) (b, u ++ z, begin, p) (sym e ∙ f) in
    let (t, q) = hv in
    let quote : b ≡ 0x22 = (let both : b ∷ (u ++ z) ≡ 0x22 ∷ t = sym begin ∙ (sym rest ∙ q) in cc) in
    true≢false (ap (λ z. z == 0x22) (sym quote) ∙ n)

-- ---- a line spells one label or none, and one geometry

pub one_labelled : (at : ℕ) (w : List ℕ) (l m : Option (List Character)) (g h : Geometry) → SpellsLabelled l g at w → SpellsLabelled m h at w → (l ≡ m) × (g ≡ h)
one_labelled at w None None g h p q = (refl, one_line at w g h p q)
one_labelled at w None (Some ds) g h p (a, v, e, ha, (s, r, f, hs, hr)) =
    absurd (quoted_not_plain a v at w g ha (quoted_front s r v (string_begins ds (at + length a) s hs) f) e p)
one_labelled at w (Some cs) None g h (a, v, e, ha, (s, r, f, hs, hr)) q =
    absurd (quoted_not_plain a v at w h ha (quoted_front s r v (string_begins cs (at + length a) s hs) f) e q)
one_labelled at w (Some cs) (Some ds) g h (a, v, e, ha, (s, r, f, hs, hr)) (c, y, i, hc, (t, x, j, ht, hx)) =
    let (same, rest) = same_blanks a c v y ha hc (quote_stops v (quoted_front s r v (string_begins cs (at + length a) s hs) f))
    (quote_stops y (quoted_front t x y (string_begins ds (at + length c) t ht) j)) (sym e ∙ i) in
    let line : s ++ r ≡ t ++ x = sym f ∙ (rest ∙ j) in
    let (label, text) = one_string cs ds (at + length c) s t r x hs ht line in
    let behind : r ≡ x = append_cancel_left t r x (ap (λ z. z ++ r) (sym text) ∙ line) in
    let place : (at + length a) + length s ≡ (at + length c) + length t = ap (λ z. (at + length z) + length s) same ∙ ap (λ z. (at + length c) + length z) text in
    (ap Some label, one_line ((at + length c) + length t) x g h (subst (λ z. IsLineOf z x g) place (subst (λ z. IsLineOf ((at + length a) + length s) z g) behind hr)) hx)

-- ---- a line behind a label

module _ (at : ℕ) (a s : List ℕ) (cs : List Character) (blanks : AreBlanks a) (label : SpellsString cs (at + length a) s) where
  pub label_added : (g : Geometry) (v : List ℕ) → IsLineOf ((at + length a) + length s) v g → SpellsLabelled (Some cs) g at (a ++ (s ++ v))
  label_added g v h = (a, s ++ v, refl, blanks, (s, v, refl, label, h))

  pub line_with_label : (v : List ℕ) → WktLine ((at + length a) + length s) v → LabelledLine at (a ++ (s ++ v))
  line_with_label v (g, h) = (Some cs, g, label_added g v h)

  pub label_taken : (v : List ℕ) → LabelledLine at (a ++ (s ++ v)) → WktLine ((at + length a) + length s) v
  label_taken v (None, g, h) = absurd (quoted_not_plain a (s ++ v) at (a ++ (s ++ v)) g blanks (quoted_front s v (s ++ v) (string_begins cs (at + length a) s label) refl) refl h)
  label_taken v (Some ds, g, (c, y, i, hc, (t, x, j, ht, hx))) =
      let (same, rest) = same_blanks a c (s ++ v) y blanks hc (quote_stops (s ++ v) (quoted_front s v (s ++ v) (string_begins cs (at + length a) s label) refl))
      (quote_stops y (quoted_front t x y (string_begins ds (at + length c) t ht) j)) i in
      let line : s ++ v ≡ t ++ x = rest ∙ j in
      let (which, text) = one_string cs ds (at + length c) s t v x (subst (λ z. SpellsString cs (at + length z) s) same label) ht line in
      let behind : v ≡ x = append_cancel_left t v x (ap (λ z. z ++ v) (sym text) ∙ line) in
      let place : (at + length a) + length s ≡ (at + length c) + length t = ap (λ z. (at + length z) + length s) same ∙ ap (λ z. (at + length c) + length z) text in
      (g, subst (λ z. IsLineOf z v g) (sym place) (subst (λ z. IsLineOf ((at + length c) + length t) z g) (sym behind) hx))

-- ---- the longest beginning of a line

-- where the words of L that begin so are those of M behind some bytes
pub longest_behind : (L M : List ℕ → Type 0) (f v : List ℕ) (n : ℕ) → ((u : List ℕ) → M u → L (f ++ u)) → ((more : List ℕ) → L (f ++ (take (n + 1) v ++ more)) → M (take (n + 1) v ++ more))
    → LongestViable M v n → LongestViable L (f ++ v) (length f + n)
longest_behind L M f v n up down h = record {
  fits = omega (arith, length-append f v, h.fits);
  front = (let (more, m) = h.front in (more, subst L (sym (ap (λ z. z ++ more) (take-append-add f v n) ∙ append_assoc f (take n v) more)) (up (take n v ++ more) m)));
  longest = λ below (more, l).
      let size : (length f + n) + 1 ≡ length f + (n + 1) = omega arith in
      let text : take ((length f + n) + 1) (f ++ v) ++ more ≡ f ++ (take (n + 1) v ++ more) = ap (λ z. take z (f ++ v) ++ more) size ∙ (ap (λ z. z ++ more) (take-append-add f v (n + 1)) ∙ append_assoc f (take (n + 1) v) more) in
      h.longest (omega (arith, length-append f v, below)) (more, down more (subst L text l));
}

lt_moved : (k m n : ℕ) → nat_lt (k + m) (k + n) ≡ nat_lt m n
lt_moved k m n = grind arith

pub stop_behind : (at : ℕ) (f v : List ℕ) (n : ℕ) → stop_fault (at + length f) v n ≡ stop_fault at (f ++ v) (length f + n)
stop_behind at f v n =
    let place : at + length f + n ≡ at + (length f + n) = omega arith in
    let less : nat_lt (length f + n) (length (f ++ v)) ≡ nat_lt n (length v) = ap (nat_lt (length f + n)) (length-append f v) ∙ lt_moved (length f) n (length v) in
    rw (less, place) refl
