-- A machine for the strings of JSON, and that it is one for the grammar.
-- For most public calls of the crate, `copy`, `from_slice`, `lex` among them.
use Rattle.std.proofs.Common.{◌≡◌, ℕ, ◌⊎◌, inl, inr, ◌↔◌, List, [], ◌∷◌, ◌++◌, Option, Some, None, IsTrue, Bool, true, false, cond, ◌&&◌, ◌==◌, flat_map, refl, sym, ◌∙◌, ap, subst, arith, true≢false, ◌<◌, ◌≤◌, length, take, slice_index}
use Rattle.std.proofs.lemmas.Bool.{eqb-true}
use Rattle.std.proofs.lemmas.Option.{none-some, same_Some}
use Rattle.std.specs.Bool.{⊤}
use Rattle.std.specs.Char.{is_ascii_hexdigit}
use Rattle.at_text.specs.Prefix.{TakesLongest}
use Rattle.at_text.proofs.Machine.{IsMachine, run, longest_at, TakesLongest-same}
use Rattle.at_lex.specs.Strings.{Character, plain, escape, unit, is_plain, AreCharacters, character_text, JsonString}
pub use Rattle.at_lex.specs.StringStates.{State, opening, inside, escaped, hex4, hex3, hex2, hex1, closed, is_escape, step, accepts}

-- what may follow, cell by cell
abbrev pub Rest : State → List ℕ → Type 0
Rest opening (b ∷ w) = (b ≡ 0x22) × Rest inside w
Rest inside (b ∷ w) = ((b ≡ 0x22) × Rest closed w) ⊎ (((b ≡ 0x5C) × Rest escaped w) ⊎ ((is_plain b ≡ true) × Rest inside w))
Rest escaped (b ∷ w) = ((b ≡ 0x75) × Rest hex4 w) ⊎ ((is_escape b ≡ true) × Rest inside w)
Rest hex4 (b ∷ w) = (is_ascii_hexdigit b ≡ true) × Rest hex3 w
Rest hex3 (b ∷ w) = (is_ascii_hexdigit b ≡ true) × Rest hex2 w
Rest hex2 (b ∷ w) = (is_ascii_hexdigit b ≡ true) × Rest hex1 w
Rest hex1 (b ∷ w) = (is_ascii_hexdigit b ≡ true) × Rest inside w
Rest closed [] = ⊤
Rest _ _ = ⊥

plain_at : (b : ℕ) → is_plain b ≡ true → step inside b ≡ Some inside
plain_at b h = grind arith

escape_at : (b : ℕ) → is_escape b ≡ true → step escaped b ≡ Some inside
escape_at b h = let p : (b == 0x75) ≡ false = grind (arith, h) in rw (p, h) refl

moved : (s t : State) (w : List ℕ) → ◌≡◌ {A = Option State} (Some s) (Some t) → Rest t w → Rest s w
moved s t w f r = let P : State → Type 0 = λ x. Rest x w in subst P (sym (same_Some s t f)) r

goes : (s : State) (b : ℕ) (w : List ℕ) → Rest s (b ∷ w) → (t : State) × (step s b ≡ Some t) × Rest t w
goes opening b w (e, r) = (inside, ap (step opening) e, r)
goes inside b w (inl (e, r)) = (closed, ap (step inside) e, r)
goes inside b w (inr (inl (e, r))) = (escaped, ap (step inside) e, r)
goes inside b w (inr (inr (h, r))) = (inside, plain_at b h, r)
goes escaped b w (inl (e, r)) = (hex4, ap (step escaped) e, r)
goes escaped b w (inr (h, r)) = (inside, escape_at b h, r)
goes hex4 b w (h, r) = (hex3, ap (λ c. cond c (Some hex3) None) h, r)
goes hex3 b w (h, r) = (hex2, ap (λ c. cond c (Some hex2) None) h, r)
goes hex2 b w (h, r) = (hex1, ap (λ c. cond c (Some hex1) None) h, r)
goes hex1 b w (h, r) = (inside, ap (λ c. cond c (Some inside) None) h, r)
goes closed b w r = absurd r

by_test : (c : Bool) (s t : State) (o : Option State) (w : List ℕ) → cond c (Some s) o ≡ Some t → Rest t w → ((c ≡ true) × Rest s w) ⊎ (o ≡ Some t)
by_test c s t o w h k = grind arith

by_last : (c : Bool) (s t : State) (w : List ℕ) → cond c (Some s) None ≡ Some t → Rest t w → (c ≡ true) × Rest s w
by_last c s t w h k = grind arith

by_byte : (b c : ℕ) {A : Type 0} → (b == c) ≡ true → A → (b ≡ c) × A
by_byte b c h a = (eqb-true b c h, a)

comes : (s t : State) (b : ℕ) (w : List ℕ) → step s b ≡ Some t → Rest t w → Rest s (b ∷ w)
comes opening t b w e r = let q = by_last (b == 0x22) inside t w e r in by_byte b 0x22 q.0 q.1
comes inside t b w e r = elim (by_test (b == 0x22) closed t (cond (b == 0x5C) (Some escaped) (cond (is_plain b) (Some inside) None)) w e r) [
  | inl q ↦ inl (by_byte b 0x22 q.0 q.1)
  | inr f ↦ elim (by_test (b == 0x5C) escaped t (cond (is_plain b) (Some inside) None) w f r) [
    | inl q ↦ inr (inl (by_byte b 0x5C q.0 q.1))
    | inr g ↦ inr (inr (by_last (is_plain b) inside t w g r))
  ]
]
comes escaped t b w e r = elim (by_test (b == 0x75) hex4 t (cond (is_escape b) (Some inside) None) w e r) [
  | inl q ↦ inl (by_byte b 0x75 q.0 q.1)
  | inr f ↦ inr (by_last (is_escape b) inside t w f r)
]
comes hex4 t b w e r = by_last (is_ascii_hexdigit b) hex3 t w e r
comes hex3 t b w e r = by_last (is_ascii_hexdigit b) hex2 t w e r
comes hex2 t b w e r = by_last (is_ascii_hexdigit b) hex1 t w e r
comes hex1 t b w e r = by_last (is_ascii_hexdigit b) inside t w e r
comes closed t b w e r = absurd (none-some t e)

no : ⊥ ↔ IsTrue false
no = ((λ x. absurd x), (λ e. true≢false (sym e)))

ends : (s : State) → Rest s [] ↔ IsTrue (accepts s)
ends s = grind arith

lives : (s : State) → (w : List ℕ) × Rest s w
lives opening = (0x22 ∷ 0x22 ∷ [], (refl, inl (refl, tt)))
lives inside = (0x22 ∷ [], inl (refl, tt))
lives escaped = (0x22 ∷ 0x22 ∷ [], inr (refl, inl (refl, tt)))
lives hex4 = (0x30 ∷ 0x30 ∷ 0x30 ∷ 0x30 ∷ 0x22 ∷ [], (refl, (refl, (refl, (refl, inl (refl, tt))))))
lives hex3 = (0x30 ∷ 0x30 ∷ 0x30 ∷ 0x22 ∷ [], (refl, (refl, (refl, inl (refl, tt)))))
lives hex2 = (0x30 ∷ 0x30 ∷ 0x22 ∷ [], (refl, (refl, inl (refl, tt))))
lives hex1 = (0x30 ∷ 0x22 ∷ [], (refl, inl (refl, tt)))
lives closed = ([], tt)

pub machine : IsMachine Rest step accepts
machine = record { ends = ends; goes = goes; comes = comes; lives = lives }

-- ---- the grammar

pub all_four : (a b c d : Bool) → ((a && b) && (c && d)) ≡ true → (a ≡ true) × (b ≡ true) × (c ≡ true) × (d ≡ true)
all_four a b c d h = (grind (arith, h), grind (arith, h), grind (arith, h), grind (arith, h))

from_four : (a b c d : Bool) → a ≡ true → b ≡ true → c ≡ true → d ≡ true → ((a && b) && (c && d)) ≡ true
from_four a b c d e f g h = rw (e, f, g, h) refl

inside_of : (cs : List Character) → AreCharacters cs → Rest inside (flat_map character_text cs ++ 0x22 ∷ [])
inside_of [] h = inl (refl, tt)
inside_of (plain b ∷ cs) (h, hs) = inr (inr (h, inside_of cs hs))
inside_of (escape l ∷ cs) (h, hs) = inr (inl (refl, inr (h, inside_of cs hs)))
inside_of (unit a b c d ∷ cs) (h, hs) =
    let (p, q, r, s) = all_four (is_ascii_hexdigit a) (is_ascii_hexdigit b) (is_ascii_hexdigit c) (is_ascii_hexdigit d) h in
    inr (inl (refl, inl (refl, (p, (q, (r, (s, inside_of cs hs)))))))

abbrev Content : List ℕ → Type 0
Content w = (cs : List Character) × AreCharacters cs × (w ≡ flat_map character_text cs ++ 0x22 ∷ [])

inside_from : (w : List ℕ) → Rest inside w → Content w
inside_from [] r = absurd r
inside_from (b ∷ []) (inl (e, r)) = ([], tt, ap (λ x. x ∷ []) e)
inside_from (b ∷ c ∷ w) (inl (e, r)) = absurd r
inside_from (b ∷ w) (inr (inr (h, r))) = let (cs, hs, e) = inside_from w r in (plain b ∷ cs, (h, hs), ap (λ x. b ∷ x) e)
inside_from (b ∷ []) (inr (inl (e, r))) = absurd r
inside_from (b ∷ c ∷ w) (inr (inl (e, inr (h, r)))) = let (cs, hs, f) = inside_from w r in
    (escape c ∷ cs, (h, hs), ap (λ x. x ∷ c ∷ w) e ∙ ap (λ x. 0x5C ∷ c ∷ x) f)
inside_from (b ∷ c ∷ []) (inr (inl (e, inl (f, r)))) = absurd r
inside_from (b ∷ c ∷ g ∷ []) (inr (inl (e, inl (f, (h, r))))) = absurd r
inside_from (b ∷ c ∷ g ∷ i ∷ []) (inr (inl (e, inl (f, (h, (j, r)))))) = absurd r
inside_from (b ∷ c ∷ g ∷ i ∷ k ∷ []) (inr (inl (e, inl (f, (h, (j, (l, r))))))) = absurd r
inside_from (b ∷ c ∷ g ∷ i ∷ k ∷ m ∷ w) (inr (inl (e, inl (f, (h, (j, (l, (n, r)))))))) = let (cs, hs, eq) = inside_from w r in (
  unit g i k m ∷ cs,
  (from_four (is_ascii_hexdigit g) (is_ascii_hexdigit i) (is_ascii_hexdigit k) (is_ascii_hexdigit m) h j l n, hs),
  ap (λ x. x ∷ c ∷ g ∷ i ∷ k ∷ m ∷ w) e ∙ (ap (λ x. 0x5C ∷ x ∷ g ∷ i ∷ k ∷ m ∷ w) f ∙ ap (λ x. 0x5C ∷ 0x75 ∷ g ∷ i ∷ k ∷ m ∷ x) eq),
)

opening_from : (w : List ℕ) → Rest opening w → JsonString w
opening_from w h = grind (arith, inside_from)

pub opening-JsonString : (w : List ℕ) → Rest opening w ↔ JsonString w
opening-JsonString w = (opening_from w, λ (cs, hs, e). let P : List ℕ → Type 0 = Rest opening in subst P (sym e) (refl, inside_of cs hs))

-- what a loop over the machine answers where it stops
pub string_at : (s : State) (w : List ℕ) (n : ℕ) → n ≤ length w → run step opening (take n w) ≡ Some s
    → (n < length w → step s (slice_index w n) ≡ None) → TakesLongest JsonString w (record { len = n; whole = accepts s })
string_at s w n h e stops = TakesLongest-same (Rest opening) JsonString w (record { len = n; whole = accepts s }) opening-JsonString (longest_at machine opening s w n h e stops)
