-- The pieces of bytes between their line feeds: where each stands, and where the last one ends.
-- For `merge_lines` and `finish_lines`.
use Rattle.std.proofs.Common.{◌≡◌, ℕ, ◌+◌, ◌==◌, Bool, true, false, ◌||◌, if◌then◌else◌, List, [], ◌∷◌, ◌++◌, length, refl, sym, ◌∙◌, ap, subst, arith}
use Rattle.std.specs.List.{list_any, AllByRecursion}
use Rattle.at_text.proofs.Separated.{widened, pieces_some, pieces_parted, pieces_other}
use Rattle.at_wkt.specs.Lines.{FileLine, pieces_from, is_line_feed, without_return}

-- what holds of bytes and their pieces, byte by byte from the end on
module _ (P : ℕ → List ℕ → List FileLine → Type 0) (none : (at : ℕ) → P at [] (record { at = at; text = [] } ∷ []))
    (feed : (at b : ℕ) (v : List ℕ) → is_line_feed b ≡ true → P (at + 1) v (pieces_from (at + 1) v) → P at (b ∷ v) (record { at = at; text = [] } ∷ pieces_from (at + 1) v))
    (other : (at b : ℕ) (v t : List ℕ) (ps : List FileLine) → is_line_feed b ≡ false → pieces_from (at + 1) v ≡ record { at = at + 1; text = t } ∷ ps → P (at + 1) v (record { at = at + 1; text = t } ∷ ps) → P at (b ∷ v) (record { at = at; text = b ∷ t } ∷ ps)) where
  pieces_step : (at b : ℕ) (v : List ℕ) (test : Bool) → is_line_feed b ≡ test → P (at + 1) v (pieces_from (at + 1) v) → P at (b ∷ v) (pieces_from at (b ∷ v))
  pieces_step at b v true e h = subst (λ (z : List FileLine). P at (b ∷ v) z) (sym (pieces_parted is_line_feed at b v e)) (feed at b v e h)
  pieces_step at b v false e h =
      let (t, ps, f) = pieces_some is_line_feed (at + 1) v in
      subst (λ (z : List FileLine). P at (b ∷ v) z) (sym (pieces_other is_line_feed at b v e ∙ ap (widened at b) f)) (other at b v t ps e f (subst (λ (z : List FileLine). P (at + 1) v z) f h))

  pieces_all : (at : ℕ) (v : List ℕ) → P at v (pieces_from at v)
  pieces_all at [] = none at
  pieces_all at (b ∷ v) = pieces_step at b v (is_line_feed b) refl (pieces_all (at + 1) v)

-- ---- the first and the last piece

first_at : List FileLine → ℕ
first_at [] = 0
first_at (p ∷ ps) = p.at

pub first_begins : (at : ℕ) (v : List ℕ) (p : FileLine) (ps : List FileLine) → pieces_from at v ≡ p ∷ ps → p.at ≡ at
unfolding first_at
first_begins at v p ps h = let (t, qs, e) = pieces_some is_line_feed at v in ap first_at (sym h ∙ e)

abbrev last_end : List FileLine → ℕ
last_end [] = 0
last_end (p ∷ []) = p.at + length p.text
last_end (p ∷ r ∷ ps) = last_end (r ∷ ps)

last_end-append : (ps : List FileLine) (l : FileLine) → last_end (ps ++ (l ∷ [])) ≡ l.at + length l.text
last_end-append (p ∷ r ∷ ps) l = last_end-append (r ∷ ps) l
last_end-append _ l = refl

abbrev EndsAll : ℕ → List ℕ → List FileLine → Type 0
EndsAll at v ps = last_end ps ≡ at + length v

ends_feed : (at b : ℕ) (v : List ℕ) → is_line_feed b ≡ true → EndsAll (at + 1) v (pieces_from (at + 1) v) → EndsAll at (b ∷ v) (record { at = at; text = [] } ∷ pieces_from (at + 1) v)
ends_feed at b v e h =
    let (t, ps, f) = pieces_some is_line_feed (at + 1) v in
    let further : at + 1 + length v ≡ at + length (b ∷ v) = omega arith in
    ap (λ z. last_end (record { at = at; text = [] } ∷ z)) f ∙ (sym (ap last_end f) ∙ (h ∙ further))

ends_other : (at b : ℕ) (v t : List ℕ) (ps : List FileLine) → is_line_feed b ≡ false → pieces_from (at + 1) v ≡ record { at = at + 1; text = t } ∷ ps → EndsAll (at + 1) v (record { at = at + 1; text = t } ∷ ps) → EndsAll at (b ∷ v) (record { at = at; text = b ∷ t } ∷ ps)
ends_other at b v t [] e f h = omega (arith, h)
ends_other at b v t (p ∷ ps) e f h = omega (arith, h)

-- the last piece ends with the bytes
pub last_ends : (at : ℕ) (v : List ℕ) (ps : List FileLine) (l : FileLine) → pieces_from at v ≡ ps ++ (l ∷ []) → l.at + length l.text ≡ at + length v
last_ends at v ps l h = sym (ap last_end h ∙ last_end-append ps l) ∙ pieces_all EndsAll (λ n. refl) ends_feed ends_other at v

-- ---- where each piece stands

-- the piece is bytes of v, which stands at `at`, and has no line feed
pub record IsPieceOf (at : ℕ) (v : List ℕ) (p : FileLine) : Type 0 where
  pub front : List ℕ
  pub rest : List ℕ
  pub split : v ≡ front ++ (p.text ++ rest)
  pub place : p.at ≡ at + length front
  pub one : list_any is_line_feed p.text ≡ false

abbrev first_text : List FileLine → List ℕ
first_text [] = []
first_text (p ∷ ps) = p.text

abbrev ArePiecesOf : ℕ → List ℕ → List FileLine → Type 0
ArePiecesOf at v ps = (rest : List ℕ) × (v ≡ first_text ps ++ rest) × AllByRecursion (IsPieceOf at v) ps

piece_further : (at b : ℕ) (v : List ℕ) (p : FileLine) → IsPieceOf (at + 1) v p → IsPieceOf at (b ∷ v) p
piece_further at b v p h = record { front = b ∷ h.front; rest = h.rest; split = ap (λ z. b ∷ z) h.split; place = omega (arith, h.place); one = h.one }

pieces_further : (at b : ℕ) (v : List ℕ) (ps : List FileLine) → AllByRecursion (IsPieceOf (at + 1) v) ps → AllByRecursion (IsPieceOf at (b ∷ v)) ps
pieces_further at b v [] h = tt
pieces_further at b v (p ∷ ps) (h, hs) = (piece_further at b v p h, pieces_further at b v ps hs)

of_none : (at : ℕ) → ArePiecesOf at [] (record { at = at; text = [] } ∷ [])
of_none at = ([], refl, (record { front = []; rest = []; split = refl; place = omega arith; one = refl }, tt))

of_feed : (at b : ℕ) (v : List ℕ) → is_line_feed b ≡ true → ArePiecesOf (at + 1) v (pieces_from (at + 1) v) → ArePiecesOf at (b ∷ v) (record { at = at; text = [] } ∷ pieces_from (at + 1) v)
of_feed at b v e (rest, f, hs) = (b ∷ v, refl, (record { front = []; rest = b ∷ v; split = refl; place = omega arith; one = refl }, pieces_further at b v (pieces_from (at + 1) v) hs))

of_other : (at b : ℕ) (v t : List ℕ) (ps : List FileLine) → is_line_feed b ≡ false → pieces_from (at + 1) v ≡ record { at = at + 1; text = t } ∷ ps → ArePiecesOf (at + 1) v (record { at = at + 1; text = t } ∷ ps) → ArePiecesOf at (b ∷ v) (record { at = at; text = b ∷ t } ∷ ps)
of_other at b v t ps e f (rest, g, (h, hs)) =
    let here : b ∷ v ≡ (b ∷ t) ++ rest = ap (λ z. b ∷ z) g in
    (rest, here, (record { front = []; rest = rest; split = here; place = omega arith; one = ap (λ z. z || list_any is_line_feed t) e ∙ h.one }, pieces_further at b v ps hs))

here_of : {X : Type 0} (P : X → Type 0) (xs : List X) (x : X) (ys : List X) → AllByRecursion P (xs ++ (x ∷ ys)) → P x
here_of P [] x ys h = h.0
here_of P (z ∷ xs) x ys h = here_of P xs x ys h.1

pub piece_of : (at : ℕ) (v : List ℕ) (ps : List FileLine) (p : FileLine) (qs : List FileLine) → pieces_from at v ≡ ps ++ (p ∷ qs) → IsPieceOf at v p
piece_of at v ps p qs h =
    let (rest, e, all) = pieces_all ArePiecesOf of_none of_feed of_other at v in
    here_of (IsPieceOf at v) ps p qs (subst (λ (z : List FileLine). AllByRecursion (IsPieceOf at v) z) h all)

-- ---- a line's end

or_left : (a b : Bool) → (a || b) ≡ false → a ≡ false
or_left true b h = h
or_left false b h = refl

or_right : (a b : Bool) → (a || b) ≡ false → b ≡ false
or_right true b h = absurd (cc)
or_right false b h = h

one_end : (b : ℕ) (test : Bool) → list_any is_line_feed (b ∷ []) ≡ false → list_any is_line_feed (if test then [] else b ∷ []) ≡ false
one_end b true h = refl
one_end b false h = h

-- a line has no line feed either
pub line_has_one : (w : List ℕ) → list_any is_line_feed w ≡ false → list_any is_line_feed (without_return w) ≡ false
line_has_one [] h = refl
line_has_one (b ∷ []) h = one_end b (b == 0x0D) h
line_has_one (b ∷ c ∷ w) h =
    let first : is_line_feed b ≡ false = or_left (is_line_feed b) (list_any is_line_feed (c ∷ w)) h in
    ap (λ z. z || list_any is_line_feed (without_return (c ∷ w))) first ∙ line_has_one (c ∷ w) (or_right (is_line_feed b) (list_any is_line_feed (c ∷ w)) h)
