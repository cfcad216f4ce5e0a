-- The pieces of bytes between separators: those of joined bytes, and the first and the last of them.
use Rattle.std.proofs.Common.{◌≡◌, ℕ, ◌+◌, ◌<◌, Bool, true, false, List, [], ◌∷◌, ◌++◌, length, take, drop, refl, sym, ◌∙◌, ap, subst, arith, length-take}
use Rattle.std.specs.List.{slice_split, onto_first, position_or_len}
use Rattle.std.proofs.lemmas.List.Splits.{slice_split_first, slice_split-cons_yes, slice_split-cons_no}
use Rattle.at_text.specs.Separated.{Piece, placed, separated_by}

-- the byte, at the offset, before the first piece
abbrev pub widened : ℕ → ℕ → List Piece → List Piece
widened at b [] = []
widened at b (p ∷ ps) = record { at = at; text = b ∷ p.text } ∷ ps

-- the last piece of the one and the first of the other are one
abbrev pub glued : List Piece → List Piece → List Piece
glued [] qs = qs
glued (p ∷ []) [] = p ∷ []
glued (p ∷ []) (q ∷ qs) = record { at = p.at; text = p.text ++ q.text } ∷ qs
glued (p ∷ r ∷ ps) qs = p ∷ glued (r ∷ ps) qs

glued_behind : (p : Piece) (ps qs : List Piece) (r : Piece) (rs : List Piece) → ps ≡ r ∷ rs → glued (p ∷ ps) qs ≡ p ∷ glued ps qs
glued_behind p ps qs r rs e = let P : List Piece → Type 0 = λ z. glued (p ∷ z) qs ≡ p ∷ glued z qs in subst P (sym e) refl

widened_glued : (at b i : ℕ) (t : List ℕ) (ps qs : List Piece) → widened at b (glued (record { at = i; text = t } ∷ ps) qs) ≡ glued (record { at = at; text = b ∷ t } ∷ ps) qs
widened_glued at b i t [] (q ∷ qs) = refl
widened_glued at b i t _ _ = refl

pub glued_end : (ps : List Piece) (l q : Piece) (qs : List Piece) → glued (ps ++ (l ∷ [])) (q ∷ qs) ≡ ps ++ (record { at = l.at; text = l.text ++ q.text } ∷ qs)
glued_end (p ∷ r ∷ ps) l q qs = ap (λ z. p ∷ z) (glued_end (r ∷ ps) l q qs)
glued_end _ l q qs = refl

module _ (separates : ℕ → Bool) where
  -- ---- one more byte in front

  some_step : (b : ℕ) (v : List ℕ) (test : Bool) → separates b ≡ test → (t : List ℕ) × (ts : List (List ℕ)) × (slice_split separates v ≡ t ∷ ts) → (t : List ℕ) × (ts : List (List ℕ)) × (slice_split separates (b ∷ v) ≡ t ∷ ts)
  some_step b v true e h = ([], slice_split separates v, slice_split-cons_yes separates b v e)
  some_step b v false e (t, ts, f) = (b ∷ t, ts, slice_split-cons_no separates b v e ∙ ap (onto_first b) f)

  split_some : (v : List ℕ) → (t : List ℕ) × (ts : List (List ℕ)) × (slice_split separates v ≡ t ∷ ts)
  split_some [] = ([], [], refl)
  split_some (b ∷ v) = some_step b v (separates b) refl (split_some v)

  -- there is a first piece
  pub pieces_some : (at : ℕ) (v : List ℕ) → (t : List ℕ) × (ps : List Piece) × (separated_by separates at v ≡ record { at = at; text = t } ∷ ps)
  pieces_some at v = let (t, ts, e) = split_some v in (t, placed (at + length t + 1) ts, ap (placed at) e)

  pub pieces_parted : (at b : ℕ) (v : List ℕ) → separates b ≡ true → separated_by separates at (b ∷ v) ≡ record { at = at; text = [] } ∷ separated_by separates (at + 1) v
  pieces_parted at b v h =
      let e : at + 0 + 1 ≡ at + 1 = omega arith in
      ap (placed at) (slice_split-cons_yes separates b v h) ∙ ap (λ n. record { at = at; text = [] } ∷ placed n (slice_split separates v)) e

  pub pieces_other : (at b : ℕ) (v : List ℕ) → separates b ≡ false → separated_by separates at (b ∷ v) ≡ widened at b (separated_by separates (at + 1) v)
  pieces_other at b v h =
      let (t, ts, e) = split_some v in
      let further : at + length (b ∷ t) + 1 ≡ at + 1 + length t + 1 = omega arith in
      ap (placed at) (slice_split-cons_no separates b v h ∙ ap (onto_first b) e)
      ∙ (ap (λ n. record { at = at; text = b ∷ t } ∷ placed n ts) further ∙ sym (ap (λ z. widened at b (placed (at + 1) z)) e))

  -- ---- joined bytes

  abbrev IsGlued : List ℕ → ℕ → List ℕ → Type 0
  IsGlued w at v = separated_by separates at (v ++ w) ≡ glued (separated_by separates at v) (separated_by separates (at + length v) w)

  glued_none : (at : ℕ) (w : List ℕ) → IsGlued w at []
  glued_none at w =
      let (t, qs, e) = pieces_some at w in
      let here : at ≡ at + 0 = omega arith in
      e ∙ sym (ap (λ n. glued (record { at = at; text = [] } ∷ []) (separated_by separates n w)) (sym here) ∙ ap (glued (record { at = at; text = [] } ∷ [])) e)

  glued_step : (at b : ℕ) (v w : List ℕ) (test : Bool) → separates b ≡ test → IsGlued w (at + 1) v → IsGlued w at (b ∷ v)
  glued_step at b v w true e h =
      let (t, ps, f) = pieces_some (at + 1) v in
      let further : at + 1 + length v ≡ at + length (b ∷ v) = omega arith in
      pieces_parted at b (v ++ w) e ∙ (ap (λ z. record { at = at; text = [] } ∷ z) (h ∙ ap (λ n. glued (separated_by separates (at + 1) v) (separated_by separates n w)) further)
      ∙ (sym (glued_behind (record { at = at; text = [] }) (separated_by separates (at + 1) v) (separated_by separates (at + length (b ∷ v)) w) (record { at = at + 1; text = t }) ps f)
      ∙ ap (λ z. glued z (separated_by separates (at + length (b ∷ v)) w)) (sym (pieces_parted at b v e))))
  glued_step at b v w false e h =
      let (t, ps, f) = pieces_some (at + 1) v in
      let further : at + 1 + length v ≡ at + length (b ∷ v) = omega arith in
      let whole : separated_by separates at (b ∷ v) ≡ record { at = at; text = b ∷ t } ∷ ps = pieces_other at b v e ∙ ap (widened at b) f in
      pieces_other at b (v ++ w) e ∙ (ap (widened at b) (h ∙ (ap (λ n. glued (separated_by separates (at + 1) v) (separated_by separates n w)) further ∙ ap (λ z. glued z (separated_by separates (at + length (b ∷ v)) w)) f))
      ∙ (widened_glued at b (at + 1) t ps (separated_by separates (at + length (b ∷ v)) w) ∙ ap (λ z. glued z (separated_by separates (at + length (b ∷ v)) w)) (sym whole)))

  pub pieces_joined : (at : ℕ) (v w : List ℕ) → separated_by separates at (v ++ w) ≡ glued (separated_by separates at v) (separated_by separates (at + length v) w)
  pieces_joined at [] w = glued_none at w
  pieces_joined at (b ∷ v) w = glued_step at b v w (separates b) refl (pieces_joined (at + 1) v w)

  -- ---- the first piece, and one that is the last

  split_tail : (x : ℕ) (xs : List ℕ) (b : Bool) → separates x ≡ b → position_or_len separates (x ∷ xs) ≡ length (x ∷ xs)
      → (position_or_len separates xs ≡ length xs → slice_split separates xs ≡ xs ∷ []) → slice_split separates (x ∷ xs) ≡ (x ∷ xs) ∷ []
  split_tail x xs true e h rest = absurd (let none = rw e at h in omega arith)
  split_tail x xs false e h rest = let here = rw e at h in rw (slice_split-cons_no separates x xs e, rest (omega arith)) refl

  split_whole : (xs : List ℕ) → position_or_len separates xs ≡ length xs → slice_split separates xs ≡ xs ∷ []
  split_whole [] h = refl
  split_whole (x ∷ xs) h = split_tail x xs (separates x) refl h (split_whole xs)

  -- a piece that a separator ends, and the pieces behind it
  pub pieces_first : (at : ℕ) (bytes : List ℕ) (p : ℕ) → p ≡ position_or_len separates bytes → p < length bytes
      → separated_by separates at bytes ≡ record { at = at; text = take p bytes } ∷ separated_by separates (at + p + 1) (drop (p + 1) bytes)
  pieces_first at bytes p e h =
      let inside : position_or_len separates bytes < length bytes = omega arith in
      let size : length (take p bytes) ≡ p = omega (arith, length-take p bytes) in
      ap (placed at) (slice_split_first separates bytes 0 inside)
      ∙ ap (λ n. placed at (take n bytes ∷ slice_split separates (drop (n + 1) bytes))) (sym e)
      ∙ ap (λ n. record { at = at; text = take p bytes } ∷ placed (at + n + 1) (slice_split separates (drop (p + 1) bytes))) size

  -- bytes without a separator are one piece
  pub pieces_last : (at : ℕ) (bytes : List ℕ) → position_or_len separates bytes ≡ length bytes → separated_by separates at bytes ≡ record { at = at; text = bytes } ∷ []
  pieces_last at bytes e = ap (placed at) (split_whole bytes e)
