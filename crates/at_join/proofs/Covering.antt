-- Extents round stretches of outlines.
-- For `cell_pairs`, `merge`, `new`, `pairs_grid`, `pairs_plain` and `run`.
use Rattle.std.proofs.Common.{◌≡◌, ℕ, ◌+◌, ◌-◌, ◌*◌, ◌/◌, ◌<◌, ◌≤◌, min, pos, true, false, List, [], ◌∷◌, ◌++◌, length, get_or, take, drop, inl, inr, arith, sym, ap, subst, ◌∙◌}
use Rattle.std.proofs.Math.Nat.{mul-le-mul_right}
use Rattle.std.proofs.Math.ListN.{get_or-append}
use Rattle.std.proofs.Math.Seq.{get_or-append_seam}
use Rattle.std.proofs.lemmas.List.{get_or-drop, get_or-take, get_or_past, get_or_default, length-take-le, length-drop}
use Rattle.std.proofs.lemmas.Bool.{cases_lt}
use Rattle.at_geom.specs.declared.rectangles.Extent.{Extent}
use Rattle.at_geom.specs.Shapes.{encloses}
use Rattle.at_query.specs.Joined.{around}
use Rattle.at_geom.proofs.Found.{encloses_itself}
use Rattle.at_join.specs.declared.outlines.Outline.{Outline}
use Rattle.at_join.specs.Boxes.{touch_of}
use Rattle.at_join.specs.Sides.{Cover}
use Rattle.at_join.proofs.Extents.{beside, off_itself, covered_off, around_first, around_second}

-- what stands where a list has no outline
abbrev pub no_extent : Extent
no_extent = record { low = record { x = pos 0; y = pos 0 }; high = record { x = pos 0; y = pos 0 } }

abbrev pub no_outline : Outline
no_outline = record { extent = no_extent; at = 0; index = 0 }

-- the first k outlines of a list lie in the extent
abbrev pub IsRound : Extent → List Outline → ℕ → Type 0
IsRound x outlines n = (k : ℕ) (e : Outline) → k < n → encloses x (get_or outlines k e).extent ≡ true

pub round_more : (x : Extent) (outlines : List Outline) (i : ℕ) (q : Outline) → ((e : Outline) → get_or outlines i e ≡ q) → IsRound x outlines i → IsRound (around x q.extent) outlines (i + 1)
round_more x outlines i q is h = λ k e lt. elim (cases_lt k i) [
  | inl below ↦ around_first x q.extent (get_or outlines k e).extent (h k e below)
  | inr from ↦
      let same : k ≡ i = omega (arith, lt, from) in
      subst (λ (j : ℕ). encloses (around x q.extent) (get_or outlines j e).extent ≡ true) (sym same)
      (subst (λ (p : Outline). encloses (around x q.extent) p.extent ≡ true) (sym (is e)) (around_second x q.extent))
]

-- the covers of the first outlines, up to a number
abbrev pub CoverTo : ℕ → List Extent → List Outline → ℕ → Type 0
CoverTo size covers outlines n = (c j : ℕ) (d : Extent) (e : Outline) → j < size → c * size + j < n → encloses (get_or covers c d) (get_or outlines (c * size + j) e).extent ≡ true

-- c is below l where its stretch begins below that of l
earlier : (c l j size : ℕ) → c * size + j < l * size → c < l
earlier c l j size h = elim (cases_lt c l) [ inl lt ↦ lt | inr ge ↦ absurd (let m = mul-le-mul_right size ge in omega (arith, h, m)) ]

only_here : (c l j size : ℕ) → j < size → l * size ≤ c * size + j → c * size + j < l * size + size → c ≡ l
only_here c l j size small from to = elim (cases_lt c l) [
  | inl lt ↦ absurd (let m = mul-le-mul_right {m = c + 1} {n = l} size (omega (arith, lt)) in let e : (c + 1) * size ≡ c * size + size = omega (arith) in omega (arith, m, e, small, from))
  | inr ge ↦ elim (cases_lt l c) [
    | inl lt ↦ absurd (let m = mul-le-mul_right {m = l + 1} {n = c} size (omega (arith, lt)) in let e : (l + 1) * size ≡ l * size + size = omega (arith) in omega (arith, m, e, to))
    | inr le ↦ omega (arith, ge, le)
  ]
]

-- one cover more
pub cover_more : (size : ℕ) (covers : List Extent) (x : Extent) (outlines : List Outline) (from to : ℕ) → from ≡ length covers * size → from ≤ to → to ≤ from + size
    → IsRound x (take (to - from) (drop from outlines)) (to - from) → CoverTo size covers outlines from → CoverTo size (covers ++ x ∷ []) outlines to
cover_more size covers x outlines from to at up far round h = λ c j d e small lt. elim (cases_lt (c * size + j) from) [
  | inl before ↦
      let below = earlier c (length covers) j size (omega (arith, before, at)) in
      subst (λ (y : Extent). encloses y (get_or outlines (c * size + j) e).extent ≡ true) (sym (get_or-append covers (x ∷ []) d c below)) (h c j d e small before)
  | inr behind ↦
      let same = only_here c (length covers) j size small (omega (arith, behind, at)) (omega (arith, lt, far, at)) in
      let k : ℕ = (c * size + j) - from in
      let within : k < to - from = omega (arith, lt, behind) in
      let there : get_or (take (to - from) (drop from outlines)) k e ≡ get_or outlines (c * size + j) e =
      get_or-take (to - from) (drop from outlines) k e within ∙ get_or-drop from outlines k e ∙ ap (λ m. get_or outlines m e) (omega (arith, behind)) in
      subst (λ (y : Extent). encloses y (get_or outlines (c * size + j) e).extent ≡ true) (sym (ap (λ m. get_or (covers ++ x ∷ []) m d) same ∙ get_or-append_seam covers x [] d))
      (subst (λ (p : Outline). encloses x p.extent ≡ true) there (round k e within))
]

-- the outlines of a stretch whose cover is off a window
pub stretch_off : (size c at : ℕ) (covers slice : List Extent) (outlines : List Outline) (w : Extent) → slice ≡ covers → Cover size covers outlines → at ≡ c * size → ((d : Extent) → touch_of (get_or slice c d) w ≡ false)
    → (k : ℕ) (e : Outline) → at ≤ k → k < at + size → k < length outlines → touch_of (get_or outlines k e).extent w ≡ false
stretch_off size c at covers slice outlines w same cover is off k e from to lt =
    let j : ℕ = k - at in
    let here : c * size + j ≡ k = omega (arith, is, from) in
    let small : j < size = omega (arith, from, to) in
    let d : Extent = e.extent in
    subst (λ (m : ℕ). touch_of (get_or outlines m e).extent w ≡ false) here
    (covered_off (get_or covers c d) (get_or outlines (c * size + j) e).extent w (cover c j d e small (omega (arith, here, lt))) (ap (λ (l : List Extent). touch_of (get_or l c d) w) (sym same) ∙ off d))

-- where the stretch behind this one begins
pub next_at : (size l n from to : ℕ) → from ≡ l * size → to ≡ min n (from + size) → to < n → to ≡ (l + 1) * size
next_at size l n from to at is lt =
    let e : (l + 1) * size ≡ l * size + size = omega (arith) in
    omega (arith, at, is, lt, e)

pub part_length : {X : Type 0} (xs : List X) (from to : ℕ) → from ≤ to → to ≤ length xs → length (take (to - from) (drop from xs)) ≡ to - from
part_length xs from to le lt = length-take-le (to - from) (drop from xs) (omega (arith, length-drop from xs, le, lt))

-- ---- the extent round the stretch in which an outline stands

-- a stretch with an outline has an extent
cover_there : (size c j : ℕ) (covers : List Extent) (outlines : List Outline) → Cover size covers outlines → j < size → c * size + j < length outlines → c < length covers
cover_there size c j covers outlines cover small lt = elim (cases_lt c (length covers)) [
  | inl below ↦ below
  | inr from ↦
      let x : Extent = (get_or outlines (c * size + j) no_outline).extent in
      absurd (off_itself x (subst (λ (y : Extent). encloses y x ≡ true) (get_or_past covers c (beside x) from) (cover c j (beside x) no_outline small lt)))
]

pub round_there : (at : ℕ) (covers : List Extent) (outlines : List Outline) → Cover 16 covers outlines → at < length outlines → at / 16 < length covers
round_there at covers outlines cover lt =
    let j : ℕ = at - at / 16 * 16 in
    cover_there 16 (at / 16) j covers outlines cover (omega arith) (omega (arith, lt))

pub round_of : (at : ℕ) (covers : List Extent) (outlines : List Outline) (x : Extent) → Cover 16 covers outlines → x ≡ get_or covers (at / 16) x
    → (k : ℕ) (e : Outline) → at ≤ k → k < at / 16 * 16 + 16 → k < length outlines → encloses x (get_or outlines k e).extent ≡ true
round_of at covers outlines x cover is k e from to lt =
    let j : ℕ = k - at / 16 * 16 in
    let here : at / 16 * 16 + j ≡ k = omega (arith, from) in
    subst (λ (y : Extent). encloses y (get_or outlines k e).extent ≡ true) (sym is)
    (subst (λ (m : ℕ). encloses (get_or covers (at / 16) x) (get_or outlines m e).extent ≡ true) here
    (cover (at / 16) j x e (omega (arith, from, to)) (omega (arith, here, lt))))

pub round_one : (at to : ℕ) (outlines : List Outline) (q : Outline) → to ≡ at + 1 → at < length outlines → q ≡ get_or outlines at q
    → (k : ℕ) (e : Outline) → at ≤ k → k < to → encloses q.extent (get_or outlines k e).extent ≡ true
round_one at to outlines q end lt is k e from below =
    let here : at ≡ k = omega (arith, from, below, end) in
    subst (λ (m : ℕ). encloses q.extent (get_or outlines m e).extent ≡ true) here
    (subst (λ (p : Outline). encloses q.extent p.extent ≡ true) (is ∙ get_or_default outlines at q e lt) (encloses_itself q.extent))
