-- When two closed segments have a common point: exactly where their boxes overlap and neither lies strictly on one side
-- of the other's line. All numbers are whole, and a segment may be one position.
-- A segment ab has the vector u, a segment cd the vector v, and w leads from a to c.
-- For most public calls of the crate, `are_closed`, `doubled_area`, `in_polygon` among them.
use Rattle.std.proofs.Common.{◌≡◌, ◌≢◌, ℕ, zero, suc, ℤ, pos, negsuc, ◌+◌, ◌-◌, ◌*◌, ◌≤◌, ◌+ℤ◌, ◌-ℤ◌, ◌*ℤ◌, ◌≤ℤ◌, ◌<ℤ◌, ◌⊎◌, inl, inr, neg_ℤ, nat_abs, arith, refl, sym, ap, ◌∙◌, subst}
use Rattle.std.proofs.Math.IntN.{ℤ_discrete}
use Rattle.std.specs.Int.{int_min, int_max}
use Rattle.std.proofs.lemmas.Int.{ints, clamps, by_lt_z}
use borrow.Author.Differences.{up, down}
use Rattle.at_geom.specs.declared.positions.Pos.{Pos}
use Rattle.at_geom.specs.Segments.{HaveCommonPoint, IsOn, part_way, turn}
use Rattle.at_geom.proofs.RingLaws.{mul_neg, neg_mul, expand, products}

abbrev pub cross : ℤ → ℤ → ℤ → ℤ → ℤ
cross ux uy wx wy = (ux *ℤ wy) -ℤ (uy *ℤ wx)

cramer_x : (ux uy vx vy wx wy : ℤ) → (cross wx wy vx vy *ℤ ux) +ℤ (cross ux uy wx wy *ℤ vx) ≡ cross ux uy vx vy *ℤ wx
cramer_x ux uy vx vy wx wy = simp expand (omega (arith, products))

cramer_y : (ux uy vx vy wx wy : ℤ) → (cross wx wy vx vy *ℤ uy) +ℤ (cross ux uy wx wy *ℤ vy) ≡ cross ux uy vx vy *ℤ wy
cramer_y ux uy vx vy wx wy = simp expand (omega (arith, products))

-- the same on one axis from a place on the first segment, from c and from there
axis_in : (m j l k : ℕ) (a b c d : ℤ) → m + j ≡ l + k → (pos j *ℤ (b -ℤ a)) -ℤ (pos k *ℤ (d -ℤ c)) ≡ pos (m + j) *ℤ (c -ℤ a)
    → (pos m *ℤ a) +ℤ (pos j *ℤ b) ≡ (pos l *ℤ c) +ℤ (pos k *ℤ d)
axis_in m j l k a b c d e h =
    let g = simp expand at h in
    omega (arith, ints, g, ap (λ (t : ℕ). t * up c) e, ap (λ (t : ℕ). t * down c) e)

axis_out : (m j l k : ℕ) (a b c d : ℤ) → m + j ≡ l + k → (pos m *ℤ a) +ℤ (pos j *ℤ b) ≡ (pos l *ℤ c) +ℤ (pos k *ℤ d)
    → (pos j *ℤ (b -ℤ a)) -ℤ (pos k *ℤ (d -ℤ c)) ≡ pos (m + j) *ℤ (c -ℤ a)
axis_out m j l k a b c d e h =
    simp expand (omega (arith, ints, h, ap (λ (t : ℕ). t * up c) e, ap (λ (t : ℕ). t * down c) e))

-- the point j of n parts along ab is the point k of n along cd, told by what lies between c and a
pub record Crosses (ax ay bx by cx cy dx dy : ℤ) : Type 0 where
  pub n : ℕ
  pub j : ℕ
  pub k : ℕ
  pub some_parts : 1 ≤ n
  pub on_first : j ≤ n
  pub on_second : k ≤ n
  pub same_x : (pos j *ℤ (bx -ℤ ax)) -ℤ (pos k *ℤ (dx -ℤ cx)) ≡ pos n *ℤ (cx -ℤ ax)
  pub same_y : (pos j *ℤ (by -ℤ ay)) -ℤ (pos k *ℤ (dy -ℤ cy)) ≡ pos n *ℤ (cy -ℤ ay)

swapped_axis : (n j k : ℕ) (a b c d : ℤ) → (pos j *ℤ (b -ℤ a)) -ℤ (pos k *ℤ (d -ℤ c)) ≡ pos n *ℤ (c -ℤ a) → (pos k *ℤ (d -ℤ c)) -ℤ (pos j *ℤ (b -ℤ a)) ≡ pos n *ℤ (a -ℤ c)
swapped_axis n j k a b c d h = let g = simp expand at h in simp expand (omega (arith, ints, g))

Crosses-swapped : (ax ay bx by cx cy dx dy : ℤ) → Crosses ax ay bx by cx cy dx dy → Crosses cx cy dx dy ax ay bx by
Crosses-swapped ax ay bx by cx cy dx dy h = record { n = h.n; j = h.k; k = h.j; some_parts = h.some_parts; on_first = h.on_second; on_second = h.on_first; same_x = swapped_axis h.n h.j h.k ax bx cx dx h.same_x; same_y = swapped_axis h.n h.j h.k ay by cy dy h.same_y }

-- ---- the turns, by the vectors u = ab, v = cd, w = ac

turn_d : (ax ay bx by cx cy dx dy : ℤ) → cross (bx -ℤ ax) (by -ℤ ay) (dx -ℤ ax) (dy -ℤ ay)
    ≡ cross (bx -ℤ ax) (by -ℤ ay) (cx -ℤ ax) (cy -ℤ ay) +ℤ cross (bx -ℤ ax) (by -ℤ ay) (dx -ℤ cx) (dy -ℤ cy)
turn_d ax ay bx by cx cy dx dy = simp expand (omega (arith, ints))

turn_a : (ax ay cx cy dx dy : ℤ) → cross (dx -ℤ cx) (dy -ℤ cy) (ax -ℤ cx) (ay -ℤ cy) ≡ cross (cx -ℤ ax) (cy -ℤ ay) (dx -ℤ cx) (dy -ℤ cy)
turn_a ax ay cx cy dx dy = simp expand (omega (arith, ints))

turn_b : (ax ay bx by cx cy dx dy : ℤ) → cross (dx -ℤ cx) (dy -ℤ cy) (bx -ℤ cx) (by -ℤ cy)
    ≡ cross (dx -ℤ cx) (dy -ℤ cy) (ax -ℤ cx) (ay -ℤ cy) -ℤ cross (bx -ℤ ax) (by -ℤ ay) (dx -ℤ cx) (dy -ℤ cy)
turn_b ax ay bx by cx cy dx dy = simp expand (omega (arith, ints))

-- ---- segments that aren't parallel

part_above : (n j k : ℕ) (p q r u v w : ℤ) → p ≡ pos n → q ≡ pos j → r ≡ neg_ℤ (pos k) → (q *ℤ u) +ℤ (r *ℤ v) ≡ p *ℤ w → (pos j *ℤ u) -ℤ (pos k *ℤ v) ≡ pos n *ℤ w
part_above n j k p q r u v w e f g h = rw (← neg_mul (pos k) v) (rw (e, f, g) at h)

part_below : (n j k : ℕ) (p q r u v w : ℤ) → p ≡ neg_ℤ (pos n) → q ≡ neg_ℤ (pos j) → r ≡ pos k → (q *ℤ u) +ℤ (r *ℤ v) ≡ p *ℤ w → (pos j *ℤ u) -ℤ (pos k *ℤ v) ≡ pos n *ℤ w
part_below n j k p q r u v w e f g h =
    let i = rw (e, f, g, neg_mul (pos n) w, neg_mul (pos j) u) at h in omega (arith, ints, i)

-- with u and v not parallel, and the turns on both sides of both
crossing : (ax ay bx by cx cy dx dy : ℤ) (n j k : ℕ) → 1 ≤ n → j ≤ n → k ≤ n
    → ((u v w : ℤ) → (cross (cx -ℤ ax) (cy -ℤ ay) (dx -ℤ cx) (dy -ℤ cy) *ℤ u) +ℤ (cross (bx -ℤ ax) (by -ℤ ay) (cx -ℤ ax) (cy -ℤ ay) *ℤ v) ≡ cross (bx -ℤ ax) (by -ℤ ay) (dx -ℤ cx) (dy -ℤ cy) *ℤ w → (pos j *ℤ u) -ℤ (pos k *ℤ v) ≡ pos n *ℤ w)
    → Crosses ax ay bx by cx cy dx dy
crossing ax ay bx by cx cy dx dy n j k some f s parts = record {
  n = n;
  j = j;
  k = k;
  some_parts = some;
  on_first = f;
  on_second = s;
  same_x = parts (bx -ℤ ax) (dx -ℤ cx) (cx -ℤ ax) (cramer_x (bx -ℤ ax) (by -ℤ ay) (dx -ℤ cx) (dy -ℤ cy) (cx -ℤ ax) (cy -ℤ ay));
  same_y = parts (by -ℤ ay) (dy -ℤ cy) (cy -ℤ ay) (cramer_y (bx -ℤ ax) (by -ℤ ay) (dx -ℤ cx) (dy -ℤ cy) (cx -ℤ ax) (cy -ℤ ay));
}

-- p and q don't lie strictly on one side of 0
abbrev pub AreApart : ℤ → ℤ → Type 0
AreApart p q = ((p ≤ℤ pos 0) ⊎ (q ≤ℤ pos 0)) × ((pos 0 ≤ℤ p) ⊎ (pos 0 ≤ℤ q))

-- where q is p and a number above 0 more
rises : (p q z : ℤ) → q ≡ p +ℤ z → pos 0 <ℤ z → AreApart p q → (p ≤ℤ pos 0) × (pos 0 ≤ℤ q)
rises p q z e l h = (omega (arith, ints), omega (arith, ints))

falls : (p q z : ℤ) → q ≡ p -ℤ z → pos 0 <ℤ z → AreApart p q → (pos 0 ≤ℤ p) × (q ≤ℤ pos 0)
falls p q z e l h = (omega (arith, ints), omega (arith, ints))

pub nat_of : (z : ℤ) → pos 0 ≤ℤ z → (n : ℕ) × (z ≡ pos n)
nat_of z h = (nat_abs z, omega (arith, ints))

pub neg_of : (z : ℤ) → z ≤ℤ pos 0 → (n : ℕ) × (z ≡ neg_ℤ (pos n))
neg_of z h = (nat_abs z, omega (arith, ints))

-- D = cross u v above 0
meets_above : (ax ay bx by cx cy dx dy : ℤ) → pos 0 <ℤ cross (bx -ℤ ax) (by -ℤ ay) (dx -ℤ cx) (dy -ℤ cy)
    → AreApart (cross (bx -ℤ ax) (by -ℤ ay) (cx -ℤ ax) (cy -ℤ ay)) (cross (bx -ℤ ax) (by -ℤ ay) (dx -ℤ ax) (dy -ℤ ay))
    → AreApart (cross (dx -ℤ cx) (dy -ℤ cy) (ax -ℤ cx) (ay -ℤ cy)) (cross (dx -ℤ cx) (dy -ℤ cy) (bx -ℤ cx) (by -ℤ cy))
    → Crosses ax ay bx by cx cy dx dy
meets_above ax ay bx by cx cy dx dy l s t =
    let z : ℤ = cross (bx -ℤ ax) (by -ℤ ay) (dx -ℤ cx) (dy -ℤ cy) in
    let e = turn_d ax ay bx by cx cy dx dy in
    let f = turn_a ax ay cx cy dx dy in
    let g = turn_b ax ay bx by cx cy dx dy in
    let r = rises _ _ z e l s in
    let q = falls _ _ z g l t in
    let (n, en) = nat_of z (omega (arith, ints)) in
    let (j, ej) = nat_of _ q.0 in
    let (k, ek) = neg_of _ r.0 in
    crossing ax ay bx by cx cy dx dy n j k (omega (arith, ints)) (omega (arith, ints)) (omega (arith, ints)) (λ u v w. part_above n j k _ _ _ u v w en (sym f ∙ ej) ek)

meets_below : (ax ay bx by cx cy dx dy : ℤ) → cross (bx -ℤ ax) (by -ℤ ay) (dx -ℤ cx) (dy -ℤ cy) <ℤ pos 0
    → AreApart (cross (bx -ℤ ax) (by -ℤ ay) (cx -ℤ ax) (cy -ℤ ay)) (cross (bx -ℤ ax) (by -ℤ ay) (dx -ℤ ax) (dy -ℤ ay))
    → AreApart (cross (dx -ℤ cx) (dy -ℤ cy) (ax -ℤ cx) (ay -ℤ cy)) (cross (dx -ℤ cx) (dy -ℤ cy) (bx -ℤ cx) (by -ℤ cy))
    → Crosses ax ay bx by cx cy dx dy
meets_below ax ay bx by cx cy dx dy l s t =
    let z : ℤ = cross (bx -ℤ ax) (by -ℤ ay) (dx -ℤ cx) (dy -ℤ cy) in
    let e = turn_d ax ay bx by cx cy dx dy in
    let f = turn_a ax ay cx cy dx dy in
    let g = turn_b ax ay bx by cx cy dx dy in
    let r = falls _ _ (neg_ℤ z) (omega (arith, ints, e)) (omega (arith, ints)) s in
    let q = rises _ _ (neg_ℤ z) (omega (arith, ints, g)) (omega (arith, ints)) t in
    let (n, en) = neg_of z (omega (arith, ints)) in
    let (j, ej) = neg_of _ q.0 in
    let (k, ek) = nat_of _ r.0 in
    crossing ax ay bx by cx cy dx dy n j k (omega (arith, ints)) (omega (arith, ints)) (omega (arith, ints)) (λ u v w. part_below n j k _ _ _ u v w en (sym f ∙ ej) ek)

-- ---- segments on one line

abbrev pub Overlap : ℤ → ℤ → ℤ → ℤ → Type 0
Overlap a b c d = (int_min a b ≤ℤ int_max c d) × (int_min c d ≤ℤ int_max a b)

abbrev pub Between : ℤ → ℤ → ℤ → Type 0
Between a b p = (int_min a b ≤ℤ p) × (p ≤ℤ int_max a b)

data SomeEnd (a b c d : ℤ) : Type 0 where
  has_c : Between a b c → SomeEnd a b c d
  has_d : Between a b d → SomeEnd a b c d
  has_a : Between c d a → SomeEnd a b c d
  has_b : Between c d b → SomeEnd a b c d

-- of two spans that overlap one has an end of the other
some_end : (a b c d : ℤ) → Overlap a b c d → SomeEnd a b c d
some_end a b c d h =
    by_lt_z (int_min c d) (int_min a b)
    (λ l. by_lt_z b a (λ m. has_b (omega (arith, ints, clamps), omega (arith, ints, clamps))) (λ m. has_a (omega (arith, ints, clamps), omega (arith, ints, clamps))))
    (λ l. by_lt_z d c (λ m. has_d (omega (arith, ints, clamps), omega (arith, ints, clamps))) (λ m. has_c (omega (arith, ints, clamps), omega (arith, ints, clamps))))

-- p lies j of n parts of the way from a to b, on one axis and on the other
record Proportion (a b p a' b' p' : ℤ) : Type 0 where
  n : ℕ
  j : ℕ
  some_parts : 1 ≤ n
  within : j ≤ n
  along : pos n *ℤ (p -ℤ a) ≡ pos j *ℤ (b -ℤ a)
  across : pos n *ℤ (p' -ℤ a') ≡ pos j *ℤ (b' -ℤ a')

up_to_sign : (n j : ℕ) (u w u' w' : ℤ) → u ≡ neg_ℤ (pos n) → w ≡ neg_ℤ (pos j) → u *ℤ w' ≡ u' *ℤ w → pos n *ℤ w' ≡ pos j *ℤ u'
up_to_sign n j u w u' w' e f h = let g = rw (e, f, neg_mul (pos n) w', mul_neg u' (pos j)) at h in omega (arith, ints, g)

as_it_is : (n j : ℕ) (u w u' w' : ℤ) → u ≡ pos n → w ≡ pos j → u *ℤ w' ≡ u' *ℤ w → pos n *ℤ w' ≡ pos j *ℤ u'
as_it_is n j u w u' w' e f h = let g = rw (e, f) at h in omega (arith, ints, g)

-- u and w are on one side of 0
abbrev OnOneSide : ℤ → ℤ → Type 0
OnOneSide u w = ((pos 0 <ℤ u) × (pos 0 ≤ℤ w)) ⊎ ((u <ℤ pos 0) × (w ≤ℤ pos 0))

by_sizes : (u w u' w' : ℤ) → OnOneSide u w → u *ℤ w' ≡ u' *ℤ w → pos (nat_abs u) *ℤ w' ≡ pos (nat_abs w) *ℤ u'
by_sizes u w u' w' (inl side) h = as_it_is (nat_abs u) (nat_abs w) u w u' w' (omega (arith, ints)) (omega (arith, ints)) h
by_sizes u w u' w' (inr side) h = up_to_sign (nat_abs u) (nat_abs w) u w u' w' (omega (arith, ints)) (omega (arith, ints)) h

-- a place between a and b on an axis on which they differ, and on their line
on_line : (a b p a' b' p' : ℤ) → a ≢ b → Between a b p → (b -ℤ a) *ℤ (p' -ℤ a') ≡ (b' -ℤ a') *ℤ (p -ℤ a) → Proportion a b p a' b' p'
on_line a b p a' b' p' ne h e =
    let side : OnOneSide (b -ℤ a) (p -ℤ a) = by_lt_z a b (λ l. inl (omega (arith, ints), omega (arith, ints, clamps))) (λ l. inr (omega (arith, ints), omega (arith, ints, clamps))) in
    record {
      n = nat_abs (b -ℤ a);
      j = nat_abs (p -ℤ a);
      some_parts = omega (arith, ints);
      within = omega (arith, ints, clamps);
      along = by_sizes (b -ℤ a) (p -ℤ a) (b -ℤ a) (p -ℤ a) side refl;
      across = by_sizes (b -ℤ a) (p -ℤ a) (b' -ℤ a') (p' -ℤ a') side e;
    }

-- from an end of one segment on the other to the point that both have
at_c : (n j : ℕ) (a b c d : ℤ) → pos n *ℤ (c -ℤ a) ≡ pos j *ℤ (b -ℤ a) → (pos j *ℤ (b -ℤ a)) -ℤ (pos 0 *ℤ (d -ℤ c)) ≡ pos n *ℤ (c -ℤ a)
at_c n j a b c d h = let g = simp expand at h in simp expand (omega (arith, ints, g))

at_d : (n j : ℕ) (a b c d : ℤ) → pos n *ℤ (d -ℤ a) ≡ pos j *ℤ (b -ℤ a) → (pos j *ℤ (b -ℤ a)) -ℤ (pos n *ℤ (d -ℤ c)) ≡ pos n *ℤ (c -ℤ a)
at_d n j a b c d h = let g = simp expand at h in simp expand (omega (arith, ints, g))

meets_at_c : (ax ay bx by cx cy dx dy : ℤ) → Proportion ax bx cx ay by cy → Crosses ax ay bx by cx cy dx dy
meets_at_c ax ay bx by cx cy dx dy h = record { n = h.n; j = h.j; k = 0; some_parts = h.some_parts; on_first = h.within; on_second = omega arith; same_x = at_c h.n h.j ax bx cx dx h.along; same_y = at_c h.n h.j ay by cy dy h.across }

meets_at_d : (ax ay bx by cx cy dx dy : ℤ) → Proportion ax bx dx ay by dy → Crosses ax ay bx by cx cy dx dy
meets_at_d ax ay bx by cx cy dx dy h = record { n = h.n; j = h.j; k = h.n; some_parts = h.some_parts; on_first = h.within; on_second = omega arith; same_x = at_d h.n h.j ax bx cx dx h.along; same_y = at_d h.n h.j ay by cy dy h.across }

Crosses-turned : (ax ay bx by cx cy dx dy : ℤ) → Crosses ax ay bx by cx cy dx dy → Crosses ay ax by bx cy cx dy dx
Crosses-turned ax ay bx by cx cy dx dy h = record { n = h.n; j = h.j; k = h.k; some_parts = h.some_parts; on_first = h.on_first; on_second = h.on_second; same_x = h.same_y; same_y = h.same_x }

-- the four turns are 0
record AreOnOneLine (ax ay bx by cx cy dx dy : ℤ) : Type 0 where
  of_c : (bx -ℤ ax) *ℤ (cy -ℤ ay) ≡ (by -ℤ ay) *ℤ (cx -ℤ ax)
  of_d : (bx -ℤ ax) *ℤ (dy -ℤ ay) ≡ (by -ℤ ay) *ℤ (dx -ℤ ax)
  of_a : (dx -ℤ cx) *ℤ (ay -ℤ cy) ≡ (dy -ℤ cy) *ℤ (ax -ℤ cx)
  of_b : (dx -ℤ cx) *ℤ (by -ℤ cy) ≡ (dy -ℤ cy) *ℤ (bx -ℤ cx)

-- segments on one line that overlap on an axis on which the first has some length
by_first : (ax ay bx by cx cy dx dy : ℤ) → ax ≢ bx → Overlap ax bx cx dx → AreOnOneLine ax ay bx by cx cy dx dy → Crosses ax ay bx by cx cy dx dy
by_first ax ay bx by cx cy dx dy ne o l =
    let with_c = λ (h : Between ax bx cx). meets_at_c ax ay bx by cx cy dx dy (on_line ax bx cx ay by cy ne h l.of_c) in
    elim (some_end ax bx cx dx o) as (λ _. Crosses ax ay bx by cx cy dx dy) [
      | has_c h ↦ with_c h
      | has_d h ↦ meets_at_d ax ay bx by cx cy dx dy (on_line ax bx dx ay by dy ne h l.of_d)
      | has_a h ↦ elim (ℤ_discrete cx dx) as (λ _. Crosses ax ay bx by cx cy dx dy) [
        | yes e ↦ with_c (omega (arith, ints, clamps), omega (arith, ints, clamps))
        | no f ↦ Crosses-swapped cx cy dx dy ax ay bx by (meets_at_c cx cy dx dy ax ay bx by (on_line cx dx ax cy dy ay f h l.of_a))
      ]
      | has_b h ↦ elim (ℤ_discrete cx dx) as (λ _. Crosses ax ay bx by cx cy dx dy) [
        | yes e ↦ with_c (omega (arith, ints, clamps), omega (arith, ints, clamps))
        | no f ↦ Crosses-swapped cx cy dx dy ax ay bx by (meets_at_d cx cy dx dy ax ay bx by (on_line cx dx bx cy dy by f h l.of_b))
      ]
    ]

swapped_line : (ax ay bx by cx cy dx dy : ℤ) → AreOnOneLine ax ay bx by cx cy dx dy → AreOnOneLine cx cy dx dy ax ay bx by
swapped_line ax ay bx by cx cy dx dy l = record { of_c = l.of_a; of_d = l.of_b; of_a = l.of_c; of_b = l.of_d }

turned_line : (ax ay bx by cx cy dx dy : ℤ) → AreOnOneLine ax ay bx by cx cy dx dy → AreOnOneLine ay ax by bx cy cx dy dx
turned_line ax ay bx by cx cy dx dy l = record { of_c = sym l.of_c; of_d = sym l.of_d; of_a = sym l.of_a; of_b = sym l.of_b }

-- two positions
at_one : (a b c d : ℤ) → a ≡ b → c ≡ d → Overlap a b c d → (pos 0 *ℤ (b -ℤ a)) -ℤ (pos 0 *ℤ (d -ℤ c)) ≡ pos 1 *ℤ (c -ℤ a)
at_one a b c d e f o = simp expand (omega (arith, ints, clamps))

on_one_line : (ax ay bx by cx cy dx dy : ℤ) → Overlap ax bx cx dx → Overlap ay by cy dy → AreOnOneLine ax ay bx by cx cy dx dy → Crosses ax ay bx by cx cy dx dy
on_one_line ax ay bx by cx cy dx dy o q l =
    elim (ℤ_discrete ax bx) as (λ _. Crosses ax ay bx by cx cy dx dy) [
      | no f ↦ by_first ax ay bx by cx cy dx dy f o l
      | yes e ↦ elim (ℤ_discrete cx dx) as (λ _. Crosses ax ay bx by cx cy dx dy) [
        | no f ↦ Crosses-swapped cx cy dx dy ax ay bx by (by_first cx cy dx dy ax ay bx by f (o.1, o.0) (swapped_line ax ay bx by cx cy dx dy l))
        | yes g ↦ elim (ℤ_discrete ay by) as (λ _. Crosses ax ay bx by cx cy dx dy) [
          | no f ↦ Crosses-turned ay ax by bx cy cx dy dx (by_first ay ax by bx cy cx dy dx f q (turned_line ax ay bx by cx cy dx dy l))
          | yes i ↦ elim (ℤ_discrete cy dy) as (λ _. Crosses ax ay bx by cx cy dx dy) [
            | no f ↦ Crosses-swapped cx cy dx dy ax ay bx by (Crosses-turned cy cx dy dx ay ax by bx (by_first cy cx dy dx ay ax by bx f (q.1, q.0) (swapped_line ay ax by bx cy cx dy dx (turned_line ax ay bx by cx cy dx dy l))))
            | yes k ↦ record {
              n = 1;
              j = 0;
              k = 0;
              some_parts = omega arith;
              on_first = omega arith;
              on_second = omega arith;
              same_x = at_one ax bx cx dx e g o;
              same_y = at_one ay by cy dy i k q;
            }
          ]
        ]
      ]
    ]

-- ---- all cases

zero_apart : (p : ℤ) → AreApart p p → p ≡ pos 0
zero_apart p h = omega (arith, ints)

same_products : (x y : ℤ) → x -ℤ y ≡ pos 0 → x ≡ y
same_products x y h = omega (arith, ints)

parallel : (ax ay bx by cx cy dx dy : ℤ) → cross (bx -ℤ ax) (by -ℤ ay) (dx -ℤ cx) (dy -ℤ cy) ≡ pos 0
    → AreApart (cross (bx -ℤ ax) (by -ℤ ay) (cx -ℤ ax) (cy -ℤ ay)) (cross (bx -ℤ ax) (by -ℤ ay) (dx -ℤ ax) (dy -ℤ ay))
    → AreApart (cross (dx -ℤ cx) (dy -ℤ cy) (ax -ℤ cx) (ay -ℤ cy)) (cross (dx -ℤ cx) (dy -ℤ cy) (bx -ℤ cx) (by -ℤ cy))
    → AreOnOneLine ax ay bx by cx cy dx dy
parallel ax ay bx by cx cy dx dy z s t =
    let e = turn_d ax ay bx by cx cy dx dy in
    let g = turn_b ax ay bx by cx cy dx dy in
    let p : cross (bx -ℤ ax) (by -ℤ ay) (dx -ℤ ax) (dy -ℤ ay) ≡ cross (bx -ℤ ax) (by -ℤ ay) (cx -ℤ ax) (cy -ℤ ay) = omega (arith, ints, e, z) in
    let q : cross (dx -ℤ cx) (dy -ℤ cy) (bx -ℤ cx) (by -ℤ cy) ≡ cross (dx -ℤ cx) (dy -ℤ cy) (ax -ℤ cx) (ay -ℤ cy) = omega (arith, ints, g, z) in
    let c = zero_apart _ (subst (λ (x : ℤ). AreApart (cross (bx -ℤ ax) (by -ℤ ay) (cx -ℤ ax) (cy -ℤ ay)) x) p s) in
    let a = zero_apart _ (subst (λ (x : ℤ). AreApart (cross (dx -ℤ cx) (dy -ℤ cy) (ax -ℤ cx) (ay -ℤ cy)) x) q t) in
    record { of_c = same_products _ _ c; of_d = same_products _ _ (p ∙ c); of_a = same_products _ _ a; of_b = same_products _ _ (q ∙ a) }

-- the tests say that there is a point
pub crosses_in : (ax ay bx by cx cy dx dy : ℤ) → Overlap ax bx cx dx → Overlap ay by cy dy
    → AreApart (cross (bx -ℤ ax) (by -ℤ ay) (cx -ℤ ax) (cy -ℤ ay)) (cross (bx -ℤ ax) (by -ℤ ay) (dx -ℤ ax) (dy -ℤ ay))
    → AreApart (cross (dx -ℤ cx) (dy -ℤ cy) (ax -ℤ cx) (ay -ℤ cy)) (cross (dx -ℤ cx) (dy -ℤ cy) (bx -ℤ cx) (by -ℤ cy))
    → Crosses ax ay bx by cx cy dx dy
crosses_in ax ay bx by cx cy dx dy o q s t =
    by_lt_z (pos 0) (cross (bx -ℤ ax) (by -ℤ ay) (dx -ℤ cx) (dy -ℤ cy))
    (λ l. meets_above ax ay bx by cx cy dx dy l s t)
    (λ l. by_lt_z (cross (bx -ℤ ax) (by -ℤ ay) (dx -ℤ cx) (dy -ℤ cy)) (pos 0)
    (λ m. meets_below ax ay bx by cx cy dx dy m s t)
    (λ m. on_one_line ax ay bx by cx cy dx dy o q (parallel ax ay bx by cx cy dx dy (omega (arith, ints)) s t)))

-- ---- a common point says what the tests say

pub above_by : (x y : ℤ) → x ≤ℤ y → (p : ℕ) × (y ≡ x +ℤ pos p)
above_by x y h = (nat_abs (y -ℤ x), omega (arith, ints))

below_by : (x y : ℤ) → y ≤ℤ x → (p : ℕ) × (y ≡ x -ℤ pos p)
below_by x y h = (nat_abs (x -ℤ y), omega (arith, ints))

-- no mean of numbers above t is a mean of numbers that aren't
apart_by : (m j l k p q r s : ℕ) (t : ℤ) → 1 ≤ m + j → m + j ≡ l + k
    → (pos m *ℤ (t +ℤ pos (suc p))) +ℤ (pos j *ℤ (t +ℤ pos (suc q))) ≡ (pos l *ℤ (t -ℤ pos r)) +ℤ (pos k *ℤ (t -ℤ pos s)) → ⊥
apart_by m j l k p q r s t some e h =
    let g = simp expand at h in
    omega (arith, ints, g, ap (λ (n : ℕ). n * up t) e, ap (λ (n : ℕ). n * down t) e)

no_mean_at : (m j l k p q r s : ℕ) (a b c d t : ℤ) → 1 ≤ m + j → m + j ≡ l + k → a ≡ t +ℤ pos (suc p) → b ≡ t +ℤ pos (suc q) → c ≡ t -ℤ pos r → d ≡ t -ℤ pos s
    → (pos m *ℤ a) +ℤ (pos j *ℤ b) ≡ (pos l *ℤ c) +ℤ (pos k *ℤ d) → ⊥
no_mean_at m j l k p q r s a b c d t some e fa fb er es h = apart_by m j l k p q r s t some e (rw (fa, fb, er, es) at h)

no_mean : (m j l k : ℕ) (a b c d t : ℤ) → 1 ≤ m + j → m + j ≡ l + k → t <ℤ a → t <ℤ b → c ≤ℤ t → d ≤ℤ t
    → (pos m *ℤ a) +ℤ (pos j *ℤ b) ≡ (pos l *ℤ c) +ℤ (pos k *ℤ d) → ⊥
no_mean m j l k a b c d t some e la lb lc ld h =
    let (p, ep) = above_by (t +ℤ pos 1) a (omega (arith, ints)) in
    let (q, eq) = above_by (t +ℤ pos 1) b (omega (arith, ints)) in
    let (r, er) = below_by t c lc in
    let (s, es) = below_by t d ld in
    let fa : a ≡ t +ℤ pos (suc p) = omega (arith, ints, ep) in
    let fb : b ≡ t +ℤ pos (suc q) = omega (arith, ints, eq) in
    no_mean_at m j l k p q r s a b c d t some e fa fb er es h

overlap_out : (m j l k : ℕ) (a b c d : ℤ) → 1 ≤ m + j → m + j ≡ l + k → (pos m *ℤ a) +ℤ (pos j *ℤ b) ≡ (pos l *ℤ c) +ℤ (pos k *ℤ d) → int_min a b ≤ℤ int_max c d
overlap_out m j l k a b c d some e h =
    by_lt_z (int_max c d) (int_min a b)
    (λ f. absurd (no_mean m j l k a b c d (int_max c d) some e (omega (arith, ints, clamps)) (omega (arith, ints, clamps)) (omega (arith, ints, clamps)) (omega (arith, ints, clamps)) h))
    (λ f. f)

-- a weighted sum of the turns of c and d is 0
weighted : (n j k : ℕ) (ux uy vx vy wx wy : ℤ) → (pos j *ℤ ux) -ℤ (pos k *ℤ vx) ≡ pos n *ℤ wx → (pos j *ℤ uy) -ℤ (pos k *ℤ vy) ≡ pos n *ℤ wy
    → (pos n *ℤ cross ux uy wx wy) +ℤ (pos k *ℤ cross ux uy vx vy) ≡ pos 0
weighted n j k ux uy vx vy wx wy h i =
    let p = simp expand at (ap (λ (t : ℤ). t *ℤ uy) h) in
    let q = simp expand at (ap (λ (t : ℤ). t *ℤ ux) i) in
    simp expand (omega (arith, products, p, q))

-- so they don't lie strictly on one side
both_above : (n k p q : ℕ) → 1 ≤ n → k ≤ n → (pos n *ℤ pos (suc p)) +ℤ (pos k *ℤ (pos (suc q) -ℤ pos (suc p))) ≡ pos 0 → ⊥
both_above n k p q some in_n h =
    let l : ℕ = n - k in let e : n ≡ l + k = omega arith in
    let g = simp expand at h in
    omega (arith, ints, g, ap (λ (t : ℕ). t * p) e)

both_below : (n k p q : ℕ) → 1 ≤ n → k ≤ n → (pos n *ℤ negsuc p) +ℤ (pos k *ℤ (negsuc q -ℤ negsuc p)) ≡ pos 0 → ⊥
both_below n k p q some in_n h =
    let l : ℕ = n - k in let e : n ≡ l + k = omega arith in
    let g = simp expand at h in
    omega (arith, ints, g, ap (λ (t : ℕ). t * p) e)

apart_of : (n k : ℕ) (x y : ℤ) → 1 ≤ n → k ≤ n → (pos n *ℤ x) +ℤ (pos k *ℤ (y -ℤ x)) ≡ pos 0 → AreApart x y
apart_of n k (pos (suc p)) (pos (suc q)) some in_n h = absurd (both_above n k p q some in_n h)
apart_of n k (negsuc p) (negsuc q) some in_n h = absurd (both_below n k p q some in_n h)
apart_of n k (pos zero) y some in_n h = (inl (omega (arith, ints)), inl (omega (arith, ints)))
apart_of n k (pos (suc p)) (pos zero) some in_n h = (inr (omega (arith, ints)), inr (omega (arith, ints)))
apart_of n k (pos (suc p)) (negsuc q) some in_n h = (inr (omega (arith, ints)), inl (omega (arith, ints)))
apart_of n k (negsuc p) (pos q) some in_n h = (inl (omega (arith, ints)), inr (omega (arith, ints)))

apart_out : (n k : ℕ) (x y z : ℤ) → 1 ≤ n → k ≤ n → y ≡ x +ℤ z → (pos n *ℤ x) +ℤ (pos k *ℤ z) ≡ pos 0 → AreApart x y
apart_out n k x y z some in_n e h =
    let f : z ≡ y -ℤ x = omega (arith, ints) in
    apart_of n k x y some in_n (rw f at h)

apart_from_crosses : (ax ay bx by cx cy dx dy : ℤ) → Crosses ax ay bx by cx cy dx dy
    → AreApart (cross (bx -ℤ ax) (by -ℤ ay) (cx -ℤ ax) (cy -ℤ ay)) (cross (bx -ℤ ax) (by -ℤ ay) (dx -ℤ ax) (dy -ℤ ay))
apart_from_crosses ax ay bx by cx cy dx dy h =
    apart_out h.n h.k _ _ _ h.some_parts h.on_second (turn_d ax ay bx by cx cy dx dy)
    (weighted h.n h.j h.k (bx -ℤ ax) (by -ℤ ay) (dx -ℤ cx) (dy -ℤ cy) (cx -ℤ ax) (cy -ℤ ay) h.same_x h.same_y)

overlap_by : (n j k : ℕ) (a b c d : ℤ) → 1 ≤ n → j ≤ n → k ≤ n → (pos j *ℤ (b -ℤ a)) -ℤ (pos k *ℤ (d -ℤ c)) ≡ pos n *ℤ (c -ℤ a) → int_min a b ≤ℤ int_max c d
overlap_by n j k a b c d some f s h =
    let e : n - j + j ≡ n = omega arith in
    overlap_out (n - j) j (n - k) k a b c d (omega arith) (omega arith) (axis_in (n - j) j (n - k) k a b c d (omega arith) (rw e h))

-- what the tests say, from a common point
pub record Passes (ax ay bx by cx cy dx dy : ℤ) : Type 0 where
  pub overlap_x : Overlap ax bx cx dx
  pub overlap_y : Overlap ay by cy dy
  pub apart_cd : AreApart (cross (bx -ℤ ax) (by -ℤ ay) (cx -ℤ ax) (cy -ℤ ay)) (cross (bx -ℤ ax) (by -ℤ ay) (dx -ℤ ax) (dy -ℤ ay))
  pub apart_ab : AreApart (cross (dx -ℤ cx) (dy -ℤ cy) (ax -ℤ cx) (ay -ℤ cy)) (cross (dx -ℤ cx) (dy -ℤ cy) (bx -ℤ cx) (by -ℤ cy))

pub crosses_out : (ax ay bx by cx cy dx dy : ℤ) → Crosses ax ay bx by cx cy dx dy → Passes ax ay bx by cx cy dx dy
crosses_out ax ay bx by cx cy dx dy h =
    let s = Crosses-swapped ax ay bx by cx cy dx dy h in
    record {
      overlap_x = (overlap_by h.n h.j h.k ax bx cx dx h.some_parts h.on_first h.on_second h.same_x, overlap_by s.n s.j s.k cx dx ax bx s.some_parts s.on_first s.on_second s.same_x);
      overlap_y = (overlap_by h.n h.j h.k ay by cy dy h.some_parts h.on_first h.on_second h.same_y, overlap_by s.n s.j s.k cy dy ay by s.some_parts s.on_first s.on_second s.same_y);
      apart_cd = apart_from_crosses ax ay bx by cx cy dx dy h;
      apart_ab = apart_from_crosses cx cy dx dy ax ay bx by s;
    }

-- ---- in terms of positions

part_of : (n j k : ℕ) (a b c d : ℤ) → j ≤ n → k ≤ n → (pos j *ℤ (b -ℤ a)) -ℤ (pos k *ℤ (d -ℤ c)) ≡ pos n *ℤ (c -ℤ a) → part_way n j a b ≡ part_way n k c d
part_of n j k a b c d f s h = let e : n - j + j ≡ n = omega arith in axis_in (n - j) j (n - k) k a b c d (omega arith) (rw e h)

offset_of : (n j k : ℕ) (a b c d : ℤ) → j ≤ n → k ≤ n → part_way n j a b ≡ part_way n k c d → (pos j *ℤ (b -ℤ a)) -ℤ (pos k *ℤ (d -ℤ c)) ≡ pos n *ℤ (c -ℤ a)
offset_of n j k a b c d f s h = let e : n - j + j ≡ n = omega arith in rw e at (axis_out (n - j) j (n - k) k a b c d (omega arith) h)

pub common_point_in : (a b c d : Pos) → Passes a.x a.y b.x b.y c.x c.y d.x d.y → HaveCommonPoint a b c d
common_point_in a b c d h =
    let k = crosses_in a.x a.y b.x b.y c.x c.y d.x d.y h.overlap_x h.overlap_y h.apart_cd h.apart_ab in
    let part = λ (p q r s : ℤ). part_of k.n k.j k.k p q r s k.on_first k.on_second in
    record { n = k.n; j = k.j; k = k.k; some_parts = k.some_parts; on_first = k.on_first; on_second = k.on_second; same_x = part a.x b.x c.x d.x k.same_x; same_y = part a.y b.y c.y d.y k.same_y }

pub common_point_out : (a b c d : Pos) → HaveCommonPoint a b c d → Passes a.x a.y b.x b.y c.x c.y d.x d.y
common_point_out a b c d h =
    let offset = λ (p q r s : ℤ). offset_of h.n h.j h.k p q r s h.on_first h.on_second in
    let crossed : Crosses a.x a.y b.x b.y c.x c.y d.x d.y = record { n = h.n; j = h.j; k = h.k; some_parts = h.some_parts; on_first = h.on_first; on_second = h.on_second; same_x = offset a.x b.x c.x d.x h.same_x; same_y = offset a.y b.y c.y d.y h.same_y } in
    crosses_out a.x a.y b.x b.y c.x c.y d.x d.y crossed

-- p is on the segment ab exactly where it is in its box and on its line
pub record IsOnLineIn (p a b : Pos) : Type 0 where
  pub between_x : Between a.x b.x p.x
  pub between_y : Between a.y b.y p.y
  pub on_line : turn a b p ≡ pos 0

no_turn : (ux uy vx vy : ℤ) → ux ≡ pos 0 → uy ≡ pos 0 → cross ux uy vx vy ≡ pos 0
no_turn ux uy vx vy e f = rw (e, f) (omega (arith, ints))

pub on_out : (p a b : Pos) → IsOn p a b → IsOnLineIn p a b
on_out p a b h =
    let t = common_point_out p p a b h in
    record {
      between_x = (omega (arith, ints, clamps, t.overlap_x), omega (arith, ints, clamps, t.overlap_x));
      between_y = (omega (arith, ints, clamps, t.overlap_y), omega (arith, ints, clamps, t.overlap_y));
      on_line = zero_apart _ t.apart_ab;
    }

at_zero : (x y : ℤ) → x ≡ pos 0 → y ≡ pos 0 → AreApart x y
at_zero x y e f = (inl (omega (arith, ints)), inl (omega (arith, ints)))

pub on_in : (p a b : Pos) → IsOnLineIn p a b → IsOn p a b
on_in p a b h = common_point_in p p a b (record {
  overlap_x = (omega (arith, ints, clamps, h.between_x), omega (arith, ints, clamps, h.between_x));
  overlap_y = (omega (arith, ints, clamps, h.between_y), omega (arith, ints, clamps, h.between_y));
  apart_cd = at_zero _ _ (no_turn (p.x -ℤ p.x) (p.y -ℤ p.y) (a.x -ℤ p.x) (a.y -ℤ p.y) (omega (arith, ints)) (omega (arith, ints))) (no_turn (p.x -ℤ p.x) (p.y -ℤ p.y) (b.x -ℤ p.x) (b.y -ℤ p.y) (omega (arith, ints)) (omega (arith, ints)));
  apart_ab = at_zero _ _ h.on_line h.on_line;
})
