-- The letter behind a kind's word: which counts of numbers it allows, whatever the blanks on either side of it.
-- For `read_line`, `read_geometry` and `Room::check_line`: the head of a geometry.
use Rattle.std.proofs.Common.{IsTrue, ◌≡◌, ℕ, ◌+◌, ◌<◌, ◌≤◌, ◌⊎◌, inl, inr, true, false, ◌==◌, List, [], ◌∷◌, ◌++◌, length, refl, sym, ◌∙◌, ap, subst, arith, append_assoc, length-append, lit≤}
use Rattle.std.specs.Str.{str_to_ascii_uppercase}
use Rattle.std.specs.Char.{to_ascii_uppercase}
use Rattle.std.proofs.ByRecursion.{All-append}
use Rattle.at_wkt.proofs.Names.{Many, ◌▸◌, Dimension, Open, Fixed, is_blank, Letter, between, opens, next, Allows, Spelt, Stuck, SkipsBlanks, LetterStands, Leads}
use Rattle.at_wkt.specs.Readers.{LetterAt}
use Rattle.at_fixed.proofs.DigitParts.{part-none, part-length, part-part}
use Rattle.at_wkt.proofs.Leads.{part-one, part-cons, Ahead, Begins, same_or_less, leads_ahead}
use Rattle.at_wkt.proofs.Steps.{no_blank, AreBlanks, one_blanks, one_byte, not_blank}
use Rattle.at_wkt.proofs.WordSteps.{opens_no_blank, letter_no_blank, opens_no_letter, blank_no_letter, stream, one_letter, two_letters}

pub no_gap : (w : List ℕ) (i j : ℕ) → SkipsBlanks w i j → no_blank (next w i) ≡ true → j ≡ i
no_gap w i j h none = elim (same_or_less i j h.order) [
  | inl e ↦ sym e
  | inr less ↦ absurd (let blanks : AreBlanks (next w i ∷ between w (i + 1) j) = subst AreBlanks (part-cons w i j less h.within) h.blanks in not_blank (next w i) none blanks.0)
]

unlike : (a b c : ℕ) → a ≡ b → a ≡ c → (b == c) ≡ false → ⊥
unlike a b c e f h = grind (arith, e, f, h)

pub letter_order : (w : List ℕ) (i e : ℕ) (c : Dimension) → LetterStands w i e c → i ≤ e
letter_order w i e c letter = elim letter [ inl q ↦ omega (arith, q.0) | inr (inl q) ↦ omega (arith, q.0) | inr (inr (inl q)) ↦ omega (arith, q.0) | inr (inr (inr q)) ↦ omega (arith, q.0) ]

module _ (w : List ℕ) (h i e j : ℕ) (c : Dimension) (pad : SkipsBlanks w h i) (letter : LetterStands w i e c) (fits : e ≤ length w) (gap : SkipsBlanks w e j) where
  pub letter_sound : (d at : ℕ) → Allows c d → Letter d at (between w i e)
  letter_sound d at a = go letter where
    none : (same : e ≡ i) → between w i e ≡ []
    none same = ap (between w i) same ∙ part-none w i (omega (arith, fits, same))

    one : (same : e ≡ i + 1) → between w i e ≡ next w i ∷ []
    one same = ap (between w i) same ∙ part-one w i (omega (arith, fits, same))

    two : (same : e ≡ i + 2) → between w i e ≡ next w i ∷ (next w (i + 1) ∷ [])
    two same = part-cons w i e (omega (arith, same)) fits ∙ ap (λ z. next w i ∷ z) (ap (between w (i + 1)) (let more : e ≡ (i + 1) + 1 = omega (arith, same) in more) ∙ part-one w (i + 1) (omega (arith, fits, same)))

    go : LetterStands w i e c → Letter d at (between w i e)
    go (inl (same, ec, nz, nm)) = let f = subst (λ z. Allows z d) ec a in inl (none same, f.0, f.1)
    go (inr (inl (same, ec, m))) = let f = subst (λ z. Allows z d) ec a in inr (inl (inr (ap str_to_ascii_uppercase (one same) ∙ ap (λ b. b ∷ []) m), f.0))
    go (inr (inr (inl (same, ec, z, m)))) = let f = subst (λ z. Allows z d) ec a in inr (inr (ap str_to_ascii_uppercase (two same) ∙ (ap (λ b. b ∷ (to_ascii_uppercase (next w (i + 1)) ∷ [])) z ∙ ap (λ b. 0x5A ∷ (b ∷ [])) m), f.0))
    go (inr (inr (inr (same, ec, z, m)))) = let f = subst (λ z. Allows z d) ec a in inr (inl (inl (ap str_to_ascii_uppercase (one same) ∙ ap (λ b. b ∷ []) z), f.0))

  low : i ≤ j
  low = omega (arith, letter_order w i e c letter, gap.order)

  joint : between w h j ≡ between w h i ++ between w i j
  joint = part-part w h i j pad.order low gap.within

  -- blanks and the byte behind them
  tail_blanks : (b2 : List ℕ) (b : ℕ) (x s : List ℕ) → AreBlanks b2 → opens b ≡ true → Ahead w j s → b2 ++ (b ∷ x) ≡ between w e j ++ s → b2 ≡ between w e j
  tail_blanks b2 b x s hb ob (t, es) f = one_blanks b2 (between w e j) b (next w j) x t hb gap.blanks (opens_no_blank b ob) gap.stops (f ∙ ap (λ z. between w e j ++ z) es)

  module _ (b1 b2 : List ℕ) (b : ℕ) (x s : List ℕ) (hb1 : AreBlanks b1) (hb2 : AreBlanks b2) (ob : opens b ≡ true) (ahead : Ahead w j s) where
    no_letter : (b1 ++ b2) ++ (b ∷ x) ≡ between w h j ++ s → (d : ℕ) → (2 ≤ d) × (d ≤ 4) → (b1 ++ b2 ≡ between w h j) × Allows c d
    no_letter f d bounds =
        let (t, et, more) = stream w i j s low gap.within ahead in
        let line : (b1 ++ b2) ++ (b ∷ x) ≡ between w h i ++ (next w i ∷ t) = f ∙ (ap (λ z. z ++ s) joint ∙ (append_assoc (between w h i) (between w i j) s ∙ ap (λ z. between w h i ++ z) et)) in
        let (same, byte, rest) = one_byte (b1 ++ b2) (between w h i) b (next w i) x t (All-append (λ b. IsTrue (is_blank b)) b1 b2 hb1 hb2) pad.blanks (opens_no_blank b ob) pad.stops line in
        elim letter [
          | inl (ee, ec, nz, nm) ↦ (
              let stays : j ≡ i = no_gap w i j (subst (λ z. SkipsBlanks w z j) ee gap) pad.stops in
              (same ∙ ap (between w h) (sym stays), subst (λ z. Allows z d) (sym ec) bounds))
          | inr (inl (ee, ec, m)) ↦ absurd (opens_no_letter b ob (inr (ap to_ascii_uppercase byte ∙ m)))
          | inr (inr (inl (ee, ec, z, m))) ↦ absurd (opens_no_letter b ob (inl (ap to_ascii_uppercase byte ∙ z)))
          | inr (inr (inr (ee, ec, z, m))) ↦ absurd (opens_no_letter b ob (inl (ap to_ascii_uppercase byte ∙ z)))
        ]

    -- the first letter is the byte behind the blanks
    first_letter : (y : ℕ) (r : List ℕ) → no_blank y ≡ true → b1 ++ (y ∷ r) ≡ between w h j ++ s
        → (b1 ≡ between w h i) × (y ≡ next w i) × (i < j → r ≡ between w (i + 1) j ++ s)
    first_letter y r ny f =
        let (t, et, more) = stream w i j s low gap.within ahead in
        let line : b1 ++ (y ∷ r) ≡ between w h i ++ (next w i ∷ t) = f ∙ (ap (λ z. z ++ s) joint ∙ (append_assoc (between w h i) (between w i j) s ∙ ap (λ z. between w h i ++ z) et)) in
        let (same, byte, rest) = one_byte b1 (between w h i) y (next w i) r t hb1 pad.blanks ny pad.stops line in
        (same, byte, (λ less. rest ∙ more less))

    -- what stands behind one letter: blanks or what opens, and no M
    behind_one : (r : List ℕ) → b2 ++ (b ∷ x) ≡ next w (i + 1) ∷ r → LetterAt w (i + 1) 0x4D → ⊥
    behind_one r f m = go b2 hb2 f where
      go : (b2 : List ℕ) → AreBlanks b2 → b2 ++ (b ∷ x) ≡ next w (i + 1) ∷ r → ⊥
      go [] hb f = let byte : b ≡ next w (i + 1) = cc in opens_no_letter b ob (inr (ap to_ascii_uppercase byte ∙ m))
      go (y ∷ ys) (hy, hs) f = let byte : y ≡ next w (i + 1) = cc in blank_no_letter y hy (ap to_ascii_uppercase byte ∙ m)

    one_text : (y : ℕ) → b1 ≡ between w h i → y ≡ next w i → e ≡ i + 1 → b2 ≡ between w e j → b1 ++ ((y ∷ []) ++ b2) ≡ between w h j
    one_text y f g ee k =
        let less : i < j = omega (arith, ee, gap.order) in
        ap (λ z. z ++ (y ∷ b2)) f ∙ (ap (λ z. between w h i ++ (z ∷ b2)) g ∙ (ap (λ z. between w h i ++ (next w i ∷ z)) (k ∙ ap (λ z. between w z j) ee) ∙ (ap (λ z. between w h i ++ z) (sym (part-cons w i j less gap.within)) ∙ sym joint)))

    one_case : (y : ℕ) (z : ℕ) → to_ascii_uppercase y ≡ z → (z ≡ 0x5A) ⊎ (z ≡ 0x4D) → b1 ++ (y ∷ (b2 ++ (b ∷ x))) ≡ between w h j ++ s → (d : ℕ) → d ≡ 3
        → (b1 ++ ((y ∷ []) ++ b2) ≡ between w h j) × Allows c d
    one_case y z up which f d ed =
        let kind : (to_ascii_uppercase y ≡ 0x5A) ⊎ (to_ascii_uppercase y ≡ 0x4D) = elim which [ inl k ↦ inl (up ∙ k) | inr k ↦ inr (up ∙ k) ] in
        let (same, byte, rest) = first_letter y (b2 ++ (b ∷ x)) (letter_no_blank y kind) f in
        let upper : to_ascii_uppercase (next w i) ≡ z = ap to_ascii_uppercase (sym byte) ∙ up in
        let three : (e ≡ i + 1) → (c ≡ Fixed 3) → (b1 ++ ((y ∷ []) ++ b2) ≡ between w h j) × Allows c d = (λ ee ec.
        let less : i < j = omega (arith, ee, gap.order) in
        let tail : b2 ++ (b ∷ x) ≡ between w e j ++ s = rest less ∙ ap (λ z. between w z j ++ s) (sym ee) in
        (one_text y same byte ee (tail_blanks b2 b x s hb2 ob ahead tail), subst (λ z. Allows z d) (sym ec) (ed, omega (arith, ed), omega (arith, ed)))) in
        elim letter [
          | inl (ee, ec, nz, nm) ↦ absurd (elim which [ inl k ↦ nz (upper ∙ k) | inr k ↦ nm (upper ∙ k) ])
          | inr (inl (ee, ec, m)) ↦ three ee ec
          | inr (inr (inl (ee, ec, zz, m))) ↦ absurd (
              let less : i + 1 < j = omega (arith, ee, gap.order) in
              let two : i < j = omega arith in
              behind_one (between w ((i + 1) + 1) j ++ s) (rest two ∙ ap (λ z. z ++ s) (part-cons w (i + 1) j less gap.within)) m)
          | inr (inr (inr (ee, ec, zz, m))) ↦ three ee ec
        ]

    two_case : (y z : ℕ) → to_ascii_uppercase y ≡ 0x5A → to_ascii_uppercase z ≡ 0x4D → b1 ++ (y ∷ (z ∷ (b2 ++ (b ∷ x)))) ≡ between w h j ++ s → (d : ℕ) → d ≡ 4
        → (b1 ++ ((y ∷ (z ∷ [])) ++ b2) ≡ between w h j) × Allows c d
    two_case y z uy uz f d ed =
        let (same, byte, rest) = first_letter y (z ∷ (b2 ++ (b ∷ x))) (letter_no_blank y (inl uy)) f in
        let upper : to_ascii_uppercase (next w i) ≡ 0x5A = ap to_ascii_uppercase (sym byte) ∙ uy in
        elim letter [
          | inl (ee, ec, nz, nm) ↦ absurd (nz upper)
          | inr (inl (ee, ec, m)) ↦ absurd (unlike (to_ascii_uppercase (next w i)) 0x5A 0x4D upper m refl)
          | inr (inr (inl (ee, ec, zz, m))) ↦ (
              let less : i + 1 < j = omega (arith, ee, gap.order) in
              let two : i < j = omega arith in
              let line : z ∷ (b2 ++ (b ∷ x)) ≡ next w (i + 1) ∷ (between w ((i + 1) + 1) j ++ s) = rest two ∙ ap (λ z. z ++ s) (part-cons w (i + 1) j less gap.within) in
              let second : z ≡ next w (i + 1) = cc in
              let there : (i + 1) + 1 ≡ e = omega (arith, ee) in
              let tails : b2 ++ (b ∷ x) ≡ between w ((i + 1) + 1) j ++ s = cc in
              let tail : b2 ++ (b ∷ x) ≡ between w e j ++ s = tails ∙ ap (λ z. between w z j ++ s) there in
              let blanks : b2 ≡ between w e j = tail_blanks b2 b x s hb2 ob ahead tail in (
                ap (λ u. u ++ (y ∷ (z ∷ b2))) same ∙ (ap (λ u. between w h i ++ (u ∷ (z ∷ b2))) byte ∙ (ap (λ u. between w h i ++ (next w i ∷ (u ∷ b2))) second
                    ∙ (ap (λ u. between w h i ++ (next w i ∷ (next w (i + 1) ∷ u))) (blanks ∙ ap (λ z. between w z j) (sym there))
                    ∙ (ap (λ u. between w h i ++ (next w i ∷ u)) (sym (part-cons w (i + 1) j less gap.within)) ∙ (ap (λ u. between w h i ++ u) (sym (part-cons w i j two gap.within)) ∙ sym joint))))),
                subst (λ z. Allows z d) (sym ec) (ed, omega (arith, ed), omega (arith, ed)),
              ))
          | inr (inr (inr (ee, ec, zz, m))) ↦ absurd (
              let less : i < j = omega (arith, ee, gap.order) in
              let (t, et, more) = stream w (i + 1) j s (omega arith) gap.within ahead in
              let line : z ∷ (b2 ++ (b ∷ x)) ≡ next w (i + 1) ∷ t = rest less ∙ et in
              let second : z ≡ next w (i + 1) = cc in
              m (ap to_ascii_uppercase (sym second) ∙ uz))
        ]

    -- blanks, a letter or none, and blanks that agree with the text are those that stand there
    pub letter_agrees : (d at : ℕ) (l : List ℕ) → Letter d at l → b1 ++ (l ++ (b2 ++ (b ∷ x))) ≡ between w h j ++ s → (b1 ++ (l ++ b2) ≡ between w h j) × Allows c d
    letter_agrees d at l (inl (none, two, four)) f =
        let (same, a) = no_letter (append_assoc b1 b2 (b ∷ x) ∙ (ap (λ z. b1 ++ (z ++ (b2 ++ (b ∷ x)))) (sym none) ∙ f)) d (two, four) in (ap (λ z. b1 ++ (z ++ b2)) none ∙ same, a)
    letter_agrees d at l (inr (inl (inl z, ed))) f =
        let (y, el, up) = one_letter l [] 0x5A z in
        let (same, a) = one_case y 0x5A up (inl refl) (ap (λ z. b1 ++ (z ++ (b2 ++ (b ∷ x)))) (sym el) ∙ f) d ed in (ap (λ z. b1 ++ (z ++ b2)) el ∙ same, a)
    letter_agrees d at l (inr (inl (inr m, ed))) f =
        let (y, el, up) = one_letter l [] 0x4D m in
        let (same, a) = one_case y 0x4D up (inr refl) (ap (λ z. b1 ++ (z ++ (b2 ++ (b ∷ x)))) (sym el) ∙ f) d ed in (ap (λ z. b1 ++ (z ++ b2)) el ∙ same, a)
    letter_agrees d at l (inr (inr (zm, ed))) f =
        let (y, z, el, uy, uz) = two_letters l 0x5A 0x4D zm in
        let (same, a) = two_case y z uy uz (ap (λ z. b1 ++ (z ++ (b2 ++ (b ∷ x)))) (sym el) ∙ f) d ed in (ap (λ z. b1 ++ (z ++ b2)) el ∙ same, a)

-- ---- a part behind a letter

-- blanks, a letter or none, blanks, and a part whose positions have as many numbers as the letter says
abbrev pub Lettered : {Y : Type 0} → (ℕ → Y → ℕ → List ℕ → Type 0) → ℕ → Y → ℕ → List ℕ → Type 0
Lettered Q d0 y at v = (d : ℕ) × (Many is_blank ▸ (Letter d ▸ (Many is_blank ▸ Q d y))) at v

-- the part, whose counts of numbers bind nothing outside
abbrev pub Inside : {Y : Type 0} → (ℕ → Y → ℕ → List ℕ → Type 0) → Dimension → ℕ → Y → ℕ → List ℕ → Type 0
Inside Q c d0 y at v = (d : ℕ) × Allows c d × Q d y at v

pub inside_spelt : {Y : Type 0} (Q : ℕ → Y → ℕ → List ℕ → Type 0) (base : ℕ) (w : List ℕ) (j k : ℕ) (c c' : Dimension) (y : Y) → Spelt Q base w j c k c' y → Spelt (Inside Q c) base w j Open k Open y
inside_spelt Q base w j k c c' y q = record {
  order = q.order;
  within = q.within;
  some = (2, (lit≤ tt, lit≤ tt));
  narrows = λ d a. a;
  sound = λ d0 a0. let (d, a) = q.some in (d, q.narrows d a, q.sound d a);
  only = λ d0 z v r s a0 (d, a, p) f. let (ey, ev, a') = q.only d z v r s a p f in (ey, ev, a0);
}

pub inside_stuck : {Y : Type 0} (Q : ℕ → Y → ℕ → List ℕ → Type 0) (base : ℕ) (w : List ℕ) (j n : ℕ) (c : Dimension) → Stuck Q base w j c n → Stuck (Inside Q c) base w j Open n
inside_stuck Q base w j n c q = record {
  order = q.order;
  within = q.within;
  viable = (let (d, y, more, a, p) = q.viable in (2, y, more, (lit≤ tt, lit≤ tt), (d, a, p)));
  dead = λ d0 y v r s a0 (d, a, p) f. q.dead d y v r s a p f;
}

module _ {Y : Type 0} (Q : ℕ → Y → ℕ → List ℕ → Type 0) (begins : Begins opens Q) (base : ℕ) (w : List ℕ) (h i e j : ℕ) (c : Dimension)
    (pad : SkipsBlanks w h i) (letter : LetterStands w i e c) (fits : e ≤ length w) (gap : SkipsBlanks w e j) where
  order : h ≤ j
  order = omega (arith, pad.order, letter_order w i e c letter, gap.order)

  middle : i ≤ e
  middle = letter_order w i e c letter

  goes : (d : ℕ) (y : Y) (r : List ℕ) → Allows c d → Q d y (base + j) r → (Many is_blank ▸ (Letter d ▸ (Many is_blank ▸ Q d y))) (base + h) (between w h j ++ r)
  goes d y r a q =
      let text : between w h j ++ r ≡ between w h i ++ (between w i e ++ (between w e j ++ r)) =
      ap (λ z. z ++ r) (part-part w h i j pad.order (omega (arith, middle, gap.order)) gap.within ∙ ap (λ z. between w h i ++ z) (part-part w i e j middle gap.order gap.within))
      ∙ (append_assoc (between w h i) (between w i e ++ between w e j) r ∙ ap (λ z. between w h i ++ z) (append_assoc (between w i e) (between w e j) r)) in
      let place : base + j ≡ (((base + h) + length (between w h i)) + length (between w i e)) + length (between w e j) =
      omega (arith, part-length w h i pad.order pad.within, part-length w i e middle fits, part-length w e j gap.order gap.within) in
      (between w h i, between w i e ++ (between w e j ++ r), text, pad.blanks, (between w i e, between w e j ++ r, refl, letter_sound w h i e j c pad letter fits gap d 0 a, (between w e j, r, refl, gap.blanks, subst (λ o. Q d y o r) place q)))

  comes : (d : ℕ) (y : Y) (v r s : List ℕ) → (Many is_blank ▸ (Letter d ▸ (Many is_blank ▸ Q d y))) (base + h) v → Ahead w j s → v ++ r ≡ between w h j ++ s
      → (u : List ℕ) × (v ≡ between w h j ++ u) × Q d y (base + j) u × Allows c d
  comes d y v r s (b1, r1, e1, hb1, (l, r2, e2, hl, (b2, u, e3, hb2, q))) ahead f =
      let (b, x, eu, ob) = begins d y _ u q in
      let whole : v ≡ b1 ++ (l ++ (b2 ++ u)) = e1 ∙ ap (λ z. b1 ++ z) (e2 ∙ ap (λ z. l ++ z) e3) in
      let line : b1 ++ (l ++ (b2 ++ (b ∷ (x ++ r)))) ≡ between w h j ++ s =
      sym (ap (λ z. z ++ r) whole ∙ (append_assoc b1 (l ++ (b2 ++ u)) r ∙ ap (λ z. b1 ++ z) (append_assoc l (b2 ++ u) r ∙ ap (λ z. l ++ z) (append_assoc b2 u r ∙ ap (λ z. b2 ++ (z ++ r)) eu)))) ∙ f in
      let (same, a) = letter_agrees w h i e j c pad letter fits gap b1 b2 b (x ++ r) s hb1 hb2 ob ahead d 0 l hl line in
      let regroup : b1 ++ (l ++ (b2 ++ u)) ≡ (b1 ++ (l ++ b2)) ++ u = sym (append_assoc b1 (l ++ b2) u ∙ ap (λ z. b1 ++ z) (append_assoc l b2 u)) in
      let place : (((base + h) + length b1) + length l) + length b2 ≡ base + j =
      omega (arith, ap length same, length-append b1 (l ++ b2), length-append l b2, part-length w h j order gap.within) in
      (u, whole ∙ (regroup ∙ ap (λ z. z ++ u) same), subst (λ o. Q d y o u) place q, a)

  pub letter_leads : Leads (Lettered Q) (Inside Q c) base w h Open j Open (λ y. y)
  letter_leads = leads_ahead (Lettered Q) (Inside Q c) base w h Open j Open (λ y. y) opens (λ d0 y at v (d, a, q). begins d y at v q) order gap.within (λ d a. a)
      (λ d0 y r a0 (d, a, q). (d, goes d y r a q))
      (λ d0 y v r s a0 (d, p) ahead f. let (u, ev, q, a) = comes d y v r s p ahead f in (y, u, ev, refl, (d, a, q), a0))
