-- Positions and items read on, lists of them in brackets, and the word EMPTY.
-- For `read_line`, `read_geometry` and `Room::check_line`: positions and items, read on.
use Rattle.std.proofs.Common.{◌≡◌, ◌≢◌, ℕ, ◌+◌, ◌-◌, ◌<◌, ◌≤◌, ◌⊎◌, inl, inr, Bool, true, false, List, [], ◌∷◌, ◌++◌, length, codes, refl, sym, ◌∙◌, ap, subst, arith, append-nil, append_assoc, length-append, true≢false}
use Rattle.at_wkt.proofs.Names.{Exactly, Numeral, Dimension, Position, is_blank, SpellsPosition, InBrackets, Parted, SpellsRing, between, next, Allows, Spelt, Stuck, Leads, SkipsBlanks, NumberStands, NumberBreaks, delimiter, Delimiter, Item, Items, ItemsRead, FurtherNumbers}
use Rattle.std.proofs.lemmas.Bool.{not-true}
use Rattle.at_wkt.proofs.Leads.{part-one, part-more, Begins, Inhabited, same_length}
use Rattle.at_wkt.proofs.Steps.{Then, same_leads, trans_leads, then_leads, then_stuck, fixed_leads, pad_leads, gap_leads, stuck_first, no_blank, spelt_over}
use Rattle.at_wkt.proofs.NumberSteps.{stops_number, number_leads, number_stuck}
use Rattle.at_wkt.proofs.Lists.{Rest, items_same, brackets_same, Opened}
use Rattle.at_wkt.proofs.PositionSteps.{begins_number, number_begins, nought, nought_numeral, further_begins, further_inhabited, further_lives, begin_no_blank, blank_stops}
use Rattle.at_wkt.proofs.ItemSteps.{Gap, SecondNumber, TwoNumbers, position_of, EndedPosition, position_same}

-- ---- a position

pub begins_other : {X : Type 0} (p q : ℕ → Bool) (P : ℕ → X → ℕ → List ℕ → Type 0) → ((b : ℕ) → p b ≡ true → q b ≡ true) → Begins p P → Begins q P
begins_other p q P h begins d x at v s = let (b, t, e, k) = begins d x at v s in (b, t, e, h b k)

gap_first : Begins is_blank (Gap SecondNumber)
gap_first d y at v ([], r, e, (some, hx), q) = absurd (some refl)
gap_first d y at v (b ∷ x, r, e, (some, (h, hs)), q) = (b, x ++ r, e, h)

gap_stops : Begins stops_number (Gap SecondNumber)
gap_stops = begins_other is_blank stops_number (Gap SecondNumber) blank_stops gap_first

second_inhabited : Inhabited SecondNumber
second_inhabited d at h = let (last, v, q) = further_inhabited d (at + 1) h in (((nought, at), last), 0x30 ∷ v, (0x30 ∷ [], v, refl, (refl, (nought_numeral, refl)), q))

gap_inhabited : Inhabited (Gap SecondNumber)
gap_inhabited d at h = let (y, v, q) = second_inhabited d (at + 1) h in (y, 0x20 ∷ v, (0x20 ∷ [], v, refl, ((λ e. cc), (refl, tt)), q))

pub ended_begins : Begins begins_number EndedPosition
ended_begins d p at v h = let (y, e, q) = position_same.from d p at v h in number_begins (λ p. Gap SecondNumber) d y at v q

-- the parts of a position that were read so far
module _ (base : ℕ) (w : List ℕ) (i a : ℕ) (c : Dimension) (skips : SkipsBlanks w i a) where
  -- the first number is expected
  pub position_first : Leads (Item SpellsPosition) TwoNumbers base w i c a c position_of
  position_first = trans_leads
      (pad_leads EndedPosition base w i c a skips.order skips.within skips.blanks skips.stops (begins_other begins_number no_blank EndedPosition begin_no_blank ended_begins))
      (same_leads EndedPosition TwoNumbers (λ at p. position_of p) base w a c position_same skips.within)

  pub position_broken_first : (n : ℕ) → (d : ℕ) × Allows c d → NumberBreaks w a n → Stuck (Item SpellsPosition) base w i c n
  position_broken_first n (d, allowed) h = position_first.stuck n (number_stuck (Gap SecondNumber) gap_stops base w a c n gap_inhabited d allowed h)

  module _ (b : ℕ) (n : Numeral) (x : NumberStands w a b n) where
    gap_expected : Leads (Item SpellsPosition) (Gap SecondNumber) base w i c b c (λ y. position_of ((n, base + a), y))
    gap_expected = trans_leads position_first (number_leads (Gap SecondNumber) gap_stops base w a c b n x)

    -- no blank stands behind the first number
    pub position_joined : (d : ℕ) × Allows c d → SkipsBlanks w b b → Stuck (Item SpellsPosition) base w i c b
    position_joined (d, allowed) none = gap_expected.stuck b (stuck_first (Gap SecondNumber) is_blank base w b c gap_first gap_inhabited d allowed x.within (not-true (is_blank (next w b)) none.stops))

    module _ (e : ℕ) (gap : SkipsBlanks w b e) (wide : b < e) where
      second_expected : Leads (Item SpellsPosition) SecondNumber base w i c e c (λ y. position_of ((n, base + a), y))
      second_expected = trans_leads gap_expected (gap_leads SecondNumber base w b c e wide gap.within gap.blanks gap.stops (begins_other begins_number no_blank SecondNumber begin_no_blank (number_begins (λ q. FurtherNumbers 2))))

      pub position_broken_second : (k : ℕ) → (d : ℕ) × Allows c d → NumberBreaks w e k → Stuck (Item SpellsPosition) base w i c k
      position_broken_second k (d, allowed) h = second_expected.stuck k (number_stuck (FurtherNumbers 2) (further_begins 2) base w e c k further_inhabited d allowed h)

      -- both numbers stand, and further ones are expected
      pub position_further : (g : ℕ) (m : Numeral) → NumberStands w e g m
          → Leads (Item SpellsPosition) (FurtherNumbers 2) base w i c g c (λ last. (record { x = n; x_at = base + a; y = m; y_at = base + e }, last))
      position_further g m y = trans_leads second_expected (number_leads (FurtherNumbers 2) (further_begins 2) base w e c g m y)

pub position_inhabited : (d at : ℕ) → (2 ≤ d) × (d ≤ 4) → (last : Bool) → (x : Position) × (v : List ℕ) × EndedPosition d (x, last) at v
position_inhabited d at (low, high) last =
    let (v, q) = further_lives (d - 2) 2 d (omega arith) last (((at + 1) + 1) + 1) in (
      record { x = nought; x_at = at; y = nought; y_at = (at + 1) + 1 },
      0x30 ∷ (0x20 ∷ (0x30 ∷ v)),
      position_same.to d ((nought, at), ((nought, (at + 1) + 1), last)) at (0x30 ∷ (0x20 ∷ (0x30 ∷ v)))
          (0x30 ∷ [], 0x20 ∷ (0x30 ∷ v), refl, (refl, (nought_numeral, refl)), (0x20 ∷ [], 0x30 ∷ v, refl, ((λ e. cc), (refl, tt)), (0x30 ∷ [], v, refl, (refl, (nought_numeral, refl)), q))),
    )

-- ---- items

-- words of an item of either kind, at each count of numbers and each offset
abbrev pub ItemLives : {X : Type 0} → (ℕ → X → ℕ → List ℕ → Type 0) → Type 0
ItemLives {X} P = (d at : ℕ) → (2 ≤ d) × (d ≤ 4) → (last : Bool) → (x : X) × (v : List ℕ) × Item P d (x, last) at v

pub position_lives : ItemLives SpellsPosition
position_lives d at h last = let (x, v, q) = position_inhabited d (at + 0) h last in (x, v, ([], v, refl, tt, q))

pub inhabited_lives : {X : Type 0} (P : ℕ → X → ℕ → List ℕ → Type 0) → Inhabited P → ItemLives P
inhabited_lives P lives d at h last = let (x, v, q) = lives d (at + 0) h in (x, v ++ (delimiter last ∷ []), ([], v ++ (delimiter last ∷ []), refl, tt, (v, delimiter last ∷ [], refl, q, ([], delimiter last ∷ [], refl, tt, refl))))

module _ {X : Type 0} (P : ℕ → X → ℕ → List ℕ → Type 0) where
  pub items_inhabited : ItemLives P → Inhabited (Items P)
  items_inhabited lives d at h = let (x, v, q) = lives d at h true in (x ∷ [], v, q)

  pub rest_inhabited : ItemLives P → (p : X × Bool) → Inhabited (Rest P p)
  rest_inhabited lives (x, true) d at h = ([], [], (refl, refl))
  rest_inhabited lives (x, false) d at h = items_inhabited lives d at h

  module _ (base : ℕ) (w : List ℕ) (i a : ℕ) (c : Dimension) (skips : SkipsBlanks w i a) (begins : Begins no_blank P) where
    item_pad : Leads (Item P) (Then P (λ x. Delimiter)) base w i c a c (λ y. y)
    item_pad = pad_leads (Then P (λ x. Delimiter)) base w i c a skips.order skips.within skips.blanks skips.stops
        (λ d p at v (x, r, e, q, t). let (b, u, f, h) = begins d p.0 at x q in (b, u ++ r, e ∙ ap (λ z. z ++ r) f, h))

    pub item_stuck : (n : ℕ) → Stuck P base w a c n → Stuck (Item P) base w i c n
    item_stuck n h = item_pad.stuck n (then_stuck P (λ x. Delimiter) base w a c n (λ x d at k. (true, 0x29 ∷ [], ([], 0x29 ∷ [], refl, tt, refl))) h)

    module _ (b : ℕ) (c' : Dimension) (x : X) (here : Spelt P base w a c b c' x) where
      item_behind : Leads (Item P) Delimiter base w i c b c' (λ last. (x, last))
      item_behind = trans_leads item_pad (then_leads P (λ x. Delimiter) base w a c b c' x here)

      pub item_spelt : (j : ℕ) (last : Bool) → Spelt Delimiter base w b c' j c' last → Spelt (Item P) base w i c j c' (x, last)
      item_spelt j last q = item_behind.spelt j c' last q

      pub item_unended : (n : ℕ) → Stuck Delimiter base w b c' n → Stuck (Item P) base w i c n
      item_unended n q = item_behind.stuck n q

-- ---- items one after another

pub leads_value : {X Y : Type 0} {P : ℕ → X → ℕ → List ℕ → Type 0} {Q : ℕ → Y → ℕ → List ℕ → Type 0} {base : ℕ} {w : List ℕ} {i j : ℕ} {c c' : Dimension} (f g : Y → X)
    → ((y : Y) → f y ≡ g y) → Leads P Q base w i c j c' f → Leads P Q base w i c j c' g
leads_value {P = P} {base = base} {w = w} {i = i} {c = c} f g same a = record {
  spelt = λ k c'' y q. subst (Spelt P base w i c k c'') (same y) (a.spelt k c'' y q);
  stuck = a.stuck;
}

module _ {X : Type 0} (P : ℕ → X → ℕ → List ℕ → Type 0) (base : ℕ) (w : List ℕ) (i : ℕ) (c : Dimension) where
  abbrev pub ReadsOn : ℕ → Dimension → Bool → List X → Type 0
  ReadsOn j c' last xs = ItemsRead P base w i c j c' last xs

  pub items_start : ReadsOn i c false []
  items_start = record { spelt = λ k c'' y q. q; stuck = λ n q. q }

  pub items_more : (j k : ℕ) (c' c'' : Dimension) (xs : List X) (x : X) (last : Bool) → ReadsOn j c' false xs → Spelt (Item P) base w j c' k c'' (x, last) → ReadsOn k c'' last (xs ++ (x ∷ []))
  items_more j k c' c'' xs x last a h =
      let inside : j ≤ length w = omega (arith, h.order, h.within) in
      leads_value (λ ys. xs ++ (x ∷ ys)) (λ ys. (xs ++ (x ∷ [])) ++ ys) (λ ys. sym (append_assoc xs (x ∷ []) ys))
      (trans_leads a (trans_leads (same_leads (Items P) (Then (Item P) (Rest P)) (λ at p. p.0.0 ∷ p.1) base w j c' (items_same P) inside)
      (then_leads (Item P) (Rest P) base w j c' k c'' (x, last) h)))

  pub items_stuck : ItemLives P → (j n : ℕ) (c' : Dimension) (xs : List X) → ReadsOn j c' false xs → Stuck (Item P) base w j c' n → Stuck (Items P) base w i c n
  items_stuck lives j n c' xs a h =
      let inside : j ≤ length w = omega (arith, h.order, h.within) in
      a.stuck n ((same_leads (Items P) (Then (Item P) (Rest P)) (λ at p. p.0.0 ∷ p.1) base w j c' (items_same P) inside).stuck n
      (then_stuck (Item P) (Rest P) base w j c' n (rest_inhabited P lives) h))

  pub items_end : (j : ℕ) (c' : Dimension) (xs : List X) → ReadsOn j c' true xs → j ≤ length w → (d : ℕ) × Allows c' d → Spelt (Items P) base w i c j c' xs
  items_end j c' xs a within some = subst (Spelt (Items P) base w i c j c') (append-nil xs) (a.spelt j c' [] (spelt_over [] base w j c' within some))

  pub bracket_leads : i < length w → next w i ≡ 0x28 → Leads (λ d xs. InBrackets (Parted (P d) xs)) (Items P) base w i c (i + 1) c (λ xs. xs)
  bracket_leads inside here = trans_leads (same_leads (λ d xs. InBrackets (Parted (P d) xs)) (Opened P) (λ at xs. xs) base w i c (brackets_same P) (omega arith))
      (fixed_leads (Exactly (codes "(")) (Items P) base w i c (i + 1) (omega arith) (omega arith) (part-one w i inside ∙ ap (λ b. b ∷ []) here)
      (λ v e. ap length e ∙ sym (ap length (part-one w i inside))))

-- a ring or a line is its bracket's place and its positions
pub ring_leads : (base : ℕ) (w : List ℕ) (i : ℕ) (c : Dimension) → i < length w → next w i ≡ 0x28
    → Leads SpellsRing (Items SpellsPosition) base w i c (i + 1) c (λ xs. record { at = base + i; items = xs })
ring_leads base w i c inside here = trans_leads
    (same_leads SpellsRing (λ d xs. InBrackets (Parted (SpellsPosition d) xs)) (λ at xs. record { at = at; items = xs }) base w i c
    (record { to = λ d xs at v h. (refl, h); from = λ d ps at v (e, h). (ps.items, ap (λ z. record { at = z; items = ps.items }) e, h) }) (omega arith))
    (bracket_leads SpellsPosition base w i c inside here)

-- ---- one position in brackets

abbrev pub LastPosition : ℕ → Position → ℕ → List ℕ → Type 0
LastPosition d p = Item SpellsPosition d (p, true)

pub enclosed_leads : (base : ℕ) (w : List ℕ) (i : ℕ) (c : Dimension) → i < length w → next w i ≡ 0x28
    → Leads (λ d p. InBrackets (SpellsPosition d p)) LastPosition base w i c (i + 1) c (λ p. p)
enclosed_leads base w i c inside here = fixed_leads (Exactly (codes "(")) LastPosition base w i c (i + 1) (omega arith) (omega arith) (part-one w i inside ∙ ap (λ b. b ∷ []) here)
    (λ v e. ap length e ∙ sym (ap length (part-one w i inside)))

pub last_spelt : (base : ℕ) (w : List ℕ) (i j : ℕ) (c c' : Dimension) (p : Position) → Spelt (Item SpellsPosition) base w i c j c' (p, true) → Spelt LastPosition base w i c j c' p
last_spelt base w i j c c' p h = record {
  order = h.order;
  within = h.within;
  some = h.some;
  narrows = h.narrows;
  sound = h.sound;
  only = λ d q v r s a t e. let (ep, ev, a') = h.only d (q, true) v r s a t e in (ap (λ z. z.0) ep, ev, a');
}

ends_or : (more : List ℕ) → (more ≡ []) ⊎ ((m : List ℕ) × (x : ℕ) × (more ≡ m ++ (x ∷ [])))
ends_or [] = inl refl
ends_or (b ∷ more) = elim (ends_or more) [
  | inl e ↦ inr ([], b, ap (λ z. b ∷ z) e)
  | inr (m, x, e) ↦ inr (b ∷ m, x, ap (λ z. b ∷ z) e)
]

-- a delimited position may be the last
pub item_closes : (d : ℕ) (p : Position) (last : Bool) (at : ℕ) (v : List ℕ) → Item SpellsPosition d (p, last) at v
    → (z : List ℕ) × (v ≡ z ++ (delimiter last ∷ [])) × LastPosition d p at (z ++ (0x29 ∷ []))
item_closes d p last at v (a, r, e, ha, (b, s, f, hp, (x, y, g, hx, hy))) = (
  a ++ (b ++ x),
  e ∙ (ap (λ z. a ++ z) (f ∙ ap (λ z. b ++ z) (g ∙ ap (λ z. x ++ z) hy)) ∙ regroup (delimiter last)),
  (a, b ++ (x ++ (0x29 ∷ [])), sym (regroup 0x29), ha, (b, x ++ (0x29 ∷ []), refl, hp, (x, 0x29 ∷ [], refl, hx, refl))),
) where
  regroup : (c : ℕ) → a ++ (b ++ (x ++ (c ∷ []))) ≡ (a ++ (b ++ x)) ++ (c ∷ [])
  regroup c = sym (append_assoc a (b ++ x) (c ∷ []) ∙ ap (λ z. a ++ z) (append_assoc b x (c ∷ [])))

closes_from : (d : ℕ) (p : Position) (last : Bool) (at : ℕ) (u more : List ℕ) → Item SpellsPosition d (p, last) at (u ++ more) → more ≢ [] → (m : List ℕ) × LastPosition d p at (u ++ m)
closes_from d p last at u more q some = elim (ends_or more) [
  | inl e ↦ absurd (some e)
  | inr (m, x, e) ↦
      (let (z, ez, h) = item_closes d p last at (u ++ more) q in
      let line : (u ++ m) ++ (x ∷ []) ≡ z ++ (delimiter last ∷ []) = append_assoc u m (x ∷ []) ∙ (ap (λ y. u ++ y) (sym e) ∙ ez) in
      let long : length (u ++ m) ≡ length z = omega (arith, ap length line, length-append (u ++ m) (x ∷ []), length-append z (delimiter last ∷ [])) in
      let same : u ++ m ≡ z = same_length (u ++ m) (x ∷ []) z (delimiter last ∷ []) long line in
      (m ++ (0x29 ∷ []), subst (LastPosition d p at) (ap (λ y. y ++ (0x29 ∷ [])) (sym same) ∙ append_assoc u m (0x29 ∷ [])) h))
]

pub last_stuck : (base : ℕ) (w : List ℕ) (i n : ℕ) (c : Dimension) → Stuck (Item SpellsPosition) base w i c n → Stuck LastPosition base w i c n
last_stuck base w i n c h = record {
  order = h.order;
  within = h.within;
  viable = (let (d, x, more, a, q) = h.viable in
      let some : more ≢ [] = (λ e. h.dead d x (between w i n ++ more) (next w n ∷ []) [] a q (ap (λ z. z ++ (next w n ∷ [])) (ap (λ z. between w i n ++ z) e ∙ append-nil (between w i n)))) in
      let (m, p) = closes_from d x.0 x.1 (base + i) (between w i n) more q some in (d, x.0, m, a, p));
  dead = λ d p v r s a q e. h.dead d (p, true) v r s a q e;
}

-- a comma behind the one position is where it is stuck
pub comma_stuck : (base : ℕ) (w : List ℕ) (i j n : ℕ) (c c' : Dimension) (p : Position) → n + 1 ≡ j → Spelt (Item SpellsPosition) base w i c j c' (p, false) → i ≤ n → Stuck LastPosition base w i c n
comma_stuck base w i j n c c' p en h low =
    let (d, a) = h.some in
    let (z, ez, q) = item_closes d p false (base + i) (between w i j) (h.sound d a) in
    let inside : n < length w = omega (arith, h.within) in
    let joint : between w i j ≡ between w i n ++ (next w n ∷ []) = ap (between w i) (sym en) ∙ part-more w i n low inside in
    let line : between w i n ++ (next w n ∷ []) ≡ z ++ (0x2C ∷ []) = sym joint ∙ ez in
    let long : length (between w i n) ≡ length z = omega (arith, ap length line, length-append (between w i n) (next w n ∷ []), length-append z (0x2C ∷ [])) in
    let same : between w i n ≡ z = same_length (between w i n) (next w n ∷ []) z (0x2C ∷ []) long line in
    record {
      order = low;
      within = omega arith;
      viable = (d, p, 0x29 ∷ [], h.narrows d a, subst (λ y. LastPosition d p (base + i) (y ++ (0x29 ∷ []))) (sym same) q);
      dead = λ d q v r s a t e.
          let (ep, ev, a') = h.only d (q, true) v r s a t (e ∙ (sym (append_assoc (between w i n) (next w n ∷ []) s) ∙ ap (λ y. y ++ s) (sym joint))) in
          true≢false (ap (λ y. y.1) ep);
    }
