-- What stands behind a head or a geometry within open collections, read on.
-- For `read_line`, `read_geometry` and `Room::check_line`: collections within collections.
use Rattle.std.proofs.Common.{◌≡◌, ℕ, zero, suc, ◌+◌, ◌<◌, ◌≤◌, ◌⊎◌, inl, inr, Bool, true, false, List, [], ◌∷◌, ◌++◌, length, codes, Some, None, refl, sym, ◌∙◌, ap, arith, lit≤}
use Rattle.std.specs.Str.{str_to_ascii_uppercase}
use Rattle.std.specs.Char.{to_ascii_uppercase}
use Rattle.at_wkt.proofs.Names.{Many, Exactly, ◌▸◌, Coords, Dimension, Open, Kind, Point, LineString, Polygon, MultiPoint, MultiLineString, MultiPolygon, GeometryCollection, Head, Geometry, point, collection, no_geometries, geometry_and, is_blank, SpellsGeometry, SpellsFurtherGeometries, SpellsPoint, SpellsList, SpellsArea, SpellsPointMember, SpellsRing, opens, next, Spelt, Stuck, Leads, SkipsBlanks, Delimiter, HasCount, word_of, KindBreaks, HeadStands, Meaning, joined, no_meaning, Body, meaning_of, After, Expected, EnclosedPosition}
use Rattle.at_wkt.specs.Readers.{meaning_of_all}
use Rattle.at_wkt.proofs.Leads.{part-one, Begins, Inhabited}
use Rattle.at_wkt.proofs.Steps.{Then, Same, When, when_leads, same_leads, trans_leads, then_leads, then_stuck, fixed_leads, pad_leads, no_blank}
use Rattle.at_wkt.proofs.Lists.{to_left, to_right, four_left, four_right}
use Rattle.at_wkt.proofs.WordSteps.{KindWord, kind_spelt, kind_stuck}
use Rattle.at_wkt.proofs.LetterSteps.{Lettered, Inside, inside_spelt, inside_stuck, letter_leads}
use Rattle.at_wkt.proofs.BodySteps.{is_open, choice_begins, point_choice, list_choice, parted_choice, empty_opens, empty_fails}
use Rattle.at_wkt.proofs.GeometrySteps.{joined-assoc, free_spelt, free_stuck, open_count, Spelling, further_split, further_join, Awaited, Behind, BodyAfter, expected_same, geometry_parts}

-- the word of a kind begins with a letter
pub kind_first : (k : Kind) (v : List ℕ) → str_to_ascii_uppercase v ≡ word_of k → (b : ℕ) × (t : List ℕ) × (v ≡ b ∷ t) × (no_blank b ≡ true)
kind_first k [] e = absurd (no_word k e) where
  no_word : (k : Kind) → [] ≡ word_of k → ⊥
  no_word Point e = omega (arith, ap length e)
  no_word _ e = omega (arith, ap length e)
kind_first k (b ∷ t) e = (b, t, refl, letter k e) where
  clear : (c : ℕ) → 0x41 ≤ c → to_ascii_uppercase b ≡ c → no_blank b ≡ true
  clear c low h = grind (arith, low, h)

  letter : (k : Kind) → str_to_ascii_uppercase (b ∷ t) ≡ word_of k → no_blank b ≡ true
  letter Point e = let h : to_ascii_uppercase b ≡ 0x50 = cc in clear 0x50 (lit≤ tt) h
  letter LineString e = let h : to_ascii_uppercase b ≡ 0x4C = cc in clear 0x4C (lit≤ tt) h
  letter Polygon e = let h : to_ascii_uppercase b ≡ 0x50 = cc in clear 0x50 (lit≤ tt) h
  letter GeometryCollection e = let h : to_ascii_uppercase b ≡ 0x47 = cc in clear 0x47 (lit≤ tt) h
  letter _ e = let h : to_ascii_uppercase b ≡ 0x4D = cc in clear 0x4D (lit≤ tt) h

module _ (digits : ℕ) (how : Coords) where
  pub geometry_first : (g : Geometry) (at : ℕ) (v : List ℕ) → SpellsGeometry at v g → (b : ℕ) × (t : List ℕ) × (v ≡ b ∷ t) × (no_blank b ≡ true)
  geometry_first g at v h =
      let (k, d, (a, r, e, w, q)) = geometry_parts g at v h in
      let (b, t, f, n) = kind_first k a w in (b, t ++ r, e ∙ ap (λ z. z ++ r) f, n)

  pub expected_begins : (k : ℕ) → Begins no_blank (Awaited digits how k)
  expected_begins k d m at v (g, n, em, (a, r, e, h, q)) =
      let (b, t, f, nb) = geometry_first g at a h in (b, t ++ r, e ∙ ap (λ z. z ++ r) f, nb)

  -- some words of each part
  pub after_inhabited : (k : ℕ) → Inhabited (Behind digits how k)
  after_inhabited zero d at h = (no_meaning, [], (refl, refl))
  after_inhabited (suc k) d at h = let (m, v, q) = after_inhabited k d (at + 1) h in
      (m, 0x29 ∷ v, (no_geometries, m, refl, (0x29 ∷ [], v, refl, ([], 0x29 ∷ [], refl, tt, refl), q)))

  abbrev empty_point : List ℕ
  empty_point = codes "POINTEMPTY"

  empty_point_spelt : (at : ℕ) → SpellsGeometry at empty_point (point None)
  empty_point_spelt at = (2, (codes "POINT", codes "EMPTY", refl, refl, ([], codes "EMPTY", refl, tt, ([], codes "EMPTY", refl, inl (refl, lit≤ tt, lit≤ tt), ([], codes "EMPTY", refl, tt, refl)))))

  pub expected_inhabited : (k : ℕ) → Inhabited (Awaited digits how k)
  expected_inhabited k d at h = let (m, v, q) = after_inhabited k d (at + length empty_point) h in
      (joined (meaning_of digits how (point None)) m, empty_point ++ v, (point None, m, refl, (empty_point, v, refl, empty_point_spelt at, q)))

  -- ---- behind a geometry

  abbrev Ended : ℕ → Bool → ℕ → Meaning → ℕ → List ℕ → Type 0
  Ended k true d m = After digits how k m
  Ended k false d m = Many is_blank ▸ Expected digits how (suc k) m

  after_same : (k : ℕ) → Same (Behind digits how (suc k)) (Then Delimiter (Ended k)) (λ at p. p.1)
  after_same k = record { to = to; from = from } where
    to : (d : ℕ) (p : Bool × Meaning) (at : ℕ) (v : List ℕ) → Then Delimiter (Ended k) d p at v → After digits how (suc k) p.1 at v
    to d (true, m) at v h = (no_geometries, m, refl, h)
    to d (false, m) at v (a, b, e, dl, (x, y, f, hx, (g, n, em, (l, r, el, hg, (gs, n', en, q))))) =
        (geometry_and g gs, n', em ∙ (ap (joined (meaning_of digits how g)) en ∙ sym (joined-assoc (meaning_of digits how g) (meaning_of_all digits how gs) n')), (a, b, e, dl, (x, y, f, hx, (l, r, el, hg, q))))

    from : (d : ℕ) (m : Meaning) (at : ℕ) (v : List ℕ) → After digits how (suc k) m at v → (p : Bool × Meaning) × (m ≡ p.1) × Then Delimiter (Ended k) d p at v
    from d m at v (no_geometries, n, em, h) = ((true, n), em, h)
    from d m at v (geometry_and g gs, n, em, (a, b, e, dl, (x, y, f, hx, (l, r, el, hg, q)))) =
        ((false, m), refl, (a, b, e, dl, (x, y, f, hx, (g, joined (meaning_of_all digits how gs) n, em ∙ joined-assoc (meaning_of digits how g) (meaning_of_all digits how gs) n, (l, r, el, hg, (gs, n, refl, q))))))

  ended_inhabited : (k : ℕ) (last : Bool) → Inhabited (Ended k last)
  ended_inhabited k true d at h = after_inhabited k d at h
  ended_inhabited k false d at h = let (m, v, q) = expected_inhabited (suc k) d (at + 0) h in (m, v, ([], v, refl, tt, q))

  module _ (base : ℕ) (w : List ℕ) (i : ℕ) (k : ℕ) where
    pub after_stuck : (n : ℕ) → Stuck Delimiter base w i Open n → Stuck (Behind digits how (suc k)) base w i Open n
    after_stuck n h = (same_leads (Behind digits how (suc k)) (Then Delimiter (Ended k)) (λ at p. p.1) base w i Open (after_same k) (omega (arith, h.order, h.within))).stuck n
        (then_stuck Delimiter (Ended k) base w i Open n (ended_inhabited k) h)

    pub after_closes : (j : ℕ) → Spelt Delimiter base w i Open j Open true → Leads (Behind digits how (suc k)) (Behind digits how k) base w i Open j Open (λ m. m)
    after_closes j h = trans_leads (same_leads (Behind digits how (suc k)) (Then Delimiter (Ended k)) (λ at p. p.1) base w i Open (after_same k) (omega (arith, h.order, h.within)))
        (then_leads Delimiter (Ended k) base w i Open j Open true h)

    pub after_goes_on : (j a : ℕ) → Spelt Delimiter base w i Open j Open false → SkipsBlanks w j a → Leads (Behind digits how (suc k)) (Awaited digits how (suc k)) base w i Open a Open (λ m. m)
    after_goes_on j a h skips = trans_leads (trans_leads (same_leads (Behind digits how (suc k)) (Then Delimiter (Ended k)) (λ at p. p.1) base w i Open (after_same k) (omega (arith, h.order, h.within)))
        (then_leads Delimiter (Ended k) base w i Open j Open false h))
        (pad_leads (Awaited digits how (suc k)) base w j Open a skips.order skips.within skips.blanks skips.stops (expected_begins (suc k)))

  -- ---- behind a head

  body_first : (kind : Kind) (d : ℕ) (g : Geometry) (at : ℕ) (v : List ℕ) → Body kind d g at v → (b : ℕ) × (t : List ℕ) × (v ≡ b ∷ t) × (opens b ≡ true)
  body_first Point d g at v (p, e, h) = choice_begins SpellsPoint EnclosedPosition (λ p. Some p) None point_choice d p at v h
  body_first LineString d g at v (p, e, h) = choice_begins SpellsList SpellsRing (λ p. Some p) None list_choice d p at v h
  body_first Polygon d g at v (p, e, h) = choice_begins _ _ (λ p. p) [] (parted_choice SpellsRing) d p at v h
  body_first MultiPoint d g at v (p, e, h) = choice_begins _ _ (λ p. p) [] (parted_choice SpellsPointMember) d p at v h
  body_first MultiLineString d g at v (p, e, h) = choice_begins _ _ (λ p. p) [] (parted_choice SpellsList) d p at v h
  body_first MultiPolygon d g at v (p, e, h) = choice_begins _ _ (λ p. p) [] (parted_choice SpellsArea) d p at v h
  body_first GeometryCollection d g at v (no_geometries, e, h) = empty_opens at v h
  body_first GeometryCollection d g at v (geometry_and f gs, e, (a, b, ev, here, q)) = (0x28, b, ev ∙ ap (λ z. z ++ b) here, refl)

  pub body_begins : (kind : Kind) (k : ℕ) → Begins opens (BodyAfter digits how kind k)
  body_begins kind k d m at v (g, n, em, (a, r, e, h, q)) = let (b, t, f, o) = body_first kind d g at a h in (b, t ++ r, e ∙ ap (λ z. z ++ r) f, o)

  body_some : (kind : Kind) (d at : ℕ) → (g : Geometry) × Body kind d g at (codes "EMPTY")
  body_some Point d at = (point None, (None, refl, refl))
  body_some LineString d at = (_, (None, refl, refl))
  body_some GeometryCollection d at = (_, (no_geometries, refl, refl))
  body_some _ d at = (_, ([], refl, refl))

  body_inhabited : (kind : Kind) (k : ℕ) → Inhabited (BodyAfter digits how kind k)
  body_inhabited kind k d at h =
      let (g, b) = body_some kind d at in
      let (n, v, q) = after_inhabited k d (at + length (codes "EMPTY")) h in
      (joined (meaning_of digits how g) n, codes "EMPTY" ++ v, (g, n, refl, (codes "EMPTY", v, refl, b, q)))

  lettered_inhabited : (kind : Kind) (k : ℕ) → Inhabited (Lettered (BodyAfter digits how kind k))
  lettered_inhabited kind k d at h = let (m, v, q) = body_inhabited kind k 2 ((at + 0) + 0 + 0) (lit≤ tt, lit≤ tt) in
      (m, v, (2, ([], v, refl, tt, ([], v, refl, inl (refl, lit≤ tt, lit≤ tt), ([], v, refl, tt, q)))))

  module _ (base : ℕ) (w : List ℕ) (i : ℕ) (k : ℕ) where
    pub kind_broken : (n : ℕ) → KindBreaks w i n → Stuck (Awaited digits how k) base w i Open n
    kind_broken n h = (same_leads (Awaited digits how k) (Then KindWord (λ kind. Lettered (BodyAfter digits how kind k))) (λ at p. p.1) base w i Open (expected_same digits how k) (omega (arith, h.order, h.within))).stuck n
        (then_stuck KindWord (λ kind. Lettered (BodyAfter digits how kind k)) base w i Open n (λ kind. lettered_inhabited kind k) (kind_stuck base w i n Open h open_count))

    module _ (head : Head) (h : HeadStands w i head) where
      to_body : Leads (Awaited digits how k) (Inside (BodyAfter digits how head.kind k) head.behind.dimension) base w i Open head.behind.at Open (λ m. m)
      to_body = trans_leads (trans_leads (same_leads (Awaited digits how k) (Then KindWord (λ kind. Lettered (BodyAfter digits how kind k))) (λ at p. p.1) base w i Open (expected_same digits how k) (omega (arith, h.word.order, h.word.within)))
          (then_leads KindWord (λ kind. Lettered (BodyAfter digits how kind k)) base w i Open h.word_end Open head.kind (kind_spelt head.kind base w i h.word_end Open h.word open_count)))
          (letter_leads (BodyAfter digits how head.kind k) (body_begins head.kind k) base w h.word_end h.letter_at h.letter_end head.behind.at head.behind.dimension h.blanks h.letter h.letter_within h.further)

      pub head_spelt : (j : ℕ) (c' : Dimension) (m : Meaning) → Spelt (BodyAfter digits how head.kind k) base w head.behind.at head.behind.dimension j c' m → Spelt (Awaited digits how k) base w i Open j Open m
      head_spelt j c' m q = to_body.spelt j Open m (inside_spelt (BodyAfter digits how head.kind k) base w head.behind.at j head.behind.dimension c' m q)

      pub head_stuck : (n : ℕ) → Stuck (BodyAfter digits how head.kind k) base w head.behind.at head.behind.dimension n → Stuck (Awaited digits how k) base w i Open n
      head_stuck n q = to_body.stuck n (inside_stuck (BodyAfter digits how head.kind k) base w head.behind.at n head.behind.dimension q)

  -- a body without members, and what stands behind it
  module _ (base : ℕ) (w : List ℕ) (p : ℕ) (c : Dimension) (kind : Kind) (k : ℕ) where
    body_same : Same (BodyAfter digits how kind k) (Then (Body kind) (λ g. Behind digits how k)) (λ at q. joined (meaning_of digits how q.0) q.1)
    body_same = record {
      to = λ d q at v h. (q.0, q.1, refl, h);
      from = λ d m at v (g, n, em, h). ((g, n), em, h);
    }

    pub body_stuck : (n : ℕ) → Stuck (Body kind) base w p c n → Stuck (BodyAfter digits how kind k) base w p c n
    body_stuck n h = (same_leads (BodyAfter digits how kind k) (Then (Body kind) (λ g. Behind digits how k)) (λ at q. joined (meaning_of digits how q.0) q.1) base w p c body_same (omega (arith, h.order, h.within))).stuck n
        (then_stuck (Body kind) (λ g. Behind digits how k) base w p c n (λ g. after_inhabited k) h)

    module _ (j : ℕ) (c' : Dimension) (g : Geometry) (h : Spelt (Body kind) base w p c j c' g) where
      on : Leads (BodyAfter digits how kind k) (Behind digits how k) base w p c j c' (λ n. joined (meaning_of digits how g) n)
      on = trans_leads (same_leads (BodyAfter digits how kind k) (Then (Body kind) (λ g. Behind digits how k)) (λ at q. joined (meaning_of digits how q.0) q.1) base w p c body_same (omega (arith, h.order, h.within)))
          (then_leads (Body kind) (λ g. Behind digits how k) base w p c j c' g h)

      pub body_spelt : (e : ℕ) (n : Meaning) → Spelt (Behind digits how k) base w j Open e Open n → Spelt (BodyAfter digits how kind k) base w p c e c' (joined (meaning_of digits how g) n)
      body_spelt e n q = on.spelt e c' n (free_spelt (After digits how k) base w j e Open c' n h.some q)

      pub body_behind : (e : ℕ) → Stuck (Behind digits how k) base w j Open e → Stuck (BodyAfter digits how kind k) base w p c e
      body_behind e q = on.stuck e (free_stuck (After digits how k) base w j e Open c' open_count h.some q)

  -- a collection that opens
  abbrev Opening : ℕ → ℕ → Meaning → ℕ → List ℕ → Type 0
  Opening k d m = Exactly (codes "(") ▸ (Many is_blank ▸ Expected digits how (suc k) m)

  opening_when : (k : ℕ) → When (BodyAfter digits how GeometryCollection k) (Opening k) (λ at m. m) is_open
  opening_when k = record { to = to; from = from } where
    to : (d : ℕ) (m : Meaning) (at : ℕ) (v : List ℕ) → Opening k d m at v → BodyAfter digits how GeometryCollection k d m at v
    to d m at v (a, r, e, here, (x, y, f, hx, (g, n, em, (l, s, el, hg, (gs, n', en, q))))) =
        let M = Many is_blank in let F : ℕ → List ℕ → Type 0 = (λ i v. SpellsFurtherGeometries i v gs) in let K = After digits how k n' in let X = Many is_blank ▸ Exactly (codes ")") in
        let members = to_left (Spelling g) F (X ▸ K) (at + length a + length x) y (l, s, el, hg, further_split gs K _ s q) in
        let (c1, c2, c3, c4, c5) = four_left (Exactly (codes "(")) M (Spelling g ▸ F) X K at v (a, r, e, here, (x, y, f, hx, members)) in
        (collection (geometry_and g gs), n', em ∙ (ap (joined (meaning_of digits how g)) en ∙ sym (joined-assoc (meaning_of digits how g) (meaning_of_all digits how gs) n')), (c1, c2, c3, (geometry_and g gs, refl, c4), c5))

    from : (d : ℕ) (m : Meaning) (at : ℕ) (v : List ℕ) → BodyAfter digits how GeometryCollection k d m at v → ((y : Meaning) × (m ≡ y) × Opening k d y at v) ⊎ ((b : ℕ) × (t : List ℕ) × (v ≡ b ∷ t) × (is_open b ≡ false))
    from d m at v (g0, n, em, (c1, c2, c3, (no_geometries, eg, h), c5)) = inr (let (b, t, f, up) = empty_fails at c1 h in (b, t ++ c2, c3 ∙ ap (λ z. z ++ c2) f, up))
    from d m at v (g0, n, em, (c1, c2, c3, (geometry_and g gs, eg, c4), c5)) =
        let F : ℕ → List ℕ → Type 0 = (λ i v. SpellsFurtherGeometries i v gs) in let K = After digits how k n in let X = Many is_blank ▸ Exactly (codes ")") in
        let (a, r, e, here, (x, y, f, hx, members)) = four_right (Exactly (codes "(")) (Many is_blank) (Spelling g ▸ F) X K at v (c1, c2, c3, c4, c5) in
        let (l, s, el, hg, q) = to_right (Spelling g) F (X ▸ K) (at + length a + length x) y members in
        let n' : Meaning = joined (meaning_of_all digits how gs) n in
        let en : m ≡ joined (meaning_of digits how g) n' = em ∙ (ap (λ z. joined (meaning_of digits how z) n) eg ∙ joined-assoc (meaning_of digits how g) (meaning_of_all digits how gs) n) in
        inl (m, refl, (a, r, e, here, (x, y, f, hx, (g, n', en, (l, s, el, hg, (gs, n, refl, further_join gs K _ s q))))))

  opening_begins : (k : ℕ) → Begins is_open (Opening k)
  opening_begins k d m at v (a, b, e, here, q) = (0x28, b, e ∙ ap (λ z. z ++ b) here, refl)

  module _ (base : ℕ) (w : List ℕ) (p a : ℕ) (c : Dimension) (k : ℕ) (inside : p < length w) (here : next w p ≡ 0x28) (skips : SkipsBlanks w (p + 1) a) (some : HasCount c) where
    opened : Leads (BodyAfter digits how GeometryCollection k) (Awaited digits how (suc k)) base w p c a c (λ m. m)
    opened = trans_leads (when_leads (BodyAfter digits how GeometryCollection k) (Opening k) (λ at m. m) is_open is_open base w p c (opening_when k) (opening_begins k) (omega arith) (ap is_open here))
        (trans_leads (fixed_leads (Exactly (codes "(")) (λ d m. Many is_blank ▸ Expected digits how (suc k) m) base w p c (p + 1) (omega arith) (omega arith) (part-one w p inside ∙ ap (λ b. b ∷ []) here)
        (λ v e. ap length e ∙ sym (ap length (part-one w p inside))))
        (pad_leads (Awaited digits how (suc k)) base w (p + 1) c a skips.order skips.within skips.blanks skips.stops (expected_begins (suc k))))

    pub opened_spelt : (j : ℕ) (m : Meaning) → Spelt (Awaited digits how (suc k)) base w a Open j Open m → Spelt (BodyAfter digits how GeometryCollection k) base w p c j c m
    opened_spelt j m q = opened.spelt j c m (free_spelt (Expected digits how (suc k)) base w a j Open c m some q)

    pub opened_stuck : (n : ℕ) → Stuck (Awaited digits how (suc k)) base w a Open n → Stuck (BodyAfter digits how GeometryCollection k) base w p c n
    opened_stuck n q = opened.stuck n (free_stuck (Expected digits how (suc k)) base w a n Open c open_count some q)
