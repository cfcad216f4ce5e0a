-- How parts of a text end, stop, cover its rest and break: one behind another, and told in another way.
-- For `read_query`.
use Rattle.std.proofs.Common.{◌≡◌, ℕ, ◌+◌, ◌<◌, ◌≤◌, ◌⊎◌, inl, inr, Bool, true, false, List, [], ◌∷◌, ◌++◌, length, take, drop, refl, sym, ◌∙◌, ap, subst, arith, append-nil, append_assoc, true≢false}
use native.Mathlib.Decide.{dec_lt}
use Rattle.std.proofs.lemmas.List.{append_cancel_left, get_or_past}
use Rattle.std.proofs.Math.Seq.{take-length}
use Rattle.at_fixed.proofs.DigitParts.{part-none, part-length, part-part}
use Rattle.at_wkt.proofs.Leads.{part-more, part-cons}
use Rattle.at_fixed.specs.NumberSoFar.{between}
use Rattle.at_wkt.specs.Readers.{next}
use Rattle.at_query.specs.Readers.{Ends, AgreesThrough, past, over, Stops, Covers, Breaks, WordStands, WordBreaks, Word, Behind, Then}

-- ---- how the text goes on

pub onward_from : (w : List ℕ) (i j n : ℕ) → i ≤ j → j ≤ n → n ≤ length w → (u : List ℕ) → AgreesThrough w i n u → (t : List ℕ) × (u ≡ between w i j ++ t) × AgreesThrough w j n t
onward_from w i j n h k l u (past below s e) =
    (between w j (n + 1) ++ s, e ∙ (ap (λ z. z ++ s) (part-part w i j (n + 1) h (omega arith) (omega arith)) ∙ append_assoc (between w i j) (between w j (n + 1)) s), past below s refl)
onward_from w i j n h k l u (over end e) = (between w j n, e ∙ part-part w i j n h k l, over end refl)

-- the same with a byte, which at the end of the text is none
pub onward_ahead : (w : List ℕ) (i n : ℕ) → i ≤ n → (u : List ℕ) → AgreesThrough w i n u → (r t : List ℕ) × (u ++ r ≡ between w i n ++ (next w n ∷ t))
onward_ahead w i n h u (past below s e) = ([], s, append-nil u ∙ (e ∙ (ap (λ z. z ++ s) (part-more w i n h below) ∙ append_assoc (between w i n) (next w n ∷ []) s)))
onward_ahead w i n h u (over end e) = (256 ∷ [], [], ap (λ z. z ++ (256 ∷ [])) e ∙ ap (λ z. between w i n ++ (z ∷ [])) (sym (get_or_past w n 256 (omega (arith, end)))))

pub rest_split : (w : List ℕ) (i j : ℕ) → i ≤ j → j ≤ length w → drop i w ≡ between w i j ++ drop j w
rest_split w i j a b =
    let whole : w ≡ take (length w) w = sym (take-length w) in
    ap (drop i) whole ∙ (part-part w i j (length w) a b (omega arith) ∙ ap (λ z. between w i j ++ drop j z) (take-length w))

-- the rest of the text goes on as the text does
pub rest_onward : (w : List ℕ) (i n : ℕ) → i ≤ n → n ≤ length w → AgreesThrough w i n (drop i w)
rest_onward w i n h k = elim (dec_lt n (length w)) [
  | yes below ↦ past below (drop (n + 1) w) (rest_split w i (n + 1) (omega arith) (omega arith))
  | no f ↦ (let same : n ≡ length w = omega arith in over same (ap (drop i) (sym (ap (λ z. take z w) same ∙ take-length w))))
]

-- the first byte of what goes on as the text does
onward_first : (w : List ℕ) (i n : ℕ) → i ≤ n → n ≤ length w → (b : ℕ) (t : List ℕ) → AgreesThrough w i n (b ∷ t) → b ≡ next w i
onward_first w i n h k b t (past below s e) =
    let line : b ∷ t ≡ next w i ∷ (between w (i + 1) (n + 1) ++ s) = e ∙ ap (λ z. z ++ s) (part-cons w i (n + 1) (omega arith) (omega arith)) in cc
onward_first w i n h k b t (over end e) = elim (dec_lt i n) [
  | yes l ↦ (let line : b ∷ t ≡ next w i ∷ between w (i + 1) n = e ∙ part-cons w i n l k in cc)
  | no f ↦ absurd (let same : n ≡ i = omega arith in let none : b ∷ t ≡ [] = e ∙ (ap (between w i) same ∙ part-none w i (omega arith)) in cc)
]

-- ---- a part behind a part

-- some spelling of the part at every offset
abbrev pub Lives : {X : Type 0} → (X → ℕ → List ℕ → Type 0) → Type 0
Lives {X} P = (at : ℕ) → (x : X) × (v : List ℕ) × P x at v

place : {X : Type 0} {P : X → ℕ → List ℕ → Type 0} {w : List ℕ} {i j : ℕ} {x : X} → Ends P w i j x → (v : List ℕ) → v ≡ between w i j → i + length v ≡ j
place {w = w} {i = i} {j = j} h v e = omega (arith, ap length e, part-length w i j h.order h.within)

module _ {X Y : Type 0} (P : X → ℕ → List ℕ → Type 0) (Q : Y → ℕ → List ℕ → Type 0) {w : List ℕ} {i j : ℕ} {x : X} (h : Ends P w i j x) where
  -- what agrees with the text has the first part there, and behind it the second
  agrees : (p : X × Y) (v r t : List ℕ) → Then P Q p i v → v ++ r ≡ between w i j ++ t → (p.0 ≡ x) × (u : List ℕ) × (v ≡ between w i j ++ u) × Q p.1 j u × (u ++ r ≡ t)
  agrees p v r t (v1, v2, ev, hp, hq) e =
      let line : v1 ++ (v2 ++ r) ≡ between w i j ++ t = sym (append_assoc v1 v2 r) ∙ (ap (λ z. z ++ r) (sym ev) ∙ e) in
      let (ex, e1) = h.only p.0 v1 (v2 ++ r) t hp line in
      (ex, v2, ev ∙ ap (λ z. z ++ v2) e1, subst (λ o. Q p.1 o v2) (place h v1 e1) hq, append_cancel_left (between w i j) (v2 ++ r) t (ap (λ z. z ++ (v2 ++ r)) (sym e1) ∙ line))

  begun : (y : Y) (v u : List ℕ) → u ≡ between w i j ++ v → Q y j v → Then P Q (x, y) i u
  begun y v u e q = (between w i j, v, e, h.sound, subst (λ o. Q y o v) (sym (place h (between w i j) refl)) q)

  module _ (n : ℕ) (k : j ≤ n) (l : n ≤ length w) where
    viable_then : ((y : Y) × (more : List ℕ) × Q y j (between w j n ++ more)) → (p : X × Y) × (more : List ℕ) × Then P Q p i (between w i n ++ more)
    viable_then (y, more, s) = ((x, y), more, begun y (between w j n ++ more) _ (ap (λ z. z ++ more) (part-part w i j n h.order k l) ∙ append_assoc (between w i j) (between w j n) more) s)

    onward : (p : X × Y) (v r : List ℕ) → Then P Q p i v → AgreesThrough w i n (v ++ r) → (u : List ℕ) × Q p.1 j u × AgreesThrough w j n (u ++ r)
    onward p v r s on =
        let (t, et, on2) = onward_from w i j n h.order k l (v ++ r) on in
        let (ex, u, ev, q, rest) = agrees p v r t s et in
        (u, q, subst (AgreesThrough w j n) (sym rest) on2)

module _ {X Y : Type 0} {P : X → ℕ → List ℕ → Type 0} {Q : Y → ℕ → List ℕ → Type 0} {w : List ℕ} {i j : ℕ} {x : X} (h : Ends P w i j x) where
  pub then_ends : {k : ℕ} {y : Y} → Ends Q w j k y → Ends (Then P Q) w i k (x, y)
  then_ends {k = k} {y = y} q =
      let low : i ≤ j = h.order in
      let mid : j ≤ k = q.order in
      let joint : between w i k ≡ between w i j ++ between w j k = part-part w i j k low mid q.within in
      record {
        order = omega arith;
        within = q.within;
        sound = begun P Q h y (between w j k) (between w i k) joint q.sound;
        only = λ p v r s t e.
            let whole : between w i k ++ s ≡ between w i j ++ (between w j k ++ s) = ap (λ z. z ++ s) joint ∙ append_assoc (between w i j) (between w j k) s in
            let (ex, u, ev, q2, rest) = agrees P Q h p v r (between w j k ++ s) t (e ∙ whole) in
            let (ey, e2) = q.only p.1 u r s q2 rest in
            (ap (λ z. (z, p.1)) ex ∙ ap (λ z. (x, z)) ey, ev ∙ (ap (λ z. between w i j ++ z) e2 ∙ sym joint));
      }

  pub then_stops : {n : ℕ} → Stops Q w j n → Stops (Then P Q) w i n
  then_stops {n = n} q =
      let low : i ≤ j = h.order in
      let mid : j ≤ n = q.order in
      record {
        order = omega arith;
        within = q.within;
        viable = viable_then P Q h n mid q.within q.viable;
        dead = λ p v r s on. let (u, q2, on2) = onward P Q h n mid q.within p v r s on in q.dead p.1 u r q2 on2;
      }

  pub then_covers : {y : Y} → Covers Q w j y → Covers (Then P Q) w i (x, y)
  then_covers {y = y} q =
      let low : i ≤ j = h.order in
      let split : drop i w ≡ between w i j ++ drop j w = rest_split w i j low q.within in
      record {
        within = omega (arith, q.within);
        sound = begun P Q h y (drop j w) (drop i w) split q.sound;
        only = λ p s.
            let (ex, u, ev, q2, rest) = agrees P Q h p (drop i w) [] (drop j w) s (append-nil (drop i w) ∙ split) in
            let ey = q.only p.1 (subst (Q p.1 j) (sym (append-nil u) ∙ rest) q2) in
            ap (λ z. (z, p.1)) ex ∙ ap (λ z. (x, z)) ey;
      }

  pub then_breaks : {n : ℕ} → Breaks Q w j n → Breaks (Then P Q) w i n
  then_breaks {n = n} q =
      let low : i ≤ j = h.order in
      let mid : j ≤ n = q.order in
      record {
        order = omega arith;
        within = q.within;
        viable = viable_then P Q h n mid q.within q.viable;
        dead = λ p v s on.
            let (u, q2, on2) = onward P Q h n mid q.within p v [] s (subst (AgreesThrough w i n) (sym (append-nil v)) on) in
            q.dead p.1 u q2 (subst (AgreesThrough w j n) (append-nil u) on2);
      }

-- where the first part stops, so does the whole
pub first_stops : {X Y : Type 0} {P : X → ℕ → List ℕ → Type 0} {Q : Y → ℕ → List ℕ → Type 0} {w : List ℕ} {i n : ℕ} → Lives Q → Stops P w i n → Stops (Then P Q) w i n
first_stops {w = w} {i = i} {n = n} lives h = record {
  order = h.order;
  within = h.within;
  viable = (
      let (x, more, s) = h.viable in
      let (y, u, q) = lives (i + length (between w i n ++ more)) in
      ((x, y), more ++ u, (between w i n ++ more, u, sym (append_assoc (between w i n) more u), s, q)));
  dead = λ p v r (v1, v2, ev, hp, hq) on. h.dead p.0 v1 (v2 ++ r) hp (subst (AgreesThrough w i n) (ap (λ z. z ++ r) ev ∙ append_assoc v1 v2 r) on);
}

pub stops_break : {X : Type 0} {P : X → ℕ → List ℕ → Type 0} {w : List ℕ} {i n : ℕ} → Stops P w i n → Breaks P w i n
stops_break {w = w} {i = i} {n = n} h = record {
  order = h.order;
  within = h.within;
  viable = h.viable;
  dead = λ x v p on. h.dead x v [] p (subst (AgreesThrough w i n) (sym (append-nil v)) on);
}

-- ---- a part told in another way

-- the words of P are those of Q, with other values, which may depend on the offset
pub record Tells {X Y : Type 0} (P : X → ℕ → List ℕ → Type 0) (Q : Y → ℕ → List ℕ → Type 0) (f : ℕ → Y → X) : Type 0 where
  pub to : (y : Y) (at : ℕ) (v : List ℕ) → Q y at v → P (f at y) at v
  pub from : (x : X) (at : ℕ) (v : List ℕ) → P x at v → (y : Y) × (x ≡ f at y) × Q y at v

module _ {X Y : Type 0} {P : X → ℕ → List ℕ → Type 0} {Q : Y → ℕ → List ℕ → Type 0} {f : ℕ → Y → X} (t : Tells P Q f) where
  pub told_ends : {w : List ℕ} {i j : ℕ} {y : Y} → Ends Q w i j y → Ends P w i j (f i y)
  told_ends {w = w} {i = i} {j = j} {y = y} h = record {
    order = h.order;
    within = h.within;
    sound = t.to y i (between w i j) h.sound;
    only = λ x v r s p e. let (z, ex, q) = t.from x i v p in let (ez, ev) = h.only z v r s q e in (ex ∙ ap (f i) ez, ev);
  }

  pub told_stops : {w : List ℕ} {i n : ℕ} → Stops Q w i n → Stops P w i n
  told_stops {w = w} {i = i} {n = n} h = record {
    order = h.order;
    within = h.within;
    viable = (let (y, more, q) = h.viable in (f i y, more, t.to y i (between w i n ++ more) q));
    dead = λ x v r p on. let (z, ex, q) = t.from x i v p in h.dead z v r q on;
  }

  pub told_lives : Lives Q → Lives P
  told_lives lives at = let (y, v, q) = lives at in (f at y, v, t.to y at v q)

-- ---- a part that is chosen by its first byte

-- each word of the part has a first byte, which passes
abbrev pub Begins : {X : Type 0} → (ℕ → Bool) → (X → ℕ → List ℕ → Type 0) → Type 0
Begins {X} test P = (x : X) (at : ℕ) (v : List ℕ) → P x at v → (b : ℕ) × (t : List ℕ) × (v ≡ b ∷ t) × (test b ≡ true)

-- the words of P that begin with a byte that passes are those of Q, with other values
pub record When {X Y : Type 0} (P : X → ℕ → List ℕ → Type 0) (Q : Y → ℕ → List ℕ → Type 0) (f : Y → X) (test : ℕ → Bool) : Type 0 where
  pub to : (y : Y) (at : ℕ) (v : List ℕ) → Q y at v → P (f y) at v
  pub from : (x : X) (at : ℕ) (v : List ℕ) → P x at v → ((y : Y) × (x ≡ f y) × Q y at v) ⊎ ((b : ℕ) × (t : List ℕ) × (v ≡ b ∷ t) × (test b ≡ false))
  pub begins : Begins test Q

module _ {X Y : Type 0} {P : X → ℕ → List ℕ → Type 0} {Q : Y → ℕ → List ℕ → Type 0} {f : Y → X} {test : ℕ → Bool} (c : When P Q f test) {w : List ℕ} {i : ℕ} (here : test (next w i) ≡ true) where
  pub when_ends : {j : ℕ} {y : Y} → Ends Q w i j y → Ends P w i j (f y)
  when_ends {j = j} {y = y} h =
      let (b, t, e, p) = c.begins y i (between w i j) h.sound in
      let low : i ≤ j = h.order in
      let long : i < j = omega (arith, part-length w i j h.order h.within, ap length e) in
      record {
        order = h.order;
        within = h.within;
        sound = c.to y i (between w i j) h.sound;
        only = λ x v r s q line. elim (c.from x i v q) [
          | inl (z, ex, q2) ↦ (let (ez, ev) = h.only z v r s q2 line in (ex ∙ ap f ez, ev))
          | inr (b2, t2, ev, fails) ↦ absurd (
              let both : b2 ∷ (t2 ++ r) ≡ next w i ∷ (between w (i + 1) j ++ s) = ap (λ z. z ++ r) (sym ev) ∙ (line ∙ ap (λ z. z ++ s) (part-cons w i j long h.within)) in
              let first : b2 ≡ next w i = cc in
              true≢false (sym here ∙ (ap test (sym first) ∙ fails)))
        ];
      }

  pub when_stops : {n : ℕ} → Stops Q w i n → Stops P w i n
  when_stops {n = n} h = record {
    order = h.order;
    within = h.within;
    viable = (let (y, more, q) = h.viable in (f y, more, c.to y i (between w i n ++ more) q));
    dead = λ x v r q on. elim (c.from x i v q) [
      | inl (z, ex, q2) ↦ h.dead z v r q2 on
      | inr (b, t, ev, fails) ↦ (
          let first = onward_first w i n h.order h.within b (t ++ r) (subst (AgreesThrough w i n) (ap (λ z. z ++ r) ev) on) in
          true≢false (sym here ∙ (ap test (sym first) ∙ fails)))
    ];
  }

-- no word begins with the byte that stands there
pub none_stops : {X : Type 0} {P : X → ℕ → List ℕ → Type 0} (test : ℕ → Bool) (w : List ℕ) (i : ℕ) → Begins test P → Lives P → i ≤ length w → test (next w i) ≡ false → Stops P w i i
none_stops {P = P} test w i begins lives within fails =
    let low : i ≤ i = omega arith in
    record {
      order = low;
      within = within;
      viable = (let (x, v, p) = lives i in (x, v, subst (P x i) (ap (λ z. z ++ v) (sym (part-none w i within))) p));
      dead = λ x v r p on.
          let (b, t, e, passes) = begins x i v p in
          let first = onward_first w i i low within b (t ++ r) (subst (AgreesThrough w i i) (ap (λ z. z ++ r) e) on) in
          true≢false (sym passes ∙ (ap test first ∙ fails));
    }

-- ---- words

pub word_ends : {w : List ℕ} {i j : ℕ} {word : List ℕ} → WordStands w i j word → Ends (Word word) w i j tt
word_ends h = record {
  order = omega (arith, h.end);
  within = h.within;
  sound = h.text;
  only = λ y v r s e line. (refl, e ∙ sym h.text);
}

no_further : (w : List ℕ) (i n : ℕ) (word r : List ℕ) → WordBreaks w i n word → AgreesThrough w i n (word ++ r) → ⊥
no_further w i n word r h (past below s e) =
    let more : between w i (n + 1) ≡ between w i n ++ (next w n ∷ []) = part-more w i n h.order below in
    let one : word ++ r ≡ h.front ++ (h.byte ∷ (h.rest ++ r)) = ap (λ z. z ++ r) h.word_is ∙ append_assoc h.front (h.byte ∷ h.rest) r in
    let two : between w i (n + 1) ++ s ≡ h.front ++ (next w n ∷ s) = ap (λ z. z ++ s) more ∙ (append_assoc (between w i n) (next w n ∷ []) s ∙ ap (λ z. z ++ (next w n ∷ s)) h.text) in
    let rest : h.byte ∷ (h.rest ++ r) ≡ next w n ∷ s = append_cancel_left h.front _ _ (sym one ∙ (e ∙ two)) in
    let same : next w n ≡ h.byte = cc in
    h.differs below (more ∙ (ap (λ z. z ++ (next w n ∷ [])) h.text ∙ ap (λ z. h.front ++ (z ∷ [])) same))
no_further w i n word r h (over end e) =
    let one : word ++ r ≡ h.front ++ (h.byte ∷ (h.rest ++ r)) = ap (λ z. z ++ r) h.word_is ∙ append_assoc h.front (h.byte ∷ h.rest) r in
    let two : h.front ++ (h.byte ∷ (h.rest ++ r)) ≡ h.front ++ [] = sym one ∙ (e ∙ (h.text ∙ sym (append-nil h.front))) in
    let rest : h.byte ∷ (h.rest ++ r) ≡ [] = append_cancel_left h.front _ _ two in
    cc

pub word_stops : {w : List ℕ} {i n : ℕ} {word : List ℕ} → WordBreaks w i n word → Stops (Word word) w i n
word_stops {w = w} {i = i} {n = n} {word = word} h = record {
  order = h.order;
  within = h.within;
  viable = (tt, h.byte ∷ h.rest, ap (λ z. z ++ (h.byte ∷ h.rest)) h.text ∙ sym h.word_is);
  dead = λ x v r e on. no_further w i n word r h (subst (AgreesThrough w i n) (ap (λ z. z ++ r) e) on);
}

-- ---- a word before a part

behind_tells : {X : Type 0} (word : List ℕ) (P : X → ℕ → List ℕ → Type 0) → Tells (Behind word P) (Then (Word word) P) (λ at p. p.1)
behind_tells word P = record { to = λ p at v h. h; from = λ x at v h. ((tt, x), refl, h) }

module _ {X : Type 0} {P : X → ℕ → List ℕ → Type 0} {w word : List ℕ} {i : ℕ} where
  pub behind_ends : {j k : ℕ} {x : X} → WordStands w i j word → Ends P w j k x → Ends (Behind word P) w i k x
  behind_ends h q = told_ends (behind_tells word P) (then_ends (word_ends h) q)

  pub behind_stops : {j n : ℕ} → WordStands w i j word → Stops P w j n → Stops (Behind word P) w i n
  behind_stops h q = told_stops (behind_tells word P) (then_stops (word_ends h) q)

  pub behind_word : {n : ℕ} → Lives P → WordBreaks w i n word → Stops (Behind word P) w i n
  behind_word lives h = told_stops (behind_tells word P) (first_stops lives (word_stops h))

pub behind_lives : {X : Type 0} {P : X → ℕ → List ℕ → Type 0} (word : List ℕ) → Lives P → Lives (Behind word P)
behind_lives word lives at = let (x, v, p) = lives (at + length word) in (x, word ++ v, (word, v, refl, refl, p))

pub then_lives : {X Y : Type 0} {P : X → ℕ → List ℕ → Type 0} {Q : Y → ℕ → List ℕ → Type 0} → Lives P → Lives Q → Lives (Then P Q)
then_lives first second at = let (x, u, p) = first at in let (y, v, q) = second (at + length u) in ((x, y), u ++ v, (u, v, refl, p, q))
