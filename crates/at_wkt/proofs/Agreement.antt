-- Parts whose words agree: where a word of one and a word of the other begin one text, they are the same word, and something follows.
-- For the laws that a text spells one geometry, so for `only` in what `read_line` and `read_geometry` answer.
use Rattle.std.proofs.Common.{◌≡◌, ℕ, ◌+◌, inl, inr, Bool, true, false, not, IsTrue, List, [], ◌∷◌, ◌++◌, length, refl, sym, ◌∙◌, ap, subst, append_assoc, true≢false}
use Rattle.std.specs.List.{AllByRecursion}
use Rattle.std.specs.Char.{to_ascii_uppercase}
use Rattle.std.proofs.lemmas.Bool.{not-true}
use Rattle.std.proofs.lemmas.List.{append_cancel_left, length-map}
use Rattle.at_text.specs.Parts.{Exactly, AnyCase, Many, OneOrMore, ◌▸◌}
use Rattle.at_wkt.proofs.Leads.{append_cases, same_length}

-- a word of A and a word of B at one offset that begin one text are the same word, and then E holds
abbrev pub Agree : (ℕ → List ℕ → Type 0) → (ℕ → List ℕ → Type 0) → Type 0 → Type 0
Agree A B E = (at : ℕ) (v w r s : List ℕ) → A at v → B at w → v ++ r ≡ w ++ s → E × (v ≡ w)

-- whatever the counts of numbers, words of the part that begin one text are the same word, and spell the same value
abbrev pub OneValue : {X : Type 0} → (ℕ → X → ℕ → List ℕ → Type 0) → Type 0
OneValue {X} P = (d e : ℕ) (x y : X) → Agree (P d x) (P e y) (x ≡ y)

-- each word has a first byte, which fails the test
abbrev pub Fails : (ℕ → Bool) → (ℕ → List ℕ → Type 0) → Type 0
Fails test A = (at : ℕ) (v : List ℕ) → A at v → (b : ℕ) × (t : List ℕ) × (v ≡ b ∷ t) × (test b ≡ false)

-- each word has a first byte, which passes the test
abbrev pub Passes : (ℕ → Bool) → (ℕ → List ℕ → Type 0) → Type 0
Passes test A = (at : ℕ) (v : List ℕ) → A at v → (b : ℕ) × (t : List ℕ) × (v ≡ b ∷ t) × (test b ≡ true)

pub agree_then : {E F : Type 0} (A B C D : ℕ → List ℕ → Type 0) → Agree A C E → Agree B D F → Agree (A ▸ B) (C ▸ D) (E × F)
agree_then A B C D one two at v w r s (a, b, e, p, q) (c, d, f, m, n) line =
    let whole : a ++ (b ++ r) ≡ c ++ (d ++ s) = sym (append_assoc a b r) ∙ (ap (λ z. z ++ r) (sym e) ∙ (line ∙ (ap (λ z. z ++ s) f ∙ append_assoc c d s))) in
    let (x, same) = one at a c (b ++ r) (d ++ s) p m whole in
    let rest : b ++ r ≡ d ++ s = append_cancel_left c (b ++ r) (d ++ s) (ap (λ z. z ++ (b ++ r)) (sym same) ∙ whole) in
    let (y, last) = two (at + length c) b d r s (subst (λ z. B (at + length z) b) same q) n rest in
    ((x, y), e ∙ (ap (λ z. z ++ b) same ∙ (ap (λ z. c ++ z) last ∙ sym f)))

pub agree_map : {E F : Type 0} (A B : ℕ → List ℕ → Type 0) → (E → F) → Agree A B E → Agree A B F
agree_map A B f h at v w r s a b line = let (x, same) = h at v w r s a b line in (f x, same)

pub pair_same : {X Y : Type 0} {x y : X} {a b : Y} → x ≡ y → a ≡ b → ◌≡◌ {A = X × Y} (x, a) (y, b)
pair_same p q = cc

-- ---- words of one length

pub agree_exactly : (word : List ℕ) → Agree (Exactly word) (Exactly word) (Unit {0})
agree_exactly word at v w r s a b line = (tt, a ∙ sym b)

pub agree_any_case : (word : List ℕ) → Agree (AnyCase word) (AnyCase word) (Unit {0})
agree_any_case word at v w r s a b line =
    let long : length v ≡ length w = sym (length-map v to_ascii_uppercase) ∙ (ap length (a ∙ sym b) ∙ length-map w to_ascii_uppercase) in
    (tt, same_length v r w s long line)

-- ---- bytes that pass a test, and behind them one that doesn't

pub byte_passes : (test : ℕ → Bool) (a : List ℕ) (e : ℕ) (es : List ℕ) → AllByRecursion (λ b. IsTrue (test b)) (a ++ (e ∷ es)) → test e ≡ true
byte_passes test [] e es (h, hs) = h
byte_passes test (b ∷ a) e es (h, hs) = byte_passes test a e es hs

pub one_front : (test : ℕ → Bool) (a u : List ℕ) (b h : ℕ) (x y : List ℕ) → AllByRecursion (λ b. IsTrue (test b)) a → AllByRecursion (λ b. IsTrue (test b)) u → test b ≡ false → test h ≡ false
    → a ++ (b ∷ x) ≡ u ++ (h ∷ y) → a ≡ u
one_front test a u b h x y ha hu nb nh e = elim (append_cases a (b ∷ x) u (h ∷ y) e) [
  | inl (same, rest) ↦ same
  | inr (inl (m, ms, f, g)) ↦ absurd (let first : b ≡ m = cc in true≢false (sym (byte_passes test a m ms (subst (AllByRecursion (λ b. IsTrue (test b))) f hu)) ∙ (ap test (sym first) ∙ nb)))
  | inr (inr (m, ms, f, g)) ↦ absurd (let first : h ≡ m = cc in true≢false (sym (byte_passes test u m ms (subst (AllByRecursion (λ b. IsTrue (test b))) f ha)) ∙ (ap test (sym first) ∙ nh)))
]

-- the front parts have bytes that pass alone, and what stands behind begins with one that fails
pub agree_front : {E F : Type 0} (test : ℕ → Bool) (A B C D : ℕ → List ℕ → Type 0) → ((at : ℕ) (v : List ℕ) → A at v → Many test at v) → ((at : ℕ) (v : List ℕ) → C at v → Many test at v)
    → Fails test B → Fails test D → ((at : ℕ) (v : List ℕ) → A at v → C at v → E) → Agree B D F → Agree (A ▸ B) (C ▸ D) (E × F)
agree_front {E} test A B C D left right stop end same two at v w r s (a, b, e, p, q) (c, d, f, m, n) line =
    let whole : a ++ (b ++ r) ≡ c ++ (d ++ s) = sym (append_assoc a b r) ∙ (ap (λ z. z ++ r) (sym e) ∙ (line ∙ (ap (λ z. z ++ s) f ∙ append_assoc c d s))) in
    let (b0, bt, eb, fb) = stop (at + length a) b q in
    let (d0, dt, ed, fd) = end (at + length c) d n in
    let bytes : a ++ (b0 ∷ (bt ++ r)) ≡ c ++ (d0 ∷ (dt ++ s)) = ap (λ z. a ++ (z ++ r)) (sym eb) ∙ (whole ∙ ap (λ z. c ++ (z ++ s)) ed) in
    let front : a ≡ c = one_front test a c b0 d0 (bt ++ r) (dt ++ s) (left at a p) (right at c m) fb fd bytes in
    let rest : b ++ r ≡ d ++ s = append_cancel_left c (b ++ r) (d ++ s) (ap (λ z. z ++ (b ++ r)) (sym front) ∙ whole) in
    let (y, last) = two (at + length c) b d r s (subst (λ z. B (at + length z) b) front q) n rest in
    let x : E = same at c (subst (A at) front p) m in
    ((x, y), e ∙ (ap (λ z. z ++ b) front ∙ (ap (λ z. c ++ z) last ∙ sym f)))

pub agree_many : {F : Type 0} (test : ℕ → Bool) (B D : ℕ → List ℕ → Type 0) → Fails test B → Fails test D → Agree B D F → Agree (Many test ▸ B) (Many test ▸ D) F
agree_many test B D stop end two = agree_map (Many test ▸ B) (Many test ▸ D) (λ p. p.1) (agree_front {E = Unit {0}} test (Many test) B (Many test) D (λ at v h. h) (λ at v h. h) stop end (λ at v p m. tt) two)

pub agree_some : {F : Type 0} (test : ℕ → Bool) (B D : ℕ → List ℕ → Type 0) → Fails test B → Fails test D → Agree B D F → Agree (OneOrMore test ▸ B) (OneOrMore test ▸ D) F
agree_some test B D stop end two = agree_map (OneOrMore test ▸ B) (OneOrMore test ▸ D) (λ p. p.1) (agree_front {E = Unit {0}} test (OneOrMore test) B (OneOrMore test) D (λ at v h. h.1) (λ at v h. h.1) stop end (λ at v p m. tt) two)

-- ---- words that differ at their first bytes

pub agree_apart : {E : Type 0} (test : ℕ → Bool) (A B : ℕ → List ℕ → Type 0) → Passes test A → Fails test B → Agree A B E
agree_apart test A B passes fails at v w r s a b line =
    let (x, xs, ex, hx) = passes at v a in
    let (y, ys, ey, hy) = fails at w b in
    let bytes : x ∷ (xs ++ r) ≡ y ∷ (ys ++ s) = ap (λ z. z ++ r) (sym ex) ∙ (line ∙ ap (λ z. z ++ s) ey) in
    let first : x ≡ y = cc in
    absurd (true≢false (sym hx ∙ (ap test first ∙ hy)))

pub agree_turned : {E : Type 0} (A B : ℕ → List ℕ → Type 0) → Agree A B E → Agree B A E
agree_turned A B h at v w r s a b line = let (x, same) = h at w v s r b a (sym line) in (x, sym same)

-- the words of parts are words of others
pub agree_as : {E : Type 0} (A B C D : ℕ → List ℕ → Type 0) → ((at : ℕ) (v : List ℕ) → A at v → C at v) → ((at : ℕ) (v : List ℕ) → B at v → D at v) → Agree C D E → Agree A B E
agree_as A B C D f g h at v w r s a b line = h at v w r s (f at v a) (g at w b) line

-- what begins with a part begins as that part
pub fails_then : (test : ℕ → Bool) (A B : ℕ → List ℕ → Type 0) → Fails test A → Fails test (A ▸ B)
fails_then test A B h at v (a, b, e, p, q) = let (x, t, f, k) = h at a p in (x, t ++ b, e ∙ ap (λ z. z ++ b) f, k)

pub passes_then : (test : ℕ → Bool) (A B : ℕ → List ℕ → Type 0) → Passes test A → Passes test (A ▸ B)
passes_then test A B h at v (a, b, e, p, q) = let (x, t, f, k) = h at a p in (x, t ++ b, e ∙ ap (λ z. z ++ b) f, k)

-- some bytes that pass stand before what fails another test, which those fail, too
pub fails_many : (front test : ℕ → Bool) (A : ℕ → List ℕ → Type 0) → ((b : ℕ) → front b ≡ true → test b ≡ false) → Fails test A → Fails test (Many front ▸ A)
fails_many front test A f h at v ([], b, e, p, q) = let (x, t, g, k) = h (at + 0) b q in (x, t, e ∙ g, k)
fails_many front test A f h at v (c ∷ a, b, e, (p, ps), q) = (c, a ++ b, e, f c p)

pub fails_some : (front test : ℕ → Bool) (A : ℕ → List ℕ → Type 0) → ((b : ℕ) → front b ≡ true → test b ≡ false) → Fails test (OneOrMore front ▸ A)
fails_some front test A f at v ([], b, e, (some, p), q) = absurd (some refl)
fails_some front test A f at v (c ∷ a, b, e, (some, (p, ps)), q) = (c, a ++ b, e, f c p)

-- a first byte that passes the opposite test fails
pub not_fails : (test : ℕ → Bool) (A : ℕ → List ℕ → Type 0) → Passes (λ b. not (test b)) A → Fails test A
not_fails test A h at v a = let (b, t, e, k) = h at v a in (b, t, e, not-true (test b) k)
