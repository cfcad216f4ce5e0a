-- A piece has one list of items from a state: its bytes can be split in one way.
-- For most public calls of the crate, `copy`, `from_slice`, `lex` among them.
use Rattle.std.proofs.Common.{◌≡◌, ◌≢◌, ℕ, ◌+◌, inl, inr, List, [], ◌∷◌, ◌++◌, length, Bool, true, false, cond, ◌==◌, not, IsTrue, refl, sym, ◌∙◌, ap, subst, arith, true≢false, append-nil}
use Rattle.at_text.specs.Texts.{is_run, is_one_of}
use Rattle.at_text.proofs.Machine.{longest_unique}
use Rattle.at_lex.specs.declared.tokens.Start.{Start}
use Rattle.at_lex.specs.declared.tokens.Start.TheVariants.{Out, InString, InEscape}
use Rattle.at_lex.specs.declared.tokens.Bracket.TheVariants.{Brace, Square}
use Rattle.at_lex.specs.declared.tokens.Lead.{Lead}
use Rattle.at_lex.specs.declared.tokens.Lead.TheVariants as leads
use Rattle.at_lex.specs.declared.tokens.Pend.{Pend}
use Rattle.at_lex.specs.declared.tokens.Pend.TheVariants as pends
use Rattle.at_lex.specs.declared.tokens.Token.{Token}
use Rattle.at_lex.specs.declared.tokens.TokenKind.{TokenKind}
use Rattle.at_lex.specs.declared.tokens.TokenKind.TheVariants.{Opens, Closes, Comma, Colon, Text, Run, Broken}
use Rattle.at_lex.specs.declared.tokens.Item.{Item}
use Rattle.at_lex.specs.declared.tokens.Item.TheVariants.{Whole, End}
use Rattle.at_lex.specs.Stream.{Left, IsBegun, GivesItem}
use Rattle.at_lex.specs.declared.tokens.Lexed.{Lexed}
use Rattle.at_lex.specs.Strings.{JsonString}
use Rattle.at_lex.specs.Runs.{JsonRun}
use Rattle.at_lex.specs.Spans.{after_byte, ClosesText, StaysInText, AreSpaces, AreRun, EndsRun, IsText, IsRefused, begins_space, begins_run, IsKind, IsToken, IsPend, AreTokens, IsLead, left_behind, HasItems}

-- ---- fronts

pub head_same : (b c : ℕ) (v w : List ℕ) → b ∷ v ≡ c ∷ w → b ≡ c
head_same b c v w e = cc

pub tail_same : (b c : ℕ) (v w : List ℕ) → b ∷ v ≡ c ∷ w → v ≡ w
tail_same b c v w e = cc

pub not-false : (b : Bool) → IsTrue (not b) → b ≡ false
not-false b h = grind arith

abbrev Same : (u v x y : List ℕ) → Type 0
Same u v x y = (u ≡ v) × (x ≡ y)

cons_same : (b c : ℕ) (u v x y : List ℕ) → b ≡ c → Same u v x y → Same (b ∷ u) (c ∷ v) x y
cons_same b c u v x y e (f, g) = (ap (λ z. z ∷ u) e ∙ ap (λ z. c ∷ z) f, g)

spaces_one : (a b x y : List ℕ) → AreSpaces a → AreSpaces b → begins_space x ≡ false → begins_space y ≡ false → a ++ x ≡ b ++ y → Same a b x y
spaces_one [] [] x y h k p q e = (refl, e)
spaces_one [] (c ∷ b) x y h (k, ks) p q e = absurd (true≢false (sym k ∙ (sym (ap begins_space e) ∙ p)))
spaces_one (c ∷ a) [] x y (h, hs) k p q e = absurd (true≢false (sym h ∙ (ap begins_space e ∙ q)))
spaces_one (c ∷ a) (d ∷ b) x y (h, hs) (k, ks) p q e = cons_same c d a b x y (head_same c d _ _ e) (spaces_one a b x y hs ks p q (tail_same c d _ _ e))

runs_one : (a b x y : List ℕ) → AreRun a → AreRun b → begins_run x ≡ false → begins_run y ≡ false → a ++ x ≡ b ++ y → Same a b x y
runs_one [] [] x y h k p q e = (refl, e)
runs_one [] (c ∷ b) x y h (k, ks) p q e = absurd (true≢false (sym k ∙ (sym (ap begins_run e) ∙ p)))
runs_one (c ∷ a) [] x y (h, hs) k p q e = absurd (true≢false (sym h ∙ (ap begins_run e ∙ q)))
runs_one (c ∷ a) (d ∷ b) x y (h, hs) (k, ks) p q e = cons_same c d a b x y (head_same c d _ _ e) (runs_one a b x y hs ks p q (tail_same c d _ _ e))

closes_one : (s : Start) (u v x y : List ℕ) → ClosesText s u → ClosesText s v → u ++ x ≡ v ++ y → Same u v x y
closes_one Out [] [] x y h k e = (refl, e)
closes_one Out (b ∷ u) v x y h k e = absurd h
closes_one InString [] v x y h k e = absurd h
closes_one InString (b ∷ u) (c ∷ v) x y h k e = let f = head_same b c _ _ e in
    cons_same b c u v x y f (closes_one (after_byte InString b) u v x y h (subst (λ z. ClosesText (after_byte InString z) v) (sym f) k) (tail_same b c _ _ e))
closes_one InEscape [] v x y h k e = absurd h
closes_one InEscape (b ∷ u) (c ∷ v) x y h k e = cons_same b c u v x y (head_same b c _ _ e) (closes_one InString u v x y h k (tail_same b c _ _ e))
closes_one _ _ _ x y h k e = absurd k

closes_stays : (s : Start) (u v x : List ℕ) → ClosesText s u → StaysInText s v → u ++ x ≡ v → ⊥
closes_stays Out u v x h k e = k
closes_stays InString (b ∷ u) (c ∷ v) x h k e = closes_stays (after_byte InString b) u v x h (subst (λ z. StaysInText (after_byte InString z) v) (sym (head_same b c _ _ e)) k) (tail_same b c _ _ e)
closes_stays InEscape (b ∷ u) (c ∷ v) x h k e = closes_stays InString u v x h k (tail_same b c _ _ e)
closes_stays _ [] v x h k e = h
closes_stays _ (b ∷ u) [] x h k e = absurd (omega (arith, ap length e))

-- ---- the shape of a token

is_mark : ℕ → Bool
is_mark b = is_one_of (0x7B ∷ 0x7D ∷ 0x5B ∷ 0x5D ∷ 0x2C ∷ 0x3A ∷ []) b

mark_of : ℕ → TokenKind
mark_of b = cond (b == 0x7B) (Opens Brace) (cond (b == 0x5B) (Opens Square) (cond (b == 0x7D) (Closes Brace) (cond (b == 0x5D) (Closes Square) (cond (b == 0x2C) Comma Colon))))

data Shape : List ℕ → List ℕ → Type 0 where
  marked : {v r : List ℕ} (b : ℕ) → is_mark b ≡ true → v ≡ b ∷ [] → Shape v r
  quoted : {v r : List ℕ} → IsText v → Shape v r
  bare : {v r : List ℕ} → EndsRun v r → Shape v r

kind_shape : (at : ℕ) (v r : List ℕ) (k : TokenKind) → IsKind at v r k → Shape v r
unfolding is_mark
kind_shape at v r (Opens Brace) e = marked 0x7B refl e
kind_shape at v r (Opens Square) e = marked 0x5B refl e
kind_shape at v r (Closes Brace) e = marked 0x7D refl e
kind_shape at v r (Closes Square) e = marked 0x5D refl e
kind_shape at v r Comma e = marked 0x2C refl e
kind_shape at v r Colon e = marked 0x3A refl e
kind_shape at v r Text (h, k) = quoted h
kind_shape at v r Run (h, k) = bare h
kind_shape at v r (Broken p) (n, e, inl (h, k, l)) = quoted h
kind_shape at v r (Broken p) (n, e, inr (h, k)) = bare h

mark_no_run : (b : ℕ) → is_mark b ≡ true → is_run b ≡ true → ⊥
unfolding is_mark
mark_no_run b h k = absurd (grind (arith, h, k))

abbrev first_is : (ℕ → Bool) → List ℕ → Bool
first_is p [] = false
first_is p (b ∷ w) = p b

run_first : (v r : List ℕ) → EndsRun v r → first_is is_run (v ++ r) ≡ true
run_first v r h = grind arith

mark_first : (v r : List ℕ) (b : ℕ) → is_mark b ≡ true → v ≡ b ∷ [] → v ++ r ≡ b ∷ r
mark_first v r b h e = ap (λ z. z ++ r) e

shapes_one : (v r w s : List ℕ) → Shape v r → Shape w s → v ++ r ≡ w ++ s → Same v w r s
unfolding is_mark
shapes_one v r w s (marked b h e) (marked c k f) g = let j = sym (mark_first v r b h e) ∙ (g ∙ mark_first w s c k f) in
    (e ∙ (ap (λ z. z ∷ []) (head_same b c r s j) ∙ sym f), tail_same b c r s j)
shapes_one v r w s (marked b h e) (quoted (u, f, k)) g = let j : b ∷ r ≡ 0x22 ∷ (u ++ s) = sym (mark_first v r b h e) ∙ (g ∙ ap (λ z. z ++ s) f) in
    absurd (true≢false (sym h ∙ ap is_mark (head_same b 0x22 r (u ++ s) j)))
shapes_one v r w s (marked b h e) (bare k) g = absurd (mark_no_run b h (ap (first_is is_run) (sym (mark_first v r b h e) ∙ g) ∙ run_first w s k))
shapes_one v r w s (quoted (u, f, k)) (marked b h e) g = let j : b ∷ s ≡ 0x22 ∷ (u ++ r) = sym (mark_first w s b h e) ∙ (sym g ∙ ap (λ z. z ++ r) f) in
    absurd (true≢false (sym h ∙ ap is_mark (head_same b 0x22 s (u ++ r) j)))
shapes_one v r w s (quoted (u, e, h)) (quoted (x, f, k)) g =
    let j : 0x22 ∷ (u ++ r) ≡ 0x22 ∷ (x ++ s) = sym (ap (λ z. z ++ r) e) ∙ (g ∙ ap (λ z. z ++ s) f) in
    let (p, q) = closes_one InString u x r s h k (tail_same 0x22 0x22 (u ++ r) (x ++ s) j) in
    (e ∙ (ap (λ z. 0x22 ∷ z) p ∙ sym f), q)
shapes_one v r w s (quoted (u, e, h)) (bare k) g = absurd (true≢false (sym (run_first w s k) ∙ sym (ap (first_is is_run) (sym (ap (λ z. z ++ r) e) ∙ g))))
shapes_one v r w s (bare h) (marked b k f) g = absurd (mark_no_run b k (sym (ap (first_is is_run) (g ∙ mark_first w s b k f)) ∙ run_first v r h))
shapes_one v r w s (bare h) (quoted (u, f, k)) g = absurd (true≢false (sym (run_first v r h) ∙ ap (first_is is_run) (g ∙ ap (λ z. z ++ s) f)))
shapes_one v r w s (bare ((h, hs), k, l)) (bare ((i, is), m, n)) g = runs_one v w r s hs is (not-false _ l) (not-false _ n) g

-- ---- the kind of a token

-- what is known of the bytes of a token of each kind
data Known (at : ℕ) (v r : List ℕ) : TokenKind → Type 0 where
  known_mark : {k : TokenKind} (b : ℕ) → v ≡ b ∷ [] → is_mark b ≡ true → k ≡ mark_of b → Known at v r k
  known_text : {k : TokenKind} → IsText v → JsonString v → k ≡ Text → Known at v r k
  bad_text : {k : TokenKind} (n : ℕ) → IsText v → IsRefused JsonString v n → k ≡ Broken (at + n) → Known at v r k
  known_run : {k : TokenKind} → EndsRun v r → JsonRun v → k ≡ Run → Known at v r k
  bad_run : {k : TokenKind} (n : ℕ) → EndsRun v r → IsRefused JsonRun v n → k ≡ Broken (at + n) → Known at v r k

kind_known : (at : ℕ) (v r : List ℕ) (k : TokenKind) → IsKind at v r k → Known at v r k
unfolding is_mark mark_of
kind_known at v r (Opens Brace) e = known_mark 0x7B e refl refl
kind_known at v r (Opens Square) e = known_mark 0x5B e refl refl
kind_known at v r (Closes Brace) e = known_mark 0x7D e refl refl
kind_known at v r (Closes Square) e = known_mark 0x5D e refl refl
kind_known at v r Comma e = known_mark 0x2C e refl refl
kind_known at v r Colon e = known_mark 0x3A e refl refl
kind_known at v r Text (h, k) = known_text h k refl
kind_known at v r Run (h, k) = known_run h k refl
kind_known at v r (Broken p) (n, e, inl (h, k, l)) = bad_text n h k (ap Broken e)
kind_known at v r (Broken p) (n, e, inr (h, k)) = bad_run n h k (ap Broken e)

text_no_run : (v r : List ℕ) → IsText v → EndsRun v r → ⊥
text_no_run v r (u, e, h) ((k, ks), l, m) = true≢false (sym k ∙ ap begins_run e)

mark_no_text : (v : List ℕ) (b : ℕ) → v ≡ b ∷ [] → is_mark b ≡ true → IsText v → ⊥
unfolding is_mark
mark_no_text v b e h (u, f, k) = true≢false (sym h ∙ ap is_mark (head_same b 0x22 [] u (sym e ∙ f)))

mark_no_bare : (v r : List ℕ) (b : ℕ) → v ≡ b ∷ [] → is_mark b ≡ true → EndsRun v r → ⊥
mark_no_bare v r b e h ((k, ks), l, m) = mark_no_run b h (sym (ap begins_run e) ∙ k)

refused_one : (L : List ℕ → Type 0) (v : List ℕ) (at m n : ℕ) → IsRefused L v m → IsRefused L v n → at + m ≡ at + n
refused_one L v at m n h k = ap (λ z. at + z) (longest_unique L v m n h.1 k.1)

known_one : (at : ℕ) (v r : List ℕ) (k l : TokenKind) → Known at v r k → Known at v r l → k ≡ l
known_one at v r k l (known_mark b e h f) (known_mark c g i j) = f ∙ (ap mark_of (head_same b c [] [] (sym e ∙ g)) ∙ sym j)
known_one at v r k l (known_mark b e h f) (known_text i j g) = absurd (mark_no_text v b e h i)
known_one at v r k l (known_mark b e h f) (bad_text n i j g) = absurd (mark_no_text v b e h i)
known_one at v r k l (known_mark b e h f) (known_run i j g) = absurd (mark_no_bare v r b e h i)
known_one at v r k l (known_mark b e h f) (bad_run n i j g) = absurd (mark_no_bare v r b e h i)
known_one at v r k l (known_text h i e) (known_mark b f g j) = absurd (mark_no_text v b f g h)
known_one at v r k l (known_text h i e) (known_text j m f) = e ∙ sym f
known_one at v r k l (known_text h i e) (bad_text n j m f) = absurd (m.0 i)
known_one at v r k l (known_text h i e) (known_run j m f) = absurd (text_no_run v r h j)
known_one at v r k l (known_text h i e) (bad_run n j m f) = absurd (text_no_run v r h j)
known_one at v r k l (bad_text n h i e) (known_mark b f g j) = absurd (mark_no_text v b f g h)
known_one at v r k l (bad_text n h i e) (known_text j m f) = absurd (i.0 m)
known_one at v r k l (bad_text n h i e) (bad_text x j m f) = e ∙ (ap Broken (refused_one JsonString v at n x i m) ∙ sym f)
known_one at v r k l (bad_text n h i e) (known_run j m f) = absurd (text_no_run v r h j)
known_one at v r k l (bad_text n h i e) (bad_run x j m f) = absurd (text_no_run v r h j)
known_one at v r k l (known_run h i e) (known_mark b f g j) = absurd (mark_no_bare v r b f g h)
known_one at v r k l (known_run h i e) (known_text j m f) = absurd (text_no_run v r j h)
known_one at v r k l (known_run h i e) (bad_text n j m f) = absurd (text_no_run v r j h)
known_one at v r k l (known_run h i e) (known_run j m f) = e ∙ sym f
known_one at v r k l (known_run h i e) (bad_run n j m f) = absurd (m.0 i)
known_one at v r k l (bad_run n h i e) (known_mark b f g j) = absurd (mark_no_bare v r b f g h)
known_one at v r k l (bad_run n h i e) (known_text j m f) = absurd (text_no_run v r j h)
known_one at v r k l (bad_run n h i e) (bad_text x j m f) = absurd (text_no_run v r j h)
known_one at v r k l (bad_run n h i e) (known_run j m f) = absurd (i.0 m)
known_one at v r k l (bad_run n h i e) (bad_run x j m f) = e ∙ (ap Broken (refused_one JsonRun v at n x i m) ∙ sym f)

-- ---- what may go on

shape_space : (v r : List ℕ) → Shape v r → begins_space (v ++ r) ≡ false
unfolding is_mark
shape_space v r h = grind arith

pend_space : (at : ℕ) (v : List ℕ) (p : Pend) → IsPend at v p → begins_space v ≡ false
pend_space at v p h = grind arith

some_first : (w : List ℕ) → begins_run w ≡ true → w ≢ []
some_first w h e = true≢false (sym h ∙ ap begins_run e)

-- what may go on is no token
pend_no_token : (at : ℕ) (v r w : List ℕ) (p : Pend) → Shape v r → IsPend at w p → v ++ r ≡ w → ⊥
unfolding is_mark
pend_no_token at v r w pends.Nothing (marked b h e) k g = absurd (omega (arith, ap length (sym (mark_first v r b h e) ∙ (g ∙ k))))
pend_no_token at v r w pends.Nothing (quoted (u, e, h)) k g = absurd (omega (arith, ap length (sym (ap (λ z. z ++ r) e) ∙ (g ∙ k))))
pend_no_token at v r w pends.Nothing (bare h) k g = true≢false (sym (run_first v r h) ∙ ap (first_is is_run) (g ∙ k))
pend_no_token at v r w (pends.Run i) (marked b h e) (f, (k, ks)) g = mark_no_run b h (ap begins_run (sym (mark_first v r b h e) ∙ g) ∙ k)
pend_no_token at v r w (pends.Run i) (quoted (u, e, h)) (f, (k, ks)) g = true≢false (sym k ∙ ap begins_run (sym g ∙ ap (λ z. z ++ r) e))
pend_no_token at v r w (pends.Run i) (bare ((h, hs), l, m)) (f, (k, ks)) g = l (runs_one v w r [] hs ks (not-false _ m) refl (g ∙ sym (append-nil w))).1
pend_no_token at v r w (pends.Text i) (marked b h e) (f, u, j, k) g = true≢false (sym h ∙ ap is_mark (head_same b 0x22 r u (sym (mark_first v r b h e) ∙ (g ∙ j))))
pend_no_token at v r w (pends.Text i) (quoted (u, e, h)) (f, x, j, k) g = closes_stays InString u x r h k (tail_same 0x22 0x22 (u ++ r) x (sym (ap (λ z. z ++ r) e) ∙ (g ∙ j)))
pend_no_token at v r w (pends.Text i) (bare h) (f, u, j, k) g = true≢false (sym (run_first v r h) ∙ ap (first_is is_run) (g ∙ j))

pends_one : (at : ℕ) (v : List ℕ) (p q : Pend) → IsPend at v p → IsPend at v q → p ≡ q
pends_one at v p q h k = grind arith

-- ---- lists of items

token_one : (at : ℕ) (v r : List ℕ) (t u : Token) → IsToken at v r t → IsToken at v r u → t ≡ u
token_one at v r t u h k = grind (arith, known_one, kind_known)

abbrev SameItems : (ts us : List Token) (p q : Pend) → Type 0
SameItems ts us p q = (ts ≡ us) × (p ≡ q)

-- the white space, the token and what is behind it
split_one : (at : ℕ) (a v r b w s : List ℕ) (t u : Token) → AreSpaces a → AreSpaces b → IsToken (at + length a) v r t → IsToken (at + length b) w s u → a ++ (v ++ r) ≡ b ++ (w ++ s) → (t ≡ u) × (r ≡ s)
split_one at a v r b w s t u h k (e, f, i) (g, j, l) z =
    let x = kind_shape (at + length a) v r t.kind i in let y = kind_shape (at + length b) w s u.kind l in
    let (p, q) = spaces_one a b (v ++ r) (w ++ s) h k (shape_space v r x) (shape_space w s y) z in
    let (m, n) = shapes_one v r w s x y q in
    let P : List ℕ → List ℕ → List ℕ → Type 0 = λ c d o. IsToken (at + length c) d o u in
    (token_one (at + length a) v r t u (e, f, i) (subst (λ c. P c v r) (sym p) (subst (λ d. P b d r) (sym m) (subst (λ o. P b w o) (sym n) (g, j, l)))), n)

pub tokens_one : (at : ℕ) (w : List ℕ) (ts us : List Token) (p q : Pend) → AreTokens at w ts p → AreTokens at w us q → SameItems ts us p q
tokens_one at w [] [] p q (a, v, e, h, i) (b, x, f, k, j) =
    let (m, n) = spaces_one a b v x h k (pend_space (at + length a) v p i) (pend_space (at + length b) x q j) (sym e ∙ f) in
    (refl, pends_one (at + length a) v p q i (subst (λ c. IsPend (at + length c) v q) (sym m) (subst (λ d. IsPend (at + length b) d q) (sym n) j)))
tokens_one at w [] (u ∷ us) p q (a, v, e, h, i) (b, x, s, f, k, (g, j, l), z) =
    let y = kind_shape (at + length b) x s u.kind l in
    let (m, n) = spaces_one a b v (x ++ s) h k (pend_space (at + length a) v p i) (shape_space x s y) (sym e ∙ f) in
    absurd (pend_no_token (at + length a) x s v p y i (sym n))
tokens_one at w (t ∷ ts) [] p q (b, x, s, f, k, (g, j, l), z) (a, v, e, h, i) =
    let y = kind_shape (at + length b) x s t.kind l in
    let (m, n) = spaces_one a b v (x ++ s) h k (pend_space (at + length a) v q i) (shape_space x s y) (sym e ∙ f) in
    absurd (pend_no_token (at + length a) x s v q y i (sym n))
tokens_one at w (t ∷ ts) (u ∷ us) p q (a, v, r, e, h, i, z) (b, x, s, f, k, j, y) =
    let (m, n) = split_one at a v r b x s t u h k i j (sym e ∙ f) in
    let P : Token → List ℕ → Type 0 = λ c d. AreTokens c.to (left_behind c.kind d) us q in
    let (o, l) = tokens_one t.to (left_behind t.kind r) ts us p q z (subst (λ c. P c r) (sym m) (subst (P u) (sym n) y)) in
    (ap (λ c. c ∷ ts) m ∙ ap (λ c. u ∷ c) o, l)

-- ---- leads

out_lead : (at : ℕ) (u : List ℕ) (l : Lead) (r : List ℕ) → IsLead Out at u l r → AreRun u × (begins_run r ≡ false)
out_lead at u l r h = grind arith

out_leads : (at : ℕ) (u r : List ℕ) (k l : Lead) → IsLead Out at u k r → IsLead Out at u l r → k ≡ l
out_leads at u r k l h m = grind arith

-- in a string there are two leads
data InTextLead (s : Start) (at : ℕ) (u r : List ℕ) : Lead → Type 0 where
  ends_there : {l : Lead} (i : ℕ) → l ≡ leads.TextEnds i → i ≡ at + length u → ClosesText s u → InTextLead s at u r l
  all_there : {l : Lead} → l ≡ leads.AllText → StaysInText s u → r ≡ [] → InTextLead s at u r l

text_lead : (s : Start) (at : ℕ) (u : List ℕ) (l : Lead) (r : List ℕ) → s ≢ Out → IsLead s at u l r → InTextLead s at u r l
text_lead Out at u l r n h = absurd (n refl)
text_lead InString at u (leads.TextEnds i) r n (e, h) = ends_there i refl e h
text_lead InString at u leads.AllText r n (h, e) = all_there refl h e
text_lead InString at u (leads.RunEnds i) r n h = absurd h
text_lead InEscape at u (leads.TextEnds i) r n (e, h) = ends_there i refl e h
text_lead InEscape at u leads.AllText r n (h, e) = all_there refl h e
text_lead InEscape at u (leads.RunEnds i) r n h = absurd h
text_lead _ at u _ r n h = absurd h

abbrev SameLead : (u v r s : List ℕ) (k l : Lead) → Type 0
SameLead u v r s k l = (u ≡ v) × (r ≡ s) × (k ≡ l)

text_leads : (s : Start) (at : ℕ) (u v x y : List ℕ) (k l : Lead) → InTextLead s at u x k → InTextLead s at v y l → u ++ x ≡ v ++ y → SameLead u v x y k l
text_leads s at u v x y k l (ends_there i e f h) (ends_there j g m n) z = let (p, q) = closes_one s u v x y h n z in
    (p, q, e ∙ (ap leads.TextEnds (f ∙ (ap (λ c. at + length c) p ∙ sym m)) ∙ sym g))
text_leads s at u v x y k l (ends_there i e f h) (all_there g m n) z = absurd (closes_stays s u v x h m (z ∙ (ap (λ c. v ++ c) n ∙ append-nil v)))
text_leads s at u v x y k l (all_there g m n) (ends_there i e f h) z = absurd (closes_stays s v u y h m (sym z ∙ (ap (λ c. u ++ c) n ∙ append-nil u)))
text_leads s at u v x y k l (all_there g m n) (all_there e f h) z =
    (sym (append-nil u) ∙ (ap (λ c. u ++ c) (sym n) ∙ (z ∙ (ap (λ c. v ++ c) h ∙ append-nil v))), n ∙ sym h, g ∙ sym e)

leads_one : (s : Start) (at : ℕ) (u v x y : List ℕ) (k l : Lead) → IsLead s at u k x → IsLead s at v l y → u ++ x ≡ v ++ y → SameLead u v x y k l
leads_one s at u v x y k l h m n = grind (arith, out_lead, runs_one, out_leads, text_leads, text_lead)

-- a piece has one list of items
pub items_one : (s : Start) (at : ℕ) (w : List ℕ) (a b : Lexed) → HasItems s at w a → HasItems s at w b → a ≡ b
items_one s at w a b h k = grind (arith, leads_one, tokens_one)

-- ---- the steps of a reader

same_left : (a b : ℕ) (r s : List ℕ) (x y : Start) → a ≡ b → r ≡ s → x ≡ y → ◌≡◌ {A = Left} (record { at = a; rest = r; state = x }) (record { at = b; rest = s; state = y })
same_left a b r s x y e f g = cc

pub begun_one : (s : Start) (at : ℕ) (w : List ℕ) (k l : Lead) (m n : Left) → IsBegun s at w k m → IsBegun s at w l n → (k ≡ l) × (m ≡ n)
begun_one s at w k l m n h p = grind (arith, leads_one, same_left)

pub gives_one : (old : Left) (i j : Item) (m n : Left) → GivesItem old i m → GivesItem old j n → (i ≡ j) × (m ≡ n)
gives_one old (Whole t) (Whole u) m n (a, v, r, out, e, h, i, z) (b, x, s, outer, f, k, j, y) =
    let (p, q) = split_one old.at a v r b x s t u h k i j (sym e ∙ f) in
    (ap Whole p, z ∙ (same_left t.to u.to (left_behind t.kind r) (left_behind u.kind s) Out Out (ap (λ (c : Token). c.to) p) (ap (λ (c : Token). left_behind c.kind r) p ∙ ap (left_behind u.kind) q) refl ∙ sym y))
gives_one old (Whole t) (End q d) m n (b, x, s, out, f, k, (g, j, l), z) (a, v, e, h, i, state, y) =
    let c = kind_shape (old.at + length b) x s t.kind l in
    let (o, p) = spaces_one a b v (x ++ s) h k (pend_space (old.at + length a) v q i) (shape_space x s c) (sym e ∙ f) in
    absurd (pend_no_token (old.at + length a) x s v q c i (sym p))
gives_one old (End q d) (Whole t) m n (a, v, e, h, i, state, y) (b, x, s, out, f, k, (g, j, l), z) =
    let c = kind_shape (old.at + length b) x s t.kind l in
    let (o, p) = spaces_one a b v (x ++ s) h k (pend_space (old.at + length a) v q i) (shape_space x s c) (sym e ∙ f) in
    absurd (pend_no_token (old.at + length a) x s v q c i (sym p))
gives_one old (End p c) (End q d) m n (a, v, e, h, i, state, z) (b, x, f, k, j, last, y) =
    let (o, l) = spaces_one a b v x h k (pend_space (old.at + length a) v p i) (pend_space (old.at + length b) x q j) (sym e ∙ f) in
    let same : p ≡ q = pends_one (old.at + length a) v p q i (subst (λ g. IsPend (old.at + length g) v q) (sym o) (subst (λ g. IsPend (old.at + length b) g q) (sym l) j)) in
    (same_item p q c d same (state ∙ sym last), z ∙ sym y)
  where
    same_item : (x y : Pend) (s t : Start) → x ≡ y → s ≡ t → End x s ≡ End y t
    same_item x y s t e f = cc
