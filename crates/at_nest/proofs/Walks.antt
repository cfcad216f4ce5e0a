-- Where the pieces of a form lead, the machine for bytes goes; where a piece has no place, it stops at the first byte of the piece.
-- For `finish`, `finish_span`, `merge` and `run_block`.
use Rattle.std.proofs.Common.{◌≡◌, ℕ, ◌⊎◌, inl, inr, List, [], ◌∷◌, ◌++◌, Option, Some, None, option_and_then, true, false, not, ◌&&◌, refl, sym, ◌∙◌, ap, subst, arith, append_assoc, append-nil, ◌+◌, length, length-append}
use Rattle.std.proofs.lemmas.Bool.{not-true, and_right}
use Rattle.std.specs.Bool.{⊤}
use Rattle.at_lex.specs.Spans.{AreSpaces, begins_run}
use Rattle.at_nest.proofs.JsonMachine.{State, step}
use Rattle.at_nest.specs.Borders.{ends_run, are_apart}
use Rattle.at_nest.specs.Forms.{Meaning, Piece, Formed}
use Rattle.at_nest.proofs.Steps.{Settled, IsStill, is_clear, settled_run, settled_step, settled_still, still_space, still_settled, space_no_run, run_ended}
use Rattle.at_nest.proofs.Values.{go, run_then}
use Rattle.at_nest.specs.Walks.{next, kind_of, at_of, walks, walk_on, Walk, reached, refused}
use Rattle.at_nest.proofs.PieceSteps.{Goes, Halts, piece_goes, piece_halts, piece_first, piece_at, still_clear}

pub ends_append : (x : List ℕ) (c : ℕ) (u : List ℕ) → ends_run (x ++ (c ∷ u)) ≡ ends_run (c ∷ u)
ends_append (d ∷ (e ∷ x)) c u = ends_append (e ∷ x) c u
ends_append _ c u = refl

pub still_all : (t : State) (a : List ℕ) → IsStill t → AreSpaces a → go t a ≡ Some t
still_all t [] h s = refl
still_all t (b ∷ a) h (e, s) = ap (option_and_then (λ x. go x a)) (still_space t b h e) ∙ still_all t a h s

-- the machine goes through the bytes to what the grammar's state t is
pub record Reads (s t : State) (w : List ℕ) : Type 0 where
  pub last : State
  pub goes : go s w ≡ Some last
  pub settled : Settled last t
  pub clear : (x : List ℕ) → are_apart w x ≡ true → is_clear s (w ++ x) ≡ true → is_clear last x ≡ true

-- the machine stops at the byte whose offset is i, and no sooner
pub record Halted (s : State) (at : ℕ) (w : List ℕ) (i : ℕ) : Type 0 where
  pub before : List ℕ
  pub byte : ℕ
  pub others : List ℕ
  pub last : State
  pub split : w ≡ before ++ (byte ∷ others)
  pub place : i ≡ at + length before
  pub goes : go s before ≡ Some last
  pub halts : step last byte ≡ None

pub spaces_read : (s t : State) (a : List ℕ) → Settled s t → AreSpaces a → Reads s t a
spaces_read s t [] h sp = record { last = s; goes = refl; settled = h; clear = λ x k c. c }
spaces_read s t (b ∷ a) h (e, sp) = let i : IsStill t = settled_still s t h in record {
  last = t;
  goes = ap (option_and_then (λ x. go x a)) (settled_step s t b h (and_right (run_ended s) _ (space_no_run b e)) ∙ still_space t b i e) ∙ still_all t a i sp;
  settled = still_settled t i;
  clear = λ x k c. still_clear t x i;
}

pub apart_nil : (a : List ℕ) (c : ℕ) (u x : List ℕ) → are_apart (a ++ ((c ∷ u) ++ [])) x ≡ true → are_apart (c ∷ u) x ≡ true
apart_nil a c u x h = ap (λ b. not (b && begins_run x)) (sym (ends_append a c u) ∙ ap (λ z. ends_run (a ++ z)) (sym (append-nil (c ∷ u)))) ∙ h

pub apart_more : (a v : List ℕ) (d : ℕ) (r x : List ℕ) → are_apart (a ++ (v ++ (d ∷ r))) x ≡ true → are_apart (d ∷ r) x ≡ true
apart_more a v d r x h = ap (λ b. not (b && begins_run x)) (sym (ends_append (a ++ v) d r) ∙ ap ends_run (append_assoc a v (d ∷ r))) ∙ h

-- apart from what is behind, and clear of it, past the white space, the piece, and the rest
pub clear_on : (s : State) (a v r x : List ℕ) (c : ℕ) (u : List ℕ) → v ≡ c ∷ u → ((y : List ℕ) → are_apart v y ≡ true → is_clear s y ≡ true) → are_apart v r ≡ true
    → are_apart (a ++ (v ++ r)) x ≡ true → (are_apart r x ≡ true) × (is_clear s (r ++ x) ≡ true)
clear_on s a v [] x c u e f p h = (refl, f x (ap (λ z. are_apart z x) e ∙ apart_nil a c u x (ap (λ z. are_apart (a ++ (z ++ [])) x) (sym e) ∙ h)))
clear_on s a v (d ∷ r) x c u e f p h = (apart_more a v d r x h, f (d ∷ r) p)

pub spaces_end : (a : List ℕ) → AreSpaces a → ends_run a ≡ false
spaces_end [] h = refl
spaces_end (b ∷ []) (e, h) = space_no_run b e
spaces_end (b ∷ (c ∷ a)) (e, h) = spaces_end (c ∷ a) h

pub spaces_apart : (a x : List ℕ) → AreSpaces a → are_apart a x ≡ true
spaces_apart a x h = ap (λ b. not (b && begins_run x)) (spaces_end a h)

-- a settled state and the grammar's one go the same way
pub swap : (s t : State) (v r : List ℕ) (c : ℕ) (u : List ℕ) → v ≡ c ∷ u → Settled s t → is_clear s (v ++ r) ≡ true → go s (v ++ r) ≡ go t (v ++ r)
swap s t v r c u e h g = ap (λ z. go s (z ++ r)) e ∙ (settled_run s t [] c (u ++ r) h tt (ap (λ z. is_clear s (z ++ r)) (sym e) ∙ g) ∙ ap (λ z. go t (z ++ r)) (sym e))

reads_more : (s s1 s2 t : State) (a v r : List ℕ) (c : ℕ) (u : List ℕ) → AreSpaces a → v ≡ c ∷ u → are_apart v r ≡ true → is_clear s (a ++ (v ++ r)) ≡ true
    → Reads s s1 a → Goes s1 s2 v → ((b : State) → Settled b s2 → is_clear b r ≡ true → Reads b t r) → Reads s t (a ++ (v ++ r))
reads_more s s1 s2 t a v r c u ha e p q h g more =
    let rest : Reads g.last t r = more g.last g.settled (g.clear r p) in
    let clear1 : is_clear h.last (v ++ r) ≡ true = h.clear (v ++ r) (spaces_apart a (v ++ r) ha) q in
    record {
      last = rest.last;
      goes = run_then s h.last a (v ++ r) h.goes ∙ (swap h.last s1 v r c u e h.settled clear1 ∙ (run_then s1 g.last v r g.goes ∙ rest.goes));
      settled = rest.settled;
      clear = λ x hx cx. let (i, j) = clear_on g.last a v r x c u e g.clear p hx in rest.clear x i j;
    }

pub no_walk : (i : ℕ) (t : State) → refused i ≡ reached t → ⊥
no_walk i t e = let P : Walk → Type 0 = λ x. elim x [ refused j ↦ ⊤ | reached u ↦ ⊥ ] in subst P e tt

pub no_refusal : (i : ℕ) (t : State) → reached t ≡ refused i → ⊥
no_refusal i t e = no_walk i t (sym e)

pub reached_is : (s t : State) → reached s ≡ reached t → s ≡ t
reached_is s t e = let f : Walk → State = λ x. elim x [ refused j ↦ s | reached u ↦ u ] in ap f e

pub refused_is : (i j : ℕ) → refused i ≡ refused j → i ≡ j
refused_is i j e = let f : Walk → ℕ = λ x. elim x [ refused k ↦ k | reached u ↦ i ] in ap f e

halts_here : (s s1 : State) (at : ℕ) (a v r : List ℕ) → AreSpaces a → is_clear s (a ++ (v ++ r)) ≡ true → Reads s s1 a → Halts s1 v → Halted s at (a ++ (v ++ r)) (at + length a)
halts_here s s1 at a v r ha q h k = record {
  before = a;
  byte = k.byte;
  others = k.others ++ r;
  last = h.last;
  split = ap (λ z. a ++ (z ++ r)) k.split;
  place = refl;
  goes = h.goes;
  halts = settled_step h.last s1 k.byte h.settled (not-true _ (h.clear ((k.byte ∷ k.others) ++ r) (spaces_apart a ((k.byte ∷ k.others) ++ r) ha) (ap (λ z. is_clear s (a ++ (z ++ r))) (sym k.split) ∙ q))) ∙ k.halts;
}

shift : (at i : ℕ) (a v b : List ℕ) → i ≡ at + length a + length v + length b → i ≡ at + length (a ++ (v ++ b))
shift at i a v b e = let f : length (a ++ (v ++ b)) ≡ length a + (length v + length b) = length-append a (v ++ b) ∙ ap (λ n. length a + n) (length-append v b) in omega (arith, e, f)

halts_later : (s s1 s2 : State) (at : ℕ) (a v r : List ℕ) (c : ℕ) (u : List ℕ) (i : ℕ) → AreSpaces a → v ≡ c ∷ u → are_apart v r ≡ true → is_clear s (a ++ (v ++ r)) ≡ true
    → Reads s s1 a → Goes s1 s2 v → ((b : State) → Settled b s2 → is_clear b r ≡ true → Halted b (at + length a + length v) r i) → Halted s at (a ++ (v ++ r)) i
halts_later s s1 s2 at a v r c u i ha e p q h g more =
    let rest : Halted g.last (at + length a + length v) r i = more g.last g.settled (g.clear r p) in
    let clear1 : is_clear h.last (v ++ r) ≡ true = h.clear (v ++ r) (spaces_apart a (v ++ r) ha) q in
    record {
      before = a ++ (v ++ rest.before);
      byte = rest.byte;
      others = rest.others;
      last = rest.last;
      split = ap (λ z. a ++ (v ++ z)) rest.split ∙ (ap (λ z. a ++ z) (sym (append_assoc v rest.before (rest.byte ∷ rest.others))) ∙ sym (append_assoc a (v ++ rest.before) (rest.byte ∷ rest.others)));
      place = shift at i a v rest.before rest.place;
      goes = run_then s h.last a (v ++ rest.before) h.goes ∙ (swap h.last s1 v rest.before c u e h.settled (begins_same h.last v r rest.before c u e clear1) ∙ (run_then s1 g.last v rest.before g.goes ∙ rest.goes));
      halts = rest.halts;
    }
  where
    begins_same : (b : State) (v r x : List ℕ) (c : ℕ) (u : List ℕ) → v ≡ c ∷ u → is_clear b (v ++ r) ≡ true → is_clear b (v ++ x) ≡ true
    begins_same b v r x c u e h = ap (λ z. is_clear b (z ++ x)) e ∙ (ap (λ z. is_clear b (z ++ r)) (sym e) ∙ h)

pub cases : (o : Option State) → (o ≡ None) ⊎ ((t : State) × (o ≡ Some t))
cases None = inl refl
cases (Some t) = inr (t, refl)

-- where the form leads to t, so do its bytes, from each state that is settled as the first one
pub walk_reads : {X : Type 0} (m : Meaning X) (ps : List (Piece X)) (at : ℕ) (w : List ℕ) (s s1 t : State) → Settled s s1 → is_clear s w ≡ true → Formed m at w ps → walks s1 ps ≡ reached t → Reads s t w
walk_reads m [] at w s s1 t h q f e = spaces_read s t w (subst (Settled s) (reached_is s1 t e) h) f
walk_reads m (p ∷ ps) at w s s1 t h q (a, v, r, d, ha, hp, hap, hf) e = subst (Reads s t) (sym d) (elim (cases (next s1 (kind_of p))) [
  | inl n ↦ absurd (no_walk _ t (sym (ap (λ o. walk_on o (at_of p) (λ x. walks x ps)) n) ∙ e))
  | inr (s2, n) ↦ (let (c, u, k) = piece_first m (at + length a) v p hp in
      reads_more s s1 s2 t a v r c u ha k hap (ap (is_clear s) (sym d) ∙ q) (spaces_read s s1 a h ha) (piece_goes m s1 s2 (at + length a) v p (settled_still s s1 h) hp n)
      (λ b hb cb. walk_reads m ps (at + length a + length v) r b s2 t hb cb hf (sym (ap (λ o. walk_on o (at_of p) (λ x. walks x ps)) n) ∙ e)))
])

-- where a piece of the form has no place, the machine stops at its first byte
pub walk_halts : {X : Type 0} (m : Meaning X) (ps : List (Piece X)) (at : ℕ) (w : List ℕ) (s s1 : State) (i : ℕ) → Settled s s1 → is_clear s w ≡ true → Formed m at w ps → walks s1 ps ≡ refused i → Halted s at w i
walk_halts m [] at w s s1 i h q f e = absurd (no_refusal i s1 e)
walk_halts m (p ∷ ps) at w s s1 i h q (a, v, r, d, ha, hp, hap, hf) e = subst (λ z. Halted s at z i) (sym d) (elim (cases (next s1 (kind_of p))) [
  | inl n ↦ (let here : at + length a ≡ i = sym (piece_at m (at + length a) v p hp) ∙ refused_is (at_of p) i (sym (ap (λ o. walk_on o (at_of p) (λ x. walks x ps)) n) ∙ e) in
      subst (λ j. Halted s at (a ++ (v ++ r)) j) here
      (halts_here s s1 at a v r ha (ap (is_clear s) (sym d) ∙ q) (spaces_read s s1 a h ha) (piece_halts m s1 (at + length a) v p (settled_still s s1 h) hp n)))
  | inr (s2, n) ↦ (let (c, u, k) = piece_first m (at + length a) v p hp in
      halts_later s s1 s2 at a v r c u i ha k hap (ap (is_clear s) (sym d) ∙ q) (spaces_read s s1 a h ha) (piece_goes m s1 s2 (at + length a) v p (settled_still s s1 h) hp n)
      (λ b hb cb. walk_halts m ps (at + length a + length v) r b s2 i hb cb hf (sym (ap (λ o. walk_on o (at_of p) (λ x. walks x ps)) n) ∙ e)))
])
