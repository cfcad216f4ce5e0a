-- Forms of joined bytes, where forms may be cut, and what viable bytes say of the machine.
-- For `finish`, `finish_span`, `merge` and `run_block`.
use Rattle.std.proofs.Common.{◌≡◌, ℕ, List, [], ◌∷◌, ◌++◌, Some, option_and_then, true, false, not, ◌&&◌, refl, sym, ◌∙◌, ap, subst, arith, append_assoc, append-nil, ◌+◌, length, length-append}
use Rattle.std.proofs.lemmas.Bool.{and_right}
use Rattle.std.proofs.lemmas.Option.{option_and_then_some}
use Rattle.at_text.specs.Prefix.{Viable}
use Rattle.at_text.specs.Texts.{is_space}
use Rattle.at_lex.specs.declared.tokens.Start.{Start}
use Rattle.at_lex.specs.declared.tokens.Start.TheVariants.{Out}
use Rattle.at_lex.specs.declared.tokens.Bracket.TheVariants.{Square}
use Rattle.at_lex.specs.Spans.{AreSpaces, begins_run, after_byte, end_of}
use Rattle.at_nest.specs.Syntax.{JsonText}
use Rattle.at_nest.proofs.JsonMachine.{State, value, after, step}
use Rattle.at_nest.proofs.Accepted.{Acc, accepted-JsonText}
use Rattle.at_nest.specs.Borders.{ends_run, are_apart}
use Rattle.at_nest.specs.Forms.{Meaning, Piece, quoted, entry, opens, closes, mark, IsPiece, Formed}
use Rattle.at_nest.proofs.Values.{go, Enters, value_enters, value_at, string_enters}
use Rattle.at_nest.proofs.Walks.{ends_append, apart_more}
use Rattle.at_nest.proofs.PieceSteps.{piece_first}
use Rattle.at_nest.proofs.Lexical.{at_run, settled_out}

-- ---- apartness

pub apart_nothing : (v : List ℕ) → are_apart v [] ≡ true
apart_nothing v = ap not (and_right (ends_run v) false refl)

-- what begins alike is apart alike
pub apart_front : (v r x : List ℕ) → are_apart v (r ++ x) ≡ true → are_apart v r ≡ true
apart_front v [] x h = apart_nothing v
apart_front v (d ∷ r) x h = h

apart_ends : (u v r x : List ℕ) (c : ℕ) → v ≡ c ∷ u → (a : List ℕ) → are_apart (a ++ (v ++ [])) x ≡ true → are_apart v x ≡ true
apart_ends u v r x c e a h = let f : ends_run (a ++ (v ++ [])) ≡ ends_run v = ap (λ z. ends_run (a ++ z)) (append-nil v) ∙ (ap (λ z. ends_run (a ++ z)) e ∙ (ends_append a c u ∙ ap ends_run (sym e))) in
    ap (λ b. not (b && begins_run x)) (sym f) ∙ h

-- past the white space and the piece, and the rest of the bytes, x is behind
pub apart_behind : (a v r x : List ℕ) (c : ℕ) (u : List ℕ) → v ≡ c ∷ u → are_apart v r ≡ true → are_apart (a ++ (v ++ r)) x ≡ true → are_apart v (r ++ x) ≡ true
apart_behind a v [] x c u e h k = apart_ends u v [] x c e a k
apart_behind a v (d ∷ r) x c u e h k = h

pub apart_rest : (a v r x : List ℕ) → are_apart (a ++ (v ++ r)) x ≡ true → are_apart r x ≡ true
apart_rest a v [] x h = refl
apart_rest a v (d ∷ r) x h = apart_more a v d r x h

pub apart_join : (a v r x : List ℕ) (c : ℕ) (u : List ℕ) → v ≡ c ∷ u → are_apart v (r ++ x) ≡ true → are_apart r x ≡ true → are_apart (a ++ (v ++ r)) x ≡ true
apart_join a v [] x c u e h k = let f : ends_run (a ++ (v ++ [])) ≡ ends_run v = ap (λ z. ends_run (a ++ z)) (append-nil v) ∙ (ap (λ z. ends_run (a ++ z)) e ∙ (ends_append a c u ∙ ap ends_run (sym e))) in
    ap (λ b. not (b && begins_run x)) f ∙ h
apart_join a v (d ∷ r) x c u e h k = ap (λ b. not (b && begins_run x)) (ap ends_run (sym (append_assoc a v (d ∷ r))) ∙ ends_append (a ++ v) d r) ∙ k

-- ---- forms of joined bytes

pub spaces_join : (a b : List ℕ) → AreSpaces a → AreSpaces b → AreSpaces (a ++ b)
spaces_join [] b h k = k
spaces_join (c ∷ a) b (h, hs) k = (h, spaces_join a b hs k)

pub at_end : (at : ℕ) (a b : List ℕ) → at + length a + length b ≡ at + length (a ++ b)
at_end at a b = let f : length (a ++ b) ≡ length a + length b = length-append a b in omega (arith, f)

pub at_end3 : (at : ℕ) (a v r : List ℕ) → at + length (a ++ (v ++ r)) ≡ at + length a + length v + length r
at_end3 at a v r = let f : length (a ++ (v ++ r)) ≡ length a + length (v ++ r) = length-append a (v ++ r) in let g : length (v ++ r) ≡ length v + length r = length-append v r in omega (arith, f, g)

-- white space in front of a form
pub spaces_form : {X : Type 0} (m : Meaning X) (at : ℕ) (w x : List ℕ) (qs : List (Piece X)) → AreSpaces w → Formed m (at + length w) x qs → Formed m at (w ++ x) qs
spaces_form m at w x [] h f = spaces_join w x h f
spaces_form m at w x (q ∷ qs) h (a, v, r, e, ha, hp, hap, hf) =
    (w ++ a, v, r, ap (λ z. w ++ z) e ∙ sym (append_assoc w a (v ++ r)), spaces_join w a h ha, subst (λ n. IsPiece m n v q) (at_end at w a) hp, hap, subst (λ n. Formed m (n + length v) r qs) (at_end at w a) hf)

pub formed_append : {X : Type 0} (m : Meaning X) (at : ℕ) (w x : List ℕ) (ps qs : List (Piece X)) → Formed m at w ps → Formed m (at + length w) x qs → are_apart w x ≡ true → Formed m at (w ++ x) (ps ++ qs)
formed_append m at w x [] qs f g h = spaces_form m at w x qs f g
formed_append m at w x (p ∷ ps) qs (a, v, r, e, ha, hp, hap, hf) g h = let (c, u, k) = piece_first m (at + length a) v p hp in
    let h1 : are_apart (a ++ (v ++ r)) x ≡ true = ap (λ z. are_apart z x) (sym e) ∙ h in (
      a,
      v,
      r ++ x,
      ap (λ z. z ++ x) e ∙ (append_assoc a (v ++ r) x ∙ ap (λ z. a ++ z) (append_assoc v r x)),
      ha,
      hp,
      apart_behind a v r x c u k hap h1,
      formed_append m (at + length a + length v) r x ps qs hf (subst (λ n. Formed m n x qs) (ap (λ z. at + length z) e ∙ at_end3 at a v r) g) (apart_rest a v r x h1),
    )

-- a form is cut where two lists of pieces meet
pub record Cut {X : Type 0} (m : Meaning X) (at : ℕ) (w : List ℕ) (ps qs : List (Piece X)) : Type 0 where
  pub front : List ℕ
  pub back : List ℕ
  pub split : w ≡ front ++ back
  pub first : Formed m at front ps
  pub second : Formed m (at + length front) back qs
  pub apart : are_apart front back ≡ true

pub formed_cut : {X : Type 0} (m : Meaning X) (at : ℕ) (w : List ℕ) (ps qs : List (Piece X)) → Formed m at w (ps ++ qs) → Cut m at w ps qs
formed_cut m at w [] qs f = record { front = []; back = w; split = refl; first = tt; second = (let e : at ≡ at + 0 = omega arith in subst (λ n. Formed m n w qs) e f); apart = refl }
formed_cut m at w (p ∷ ps) qs (a, v, r, e, ha, hp, hap, hf) = let c : Cut m (at + length a + length v) r ps qs = formed_cut m (at + length a + length v) r ps qs hf in let (d, u, k) = piece_first m (at + length a) v p hp in
    let apart1 : are_apart v (c.front ++ c.back) ≡ true = ap (are_apart v) (sym c.split) ∙ hap in
    record {
      front = a ++ (v ++ c.front);
      back = c.back;
      split = e ∙ (ap (λ z. a ++ (v ++ z)) c.split ∙ sym (append_assoc a (v ++ c.front) c.back ∙ ap (λ z. a ++ z) (append_assoc v c.front c.back)));
      first = (a, v, c.front, refl, ha, hp, apart_front v c.front c.back apart1, c.first);
      second = subst (λ n. Formed m n c.back qs) (sym (at_end3 at a v c.front)) c.second;
      apart = apart_join a v c.front c.back d u k apart1 c.apart;
    }

-- ---- the lexical state behind a form

pub end_append : (s : Start) (x y : List ℕ) → end_of s (x ++ y) ≡ end_of (end_of s x) y
end_append s [] y = refl
end_append s (b ∷ x) y = end_append (after_byte s b) x y

pub spaces_out : (a : List ℕ) → AreSpaces a → end_of Out a ≡ Out
spaces_out [] h = refl
spaces_out (b ∷ a) (e, h) = ap (λ s. end_of s a) (out_space b e) ∙ spaces_out a h
  where
    out_space : (b : ℕ) → is_space b ≡ true → after_byte Out b ≡ Out
    out_space b e = grind (arith, e)

enters_out : (v : List ℕ) → Enters [] v → end_of Out v ≡ Out
enters_out v h = settled_out h.last (after []) h.settled (end_of Out v) (at_run (value []) h.last v Out refl (ap (go (value [])) (sym (append-nil v)) ∙ value_at [] v [] h))

piece_out : {X : Type 0} (m : Meaning X) (at : ℕ) (v : List ℕ) (p : Piece X) → IsPiece m at v p → end_of Out v ≡ Out
piece_out m at v (mark (quoted i cs)) (f, (k, e)) = enters_out v (string_enters [] v (cs, k, e))
piece_out m at v (mark (entry i x)) (f, y, sp, n, e) = enters_out v (value_enters y [] at v sp)
piece_out m at v (opens Square i) h = ap (end_of Out) h.1
piece_out m at v (closes Square i) h = ap (end_of Out) h.1
piece_out m at v _ h = ap (end_of Out) h.1

pub formed_out : {X : Type 0} (m : Meaning X) (at : ℕ) (w : List ℕ) (ps : List (Piece X)) → Formed m at w ps → end_of Out w ≡ Out
formed_out m at w [] f = spaces_out w f
formed_out m at w (p ∷ ps) (a, v, r, e, ha, hp, hap, hf) =
    ap (end_of Out) e ∙ (end_append Out a (v ++ r) ∙ (ap (λ s. end_of s (v ++ r)) (spaces_out a ha) ∙ (end_append Out v r ∙ (ap (λ s. end_of s r) (piece_out m (at + length a) v p hp) ∙ formed_out m (at + length a + length v) r ps hf))))

-- ---- viable bytes and the machine

pub run_split : (s t : State) (x y : List ℕ) → go s (x ++ y) ≡ Some t → (q : State) × (go s x ≡ Some q) × (go q y ≡ Some t)
run_split s t [] y e = (s, refl, e)
run_split s t (b ∷ x) y e = option_and_then_some (λ z. go z (x ++ y)) (step s b) t e
    (λ v f g. let (q, h, k) = run_split v t x y g in (q, ap (option_and_then (λ z. go z x)) f ∙ h, k))

pub accepted_run : (s : State) (u v : List ℕ) → Acc s (u ++ v) → (t : State) × (go s u ≡ Some t) × Acc t v
accepted_run s [] v h = (s, refl, h)
accepted_run s (b ∷ u) v (t, e, r) = let (q, f, k) = accepted_run t u v r in (q, ap (option_and_then (λ z. go z u)) e ∙ f, k)

pub viable_runs : (w : List ℕ) → Viable (JsonText 0) w → (t : State) × (go (value []) w ≡ Some t)
viable_runs w (v, h) = let (t, e, k) = accepted_run (value []) w v ((accepted-JsonText 0 (w ++ v)).1 h) in (t, e)

-- ---- two splits at one place

pub same_split : (x y : List ℕ) (a b : ℕ) (u v : List ℕ) → x ++ (a ∷ u) ≡ y ++ (b ∷ v) → length x ≡ length y → (x ≡ y) × (a ≡ b)
same_split [] [] a b u v e h = (refl, cc)
same_split (c ∷ x) (d ∷ y) a b u v e h = let rest : x ++ (a ∷ u) ≡ y ++ (b ∷ v) = cc in let (f, g) = same_split x y a b u v rest (omega (arith, h)) in (cc, g)
same_split _ _ a b u v e h = absurd (omega (arith, h))
