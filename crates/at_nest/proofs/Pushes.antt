-- What is pushed behind a form keeps it, or shows a byte that nothing before can make viable.
-- For `finish`, `finish_span`, `merge` and `run_block`.
use Rattle.std.proofs.Common.{◌≡◌, ℕ, List, [], ◌∷◌, ◌++◌, Option, Some, None, option_map, option_and_then, Bool, true, false, cond, not, ◌&&◌, refl, sym, ◌∙◌, ap, subst, arith, append_assoc, append-nil, ◌+◌, length, length-append}
use Rattle.std.proofs.lemmas.Option.{none-some, same_Some, option_and_then_some}
use Rattle.at_text.specs.Prefix.{Viable}
use Rattle.at_text.proofs.Machine.{run}
use Rattle.at_lex.specs.declared.tokens.Start.TheVariants.{Out}
use Rattle.at_lex.specs.declared.tokens.Bracket.{Bracket}
use Rattle.at_lex.specs.declared.tokens.Bracket.TheVariants.{Brace, Square}
use Rattle.at_lex.specs.Spans.{AreSpaces, begins_run, end_of, opening, closing}
use Rattle.at_nest.specs.Syntax.{JsonText}
use Rattle.at_nest.proofs.JsonMachine.{State, Frame, value, after, step}
use Rattle.at_nest.specs.Borders.{ends_run, are_apart}
use Rattle.at_nest.specs.Forms.{Meaning, Mark, Piece, comma as a_comma, entry, opens, closes, mark, IsMark, Formed}
use Rattle.at_nest.proofs.Steps.{IsStill, still_settled}
use Rattle.at_nest.proofs.Values.{go}
use Rattle.at_nest.specs.Walks.{a_closer, mark_kind, mark_at, kind_of, at_of, next, walks, walk_on, refused}
use Rattle.at_nest.proofs.PieceSteps.{piece_first, piece_at, still_clear}
use Rattle.at_nest.proofs.Walks.{Halted, walk_halts, ends_append}
use Rattle.at_nest.proofs.Lexical.{At, at_run, opens_square, opens_brace}
use Rattle.at_nest.proofs.Joins.{Cut, formed_cut, formed_append, formed_out, end_append, run_split, viable_runs, same_split, apart_front, spaces_out}
use Rattle.at_nest.specs.Levels.{Mode, at_items, at_value, at_after, at_members, at_name, at_colon, at_member, at_further, full, first_mode, move, closes_at, moves, built, Level, Form, marks, opened, pieces_of, plain_halt, with_mark, push_mark, close_level, push_close, push}
use Rattle.at_nest.proofs.Spelled.{level_spelled}
pub use Rattle.at_nest.specs.Stops.{IsDeadHere, AreLevels, IsForm, IsRunBegun, IsTextBegun, IsBegun, IsStop, IsPushed}

-- ---- the grammar's states in a level, whatever is open below

full_next : {X : Type 0} (md : Mode) (st : List Frame) (x : Mark X) → next (full md st) (mark_kind x) ≡ option_map (λ n. full n st) (move md (mark_kind x))
full_next at_items st (a_comma i) = refl
full_next at_value st (a_comma i) = refl
full_next at_after st (a_comma i) = refl
full_next at_members st (a_comma i) = refl
full_next at_name st (a_comma i) = refl
full_next at_colon st (a_comma i) = refl
full_next at_member st (a_comma i) = refl
full_next at_further st (a_comma i) = refl
full_next _ st _ = refl

full_closes : (md : Mode) (st : List Frame) (b : Bracket) → next (full md st) (a_closer b) ≡ cond (closes_at md b) (Some (after st)) None
full_closes at_items st Square = refl
full_closes at_value st Square = refl
full_closes at_after st Square = refl
full_closes at_members st Square = refl
full_closes at_name st Square = refl
full_closes at_colon st Square = refl
full_closes at_member st Square = refl
full_closes at_further st Square = refl
full_closes _ st _ = refl

full_still : (md : Mode) (st : List Frame) → IsStill (full md st)
full_still at_items st = tt
full_still _ st = tt

pub moves_walk : {X : Type 0} (xs : List (Mark X)) (md n : Mode) (st : List Frame) (ps : List (Piece X)) → moves md xs ≡ Some n → walks (full md st) (marks xs ++ ps) ≡ walks (full n st) ps
moves_walk [] md n st ps e = ap (λ x. walks (full x st) ps) (same_Some md n e)
moves_walk (x ∷ xs) md n st ps e = option_and_then_some (λ z. moves z xs) (move md (mark_kind x)) n e (λ v f g.
    ap (λ o. walk_on o (mark_at x) (λ s. walks s (marks xs ++ ps))) (full_next md st x ∙ ap (option_map (λ n. full n st)) f) ∙ moves_walk xs v n st ps g)

level_refuses : {X : Type 0} (xs : List (Mark X)) (md n : Mode) (st : List Frame) (p : Piece X) → moves md xs ≡ Some n → next (full n st) (kind_of p) ≡ None → walks (full md st) (marks xs ++ (p ∷ [])) ≡ refused (at_of p)
level_refuses {X} xs md n st p e h = moves_walk xs md n st (p ∷ []) e ∙ ap (λ o. walk_on o (at_of p) (λ s. walks {X = X} s [])) h

-- ---- a byte that no bytes before make viable

opens_level : (b : Bracket) (q t : State) → At q Out → step q (opening b) ≡ Some t → (st : List Frame) × (t ≡ full (first_mode b) st)
opens_level Square q t h e = opens_square q t h e
opens_level Brace q t h e = opens_brace q t h e

pub same_length : (i k : ℕ) (x y : List ℕ) → i ≡ k + length x → i ≡ k + length y → length x ≡ length y
same_length i k x y e f = omega (arith, e, f)

pub halts_after : (s l t : State) (x : List ℕ) (b : ℕ) → go s x ≡ Some l → step l b ≡ None → go s (x ++ (b ∷ [])) ≡ Some t → ⊥
halts_after s l t x b e f g = let (q, h, k) = run_split s t x (b ∷ []) g in
    let same : q ≡ l = same_Some q l (sym h ∙ e) in
    let none : step q b ≡ None = ap (λ z. step z b) same ∙ f in
    none-some t (sym (ap (option_and_then (λ z. Some z)) none) ∙ k)

halted_none : (s t : State) (k i : ℕ) (r before : List ℕ) (byte : ℕ) (others : List ℕ) → r ≡ before ++ (byte ∷ others) → i ≡ k + length before → Halted s k r i → go s (before ++ (byte ∷ [])) ≡ Some t → ⊥
halted_none s t k i r before byte others e f h g =
    let (same_before, same_byte) = same_split before h.before byte h.byte others h.others (sym e ∙ h.split) (same_length i k before h.before f h.place) in
    halts_after s h.last t h.before h.byte h.goes h.halts (ap (go s) (sym (ap (λ z. z ++ (byte ∷ [])) same_before ∙ ap (λ z. h.before ++ (z ∷ [])) same_byte)) ∙ g)

-- an opening bracket outside text, and then bytes that the level's states refuse
level_dead : (b : Bracket) (u r before : List ℕ) (byte : ℕ) (others : List ℕ) (k i : ℕ) → end_of Out u ≡ Out → r ≡ before ++ (byte ∷ others) → i ≡ k + length before
    → ((st : List Frame) → Halted (full (first_mode b) st) k r i) → (x : List ℕ) → end_of Out x ≡ Out → ¬ (Viable (JsonText 0) (x ++ (u ++ (opening b ∷ (before ++ (byte ∷ []))))))
level_dead b u r before byte others k i out e f halt x xout viable =
    let (t, run) = viable_runs (x ++ (u ++ (opening b ∷ (before ++ (byte ∷ []))))) viable in
    let (q1, e1, g1) = run_split (value []) t x (u ++ (opening b ∷ (before ++ (byte ∷ [])))) run in
    let (q2, e2, g2) = run_split q1 t u (opening b ∷ (before ++ (byte ∷ []))) g1 in
    let at1 : At q1 Out = subst (At q1) xout (at_run (value []) q1 x Out refl e1) in
    let at2 : At q2 Out = subst (At q2) out (at_run q1 q2 u Out at1 e2) in
    option_and_then_some (λ z. go z (before ++ (byte ∷ []))) (step q2 (opening b)) t g2 (λ q3 f3 g3.
    let (st, is_full) = opens_level b q2 q3 at2 f3 in
    halted_none (full (first_mode b) st) t k i r before byte others e f (halt st) (ap (λ z. go z (before ++ (byte ∷ []))) (sym is_full) ∙ g3))

dead_split : (w f y a v r x : List ℕ) (b c : ℕ) (o : List ℕ) → w ≡ f ++ y → y ≡ a ++ (v ++ r) → v ≡ b ∷ [] → r ≡ x ++ (c ∷ o) → w ≡ ((f ++ a) ++ (b ∷ x)) ++ (c ∷ o)
dead_split w f y a v r x b c o e1 e2 e3 e4 = e1 ∙ (ap (λ z. f ++ z) (e2 ∙ (ap (λ z. a ++ (z ++ r)) e3 ∙ ap (λ z. a ++ (b ∷ z)) e4)) ∙ (sym (append_assoc f a (b ∷ (x ++ (c ∷ o)))) ∙ sym (append_assoc (f ++ a) (b ∷ x) (c ∷ o))))

dead_place : (at i : ℕ) (f a v x : List ℕ) (b : ℕ) → v ≡ b ∷ [] → i ≡ at + length f + length a + length v + length x → i ≡ at + length ((f ++ a) ++ (b ∷ x))
dead_place at i f a v x b e h = let p : length ((f ++ a) ++ (b ∷ x)) ≡ length (f ++ a) + length (b ∷ x) = length-append (f ++ a) (b ∷ x) in let q : length (f ++ a) ≡ length f + length a = length-append f a in
    let n : length v ≡ 1 = ap (λ z. length z) e in omega (arith, h, p, q, n)

out_join : (f a : List ℕ) → end_of Out f ≡ Out → AreSpaces a → end_of Out (f ++ a) ≡ Out
out_join f a h k = end_append Out f a ∙ (ap (λ z. end_of z a) h ∙ spaces_out a k)

dead_by : (b : Bracket) (at i : ℕ) (w f y a v r : List ℕ) (h : Halted (full (first_mode b) []) (at + length f + length a + length v) r i) → ((st : List Frame) → Halted (full (first_mode b) st) (at + length f + length a + length v) r i)
    → w ≡ f ++ y → y ≡ a ++ (v ++ r) → v ≡ opening b ∷ [] → end_of Out f ≡ Out → AreSpaces a → IsDeadHere at w i
dead_by b at i w f y a v r h halt e1 e2 e3 out ha = record {
  before = (f ++ a) ++ (opening b ∷ h.before);
  byte = h.byte;
  others = h.others;
  split = dead_split w f y a v r h.before (opening b) h.byte h.others e1 e2 e3 h.split;
  place = dead_place at i f a v h.before (opening b) e3 h.place;
  dead = λ x xout xapart viable.
      let same : ((f ++ a) ++ (opening b ∷ h.before)) ++ (h.byte ∷ []) ≡ (f ++ a) ++ (opening b ∷ (h.before ++ (h.byte ∷ []))) = append_assoc (f ++ a) (opening b ∷ h.before) (h.byte ∷ []) in
      level_dead b (f ++ a) r h.before h.byte h.others (at + length f + length a + length v) i (out_join f a out ha) h.split h.place halt x xout (subst (λ z. Viable (JsonText 0) (x ++ z)) same viable);
}

level_halts : {X : Type 0} (m : Meaning X) (k : ℕ) (r : List ℕ) (b : Bracket) (xs : List (Mark X)) (p : Piece X) (md : Mode) → Formed m k r (marks xs ++ (p ∷ [])) → moves (first_mode b) xs ≡ Some md
    → ((st : List Frame) → next (full md st) (kind_of p) ≡ None) → (st : List Frame) → Halted (full (first_mode b) st) k r (at_of p)
level_halts m k r b xs p md hf e refuses st = walk_halts m (marks xs ++ (p ∷ [])) k r (full (first_mode b) st) (full (first_mode b) st) (at_of p)
    (still_settled (full (first_mode b) st) (full_still (first_mode b) st)) (still_clear (full (first_mode b) st) r (full_still (first_mode b) st)) hf (level_refuses xs (first_mode b) md st p e (refuses st))

pub dead_level : {X : Type 0} (m : Meaning X) (at : ℕ) (w : List ℕ) (front : List (Piece X)) (b : Bracket) (i : ℕ) (xs : List (Mark X)) (p : Piece X) (md : Mode)
    → Formed m at w (front ++ (opens b i ∷ (marks xs ++ (p ∷ [])))) → moves (first_mode b) xs ≡ Some md → ((st : List Frame) → next (full md st) (kind_of p) ≡ None) → IsDeadHere at w (at_of p)
dead_level m at w front b i xs p md f e refuses =
    let c : Cut m at w front (opens b i ∷ (marks xs ++ (p ∷ []))) = formed_cut m at w front (opens b i ∷ (marks xs ++ (p ∷ []))) f in
    let (a, v, r, d, ha, (fi, hv), hap, hf) = c.second in
    let halt : (st : List Frame) → Halted (full (first_mode b) st) (at + length c.front + length a + length v) r (at_of p) = level_halts m (at + length c.front + length a + length v) r b xs p md hf e refuses in
    dead_by b at (at_of p) w c.front c.back a v r (halt []) halt c.split d hv (formed_out m at c.front front c.first) ha

-- ---- what a form and a stop are, of bytes that begin outside text

-- ---- one piece

pub marks_append : {X : Type 0} (xs ys : List (Mark X)) → marks (xs ++ ys) ≡ marks xs ++ marks ys
marks_append [] ys = refl
marks_append (x ∷ xs) ys = ap (λ z. mark x ∷ z) (marks_append xs ys)

moves_append : {X : Type 0} (xs : List (Mark X)) (x : Mark X) (md n k : Mode) → moves md xs ≡ Some n → move n (mark_kind x) ≡ Some k → moves md (xs ++ (x ∷ [])) ≡ Some k
moves_append [] x md n k e f = ap (option_and_then (λ z. Some z)) (ap (λ z. move z (mark_kind x)) (same_Some md n e) ∙ f)
moves_append (y ∷ xs) x md n k e f = option_and_then_some (λ z. moves z xs) (move md (mark_kind y)) n e (λ v g h. ap (option_and_then (λ z. moves z (xs ++ (x ∷ [])))) g ∙ moves_append xs x v n k h f)

-- the pieces of a level, with a mark more
pub level_more : {X : Type 0} (outer : List (Piece X)) (ls : List (Level X)) (b : Bracket) (i : ℕ) (xs : List (Mark X)) (ys : List (Piece X)) → (outer ++ (opened ls ++ (opens b i ∷ marks xs))) ++ ys ≡ (outer ++ opened ls) ++ (opens b i ∷ (marks xs ++ ys))
level_more outer ls b i xs ys = ap (λ z. z ++ ys) (sym (append_assoc outer (opened ls) (opens b i ∷ marks xs))) ∙ append_assoc (outer ++ opened ls) (opens b i ∷ marks xs) ys

level_with : {X : Type 0} (outer : List (Piece X)) (ls : List (Level X)) (b : Bracket) (i : ℕ) (xs : List (Mark X)) (x : Mark X)
    → (outer ++ (opened ls ++ (opens b i ∷ marks xs))) ++ (mark x ∷ []) ≡ outer ++ (opened ls ++ (opens b i ∷ marks (xs ++ (x ∷ []))))
level_with outer ls b i xs x = level_more outer ls b i xs (mark x ∷ []) ∙ (append_assoc outer (opened ls) (opens b i ∷ (marks xs ++ (mark x ∷ []))) ∙ ap (λ z. outer ++ (opened ls ++ (opens b i ∷ z))) (sym (marks_append xs (x ∷ []))))

outer_with : {X : Type 0} (outer : List (Piece X)) (p : Piece X) → (outer ++ []) ++ (p ∷ []) ≡ (outer ++ (p ∷ [])) ++ []
outer_with outer p = ap (λ z. z ++ (p ∷ [])) (append-nil outer) ∙ sym (append-nil (outer ++ (p ∷ [])))

-- a stop before the piece p
pub stop_before : {X : Type 0} (m : Meaning X) (at : ℕ) (w : List ℕ) (f : Form X) (p : Piece X) → AreLevels f.levels → Formed m at w (pieces_of f ++ (p ∷ [])) → IsDeadHere at w (at_of p) → IsStop m at w f (plain_halt (at_of p))
stop_before m at w f p levels formed dead =
    let c : Cut m at w (pieces_of f) (p ∷ []) = formed_cut m at w (pieces_of f) (p ∷ []) formed in
    let (a, v, r, d, ha, hp, hap, hr) = c.second in
    let (b, u, e) = piece_first m (at + length c.front + length a) v p hp in
    let split1 : c.back ≡ a ++ (b ∷ (u ++ r)) = d ∙ ap (λ z. a ++ (z ++ r)) e in
    record {
      front = c.front;
      spaces = a;
      begun = [];
      byte = b;
      others = u ++ r;
      split = c.split ∙ ap (λ z. c.front ++ z) split1;
      form = record { formed = c.first; levels = levels };
      are_spaces = ha;
      item = piece_at m (at + length c.front + length a) v p hp;
      place = (let e : at_of p ≡ at_of p + 0 = omega arith in e);
      is_begun = refl;
      apart = ap (are_apart c.front) (sym split1) ∙ c.apart;
      dead = dead;
    }

none_next : {X : Type 0} (md : Mode) (x : Mark X) → move md (mark_kind x) ≡ None → (st : List Frame) → next (full md st) (mark_kind x) ≡ None
none_next md x e st = full_next md st x ∙ ap (option_map (λ n. full n st)) e

with_mark_ok : {X : Type 0} (m : Meaning X) (at : ℕ) (w : List ℕ) (outer : List (Piece X)) (ls : List (Level X)) (l : Level X) (x : Mark X) (o : Option Mode) → move l.mode (mark_kind x) ≡ o
    → Formed m at w ((outer ++ (opened ls ++ (opens l.bracket l.from ∷ marks l.inside))) ++ (mark x ∷ [])) → AreLevels (l ∷ ls) → IsPushed m at w (with_mark outer ls l x o)
with_mark_ok m at w outer ls l x None e f (h, hs) =
    let g : Formed m at w ((outer ++ opened ls) ++ (opens l.bracket l.from ∷ (marks l.inside ++ (mark x ∷ [])))) = subst (Formed m at w) (level_more outer ls l.bracket l.from l.inside (mark x ∷ [])) f in
    stop_before m at w (record { outer = outer; levels = l ∷ ls }) (mark x) (h, hs) f (dead_level m at w (outer ++ opened ls) l.bracket l.from l.inside (mark x) l.mode g h (none_next l.mode x e))
with_mark_ok m at w outer ls l x (Some n) e f (h, hs) = record {
  formed = subst (Formed m at w) (level_with outer ls l.bracket l.from l.inside x) f;
  levels = (moves_append l.inside x (first_mode l.bracket) l.mode n h e, hs);
}

push_mark_ok : {X : Type 0} (m : Meaning X) (at : ℕ) (w : List ℕ) (outer : List (Piece X)) (ls : List (Level X)) (x : Mark X) → Formed m at w ((outer ++ opened ls) ++ (mark x ∷ [])) → AreLevels ls → IsPushed m at w (push_mark outer ls x)
push_mark_ok m at w outer [] x f h = record { formed = subst (Formed m at w) (outer_with outer (mark x)) f; levels = tt }
push_mark_ok m at w outer (l ∷ ls) x f h = with_mark_ok m at w outer ls l x (move l.mode (mark_kind x)) refl f h

-- a level that is closed becomes an entry
no_run_closing : (b : Bracket) → ends_run (closing b ∷ []) ≡ false
no_run_closing Square = refl
no_run_closing Brace = refl

pub reduced : {X : Type 0} (m : Meaning X) (at : ℕ) (w : List ℕ) (front : List (Piece X)) (b c : Bracket) (i j : ℕ) (xs : List (Mark X)) (md : Mode)
    → Formed m at w (front ++ (opens b i ∷ (marks xs ++ (closes c j ∷ [])))) → moves (first_mode b) xs ≡ Some md → closes_at md c ≡ true → Formed m at w (front ++ (mark (entry i (built m b i xs)) ∷ []))
reduced {X} m at w front b c i j xs md f e h =
    let cut : Cut m at w front (opens b i ∷ (marks xs ++ (closes c j ∷ []))) = formed_cut m at w front (opens b i ∷ (marks xs ++ (closes c j ∷ []))) f in
    let (a, v, r, d, ha, (fi, hv), hap, hf) = cut.second in
    let k : ℕ = at + length cut.front + length a in
    let inner : Cut m (k + length v) r (marks xs) (closes c j ∷ []) = formed_cut m (k + length v) r (marks xs) (closes c j ∷ []) hf in
    let (a2, v2, r3, d2, ha2, (fj, hv2), hap2, hf2) = inner.second in
    let apart_inner : are_apart inner.front a2 ≡ true = apart_front inner.front a2 (v2 ++ r3) (ap (are_apart inner.front) (sym d2) ∙ inner.apart) in
    let bytes : List ℕ = inner.front ++ a2 in
    let spaced : Formed m (k + length v) bytes (marks xs) = subst (Formed m (k + length v) bytes) (append-nil (marks xs)) (formed_append m (k + length v) inner.front a2 (marks xs) [] inner.first ha2 apart_inner) in
    let width : k + length v ≡ k + 1 = ap (λ z. k + length z) hv in
    let spells : IsMark m k (opening b ∷ (bytes ++ (closing c ∷ []))) (entry k (built m b k xs)) = level_spelled m b c xs k bytes md (subst (λ n. Formed m n bytes (marks xs)) width spaced) e h in
    let whole : List ℕ = opening b ∷ (bytes ++ (closing c ∷ [])) in
    let at_i : IsMark m k whole (entry i (built m b i xs)) = subst (λ n. IsMark m k whole (entry n (built m b n xs))) (sym fi) spells in
    let split : cut.back ≡ a ++ (whole ++ r3) = d ∙ (ap (λ z. a ++ (z ++ r)) hv ∙ (ap (λ z. a ++ (opening b ∷ z)) (inner.split ∙ (ap (λ z. inner.front ++ z) (d2 ∙ ap (λ z. a2 ++ (z ++ r3)) hv2)
    ∙ (sym (append_assoc inner.front a2 (closing c ∷ r3)) ∙ sym (append_assoc bytes (closing c ∷ []) r3)))))) in
    let ends : ends_run whole ≡ false = ends_append (opening b ∷ bytes) (closing c) [] ∙ no_run_closing c in
    let apart_whole : are_apart whole r3 ≡ true = ap (λ z. not (z && begins_run r3)) ends in
    subst (λ z. Formed m at z (front ++ (mark (entry i (built m b i xs)) ∷ []))) (sym cut.split)
    (formed_append m at cut.front cut.back front (mark (entry i (built m b i xs)) ∷ []) cut.first (a, whole, r3, split, ha, at_i, apart_whole, hf2) cut.apart)

closes_next : (md : Mode) (b : Bracket) → closes_at md b ≡ false → (st : List Frame) → next (full md st) (a_closer b) ≡ None
closes_next md b e st = full_closes md st b ∙ ap (λ z. cond z (Some (after st)) None) e

close_level_ok : {X : Type 0} (m : Meaning X) (at : ℕ) (w : List ℕ) (outer : List (Piece X)) (ls : List (Level X)) (l : Level X) (b : Bracket) (i : ℕ) (c : Bool) → closes_at l.mode b ≡ c
    → Formed m at w ((outer ++ (opened ls ++ (opens l.bracket l.from ∷ marks l.inside))) ++ (closes b i ∷ [])) → AreLevels (l ∷ ls) → IsPushed m at w (close_level m outer ls l i c)
close_level_ok m at w outer ls l b i true e f (h, hs) =
    let g : Formed m at w ((outer ++ opened ls) ++ (opens l.bracket l.from ∷ (marks l.inside ++ (closes b i ∷ [])))) = subst (Formed m at w) (level_more outer ls l.bracket l.from l.inside (closes b i ∷ [])) f in
    push_mark_ok m at w outer ls (entry l.from (built m l.bracket l.from l.inside)) (reduced m at w (outer ++ opened ls) l.bracket b l.from i l.inside l.mode g h e) hs
close_level_ok m at w outer ls l b i false e f (h, hs) =
    let g : Formed m at w ((outer ++ opened ls) ++ (opens l.bracket l.from ∷ (marks l.inside ++ (closes b i ∷ [])))) = subst (Formed m at w) (level_more outer ls l.bracket l.from l.inside (closes b i ∷ [])) f in
    stop_before m at w (record { outer = outer; levels = l ∷ ls }) (closes b i) (h, hs) f (dead_level m at w (outer ++ opened ls) l.bracket l.from l.inside (closes b i) l.mode g h (closes_next l.mode b e))

push_close_ok : {X : Type 0} (m : Meaning X) (at : ℕ) (w : List ℕ) (outer : List (Piece X)) (ls : List (Level X)) (b : Bracket) (i : ℕ) → Formed m at w ((outer ++ opened ls) ++ (closes b i ∷ [])) → AreLevels ls
    → IsPushed m at w (push_close m outer ls b i)
push_close_ok m at w outer [] b i f h = record { formed = subst (Formed m at w) (outer_with outer (closes b i)) f; levels = tt }
push_close_ok m at w outer (l ∷ ls) b i f h = close_level_ok m at w outer ls l b i (closes_at l.mode b) refl f h

pub push_ok : {X : Type 0} (m : Meaning X) (at : ℕ) (w : List ℕ) (f : Form X) (p : Piece X) → Formed m at w (pieces_of f ++ (p ∷ [])) → AreLevels f.levels → IsPushed m at w (push m f p)
push_ok m at w f (opens b i) h k = record { formed = subst (Formed m at w) (append_assoc f.outer (opened f.levels) (opens b i ∷ [])) h; levels = (refl, k) }
push_ok m at w f (closes b i) h k = push_close_ok m at w f.outer f.levels b i h k
push_ok m at w f (mark x) h k = push_mark_ok m at w f.outer f.levels x h k
