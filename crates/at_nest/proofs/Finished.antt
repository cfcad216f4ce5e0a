-- What the form of a whole text answers: the fold of its tree, or the end of the longest viable prefix.
-- For `finish`, `finish_span`, `merge` and `run_block`.
use Rattle.std.proofs.Common.{◌≡◌, ℕ, ◌⊎◌, inl, inr, List, [], ◌∷◌, ◌++◌, Option, Some, None, option_and_then, Bool, true, false, cond, refl, sym, ◌∙◌, ap, subst, arith, append_assoc, append-nil, ◌+◌, ◌<◌, ◌≤◌, length, length-append, take, drop, slice_index, take-append-drop, true≢false}
use Rattle.std.proofs.lemmas.Bool.{not-true}
use Rattle.std.proofs.Math.Seq.{take-append_seam, take-length, get_or-append_seam}
use Rattle.std.proofs.lemmas.Option.{none-some, same_Some}
use Rattle.std.specs.Bool.{⊤}
use Rattle.at_text.specs.Prefix.{Viable, LongestViable, TakesLongest}
use Rattle.at_lex.specs.declared.tokens.Bracket.{Bracket}
use Rattle.at_lex.specs.declared.tokens.Bracket.TheVariants.{Brace, Square}
use Rattle.at_lex.specs.Strings.{Character}
use Rattle.at_nest.specs.Tree.{text}
use Rattle.at_nest.specs.Syntax.{JsonText}
use Rattle.at_nest.proofs.TreeParts.{text_made}
use Rattle.at_nest.proofs.JsonMachine.{State, Frame, in_array, value, items, after, step, accepts}
use Rattle.at_nest.proofs.Accepted.{text_at, lives, run_accepted, settled_accepts, accepted-JsonText}
use Rattle.at_nest.specs.Forms.{Meaning, Mark, Piece, quoted, entry, opens, closes, mark, Formed}
use Rattle.at_nest.proofs.Steps.{Settled, is_clear, settled_step, settled_still}
use Rattle.at_nest.proofs.Values.{go, run_then}
use Rattle.at_nest.specs.Walks.{an_opener, value_kind, text_kind, kind_of, at_of, next, walks, walk_on, Walk, reached, refused}
use Rattle.at_nest.proofs.Walks.{Reads, Halted, walk_reads, walk_halts, spaces_read, no_walk, reached_is, cases, spaces_apart, swap}
use Rattle.at_nest.proofs.Joins.{same_split, at_end}
use Rattle.at_nest.specs.Levels.{Mode, at_items, full, first_mode, moves, Level, Form, marks, opened, pieces_of, Pushed, further, stopped, SpanStop, Within, at_first, in_run, in_text}
use Rattle.at_nest.proofs.Pushes.{AreLevels, IsForm, IsStop, IsPushed, IsDeadHere, IsBegun, IsRunBegun, IsTextBegun, moves_walk, same_length}
use Rattle.at_nest.proofs.Begun.{run_goes, run_halts, text_goes_on, text_stops}
pub use Rattle.at_nest.specs.Answers.{Answer, folded, syntax, ended, single, folded_or, by_walk, choose, halt_place, stop_by, finished, IsAnswer}

no_word : (w : List ℕ) (n : ℕ) → n < length w → LongestViable (JsonText 0) w n → ¬ (JsonText 0) w
no_word w n h l word = l.longest h (drop (n + 1) w, subst (JsonText 0) (sym (take-append-drop (n + 1) w)) word)

-- where the machine stops, the longest viable prefix ends
pub halted_answer : {X : Type 0} (m : Meaning X) (at i : ℕ) (w : List ℕ) → Halted (value []) at w i → IsAnswer m at w (syntax i)
halted_answer m at i w h =
    let n : ℕ = length h.before in
    let front : take n w ≡ h.before = ap (take n) h.split ∙ take-append_seam h.before (h.byte ∷ h.others) in
    let there : slice_index w n ≡ h.byte = ap (λ z. slice_index z n) h.split ∙ get_or-append_seam h.before h.byte h.others 0 in
    let size : length w ≡ length h.before + length (h.byte ∷ h.others) = ap (λ z. length z) h.split ∙ length-append h.before (h.byte ∷ h.others) in
    let below : n < length w = omega (arith, size) in
    let fits : n ≤ length w = omega (arith, below) in
    let t : TakesLongest (JsonText 0) w (record { len = n; whole = accepts h.last }) =
    text_at 0 h.last w n fits (ap (go (value [])) front ∙ h.goes) (λ k. ap (step h.last) there ∙ h.halts) in
    (n, h.place, below, t.longest, no_word w n below t.longest)

pub read_takes : (w : List ℕ) (t : State) → Reads (value []) t w → TakesLongest (JsonText 0) w (record { len = length w; whole = accepts t })
read_takes w t h =
    let r : TakesLongest (JsonText 0) w (record { len = length w; whole = accepts h.last }) =
    text_at 0 h.last w (length w) (omega arith) (ap (go (value [])) (take-length w) ∙ h.goes) (λ k. absurd (omega (arith, k))) in
    let same : accepts h.last ≡ accepts t = settled_accepts h.last t h.settled in
    record { longest = r.longest; whole = ((λ a. r.whole.0 (same ∙ a)), (λ l. sym same ∙ r.whole.1 l)) }

pub not_whole : (w : List ℕ) (t : State) → Reads (value []) t w → accepts t ≡ false → ¬ (JsonText 0) w
not_whole w t h e word = true≢false (sym ((read_takes w t h).whole.1 (subst (JsonText 0) (sym (take-length w)) word)) ∙ e)

-- ---- a form that ends well is one value

-- no opening bracket stands before the open levels
abbrev pub AreClosed : {X : Type 0} → List (Piece X) → Type 0
AreClosed [] = ⊤
AreClosed (opens b i ∷ ps) = ⊥
AreClosed (closes b i ∷ ps) = AreClosed ps
AreClosed (mark x ∷ ps) = AreClosed ps

-- a walk on that ends in a state has gone on
walked_on : {A : Type 0} (o : Option State) (i : ℕ) (f : State → Walk) (t : State) → walk_on o i f ≡ reached t → ((q : State) → o ≡ Some q → f q ≡ reached t → A) → A
walked_on None i f t e k = absurd (no_walk i t e)
walked_on (Some q) i f t e k = k q refl e

walk_split : {X : Type 0} (ps qs : List (Piece X)) (s t : State) → walks s (ps ++ qs) ≡ reached t → (q : State) × (walks q qs ≡ reached t)
walk_split [] qs s t e = (s, e)
walk_split (p ∷ ps) qs s t e = walked_on (next s (kind_of p)) (at_of p) (λ x. walks x (ps ++ qs)) t e (λ v n f. walk_split ps qs v t f)

open_full : (s t : State) (b : Bracket) → next s (an_opener b) ≡ Some t → (st : List Frame) × (t ≡ full (first_mode b) st)
open_full (value st) t Square e = (st, sym (same_Some _ t e))
open_full (value st) t Brace e = (st, sym (same_Some _ t e))
open_full (items st) t Square e = (in_array ∷ st, sym (same_Some _ t e))
open_full (items st) t Brace e = (in_array ∷ st, sym (same_Some _ t e))
open_full (after (in_array ∷ st)) t b e = absurd (none-some t e)
open_full _ t b e = absurd (none-some t e)

full_open : (md : Mode) (st : List Frame) → accepts (full md st) ≡ false
full_open at_items st = refl
full_open _ st = refl

-- a form with an open level doesn't end well
open_ends : {X : Type 0} (ps : List (Piece X)) (b : Bracket) (i : ℕ) (xs : List (Mark X)) (md : Mode) (s t : State) → moves (first_mode b) xs ≡ Some md → walks s (ps ++ (opens b i ∷ marks xs)) ≡ reached t → accepts t ≡ false
open_ends {X} ps b i xs md s t h e = let (q, f) = walk_split ps (opens b i ∷ marks xs) s t e in walked_on (next q (an_opener b)) i (λ x. walks x (marks xs)) t f (λ v n k.
    let (st, g) = open_full q v b n in
    let l : walks (full (first_mode b) st) (marks xs ++ []) ≡ reached t = ap (walks (full (first_mode b) st)) (append-nil (marks xs)) ∙ (ap (λ z. walks z (marks xs)) (sym g) ∙ k) in
    let is_full : full md st ≡ t = reached_is (full md st) t (sym (moves_walk xs (first_mode b) md st [] h) ∙ l) in
    ap accepts (sym is_full) ∙ full_open md st)

-- the pieces of a form that ends well are one value
abbrev pub IsOne : {X : Type 0} → Meaning X → List (Piece X) → Type 0
IsOne {X} m ps = ((i : ℕ) × (cs : List Character) × (ps ≡ mark (quoted i cs) ∷ [])) ⊎ ((i : ℕ) × (x : X) × (ps ≡ mark (entry i x) ∷ []))

false_is : {P : Type 0} (t : State) → accepts t ≡ true → accepts t ≡ false → P
false_is t h k = absurd (true≢false (sym h ∙ k))

one_of : {X : Type 0} (m : Meaning X) (outer : List (Piece X)) (t : State) → AreClosed outer → walks (value []) (outer ++ []) ≡ reached t → accepts t ≡ true → IsOne m (outer ++ [])
one_of m [] t c e h = false_is t h (sym (ap accepts (reached_is (value []) t e)))
one_of m (opens b i ∷ ps) t c e h = absurd c
one_of m (mark (quoted i cs) ∷ []) t c e h = inl (i, cs, refl)
one_of m (mark (entry i x) ∷ []) t c e h = inr (i, x, refl)
one_of m (mark (quoted i cs) ∷ (p ∷ ps)) t c e h = absurd (no_walk (at_of p) t e)
one_of m (mark (entry i x) ∷ (p ∷ ps)) t c e h = absurd (no_walk (at_of p) t e)
one_of m (p ∷ ps) t c e h = absurd (no_walk (at_of p) t e)

whole_one : {X : Type 0} (m : Meaning X) (outer : List (Piece X)) (ls : List (Level X)) (t : State) → AreClosed outer → AreLevels ls → walks (value []) (outer ++ opened ls) ≡ reached t → accepts t ≡ true → IsOne m (outer ++ opened ls)
whole_one m outer [] t c l e h = one_of m outer t c e h
whole_one m outer (l ∷ ls) t c (k, ks) e h = false_is t h (open_ends (outer ++ opened ls) l.bracket l.from l.inside l.mode (value []) t k (ap (walks (value [])) (append_assoc outer (opened ls) (opens l.bracket l.from ∷ marks l.inside)) ∙ e))

one_answer : {X : Type 0} (m : Meaning X) (at : ℕ) (w : List ℕ) (ps : List (Piece X)) → Formed m at w ps → IsOne m ps → IsAnswer m at w (folded_or (single m ps))
one_answer m at w ps f (inl (i, cs, e)) = subst (λ z. IsAnswer m at w (folded_or (single m z))) (sym e) (text_answer (subst (Formed m at w) e f))
  where
    text_answer : Formed m at w (mark (quoted i cs) ∷ []) → IsAnswer m at w (folded (m.of_text i cs))
    text_answer (a, v, r, d, ha, hp, hap, hr) = (text i cs, text_made (text i cs) at w (a, v, r, [], d ∙ ap (λ z. a ++ (v ++ z)) (sym (append-nil r)), ha, hr, hp, refl), refl)
one_answer m at w ps f (inr (i, x, e)) = subst (λ z. IsAnswer m at w (folded_or (single m z))) (sym e) (entry_answer (subst (Formed m at w) e f))
  where
    entry_answer : Formed m at w (mark (entry i x) ∷ []) → IsAnswer m at w (folded x)
    entry_answer (a, v, r, d, ha, (fi, t, sp, nt, ex), hap, hr) = (t, text_made t at w (a, v, r, [], d ∙ ap (λ z. a ++ (v ++ z)) (sym (append-nil r)), ha, hr, sp, refl), sym ex)

reached_answer : {X : Type 0} (m : Meaning X) (at : ℕ) (w : List ℕ) (f : Form X) (t : State) (c : Bool) → accepts t ≡ c → IsForm m at w f → AreClosed f.outer → walks (value []) (pieces_of f) ≡ reached t
    → IsAnswer m at w (cond c (folded_or (single m (pieces_of f))) ended)
reached_answer m at w f t true h g k e = one_answer m at w (pieces_of f) g.formed (whole_one m f.outer f.levels t k g.levels e h)
reached_answer m at w f t false h g k e = let r : Reads (value []) t w = walk_reads m (pieces_of f) at w (value []) (value []) t refl refl g.formed e in
    ((read_takes w t r).longest, not_whole w t r h)

pub walk_cases : (x : Walk) → ((i : ℕ) × (x ≡ refused i)) ⊎ ((t : State) × (x ≡ reached t))
walk_cases (refused i) = inl (i, refl)
walk_cases (reached t) = inr (t, refl)

pub halted_longer : (s : State) (at : ℕ) (w y : List ℕ) (i : ℕ) → Halted s at w i → Halted s at (w ++ y) i
halted_longer s at w y i h = record { before = h.before; byte = h.byte; others = h.others ++ y; last = h.last; split = ap (λ z. z ++ y) h.split ∙ append_assoc h.before (h.byte ∷ h.others) y; place = h.place; goes = h.goes; halts = h.halts }

-- a byte that the machine goes on with is viable
goes_viable : (w : List ℕ) (t : State) → go (value []) w ≡ Some t → Viable (JsonText 0) w
goes_viable w t e = let (v, k) = lives t in (v, (accepted-JsonText 0 (w ++ v)).0 (run_accepted (value []) t w v e k))

-- a byte that no bytes before make viable stops the machine, where the machine comes to it
dead_stops : (at i : ℕ) (w u : List ℕ) (b : ℕ) (o : List ℕ) (l : State) → IsDeadHere at w i → w ≡ u ++ (b ∷ o) → i ≡ at + length u → go (value []) u ≡ Some l → step l b ≡ None
dead_stops at i w u b o l h e p r =
    let (same_before, same_byte) = same_split u h.before b h.byte o h.others (sym e ∙ h.split) (same_length i at u h.before p h.place) in
    elim (cases (step l b)) [
      | inl n ↦ n
      | inr (q, n) ↦ absurd (h.dead [] refl refl (goes_viable (h.before ++ (h.byte ∷ [])) q
          (ap (go (value [])) (sym (ap (λ z. z ++ (b ∷ [])) same_before ∙ ap (λ z. h.before ++ (z ∷ [])) same_byte)) ∙ (run_then (value []) l u (b ∷ []) r ∙ ap (option_and_then (λ x. Some x)) n))))
    ]

-- behind the form and the white space the machine is settled as the grammar's state t, clear of what is begun
pub record Behind {X : Type 0} (m : Meaning X) (at : ℕ) (w : List ℕ) (f : Form X) (h : SpanStop) (t : State) : Type 0 where
  pub front : List ℕ
  pub begun : List ℕ
  pub byte : ℕ
  pub others : List ℕ
  pub last : State
  pub split : w ≡ front ++ (begun ++ (byte ∷ others))
  pub item : h.item ≡ at + length front
  pub place : h.place ≡ h.item + length begun
  pub goes : go (value []) front ≡ Some last
  pub settled : Settled last t
  pub clear : is_clear last (begun ++ (byte ∷ others)) ≡ true
  pub is_begun : IsBegun h.kind begun
  pub dead : IsDeadHere at w h.place

stop_behind : {X : Type 0} (m : Meaning X) (at : ℕ) (w : List ℕ) (f : Form X) (i : SpanStop) (t : State) (h : IsStop m at w f i) → Reads (value []) t h.front → Behind m at w f i t
stop_behind m at w f i t h r =
    let more : List ℕ = h.begun ++ (h.byte ∷ h.others) in
    let sp : Reads r.last t h.spaces = spaces_read r.last t h.spaces r.settled h.are_spaces in
    record {
      front = h.front ++ h.spaces;
      begun = h.begun;
      byte = h.byte;
      others = h.others;
      last = sp.last;
      split = h.split ∙ sym (append_assoc h.front h.spaces more);
      item = h.item ∙ at_end at h.front h.spaces;
      place = h.place;
      goes = run_then (value []) r.last h.front h.spaces r.goes ∙ sp.goes;
      settled = sp.settled;
      clear = sp.clear more (spaces_apart h.spaces more h.are_spaces) (r.clear (h.spaces ++ more) h.apart refl);
      is_begun = h.is_begun;
      dead = h.dead;
    }

-- at the item's first byte
item_halts : {X : Type 0} (m : Meaning X) (at : ℕ) (w : List ℕ) (f : Form X) (i : SpanStop) (t : State) (h : Behind m at w f i t) (b : ℕ) (v : List ℕ) → h.begun ≡ b ∷ v → step t b ≡ None → Halted (value []) at w i.item
item_halts m at w f i t h b v e n = record {
  before = h.front;
  byte = b;
  others = v ++ (h.byte ∷ h.others);
  last = h.last;
  split = h.split ∙ ap (λ z. h.front ++ (z ++ (h.byte ∷ h.others))) e;
  place = h.item;
  goes = h.goes;
  halts = settled_step h.last t b h.settled (not-true _ (ap (λ z. is_clear h.last (z ++ (h.byte ∷ h.others))) (sym e) ∙ h.clear)) ∙ n;
}

-- in the item, or at its end
place_halts : {X : Type 0} (m : Meaning X) (at : ℕ) (w : List ℕ) (f : Form X) (i : SpanStop) (t : State) (h : Behind m at w f i t) (b : ℕ) (v : List ℕ) (l : State) → h.begun ≡ b ∷ v → go t (b ∷ v) ≡ Some l → Halted (value []) at w i.place
place_halts m at w f i t h b v l e g =
    let clear1 : is_clear h.last ((b ∷ v) ++ []) ≡ true = ap (λ z. is_clear h.last (z ++ (h.byte ∷ h.others))) (sym e) ∙ h.clear in
    let begun1 : go h.last (b ∷ v) ≡ Some l = ap (go h.last) (sym (append-nil (b ∷ v))) ∙ (swap h.last t (b ∷ v) [] b v refl h.settled clear1 ∙ (ap (go t) (append-nil (b ∷ v)) ∙ g)) in
    let all : go (value []) (h.front ++ h.begun) ≡ Some l = run_then (value []) h.last h.front h.begun h.goes ∙ (ap (go h.last) e ∙ begun1) in
    let split1 : w ≡ (h.front ++ h.begun) ++ (h.byte ∷ h.others) = h.split ∙ sym (append_assoc h.front h.begun (h.byte ∷ h.others)) in
    let place1 : i.place ≡ at + length (h.front ++ h.begun) = h.place ∙ (ap (λ n. n + length h.begun) h.item ∙ at_end at h.front h.begun) in
    record {
      before = h.front ++ h.begun;
      byte = h.byte;
      others = h.others;
      last = l;
      split = split1;
      place = place1;
      goes = all;
      halts = dead_stops at i.place w (h.front ++ h.begun) h.byte h.others l h.dead split1 place1 all;
    }

none_begun : {X : Type 0} (m : Meaning X) (at : ℕ) (w : List ℕ) (f : Form X) (i : SpanStop) (t : State) (h : Behind m at w f i t) → h.begun ≡ [] → Halted (value []) at w i.item
none_begun m at w f i t h e =
    let split1 : w ≡ h.front ++ (h.byte ∷ h.others) = h.split ∙ ap (λ z. h.front ++ (z ++ (h.byte ∷ h.others))) e in
    let place1 : i.place ≡ i.item = h.place ∙ (ap (λ z. i.item + length z) e ∙ (let n : i.item + 0 ≡ i.item = omega arith in n)) in
    record {
      before = h.front;
      byte = h.byte;
      others = h.others;
      last = h.last;
      split = split1;
      place = h.item;
      goes = h.goes;
      halts = dead_stops at i.place w h.front h.byte h.others h.last h.dead split1 (place1 ∙ h.item) h.goes;
    }

by_kind : {X : Type 0} (m : Meaning X) (at : ℕ) (w : List ℕ) (f : Form X) (i : SpanStop) (t : State) (h : Behind m at w f i t) (k : Within) → i.kind ≡ k → IsBegun k h.begun → Halted (value []) at w (halt_place t k i.item i.place)
by_kind m at w f i t h at_first e g = none_begun m at w f i t h g
by_kind m at w f i t h in_run e (b, v, d, g) = elim (cases (next t value_kind)) [
  | inl n ↦ subst (λ o. Halted (value []) at w (choose o i.item i.place)) (sym n)
      (item_halts m at w f i t h b v d (run_halts t b v (settled_still h.last t h.settled) (subst IsRunBegun d g) n))
  | inr (q, n) ↦ subst (λ o. Halted (value []) at w (choose o i.item i.place)) (sym n) (let (l, r) = run_goes t q b v (subst IsRunBegun d g) n in place_halts m at w f i t h b v l d r)
]
by_kind m at w f i t h in_text e (b, v, d, g) = elim (cases (next t text_kind)) [
  | inl n ↦ subst (λ o. Halted (value []) at w (choose o i.item i.place)) (sym n)
      (item_halts m at w f i t h b v d (text_stops t b v (settled_still h.last t h.settled) (subst IsTextBegun d g) n))
  | inr (q, n) ↦ subst (λ o. Halted (value []) at w (choose o i.item i.place)) (sym n) (let (l, r) = text_goes_on t q b v (subst IsTextBegun d g) n in place_halts m at w f i t h b v l d r)
]

stop_halts : {X : Type 0} (m : Meaning X) (at : ℕ) (w : List ℕ) (f : Form X) (i : SpanStop) (t : State) (h : IsStop m at w f i) → Reads (value []) t h.front → Halted (value []) at w (halt_place t i.kind i.item i.place)
stop_halts m at w f i t h r = let k : Behind m at w f i t = stop_behind m at w f i t h r in by_kind m at w f i t k i.kind refl k.is_begun

abbrev pub IsReduced : {X : Type 0} → Pushed X → Type 0
IsReduced (further f) = AreClosed f.outer
IsReduced (stopped f i) = ⊤

-- what is answered of a whole text is right
pub finished_ok : {X : Type 0} (m : Meaning X) (at : ℕ) (w : List ℕ) (whole : Pushed X) → IsPushed m at w whole → IsReduced whole → IsAnswer m at w (finished m whole)
finished_ok m at w (further f) h k = elim (walk_cases (walks (value []) (pieces_of f))) [
  | inl (i, e) ↦ subst (λ z. IsAnswer m at w (by_walk m (pieces_of f) z)) (sym e) (halted_answer m at i w (walk_halts m (pieces_of f) at w (value []) (value []) i refl refl h.formed e))
  | inr (t, e) ↦ subst (λ z. IsAnswer m at w (by_walk m (pieces_of f) z)) (sym e) (reached_answer m at w f t (accepts t) refl h k e)
]
finished_ok m at w (stopped f i) h k = elim (walk_cases (walks (value []) (pieces_of f))) [
  | inl (j, e) ↦ subst (λ z. IsAnswer m at w (stop_by i z)) (sym e) (halted_answer m at j w
      (subst (λ z. Halted (value []) at z j) (sym h.split) (halted_longer (value []) at h.front (h.spaces ++ (h.begun ++ (h.byte ∷ h.others))) j (walk_halts m (pieces_of f) at h.front (value []) (value []) j refl refl h.form.formed e))))
  | inr (t, e) ↦ subst (λ z. IsAnswer m at w (stop_by i z)) (sym e) (halted_answer m at (halt_place t i.kind i.item i.place) w
      (stop_halts m at w f i t h (walk_reads m (pieces_of f) at h.front (value []) (value []) t refl refl h.form.formed e)))
]
