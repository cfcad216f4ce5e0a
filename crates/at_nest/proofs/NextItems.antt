-- What is kept of a text's items tells what may stand behind them, as the grammar's states do, and so what is answered.
-- For `finish`, `finish_span`, `merge` and `run_block`.
use Rattle.std.proofs.Common.{◌≡◌, ℕ, ◌+◌, zero, suc, inl, inr, List, [], ◌∷◌, ◌++◌, Option, Some, None, Bool, true, false, if◌then◌else◌, Result, Ok, Err, refl, sym, ◌∙◌, ap, subst, rules, append_assoc, append-nil}
use Rattle.std.specs.Bool.{⊤}
use Rattle.at_lex.specs.declared.tokens.Bracket.{Bracket}
use Rattle.at_lex.specs.declared.tokens.Bracket.TheVariants.{Brace, Square}
use Rattle.at_nest.specs.declared.finishing.Next.{Next}
use Rattle.at_nest.specs.declared.finishing.Next.TheVariants as next
use Rattle.at_nest.specs.declared.finishing.NestEnd.{NestEnd}
use Rattle.at_nest.specs.declared.finishing.NestEnd.TheVariants.{Syntax, Ended}
use Rattle.at_nest.specs.declared.levels.ArrayState.TheVariants as array
use Rattle.at_nest.specs.declared.levels.ObjectState.TheVariants as object
use Rattle.at_nest.specs.declared.levels.Open.{Open}
use Rattle.at_nest.specs.declared.pieces.Piece.{Piece as CodePiece}
use Rattle.at_nest.specs.declared.pieces.Piece.TheVariants.{Comma, Colon, Text, Value, Row as RowPiece, Members as MembersPiece, Closers as ClosersPiece}
use Rattle.at_nest.specs.declared.pieces.SpanStop.{SpanStop as CodeHalt}
use Rattle.at_nest.specs.declared.pieces.Within.{Within as CodeWithin}
use Rattle.at_nest.specs.declared.pieces.Within.TheVariants as within
use Rattle.at_nest.specs.States.{State, Frame, in_array, value, items, members, name, colon, after, accepts}
use Rattle.at_nest.specs.Tree.{Tree}
use Rattle.at_nest.specs.Forms.{Piece, opens, closes, mark, comma as a_comma, colon as a_colon, quoted, entry, Mark}
use Rattle.at_nest.specs.Walks.{an_opener, value_kind, text_kind, kind_of, at_of, next as goes, walks, walk_on, Walk, reached, refused}
use Rattle.at_nest.specs.Levels.{full, first_mode, moves, Level, Form, marks, opened, pieces_of, further, stopped}
use Rattle.at_nest.specs.Stops.{AreLevels}
use Rattle.at_nest.specs.Answers.{Answer, folded, syntax, ended, single, by_walk, choose, halt_place, stop_by, finished}
use Rattle.at_nest.specs.Shown.{Held, array_level, object_level, helds_of, Shown, open_levels, from_of, first_of_piece, is_value_piece, takes_name, takes_value}
use Rattle.at_nest.specs.MemberMarks.{marks_behind_comma, member_marks}
use Rattle.at_nest.specs.KeptItems.{Content, one, free, row_marks, closers, IsHeld, EachHeld, IsHeldPiece, AreRow, ArePieces, EachPiece, IsShown, halt_of, within_of}
use Rattle.at_nest.specs.NextItems.{takes, level_next, level_after, IsNoValue, levels_next, outer_next, next_of, value_of, only_of, answer_by, answer_of, stop_of, open_of}
use Rattle.at_nest.proofs.Walks.{cases}
use Rattle.at_nest.proofs.Held.{held_from}
use Rattle.at_nest.proofs.Pushes.{moves_walk}
use Rattle.at_nest.proofs.Finished.{AreClosed}
use Rattle.at_nest.proofs.Showing.{open_append}
use Rattle.at_nest.proofs.Open.{open_by, open_or}

-- ---- the loop over the open levels

after_error : {X : Type 0} (hs : List (Held X)) (i : ℕ) → levels_next (Err i) hs ≡ Err i
after_error [] i = refl
after_error (h ∷ hs) i = ap (λ r. level_after r h) (after_error hs i)

levels_append : {X : Type 0} (r : Result Next ℕ) (hs gs : List (Held X)) → levels_next r (hs ++ gs) ≡ levels_next (levels_next r gs) hs
levels_append r [] gs = refl
levels_append r (h ∷ hs) gs = ap (λ z. level_after z h) (levels_append r hs gs)

pub next_error : {X : Type 0} (s : Shown X) (i : ℕ) → Err i ≡ outer_next s.outer → Err i ≡ next_of s
next_error s i e = sym (after_error s.levels i) ∙ ap (λ r. levels_next r s.levels) e

-- behind more levels
next_behind : {X : Type 0} (r : Result Next ℕ) (os ks : List (Open X)) → levels_next r (open_levels (os ++ ks)) ≡ levels_next (levels_next r (open_levels os)) (open_levels ks)
next_behind r os ks = ap (levels_next r) (open_append os ks) ∙ levels_append r (open_levels ks) (open_levels os)

pub next_more : {X : Type 0} (r : Result Next ℕ) (os ks : List (Open X)) (n : Next) (k : Result Next ℕ) → levels_next r (open_levels os) ≡ Ok n → k ≡ levels_next (Ok n) (open_levels ks) → levels_next r (open_levels (os ++ ks)) ≡ k
next_more r os ks n k e f = next_behind r os ks ∙ (ap (λ z. levels_next z (open_levels ks)) e ∙ sym f)

-- behind one level more
pub next_step : {X : Type 0} (r : Result Next ℕ) (os : List (Open X)) (o : Open X) (n : Next) (k : Result Next ℕ) → levels_next r (open_levels os) ≡ Ok n → k ≡ levels_next (Ok n) (helds_of o) → levels_next r (open_levels (os ++ o ∷ [])) ≡ k
next_step r os o n k e f = next_more r os (o ∷ []) n k e f

pub no_value : (n : Next) → (n ≡ next.Value → ⊥) → IsNoValue n
no_value next.Value h = h refl
no_value _ h = tt

pub after_refused : {X : Type 0} (n : Next) (h : Held X) → IsNoValue n → level_after (Ok n) h ≡ Err (from_of h)
after_refused next.Value h k = absurd k
after_refused _ h k = refl

-- what may not stand where it does stays so behind more levels
pub next_off : {X : Type 0} (r : Result Next ℕ) (os ks : List (Open X)) (i : ℕ) → levels_next r (open_levels os) ≡ Err i → levels_next r (open_levels (os ++ ks)) ≡ Err i
next_off r os ks i e = next_behind r os ks ∙ (ap (λ z. levels_next z (open_levels ks)) e ∙ after_error (open_levels ks) i)

-- the last item of a list
pub only_last : {X : Type 0} (ps : List (CodePiece X)) (p : CodePiece X) → only_of (ps ++ p ∷ []) ≡ value_of p
only_last (q ∷ (r ∷ ps)) p = only_last (r ∷ ps) p
only_last _ p = refl

-- ---- the grammar's states

-- what may stand behind each; the states in a token aren't reached by whole items
abbrev pub next_in : State → Next
next_in (value st) = next.Value
next_in (items st) = next.Value
next_in (members st) = next.Name
next_in (name st) = next.Name
next_in (colon st) = next.Mark
next_in (after []) = next.Nothing
next_in (after (fr ∷ st)) = next.Mark
next_in _ = next.Nothing

abbrev pub IsNext : Result Next ℕ → Walk → Type 0
IsNext (Ok n) (reached t) = n ≡ next_in t
IsNext (Err i) (refused j) = i ≡ j
IsNext _ _ = ⊥

next_by : (r r2 : Result Next ℕ) (w w2 : Walk) → r ≡ r2 → w ≡ w2 → IsNext r2 w2 → IsNext r w
next_by r r2 w w2 e f h = subst (λ z. IsNext z w) (sym e) (subst (IsNext r2) (sym f) h)

abbrev walk_more : {X : Type 0} → Walk → List (Piece X) → Walk
walk_more (refused i) ps = refused i
walk_more (reached t) ps = walks t ps

walks_append : {X : Type 0} (ps qs : List (Piece X)) (s : State) → walks s (ps ++ qs) ≡ walk_more (walks s ps) qs
walks_append [] qs s = refl
walks_append (p ∷ ps) qs s = elim (cases (goes s (kind_of p))) [
  | inl n ↦ ap (λ o. walk_on o (at_of p) (λ t. walks t (ps ++ qs))) n ∙ sym (ap (λ o. walk_more (walk_on o (at_of p) (λ t. walks t ps)) qs) n)
  | inr (t, n) ↦ ap (λ o. walk_on o (at_of p) (λ x. walks x (ps ++ qs))) n ∙ (walks_append ps qs t ∙ sym (ap (λ o. walk_more (walk_on o (at_of p) (λ x. walks x ps)) qs) n))
]

-- an opening bracket stands where a value may, and nowhere else
data TakesOpener (t : State) (b : Bracket) : Type 0 where
  goes_in : (st : List Frame) → goes t (an_opener b) ≡ Some (full (first_mode b) st) → next_in t ≡ next.Value → TakesOpener t b
  goes_nowhere : goes t (an_opener b) ≡ None → IsNoValue (next_in t) → TakesOpener t b

opener : (t : State) (b : Bracket) → TakesOpener t b
opener (value st) Square = goes_in st refl refl
opener (value st) Brace = goes_in st refl refl
opener (items st) Square = goes_in (in_array ∷ st) refl refl
opener (items st) Brace = goes_in (in_array ∷ st) refl refl
opener (after (in_array ∷ st)) b = goes_nowhere refl tt
opener _ b = goes_nowhere refl tt

-- an item may stand there, and leads to a state; or it may not, and leads to none
abbrev Agrees : Bool → Option State → Type 0
Agrees true (Some q) = ⊤
Agrees false None = ⊤
Agrees _ _ = ⊥

-- a run stands where a value may
takes_run : (t : State) → Agrees (takes within.Run (next_in t)) (goes t value_kind)
takes_run (after (in_array ∷ st)) = tt
takes_run _ = tt

-- a string stands where a value or a name may
takes_text : (t : State) → Agrees (takes within.Text (next_in t)) (goes t text_kind)
takes_text (after (in_array ∷ st)) = tt
takes_text _ = tt

abbrev pub IsSomething : Next → Type 0
IsSomething next.Nothing = ⊥
IsSomething _ = ⊤

not_accepted : (t : State) → IsSomething (next_in t) → accepts t ≡ false
not_accepted (after (fr ∷ st)) h = refl
not_accepted _ h = search rules

something : (b c : Bool) → IsSomething (if b then next.Value else (if c then next.Name else next.Mark))
something false true = tt
something _ _ = tt

-- what is answered, as the model's answer
abbrev pub Tells : {X : Type 0} → (X → Content → Type 0) → Result X NestEnd → Answer Tree → Type 0
Tells K (Ok x) (folded t) = K x (one t)
Tells K (Err (Syntax i)) (syntax j) = i ≡ j
Tells K (Err Ended) ended = ⊤
Tells K _ _ = ⊥

module _ {X : Type 0} (K : X → Content → Type 0) where
  -- no opening bracket stands among what is kept before the first open level
  closed_append : (ps qs : List (Piece Tree)) → AreClosed ps → AreClosed qs → AreClosed (ps ++ qs)
  closed_append [] qs h k = k
  closed_append (opens b i ∷ ps) qs h k = absurd h
  closed_append (closes b i ∷ ps) qs h k = closed_append ps qs h k
  closed_append (mark x ∷ ps) qs h k = closed_append ps qs h k

  marks_closed : (xs : List (Mark Tree)) → AreClosed (marks xs)
  marks_closed [] = tt
  marks_closed (x ∷ xs) = marks_closed xs

  closers_closed : (b o : Bracket) (i n : ℕ) → AreClosed (closers b o i n)
  closers_closed b o i zero = tt
  closers_closed b o i (suc n) = closers_closed o b (i + 1) n

  row_closed : (at : ℕ) (w : List ℕ) (c : CodePiece X) (ps : List (Piece Tree)) → AreRow K at w c ps → AreClosed ps
  row_closed at w (RowPiece r) ps h = subst AreClosed (sym h.split) (marks_closed (row_marks ((r.comma, r.first, h.tree) ∷ h.others)))
  row_closed at w (MembersPiece r) ps h = subst AreClosed (sym h.split) (marks_closed (member_marks (h.first ∷ h.others)))
  row_closed at w (ClosersPiece r) ps h = subst AreClosed (sym h.2) (closers_closed r.first r.second r.from (suc h.0))
  row_closed at w _ ps h = absurd h

  piece_closed : (at : ℕ) (w : List ℕ) (c : CodePiece X) (p : Piece Tree) → IsHeldPiece K at w c p → AreClosed (p ∷ [])
  piece_closed at w (Comma i) (opens b j) h = absurd h
  piece_closed at w _ _ h = search rules

  are_closed : (at : ℕ) (w : List ℕ) (c : CodePiece X) (ps : List (Piece Tree)) → ArePieces K at w c ps → AreClosed ps
  are_closed at w c ps (inl (p, e, h)) = subst AreClosed (sym e) (piece_closed at w c p h)
  are_closed at w c ps (inr h) = row_closed at w c ps h

  pub each_closed : (at : ℕ) (w : List ℕ) (cs : List (CodePiece X)) (ps : List (Piece Tree)) → EachPiece K at w cs ps → AreClosed ps
  each_closed at w [] ps h = subst AreClosed (sym h) tt
  each_closed at w (c ∷ cs) ps (us, vs, e, h, hs) = subst AreClosed (sym e) (closed_append us vs (are_closed at w c us h) (each_closed at w cs vs hs))

  -- the first of the items for which something stands: a value alone, or nothing with which a text begins
  data Begins (c : CodePiece X) (ps : List (Piece Tree)) : Type 0 where
    as_value : (x : X) (t : Tree) (p : Piece Tree) → ps ≡ p ∷ [] → is_value_piece c ≡ true → value_of c ≡ Ok x → single free (p ∷ []) ≡ Some t → K x (one t) → goes (value []) (kind_of p) ≡ Some (after []) → first_of_piece c ≡ at_of p → Begins c ps
    as_other : (p : Piece Tree) (qs : List (Piece Tree)) → ps ≡ p ∷ qs → is_value_piece c ≡ false → goes (value []) (kind_of p) ≡ None → first_of_piece c ≡ at_of p → Begins c ps

  piece_begins : (at : ℕ) (w : List ℕ) (c : CodePiece X) (p : Piece Tree) → IsHeldPiece K at w c p → Begins c (p ∷ [])
  piece_begins at w (Comma i) (mark (a_comma j)) h = as_other _ [] refl refl refl h
  piece_begins at w (Colon i) (mark (a_colon j)) h = as_other _ [] refl refl refl h
  piece_begins at w (Text span x) (mark (quoted j cs)) h = as_value x _ _ refl refl refl refl h.2 refl h.0
  piece_begins at w (Value i x) (mark (entry j t)) h = as_value x t _ refl refl refl refl h.1 refl h.0
  piece_begins at w _ _ h = absurd h

  begins : (at : ℕ) (w : List ℕ) (c : CodePiece X) (ps : List (Piece Tree)) → ArePieces K at w c ps → Begins c ps
  begins at w c ps (inl (p, e, h)) = subst (Begins c) (sym e) (piece_begins at w c p h)
  begins at w (RowPiece r) ps (inr h) = as_other _ (marks (entry r.first h.tree ∷ row_marks h.others)) h.split refl refl refl
  begins at w (MembersPiece r) ps (inr h) = as_other _ (marks (marks_behind_comma h.first (member_marks h.others))) h.split refl refl h.comma_is
  begins at w (ClosersPiece r) ps (inr h) = as_other _ (closers r.second r.first (r.from + 1) h.0) h.2 refl refl refl
  begins at w _ ps (inr h) = absurd h

  first_begins : (c : CodePiece X) (ps vs : List (Piece Tree)) → Begins c ps → (q : Piece Tree) × (qs : List (Piece Tree)) × (ps ++ vs ≡ q ∷ qs) × (first_of_piece c ≡ at_of q)
  first_begins c ps vs (as_value x t p e a b d k g f) = (p, vs, ap (λ z. z ++ vs) e, f)
  first_begins c ps vs (as_other p qs e a g f) = (p, qs ++ vs, ap (λ z. z ++ vs) e, f)

  -- what may stand behind what is kept before the first open level, and where its items lead
  data Leads (cs : List (CodePiece X)) (ps : List (Piece Tree)) : Type 0 where
    nothing_yet : outer_next cs ≡ Ok next.Value → walks (value []) ps ≡ reached (value []) → Leads cs ps
    one_value : (x : X) (t : Tree) → outer_next cs ≡ Ok next.Nothing → walks (value []) ps ≡ reached (after []) → only_of cs ≡ Ok x → single free ps ≡ Some t → K x (one t) → Leads cs ps
    not_there : (i : ℕ) → outer_next cs ≡ Err i → walks (value []) ps ≡ refused i → Leads cs ps

  other_leads : (c : CodePiece X) (cs : List (CodePiece X)) (p : Piece Tree) (ps : List (Piece Tree)) → is_value_piece c ≡ false → goes (value []) (kind_of p) ≡ None → first_of_piece c ≡ at_of p → Leads (c ∷ cs) (p ∷ ps)
  other_leads c cs p ps n e f = not_there (first_of_piece c) (is_off cs) (ap (λ o. walk_on o (at_of p) (λ s. walks s ps)) e ∙ ap refused (sym f))
    where
      is_off : (cs : List (CodePiece X)) → outer_next (c ∷ cs) ≡ Err (first_of_piece c)
      is_off [] = ap (λ z. if z then Ok next.Nothing else Err (first_of_piece c)) n
      is_off (d ∷ cs) = ap (λ z. if z then Err (first_of_piece d) else Err (first_of_piece c)) n

  leads : (at : ℕ) (w : List ℕ) (cs : List (CodePiece X)) (ps : List (Piece Tree)) → EachPiece K at w cs ps → Leads cs ps
  leads at w [] ps h = subst (Leads []) (sym h) (nothing_yet refl refl)
  leads at w (c ∷ cs) ps (us, vs, e, h, hs) = subst (Leads (c ∷ cs)) (sym e) (by_first cs (begins at w c us h) hs)
    where
      by_first : (cs : List (CodePiece X)) → Begins c us → EachPiece K at w cs vs → Leads (c ∷ cs) (us ++ vs)
      by_first cs (as_other p qs f a g i) hs = subst (Leads (c ∷ cs)) (sym (ap (λ z. z ++ vs) f)) (other_leads c cs p (qs ++ vs) a g i)
      by_first [] (as_value x t p f a b d k g i) n = subst (Leads (c ∷ [])) (sym (ap (λ z. us ++ z) n ∙ (append-nil us ∙ f)))
          (one_value x t (ap (λ z. if z then Ok next.Nothing else Err (first_of_piece c)) a) (ap (λ o. walk_on o (at_of p) (λ s. walks {X = Tree} s [])) g) b d k)
      by_first (d ∷ ds) (as_value x t p f a b s k g i) (xs, ys, e, l, m) = let (q, qs, r, j) = first_begins d xs ys (begins at w d xs l) in
          subst (Leads (c ∷ (d ∷ ds))) (sym (ap (λ z. z ++ vs) f ∙ ap (λ z. p ∷ z) (e ∙ r)))
          (not_there (first_of_piece d) (ap (λ z. if z then Err (first_of_piece d) else Err (first_of_piece c)) a) (ap (λ o. walk_on o (at_of p) (λ s. walks s (q ∷ qs))) g ∙ ap refused (sym j)))

  outer_walk : (cs : List (CodePiece X)) (ps : List (Piece Tree)) → Leads cs ps → IsNext (outer_next cs) (walks (value []) ps)
  outer_walk cs ps (nothing_yet e f) = rw (e, f) refl
  outer_walk cs ps (one_value x t e f b d k) = rw (e, f) refl
  outer_walk cs ps (not_there i e f) = rw (e, f) refl

  level_walk : (h : Held X) (l : Level Tree) (st : List Frame) → IsHeld K h l → level_next h ≡ next_in (full l.mode st)
  level_walk (array_level i array.Empty xs) l st k = ap (λ md. next_in (full md st)) (sym k.2)
  level_walk (object_level i object.Empty ms) l st k = ap (λ md. next_in (full md st)) (sym k.2)
  level_walk _ l st k = ap (λ md. next_in (full md st)) (sym k.2)

  one_level : (h : Held X) (l : Level Tree) (r : Result Next ℕ) (w : Walk) → IsHeld K h l → moves (first_mode l.bracket) l.inside ≡ Some l.mode → IsNext r w → IsNext (level_after r h) (walk_more w (opens l.bracket l.from ∷ marks l.inside))
  one_level h l (Err i) (refused j) e k q = q
  one_level h l (Ok n) (reached t) e k q = by_opener (opener t l.bracket)
    where
      by_opener : TakesOpener t l.bracket → IsNext (level_after (Ok n) h) (walk_on (goes t (an_opener l.bracket)) l.from (λ s. walks s (marks l.inside)))
      by_opener (goes_in st f v) = next_by _ (Ok (level_next h)) _ (reached (full l.mode st)) (ap (λ z. level_after (Ok z) h) (q ∙ v))
          (ap (λ o. walk_on o l.from (λ s. walks s (marks l.inside))) f ∙ (ap (walks (full (first_mode l.bracket) st)) (sym (append-nil (marks l.inside))) ∙ moves_walk l.inside (first_mode l.bracket) l.mode st [] k)) (level_walk h l st e)
      by_opener (goes_nowhere f v) = next_by _ (Err (from_of h)) _ (refused l.from) (ap (λ z. level_after (Ok z) h) q ∙ after_refused (next_in t) h v) (ap (λ o. walk_on o l.from (λ s. walks s (marks l.inside))) f) (sym (held_from K h l e))
  one_level h l _ _ e k q = absurd q

  levels_walk : (hs : List (Held X)) (ls : List (Level Tree)) (r : Result Next ℕ) (ps : List (Piece Tree)) → EachHeld K hs ls → AreLevels ls → IsNext r (walks (value []) ps) → IsNext (levels_next r hs) (walks (value []) (ps ++ opened ls))
  levels_walk [] [] r ps h k n = subst (λ z. IsNext r (walks (value []) z)) (sym (append-nil ps)) n
  levels_walk (h ∷ hs) (l ∷ ls) r ps (e, es) (k, ks) n =
      let q : IsNext (levels_next r hs) (walks (value []) (ps ++ opened ls)) = levels_walk hs ls r ps es ks n in
      let tail : List (Piece Tree) = opens l.bracket l.from ∷ marks l.inside in
      let w : walks (value []) (ps ++ (opened ls ++ tail)) ≡ walk_more (walks (value []) (ps ++ opened ls)) tail = ap (walks (value [])) (sym (append_assoc ps (opened ls) tail)) ∙ walks_append (ps ++ opened ls) tail (value []) in
      subst (IsNext (level_after (levels_next r hs) h)) (sym w) (one_level h l (levels_next r hs) (walks (value []) (ps ++ opened ls)) e k q)
  levels_walk [] (l ∷ ls) r ps h k n = absurd h
  levels_walk (h ∷ hs) [] r ps k l n = absurd k

  shown_next : (at : ℕ) (w : List ℕ) (s : Shown X) (f : Form Tree) → IsShown K at w s f → AreLevels f.levels → IsNext (next_of s) (walks (value []) (pieces_of f))
  shown_next at w s f h k = levels_walk s.levels f.levels (outer_next s.outer) f.outer h.1 k (outer_walk s.outer f.outer (leads at w s.outer f.outer h.0))

  -- ---- the answer of a text that ends behind its items

  ended_at : (n : Next) (w : Walk) (cs : List (CodePiece X)) (ps : List (Piece Tree)) → IsSomething n → IsNext (Ok n) w → Tells K (answer_by (Ok n) cs) (by_walk free ps w)
  ended_at n (refused i) cs ps h q = absurd q
  ended_at n (reached t) cs ps h q = rw (not_accepted t (subst IsSomething q h)) (by_next n h)
    where
      by_next : (n : Next) → IsSomething n → Tells K (answer_by (Ok n) cs) ended
      by_next next.Nothing h = absurd h
      by_next _ h = tt

  refused_at : (i : ℕ) (w : Walk) (cs : List (CodePiece X)) (ps : List (Piece Tree)) → IsNext (Err i) w → Tells K (answer_by (Err i) cs) (by_walk free ps w)
  refused_at i (refused j) cs ps q = q
  refused_at i (reached t) cs ps q = absurd q

  level_tells : (r : Result Next ℕ) (h : Held X) (w : Walk) (cs : List (CodePiece X)) (ps : List (Piece Tree)) → IsNext (level_after r h) w → Tells K (answer_by (level_after r h) cs) (by_walk free ps w)
  level_tells (Err i) h w cs ps q = refused_at i w cs ps q
  level_tells (Ok next.Value) h w cs ps q = ended_at (level_next h) w cs ps (something (takes_value h) (takes_name h)) q
  level_tells _ h w cs ps q = refused_at (from_of h) w cs ps q

  outer_tells : (cs : List (CodePiece X)) (ps : List (Piece Tree)) → Leads cs ps → Tells K (answer_by (outer_next cs) cs) (by_walk free ps (walks (value []) ps))
  outer_tells cs ps (nothing_yet e f) = rw (e, f) tt
  outer_tells cs ps (one_value x t e f b d k) = rw (e, f, b, d) k
  outer_tells cs ps (not_there i e f) = rw (e, f) refl

  shown_tells : (at : ℕ) (w : List ℕ) (cs : List (CodePiece X)) (ps : List (Piece Tree)) (hs : List (Held X)) (ls : List (Level Tree)) → EachPiece K at w cs ps → EachHeld K hs ls → AreLevels ls
      → Tells K (answer_by (levels_next (outer_next cs) hs) cs) (by_walk free (ps ++ opened ls) (walks (value []) (ps ++ opened ls)))
  shown_tells at w cs ps [] [] h e k = subst (λ z. Tells K (answer_by (outer_next cs) cs) (by_walk free z (walks (value []) z))) (sym (append-nil ps)) (outer_tells cs ps (leads at w cs ps h))
  shown_tells at w cs ps (g ∷ hs) (l ∷ ls) h e k =
      level_tells (levels_next (outer_next cs) hs) g (walks (value []) (ps ++ opened (l ∷ ls))) cs (ps ++ opened (l ∷ ls)) (levels_walk (g ∷ hs) (l ∷ ls) (outer_next cs) ps e k (outer_walk cs ps (leads at w cs ps h)))
  shown_tells at w cs ps _ _ h e k = absurd e

  pub answer_tells : (at : ℕ) (w : List ℕ) (s : Shown X) (f : Form Tree) → IsShown K at w s f → AreLevels f.levels → Tells K (answer_of s) (finished free (further f))
  answer_tells at w s f h k = shown_tells at w s.outer f.outer s.levels f.levels h.0 h.1 k

  -- ---- the answer of a text that stops behind its items

  placed : (b : Bool) (i j k : ℕ) → (if b then j else i) ≡ k → Tells K (Err (if b then Syntax j else Syntax i)) (syntax k)
  placed true i j k e = e
  placed false i j k e = e

  chosen : (b : Bool) (o : Option State) (i j : ℕ) → Agrees b o → (if b then j else i) ≡ choose o i j
  chosen true (Some q) i j h = refl
  chosen false None i j h = refl
  chosen _ _ i j h = absurd h

  halt_at : (within : CodeWithin) (t : State) (i j : ℕ) → (if takes within (next_in t) then j else i) ≡ halt_place t (within_of within) i j
  halt_at within.First t i j = refl
  halt_at within.Run t i j = chosen (takes within.Run (next_in t)) (goes t value_kind) i j (takes_run t)
  halt_at within.Text t i j = chosen (takes within.Text (next_in t)) (goes t text_kind) i j (takes_text t)

  stop_next : (r : Result Next ℕ) (w : Walk) (h : CodeHalt) → IsNext r w → Tells K (Err (stop_of r h)) (stop_by (halt_of h) w)
  stop_next (Err i) (refused j) h q = q
  stop_next (Ok n) (reached t) h q = placed (takes h.within n) h.item h.place _ (ap (λ z. if takes h.within z then h.place else h.item) q ∙ halt_at h.within t h.item h.place)
  stop_next _ _ h q = absurd q

  pub stop_tells : (at : ℕ) (w : List ℕ) (s : Shown X) (f : Form Tree) (h : CodeHalt) → IsShown K at w s f → AreLevels f.levels → Tells K (Err (stop_of (next_of s) h)) (finished free (stopped f (halt_of h)))
  stop_tells at w s f h e k = stop_next (next_of s) (walks (value []) (pieces_of f)) h (shown_next at w s f e k)

  -- ---- the answer of a text that ends in the beginning of an item

  abbrev pub IsOfKind : Bool → CodeWithin → Type 0
  IsOfKind c within.First = ⊥
  IsOfKind c within.Run = c ≡ true
  IsOfKind c within.Text = c ≡ false

  open_at : (b : Bool) (from : ℕ) (o : Option State) → Agrees b o → Tells K (Err (if b then Ended else Syntax from)) (open_or from o)
  open_at true from (Some q) h = tt
  open_at false from None h = refl
  open_at _ from _ h = absurd h

  open_next : (c : Bool) (r : Result Next ℕ) (w : Walk) (within : CodeWithin) (from : ℕ) → IsOfKind c within → IsNext r w → Tells K (Err (open_of r within from)) (open_by c from w)
  open_next c (Err i) (refused j) within from k q = q
  open_next c (Ok n) (reached t) within.First from k q = absurd k
  open_next c (Ok n) (reached t) within.Run from k q = rw (k, q) (open_at (takes within.Run (next_in t)) from (goes t value_kind) (takes_run t))
  open_next c (Ok n) (reached t) within.Text from k q = rw (k, q) (open_at (takes within.Text (next_in t)) from (goes t text_kind) (takes_text t))
  open_next c _ _ within from k q = absurd q

  pub open_tells : (c : Bool) (at : ℕ) (w : List ℕ) (s : Shown X) (f : Form Tree) (within : CodeWithin) (from : ℕ) → IsOfKind c within → IsShown K at w s f → AreLevels f.levels
      → Tells K (Err (open_of (next_of s) within from)) (open_by c from (walks (value []) (pieces_of f)))
  open_tells c at w s f within from k e l = open_next c (next_of s) (walks (value []) (pieces_of f)) within from k (shown_next at w s f e l)
