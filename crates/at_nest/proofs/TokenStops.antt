-- How a token that was cut in two is read: a string or a run that is whole is a mark, one that is not stops.
-- For `finish`, `finish_span`, `merge` and `run_block`.
use Rattle.std.proofs.Common.{◌≡◌, ℕ, ◌⊎◌, inl, inr, List, [], ◌∷◌, ◌++◌, Option, Some, None, option_map, option_and_then, Bool, true, false, cond, not, ◌&&◌, ◌==◌, refl, sym, ◌∙◌, ap, subst, arith, append-nil, codes, ◌+◌, length, true≢false}
use Rattle.std.proofs.lemmas.Bool.{and_left, false_from_ne_true}
use Rattle.std.proofs.lemmas.Option.{none-some, same_Some, option_and_then_some}
use Rattle.at_text.specs.Prefix.{Viable}
use Rattle.at_text.proofs.Machine.{run}
use Rattle.at_nest.proofs.JsonNumber as num
use Rattle.at_lex.specs.declared.tokens.Start.TheVariants.{Out}
use Rattle.at_text.specs.Parts.{At as StandsAt}
use Rattle.at_lex.specs.Strings.{Character, SpellsString}
use Rattle.at_lex.proofs.JsonString as str
use Rattle.at_nest.specs.Syntax.{JsonText}
use Rattle.at_text.specs.Texts.{is_space, is_run}
use Rattle.at_lex.specs.Runs.{Literal, literal_text, the_null, the_true, the_false}
use Rattle.at_nest.specs.Tree.{Tree, Spells}
use Rattle.at_nest.proofs.JsonMachine.{State, Frame, in_array, in_object, value, items, members, name, colon, after, in_string, in_name, in_number, in_word, step, within, begin_value, after_step, colon_step}
use Rattle.at_lex.specs.Spans.{begins_run, end_of}
use Rattle.at_nest.specs.Borders.{ends_run, are_apart}
use Rattle.at_nest.specs.Forms.{Meaning, quoted, entry, mark, IsNoText, fold_of}
use Rattle.at_nest.proofs.Values.{go}
use Rattle.at_nest.proofs.Joins.{run_split, viable_runs, apart_nothing}
use Rattle.at_nest.proofs.Lexical.{At, at_run, opens_quote}
use Rattle.at_nest.proofs.Begun.{string_run, name_run, text_first, number_run, word_run, number_begins, pass, run_no_space, unlike, run_unmarked, tail_of}
use Rattle.at_nest.proofs.Ran.{start_ran, ran_settled}
use Rattle.at_nest.proofs.Steps.{IsStill, run_ended, settled_step, settled_still}
use Rattle.at_nest.specs.Walks.{next, value_kind}
use Rattle.at_nest.proofs.PieceSteps.{unmarked_halts, first}
use Rattle.at_nest.specs.Levels.{Within, plain_halt, at_first, in_text, in_run}
use Rattle.at_nest.proofs.Pushes.{IsForm, IsStop, IsBegun, IsRunBegun}
pub use Rattle.at_nest.specs.Unions.{empty_form}

pub none_goes : (l t : State) (b : ℕ) → step l b ≡ None → go l (b ∷ []) ≡ Some t → ⊥
none_goes l t b e f = none-some t (sym (ap (option_and_then (λ z. Some z)) e) ∙ f)

within_none : {A : Type 0} (f : A → State) (o : Option A) (p : Bool) (past : Option State) → o ≡ None → p ≡ false → within (option_map f o) p past ≡ None
within_none f o p past e h = ap (λ z. within (option_map f z) p past) e ∙ ap (λ c. cond c past None) h

-- bytes in a string that a byte stops are dead, whatever is before
text_dead : (n : str.State) (b : ℕ) (v : List ℕ) (byte : ℕ) → run str.step str.opening (b ∷ v) ≡ Some n → str.step n byte ≡ None → str.accepts n ≡ false
    → (x : List ℕ) → end_of Out x ≡ Out → ¬ (Viable (JsonText 0) (x ++ ((b ∷ v) ++ (byte ∷ []))))
text_dead n b v byte begun stop unfinished x out viable =
    let (first, k, inside) = text_first b v (n, begun) in
    let same : k ≡ n = same_Some k n (sym (opened v k inside first) ∙ begun) in
    let (t, all) = viable_runs (x ++ ((b ∷ v) ++ (byte ∷ []))) viable in
    let (q1, e1, g1) = run_split (value []) t x ((b ∷ v) ++ (byte ∷ [])) all in
    let at1 : At q1 Out = subst (At q1) out (at_run (value []) q1 x Out refl e1) in
    option_and_then_some (λ z. go z (v ++ (byte ∷ []))) (step q1 b) t g1 (λ q2 f2 g2.
    let (st, which) = opens_quote q1 q2 at1 (ap (step q1) (sym first) ∙ f2) in
    let (q3, e3, g3) = run_split q2 t v (byte ∷ []) g2 in
    elim which [
      | inl is ↦ (let there : in_string k st ≡ q3 = same_Some (in_string k st) q3 (sym (string_run str.inside k st v inside) ∙ (ap (λ z. go z v) (sym is) ∙ e3)) in
          none_goes q3 t byte (ap (λ z. step z byte) (sym there) ∙ (ap (λ z. step (in_string z st) byte) same ∙ within_none (λ z. in_string z st) (str.step n byte) (str.accepts n) (after_step st byte) stop unfinished)) g3)
      | inr is ↦ (let there : in_name k st ≡ q3 = same_Some (in_name k st) q3 (sym (name_run str.inside k st v inside) ∙ (ap (λ z. go z v) (sym is) ∙ e3)) in
          none_goes q3 t byte (ap (λ z. step z byte) (sym there) ∙ (ap (λ z. step (in_name z st) byte) same ∙ within_none (λ z. in_name z st) (str.step n byte) (str.accepts n) (colon_step st byte) stop unfinished)) g3)
    ])
  where
    opened : (v : List ℕ) (k : str.State) → run str.step str.inside v ≡ Some k → b ≡ 0x22 → run str.step str.opening (b ∷ v) ≡ Some k
    opened v k inside first = ap (λ c. run str.step str.opening (c ∷ v)) first ∙ inside

-- ---- runs

-- the byte doesn't go on with the rest of a literal
abbrev pub WordStops : List ℕ → ℕ → Type 0
WordStops [] byte = is_run byte ≡ true
WordStops (c ∷ r) byte = (byte == c) ≡ false

-- bytes that begin a run, and a byte that no run goes on with, and behind which no run ends
abbrev pub RunStops : List ℕ → ℕ → Type 0
RunStops u byte = ((n : num.State) × (run num.step num.start u ≡ Some n) × (num.step n byte ≡ None) × ((is_run byte ≡ true) ⊎ (num.accepts n ≡ false)))
    ⊎ ((l : Literal) × (r : List ℕ) × (u ++ r ≡ literal_text l) × WordStops r byte)

run_begun : (u : List ℕ) (byte : ℕ) → RunStops u byte → IsRunBegun u
run_begun u byte (inl (n, e, f, g)) = inl (n, e)
run_begun u byte (inr (l, r, e, f)) = inr (l, r, e)

after_refuses : (st : List Frame) → next (after st) value_kind ≡ None
after_refuses [] = refl
after_refuses (in_array ∷ st) = refl
after_refuses (in_object ∷ st) = refl

after_none : (st : List Frame) (b : ℕ) → is_run b ≡ true → after_step st b ≡ None
after_none st b h = unmarked_halts (after st) b tt (run_unmarked b h) (after_refuses st)

cond_same : {A : Type 0} (p : Bool) (o : Option A) → o ≡ None → cond p o None ≡ None
cond_same true o e = e
cond_same false o e = refl

number_stuck : (n : num.State) (st : List Frame) (byte : ℕ) → num.step n byte ≡ None → (is_run byte ≡ true) ⊎ (num.accepts n ≡ false) → step (in_number n st) byte ≡ None
number_stuck n st byte e (inl h) = ap (λ z. within (option_map (λ v. in_number v st) z) (num.accepts n) (after_step st byte)) e ∙ cond_same (num.accepts n) (after_step st byte) (after_none st byte h)
number_stuck n st byte e (inr h) = within_none (λ z. in_number z st) (num.step n byte) (num.accepts n) (after_step st byte) e h

word_stuck : (r : List ℕ) (st : List Frame) (byte : ℕ) → WordStops r byte → step (in_word r st) byte ≡ None
word_stuck [] st byte h = after_none st byte h
word_stuck (c ∷ r) st byte h = ap (λ p. cond p (Some (in_word r st)) None) h

-- behind the first byte of a run the machine is in it, and is stopped
abbrev Stuck : State → List ℕ → ℕ → Type 0
Stuck s v byte = (t : State) → go s (v ++ (byte ∷ [])) ≡ Some t → ⊥

stuck_by : (s l : State) (v : List ℕ) (byte : ℕ) → go s v ≡ Some l → step l byte ≡ None → Stuck s v byte
stuck_by s l v byte e f t g = let (q, h, k) = run_split s t v (byte ∷ []) g in none_goes q t byte (ap (λ z. step z byte) (same_Some q l (sym h ∙ e)) ∙ f) k

stuck_from : (s s1 : State) (b : ℕ) (v : List ℕ) (byte : ℕ) → step s b ≡ Some s1 → Stuck s1 v byte → Stuck s (b ∷ v) byte
stuck_from s s1 b v byte e h t g = h t (ap (option_and_then (λ z. go z (v ++ (byte ∷ [])))) (sym e) ∙ g)

-- where a value begins with the run's first byte
run_stuck : (st : List Frame) (b : ℕ) (v : List ℕ) (byte : ℕ) → RunStops (b ∷ v) byte → (s : State) × (begin_value st b ≡ Some s) × Stuck s v byte
run_stuck st b v byte (inl (n, e, f, g)) = option_and_then_some (λ x. run num.step x v) (num.step num.start b) n e (λ s h k.
    (in_number s st, number_begins st b s h, stuck_by (in_number s st) (in_number n st) v byte (number_run s n st v k) (number_stuck n st byte f g)))
run_stuck st b v byte (inr (the_null, r, e, f)) = (in_word (codes "ull") st, ap (begin_value st) (ap first e), stuck_by (in_word (codes "ull") st) (in_word r st) v byte (ap (λ z. go (in_word z st) v) (sym (ap tail_of e)) ∙ word_run v r st) (word_stuck r st byte f))
run_stuck st b v byte (inr (the_true, r, e, f)) = (in_word (codes "rue") st, ap (begin_value st) (ap first e), stuck_by (in_word (codes "rue") st) (in_word r st) v byte (ap (λ z. go (in_word z st) v) (sym (ap tail_of e)) ∙ word_run v r st) (word_stuck r st byte f))
run_stuck st b v byte (inr (the_false, r, e, f)) = (in_word (codes "alse") st, ap (begin_value st) (ap first e), stuck_by (in_word (codes "alse") st) (in_word r st) v byte (ap (λ z. go (in_word z st) v) (sym (ap tail_of e)) ∙ word_run v r st) (word_stuck r st byte f))

-- between tokens a byte of a run begins a value, or has no place
run_place : (b : ℕ) → is_run b ≡ true → (s : State) → IsStill s → ((st : List Frame) × (step s b ≡ begin_value st b)) ⊎ (step s b ≡ None)
run_place b k (value st) i = inl (st, pass (is_space b) _ _ _ (run_no_space b k) refl)
run_place b k (items st) i = inl (in_array ∷ st, pass (is_space b) _ _ _ (run_no_space b k) (pass (b == 0x5D) _ _ _ (unlike is_run b 0x5D refl k) refl))
run_place b k (after st) i = inr (after_none st b k)
run_place b k (members st) i = inr (unmarked_halts (members st) b i (run_unmarked b k) refl)
run_place b k (name st) i = inr (unmarked_halts (name st) b i (run_unmarked b k) refl)
run_place b k (colon st) i = inr (unmarked_halts (colon st) b i (run_unmarked b k) refl)
run_place b k _ i = absurd i

run_byte_of : (b : ℕ) (v : List ℕ) (byte : ℕ) → RunStops (b ∷ v) byte → is_run b ≡ true → (s : State) → IsStill s → Stuck s (b ∷ v) byte
run_byte_of b v byte h k s i = elim (run_place b k s i) [
  | inl (st, e) ↦ (let (l, f, g) = run_stuck st b v byte h in stuck_from s l b v byte (e ∙ f) g)
  | inr e ↦ λ t g. none-some t (sym (ap (option_and_then (λ z. go z (v ++ (byte ∷ [])))) e) ∙ g)
]

-- behind bytes that lead outside text and end in no run, the machine goes on as from between tokens
still_behind : (x : List ℕ) (b : ℕ) (w : List ℕ) → is_run b ≡ true → end_of Out x ≡ Out → ends_run x ≡ false → Viable (JsonText 0) (x ++ (b ∷ w)) → (u t : State) × IsStill u × (go u (b ∷ w) ≡ Some t)
still_behind x b w k out last viable =
    let (t, all) = viable_runs (x ++ (b ∷ w)) viable in
    let (q, e, g) = run_split (value []) t x (b ∷ w) all in
    let at1 : At q Out = subst (At q) out (at_run (value []) q x Out refl e) in
    let (u, settled, clear) = ran_settled q at1 (start_ran q x e last) in
    (u, t, settled_still q u settled, ap (option_and_then (λ z. go z w)) (sym (settled_step q u b settled (and_left (run_ended q) (is_run b) clear))) ∙ g)

-- bytes in a run that a byte stops are dead, whatever is before, if no run goes on in them
run_dead : (b : ℕ) (v : List ℕ) (byte : ℕ) → RunStops (b ∷ v) byte → is_run b ≡ true → (x : List ℕ) → end_of Out x ≡ Out → ends_run x ≡ false → ¬ (Viable (JsonText 0) (x ++ ((b ∷ v) ++ (byte ∷ []))))
run_dead b v byte h k x out last viable = let (u, t, i, g) = still_behind x b (v ++ (byte ∷ [])) k out last viable in run_byte_of b v byte h k u i t g

-- ---- the token

pub apart_of_run : (x w : List ℕ) → begins_run w ≡ true → are_apart x w ≡ true → ends_run x ≡ false
apart_of_run x w h k = false_from_ne_true (ends_run x) (λ f. true≢false (sym k ∙ (ap (λ z. not (z && begins_run w)) f ∙ ap not h)))

-- an item that begins the bytes, and in which or behind which a byte stands that no bytes before make viable
stop_at : {X : Type 0} (m : Meaning X) (at : ℕ) (w u : List ℕ) (byte : ℕ) (others : List ℕ) (kind : Within) (place : ℕ) → w ≡ u ++ (byte ∷ others) → place ≡ at + length u → IsBegun kind u
    → ((x : List ℕ) → end_of Out x ≡ Out → are_apart x w ≡ true → ¬ (Viable (JsonText 0) (x ++ (u ++ (byte ∷ []))))) → IsStop {X = X} m at w empty_form (record { kind = kind; item = at; place = place })
stop_at m at w u byte others kind place e f begun dead = record {
  front = [];
  spaces = [];
  begun = u;
  byte = byte;
  others = others;
  split = e;
  form = record { formed = tt; levels = tt };
  are_spaces = tt;
  item = omega arith;
  place = f;
  is_begun = begun;
  apart = refl;
  dead = record { before = u; byte = byte; others = others; split = e; place = f; dead = dead };
}

-- a token that stops in a string
pub text_stops_at : {X : Type 0} (m : Meaning X) (at : ℕ) (w : List ℕ) (n : str.State) (b : ℕ) (v : List ℕ) (byte : ℕ) (others : List ℕ) → w ≡ (b ∷ v) ++ (byte ∷ others) → run str.step str.opening (b ∷ v) ≡ Some n
    → str.step n byte ≡ None → str.accepts n ≡ false → IsStop {X = X} m at w empty_form (record { kind = in_text; item = at; place = at + length (b ∷ v) })
text_stops_at m at w n b v byte others e begun stop unfinished =
    stop_at m at w (b ∷ v) byte others in_text (at + length (b ∷ v)) e refl (b, v, refl, (n, begun)) (λ x out a. text_dead n b v byte begun stop unfinished x out)

-- a token that stops in a run, or at its end
pub run_stops_at : {X : Type 0} (m : Meaning X) (at : ℕ) (w : List ℕ) (b : ℕ) (v : List ℕ) (byte : ℕ) (others : List ℕ) → w ≡ (b ∷ v) ++ (byte ∷ others) → is_run b ≡ true → RunStops (b ∷ v) byte
    → IsStop {X = X} m at w empty_form (record { kind = in_run; item = at; place = at + length (b ∷ v) })
run_stops_at m at w b v byte others e k h = stop_at m at w (b ∷ v) byte others in_run (at + length (b ∷ v)) e refl (b, v, refl, run_begun (b ∷ v) byte h)
    (λ x out a. run_dead b v byte h k x out (apart_of_run x w (ap begins_run e ∙ k) a))

-- a token that is a mark
pub name_is : {X : Type 0} (m : Meaning X) (at : ℕ) (t : List ℕ) (cs : List Character) → StandsAt at (SpellsString cs) at t → IsForm m at t (record { outer = mark (quoted at cs) ∷ []; levels = [] })
name_is m at t cs h = record { formed = ([], t, [], sym (append-nil t), tt, (let e : at ≡ at + 0 = omega arith in subst (λ n. StandsAt at (SpellsString cs) n t) e h), apart_nothing t, tt); levels = tt }

-- a run whose first byte begins no value
pub first_stops_at : {X : Type 0} (m : Meaning X) (at : ℕ) (w : List ℕ) (byte : ℕ) (others : List ℕ) → w ≡ byte ∷ others → is_run byte ≡ true → ((st : List Frame) → begin_value st byte ≡ None) → IsStop {X = X} m at w empty_form (plain_halt at)
first_stops_at m at w byte others e k h = stop_at m at w [] byte others at_first at e (omega arith) refl (λ x out a viable.
    let (u, t, i, g) = still_behind x byte [] k out (apart_of_run x w (ap begins_run e ∙ k) a) viable in
    none_goes u t byte (elim (run_place byte k u i) [ inl (st, f) ↦ f ∙ h st | inr f ↦ f ]) g)

pub value_is : {X : Type 0} (m : Meaning X) (at : ℕ) (t : List ℕ) (x : X) (y : Tree) → Spells at t y → IsNoText y → x ≡ fold_of m y → IsForm m at t (record { outer = mark (entry at x) ∷ []; levels = [] })
value_is m at t x y h n e = record { formed = ([], t, [], sym (append-nil t), tt, (let f : at ≡ at + 0 = omega arith in (f, y, subst (λ k. Spells k t y) f h, n, e)), apart_nothing t, tt); levels = tt }

pub nothing_is : {X : Type 0} (m : Meaning X) (at : ℕ) → IsForm m at [] empty_form
nothing_is m at = record { formed = tt; levels = tt }
