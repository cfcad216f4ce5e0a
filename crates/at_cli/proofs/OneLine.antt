-- Each list of words says at most one line: the one of what is gathered from it.
-- For `read_words` and `top`.
use Rattle.std.proofs.Common.{◌≡◌, ℕ, ◌^◌, ◌<◌, ◌≤◌, List, [], ◌∷◌, ◌++◌, get_or, length, refl, sym, ◌∙◌, ap, subst, Option, Some, None, Result, Ok, Err, IfOk, IfErr, ◌↔◌, option_and_then, option_to_list, codes, lit<, arith, inl, inr}
use Rattle.std.proofs.lemmas.Option.{none-some, same_Some, option_and_then_some}
use Rattle.std.proofs.lemmas.Fmt.{decimal_injective}
use Rattle.at_fixed.specs.declared.rounding.Coords.{Coords}
use Rattle.at_fixed.specs.declared.rounding.Coords.TheVariants.{Exact, Round}
use Rattle.at_cli.specs.declared.words.flags.Setting.{Setting}
use Rattle.at_cli.specs.declared.words.flags.Setting.TheVariants as settings
use Rattle.at_run.specs.declared.forms.Form.{Form}
use Rattle.at_run.specs.declared.forms.Form.TheVariants.{GeoJson, Wkt, Seq}
use Rattle.at_cli.specs.declared.words.line.Line.{Line}
use Rattle.at_cli.specs.declared.words.line.WordsEnd.{WordsEnd}
use Rattle.at_cli.specs.declared.words.line.WordsEnd.TheVariants.{Refused, Memory}
use Rattle.at_cli.specs.declared.words.pieces.Next.{Next}
use Rattle.at_cli.specs.declared.words.pieces.Next.TheVariants as nexts
use Rattle.at_cli.specs.Pieces.{Piece, SpellPieces, values_of, positionals_of}
use Rattle.at_cli.specs.Values.{form_text, coords_text, SpellsDigits, IsWhole}
use Rattle.at_cli.specs.LineOf.{IsChosen, SpellsForm, SpellsFeed, HasNames, HasValues, SaysLine}
use Rattle.at_cli.specs.Steps.{State, start, walk, unless_waiting, gathered, given_in}
use Rattle.at_cli.proofs.Spelled.{IsEnded, end_next, ReadsAs, walked, pieces_read, list_same}

values_same : (values others : Setting → List (List ℕ)) (positionals places : List (List ℕ)) (line : Line) → ((s : Setting) → values s ≡ others s) → positionals ≡ places
    → HasValues values positionals line → HasValues others places line
values_same values others positionals places line same moved h =
    let P : List (List ℕ) → Type 0 = λ x. IsChosen None SpellsForm x line.form in
    let Q : List (List ℕ) → Type 0 = λ x. IsChosen Round (λ text how. text ≡ coords_text how) x line.how in
    let D : List (List ℕ) → Type 0 = λ x. IsChosen 7 SpellsDigits x line.digits in
    let R : List (List ℕ) → Type 0 = λ x. IsChosen 64 (IsWhole 1 4096) x line.blocks in
    let S : List (List ℕ) → Type 0 = λ x. IsChosen 4 (IsWhole 1 64) x line.workers in
    let F : List (List ℕ) → Type 0 = λ x. IsChosen None SpellsFeed x line.feed in
    let N : List (List ℕ) → Type 0 = λ x. HasNames x line.query line.first line.second in
    record {
      form = subst P (same settings.Form) h.form;
      how = subst Q (same settings.Coords) h.how;
      digits = subst D (same settings.Digits) h.digits;
      blocks = subst R (same settings.Blocks) h.blocks;
      workers = subst S (same settings.Workers) h.workers;
      feed = subst F (same settings.Feed) h.feed;
      can_feed = h.can_feed;
      names = subst N moved h.names;
    }

given_at_start : (s : Setting) → given_in start s ≡ []
given_at_start settings.Form = refl
given_at_start _ = refl

when_ended : (next : Next) (t st : State) → unless_waiting next t ≡ Some st → (t ≡ st) × IsEnded next
when_ended (nexts.Value s) t st e = absurd (none-some st e)
when_ended _ t st e = (same_Some t st e, tt)

said_when_read : (words : List (List ℕ)) (st : State) (line : Line) → ReadsAs start words st → HasValues (given_in st) st.places line → SaysLine words line
said_when_read words st line r h = (
  r.pieces,
  r.after,
  r.are,
  values_same (given_in st) (values_of r.pieces) st.places (positionals_of r.pieces r.after) line
      (λ s. r.adds.values s ∙ ap (λ x. x ++ values_of r.pieces s) (given_at_start s)) r.adds.positionals h,
)

-- the line of what is gathered is said
pub said : (words : List (List ℕ)) (st : State) (line : Line) → gathered words ≡ Some st → HasValues (given_in st) st.places line → SaysLine words line
said words st line e h = option_and_then_some (λ x. unless_waiting x.next x) (walk start words) st e (λ t f g.
    let (same, ended) = when_ended t.next t st g in
    let P : State → Type 0 = λ x. ReadsAs start words x in
    said_when_read words st line (subst P same (walked words start t refl f ended)) h)

abbrev first_of : List (List ℕ) → Option (List ℕ)
first_of [] = None
first_of (x ∷ xs) = Some x

at_most_one : {X : Type 0} (default : X) (Spells : List ℕ → X → Type 0) (values : List (List ℕ)) (x : X) → IsChosen default Spells values x → option_to_list (first_of values) ≡ values
at_most_one default Spells (v ∷ w ∷ more) x h = absurd h
at_most_one default Spells _ x h = refl

length-option : (o : Option (List ℕ)) → length (option_to_list o) ≤ 1
length-option None = omega arith
length-option (Some x) = omega arith

ended_next : (after : Option (List (List ℕ))) (st : State) → unless_waiting (end_next after) st ≡ Some st
ended_next None st = refl
ended_next (Some words) st = refl

-- what is gathered from words that say a line
abbrev state_for : List Piece → Option (List (List ℕ)) → State
state_for pieces after = record {
  form = first_of (values_of pieces settings.Form);
  coords = first_of (values_of pieces settings.Coords);
  digits = first_of (values_of pieces settings.Digits);
  blocks = first_of (values_of pieces settings.Blocks);
  workers = first_of (values_of pieces settings.Workers);
  feed = first_of (values_of pieces settings.Feed);
  places = positionals_of pieces after;
  next = end_next after;
}

given_for : (pieces : List Piece) (after : Option (List (List ℕ))) (line : Line) → HasValues (values_of pieces) (positionals_of pieces after) line
    → (s : Setting) → given_in (state_for pieces after) s ≡ values_of pieces s
given_for pieces after line h settings.Form = at_most_one None SpellsForm (values_of pieces settings.Form) line.form h.form
given_for pieces after line h settings.Coords = at_most_one Round (λ text how. text ≡ coords_text how) (values_of pieces settings.Coords) line.how h.how
given_for pieces after line h settings.Digits = at_most_one 7 SpellsDigits (values_of pieces settings.Digits) line.digits h.digits
given_for pieces after line h settings.Blocks = at_most_one 64 (IsWhole 1 4096) (values_of pieces settings.Blocks) line.blocks h.blocks
given_for pieces after line h settings.Workers = at_most_one 4 (IsWhole 1 64) (values_of pieces settings.Workers) line.workers h.workers
given_for pieces after line h settings.Feed = at_most_one None SpellsFeed (values_of pieces settings.Feed) line.feed h.feed

walk_for : (words : List (List ℕ)) (pieces : List Piece) (after : Option (List (List ℕ))) (line : Line) → SpellPieces words pieces after
    → HasValues (values_of pieces) (positionals_of pieces after) line → walk start words ≡ Some (state_for pieces after)
walk_for words pieces after line are h =
    let few : length (positionals_of pieces after) ≤ 3 = omega (arith, ap length h.names.places, length-option line.second) in
    ap (walk start) are.spelled ∙ pieces_read pieces after start (state_for pieces after) are.are_pieces refl (record {
      values = λ s. given_for pieces after line h s ∙ ap (λ x. x ++ values_of pieces s) (sym (given_at_start s));
      positionals = refl;
    }) refl few

-- words that say a line are gathered, and give it
pub gathers : (words : List (List ℕ)) (line : Line) → SaysLine words line → (st : State) × (gathered words ≡ Some st) × HasValues (given_in st) st.places line
gathers words line (pieces, after, are, h) = (
  state_for pieces after,
  ap (option_and_then (λ x. unless_waiting x.next x)) (walk_for words pieces after line are h) ∙ ended_next after (state_for pieces after),
  values_same (values_of pieces) (given_in (state_for pieces after)) (positionals_of pieces after) (positionals_of pieces after) line
      (λ s. sym (given_for pieces after line h s)) refl h,
)

-- words from which nothing is gathered say no line
pub says_none : (words : List (List ℕ)) (line : Line) → gathered words ≡ None → SaysLine words line → ⊥
says_none words line e h = let (st, f, more) = gathers words line h in none-some st (sym e ∙ f)

-- and others say a line where what is gathered from them has it
pub says_gathered : (words : List (List ℕ)) (st : State) (line : Line) → gathered words ≡ Some st → SaysLine words line → HasValues (given_in st) st.places line
says_gathered words st line e h =
    let (found, f, more) = gathers words line h in
    let P : State → Type 0 = λ x. HasValues (given_in x) x.places line in
    subst P (same_Some found st (sym f ∙ e)) more

chosen_once : {X : Type 0} (default : X) (Spells : List ℕ → X → Type 0) (values : List (List ℕ)) (x y : X) → ((text : List ℕ) (a b : X) → Spells text a → Spells text b → a ≡ b)
    → IsChosen default Spells values x → IsChosen default Spells values y → x ≡ y
chosen_once default Spells [] x y once g h = g ∙ sym h
chosen_once default Spells (v ∷ []) x y once g h = once v x y g h
chosen_once default Spells (v ∷ w ∷ more) x y once g h = absurd g

apart : (m n : ℕ) → m < n → m ≡ n → ⊥
apart m n less same = omega arith

one_form : (a b : Form) → form_text a ≡ form_text b → a ≡ b
one_form GeoJson GeoJson e = refl
one_form Wkt Wkt e = refl
one_form Wkt Seq e = absurd (apart 115 119 (lit< tt) (sym (ap (λ (text : List ℕ). get_or text 0 0) e)))
one_form Seq Wkt e = absurd (apart 115 119 (lit< tt) (ap (λ (text : List ℕ). get_or text 0 0) e))
one_form Seq Seq e = refl
one_form _ _ e = cc

pub one_said_form : (text : List ℕ) (a b : Option Form) → SpellsForm text a → SpellsForm text b → a ≡ b
one_said_form text a b (f, e, t) (g, h, u) = e ∙ ap Some (one_form f g (sym t ∙ u)) ∙ sym h

one_text : (a b : Coords) → coords_text a ≡ coords_text b → a ≡ b
one_text Exact Round e = absurd (apart 101 114 (lit< tt) (ap (λ text. get_or text 0 0) e))
one_text Round Exact e = absurd (apart 101 114 (lit< tt) (sym (ap (λ text. get_or text 0 0) e)))
one_text _ _ e = refl

pub one_coords : (text : List ℕ) (a b : Coords) → text ≡ coords_text a → text ≡ coords_text b → a ≡ b
one_coords text a b e f = one_text a b (sym e ∙ f)

not_both : (text : List ℕ) → text ≡ codes "7" → text ≡ codes "9" → ⊥
not_both text seven nine = apart 55 57 (lit< tt) (ap (λ (t : List ℕ). get_or t 0 0) (sym seven ∙ nine))

one_digits : (text : List ℕ) (a b : ℕ) → SpellsDigits text a → SpellsDigits text b → a ≡ b
one_digits text a b (inl (seven, e)) (inl (also, f)) = e ∙ sym f
one_digits text a b (inl (seven, e)) (inr (nine, f)) = absurd (not_both text seven nine)
one_digits text a b (inr (nine, e)) (inl (seven, f)) = absurd (not_both text seven nine)
one_digits text a b (inr (nine, e)) (inr (also, f)) = e ∙ sym f

pub one_whole : (low high : ℕ) → high < 2 ^ 32 → (text : List ℕ) (a b : ℕ) → IsWhole low high text a → IsWhole low high text b → a ≡ b
one_whole low high small text a b g h = decimal_injective a b (omega (arith, g.most)) (omega (arith, h.most)) (sym g.written ∙ h.written)

one_feed : (text : List ℕ) (a b : Option ℕ) → SpellsFeed text a → SpellsFeed text b → a ≡ b
one_feed text a b (m, e, g) (n, f, h) = e ∙ ap Some (one_whole 1 1048576 (lit< tt) text m n g h) ∙ sym f

make_line : Option Form → Coords → ℕ → ℕ → ℕ → Option ℕ → List ℕ → List ℕ → Option (List ℕ) → Line
make_line form how digits blocks workers feed query first second = record {
  form = form;
  how = how;
  digits = digits;
  blocks = blocks;
  workers = workers;
  feed = feed;
  query = query;
  first = first;
  second = second;
}

made_same : (f g : Option Form) (h k : Coords) (d e b c w v : ℕ) (i j : Option ℕ) (q p x y : List ℕ) (s t : Option (List ℕ))
    → f ≡ g → h ≡ k → d ≡ e → b ≡ c → w ≡ v → i ≡ j → q ≡ p → x ≡ y → s ≡ t → make_line f h d b w i q x s ≡ make_line g k e c v j p y t
made_same f g h k d e b c w v i j q p x y s t e1 e2 e3 e4 e5 e6 e7 e8 e9 = cc

line_same : (a b : Line) → a.form ≡ b.form → a.how ≡ b.how → a.digits ≡ b.digits → a.blocks ≡ b.blocks → a.workers ≡ b.workers → a.feed ≡ b.feed → a.query ≡ b.query → a.first ≡ b.first → a.second ≡ b.second → a ≡ b
unfolding make_line
line_same a b form how digits blocks workers feed query first second =
    made_same a.form b.form a.how b.how a.digits b.digits a.blocks b.blocks a.workers b.workers a.feed b.feed a.query b.query a.first b.first a.second b.second form how digits blocks workers feed query first second

one_line_of : (values : Setting → List (List ℕ)) (positionals : List (List ℕ)) (a b : Line) → HasValues values positionals a → HasValues values positionals b → a ≡ b
one_line_of values positionals a b g h =
    let places : a.query ∷ a.first ∷ option_to_list a.second ≡ b.query ∷ b.first ∷ option_to_list b.second = sym g.names.places ∙ h.names.places in
    let last : option_to_list a.second ≡ option_to_list b.second = cc in
    line_same a b
    (chosen_once None SpellsForm (values settings.Form) a.form b.form one_said_form g.form h.form)
    (chosen_once Round (λ text how. text ≡ coords_text how) (values settings.Coords) a.how b.how one_coords g.how h.how)
    (chosen_once 7 SpellsDigits (values settings.Digits) a.digits b.digits one_digits g.digits h.digits)
    (chosen_once 64 (IsWhole 1 4096) (values settings.Blocks) a.blocks b.blocks (one_whole 1 4096 (lit< tt)) g.blocks h.blocks)
    (chosen_once 4 (IsWhole 1 64) (values settings.Workers) a.workers b.workers (one_whole 1 64 (lit< tt)) g.workers h.workers)
    (chosen_once None SpellsFeed (values settings.Feed) a.feed b.feed one_feed g.feed h.feed)
    (cc) (cc) (list_same a.second b.second last)

-- the same words say the same line
pub one_line : (words : List (List ℕ)) (a b : Line) → SaysLine words a → SaysLine words b → a ≡ b
one_line words a b g h =
    let (st, e, first) = gathers words a g in
    one_line_of (given_in st) st.places a b first (says_gathered words st b e h)

-- so where a line is said, no other is
pub no_other : (words : List (List ℕ)) (said : Line) (r : Result Line WordsEnd) → SaysLine words said → IfOk r (λ line. line ≡ said)
    → IfOk r (λ line. (other : Line) → SaysLine words other → other ≡ line)
no_other words said (Ok line) says same = λ other h. one_line words other said h says ∙ sym same
no_other words said (Err end) says same = tt

-- and the words aren't refused
pub not_refused : (words : List (List ℕ)) (said : Line) (r : Result Line WordsEnd) → SaysLine words said → IfErr r (λ end. end ≡ Memory)
    → (r ≡ Err Refused) ↔ ((line : Line) → SaysLine words line → ⊥)
not_refused words said (Ok line) says memory = ((λ e. cc), λ none. absurd (none said says))
not_refused words said (Err end) says memory = ((λ e. let same : end ≡ Refused = cc in let clash : Refused ≡ Memory = sym same ∙ memory in cc), λ none. absurd (none said says))
