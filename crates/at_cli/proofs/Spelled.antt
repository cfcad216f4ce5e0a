-- The words that are read one by one are the words of pieces, and the words of pieces are read one by one.
-- For `read_words` and `top`.
use Rattle.std.proofs.Common.{◌≡◌, ℕ, ◌<◌, ◌≤◌, Bool, true, false, cond, List, [], ◌∷◌, ◌++◌, flat_map, length, refl, sym, ◌∙◌, ap, subst, append_assoc, append-nil, length-append, Option, Some, None, option_map, option_and_then, option_to_list, arith, bytes_eq, codes, nat_lt}
use Rattle.std.proofs.lemmas.Slice.Eq.{bytes_eq-Decides}
use Rattle.std.proofs.lemmas.Bool.{lt-ltb}
use Rattle.std.proofs.lemmas.Option.{none-some, same_Some, option_and_then_some}
use Rattle.std.specs.Prelude.{⊤}
use Rattle.std.specs.List.{AllByRecursion, cons_option}
use Rattle.std.specs.Option.{option_or}
use Rattle.at_cli.specs.Words.{begins_with}
use Rattle.at_cli.specs.declared.words.flags.Setting.{Setting}
use Rattle.at_cli.specs.declared.words.flags.Setting.TheVariants as settings
use Rattle.at_cli.specs.declared.words.pieces.Next.{Next}
use Rattle.at_cli.specs.declared.words.pieces.Next.TheVariants as nexts
use Rattle.at_cli.specs.Pieces.{setting_name, Piece, apart, joined, positional, words_of, IsPiece, end_words, SpellPieces, value_in, values_of, positionals_of}
use Rattle.at_cli.specs.Steps.{FlagWord, flag_behind, flag_for, flag_in, behind, State, value_at, set_value, unless_given, with_value, with_place, with_flag_value, with_flag, with_piece, step_by, step, walk, given_in}
use Rattle.at_cli.proofs.Prefixes.{behind-is}

-- the words of each kind of piece

pub piece_apart : (s : Setting) (st : State) → with_piece (setting_name s) st ≡ Some (record st { next = nexts.Value s })
piece_apart settings.Form st = refl
piece_apart _ st = refl

pub piece_joined : (s : Setting) (v : List ℕ) (st : State) → with_piece (setting_name s ++ codes "=" ++ v) st ≡ with_value s v st
piece_joined settings.Form v st = refl
piece_joined _ v st = refl

pub piece_positional : (w : List ℕ) (st : State) → begins_with (codes "-") w ≡ false → with_piece w st ≡ with_place w st
piece_positional w st e = rw e refl

pub piece_end : (st : State) → with_piece (codes "--") st ≡ Some (record st { next = nexts.Positional })
piece_end st = refl

-- the word of an option
abbrev FlagSpells : List ℕ → Setting → Option (List ℕ) → Type 0
FlagSpells word s None = word ≡ setting_name s
FlagSpells word s (Some v) = word ≡ setting_name s ++ codes "=" ++ v

flag_rest : (s : Setting) (word rest : List ℕ) (f : FlagWord) → word ≡ setting_name s ++ rest → flag_behind s rest ≡ Some f → FlagSpells word f.setting f.value
flag_rest s word [] f e g = let P : FlagWord → Type 0 = λ h. FlagSpells word h.setting h.value in subst P (same_Some _ _ g) (e ∙ append-nil (setting_name s))
flag_rest s word (b ∷ rest) f e g = by_value (behind (codes "=") (b ∷ rest)) refl g
  where
    by_value : (o : Option (List ℕ)) → behind (codes "=") (b ∷ rest) ≡ o → option_map (λ value. record { setting = s; value = Some value }) o ≡ Some f → FlagSpells word f.setting f.value
    by_value None h g' = absurd (none-some f g')
    by_value (Some v) h g' =
        let P : FlagWord → Type 0 = λ h. FlagSpells word h.setting h.value in
        subst P (same_Some _ _ g') (e ∙ ap (λ t. setting_name s ++ t) (behind-is (codes "=") (b ∷ rest) v h) ∙ sym (append_assoc (setting_name s) (codes "=") v))

flag_for-is : (s : Setting) (word : List ℕ) (f : FlagWord) → flag_for s word ≡ Some f → FlagSpells word f.setting f.value
flag_for-is s word f e = option_and_then_some (flag_behind s) (behind (setting_name s) word) f e (λ rest h g. flag_rest s word rest f (behind-is (setting_name s) word rest h) g)

from_either : (a b : Option FlagWord) (f : FlagWord) (P : Type 0) → (a ≡ Some f → P) → (b ≡ Some f → P) → option_or a b ≡ Some f → P
from_either None b f P left right e = right e
from_either (Some x) b f P left right e = left e

pub flag_in-is : (word : List ℕ) (f : FlagWord) → flag_in word ≡ Some f → FlagSpells word f.setting f.value
flag_in-is word f = let P : Type 0 = FlagSpells word f.setting f.value in
    from_either _ _ f P (from_either _ _ f P (from_either _ _ f P (from_either _ _ f P (from_either _ _ f P (flag_for-is settings.Form word f) (flag_for-is settings.Coords word f)) (flag_for-is settings.Digits word f))
    (flag_for-is settings.Blocks word f)) (flag_for-is settings.Workers word f)) (flag_for-is settings.Feed word f)

-- values and positionals after one piece

given-places : (st : State) (places : List (List ℕ)) (t : Setting) → given_in (record st { places = places }) t ≡ given_in st t
given-places st places settings.Form = refl
given-places st places _ = refl

given-next : (st : State) (next : Next) (t : Setting) → given_in (record st { next = next }) t ≡ given_in st t
given-next st next settings.Form = refl
given-next st next _ = refl

value-next : (st : State) (next : Next) (t : Setting) → value_at (record st { next = next }) t ≡ value_at st t
value-next st next settings.Form = refl
value-next st next _ = refl

-- what is given once is given first
given-set : (st : State) (s t : Setting) (v : List ℕ) (more : List (List ℕ)) → value_at st s ≡ None
    → given_in (set_value s v st) t ++ more ≡ given_in st t ++ cons_option (value_in t (apart s v)) more
given-set st settings.Form settings.Form v more e = rw e refl
given-set st settings.Coords settings.Coords v more e = rw e refl
given-set st settings.Digits settings.Digits v more e = rw e refl
given-set st settings.Blocks settings.Blocks v more e = rw e refl
given-set st settings.Workers settings.Workers v more e = rw e refl
given-set st settings.Feed settings.Feed v more e = rw e refl
given-set st _ _ v more e = refl

set-places : (st : State) (s : Setting) (v : List ℕ) → (set_value s v st).places ≡ st.places
set-places st settings.Form v = refl
set-places st _ v = refl

set-next : (st : State) (s : Setting) (v : List ℕ) → (set_value s v st).next ≡ nexts.Any
set-next st settings.Form v = refl
set-next st _ v = refl

given_once : (o : Option (List ℕ)) (st u : State) → unless_given o st ≡ Some u → (o ≡ None) × (st ≡ u)
given_once None st u e = (refl, same_Some st u e)
given_once (Some v) st u e = absurd (none-some u e)

-- the state that a positional more gives
placed_once : (w : List ℕ) (st u : State) → with_place w st ≡ Some u → record st { places = st.places ++ w ∷ [] } ≡ u
placed_once w st u e = by_room (nat_lt (length st.places) 3) e
  where
    by_room : (b : Bool) → option_map (λ places. record st { places = places }) (cond b (Some (st.places ++ w ∷ [])) None) ≡ Some u → record st { places = st.places ++ w ∷ [] } ≡ u
    by_room true h = same_Some _ _ h
    by_room false h = absurd (none-some u h)

-- from one state to another by the pieces
pub record Adds (st : State) (pieces : List Piece) (after : Option (List (List ℕ))) (u : State) : Type 0 where
  pub values : (s : Setting) → given_in u s ≡ given_in st s ++ values_of pieces s
  pub positionals : u.places ≡ st.places ++ positionals_of pieces after

pub record ReadsAs (st : State) (words : List (List ℕ)) (u : State) : Type 0 where
  pub pieces : List Piece
  pub after : Option (List (List ℕ))
  pub are : SpellPieces words pieces after
  pub adds : Adds st pieces after u

abbrev pub IsEnded : Next → Type 0
IsEnded (nexts.Value s) = ⊥
IsEnded _ = ⊤

-- the words after the end word
places_walked : (words : List (List ℕ)) (st u : State) → st.next ≡ nexts.Positional → walk st words ≡ Some u
    → ((s : Setting) → given_in u s ≡ given_in st s) × (u.places ≡ st.places ++ words)
places_walked [] st u n e = let same : st ≡ u = same_Some st u e in ((λ s. ap (λ x. given_in x s) (sym same)), ap (λ x. x.places) (sym same) ∙ sym (append-nil st.places))
places_walked (w ∷ words) st u n e = option_and_then_some (λ next. walk next words) (step st w) u e (λ t f g.
    let here : record st { places = st.places ++ w ∷ [] } ≡ t = placed_once w st t (sym (ap (λ k. step_by k w st) n) ∙ f) in
    let P : State → Type 0 = λ x. ((s : Setting) → given_in u s ≡ given_in x s) × (u.places ≡ x.places ++ words) in
    let (given, places) = subst P (sym here) (places_walked words t u (ap (λ x. x.next) (sym here) ∙ n) g) in
    ((λ s. given s ∙ given-places st (st.places ++ w ∷ []) s), places ∙ append_assoc st.places (w ∷ []) words))

none_more : (st : State) (u : State) → st ≡ u → ReadsAs st [] u
none_more st u same = record {
  pieces = [];
  after = None;
  are = record { spelled = refl; are_pieces = tt };
  adds = record {
    values = λ s. ap (λ x. given_in x s) (sym same) ∙ sym (append-nil (given_in st s));
    positionals = ap (λ x. x.places) (sym same) ∙ sym (append-nil st.places);
  };
}

positional_more : (st u : State) (w : List ℕ) (words : List (List ℕ)) → begins_with (codes "-") w ≡ false
    → ReadsAs (record st { places = st.places ++ w ∷ [] }) words u → ReadsAs st (w ∷ words) u
positional_more st u w words plain r = record {
  pieces = positional w ∷ r.pieces;
  after = r.after;
  are = record { spelled = ap (λ ws. w ∷ ws) r.are.spelled; are_pieces = (plain, r.are.are_pieces) };
  adds = record {
    values = λ s. r.adds.values s ∙ ap (λ x. x ++ values_of r.pieces s) (given-places st (st.places ++ w ∷ []) s);
    positionals = r.adds.positionals ∙ append_assoc st.places (w ∷ []) (positionals_of r.pieces r.after);
  };
}

joined_more : (st u : State) (s : Setting) (v : List ℕ) (words : List (List ℕ)) → value_at st s ≡ None
    → ReadsAs (set_value s v st) words u → ReadsAs st ((setting_name s ++ codes "=" ++ v) ∷ words) u
joined_more st u s v words none r = record {
  pieces = joined s v ∷ r.pieces;
  after = r.after;
  are = record { spelled = ap (λ ws. (setting_name s ++ codes "=" ++ v) ∷ ws) r.are.spelled; are_pieces = (tt, r.are.are_pieces) };
  adds = record {
    values = λ t. r.adds.values t ∙ given-set st s t v (values_of r.pieces t) none;
    positionals = r.adds.positionals ∙ ap (λ x. x ++ positionals_of r.pieces r.after) (set-places st s v);
  };
}

apart_more : (st u : State) (s : Setting) (v : List ℕ) (words : List (List ℕ)) → value_at st s ≡ None
    → ReadsAs (set_value s v st) words u → ReadsAs st (setting_name s ∷ v ∷ words) u
apart_more st u s v words none r = record {
  pieces = apart s v ∷ r.pieces;
  after = r.after;
  are = record { spelled = ap (λ ws. setting_name s ∷ v ∷ ws) r.are.spelled; are_pieces = (tt, r.are.are_pieces) };
  adds = record {
    values = λ t. r.adds.values t ∙ given-set st s t v (values_of r.pieces t) none;
    positionals = r.adds.positionals ∙ ap (λ x. x ++ positionals_of r.pieces r.after) (set-places st s v);
  };
}

end_more : (st u : State) (words : List (List ℕ)) → walk (record st { next = nexts.Positional }) words ≡ Some u → ReadsAs st (codes "--" ∷ words) u
end_more st u words e =
    let (given, places) = places_walked words (record st { next = nexts.Positional }) u refl e in
    record {
      pieces = [];
      after = Some words;
      are = record { spelled = refl; are_pieces = tt };
      adds = record {
        values = λ s. given s ∙ given-next st nexts.Positional s ∙ sym (append-nil (given_in st s));
        positionals = places;
      };
    }

set-again : (st : State) (next : Next) (s : Setting) (v : List ℕ) → set_value s v (record st { next = next }) ≡ set_value s v st
set-again st next settings.Form v = refl
set-again st next _ v = refl

-- one word that is no option's value
piece_walked : (w : List ℕ) (words : List (List ℕ)) (st t u : State) → st.next ≡ nexts.Any → with_piece w st ≡ Some t → walk t words ≡ Some u
    → ((x : State) → x.next ≡ nexts.Any → walk x words ≡ Some u → ReadsAs x words u)
    → ((s : Setting) → walk (record st { next = nexts.Value s }) words ≡ Some u → ReadsAs st (setting_name s ∷ words) u)
    → ReadsAs st (w ∷ words) u
piece_walked w words st t u n f g later valued = by_dash (begins_with (codes "-") w) refl f
  where
    by_value : (s : Setting) (o : Option (List ℕ)) → FlagSpells w s o → with_flag_value st s o ≡ Some t → ReadsAs st (w ∷ words) u
    by_value s None spelled m =
        let P : State → Type 0 = λ x. walk x words ≡ Some u in
        let Q : List ℕ → Type 0 = λ x. ReadsAs st (x ∷ words) u in
        subst Q (sym spelled) (valued s (subst P (sym (same_Some _ _ m)) g))
    by_value s (Some v) spelled m =
        let (none, set) = given_once (value_at st s) (set_value s v st) t m in
        let P : State → Type 0 = λ x. walk x words ≡ Some u in
        let Q : List ℕ → Type 0 = λ x. ReadsAs st (x ∷ words) u in
        subst Q (sym spelled) (joined_more st u s v words none (later (set_value s v st) (set-next st s v) (subst P (sym set) g)))

    by_end : (b : Bool) → bytes_eq w (codes "--") ≡ b
        → cond b (Some (record st { next = nexts.Positional })) (option_and_then (with_flag st) (flag_in w)) ≡ Some t → ReadsAs st (w ∷ words) u
    by_end true same h =
        let P : State → Type 0 = λ x. walk x words ≡ Some u in
        let Q : List ℕ → Type 0 = λ x. ReadsAs st (x ∷ words) u in
        subst Q (sym ((bytes_eq-Decides w (codes "--")).0 same)) (end_more st u words (subst P (sym (same_Some _ _ h)) g))
    by_end false same h = option_and_then_some (with_flag st) (flag_in w) t h (λ flag k m. by_value flag.setting flag.value (flag_in-is w flag k) m)

    by_dash : (b : Bool) → begins_with (codes "-") w ≡ b
        → cond b (cond (bytes_eq w (codes "--")) (Some (record st { next = nexts.Positional })) (option_and_then (with_flag st) (flag_in w))) (with_place w st) ≡ Some t
        → ReadsAs st (w ∷ words) u
    by_dash true dash h = by_end (bytes_eq w (codes "--")) refl h
    by_dash false plain h =
        let here : record st { places = st.places ++ w ∷ [] } ≡ t = placed_once w st t h in
        let P : State → Type 0 = λ x. ReadsAs x words u in
        positional_more st u w words plain (subst P (sym here) (later t (ap (λ x. x.next) (sym here) ∙ n) g))

-- words that are read are the words of pieces
pub walked : (words : List (List ℕ)) (st u : State) → st.next ≡ nexts.Any → walk st words ≡ Some u → IsEnded u.next → ReadsAs st words u
walked [] st u n e ended = none_more st u (same_Some st u e)
walked (w ∷ []) st u n e ended = option_and_then_some (λ next. walk next []) (step st w) u e (λ t f g.
    piece_walked w [] st t u n (sym (ap (λ k. step_by k w st) n) ∙ f) g
    (λ x m h. walked [] x u m h ended)
    (λ s h. absurd (subst IsEnded (ap (λ x. x.next) (sym (same_Some _ _ h))) ended)))
walked (w ∷ v ∷ words) st u n e ended = option_and_then_some (λ next. walk next (v ∷ words)) (step st w) u e (λ t f g.
    piece_walked w (v ∷ words) st t u n (sym (ap (λ k. step_by k w st) n) ∙ f) g
    (λ x m h. walked (v ∷ words) x u m h ended)
    (λ s h. option_and_then_some (λ next. walk next words) (with_value s v (record st { next = nexts.Value s })) u h (λ x k m.
    let (none, set) = given_once (value_at (record st { next = nexts.Value s }) s) (set_value s v (record st { next = nexts.Value s })) x k in
    let P : State → Type 0 = λ x. walk x words ≡ Some u in
    apart_more st u s v words (sym (value-next st (nexts.Value s) s) ∙ none)
    (walked words (set_value s v st) u (set-next st s v) (subst P (sym (sym (set-again st (nexts.Value s) s v) ∙ set)) m) ended))))

-- the words of pieces are read

abbrev pub end_next : Option (List (List ℕ)) → Next
end_next None = nexts.Any
end_next (Some after) = nexts.Positional

pub list_same : (o p : Option (List ℕ)) → option_to_list o ≡ option_to_list p → o ≡ p
list_same None None e = refl
list_same None (Some y) e = cc
list_same (Some x) None e = cc
list_same (Some x) (Some y) e = cc

make_state : Option (List ℕ) → Option (List ℕ) → Option (List ℕ) → Option (List ℕ) → Option (List ℕ) → Option (List ℕ) → List (List ℕ) → Next → State
make_state form coords digits blocks workers feed places next = record {
  form = form;
  coords = coords;
  digits = digits;
  blocks = blocks;
  workers = workers;
  feed = feed;
  places = places;
  next = next;
}

made_same : (a b c d e f g h i j k l : Option (List ℕ)) (p q : List (List ℕ)) (m n : Next)
    → a ≡ b → c ≡ d → e ≡ f → g ≡ h → i ≡ j → k ≡ l → p ≡ q → m ≡ n → make_state a c e g i k p m ≡ make_state b d f h j l q n
made_same a b c d e f g h i j k l p q m n e1 e2 e3 e4 e5 e6 e7 e8 = cc

state_same : (st u : State) → ((s : Setting) → given_in u s ≡ given_in st s) → u.places ≡ st.places → u.next ≡ st.next → st ≡ u
unfolding make_state
state_same st u given places next =
    made_same st.form u.form st.coords u.coords st.digits u.digits st.blocks u.blocks st.workers u.workers st.feed u.feed st.places u.places st.next u.next
    (sym (list_same u.form st.form (given settings.Form)))
    (sym (list_same u.coords st.coords (given settings.Coords)))
    (sym (list_same u.digits st.digits (given settings.Digits)))
    (sym (list_same u.blocks st.blocks (given settings.Blocks)))
    (sym (list_same u.workers st.workers (given settings.Workers)))
    (sym (list_same u.feed st.feed (given settings.Feed)))
    (sym places) (sym next)

none_given : (o p : Option (List ℕ)) (v : List ℕ) (more : List (List ℕ)) → option_to_list o ≡ option_to_list p ++ (v ∷ more) → p ≡ None
none_given o None v more e = refl
none_given None (Some x) v more e = cc
none_given (Some y) (Some x) v more e = cc

go : (st t u : State) (w : List ℕ) (words : List (List ℕ)) → step st w ≡ Some t → walk t words ≡ Some u → walk st (w ∷ words) ≡ Some u
go st t u w words e f = ap (option_and_then (λ x. walk x words)) e ∙ f

room_for : (w : List ℕ) (st : State) (more : List (List ℕ)) (u : State) → u.places ≡ st.places ++ (w ∷ more) → length u.places ≤ 3
    → with_place w st ≡ Some (record st { places = st.places ++ w ∷ [] })
room_for w st more u e room =
    let few : length st.places < 3 = omega (arith, ap length e, length-append st.places (w ∷ more)) in
    let test : nat_lt (length st.places) 3 ≡ true = lt-ltb (length st.places) 3 few in
    rw test refl

places_read : (words : List (List ℕ)) (st u : State) → st.next ≡ nexts.Positional → ((s : Setting) → given_in u s ≡ given_in st s)
    → u.places ≡ st.places ++ words → u.next ≡ nexts.Positional → length u.places ≤ 3 → walk st words ≡ Some u
places_read [] st u n given places next room = ap Some (state_same st u given (places ∙ append-nil st.places) (next ∙ sym n))
places_read (w ∷ words) st u n given places next room =
    go st (record st { places = st.places ++ w ∷ [] }) u w words (ap (λ k. step_by k w st) n ∙ room_for w st words u places room)
    (places_read words (record st { places = st.places ++ w ∷ [] }) u n (λ s. given s ∙ sym (given-places st (st.places ++ w ∷ []) s))
    (places ∙ sym (append_assoc st.places (w ∷ []) words)) next room)

value_in-same : (s : Setting) (v : List ℕ) → value_in s (apart s v) ≡ Some v
value_in-same settings.Form v = refl
value_in-same _ v = refl

first_given : (st u : State) (s : Setting) (v : List ℕ) (more : List (List ℕ)) → given_in u s ≡ given_in st s ++ cons_option (value_in s (apart s v)) more → value_at st s ≡ None
first_given st u s v more e = none_given (value_at u s) (value_at st s) v more (e ∙ ap (λ o. given_in st s ++ cons_option o more) (value_in-same s v))

value_set : (s : Setting) (v : List ℕ) (st : State) → value_at st s ≡ None → with_value s v st ≡ Some (set_value s v st)
value_set s v st none = ap (λ o. unless_given o (set_value s v st)) none

-- behind an option
after_set : (st u : State) (s : Setting) (v : List ℕ) (pieces : List Piece) (after : Option (List (List ℕ))) → value_at st s ≡ None
    → Adds st (apart s v ∷ pieces) after u → Adds (set_value s v st) pieces after u
after_set st u s v pieces after none adds = record {
  values = λ t. adds.values t ∙ sym (given-set st s t v (values_of pieces t) none);
  positionals = adds.positionals ∙ ap (λ x. x ++ positionals_of pieces after) (sym (set-places st s v));
}

pub pieces_read : (pieces : List Piece) (after : Option (List (List ℕ))) (st u : State) → AllByRecursion IsPiece pieces → st.next ≡ nexts.Any
    → Adds st pieces after u → u.next ≡ end_next after → length u.places ≤ 3 → walk st (flat_map words_of pieces ++ end_words after) ≡ Some u
pieces_read [] None st u ok n adds next room =
    ap Some (state_same st u (λ s. adds.values s ∙ append-nil (given_in st s)) (adds.positionals ∙ append-nil st.places) (next ∙ sym n))
pieces_read [] (Some after) st u ok n adds next room =
    go st (record st { next = nexts.Positional }) u (codes "--") after (ap (λ k. step_by k (codes "--") st) n ∙ piece_end st)
    (places_read after (record st { next = nexts.Positional }) u refl
    (λ s. adds.values s ∙ append-nil (given_in st s) ∙ sym (given-next st nexts.Positional s)) adds.positionals next room)
pieces_read (positional w ∷ pieces) after st u (plain, ok) n adds next room =
    go st (record st { places = st.places ++ w ∷ [] }) u w (flat_map words_of pieces ++ end_words after)
    (ap (λ k. step_by k w st) n ∙ piece_positional w st plain ∙ room_for w st (positionals_of pieces after) u adds.positionals room)
    (pieces_read pieces after (record st { places = st.places ++ w ∷ [] }) u ok n (record {
      values = λ s. adds.values s ∙ ap (λ x. x ++ values_of pieces s) (sym (given-places st (st.places ++ w ∷ []) s));
      positionals = adds.positionals ∙ sym (append_assoc st.places (w ∷ []) (positionals_of pieces after));
    }) next room)
pieces_read (joined s v ∷ pieces) after st u (_, ok) n adds next room =
    let none : value_at st s ≡ None = first_given st u s v (values_of pieces s) (adds.values s) in
    go st (set_value s v st) u (setting_name s ++ codes "=" ++ v) (flat_map words_of pieces ++ end_words after)
    (ap (λ k. step_by k (setting_name s ++ codes "=" ++ v) st) n ∙ piece_joined s v st ∙ value_set s v st none)
    (pieces_read pieces after (set_value s v st) u ok (set-next st s v) (after_set st u s v pieces after none (record { values = adds.values; positionals = adds.positionals })) next room)
pieces_read (apart s v ∷ pieces) after st u (_, ok) n adds next room =
    let none : value_at st s ≡ None = first_given st u s v (values_of pieces s) (adds.values s) in
    go st (record st { next = nexts.Value s }) u (setting_name s) (v ∷ (flat_map words_of pieces ++ end_words after))
    (ap (λ k. step_by k (setting_name s) st) n ∙ piece_apart s st)
    (go (record st { next = nexts.Value s }) (set_value s v st) u v (flat_map words_of pieces ++ end_words after)
    (value_set s v (record st { next = nexts.Value s }) (value-next st (nexts.Value s) s ∙ none) ∙ ap Some (set-again st (nexts.Value s) s v))
    (pieces_read pieces after (set_value s v st) u ok (set-next st s v) (after_set st u s v pieces after none adds) next room))
