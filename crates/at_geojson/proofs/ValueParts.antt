-- What the readers of whole values find of a text: the parts that they read spell trees, for which the atoms stand.
-- For `add`, `array` and `value`.
use Rattle.std.proofs.Common.{None, Result, Err, if◌then◌else◌, ◌==◌, ◌&&◌, ◌++◌, fold, ◌≡◌, ℕ, ◌+◌, ◌-◌, ◌<◌, ◌≤◌, min, inl, inr, ℤ, true, Some, Ok, List, [], ◌∷◌, All, length, take, drop, slice_index, take-append-drop, refl, sym, ◌∙◌, ap, subst, arith, Option}
use Rattle.std.specs.Bool.{⊤}
use Rattle.at_text.specs.Faults.{first_fault}
use Rattle.std.specs.declared.alloc.Global.{Global}
use Rattle.std.specs.declared.boxed.Box.{Box}
use denote.RawPtr.{null_ptr}
use Rattle.std.proofs.Math.Nat.{min-eq_left}
use Rattle.std.proofs.lemmas.List.Elements.{All-nil, All-cons, All-append}
use Rattle.at_text.specs.Prefix.{TakesLongest}
use Rattle.at_text.specs.declared.prefixes.Taken.{Taken}
use Rattle.at_fixed.specs.declared.rounding.Coords.{Coords}
use Rattle.at_fixed.specs.declared.rounding.FixedFault.{FixedFault}
use Rattle.at_fixed.specs.declared.rounding.FixedFault.TheVariants.{Scale, Range}
use Rattle.at_fixed.specs.NumberSoFar.{between}
use Rattle.at_fixed.specs.Numerals.{Numeral, JsonNumber}
use Rattle.at_fixed.specs.Fixed.{IsFixedOf, fixed_of}
use Rattle.at_fixed.proofs.DigitParts.{part-none, part-length}
use Rattle.at_lex.specs.Strings.{Character, AreCharacters, string_text as characters_text, JsonString, SpellsString, AreUnitsOf, units_of}
use Rattle.at_lex.specs.Runs.{JsonRun, Literal, the_null, the_true, the_false, literal_text}
use Rattle.at_lex.specs.Spans.{AreSpaces}
use Rattle.at_lex.proofs.FrontLemmas.{suffix_is}
use Rattle.at_wkt.specs.Positions.{fault_of}
use Rattle.at_wkt.proofs.NumberSteps.{rest_part, rest_to}
use Rattle.at_nest.specs.declared.algebra.Member.{Member}
use Rattle.at_nest.specs.declared.algebra.Attempt.TheVariants.{Whole as WholeAttempt}
use Rattle.at_nest.specs.Folds.{IsScalarText, IsAttempt, AreFolds, AreMemberFolds}
use Rattle.at_nest.specs.Tree.{Tree, literal, number, text, array, object, Spells}
use Rattle.at_text.specs.Parts.{At}
use Rattle.at_nest.specs.Passing.{IsPadded, ItemsBefore, items_of, Named, members_of}
use Rattle.at_nest.proofs.Ahead.{no_nil}
use Rattle.at_nest.proofs.Passed.{items_none, items_on, items_end, items_empty, members_none, members_on, members_end, members_empty}
use Rattle.at_scan.specs.declared.places.NamePlace.{NamePlace}
use Rattle.at_scan.specs.Names.{kind_of_text}
use Rattle.at_scan.specs.Places.{IsTextAt, IsNameAt}
use Rattle.at_scan.specs.Numbers.{IsFurther, AreFurther, EndsPosition}
use Rattle.at_scan.proofs.Taken.{IsTaken, word_taken}
use Rattle.at_query.specs.Keeping.{Asked}
use Rattle.at_geojson.specs.declared.atoms.atom.GeoAtom.{GeoAtom}
use Rattle.at_geojson.specs.declared.atoms.atom.GeoAtom.TheVariants as atoms
use Rattle.at_geojson.specs.declared.atoms.atom.NumberAtom.{NumberAtom}
use Rattle.at_geojson.specs.declared.atoms.atom.TextAtom.{TextAtom}
use Rattle.at_geojson.specs.declared.atoms.sorts.Sort.TheVariants as sorts
use Rattle.at_geojson.specs.declared.coordinates.pairs.Whole.{Whole}
use Rattle.at_geojson.specs.declared.coordinates.pairs.Plain.{Plain}
use Rattle.at_geojson.specs.declared.coordinates.pairs.PairRead.{PairRead}
use Rattle.at_geojson.specs.Atoms.{twin_of, at_of, IsOwn, IsFold, as_text, unboxed, asked_units}
use Rattle.at_geojson.specs.Gathering.{firsts, are_all, rank, sort_of, sort_of_all, least_of, pair_atom}
use Rattle.at_geojson.specs.Members.{IsScalarAt, IsRoleless}
use Rattle.at_geojson.specs.Values.{IsPlain, IsPair, IsSpacedPair, IsWhole, IsItem, AreItemsRead, AreMembersRead, EndsArray, EndsObject}
use Rattle.at_geojson.proofs.Firsts.{firsts-cons}
use Rattle.at_geojson.proofs.ScalarFolds.{number_found, number_folds, own_number, text_folds, null_folds, plain_folds, bad_number_at}
use Rattle.at_geojson.proofs.OwnFolds.{pair_own}
use Rattle.at_geojson.proofs.ArrayAnswers.{numbers_fold, empty_folds}

-- ---- bytes that were taken from a place on

pub run_taken : (w : List ℕ) (at : ℕ) (taken : Taken) → at ≤ length w → TakesLongest JsonRun (take (length w - at) (drop at w)) taken → taken.whole ≡ true → IsTaken JsonRun w at (at + taken.len)
run_taken w at taken inside h e = word_taken JsonRun w at taken no_nil inside h e

-- the value of a number that was taken
pub value_taken : (w : List ℕ) (at n digits : ℕ) (how : Coords) (asked : Asked) (v : ℤ) → digits ≡ asked.digits → how ≡ asked.how
    → IsFixedOf (take n (take (length w - at) (drop at w))) digits how (Ok v) → IsFixedOf (between w at (at + n)) asked.digits asked.how (Ok v)
value_taken w at n digits how asked v ed eh h =
    subst (λ d. IsFixedOf (between w at (at + n)) d asked.how (Ok v)) ed (subst (λ k. IsFixedOf (between w at (at + n)) digits k (Ok v)) eh
    (subst (λ z. IsFixedOf z digits how (Ok v)) (ap (take n) (suffix_is w at) ∙ rest_part w at n) h))

-- the bytes of a whole scalar
pub run_text : (w : List ℕ) (at end : ℕ) → IsTaken JsonRun w at end → IsScalarText (take (end - at) (drop at w))
run_text w at end t = subst IsScalarText (sym (rest_to w at end (omega (arith, t.order)))) (inr t.word)

pub string_text : (w : List ℕ) (at end : ℕ) → IsTextAt w at end → IsScalarText (take (end - at) (drop at w))
string_text w at end (order, within, s) = subst IsScalarText (sym (rest_to w at end (omega (arith, order)))) (inl s)

-- ---- scalars

-- memory, for boxes that are in proofs alone
abbrev pub heap : Global
heap = record { memory = record { seal = tt } }

abbrev pub in_boxes : Option (List ℕ) → Option (Box (List ℕ) Global)
in_boxes None = None
in_boxes (Some units) = Some (record { ptr = null_ptr; alloc = heap; value = units })

out_of_boxes : (o : Option (List ℕ)) → unboxed (in_boxes o) ≡ o
out_of_boxes None = refl
out_of_boxes (Some units) = refl

-- what is made of a string
abbrev pub text_kind : Asked → ℕ → List Character → GeoAtom
text_kind asked i cs = atoms.Text (record { at = i; kind = kind_of_text (units_of cs); units = in_boxes (asked_units asked.query.tests (units_of cs)) })

pub text_units : (asked : Asked) (i : ℕ) (cs : List Character) → as_text (text_kind asked i cs) ≡ asked_units asked.query.tests (units_of cs)
text_units asked i cs = out_of_boxes (asked_units asked.query.tests (units_of cs))

module _ (asked : Asked) (base : ℕ) (w : List ℕ) where
  -- an atom of all trees that the bytes spell
  abbrev StandsAt : ℕ → ℕ → GeoAtom → Type 0
  StandsAt at end a = (t : Tree) → Spells (base + at) (take (end - at) (drop at w)) t → IsFold asked a t

  spelled : (at end : ℕ) (a : GeoAtom) → at < end → StandsAt at end a → (t : Tree) → Spells (base + at) (between w at end) t → IsFold asked a t
  spelled at end a h fold t s = fold t (subst (λ z. Spells (base + at) z t) (sym (rest_to w at end (omega (arith, h)))) s)

  pub run_read : (at end : ℕ) (a : GeoAtom) → IsTaken JsonRun w at end → IsOwn asked a → StandsAt at end a → IsWhole asked base w at (record { end = end; atom = a })
  run_read at end a taken own fold = go taken.word where
    whole : (t : Tree) → Spells (base + at) (between w at end) t → IsWhole asked base w at (record { end = end; atom = a })
    whole t s = record { order = taken.order; within = taken.within; own = own; tree = t; spells = s; fold = spelled at end a taken.order fold t s }

    go : JsonRun (between w at end) → IsWhole asked base w at (record { end = end; atom = a })
    go (inl (l, e)) = whole (literal (base + at) l) (refl, e)
    go (inr (n, j, e)) = whole (number (base + at) n) (refl, (j, e))

  pub string_read : (at end : ℕ) (a : GeoAtom) → IsTextAt w at end → IsOwn asked a → StandsAt at end a → IsWhole asked base w at (record { end = end; atom = a })
  string_read at end a (order, within, (cs, j, e)) own fold =
      let s : Spells (base + at) (between w at end) (text (base + at) cs) = (refl, (j, e)) in
      record { order = order; within = within; own = own; tree = text (base + at) cs; spells = s; fold = spelled at end a order fold (text (base + at) cs) s }

  -- a number that has a value
  record IsValued (at end : ℕ) (v : ℤ) : Type 0 where
    pub numeral : Numeral
    pub spells : Spells (base + at) (between w at end) (number (base + at) numeral)
    pub value : Ok v ≡ fixed_of numeral asked.digits asked.how

  valued : (at end : ℕ) (v u : ℤ) → v ≡ u → JsonNumber (between w at end) → IsFixedOf (between w at end) asked.digits asked.how (Ok u) → IsValued at end v
  valued at end v u same j f = let (n, s, e) = number_found asked (base + at) (between w at end) (Ok u) asked.digits asked.how refl refl j f in record { numeral = n; spells = s; value = ap Ok same ∙ e }

  pub number_read : (at end : ℕ) (v u : ℤ) → v ≡ u → IsTaken JsonNumber w at end → IsFixedOf (between w at end) asked.digits asked.how (Ok u)
      → IsWhole asked base w at (record { end = end; atom = atoms.Number (record { at = base + at; value = v }) })
  number_read at end v u e taken f =
      let n = valued at end v u e taken.word f in let a : NumberAtom = record { at = base + at; value = v } in
      record { order = taken.order; within = taken.within; own = own_number asked a n.numeral n.value; tree = number (base + at) n.numeral; spells = n.spells; fold = number_folds asked a n.numeral n.value }

  -- a string, literal or number of which nothing is kept
  record IsPassed (at end : ℕ) : Type 0 where
    pub atom : GeoAtom
    pub whole : IsWhole asked base w at (record { end = end; atom = atom })
    pub roleless : IsRoleless atom

  module _ (at end : ℕ) (order : at < end) (within : end ≤ length w) where
    pub text_whole : (cs : List Character) → AreCharacters cs → between w at end ≡ characters_text cs → IsWhole asked base w at (record { end = end; atom = text_kind asked (base + at) cs })
    text_whole cs j e =
        let a : TextAtom = record { at = base + at; kind = kind_of_text (units_of cs); units = in_boxes (asked_units asked.query.tests (units_of cs)) } in
        record { order = order; within = within; own = tt; tree = text (base + at) cs; spells = (refl, (j, e)); fold = text_folds asked a cs refl (out_of_boxes (asked_units asked.query.tests (units_of cs))) }

    passed_text : JsonString (between w at end) → IsPassed at end
    passed_text (cs, j, e) = record { atom = text_kind asked (base + at) cs; whole = text_whole cs j e; roleless = record { no_twin = refl; single = refl; no_role = refl; sort = omega arith } }

    passed_literal : (l : Literal) → between w at end ≡ literal_text l → IsPassed at end
    passed_literal the_null e = record { atom = atoms.Null (base + at); whole = record { order = order; within = within; own = tt; tree = literal (base + at) the_null; spells = (refl, e); fold = null_folds asked (base + at) }; roleless = record { no_twin = refl; single = refl; no_role = refl; sort = omega arith } }
    passed_literal the_true e = record { atom = atoms.Plain (base + at); whole = record { order = order; within = within; own = tt; tree = literal (base + at) the_true; spells = (refl, e); fold = plain_folds asked (base + at) the_true (λ n. cc) }; roleless = record { no_twin = refl; single = refl; no_role = refl; sort = omega arith } }
    passed_literal the_false e = record { atom = atoms.Plain (base + at); whole = record { order = order; within = within; own = tt; tree = literal (base + at) the_false; spells = (refl, e); fold = plain_folds asked (base + at) the_false (λ n. cc) }; roleless = record { no_twin = refl; single = refl; no_role = refl; sort = omega arith } }

    passed_number : (n : Numeral) → Spells (base + at) (between w at end) (number (base + at) n) → IsPassed at end
    passed_number n s = go (fixed_of n asked.digits asked.how) refl where
      go : (r : Result ℤ FixedFault) → r ≡ fixed_of n asked.digits asked.how → IsPassed at end
      go (Ok v) e = let a : NumberAtom = record { at = base + at; value = v } in
          record { atom = atoms.Number a; whole = record { order = order; within = within; own = own_number asked a n e; tree = number (base + at) n; spells = s; fold = number_folds asked a n e }; roleless = record { no_twin = refl; single = refl; no_role = refl; sort = omega arith } }
      go (Err why) e = record { atom = atoms.BadNumber (fault_of why (base + at)); whole = record { order = order; within = within; own = tt; tree = number (base + at) n; spells = s; fold = bad_number_at asked (base + at) n why e }; roleless = record { no_twin = refl; single = refl; no_role = refl; sort = omega arith } }

    passed_run : JsonRun (between w at end) → IsPassed at end
    passed_run (inl (l, e)) = passed_literal l e
    passed_run (inr (n, j, e)) = passed_number n (refl, (j, e))

    scalar_passed : IsScalarText (between w at end) → IsPassed at end
    scalar_passed s = elim s [ inl t ↦ passed_text t | inr r ↦ passed_run r ]

  -- ---- positions

  pub folds_last : (xs : List GeoAtom) (x : GeoAtom) (done : List Tree) (t : Tree) → AreFolds (IsFold asked) xs (items_of done) → IsFold asked x t → AreFolds (IsFold asked) (xs ++ x ∷ []) (items_of (done ++ t ∷ []))
  folds_last [] x [] t h k = (k, tt)
  folds_last (y ∷ xs) x (u ∷ done) t h k = (h.0, folds_last xs x done t h.1 k)
  folds_last [] x (u ∷ done) t h k = absurd h
  folds_last (y ∷ xs) x [] t h k = absurd h

  -- a number that is no more than passed over
  record HasNumber (at end : ℕ) : Type 0 where
    pub atom : GeoAtom
    pub own : IsOwn asked atom
    pub tree : Tree
    pub padded : IsPadded (λ j v. Spells j v tree) base w at end
    pub fold : IsFold asked atom tree
    pub is_number : sort_of atom ≡ sorts.Number
    pub no_twin : twin_of atom ≡ None
    pub behind : base + at ≤ at_of atom

  further_number : (at end : ℕ) → IsFurther w at end → HasNumber (at + 1) end
  further_number at end f = found f.number where
    of_numeral : (n : Numeral) → Spells (base + f.first) (between w f.first f.last) (number (base + f.first) n) → (r : Result ℤ FixedFault) → r ≡ fixed_of n asked.digits asked.how → HasNumber (at + 1) end
    of_numeral n s (Ok v) e =
        let a : NumberAtom = record { at = base + f.first; value = v } in
        record {
          atom = atoms.Number a;
          own = own_number asked a n e;
          tree = number (base + f.first) n;
          padded = record { first = f.first; last = f.last; before = f.before; order = omega (arith, f.order); behind = f.behind; spaces = f.spaces; is_part = s; more_spaces = f.more_spaces };
          fold = number_folds asked a n e;
          is_number = refl;
          no_twin = refl;
          behind = omega (arith, f.before);
        }
    of_numeral n s (Err why) e = record {
      atom = atoms.BadNumber (fault_of why (base + f.first));
      own = tt;
      tree = number (base + f.first) n;
      padded = record { first = f.first; last = f.last; before = f.before; order = omega (arith, f.order); behind = f.behind; spaces = f.spaces; is_part = s; more_spaces = f.more_spaces };
      fold = bad_number_at asked (base + f.first) n why e;
      is_number = refl;
      no_twin = refl;
      behind = fault_behind why;
    } where
      fault_behind : (why : FixedFault) → base + (at + 1) ≤ at_of (atoms.BadNumber (fault_of why (base + f.first)))
      fault_behind Scale = omega (arith, f.before)
      fault_behind Range = omega (arith, f.before)

    found : JsonNumber (between w f.first f.last) → HasNumber (at + 1) end
    found (n, j, e) = of_numeral n (refl, (j, e)) (fixed_of n asked.digits asked.how) refl

  -- numbers at the offset or behind it
  abbrev AreNumbers : ℕ → List GeoAtom → Type 0
  AreNumbers from [] = ⊤
  AreNumbers from (a ∷ rest) = (sort_of a ≡ sorts.Number) × (twin_of a ≡ None) × (from ≤ at_of a) × AreNumbers from rest

  numbers_last : (from : ℕ) (rest : List GeoAtom) (a : GeoAtom) → AreNumbers from rest → sort_of a ≡ sorts.Number → twin_of a ≡ None → from ≤ at_of a → AreNumbers from (rest ++ a ∷ [])
  numbers_last from [] a h s t k = (s, t, k, tt)
  numbers_last from (b ∷ rest) a h s t k = (h.0, h.1, h.2, numbers_last from rest a h.3 s t k)

  numbers_sort : (from : ℕ) (rest : List GeoAtom) → AreNumbers from rest → are_all 1 rest ≡ true
  numbers_sort from [] h = refl
  numbers_sort from (a ∷ rest) h = ap (λ z. (rank z == 1) && are_all 1 rest) h.0 ∙ numbers_sort from rest h.3

  numbers_twins : (from : ℕ) (rest : List GeoAtom) → AreNumbers from rest → firsts twin_of rest ≡ None
  numbers_twins from [] h = refl
  numbers_twins from (a ∷ rest) h = firsts-cons twin_of a rest ∙ (ap (λ z. first_fault z (firsts twin_of rest)) h.1 ∙ numbers_twins from rest h.3)

  numbers_least : (from : ℕ) (rest : List GeoAtom) → AreNumbers from rest → fold (λ least a. min least (at_of a)) from rest ≡ from
  numbers_least from [] h = refl
  numbers_least from (a ∷ rest) h = ap (λ n. fold (λ least b. min least (at_of b)) n rest) (min-eq_left h.2) ∙ numbers_least from rest h.3

  -- the numbers of a position up to the place, of which these are the first two
  record AreNumbersTo (at end from : ℕ) (x y : GeoAtom) : Type 0 where
    pub rest : List GeoAtom
    pub numbers : AreNumbers from rest
    pub own : All (IsOwn asked) (x ∷ y ∷ rest)
    pub place : ℕ
    pub order : at < place
    pub behind : place ≤ end
    pub begins : from ≤ base + end
    pub done : List Tree
    pub last : Tree
    pub before : ItemsBefore base w at place done
    pub spells : IsPadded (λ j v. Spells j v last) base w place end
    pub folds : AreFolds (IsFold asked) (x ∷ y ∷ rest) (items_of (done ++ last ∷ []))

  further_read : (at from : ℕ) (x y : GeoAtom) (place : ℕ) (es : List ℕ) (end : ℕ) → AreFurther w place es end → AreNumbersTo at place from x y → AreNumbersTo at end from x y
  further_read at from x y place [] end f h = subst (λ z. AreNumbersTo at z from x y) f h
  further_read at from x y place (e ∷ es) end f h =
      let n = further_number place e f.0 in
      further_read at from x y e es end f.1 (record {
        rest = h.rest ++ n.atom ∷ [];
        numbers = numbers_last from h.rest n.atom h.numbers n.is_number n.no_twin (omega (arith, h.begins, n.behind));
        own = All-append (IsOwn asked) (x ∷ y ∷ h.rest) (n.atom ∷ []) h.own (All-cons (IsOwn asked) n.atom [] n.own (All-nil (IsOwn asked)));
        place = place + 1;
        order = omega (arith, h.order, h.behind);
        behind = omega (arith, f.0.before, f.0.order, f.0.behind);
        begins = omega (arith, h.begins, f.0.before, f.0.order, f.0.behind);
        done = h.done ++ h.last ∷ [];
        last = n.tree;
        before = items_on base w at h.place place h.done h.last h.order h.behind f.0.inside f.0.comma h.before h.spells;
        spells = n.padded;
        folds = folds_last (x ∷ y ∷ h.rest) n.atom (h.done ++ h.last ∷ []) n.tree h.folds n.fold;
      })

  pub pair_read : (at : ℕ) (x y : Plain) (left right : ℤ) → left ≡ x.number.value → right ≡ y.number.value → at < length w → slice_index w at ≡ 0x5B → IsPlain asked w (at + 1) x
      → (comma : ℕ) → x.last ≤ comma → AreSpaces (between w x.last comma) → slice_index w comma ≡ 0x2C → IsPlain asked w (comma + 1) y → (end : ℕ) → EndsPosition w y.last end
      → IsPair asked base w at (record { end = end; pair = record { at = base + at; least = base + x.first; pos = record { x = left; y = right } } })
  pair_read at x y left right el er inside opens px place order spaces comma py end ends =
      let nx = valued x.first x.last left x.number.value el px.number px.value in
      let ny = valued y.first y.last right y.number.value er py.number py.value in
      let a : NumberAtom = record { at = base + x.first; value = left } in
      let b : NumberAtom = record { at = base + y.first; value = right } in
      let tx = number (base + x.first) nx.numeral in let ty = number (base + y.first) ny.numeral in
      let r : GeoAtom = atoms.Position (record { at = base + at; least = base + x.first; pos = record { x = left; y = right } }) in
      let one : IsPadded (λ j v. Spells j v tx) base w (at + 1) place = record { first = x.first; last = x.last; before = px.before; order = omega (arith, px.order); behind = order; spaces = px.spaces; is_part = nx.spells; more_spaces = spaces } in
      let two : IsPadded (λ j v. Spells j v ty) base w (place + 1) ends.first = record { first = y.first; last = y.last; before = py.before; order = omega (arith, py.order); behind = ends.before; spaces = py.spaces; is_part = ny.spells; more_spaces = ends.spaces } in
      let first = items_on base w at (at + 1) place [] tx (omega arith) (omega (arith, px.before, px.order, order)) (omega (arith, py.before, py.order, py.within)) comma (items_none base w at inside) one in
      let h = further_read at a.at (atoms.Number a) (atoms.Number b) ends.first ends.places ends.place ends.further (record {
        rest = [];
        numbers = tt;
        own = All-cons (IsOwn asked) (atoms.Number a) (atoms.Number b ∷ []) (own_number asked a nx.numeral nx.value) (All-cons (IsOwn asked) (atoms.Number b) [] (own_number asked b ny.numeral ny.value) (All-nil (IsOwn asked)));
        place = place + 1;
        order = omega (arith, px.before, px.order, order);
        behind = omega (arith, py.before, py.order, ends.before);
        begins = omega (arith, px.order, order, py.before, py.order, ends.before);
        done = tx ∷ [];
        last = ty;
        before = first;
        spells = two;
        folds = (number_folds asked a nx.numeral nx.value, (number_folds asked b ny.numeral ny.value, tt));
      }) in
      let items : List GeoAtom = atoms.Number a ∷ atoms.Number b ∷ h.rest in
      let l1 : a.at ≤ a.at = omega arith in
      let l2 : a.at ≤ b.at = omega (arith, px.order, order, py.before) in
      let start : min (min a.at a.at) b.at ≡ a.at = ap (λ z. min z b.at) (min-eq_left l1) ∙ min-eq_left l2 in
      let least : least_of items ≡ base + x.first = ap (λ n. fold (λ least c. min least (at_of c)) n h.rest) start ∙ numbers_least a.at h.rest h.numbers in
      let made : pair_atom (base + at) (least_of items) items ≡ Some r = ap (λ n. Some (atoms.Position (record { at = base + at; least = n; pos = record { x = left; y = right } }))) least in
      let sort : sort_of_all items ≡ sorts.Number = ap (λ z. if z then sorts.Number else sorts.Other) (numbers_sort a.at h.rest h.numbers) in
      let twins : firsts twin_of items ≡ None = firsts-cons twin_of (atoms.Number a) (atoms.Number b ∷ h.rest) ∙ (firsts-cons twin_of (atoms.Number b) h.rest ∙ numbers_twins a.at h.rest h.numbers) in
      let ts = items_of (h.done ++ h.last ∷ []) in
      record {
        order = omega (arith, px.before, px.order, order, py.before, py.order, ends.before, ends.order, ends.behind);
        within = omega (arith, ends.inside, ends.behind);
        at_is = refl;
        own = pair_own asked (base + at) (least_of items) items r h.own made;
        tree = array (base + at) ts;
        spells = subst (λ e. Spells (base + at) (between w at e) (array (base + at) ts)) (sym ends.behind) (items_end base w at h.place ends.place h.done h.last h.order h.behind ends.inside opens ends.closes h.before h.spells);
        fold = numbers_fold asked (base + at) items (λ e. cc) twins r sort (inl made) ts h.folds;
      }

  pub pair_whole : (at : ℕ) (p : PairRead) → IsPair asked base w at p → IsWhole asked base w at (record { end = p.end; atom = atoms.Position p.pair })
  pair_whole at p h = record { order = h.order; within = h.within; own = h.own; tree = h.tree; spells = h.spells; fold = h.fold }

  pub pair_spaced : (at first end : ℕ) (p : PairRead) → at ≤ first → AreSpaces (between w at first) → IsPair asked base w first p → p.end ≤ end → end ≤ length w → AreSpaces (between w p.end end) → IsSpacedPair asked base w at (record { end = end; pair = p.pair })
  pair_spaced at first end p h spaces pair k fits more = record {
    order = omega (arith, h, pair.order, k);
    within = fits;
    begins = omega (arith, h, pair.at_is);
    ends = omega (arith, pair.at_is, pair.order, k);
    own = pair.own;
    tree = pair.tree;
    spells = record { first = first; last = p.end; before = h; order = omega (arith, pair.order); behind = k; spaces = spaces; is_part = pair.spells; more_spaces = more };
    fold = pair.fold;
  }

  -- ---- values with white space round them

  pub item_read : (at first end : ℕ) (p : Whole) → at ≤ first → AreSpaces (between w at first) → IsWhole asked base w first p → p.end ≤ end → end ≤ length w → AreSpaces (between w p.end end) → IsItem asked base w at (record { end = end; atom = p.atom })
  item_read at first end p h spaces whole k fits more = record {
    order = omega (arith, h, whole.order, k);
    within = fits;
    own = whole.own;
    tree = whole.tree;
    spells = record { first = first; last = p.end; before = h; order = omega (arith, whole.order); behind = k; spaces = spaces; is_part = whole.spells; more_spaces = more };
    fold = whole.fold;
  }

  -- a scalar of which the place behind it and the white space alone is told
  pub item_passed : (at first last end : ℕ) → at ≤ first → AreSpaces (between w at first) → IsScalarAt w first last → last ≤ end → end ≤ length w → AreSpaces (between w last end)
      → (a : GeoAtom) × IsItem asked base w at (record { end = end; atom = a }) × IsRoleless a
  item_passed at first last end h spaces (order, within, s) k fits more =
      let p = scalar_passed first last order within s in
      (p.atom, item_read at first end (record { end = last; atom = p.atom }) h spaces p.whole k fits more, p.roleless)

  -- ---- arrays

  pub items_begin : (at : ℕ) → at < length w → AreItemsRead asked base w at (at + 1) []
  items_begin at h = record { own = All-nil (IsOwn asked); done = []; before = items_none base w at h; folds = tt }

  pub items_own : (at place : ℕ) (items : List GeoAtom) (p : Whole) → AreItemsRead asked base w at place items → IsItem asked base w place p → All (IsOwn asked) (items ++ p.atom ∷ [])
  items_own at place items p read item = All-append (IsOwn asked) items (p.atom ∷ []) read.own (All-cons (IsOwn asked) p.atom [] item.own (All-nil (IsOwn asked)))

  pub items_go_on : (at place : ℕ) (items : List GeoAtom) (p : Whole) → at < place → AreItemsRead asked base w at place items → IsItem asked base w place p → p.end < length w → slice_index w p.end ≡ 0x2C → AreItemsRead asked base w at (p.end + 1) (items ++ p.atom ∷ [])
  items_go_on at place items p h read item inside byte = record {
    own = items_own at place items p read item;
    done = read.done ++ item.tree ∷ [];
    before = items_on base w at place p.end read.done item.tree h (omega (arith, item.order)) inside byte read.before item.spells;
    folds = folds_last items p.atom read.done item.tree read.folds item.fold;
  }

  pub array_read : (at place : ℕ) (items : List GeoAtom) (p q : Whole) → at < place → slice_index w at ≡ 0x5B → AreItemsRead asked base w at place items → IsItem asked base w place p → p.end < length w → slice_index w p.end ≡ 0x5D
      → EndsArray asked (base + at) (p.end + 1) (items ++ p.atom ∷ []) q → IsWhole asked base w at q
  array_read at place items p q h opens read item inside byte ends = record {
    order = omega (arith, h, item.order, ends.behind);
    within = omega (arith, inside, ends.behind);
    own = ends.own;
    tree = array (base + at) (items_of (read.done ++ item.tree ∷ []));
    spells = subst (λ e. Spells (base + at) (between w at e) (array (base + at) (items_of (read.done ++ item.tree ∷ [])))) (sym ends.behind)
        (items_end base w at place p.end read.done item.tree h (omega (arith, item.order)) inside opens byte read.before item.spells);
    fold = ends.fold (items_of (read.done ++ item.tree ∷ [])) (folds_last items p.atom read.done item.tree read.folds item.fold);
  }

  -- an array of one item, whose bracket stands right before it
  pub nest_more : (at close : ℕ) (p q : Whole) → slice_index w at ≡ 0x5B → IsWhole asked base w (at + 1) p → p.end ≤ close → AreSpaces (between w p.end close) → close < length w → slice_index w close ≡ 0x5D
      → EndsArray asked (base + at) (close + 1) (p.atom ∷ []) q → IsWhole asked base w at q
  nest_more at close p q opens whole h spaces inside byte ends =
      let fits : at < length w = omega (arith, whole.order, whole.within) in
      let none : AreSpaces (between w (at + 1) (at + 1)) = subst AreSpaces (sym (part-none w (at + 1) (omega (arith, fits)))) tt in
      array_read at (at + 1) [] (record { end = close; atom = p.atom }) q (omega arith) opens (items_begin at fits)
      (item_read (at + 1) (at + 1) close p (omega arith) none whole h (omega (arith, inside)) spaces) inside byte ends

  pub empty_read : (at end : ℕ) → at < end → end < length w → slice_index w at ≡ 0x5B → slice_index w end ≡ 0x5D → AreSpaces (between w (at + 1) end) → IsWhole asked base w at (record { end = end + 1; atom = atoms.Empty (base + at) })
  empty_read at end h inside opens byte spaces = record {
    order = omega (arith, h);
    within = omega (arith, inside);
    own = tt;
    tree = array (base + at) (items_of []);
    spells = items_empty base w at end h inside opens byte spaces;
    fold = empty_folds asked (base + at);
  }

  -- ---- objects

  members_last : (xs : List (Member GeoAtom)) (x : Member GeoAtom) (done : List Named) (n : Named) → AreMemberFolds (IsFold asked) xs (members_of done) → AreMemberFolds (IsFold asked) (x ∷ []) (members_of (n ∷ []))
      → AreMemberFolds (IsFold asked) (xs ++ x ∷ []) (members_of (done ++ n ∷ []))
  members_last [] x [] n h k = k
  members_last (y ∷ xs) x (u ∷ done) n h k = (h.0, h.1, h.2, members_last xs x done n h.3 k)
  members_last [] x (u ∷ done) n h k = absurd h
  members_last (y ∷ xs) x [] n h k = absurd h

  pub members_begin : (at : ℕ) → at < length w → AreMembersRead asked base w at (at + 1) []
  members_begin at h = record { own = All-nil (λ (m : Member GeoAtom). IsOwn asked m.value); done = []; before = members_none base w at h; folds = tt }

  named : (place : ℕ) (n : NamePlace) (h : IsNameAt w place n) → IsPadded (At (base + n.first) (SpellsString h.text.2.0)) base w place n.colon
  named place n h = record { first = n.first; last = n.end; before = h.before; order = omega (arith, h.text.0); behind = h.behind; spaces = h.spaces; is_part = (refl, (h.text.2.1, h.text.2.2)); more_spaces = h.more_spaces }

  -- a member as the code makes it
  abbrev pub member_of : NamePlace → List ℕ → GeoAtom → Member GeoAtom
  member_of n units a = record { name = units; name_at = base + n.first; value = a }

  member_folds : (place : ℕ) (n : NamePlace) (units : List ℕ) (p : Whole) (h : IsNameAt w place n) → AreUnitsOf (between w n.first n.end) units → (item : IsItem asked base w (n.colon + 1) p)
      → AreMemberFolds (IsFold asked) (member_of n units p.atom ∷ []) (members_of (record { name = h.text.2.0; at = base + n.first; tree = item.tree } ∷ []))
  member_folds place n units p h u item = (u h.text.2.0 h.text.2.1 h.text.2.2, refl, item.fold, tt)

  pub members_own : (at place : ℕ) (members : List (Member GeoAtom)) (n : NamePlace) (units : List ℕ) (p : Whole) → AreMembersRead asked base w at place members → IsItem asked base w (n.colon + 1) p → All (λ (m : Member GeoAtom). IsOwn asked m.value) (members ++ member_of n units p.atom ∷ [])
  members_own at place members n units p read item = All-append (λ (m : Member GeoAtom). IsOwn asked m.value) members (member_of n units p.atom ∷ []) read.own (All-cons (λ (m : Member GeoAtom). IsOwn asked m.value) (member_of n units p.atom) [] item.own (All-nil (λ (m : Member GeoAtom). IsOwn asked m.value)))

  pub members_go_on : (at place : ℕ) (members : List (Member GeoAtom)) (n : NamePlace) (units : List ℕ) (p : Whole) → at < place → AreMembersRead asked base w at place members → IsNameAt w place n → AreUnitsOf (between w n.first n.end) units
      → IsItem asked base w (n.colon + 1) p → p.end < length w → slice_index w p.end ≡ 0x2C → AreMembersRead asked base w at (p.end + 1) (members ++ member_of n units p.atom ∷ [])
  members_go_on at place members n units p h read name u item inside byte =
      let m : Named = record { name = name.text.2.0; at = base + n.first; tree = item.tree } in
      record {
        own = members_own at place members n units p read item;
        done = read.done ++ m ∷ [];
        before = members_on base w at place n.colon p.end read.done m h (omega (arith, name.before, name.text.0, name.behind)) (omega (arith, item.order)) inside name.byte byte read.before (named place n name) item.spells;
        folds = members_last members (member_of n units p.atom) read.done m read.folds (member_folds place n units p name u item);
      }

  pub object_read : (at place : ℕ) (members : List (Member GeoAtom)) (n : NamePlace) (units : List ℕ) (p q : Whole) → at < place → slice_index w at ≡ 0x7B → AreMembersRead asked base w at place members → IsNameAt w place n → AreUnitsOf (between w n.first n.end) units
      → IsItem asked base w (n.colon + 1) p → p.end < length w → slice_index w p.end ≡ 0x7D → EndsObject asked (base + at) (p.end + 1) (members ++ member_of n units p.atom ∷ []) q → IsWhole asked base w at q
  object_read at place members n units p q h opens read name u item inside byte ends =
      let m : Named = record { name = name.text.2.0; at = base + n.first; tree = item.tree } in
      record {
        order = omega (arith, h, name.before, name.text.0, name.behind, item.order, ends.behind);
        within = omega (arith, inside, ends.behind);
        own = ends.own;
        tree = object (base + at) (members_of (read.done ++ m ∷ []));
        spells = subst (λ e. Spells (base + at) (between w at e) (object (base + at) (members_of (read.done ++ m ∷ [])))) (sym ends.behind)
            (members_end base w at place n.colon p.end read.done m h (omega (arith, name.before, name.text.0, name.behind)) (omega (arith, item.order)) inside opens name.byte byte read.before (named place n name) item.spells);
        fold = ends.fold (members_of (read.done ++ m ∷ [])) (members_last members (member_of n units p.atom) read.done m read.folds (member_folds place n units p name u item));
      }

  pub void_read : (at end : ℕ) (q : Whole) → at < end → end < length w → slice_index w at ≡ 0x7B → slice_index w end ≡ 0x7D → AreSpaces (between w (at + 1) end) → EndsObject asked (base + at) (end + 1) [] q → IsWhole asked base w at q
  void_read at end q h inside opens byte spaces ends = record {
    order = omega (arith, h, ends.behind);
    within = omega (arith, inside, ends.behind);
    own = ends.own;
    tree = object (base + at) (members_of []);
    spells = subst (λ e. Spells (base + at) (between w at e) (object (base + at) (members_of []))) (sym ends.behind) (members_empty base w at end h inside opens byte spaces);
    fold = ends.fold (members_of []) tt;
  }

-- ---- what the algebra answers

pub front_split : (w : List ℕ) (end : ℕ) → w ≡ between w 0 end ++ drop end w
front_split w end = sym (take-append-drop end w) ∙ ap (λ z. z ++ drop end w) (rest_part w 0 end ∙ ap (between w 0) (let e : 0 + end ≡ end = omega arith in e))

pub attempt_of : (asked : Asked) (at : ℕ) (w : List ℕ) (p : Whole) → IsWhole asked at w 0 p → IsAttempt (IsOwn asked) (IsFold asked) at w (WholeAttempt p.end p.atom)
attempt_of asked at w p h = (
  between w 0 p.end,
  drop p.end w,
  front_split w p.end,
  omega (arith, part-length w 0 p.end (omega arith) h.within),
  h.tree,
  subst (λ n. Spells n (between w 0 p.end) h.tree) (let e : at + 0 ≡ at = omega arith in e) h.spells,
  h.own,
  h.fold,
)
