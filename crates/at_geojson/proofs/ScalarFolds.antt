-- What atoms of scalars are in each role.
-- For `add`, `array`, `scalar` and `value`.
use Rattle.std.proofs.Common.{◌≡◌, ◌≢◌, ℕ, ◌+◌, ◌≤◌, inl, inr, ℤ, nat_abs, List, [], ◌∷◌, ◌++◌, Some, None, Result, Ok, Err, refl, sym, ◌∙◌, ap, subst, arith, get_or}
use Rattle.std.proofs.lemmas.Bool.{true≢false}
use Rattle.std.proofs.lemmas.Option.{none-some}
use Rattle.at_text.specs.Faults.{first_of}
use Rattle.at_text.specs.declared.faults.Fault.{Fault}
use Rattle.at_fixed.specs.declared.rounding.Coords.{Coords}
use Rattle.at_fixed.specs.declared.rounding.FixedFault.{FixedFault}
use Rattle.at_fixed.specs.declared.rounding.FixedFault.TheVariants.{Scale, Range}
use Rattle.at_fixed.specs.Numerals.{Numeral, JsonNumber}
use Rattle.at_fixed.specs.Fixed.{fixed_of, IsFixedOf}
use Rattle.at_lex.specs.Strings.{Character, units_of}
use Rattle.at_lex.specs.Runs.{Literal, the_null, the_true, the_false, JsonRun, literal_text}
use Rattle.at_wkt.specs.Positions.{value_in, faults_in, fault_of, value_of}
use Rattle.at_nest.specs.Folds.{IsScalarText}
use Rattle.at_nest.specs.Tree.{Tree, literal, number, text, Spells}
use Rattle.at_nest.proofs.OneTree.{one_tree}
use Rattle.at_scan.specs.Names.{kind_of_text}
use Rattle.at_query.specs.Keeping.{Asked}
use Rattle.at_query.proofs.ShapeRanges.{value_small}
use Rattle.at_geojson.specs.declared.atoms.atom.GeoAtom.{GeoAtom}
use Rattle.at_geojson.specs.declared.atoms.atom.GeoAtom.TheVariants as atoms
use Rattle.at_geojson.specs.declared.atoms.atom.TextAtom.{TextAtom}
use Rattle.at_geojson.specs.declared.atoms.atom.NumberAtom.{NumberAtom}
use Rattle.at_geojson.specs.Atoms.{as_text, asked_text, IsFold, IsOwn}
use Rattle.at_nest.proofs.TreeParts.{text_made}

-- ---- one tree for the bytes

pub same_tree : (at : ℕ) (w : List ℕ) (t u : Tree) → Spells at w t → Spells at w u → u ≡ t
same_tree at w t u s r = one_tree at w t u (text_made t at w ([], w, [], [], sym (append_all w), tt, tt, in_place at w t s, refl)) (text_made u at w ([], w, [], [], sym (append_all w), tt, tt, in_place at w u r, refl)) where
  append_all : (v : List ℕ) → v ++ [] ≡ v
  append_all [] = refl
  append_all (b ∷ v) = ap (λ z. b ∷ z) (append_all v)

  in_place : (i : ℕ) (v : List ℕ) (x : Tree) → Spells i v x → Spells (i + 0) v x
  in_place i v x p = let e : i ≡ i + 0 = omega arith in subst (λ j. Spells j v x) e p

-- ---- first bytes

head_of : (b : ℕ) (w v : List ℕ) → w ≡ b ∷ v → get_or w 0 0 ≡ b
head_of b w v e = ap (λ z. get_or z 0 0) e

pub run_first : (w : List ℕ) → IsScalarText w → (get_or w 0 0 ≡ 0x22 → ⊥) → JsonRun w
run_first w h e = elim h [ inl s ↦ absurd (e (head_of 0x22 w _ s.2)) | inr r ↦ r ]

pub number_first : (w : List ℕ) → JsonRun w → (get_or w 0 0 ≡ 0x6E → ⊥) → (get_or w 0 0 ≡ 0x74 → ⊥) → (get_or w 0 0 ≡ 0x66 → ⊥) → JsonNumber w
number_first w h n t f = elim h [ inl l ↦ absurd (no_literal l.0 l.1) | inr r ↦ r ] where
  no_literal : (l : Literal) → w ≡ literal_text l → ⊥
  no_literal the_null e = n (head_of 0x6E w _ e)
  no_literal the_true e = t (head_of 0x74 w _ e)
  no_literal the_false e = f (head_of 0x66 w _ e)

-- ---- atoms

-- the one tree that the bytes spell
pub folds_one : (asked : Asked) (a : GeoAtom) (at : ℕ) (w : List ℕ) (u : Tree) → Spells at w u → IsFold asked a u → (t : Tree) → Spells at w t → IsFold asked a t
folds_one asked a at w u r h t s = subst (IsFold asked a) (same_tree at w t u s r) h

pub number_found : (asked : Asked) (at : ℕ) (w : List ℕ) (answer : Result ℤ FixedFault) (digits : ℕ) (how : Coords) → digits ≡ asked.digits → how ≡ asked.how
    → JsonNumber w → IsFixedOf w digits how answer → (n : Numeral) × Spells at w (number at n) × (answer ≡ fixed_of n asked.digits asked.how)
number_found asked at w answer digits how ed eh (n, j, e) f =
    (n, (refl, (j, e)), f.value ∙ (ap (λ m. fixed_of m digits how) (sym (f.only n (inl j, e))) ∙ (ap (λ d. fixed_of n d how) ed ∙ ap (fixed_of n asked.digits) eh)))

module _ (asked : Asked) where
  pub null_folds : (at : ℕ) → IsFold asked (atoms.Null at) (literal at the_null)
  null_folds at = record {
    twins = refl;
    read = λ _. record {
      at = refl;
      single = refl;
      scalar = record { is_null = refl; is_empty = λ e. absurd (true≢false (sym e)); kind = refl; text = refl };
      coordinates = record { number = tt; position = tt; points = tt; lists = tt; area = tt; areas = tt };
      items = record { geometries = tt; features = λ _. tt };
      object = record { geometry = refl; item = refl; texts = tt; root = refl };
    };
  }

  pub plain_folds : (at : ℕ) (l : Literal) → l ≢ the_null → IsFold asked (atoms.Plain at) (literal at l)
  plain_folds at the_null some = absurd (some refl)
  plain_folds at _ some = record {
    twins = refl;
    read = λ _. record {
      at = refl;
      single = refl;
      scalar = record { is_null = refl; is_empty = λ e. absurd (true≢false (sym e)); kind = refl; text = refl };
      coordinates = record { number = tt; position = tt; points = tt; lists = tt; area = tt; areas = tt };
      items = record { geometries = tt; features = λ _. tt };
      object = record { geometry = refl; item = refl; texts = tt; root = refl };
    };
  }

  pub text_folds : (a : TextAtom) (cs : List Character) → a.kind ≡ kind_of_text (units_of cs) → as_text (atoms.Text a) ≡ asked_text asked (Some (units_of cs)) → IsFold asked (atoms.Text a) (text a.at cs)
  text_folds a cs k u = record {
    twins = refl;
    read = λ _. record {
      at = refl;
      single = refl;
      scalar = record { is_null = refl; is_empty = λ e. absurd (true≢false (sym e)); kind = k; text = u };
      coordinates = record { number = tt; position = tt; points = tt; lists = tt; area = tt; areas = tt };
      items = record { geometries = tt; features = λ _. tt };
      object = record { geometry = refl; item = refl; texts = tt; root = refl };
    };
  }

  pub number_folds : (a : NumberAtom) (n : Numeral) → Ok a.value ≡ fixed_of n asked.digits asked.how → IsFold asked (atoms.Number a) (number a.at n)
  number_folds a n e = record {
    twins = refl;
    read = λ _. record {
      at = refl;
      single = refl;
      scalar = record { is_null = refl; is_empty = λ e. absurd (true≢false (sym e)); kind = refl; text = refl };
      coordinates = record { number = (ap (λ r. first_of (faults_in r a.at)) e, λ _. ap value_in e); position = tt; points = tt; lists = tt; area = tt; areas = tt };
      items = record { geometries = tt; features = λ _. tt };
      object = record { geometry = refl; item = refl; texts = tt; root = refl };
    };
  }

  pub bad_number_folds : (f : Fault) (n : Numeral) (why : FixedFault) → f ≡ fault_of why f.at → Err why ≡ fixed_of n asked.digits asked.how → IsFold asked (atoms.BadNumber f) (number f.at n)
  bad_number_folds f n why k e = record {
    twins = refl;
    read = λ _. record {
      at = refl;
      single = refl;
      scalar = record { is_null = refl; is_empty = λ e. absurd (true≢false (sym e)); kind = refl; text = refl };
      coordinates = record { number = (ap Some k ∙ ap (λ r. first_of (faults_in r f.at)) e, λ h. absurd (some_none f h)); position = tt; points = tt; lists = tt; area = tt; areas = tt };
      items = record { geometries = tt; features = λ _. tt };
      object = record { geometry = refl; item = refl; texts = tt; root = refl };
    };
  } where
    some_none : (g : Fault) → Some g ≡ None → ⊥
    some_none g h = none-some g (sym h)

  -- a value is in range
  pub own_number : (a : NumberAtom) (n : Numeral) → Ok a.value ≡ fixed_of n asked.digits asked.how → IsOwn asked (atoms.Number a)
  own_number a n e =
      let v : a.value ≡ value_of asked.digits asked.how n = ap value_in e in
      let s : nat_abs a.value ≤ 300000000000000 = subst (λ z. nat_abs z ≤ 300000000000000) (sym v) (value_small asked.digits asked.how n) in
      (s, omega arith)

  -- the fault of a number is at its offset
  pub bad_number_at : (at : ℕ) (n : Numeral) (why : FixedFault) → Err why ≡ fixed_of n asked.digits asked.how → IsFold asked (atoms.BadNumber (fault_of why at)) (number at n)
  bad_number_at at n Scale e = bad_number_folds (fault_of Scale at) n Scale refl e
  bad_number_at at n Range e = bad_number_folds (fault_of Range at) n Range refl e
