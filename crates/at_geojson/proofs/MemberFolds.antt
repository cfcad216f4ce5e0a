-- Members of an object: equal names among them, and the value of a name.
-- For `object` and `value`.
use Rattle.std.proofs.Common.{◌≡◌, ℕ, Bool, true, false, ◌||◌, if◌then◌else◌, bytes_eq, codes, List, [], ◌∷◌, ◌++◌, Option, Some, None, option_and_then, refl, sym, ◌∙◌, ap, subst}
use Rattle.std.proofs.lemmas.List.Folds.{list_any-append}
use Rattle.at_text.specs.Faults.{first_fault, first_of, fault_at}
use Rattle.at_text.specs.declared.faults.Fault.{Fault}
use Rattle.at_text.specs.declared.faults.FaultKind.TheVariants.{Twin}
use Rattle.at_text.proofs.FaultOrder.{first_fault-assoc, first_of-append}
use Rattle.at_lex.specs.Strings.{units_of}
use Rattle.at_nest.specs.declared.algebra.Member.{Member}
use Rattle.at_nest.specs.Folds.{AreMemberFolds}
use Rattle.at_nest.specs.Tree.{Tree, Members, no_members, member_and}
use Rattle.at_nest.specs.Twins.{twins_of, twins_of_members, is_among as named_before}
use Rattle.at_scan.specs.Names.{kind_of_text}
use Rattle.at_query.specs.Keeping.{Asked}
use Rattle.at_geojson.specs.declared.atoms.atom.GeoAtom.{GeoAtom}
use Rattle.at_geojson.specs.Names.{member_named, kind_of, units_of_text}
use Rattle.at_geojson.specs.Atoms.{Alike, twin_of, as_kind, IsRead, IsFold}
use Rattle.at_geojson.specs.Gathering.{seen, is_among, own_twin, twin_at, member_twins}
use Rattle.at_geojson.specs.Objects.{value_named, kind_in}
use Rattle.at_geojson.proofs.Each.{none_left, none_behind}

abbrev Before : List (Member GeoAtom) → List (List ℕ) → Type 0
Before earlier names = (name : List ℕ) → is_among earlier name ≡ named_before names name

before_more : (earlier : List (Member GeoAtom)) (names : List (List ℕ)) (m : Member GeoAtom) (units : List ℕ) → m.name ≡ units → Before earlier names → Before (earlier ++ m ∷ []) (units ∷ names)
before_more earlier names m units e h name = list_any-append (λ (x : Member GeoAtom). bytes_eq name x.name) earlier (m ∷ [])
    ∙ (ap (λ b. b || (bytes_eq name m.name || false)) (h name) ∙ (swapped (named_before names name) (bytes_eq name m.name) ∙ ap (λ u. bytes_eq name u || named_before names name) e)) where
      swapped : (a b : Bool) → (a || (b || false)) ≡ (b || a)
      swapped true true = refl
      swapped true false = refl
      swapped false true = refl
      swapped false false = refl

one_fault : (b : Bool) (f : Fault) → first_of (if b then f ∷ [] else []) ≡ (if b then Some f else None)
one_fault true f = refl
one_fault false f = refl

module _ (asked : Asked) where
  twins_from : (xs : List (Member GeoAtom)) (ms : Members) (earlier : List (Member GeoAtom)) (names : List (List ℕ)) → Before earlier names → AreMemberFolds (IsFold asked) xs ms
      → member_twins earlier xs ≡ first_of (twins_of_members names ms)
  twins_from [] no_members earlier names b h = refl
  twins_from (x ∷ xs) (member_and name i t ms) earlier names b (en, ei, r, rs) =
      let own : own_twin (is_among earlier x.name) x ≡ first_of (if named_before names (units_of name) then fault_at Twin i ∷ [] else []) =
      ap (λ c. if c then Some (fault_at Twin x.name_at) else None) (b x.name ∙ ap (named_before names) en) ∙ (ap (λ k. if named_before names (units_of name) then Some (fault_at Twin k) else None) ei ∙ sym (one_fault (named_before names (units_of name)) (fault_at Twin i))) in
      let mine = if named_before names (units_of name) then fault_at Twin i ∷ [] else [] in
      let rest = twins_from xs ms (earlier ++ x ∷ []) (units_of name ∷ names) (before_more earlier names x (units_of name) en b) rs in
      ap (λ o. first_fault (first_fault o (twin_of x.value)) (member_twins (earlier ++ x ∷ []) xs)) own
      ∙ (ap (λ o. first_fault (first_fault (first_of mine) o) (member_twins (earlier ++ x ∷ []) xs)) r.twins
      ∙ (ap (λ o. first_fault (first_fault (first_of mine) (first_of (twins_of t))) o) rest
      ∙ (first_fault-assoc (first_of mine) (first_of (twins_of t)) (first_of (twins_of_members (units_of name ∷ names) ms))
      ∙ (ap (first_fault (first_of mine)) (sym (first_of-append (twins_of t) (twins_of_members (units_of name ∷ names) ms)))
      ∙ sym (first_of-append mine (twins_of t ++ twins_of_members (units_of name ∷ names) ms))))))
  twins_from [] (member_and name i t ms) earlier names b h = absurd h
  twins_from (x ∷ xs) no_members earlier names b h = absurd h

  pub twins_members : (xs : List (Member GeoAtom)) (ms : Members) → AreMemberFolds (IsFold asked) xs ms → member_twins [] xs ≡ first_of (twins_of_members [] ms)
  twins_members xs ms h = twins_from xs ms [] [] (λ name. refl) h

  pub reads_members : (xs : List (Member GeoAtom)) (ms : Members) (earlier : List (Member GeoAtom)) → AreMemberFolds (IsFold asked) xs ms → member_twins earlier xs ≡ None → AreMemberFolds (IsRead asked) xs ms
  reads_members [] no_members earlier h e = tt
  reads_members (x ∷ xs) (member_and name i t ms) earlier (en, ei, r, rs) e =
      let one = none_left (twin_at (is_among earlier x.name) x) (member_twins (earlier ++ x ∷ []) xs) e in
      let more = none_behind (twin_at (is_among earlier x.name) x) (member_twins (earlier ++ x ∷ []) xs) e in
      (en, ei, r.read (none_behind (own_twin (is_among earlier x.name) x) (twin_of x.value) one), reads_members xs ms (earlier ++ x ∷ []) rs more)
  reads_members [] (member_and name i t ms) earlier h e = absurd h
  reads_members (x ∷ xs) no_members earlier h e = absurd h

  -- the value of a name
  pub named : (wanted : List ℕ) (xs : List (Member GeoAtom)) (ms : Members) → AreMemberFolds (IsRead asked) xs ms → Alike (IsRead asked) (value_named wanted xs) (member_named wanted ms)
  named wanted [] no_members h = tt
  named wanted (x ∷ xs) (member_and name i t ms) (en, ei, r, rs) = go (bytes_eq x.name wanted) refl (named wanted xs ms rs) where
    go : (b : Bool) → bytes_eq x.name wanted ≡ b → Alike (IsRead asked) (value_named wanted xs) (member_named wanted ms) → Alike (IsRead asked) (value_named wanted (x ∷ xs)) (member_named wanted (member_and name i t ms))
    go b e more = subst (λ c. Alike (IsRead asked) (if c then Some x.value else value_named wanted xs) (member_named wanted (member_and name i t ms))) (sym e)
        (subst (λ c. Alike (IsRead asked) (if b then Some x.value else value_named wanted xs) (if c then Some t else member_named wanted ms)) (sym e ∙ ap (λ u. bytes_eq u wanted) en) (pick b more)) where
          pick : (c : Bool) → Alike (IsRead asked) (value_named wanted xs) (member_named wanted ms) → Alike (IsRead asked) (if c then Some x.value else value_named wanted xs) (if c then Some t else member_named wanted ms)
          pick true more = r
          pick false more = more
  named wanted [] (member_and name i t ms) h = absurd h
  named wanted (x ∷ xs) no_members h = absurd h

  kind_seen : (o : Option GeoAtom) (p : Option Tree) → Alike (IsRead asked) o p → seen None as_kind o ≡ option_and_then kind_of_text (option_and_then units_of_text p)
  kind_seen None None h = refl
  kind_seen (Some a) (Some t) h = h.scalar.kind
  kind_seen _ _ h = absurd h

  pub kind_is : (xs : List (Member GeoAtom)) (ms : Members) → AreMemberFolds (IsRead asked) xs ms → kind_in xs ≡ kind_of ms
  kind_is xs ms h = kind_seen (value_named (codes "type") xs) (member_named (codes "type") ms) (named (codes "type") xs ms h)
