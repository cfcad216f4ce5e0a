-- The first fault of equal names among members, one member more.
-- For `object` and `value`.
use Rattle.std.proofs.Common.{◌≡◌, ℕ, Bor, Bool, true, false, not, cond, ◌||◌, bytes_eq, suc, ◌+◌, ◌==◌, ◌<◌, ◌≤◌, List, [], ◌∷◌, ◌++◌, Contains, length, map, take, drop, get_or, Option, refl, sym, ◌∙◌, ap, subst, arith}
use Rattle.std.specs.Ordering.{nat_cmp}
use Rattle.std.specs.Cmp.Lexicographic.{slice_cmp, nat_list_eq_equiv}
use Rattle.std.specs.BTreeSet.{BTreeSet, contains_by, UpdatesBy}
use Rattle.std.proofs.lemmas.Map.Text.{is_eq-slice_cmp}
use Rattle.std.proofs.Math.Seq.{take-suc, drop-cons}
use Rattle.std.proofs.lemmas.Bool.{false≢true, eq-eqb}
use Rattle.std.proofs.lemmas.List.{length-map, take-map, get_or-map}
use Rattle.std.proofs.lemmas.List.Sums.{sum_by-cons, sum_by-take-le, count_by_more_yes}
use Rattle.std.proofs.lemmas.Slice.Eq.{bytes_eq-Decides}
use Rattle.at_text.specs.Faults.{first_fault}
use Rattle.at_text.specs.declared.faults.Fault.{Fault}
use Rattle.at_text.proofs.FaultOrder.{first_fault-assoc}
use Rattle.at_nest.specs.declared.algebra.Member.{Member}
use Rattle.at_scan.specs.Hashes.{name_hash, times, HaveRepeated}
use Rattle.at_geojson.specs.declared.atoms.atom.GeoAtom.{GeoAtom}
use Rattle.at_geojson.specs.Gathering.{is_among, twin_at, member_twins}
use Rattle.at_geojson.specs.Hashes.{member_hash}

pub one_member_more : (ms : List (Member GeoAtom)) (i : ℕ) (m : Member GeoAtom) (first : Option Fault) → i < length ms → m ≡ get_or ms i m
    → first_fault (first_fault first (twin_at (is_among (take i ms) m.name) m)) (member_twins (take (i + 1) ms) (drop (i + 1) ms))
    ≡ first_fault first (member_twins (take i ms) (drop i ms))
one_member_more ms i m first within here =
    let more : i + 1 ≡ suc i = omega arith in
    let front : take (i + 1) ms ≡ take i ms ++ m ∷ [] = ap (λ k. take k ms) more ∙ (take-suc ms i m within ∙ ap (λ x. take i ms ++ x ∷ []) (sym here)) in
    let rest : drop i ms ≡ m ∷ drop (i + 1) ms = drop-cons ms i m within ∙ (ap (λ x. x ∷ drop (suc i) ms) (sym here) ∙ ap (λ k. m ∷ drop k ms) (sym more)) in
    let own = twin_at (is_among (take i ms) m.name) m in
    first_fault-assoc first own (member_twins (take (i + 1) ms) (drop (i + 1) ms))
    ∙ (ap (λ z. first_fault first (first_fault own (member_twins z (drop (i + 1) ms)))) front
    ∙ ap (λ z. first_fault first (member_twins (take i ms) z)) (sym rest))

-- a name more among those that were
among_more : (ms : List (Member GeoAtom)) (i : ℕ) (m : Member GeoAtom) (name : List ℕ) → i < length ms → m ≡ get_or ms i m
    → is_among (take (i + 1) ms) name ≡ (is_among (take i ms) name || bytes_eq name m.name)
among_more ms i m name within here =
    let more : i + 1 ≡ suc i = omega arith in
    let front : take (i + 1) ms ≡ take i ms ++ m ∷ [] = ap (λ k. take k ms) more ∙ (take-suc ms i m within ∙ ap (λ x. take i ms ++ x ∷ []) (sym here)) in
    ap (λ z. is_among z name) front ∙ behind (take i ms) where
      behind : (xs : List (Member GeoAtom)) → is_among (xs ++ m ∷ []) name ≡ (is_among xs name || bytes_eq name m.name)
      behind [] = false_right (bytes_eq name m.name) where
        false_right : (b : Bool) → (b || false) ≡ b
        false_right true = refl
        false_right false = refl
      behind (x ∷ xs) = go (bytes_eq name x.name) (behind xs) where
        go : (b : Bool) → is_among (xs ++ m ∷ []) name ≡ (is_among xs name || bytes_eq name m.name) → (b || is_among (xs ++ m ∷ []) name) ≡ ((b || is_among xs name) || bytes_eq name m.name)
        go true e = refl
        go false e = e

abbrev HasName : BTreeSet (Bor (List ℕ)) → Bor (List ℕ) → Bool
HasName s name = contains_by (λ k. slice_cmp nat_cmp name.now k.now) s

-- of the names with certain hashes, a set has those of some members
abbrev pub HasNames : List ℕ → BTreeSet (Bor (List ℕ)) → List (Member GeoAtom) → Type 0
HasNames hashes s ms = (name : Bor (List ℕ)) → Contains hashes (name_hash name.now) → HasName s name ≡ is_among ms name.now

-- the set of the names before a member, with the name of that member
pub set_more : (hashes : List ℕ) (ms : List (Member GeoAtom)) (i : ℕ) (m : Member GeoAtom) (units : Bor (List ℕ)) (s n : BTreeSet (Bor (List ℕ)))
    → i < length ms → m ≡ get_or ms i m → units.now ≡ m.name
    → UpdatesBy (λ x y. slice_cmp nat_cmp x.now y.now) (λ k. slice_cmp nat_cmp units.now k.now) s n true
    → HasNames hashes s (take i ms) → HasNames hashes n (take (i + 1) ms)
set_more hashes ms i m units s n within here same updates before name has =
    updates.0 name
    ∙ (ap (λ b. cond b true (HasName s name)) (is_eq-slice_cmp units.now name.now ∙ (nat_list_eq_equiv.symm units.now name.now ∙ ap (bytes_eq name.now) same))
    ∙ (ap (cond (bytes_eq name.now m.name) true) (before name has)
    ∙ (either (bytes_eq name.now m.name) (is_among (take i ms) name.now)
    ∙ sym (among_more ms i m name.now within here)))) where
      either : (a b : Bool) → cond a true b ≡ (b || a)
      either true true = refl
      either true false = refl
      either false true = refl
      either false false = refl

-- the same set, where the hash of the member's name is another one
pub set_kept : (hashes : List ℕ) (ms : List (Member GeoAtom)) (i : ℕ) (m : Member GeoAtom) (s : BTreeSet (Bor (List ℕ))) → i < length ms → m ≡ get_or ms i m
    → (Contains hashes (name_hash m.name) → ⊥) → HasNames hashes s (take i ms) → HasNames hashes s (take (i + 1) ms)
set_kept hashes ms i m s within here apart before name has =
    before name has ∙ (neither (is_among (take i ms) name.now) ∙ (ap (λ b. is_among (take i ms) name.now || b) (sym other) ∙ sym (among_more ms i m name.now within here))) where
      neither : (b : Bool) → b ≡ (b || false)
      neither true = refl
      neither false = refl

      unlike : (b : Bool) → bytes_eq name.now m.name ≡ b → b ≡ false
      unlike true e = absurd (apart (subst (λ u. Contains hashes (name_hash u)) ((bytes_eq-Decides name.now m.name).0 e) has))
      unlike false e = refl

      other : bytes_eq name.now m.name ≡ false
      other = unlike (bytes_eq name.now m.name) refl

-- the hash of a name stands among those of members of which one has it
hash_stands : (ms : List (Member GeoAtom)) (name : List ℕ) → is_among ms name ≡ true → 1 ≤ times (name_hash name) (map member_hash ms)
hash_stands [] name e = absurd (false≢true e)
hash_stands (m ∷ ms) name e = go (bytes_eq name m.name) refl e (hash_stands ms name) where
  more : times (name_hash name) (map member_hash (m ∷ ms)) ≡ cond (member_hash m == name_hash name) 1 0 + times (name_hash name) (map member_hash ms)
  more = sum_by-cons (λ x. cond (x == name_hash name) 1 0) (member_hash m) (map member_hash ms)

  go : (b : Bool) → bytes_eq name m.name ≡ b → (b || is_among ms name) ≡ true → (is_among ms name ≡ true → 1 ≤ times (name_hash name) (map member_hash ms))
      → 1 ≤ times (name_hash name) (map member_hash (m ∷ ms))
  go true same h later =
      let equal : (member_hash m == name_hash name) ≡ true = eq-eqb (member_hash m) (name_hash name) (ap name_hash (sym ((bytes_eq-Decides name m.name).0 same))) in
      let one = ap {B = ℕ} (λ b. cond b 1 0) equal in
      omega (arith, more, one)
  go false other h later = let rest = later h in omega (arith, more, rest)

-- a member whose name an earlier one has: its hash stands twice
stands_twice : (ms : List (Member GeoAtom)) (i : ℕ) (m : Member GeoAtom) → i < length ms → m ≡ get_or ms i m → is_among (take i ms) m.name ≡ true
    → 2 ≤ times (name_hash m.name) (map member_hash ms)
stands_twice ms i m within here e =
    let hash = name_hash m.name in
    let hashes = map member_hash ms in
    let long : i < length hashes = subst (λ k. i < k) (sym (length-map ms member_hash)) within in
    let same : get_or hashes i 0 ≡ hash = get_or-map member_hash ms i m 0 within ∙ ap member_hash (sym here) in
    let before : 1 ≤ times hash (take i hashes) = subst (λ hs. 1 ≤ times hash hs) (sym (take-map member_hash i ms)) (hash_stands (take i ms) m.name e) in
    let more = count_by_more_yes (λ x. x == hash) hashes i 0 long (eq-eqb (get_or hashes i 0) hash same) in
    let all = sum_by-take-le (λ x. cond (x == hash) 1 0) hashes (i + 1) in
    omega (arith, before, more, all)

-- a member whose name's hash is none of those that stand more than once is no twin
pub no_twin : (hashes : List ℕ) (ms : List (Member GeoAtom)) (i : ℕ) (m : Member GeoAtom) → HaveRepeated (map member_hash ms) hashes → i < length ms → m ≡ get_or ms i m
    → (Contains hashes (name_hash m.name) → ⊥) → is_among (take i ms) m.name ≡ false
no_twin hashes ms i m repeated within here apart = go (is_among (take i ms) m.name) refl where
  go : (b : Bool) → is_among (take i ms) m.name ≡ b → b ≡ false
  go true e = absurd (apart (repeated.all (name_hash m.name) (stands_twice ms i m within here e)))
  go false e = refl

pub negated : (a b c : Bool) → a ≡ not b → b ≡ c → not a ≡ c
negated a true c e h = ap not e ∙ h
negated a false c e h = ap not e ∙ h
