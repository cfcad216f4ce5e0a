-- The order in which faults are told.
-- For all that joins faults: the readers of lines and of GeoJSON, and what comes of several features.
use Rattle.std.proofs.Common.{◌≡◌, ℕ, Bool, true, false, ◌&&◌, ◌||◌, ◌==◌, nat_lt, nat_le, if◌then◌else◌, List, [], ◌∷◌, ◌++◌, Option, Some, None, refl, sym, ◌∙◌, ap, arith, true≢false}
use Rattle.std.proofs.lemmas.Bool.Decides.{nat_tests}
use Rattle.at_text.specs.declared.faults.Fault.{Fault}
use Rattle.at_text.specs.Faults.{comes_first, first_fault, first_of, tier_of, number_of}

-- the numbers by which faults are told in order
record Key : Type 0 where
  pub tier : ℕ
  pub at : ℕ
  pub number : ℕ

abbrev key : Fault → Key
key a = record { tier = tier_of a.kind; at = a.at; number = number_of a.kind }

abbrev earlier : Key → Key → Bool
earlier a b = nat_lt a.tier b.tier || ((a.tier == b.tier) && (nat_lt a.at b.at || ((a.at == b.at) && nat_le a.number b.number)))

earlier_trans : (a b c : Key) → earlier a b ≡ true → earlier b c ≡ true → earlier a c ≡ true
earlier_trans a b c h k = grind (arith, nat_tests, h, k)

earlier_or_later : (a b : Key) → earlier a b ≡ false → earlier b a ≡ true
earlier_or_later a b h = grind (arith, nat_tests, h)

first_trans : (a b c : Fault) → comes_first a b ≡ true → comes_first b c ≡ true → comes_first a c ≡ true
first_trans a b c h k = earlier_trans (key a) (key b) (key c) h k

pub later_first : (a b : Fault) → comes_first a b ≡ false → comes_first b a ≡ true
later_first a b h = earlier_or_later (key a) (key b) h

module _ (a b c : Fault) where
  left : (x : Bool) → comes_first a b ≡ x → first_fault (first_fault (Some a) (Some b)) (Some c) ≡ first_fault (if x then Some a else Some b) (Some c)
  left x e = ap (λ t. first_fault (if t then Some a else Some b) (Some c)) e

  right : (y : Bool) → comes_first b c ≡ y → first_fault (Some a) (first_fault (Some b) (Some c)) ≡ first_fault (Some a) (if y then Some b else Some c)
  right y e = ap (λ t. first_fault (Some a) (if t then Some b else Some c)) e

  three : (x y z : Bool) → comes_first a b ≡ x → comes_first b c ≡ y → comes_first a c ≡ z
      → first_fault (first_fault (Some a) (Some b)) (Some c) ≡ first_fault (Some a) (first_fault (Some b) (Some c))
  three true true z e f g =
      let first : comes_first a c ≡ true = first_trans a b c e f in
      left true e ∙ (ap (λ t. if t then Some a else Some c) first ∙ sym (right true f ∙ ap (λ t. if t then Some a else Some b) e))
  three true false z e f g = left true e ∙ sym (right false f)
  three false true z e f g = left false e ∙ (ap (λ t. if t then Some b else Some c) f ∙ sym (right true f ∙ ap (λ t. if t then Some a else Some b) e))
  three false false true e f g = absurd (true≢false (sym (first_trans a c b g (later_first b c f)) ∙ e))
  three false false false e f g = left false e ∙ (ap (λ t. if t then Some b else Some c) f ∙ sym (right false f ∙ ap (λ t. if t then Some a else Some c) g))

pub none_right : (o : Option Fault) → first_fault o None ≡ o
none_right None = refl
none_right (Some a) = refl

pub first_fault-assoc : (a b c : Option Fault) → first_fault (first_fault a b) c ≡ first_fault a (first_fault b c)
first_fault-assoc (Some a) (Some b) None = none_right (first_fault (Some a) (Some b))
first_fault-assoc (Some a) (Some b) (Some c) = three a b c (comes_first a b) (comes_first b c) (comes_first a c) refl refl refl
first_fault-assoc _ _ c = refl

-- the first of joined lists
pub first_of-append : (fs gs : List Fault) → first_of (fs ++ gs) ≡ first_fault (first_of fs) (first_of gs)
first_of-append [] gs = refl
first_of-append (f ∷ fs) gs = ap (first_fault (Some f)) (first_of-append fs gs) ∙ sym (first_fault-assoc (Some f) (first_of fs) (first_of gs))
