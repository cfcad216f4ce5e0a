-- The first of the faults that a pass over a list finds, and the first fault of joined lists.
-- For `add`, `array`, `object`, `root_part` and `value`.
use Rattle.std.proofs.Common.{◌≡◌, Bool, true, false, if◌then◌else◌, List, [], ◌∷◌, fold, Option, Some, None, refl, sym, ◌∙◌, ap}
use Rattle.std.proofs.lemmas.Option.{none-some}
use Rattle.at_text.specs.Faults.{comes_first, first_fault, first_of}
use Rattle.at_text.specs.declared.faults.Fault.{Fault}
use Rattle.at_text.proofs.FaultOrder.{first_fault-assoc, none_right}
use Rattle.at_geojson.specs.Gathering.{firsts}

module _ {X : Type 0} (f : X → Option Fault) where
  pub firsts_from : (xs : List X) (o : Option Fault) → fold (λ first x. first_fault first (f x)) o xs ≡ first_fault o (firsts f xs)
  firsts_from [] o = sym (none_right o)
  firsts_from (x ∷ xs) o = firsts_from xs (first_fault o (f x)) ∙ (first_fault-assoc o (f x) (firsts f xs) ∙ sym (ap (first_fault o) (firsts_from xs (f x))))

  pub firsts-cons : (x : X) (xs : List X) → firsts f (x ∷ xs) ≡ first_fault (f x) (firsts f xs)
  firsts-cons x xs = firsts_from xs (f x)

-- a list has no first fault where it has none
pub none_first : (fs : List Fault) → first_of fs ≡ None → fs ≡ []
none_first [] e = refl
none_first (f ∷ fs) e = absurd (has (first_of fs) e) where
  some : (b : Bool) (g : Fault) → (if b then Some f else Some g) ≡ None → ⊥
  some true g h = none-some f (sym h)
  some false g h = none-some g (sym h)

  has : (o : Option Fault) → first_fault (Some f) o ≡ None → ⊥
  has None h = none-some f (sym h)
  has (Some g) h = some (comes_first f g) g h
