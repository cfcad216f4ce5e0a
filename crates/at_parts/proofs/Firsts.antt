-- The first fault of a list of which all are moved.
-- For `line_faults` and `sequence_faults`.
use Rattle.std.proofs.Common.{◌≡◌, ℕ, ◌+◌, Bool, ◌==◌, nat_lt, if◌then◌else◌, List, [], ◌∷◌, map, Option, Some, None, option_map, refl, ◌∙◌, ap, arith}
use Rattle.at_text.specs.declared.faults.Fault.{Fault}
use Rattle.at_text.specs.Faults.{comes_first, first_fault, first_of}
use Rattle.at_parts.specs.Moved.{fault_moved}

module _ (d : ℕ) where
  pub comes_moved : (f g : Fault) → comes_first (fault_moved d f) (fault_moved d g) ≡ comes_first f g
  comes_moved f g =
      let lesser : nat_lt (d + f.at) (d + g.at) ≡ nat_lt f.at g.at = grind arith in
      let same : ((d + f.at) == (d + g.at)) ≡ (f.at == g.at) = grind arith in
      cc

  first_fault_moved : (o p : Option Fault) → first_fault (option_map (fault_moved d) o) (option_map (fault_moved d) p) ≡ option_map (fault_moved d) (first_fault o p)
  first_fault_moved None p = refl
  first_fault_moved (Some f) None = refl
  first_fault_moved (Some f) (Some g) = rw (comes_moved f g) (one_moved (comes_first f g)) where
    one_moved : (b : Bool) → (if b then Some (fault_moved d f) else Some (fault_moved d g)) ≡ option_map (fault_moved d) (if b then Some f else Some g)
    one_moved b = grind arith

  pub first_of_moved : (fs : List Fault) → first_of (map (fault_moved d) fs) ≡ option_map (fault_moved d) (first_of fs)
  first_of_moved [] = refl
  first_of_moved (f ∷ fs) = ap (first_fault (Some (fault_moved d f))) (first_of_moved fs) ∙ first_fault_moved (Some f) (first_of fs)
