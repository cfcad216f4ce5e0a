-- A fault of the encoding is told before each fault of another kind, and before each that stands behind it.
-- For `encoding_of_parts`, `sequence_faults`, `line_faults` and `sound_parts`.
use Rattle.std.proofs.Common.{◌≡◌, ℕ, ◌+◌, ◌<◌, ◌==◌, true, ◌&&◌, ◌||◌, nat_lt, nat_le, if◌then◌else◌, List, [], ◌∷◌, ◌++◌, Option, Some, None, option_map, IfSome, refl, sym, ◌∙◌, ap, subst, arith}
use Rattle.std.specs.List.{AllByRecursion}
use Rattle.at_text.specs.declared.faults.Fault.{Fault}
use Rattle.at_text.specs.declared.faults.FaultKind.{FaultKind}
use Rattle.at_text.specs.declared.faults.FaultKind.TheVariants.{NotUtf8}
use Rattle.at_text.specs.Faults.{tier_of, number_of, first_fault, first_of, fault_at}
use Rattle.at_text.specs.Syntax.{IsSyntaxFault, stop_fault}
use Rattle.at_parts.specs.Moved.{fault_moved}

-- no fault is one of the encoding
abbrev pub AreLater : List Fault → Type 0
AreLater fs = AllByRecursion (λ (f : Fault). 1 < tier_of f.kind) fs

pub later_append : (fs gs : List Fault) → AreLater fs → AreLater gs → AreLater (fs ++ gs)
later_append [] gs h k = k
later_append (f ∷ fs) gs (h, hs) k = (h, later_append fs gs hs k)

pub later_by : (n : ℕ) (fs : List Fault) → 1 < n → AllByRecursion (λ (f : Fault). tier_of f.kind ≡ n) fs → AreLater fs
later_by n [] h k = tt
later_by n (f ∷ fs) h (e, es) = (subst (λ z. 1 < z) (sym e) h, later_by n fs h es)

stop_tier : (at : ℕ) (w : List ℕ) (n : ℕ) → tier_of (stop_fault at w n).kind ≡ 2
stop_tier at w n = grind arith

pub syntax_tier : (L : List ℕ → Type 0) (at : ℕ) (w : List ℕ) (f : Fault) → IsSyntaxFault L at w f → tier_of f.kind ≡ 2
syntax_tier L at w f h = ap (λ (z : Fault). tier_of z.kind) h.place ∙ stop_tier at w h.taken

pub syntax_later : (L : List ℕ → Type 0) (at : ℕ) (w : List ℕ) (f : Fault) → IsSyntaxFault L at w f → 1 < tier_of f.kind
syntax_later L at w f h = omega (arith, syntax_tier L at w f h)

-- what holds of all faults holds of the first
pub first_has : (P : Fault → Type 0) (fs : List Fault) → AllByRecursion P fs → IfSome (first_of fs) P
first_has P [] h = tt
first_has P (f ∷ fs) (h, hs) = by_rest (first_of fs) (first_has P fs hs) where
  by_rest : (o : Option Fault) → IfSome o P → IfSome (first_fault (Some f) o) P
  by_rest None k = h
  by_rest (Some g) k = grind (arith, h, k)

abbrev pub IsLater : Option Fault → Type 0
IsLater o = IfSome o (λ (f : Fault). 1 < tier_of f.kind)

pub first_later : (fs : List Fault) → AreLater fs → IsLater (first_of fs)
first_later fs h = first_has (λ (f : Fault). 1 < tier_of f.kind) fs h

-- the fault of the encoding is told before a later one
pub encoding_before : (o : Option Fault) (at : ℕ) → IsLater o → first_fault o (Some (fault_at NotUtf8 at)) ≡ Some (fault_at NotUtf8 at)
encoding_before None at h = refl
encoding_before (Some f) at h = grind (arith, h)

-- and before each fault that stands behind it
pub encoding_first : (at d : ℕ) (o : Option Fault) → at < d → first_fault (Some (fault_at NotUtf8 at)) (option_map (fault_moved d) o) ≡ Some (fault_at NotUtf8 at)
encoding_first at d None h = refl
encoding_first at d (Some g) h = ap (λ b. if b then Some (fault_at NotUtf8 at) else Some (fault_moved d g)) (by_kind g.kind) where
  below : nat_lt at (d + g.at) ≡ true
  below = grind (arith, h)

  by_kind : (k : FaultKind) → (nat_lt 1 (tier_of k) || ((1 == tier_of k) && (nat_lt at (d + g.at) || ((at == (d + g.at)) && nat_le 1 (number_of k))))) ≡ true
  by_kind NotUtf8 = ap (λ b. b || ((at == (d + g.at)) && true)) below
  by_kind _ = refl
