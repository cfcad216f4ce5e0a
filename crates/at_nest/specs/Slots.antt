-- Which variant of a span goes on behind a left one, and when it can.
use Rattle.std.specs.Prelude.{◌≡◌, ◌≢◌, ℕ, ◌+◌, Option, Some, None, List, ◌++◌, length}
use Rattle.at_lex.specs.Spans.{end_of}
use Rattle.at_lex.specs.declared.tokens.Start.{Start}
use Rattle.at_lex.specs.declared.tokens.Start.TheVariants.{Out, InString, InEscape}
use Rattle.at_nest.specs.declared.fragments.Escape.{Escape}
use Rattle.at_nest.specs.declared.fragments.Escape.TheVariants.{AsString, Unread}
use Rattle.at_nest.specs.declared.fragments.Parts.{Parts}
use Rattle.at_nest.specs.declared.fragments.Slot.{Slot}
use Rattle.at_nest.specs.declared.fragments.Slot.TheVariants as slot
use Rattle.at_nest.specs.declared.variants.Variant.{Variant}
use Rattle.at_nest.specs.declared.variants.Variant.TheVariants.{AllLead, Whole, Broken}
use Rattle.at_nest.specs.KeptItems.{Content, IsPartOf}
use Rattle.at_nest.specs.VariantMeanings.{HoldsVariant}
use Rattle.at_nest.specs.FragmentMeanings.{HoldsParts}

-- the state in which what stands behind begins; none where the span stops
abbrev pub end_in : {X : Type 0} → Variant X → Option Start
end_in (AllLead end) = Some end
end_in (Whole lead body pend end) = Some end
end_in (Broken lead body halt) = None

-- the variant from the state, in a span of which this is said from behind a backslash
abbrev pub slot_in : Escape → Option Start → Option Slot
slot_in e None = None
slot_in e (Some Out) = Some slot.Out
slot_in e (Some InString) = Some slot.String
slot_in AsString (Some InEscape) = Some slot.String
slot_in Unread (Some InEscape) = Some (slot.Bytes InEscape)

-- the bytes, which are read from the state
abbrev pub bytes_in : Option Start → Option Slot
bytes_in None = None
bytes_in (Some s) = Some (slot.Bytes s)

-- the variant from the state, or the bytes where the one that is kept is taken
abbrev pub unless_taken : Option Slot → Option Slot → Option Start → Option Slot
unless_taken (Some slot.Out) (Some slot.Out) state = bytes_in state
unless_taken (Some slot.String) (Some slot.String) state = bytes_in state
unless_taken _ wanted state = wanted

abbrev pub slot_behind : Escape → Option Slot → Option Start → Option Slot
slot_behind e taken state = unless_taken taken (slot_in e state) state

-- a variant that holds nothing
abbrev pub no_items : {X : Type 0} → Variant X
no_items = AllLead Out

-- what isn't taken stays as it was, and so does the place
pub record Stays {X : Type 0} (taken : Option Slot) (old new : Parts X) : Type 0 where
  pub from : new.from ≡ old.from
  pub to : new.to ≡ old.to
  pub out : taken ≢ Some slot.Out → new.out ≡ old.out
  pub string : taken ≢ Some slot.String → new.string ≡ old.string

module _ {X : Type 0} (IsKept : X → Content → Type 0) where
  -- the variant that is meant is that of the bytes from the state, or it is read from the bytes that the span has
  abbrev pub HoldsIn : Start → ℕ → List ℕ → Parts X → Slot → Type 0
  HoldsIn s at x parts slot.Out = HoldsVariant IsKept s at x parts.out
  HoldsIn s at x parts slot.String = HoldsVariant IsKept s at x parts.string
  HoldsIn s at x parts (slot.Bytes q) = (s ≡ q) × (parts.from ≡ at) × (parts.to ≡ at + length x)

  -- there are bytes of which it is the variant
  abbrev pub CanTake : List ℕ → Parts X → Slot → Type 0
  CanTake bytes parts q = (s : Start) × (at : ℕ) × (x : List ℕ) × IsPartOf bytes at x × HoldsIn s at x parts q

  -- the variant that is taken is that of all bytes of which the one that is meant is
  abbrev pub Takes : List ℕ → Parts X → Slot → Variant X → Type 0
  Takes bytes parts q v = (s : Start) (at : ℕ) (x : List ℕ) → IsPartOf bytes at x → HoldsIn s at x parts q
      → HoldsVariant IsKept s at x v

  -- the left variant is that of the bytes w from the state s, and the wanted one is that of the bytes x behind them; or
  -- the left one stops
  abbrev pub GoesOn : List ℕ → Start → ℕ → List ℕ → List ℕ → Variant X → Parts X → Option Slot → Type 0
  GoesOn bytes s at w x left right (Some q) = IsPartOf bytes at (w ++ x) × HoldsVariant IsKept s at w left
      × HoldsIn (end_of s w) (at + length w) x right q
  GoesOn bytes s at w x left right None = HoldsVariant IsKept s at w left × (end_in left ≡ None)

  -- what is kept of the bytes w, and of the bytes x behind them
  abbrev pub AreBeside : List ℕ → ℕ → List ℕ → List ℕ → Parts X → Parts X → Type 0
  AreBeside bytes at w x left right = IsPartOf bytes at (w ++ x) × HoldsParts IsKept at w left
      × HoldsParts IsKept (at + length w) x right
