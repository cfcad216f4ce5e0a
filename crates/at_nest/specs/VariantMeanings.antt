-- What it is for a fragment to stand for a span of a file: from each start state, a form of its items, or a stop.
use Rattle.std.specs.Prelude.{◌≡◌, ℕ, ◌+◌, Option, List, ◌++◌, length}
use Rattle.at_lex.specs.Spans.{end_of}
use Rattle.at_lex.specs.declared.tokens.Start.{Start}
use Rattle.at_nest.specs.declared.pieces.SpanStop.{SpanStop}
use Rattle.at_nest.specs.declared.variants.Variant.{Variant}
use Rattle.at_nest.specs.declared.variants.Variant.TheVariants.{AllLead, Whole, Broken}
use Rattle.at_nest.specs.Tree.{Tree}
use Rattle.at_nest.specs.Levels.{Form, Pushed, further, push_then}
use Rattle.at_nest.specs.Stops.{AreLevels}
use Rattle.at_nest.specs.Unions.{IsToken, Ends, merged}
use Rattle.at_nest.specs.Variants.{IsAllLead, IsLeadEnd, IsWhole, IsBroken}
use Rattle.at_nest.specs.Shown.{Shown, shown}
use Rattle.at_nest.specs.KeptItems.{Content, free, IsShown, IsPushedAs, IsPartOf, halt_of}
use Rattle.at_nest.specs.Reading.{IsPlaced}

module _ {X : Type 0} (IsKept : X → Content → Type 0) where
  -- the bytes w, which stand at `at`, are a lead, the items that are kept, and what may go on
  pub record HoldsWhole (s : Start) (at : ℕ) (w : List ℕ) (lead : ℕ) (kept : Shown X) (pend : ℕ) (end : Start)
      : Type 0 where
    pub first : List ℕ
    pub form : Form Tree
    pub last : List ℕ
    pub is_whole : IsWhole free s at w first form last
    pub is_shown : IsShown IsKept at w kept form
    pub lead_at : lead ≡ at + length first
    pub pend_at : pend + length last ≡ at + length w
    pub end_is : end ≡ end_of s w

  -- they are a lead, the items that are kept, and an item at which no bytes before them let the span go on
  pub record HoldsBroken (s : Start) (at : ℕ) (w : List ℕ) (lead : ℕ) (kept : Shown X) (halt : SpanStop) : Type 0 where
    pub first : List ℕ
    pub form : Form Tree
    pub is_broken : IsBroken free s at w first form (halt_of halt)
    pub is_shown : IsShown IsKept at w kept form
    pub lead_at : lead ≡ at + length first

  -- the variant is the bytes' from the state s
  abbrev pub HoldsVariant : Start → ℕ → List ℕ → Variant X → Type 0
  HoldsVariant s at w (AllLead end) = IsAllLead s w × (end ≡ end_of s w)
  HoldsVariant s at w (Whole lead body pend end) = HoldsWhole s at w lead (shown body) pend end
  HoldsVariant s at w (Broken lead body halt) = HoldsBroken s at w lead (shown body) halt

  -- what stands behind a lead
  abbrev pub HoldsBehind : ℕ → List ℕ → ℕ → List ℕ → ℕ → Variant X → Type 0
  HoldsBehind at w i rest lead v = (s : Start) (u : List ℕ) → w ≡ u ++ rest → IsLeadEnd s u rest → i ≡ at + length u
      → lead ≡ at + length u → HoldsVariant s at w v

  -- two spans whose items can be put together, with the bytes v at `at` between them
  abbrev pub CanMeet : List ℕ → Shown X → Shown X → ℕ → List ℕ → Type 0
  CanMeet bytes s t at v = (base : ℕ) × (w : List ℕ) × (f : Form Tree) × (g : Form Tree) × (more : List ℕ)
      × IsPartOf bytes base w × IsShown IsKept base w s f × IsShown IsKept base w t g × IsPlaced base w at v
      × IsToken v more

  -- behind the first the token, and behind it the second
  abbrev pub Meets : List ℕ → Shown X → Shown X → Shown X → Option SpanStop → ℕ → List ℕ → Type 0
  Meets bytes old behind new r at v = (base : ℕ) (w : List ℕ) (f g : Form Tree) (more : List ℕ) → IsPartOf bytes base w
      → IsShown IsKept base w old f → IsShown IsKept base w behind g → AreLevels g.levels → IsPlaced base w at v
      → IsToken v more
      → (p : Pushed Tree) × Ends free at v more p
      × IsPushedAs IsKept base w new r (push_then (λ k. merged free (further k) (further g))
      (merged free (further f) p))

  -- a span of the bytes that is whole, and one behind it
  pub record Neighbours (bytes : List ℕ) (s : Start) (at : ℕ) (w x : List ℕ) (lead : ℕ) (kept : Shown X) (pend
      : ℕ) (right : Variant X) : Type 0 where
    pub part : IsPartOf bytes at (w ++ x)
    pub left_end : Start
    pub is_left : HoldsWhole s at w lead kept pend left_end
    pub is_right : HoldsVariant (end_of s w) (at + length w) x right

  abbrev pub HaveUnion : List ℕ → Start → ℕ → List ℕ → List ℕ → Variant X → Variant X → Type 0
  HaveUnion bytes s at w x left right = IsPartOf bytes at (w ++ x) × HoldsVariant s at w left
      × HoldsVariant (end_of s w) (at + length w) x right
