-- What the views of seats say, and how steps change them. A view is the chief's (`Leads`), a pass's (`Climbs`), or
-- spent.
use Rattle.std.specs.Prelude.{◌≡◌, ℕ, ◌+◌, ◌==◌, min, List, [], ◌∷◌, ◌++◌, count_by, cond, Option, Some, None, Bool}
use Rattle.std.specs.Prelude.{true, false}
use Rattle.at_crew.specs.declared.view.HeldNode.{HeldNode}
use Rattle.at_crew.specs.declared.view.Climber.{Climber}
use Rattle.at_crew.specs.declared.view.Leader.{Leader}
use Rattle.at_crew.specs.declared.view.View.{View}
use Rattle.at_crew.specs.declared.view.View.TheVariants.{Spent, Climbs, Leads}

-- 1 or 0
abbrev pub one_if : Bool → ℕ
one_if b = cond b 1 0

-- how often x stands in the list
abbrev pub times : ℕ → List ℕ → ℕ
times x xs = count_by (λ y. y == x) xs

abbrev pub held_node : ℕ → ℕ → HeldNode
held_node n h = record { node = n; height = h }

-- 1 where what is held is node n
abbrev pub is_at : ℕ → Option HeldNode → ℕ
is_at n None = 0
is_at n (Some p) = one_if (p.node == n)

-- there is a value, and P holds of it
abbrev pub OnSome : {A : Type 0} → Option A → (A → Type 0) → Type 0
OnSome None P = ⊥
OnSome (Some x) P = P x

module _ {F : Type 0} where
  -- what a view counts for, in sums over all views: chiefs, living passes, passes that are over, passes made, passes
  -- taken back, passes with the number x, and passes that hold node n
  abbrev pub leads : View F → ℕ
  leads Spent = 0
  leads (Climbs v) = 0
  leads (Leads h) = 1

  abbrev pub lives : View F → ℕ
  lives Spent = 0
  lives (Climbs v) = 1
  lives (Leads h) = 0

  abbrev pub is_over : View F → ℕ
  is_over Spent = 0
  is_over (Climbs v) = one_if v.over
  is_over (Leads h) = 0

  abbrev pub made : View F → ℕ
  made Spent = 0
  made (Climbs v) = 0
  made (Leads h) = h.made

  abbrev pub back : View F → ℕ
  back Spent = 0
  back (Climbs v) = 0
  back (Leads h) = h.back

  abbrev pub has_number : ℕ → View F → ℕ
  has_number x Spent = 0
  has_number x (Climbs v) = one_if (v.number == x)
  has_number x (Leads h) = 0

  abbrev pub holds : ℕ → View F → ℕ
  holds n Spent = 0
  holds n (Climbs v) = is_at n v.held
  holds n (Leads h) = 0

  -- the blocks that were claimed, and the nodes that were merged
  abbrev pub claimed : View F → List ℕ
  claimed Spent = []
  claimed (Climbs v) = v.claimed
  claimed (Leads h) = h.claimed

  abbrev pub merged : View F → List ℕ
  merged Spent = []
  merged (Climbs v) = v.merged
  merged (Leads h) = h.merged

  -- the view is a pass's, of which P holds
  abbrev pub OnClimber : View F → (Climber F → Type 0) → Type 0
  OnClimber Spent P = ⊥
  OnClimber (Climbs v) P = P v
  OnClimber (Leads h) P = ⊥

  -- the view is the chief's, of which P holds
  abbrev pub OnLeader : View F → (Leader F → Type 0) → Type 0
  OnLeader Spent P = ⊥
  OnLeader (Climbs v) P = ⊥
  OnLeader (Leads h) P = P h

  -- the chief's view at first, and a new pass's
  abbrev pub leader : F → Leader F
  leader f = record { facts = f; made = 0; back = 0; claimed = []; merged = [] }

  abbrev pub newcomer : F → ℕ → Climber F
  newcomer f n = record { facts = f; number = n; held = None; last = None; over = false; claimed = []; merged = [] }

  -- after a claim of block n among k
  abbrev pub claiming : ℕ → ℕ → Climber F → Climber F
  claiming k n v = record {
    facts = v.facts;
    number = v.number;
    held = Some (held_node (k + n) 0);
    last = Some n;
    over = false;
    claimed = v.claimed ++ n ∷ [];
    merged = v.merged;
  }

  -- after a claim that found nothing left
  abbrev pub ending : ℕ → Climber F → Climber F
  ending n v = record {
    facts = v.facts;
    number = v.number;
    held = None;
    last = Some n;
    over = true;
    claimed = v.claimed;
    merged = v.merged;
  }

  -- with nothing held
  abbrev pub resting : Climber F → Climber F
  resting v = record {
    facts = v.facts;
    number = v.number;
    held = None;
    last = v.last;
    over = v.over;
    claimed = v.claimed;
    merged = v.merged;
  }

  -- with the parent, which the pass has merged
  abbrev pub climbing : HeldNode → Climber F → Climber F
  climbing p v = record {
    facts = v.facts;
    number = v.number;
    held = Some p;
    last = v.last;
    over = v.over;
    claimed = v.claimed;
    merged = v.merged ++ p.node ∷ [];
  }

  -- one pass more, and its view
  abbrev pub hires : View F → View F
  hires Spent = Spent
  hires (Climbs v) = Climbs v
  hires (Leads h) = Leads record {
    facts = h.facts;
    made = h.made + 1;
    back = h.back;
    claimed = h.claimed;
    merged = h.merged;
  }

  abbrev pub hired : View F → View F
  hired Spent = Spent
  hired (Climbs v) = Climbs v
  hired (Leads h) = Climbs (newcomer h.facts h.made)

  -- one pass is back, and its lists
  abbrev pub gathers : View F → View F → View F
  gathers Spent w = Spent
  gathers (Climbs v) w = Climbs v
  gathers (Leads h) w = Leads record {
    facts = h.facts;
    made = h.made;
    back = min h.made (h.back + 1);
    claimed = h.claimed ++ claimed w;
    merged = h.merged ++ merged w;
  }

  -- what kind of view it is, and the parts of a pass's
  abbrev pub is_pass : View F → Bool
  is_pass Spent = false
  is_pass (Climbs v) = true
  is_pass (Leads h) = false

  abbrev pub is_chief : View F → Bool
  is_chief Spent = false
  is_chief (Climbs v) = false
  is_chief (Leads h) = true

  abbrev pub number_of : View F → ℕ
  number_of Spent = 0
  number_of (Climbs v) = v.number
  number_of (Leads h) = 0

  abbrev pub held_of : View F → Option HeldNode
  held_of Spent = None
  held_of (Climbs v) = v.held
  held_of (Leads h) = None

  abbrev pub last_of : View F → Option ℕ
  last_of Spent = None
  last_of (Climbs v) = v.last
  last_of (Leads h) = None

  abbrev pub over_of : View F → Bool
  over_of Spent = false
  over_of (Climbs v) = v.over
  over_of (Leads h) = false

  -- the same changes, of any view
  abbrev pub rests : View F → View F
  rests Spent = Spent
  rests (Climbs v) = Climbs (resting v)
  rests (Leads h) = Leads h

  abbrev pub climbs_to : HeldNode → View F → View F
  climbs_to p Spent = Spent
  climbs_to p (Climbs v) = Climbs (climbing p v)
  climbs_to p (Leads h) = Leads h

  -- the view is a pass's, under these facts
  abbrev pub HasFacts : F → View F → Type 0
  HasFacts f w = OnClimber w (λ v. v.facts ≡ f)

  -- with more merged nodes
  abbrev pub adds : List ℕ → View F → View F
  adds ns Spent = Spent
  adds ns (Climbs v) = Climbs record {
    facts = v.facts;
    number = v.number;
    held = v.held;
    last = v.last;
    over = v.over;
    claimed = v.claimed;
    merged = v.merged ++ ns;
  }
  adds ns (Leads h) = Leads h

  -- the view is the chief's, under these facts
  abbrev pub LedBy : F → View F → Type 0
  LedBy f w = OnLeader w (λ h. h.facts ≡ f)
