-- The rule of the crew: what holds between any two steps of the words, of the slots that are at home, and of all views.
-- f are the facts of the crew's job, k is the number of blocks, and c what the claim word says.
use Rattle.std.specs.Prelude.{◌≡◌, ℕ, ◌+◌, ◌-◌, ◌*◌, ◌^◌, ◌<◌, ◌≤◌, ◌⊎◌, List, length, sum_by, slice_index, Option}
use Rattle.std.specs.Prelude.{Some, None, true}
use mathlib.Core.Option.{some}
use mathlib.Core.Option as maybe
use lib.ListN.{get_elem?}
use Rattle.atomic_table.specs.Table.{State}
use Rattle.at_crew.specs.declared.view.HeldNode.{HeldNode}
use Rattle.at_crew.specs.declared.view.View.{View}
use Rattle.at_crew.specs.declared.view.View.TheVariants.{Spent, Climbs, Leads}
use Rattle.at_crew.specs.Nodes.{IsNode, first_of, end_of, Made, Settled, IsTop}
use Rattle.at_crew.specs.Views.{times, leads, lives, is_over, made, back, has_number, holds, claimed, merged}

-- n is 1 where p holds, and 0 where it doesn't
abbrev pub OneWhere : Type 0 → ℕ → Type 0
OneWhere p n = (p × (n ≡ 1)) ⊎ ((¬ p) × (n ≡ 0))

module _ {F : Type 0} where
  -- what each view knows by itself: the facts are the job's; the number that a pass fetched last was given out, what it
  -- holds is a node of the tree, and it holds none once it is over
  abbrev pub Knows : F → ℕ → ℕ → View F → Type 0
  Knows f k c Spent = Unit {0}
  Knows f k c (Climbs v) = (v.facts ≡ f) × ((x : ℕ) → v.last ≡ Some x → x < c)
      × ((p : HeldNode) → v.held ≡ Some p → (l : ℕ) × IsNode k l p.height p.node) × (v.over ≡ true → v.held ≡ None)
  Knows f k c (Leads h) = h.facts ≡ f

-- the words: an inner node's has no bits but its two, the root's is 0 or 1, and a bit stands only where its node is
-- made
pub record WordsMarked (k : ℕ) (words : List ℕ) : Type 0 where
  pub two_bits : (n : ℕ) → 0 < n → n < k → slice_index words n < 4
  pub one_bit : slice_index words k < 2
  pub below : (n : ℕ) → 0 < n → n < 2 * k → Settled k words n → Made k words n

-- the passes: there is one chief; as many passes live as were made, at most 64, and are not back; those that are over
-- or back have each fetched one number of k or more; and the numbers of the living differ and lie below the count made
pub record PassesCounted {F : Type 0} (f : F) (k c : ℕ) (views : List (View F)) : Type 0 where
  pub chief : sum_by leads views ≡ 1
  pub living : sum_by lives views + sum_by back views ≡ sum_by made views
  pub few : sum_by made views ≤ 64
  pub ended : sum_by is_over views + sum_by back views ≡ c - k
  pub numbers : (x : ℕ) → (sum_by (has_number x) views ≤ 1) × (sum_by made views ≤ x → sum_by (has_number x) views ≡ 0)
  pub each : (j : ℕ) (v : View F) → get_elem? views j ≡ some v → Knows f k c v

-- the work: each made node that isn't settled is held by one pass, and no other node by any; each number below c and k
-- stands once in one claimed list, and each made inner node once in one merged list
pub record WorkListed {F : Type 0} (k : ℕ) (words : List ℕ) (views : List (View F)) : Type 0 where
  pub held : (n : ℕ) → 0 < n → n < 2 * k → OneWhere (Made k words n × (¬ Settled k words n)) (sum_by (holds n) views)
  pub claims : (x : ℕ) → OneWhere ((x < slice_index words 0) × (x < k)) (sum_by (λ v. times x (claimed v)) views)
  pub merges : (x : ℕ) → OneWhere ((0 < x) × (x < k) × (slice_index words x ≡ 3))
      (sum_by (λ v. times x (merged v)) views)

-- the parts: that of a settled node whose parent isn't made lies at home, in the slot of its first leaf, and stands for
-- its blocks; and the slots of blocks that were not claimed are at home and empty
pub record PartsStored {P F : Type 0} (stands : F → P → ℕ → ℕ → Type 0) (f : F) (k : ℕ) (words : List ℕ)
    (homes : List (maybe.Option (Option P))) : Type 0 where
  pub tops : (l h n : ℕ) → IsNode k l h n → Settled k words n → IsTop k words n
      → (x : P) × (get_elem? homes (first_of k h n) ≡ some (some (Some x))) × stands f x (first_of k h n) (end_of k h n)
  pub fresh : (i : ℕ) → slice_index words 0 ≤ i → i < k → get_elem? homes i ≡ some (some None)

-- the whole rule
pub record CrewRule {P F : Type 0} (stands : F → P → ℕ → ℕ → Type 0) (f : F) (k : ℕ) (s : State (Option P) (View F))
    : Type 0 where
  pub power : (d : ℕ) × (k ≡ 2 ^ d)
  pub small : k ≤ 4096
  pub wide : length s.words ≡ k + 1
  pub deep : length s.homes ≡ k
  pub counted : PassesCounted f k (slice_index s.words 0) s.views
  pub marked : WordsMarked k s.words
  pub listed : WorkListed k s.words s.views
  pub stored : PartsStored stands f k s.words s.homes
