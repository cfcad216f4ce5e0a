-- Values that were passed over in a text from place to place, with the count of the values in them. The bytes w may
-- stand at any offset.
use Rattle.std.specs.Prelude.{◌≡◌, ℕ, ◌+◌, ◌<◌, ◌≤◌, ◌%◌, ◌^◌, List, [], ◌∷◌, length, slice_index}
use Rattle.at_text.specs.Parts.{At}
use Rattle.at_fixed.specs.NumberSoFar.{between}
use Rattle.at_lex.specs.Strings.{Character, JsonString, SpellsString}
use Rattle.at_nest.specs.Tree.{Tree, Spells}
use Rattle.at_nest.specs.Passing.{IsPadded, ItemsBefore, MembersBefore, Named}
use Rattle.bench_nest.specs.declared.passing.Passed.{Passed}
use Rattle.bench_nest.specs.Nodes.{nodes_of, CountsNodes}

-- a value begins at the place
abbrev pub IsPassed : List ℕ → ℕ → Passed → Type 0
IsPassed w at p = (at < p.end) × (p.end ≤ length w) × ((base : ℕ) → (t : Tree) × Spells (base + at) (between w at p.end) t
    × CountsNodes p.count t)

-- a string
abbrev pub IsPassedText : List ℕ → ℕ → ℕ → Type 0
IsPassedText w at end = (at < end) × (end ≤ length w) × JsonString (between w at end)

-- white space, a value, white space
abbrev pub IsPassedItem : List ℕ → ℕ → Passed → Type 0
IsPassedItem w at p = (at < p.end) × (p.end ≤ length w)
    × ((base : ℕ) → (t : Tree) × IsPadded (λ j v. Spells j v t) base w at p.end × CountsNodes p.count t)

-- white space, a name, white space, and a colon, at this place
abbrev pub IsPassedName : List ℕ → ℕ → ℕ → Type 0
IsPassedName w at colon = (at ≤ colon) × (colon < length w) × (slice_index w colon ≡ 0x3A)
    × ((base : ℕ) → (name : List Character) × (i : ℕ) × IsPadded (At i (SpellsString name)) base w at colon)

-- the values of the trees
abbrev pub nodes_in : List Tree → ℕ
nodes_in [] = 0
nodes_in (t ∷ done) = nodes_of t + nodes_in done

abbrev pub nodes_in_members : List Named → ℕ
nodes_in_members [] = 0
nodes_in_members (n ∷ done) = nodes_of n.tree + nodes_in_members done

-- between items of an array: so many values were counted, the array itself among them
abbrev pub AreItemsCounted : List ℕ → ℕ → ℕ → ℕ → Type 0
AreItemsCounted w at place n = (base : ℕ) → (done : List Tree) × ItemsBefore base w at place done
    × (n ≡ (1 + nodes_in done) % 2 ^ 64)

abbrev pub AreMembersCounted : List ℕ → ℕ → ℕ → ℕ → Type 0
AreMembersCounted w at place n = (base : ℕ) → (done : List Named) × MembersBefore base w at place done
    × (n ≡ (1 + nodes_in_members done) % 2 ^ 64)
