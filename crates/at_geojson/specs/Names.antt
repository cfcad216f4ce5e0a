-- Members of an object by name, and the kinds of GeoJSON (RFC 7946 sections 1.4 and 3).
use Rattle.std.specs.Prelude.{ℕ, Bool, bytes_eq, if◌then◌else◌, codes, List, [], ◌∷◌, Option, Some, None}
use Rattle.std.specs.Prelude.{option_and_then}
use Rattle.at_lex.specs.Strings.{Character, units_of}
use Rattle.at_nest.specs.Tree.{Tree, text, Trees, no_trees, tree_and, Members, no_members, member_and}
use Rattle.at_scan.specs.declared.kinds.Kind.{Kind}
use Rattle.at_scan.specs.Names.{kind_of_text}

-- the name's units are those of the text
abbrev pub is_named : List ℕ → List Character → Bool
is_named wanted name = bytes_eq (units_of name) wanted

-- the value of the first member of that name, where there is one (a second one is a Twin)
abbrev pub member_named : List ℕ → Members → Option Tree
member_named name no_members = None
member_named name (member_and n i t ms) = if is_named name n then Some t else member_named name ms

abbrev pub units_of_text : Tree → Option (List ℕ)
units_of_text (text i cs) = Some (units_of cs)
units_of_text _ = None

-- the units of the member `type`, where that is a string
abbrev pub type_of : Members → Option (List ℕ)
type_of ms = option_and_then units_of_text (member_named (codes "type") ms)

-- the kind that the object says it is
abbrev pub kind_of : Members → Option Kind
kind_of ms = option_and_then kind_of_text (type_of ms)

abbrev pub items_of : Trees → List Tree
items_of no_trees = []
items_of (tree_and t ts) = t ∷ items_of ts
