-- The answer of a whole text: the part of its features where it has no fault beyond its syntax, and else the first such
-- fault.
use Rattle.std.specs.Prelude.{◌≡◌, ℕ, List, [], ◌++◌, length, Some, Result, Ok, Err}
use Rattle.std.specs.Bool.{⊤}
use Rattle.at_text.specs.Faults.{first_of}
use Rattle.at_text.specs.declared.faults.Fault.{Fault}
use Rattle.at_fixed.specs.declared.rounding.Coords.{Coords}
use Rattle.at_nest.specs.Tree.{Tree, Spells}
use Rattle.at_nest.specs.Twins.{twins_of}
use Rattle.at_query.specs.declared.answer.parts.Part.{Part}
use Rattle.at_query.specs.Parts.{IsPart}
use Rattle.at_query.specs.Keeping.{Asked}
use Rattle.at_geojson.specs.declared.root.FeatureFront.{FeatureFront}
use Rattle.at_text.specs.declared.refusals.Refusal.{Refusal}
use Rattle.at_text.specs.declared.refusals.Refusal.TheVariants.{Found, Memory}
use Rattle.at_geojson.specs.Roles.{features_of, role_faults_of}

-- equal names, and what the roles find wrong
abbrev pub faults_of : ℕ → Coords → Tree → List Fault
faults_of digits how t = twins_of t ++ role_faults_of digits how t

abbrev pub IsAnswer : Asked → Tree → Result Part Refusal → Type 0
IsAnswer asked t (Ok part) = (faults_of asked.digits asked.how t ≡ [])
    × IsPart asked.query (features_of asked.digits asked.how t) part
IsAnswer asked t (Err (Found fault)) = first_of (faults_of asked.digits asked.how t) ≡ Some fault
IsAnswer asked t (Err Memory) = ⊤

-- what a whole text ends in that has the part, or the fault
abbrev pub found_end : Result Part Fault → Result Part Refusal
found_end (Ok part) = Ok part
found_end (Err fault) = Err (Found fault)

-- the first bytes of w, which stand at the offset, spell a tree, of which this is the answer as that of a whole text
pub record IsFeatureFront (asked : Asked) (base : ℕ) (w : List ℕ) (front : FeatureFront) : Type 0 where
  pub text : List ℕ
  pub behind : List ℕ
  pub split : w ≡ text ++ behind
  pub len : front.len ≡ length text
  pub tree : Tree
  pub spells : Spells base text tree
  pub answer : IsAnswer asked tree (found_end front.part)
