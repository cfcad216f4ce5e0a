-- The answer to a query over a file, or to a join over two, and why there is none. Nothing here knows of blocks.
use Rattle.std.specs.Prelude.{ℕ, List, Option, Some, None}
use Rattle.at_text.specs.declared.faults.Fault.{Fault}
use Rattle.at_fixed.specs.declared.rounding.Coords.{Coords}
use Rattle.at_query.specs.declared.query.queries.Query.{Query}
use Rattle.at_query.specs.declared.features.Feature.{Feature}
use Rattle.at_query.specs.declared.answer.parts.Part.{Part}
use Rattle.at_query.specs.declared.answer.answers.Answer.{Answer}
use Rattle.at_query.specs.Results.{IsResult, IsJoined}
use Rattle.at_query.specs.Parts.{IsPart}
use Rattle.at_run.specs.declared.faults.JoinFault.{JoinFault}
use Rattle.at_run.specs.declared.faults.JoinFault.TheVariants.{First, Second, Memory as NoMemory}
use Rattle.at_run.specs.declared.forms.Form.{Form}
use Rattle.at_run.specs.Files.{HasFileFaultIn, TheFileFaultIn, AreFileFeaturesIn}

-- the file has no fault, and the part is that of its features
pub record IsFilePart (form : Form) (digits : ℕ) (how : Coords) (query : Query) (bytes : List ℕ) (part : Part)
    : Type 0 where
  pub faultless : HasFileFaultIn form digits how bytes None
  pub features : List Feature
  pub are_features : AreFileFeaturesIn form digits how bytes features
  pub is_part : IsPart query features part

-- the file has no fault, and the answer is the result of the query over its features
pub record IsFileAnswer (form : Form) (digits : ℕ) (how : Coords) (query : Query) (bytes : List ℕ) (answer : Answer)
    : Type 0 where
  pub faultless : HasFileFaultIn form digits how bytes None
  pub features : List Feature
  pub are_features : AreFileFeaturesIn form digits how bytes features
  pub is_result : IsResult query features answer

-- two files, each of its own form
module _ (form_a form_b : Form) (digits : ℕ) (how : Coords) where
  -- neither file has a fault, and the answer is that of the join over their features; the query's tests are of the
  -- first file's
  pub record IsJoinAnswer (query : Query) (a b : List ℕ) (answer : Answer) : Type 0 where
    pub first_faultless : HasFileFaultIn form_a digits how a None
    pub second_faultless : HasFileFaultIn form_b digits how b None
    pub first : List Feature
    pub are_first : AreFileFeaturesIn form_a digits how a first
    pub second : List Feature
    pub are_second : AreFileFeaturesIn form_b digits how b second
    pub is_joined : IsJoined query first second answer

  -- the first file has no fault, and the second has this one
  abbrev pub SecondFails : List ℕ → List ℕ → Fault → Type 0
  SecondFails a b fault = HasFileFaultIn form_a digits how a None × HasFileFaultIn form_b digits how b (Some fault)

  -- the first file has this fault, or it has none and the second has this one; want of memory has no cause in the files
  abbrev pub IsJoinFault : List ℕ → List ℕ → JoinFault → Type 0
  IsJoinFault a b (First fault) = HasFileFaultIn form_a digits how a (Some fault)
  IsJoinFault a b (Second fault) = SecondFails a b fault
  IsJoinFault a b NoMemory = Unit {0}

  -- no other fault is the first of either file
  abbrev pub TheFilesFaults : List ℕ → List ℕ → Option Fault → Option Fault → Type 0
  TheFilesFaults a b first second = TheFileFaultIn form_a digits how a first × TheFileFaultIn form_b digits how b second

  -- the fault is the only one that is the first of the file that it is of, and the file before it has none
  abbrev pub IsTheJoinFault : List ℕ → List ℕ → JoinFault → Type 0
  IsTheJoinFault a b (First fault) = TheFileFaultIn form_a digits how a (Some fault)
  IsTheJoinFault a b (Second fault) = TheFilesFaults a b None (Some fault)
  IsTheJoinFault a b NoMemory = Unit {0}
