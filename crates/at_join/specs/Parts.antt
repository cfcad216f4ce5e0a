-- What the parts of a join by cells stand for.
use Rattle.std.specs.Prelude.{ℕ, ◌+◌, ◌*◌, ◌<◌, ◌≤◌, List, Contains}
use Rattle.at_query.specs.declared.answer.answers.Pair.{Pair}
use Rattle.at_query.specs.Parts.{AreProper}
use Rattle.at_join.specs.declared.job.Joining.{Joining}
use Rattle.at_join.specs.declared.job.PairPart.{PairPart}
use Rattle.at_join.specs.declared.job.PairPart.TheVariants.{Pairs, Lost}
use Rattle.at_join.specs.declared.job.GridJob.{GridJob}
use Rattle.at_join.specs.Cells.{Lists, InCells, ListsEach}

-- the list is that of the cells from one number up to another, none of which is given up
pub record ListsCells (f : Joining) (ps : List Pair) (from to : ℕ) : Type 0 where
  pub first : AreProper f.first
  pub second : AreProper f.second
  pub order : from ≤ to
  pub none_lost : (cell : ℕ) → from ≤ cell → cell < to → Contains f.given_up cell → ⊥
  pub each : ListsEach (InCells f.first f.second from to) ps

abbrev pub StandsFor : Joining → PairPart → ℕ → ℕ → Type 0
StandsFor f (Pairs ps) from to = ListsCells f ps from to
StandsFor f Lost from to = Unit {0}

-- the grid of a job, and its gate
abbrev pub grid_of : {G : Type 0} → GridJob G → Lists
grid_of job = job.grid

abbrev pub gate_of : {G : Type 0} → GridJob G → G
gate_of job = job.gate.now

-- by which the pairs are put in order
abbrev pub rank_of : Pair → ℕ
rank_of p = p.first * 4294967296 + p.second
