-- The parts of a fold, by all that it tells of itself.
use Rattle.std.specs.Prelude.{List}
use Rattle.at_wkt.specs.Lines.{FileLine}
use Rattle.at_wkt.specs.Folding.{OwnFold}
use Rattle.at_wkt.specs.declared.file.folding.Fold.{Ghosts}

-- a part of the fold's own that is the fold of the lines
abbrev pub IsPartOf : {F P : Type 0} → Ghosts F P → F → P → List FileLine → Type 0
IsPartOf folds fold = OwnFold (folds.is_own fold) (folds.is_fold fold)
