-- Every fault of a line is of a later tier than one of the encoding, so none of them comes before that one.
-- For `line_faults`.
use Rattle.std.proofs.Common.{ℕ, List, [], ◌∷◌, inl, inr, subst, sym, arith}
use Rattle.at_text.specs.declared.faults.Fault.{Fault}
use Rattle.at_fixed.specs.declared.rounding.Coords.{Coords}
use Rattle.at_wkt.specs.Meaning.{faults_of}
use Rattle.at_wkt.specs.Lines.{FileLine}
use Rattle.at_query.proofs.QueryParts.{fourth_of}
use Rattle.at_run.specs.Labels.{LabelledLine}
use Rattle.at_run.specs.LineFaults.{HasFaults, HaveFaults}
use Rattle.at_parts.proofs.LaterFaults.{AreLater, later_append, later_by, syntax_later}

module _ (digits : ℕ) (how : Coords) where
  faults_later : (l : FileLine) (fs : List Fault) → HasFaults digits how l fs → AreLater fs
  faults_later l fs (inl (fault, h, e)) = subst AreLater (sym e) (syntax_later (LabelledLine l.at) l.at l.text fault h, tt)
  faults_later l fs (inr (label, g, h, e)) = subst AreLater (sym e) (later_by 4 (faults_of digits how g) (omega arith) (fourth_of digits how g))

  pub all_faults_later : (ls : List FileLine) (fs : List Fault) → HaveFaults digits how ls fs → AreLater fs
  all_faults_later [] fs h = subst AreLater (sym h) tt
  all_faults_later (l ∷ ls) fs (first, others, h, hs, e) = subst AreLater (sym e) (later_append first others (faults_later l first h) (all_faults_later ls others hs))
