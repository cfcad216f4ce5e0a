use Rattle.std.proofs.Common.{List, ℕ, length, reverse, subst, sym, rules, inr, arith}
use Rattle.at_text.specs.Texts.{base_of}
use Rattle.at_run.specs.Readers.{StandsInForm}
use Rattle.at_task.specs.Ranking.{AreBeside, ReadUpTo}
use Rattle.at_task.proofs.intake.Intake.read_on.Goals as goal

pub settle-requires-clause-beside : goal.settle-requires-clause-beside
settle-requires-clause-beside c κs =
    let P : List ℕ → Type 0 = λ w. ReadUpTo (StandsInForm c.self.inside.reader) w c.self.inside.read c.self.inside.ranks.items in
    c.read_rest-piece.ensures.beside c.self.inside.ranks.items (subst P (sym c.as_slice-bytes.ensures.value) c.self.invariant.0)

pub invariant_of-self : goal.invariant_of-self
invariant_of-self c =
    let P : List ℕ → Type 0 = λ w. AreBeside (StandsInForm c.self.inside.reader) w (base_of w) (length c.as_slice-bytes.result.now) (reverse c.settle.new.ranks.items) in
    (inr (omega arith, omega arith, subst P c.as_slice-bytes.ensures.value (search rules)), c.self.invariant.1)
