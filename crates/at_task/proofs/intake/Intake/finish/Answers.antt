use Rattle.std.proofs.Common.{◌≡◌, ℕ, List, reverse, subst, sym, refl}
use Rattle.at_text.specs.Texts.{base_of}
use Rattle.at_run.specs.Readers.{StandsInForm}
use Rattle.at_run.specs.declared.readers.FileFragment.{FileFragment}
use Rattle.at_task.specs.declared.ranks.Ranked.{Ranked}
use Rattle.at_task.specs.Ranking.{AreBeside, ReadUpTo}
use Rattle.at_task.proofs.intake.Intake.finish.Goals as goal

pub join_all-whole-requires-clause-beside : goal.join_all-whole-requires-clause-beside
join_all-whole-requires-clause-beside c κs =
    let P : List ℕ → Type 0 = λ w. ReadUpTo (StandsInForm c.self.inside.reader) w c.self.inside.read c.self.inside.ranks.items in
    let Q : List (Ranked FileFragment) → Type 0 = λ rs. AreBeside (StandsInForm c.self.inside.reader) c.as_slice-bytes.result.now (base_of c.as_slice-bytes.result.now) c.read_rest-last.result.from (reverse rs) in
    let same : c.replace-ranks.result.items ≡ c.self.inside.ranks.items = rw (c.replace-ranks.ensures.value) refl in
    subst Q (sym same) (c.read_rest-last.ensures.beside c.self.inside.ranks.items (subst P (sym c.as_slice-bytes.ensures.value) c.self.invariant.0))
