use Rattle.std.proofs.Common.{ap, ◌∙◌, set, get_or, arith}
use Rattle.std.proofs.lemmas.List.{get_or_default}
use Rattle.std.proofs.lemmas.List.Edits.{map_over_more}
use Rattle.at_filter.specs.Filters.{byte_of_lines}
use Rattle.at_filter.proofs.filter.pass_lines.Goals as goal

pub loop-at-preserved : goal.loop-at-preserved
loop-at-preserved c = ap (λ y. set c.loop-at.bytes c.loop-at.at y) c.passed_of_lines.ensures ∙ map_over_more byte_of_lines c.args.bytes.now c.loop-at.bytes c.loop-at.at (get_or c.loop-at.bytes c.loop-at.at 0) c.loop-at-test.true c.loop-at.invariant (get_or_default c.loop-at.bytes c.loop-at.at 0 _ (omega (arith, c.loop-at-test.true, c.loop-at.auto.bytes)))
