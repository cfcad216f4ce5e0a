-- What is round the innermost level takes a value where one may stand.
use Rattle.std.proofs.Common.{Ok, sym, ◌∙◌, ap}
use Rattle.at_nest.specs.declared.finishing.Next.{Next}
use Rattle.at_nest.specs.Shown.{helds_of, top_of}
use Rattle.at_nest.specs.NextItems.{levels_next, level_after}
use Rattle.at_nest.proofs.Nests.{round_next}
use Rattle.at_nest.proofs.finishing.open_next.Goals as goal

pub returns-in-Value : goal.returns-in-Value
returns-in-Value g c = ap Ok c.next_in.ensures ∙ (ap (λ z. level_after z (top_of c.args.level.now)) (sym (round_next c.args.level.now)) ∙ ap (λ (z : Next). levels_next (Ok z) (helds_of c.args.level.now)) (sym c.in-Value.is))
