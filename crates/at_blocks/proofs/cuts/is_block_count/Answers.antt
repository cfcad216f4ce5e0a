use Rattle.std.proofs.Common.{sym, ◌∙◌}
use Rattle.std.proofs.lemmas.Bool.{le-leb, leb-true}
use Rattle.at_crew.proofs.Powers.{power_of, tested_count}
use Rattle.at_blocks.proofs.Powers.{power_tested}
use Rattle.at_blocks.proofs.cuts.is_block_count.Goals as goal

pub returns-then-is_power_of_two : goal.returns-then-is_power_of_two
returns-then-is_power_of_two c = (
  λ small. tested_count c.args.blocks (sym c.is_power_of_two.ensures ∙ c.if-is_power_of_two.true) (leb-true c.args.blocks 4096 small),
  λ is. le-leb c.args.blocks 4096 (power_of c.args.blocks is).2,
)

pub returns-else-is_power_of_two : goal.returns-else-is_power_of_two
returns-else-is_power_of_two c = (
  λ is. absurd (let off = c.if-is_power_of_two.false in cc),
  λ is. let power = power_of c.args.blocks is in c.is_power_of_two.ensures ∙ power_tested c.args.blocks (power.0, power.1),
)
