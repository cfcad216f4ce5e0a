use Rattle.at_blocks.proofs.Powers.{least_count}
use Rattle.at_blocks.proofs.cuts.block_count.Goals as goal

pub returns : goal.returns
returns c = least_count c.args.blocks c.next_power_of_two.result c.requires.some c.requires.few c.next_power_of_two.ensures.power c.next_power_of_two.ensures.lower_bound c.next_power_of_two.ensures.upper_bound
