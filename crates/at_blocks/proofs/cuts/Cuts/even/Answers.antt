use Rattle.at_blocks.proofs.EvenPlaces.{even_cuts}
use Rattle.at_blocks.proofs.cuts.Cuts.even.Goals as goal

pub invariant_of-result : goal.invariant_of-result
invariant_of-result c = even_cuts c.args.base c.args.len c.args.blocks c.block_count.result c.in_ok-places.places.items
    c.requires.order c.block_count.ensures c.in_ok-places.ensures.counted c.in_ok-places.ensures.each
