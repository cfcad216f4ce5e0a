use Rattle.std.proofs.lemmas.List.Elements.{All-more}
use Rattle.at_join.proofs.AllPairs.{Fits, no_pair}
use Rattle.at_join.proofs.run.all_fit.Goals as goal

pub loop-pair-preserved : goal.loop-pair-preserved
loop-pair-preserved c = All-more Fits c.args.pairs.now c.loop-pair.pair-index no_pair c.loop-pair-test.true c.loop-pair.invariant c.fits.ensures
