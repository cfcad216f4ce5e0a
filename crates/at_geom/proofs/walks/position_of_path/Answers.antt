use Rattle.std.proofs.Common.{arith}
use Rattle.std.proofs.lemmas.List.{drop_more}
use Rattle.at_geom.proofs.Finding.{passed}
use Rattle.at_geom.proofs.walks.position_of_path.Goals as goal

pub loop-p-preserved : goal.loop-p-preserved
loop-p-preserved g c = passed c.loop-p.invariant (drop_more c.args.path.now c.loop-p.p-index _ (omega arith)) (c.requires.path_in_range _ _ (omega arith), rw c.if-test.false at c.test.ensures)
