use Rattle.std.proofs.Common.{refl}
use Rattle.at_query.specs.declared.answer.parts.Part.TheVariants.{Count}
use Rattle.at_query.proofs.Joining.{joins_counts}
use Rattle.at_query.proofs.answer.gathered.count_in.Goals as goal

pub returns : goal.returns
returns c = joins_counts c.args.part.now (Count 1) c.in-Count.count 1 _ c.in-Count.is refl refl
