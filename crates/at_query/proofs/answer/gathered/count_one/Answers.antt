use Rattle.at_query.specs.declared.answer.parts.Part.TheVariants.{Count}
use Rattle.at_query.proofs.Accumulating.{parts_joined}
use Rattle.at_query.proofs.answer.gathered.count_one.Goals as goal

pub returns : goal.returns
returns c = rw c.in-Part.is (parts_joined c.in-Part.part (Count 1) c.count_in.new.part c.count_in.ensures)
