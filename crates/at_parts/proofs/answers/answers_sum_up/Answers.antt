use Rattle.at_parts.proofs.SummedAnswers.{sums_up}
use Rattle.at_parts.proofs.answers.answers_sum_up.Goals as goal

pub returns : goal.returns
returns c = sums_up
