use Rattle.at_parts.proofs.MovedAnswers.{moves}
use Rattle.at_parts.proofs.answers.answers_move.Goals as goal

pub returns : goal.returns
returns c = moves
