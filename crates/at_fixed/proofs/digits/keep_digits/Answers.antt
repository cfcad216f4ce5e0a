use Rattle.at_fixed.proofs.DigitParts.{keeps_both}
use Rattle.at_fixed.proofs.digits.keep_digits.Goals as goal

pub returns-clause-keeps : goal.returns-clause-keeps
returns-clause-keeps c = keeps_both _ _ _ _ _ _ _ c.in-Some.ensures.keeps c.keep_more_digits-end.ensures.keeps
