use Rattle.at_fixed.proofs.DigitParts.{keeps_both, keeps_none}
use Rattle.at_fixed.proofs.digits.keep_more_digits.Goals as goal

pub loop-end-init : goal.loop-end-init
loop-end-init c = keeps_none c.args.text.now c.args.from c.args.before c.requires.from_within c.requires.before_fits

pub loop-end-preserved : goal.loop-end-preserved
loop-end-preserved c = keeps_both _ _ _ _ _ _ _ c.loop-end.invariant c.in-Some.ensures.keeps

pub returns-then-next-clause-keeps : goal.returns-then-next-clause-keeps
returns-then-next-clause-keeps c = keeps_both _ _ _ _ _ _ _ c.loop-end.invariant c.in-Some.ensures.keeps

pub returns-clause-keeps : goal.returns-clause-keeps
returns-clause-keeps c = keeps_both _ _ _ _ _ _ _ c.loop-end.invariant c.keep_single_digits.ensures.keeps
