use Rattle.std.proofs.Common.{sym, subst}
use Rattle.at_fixed.specs.Numerals.{AreDigits}
use Rattle.at_fixed.proofs.DigitParts.{part-part, digits-both, run_keeps, run_whole}
use Rattle.at_fixed.proofs.digits.read_digits.Goals as goal

pub returns-then-run-clause-keeps : goal.returns-then-run-clause-keeps
returns-then-run-clause-keeps c m h = run_whole _ _ _ _ _ m _ _ c.keep_digits-run.ensures.keeps h

pub returns-clause-digits : goal.returns-clause-digits
returns-clause-digits c =
    let kept = c.keep_digits-run.ensures.keeps in let dropped = c.drop_digits-end.ensures in
    subst AreDigits (sym (part-part _ _ _ _ kept.order dropped.order dropped.within)) (digits-both _ _ kept.digits dropped.digits)

pub returns-clause-keeps : goal.returns-clause-keeps
returns-clause-keeps c m h =
    let kept = c.keep_digits-run.ensures in let dropped = c.drop_digits-end.ensures in
    run_keeps _ _ _ _ _ _ m _ _ _ kept.keeps dropped.order dropped.within h dropped.digits kept.stops dropped.cut
