use Rattle.std.proofs.Common.{arith}
use Rattle.at_fixed.proofs.EightDigits.{next_kept}
use Rattle.at_fixed.proofs.plain_scanning.keep_counted.Goals as goal

pub returns : goal.returns
returns c = next_kept _ _ _ _ _ _ c.requires.inside c.requires.few c.requires.digits c.spelled_number-number.ensures c.power_of_ten.ensures c.requires.room

pub overflow_mul-result : goal.overflow_mul-result
overflow_mul-result c = record { fits = omega (arith, (returns c).fits) }

pub overflow_add-result : goal.overflow_add-result
overflow_add-result c = record { fits = omega (arith, (returns c).fits) }
