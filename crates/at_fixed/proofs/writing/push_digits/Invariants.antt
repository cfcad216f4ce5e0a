use Rattle.std.proofs.Common.{◌≡◌, ◌++◌, string_bytes}
use Rattle.at_fixed.specs.Fixed.{last_digits}
use Rattle.at_fixed.proofs.writing.push_digits.Given as goal

abbrev pub invariant-loop-left : goal.invariant-loop-left
invariant-loop-left l = string_bytes l.text ++ last_digits l.left l.n ≡ string_bytes l.fn.text ++ last_digits l.digits l.n

abbrev pub decreases-loop-left : goal.decreases-loop-left
decreases-loop-left l = l.left
