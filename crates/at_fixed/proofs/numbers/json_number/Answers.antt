use Rattle.std.proofs.Common.{sym, subst}
use Rattle.at_text.specs.Prefix.{TakesLongest}
use Rattle.at_fixed.specs.Numerals.{JsonNumber}
use Rattle.at_fixed.proofs.numbers.json_number.Goals as goal

pub returns : goal.returns
returns c = subst (TakesLongest JsonNumber c.args.text.now) (sym c.taken_of.ensures) c.scan.ensures.taken
