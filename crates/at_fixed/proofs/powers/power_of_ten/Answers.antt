use Rattle.std.proofs.Common.{◌≡◌, ◌*◌, ◌^◌, ◌∙◌, arith}
use Rattle.at_fixed.proofs.PowersOfTen.{powers-at}
use Rattle.at_fixed.proofs.powers.power_of_ten.Goals as goal

pub returns : goal.returns
returns c = let one : 1 * 10 ^ c.args.exponent ≡ 10 ^ c.args.exponent = omega arith in powers-at 20 1 c.args.exponent c.requires ∙ one
