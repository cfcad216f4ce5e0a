use Rattle.at_fixed.proofs.EightDigits.{eight_digits}
use Rattle.at_fixed.proofs.eights.spelled_number.Goals as goal

pub returns : goal.returns
returns c = eight_digits c.args.text.now c.args.at c.args.count c.word_at.result c.number_of.result c.requires.inside c.type_inv.text c.requires.few c.requires.digits c.word_at.ensures c.number_of.ensures
