use Rattle.at_cli.proofs.Numbers.{number_read, padded}
use Rattle.at_cli.proofs.words.values.number.Goals as goal

pub returns-then-is_padded : goal.returns-then-is_padded
returns-then-is_padded c = padded c.args.text.now c.if-is_padded.ensures

pub returns : goal.returns
returns c = rw c.ok.ensures.value (number_read c.args.text.now c.parse.result c.parse.ensures.value.0 c.if-is_padded.ensures.0 c.if-is_padded.ensures.1)
