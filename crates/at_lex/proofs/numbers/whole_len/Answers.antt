use Rattle.at_lex.proofs.NumberLemmas.{digits_whole}
use Rattle.at_lex.proofs.numbers.whole_len.Goals as goal

pub returns-clause-whole : goal.returns-clause-whole
returns-clause-whole c = digits_whole c.args.text.now c.digit_len.result c.digit_len.ensures c.if-text-eq48.false
