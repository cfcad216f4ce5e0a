use Rattle.at_wkt.proofs.PlainWords.{word_plain}
use Rattle.at_wkt.proofs.line.words.plain_word.Goals as goal

pub returns-then-starts_with : goal.returns-then-starts_with
returns-then-starts_with c = word_plain c.args.text.now c.args.word.now c.args.at c.starts_with.result c.requires.inside c.requires.capitals c.starts_with.ensures.value c.if-starts_with.true
