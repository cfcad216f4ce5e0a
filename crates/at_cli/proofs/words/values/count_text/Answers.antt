use Rattle.at_cli.proofs.FileNames.{count_follows}
use Rattle.at_cli.proofs.words.values.count_text.Goals as goal

pub returns : goal.returns
returns c = count_follows c.args.name.now c.or.result c.text_behind.result c.text_behind-2.result c.or.ensures c.text_behind.ensures c.text_behind-2.ensures
