use Rattle.at_cli.proofs.Prefixes.{behind-stripped}
use Rattle.at_cli.proofs.words.flags.text_behind.Goals as goal

pub returns : goal.returns
returns c = behind-stripped c.args.prefix.now c.args.text.now c.strip_prefix.result c.strip_prefix.ensures.cases
