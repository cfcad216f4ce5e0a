use Rattle.std.proofs.Common.{map, string_bytes}
use Rattle.at_cli.specs.Said.{line_said}
use Rattle.at_cli.proofs.OneLine.{no_other, not_refused}
use Rattle.at_cli.proofs.words.line.read_words.Goals as goal

pub returns-in-Some-clause-only : goal.returns-in-Some-clause-only
returns-in-Some-clause-only c = no_other (map string_bytes c.args.words.now) (line_said c.in-Some.said) c.line.result c.in-Some.ensures c.line.ensures.line

pub returns-in-Some-clause-refused : goal.returns-in-Some-clause-refused
returns-in-Some-clause-refused c = not_refused (map string_bytes c.args.words.now) (line_said c.in-Some.said) c.line.result c.in-Some.ensures c.line.ensures.memory
