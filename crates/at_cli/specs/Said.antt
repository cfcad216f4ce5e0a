-- A line whose texts are the words themselves. Private contracts alone cite it.
use Rattle.std.specs.Option.{option_copied}
use Rattle.at_cli.specs.declared.words.line.Line.{Line}
use Rattle.at_cli.specs.declared.words.said.Said.{Said}

abbrev pub line_said : Said → Line
line_said s = record {
  form = s.form;
  how = s.how;
  digits = s.digits;
  blocks = s.blocks;
  workers = s.workers;
  feed = s.feed;
  query = s.names.query.now;
  first = s.names.first.now;
  second = option_copied s.names.second;
}
