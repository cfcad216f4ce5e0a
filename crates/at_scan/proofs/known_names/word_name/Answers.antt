-- The name is the word's.
use Rattle.std.proofs.Common.{refl}
use Rattle.at_scan.proofs.KnownNames.{word_named}
use Rattle.at_scan.proofs.known_names.word_name.Goals as goal

pub returns : goal.returns
returns c = word_named c.args.text.now c.args.first c.args.word.now c.args.count (c.if-not-stands_word.ensures refl) c.args.field c.requires.word c.args.at c.requires.order c.requires.spaces
