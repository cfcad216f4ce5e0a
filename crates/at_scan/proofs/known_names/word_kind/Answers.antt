-- The kind is that which the word names.
use Rattle.std.proofs.Common.{refl}
use Rattle.at_scan.proofs.KnownNames.{kind_word}
use Rattle.at_scan.proofs.known_names.word_kind.Goals as goal

pub returns : goal.returns
returns c = kind_word c.args.text.now c.args.at c.args.word.now c.args.count (c.if-not-stands_word.ensures refl) c.args.kind c.requires.word
