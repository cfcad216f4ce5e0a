-- The same bytes are the same name.
use Rattle.std.proofs.Common.{refl}
use Rattle.at_scan.proofs.KnownNames.{text_again, name_there}
use Rattle.at_scan.proofs.members.behind_again.Goals as goal

pub returns-then-stands_again : goal.returns-then-stands_again
returns-then-stands_again c =
    let s = c.stands_again.ensures c.if-stands_again.true in
    record {
      text = text_again c.args.text.now c.args.name c.args.first _ c.requires.name refl s;
      name = λ m e f. name_there c.args.text.now m c.args.name c.args.first _ c.requires.name e f refl s;
    }
