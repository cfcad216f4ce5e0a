use Rattle.std.proofs.Common.{length, refl}
use Rattle.at_run.proofs.JsonEnds.{tree_answered, text_ended}
use Rattle.at_run.proofs.json_files.tree_part.Goals as goal

pub returns-in-Ok : goal.returns-in-Ok
returns-in-Ok c =
    let asked = c.args.algebra.now in
    tree_answered asked c.args.bytes.now c.in-Ok.atom c.root_part.result c.in-Ok.ensures.answers c.root_part.ensures

pub returns-in-Err : goal.returns-in-Err
returns-in-Err c =
    let asked = c.args.algebra.now in
    rw c.end_of_text.ensures (text_ended asked c.args.bytes.now c.in-Err.end (length c.args.bytes.now) refl c.in-Err.ensures.answers)
