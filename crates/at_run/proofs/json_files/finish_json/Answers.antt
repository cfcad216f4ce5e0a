use Rattle.std.proofs.Common.{◌≡◌, None, rules}
use Rattle.at_text.specs.Texts.{utf8_fault}
use Rattle.at_run.proofs.JsonEnds.{json_ended}
use Rattle.at_run.proofs.json_files.finish_json.Goals as goal

pub returns : goal.returns
returns c =
    let valid : utf8_fault c.args.bytes.now ≡ None = search rules in
    json_ended c.args.algebra.now c.args.bytes.now c.tree_part.result valid c.tree_part.ensures
