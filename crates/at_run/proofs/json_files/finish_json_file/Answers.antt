use Rattle.at_run.proofs.JsonEnds.{json_ended}
use Rattle.at_run.proofs.json_files.finish_json_file.Goals as goal

pub returns-then-is_valid_around : goal.returns-then-is_valid_around
returns-then-is_valid_around c = json_ended c.args.algebra.now c.args.bytes.now c.tree_part.result (c.is_valid_around.ensures c.if-is_valid_around.true) c.tree_part.ensures
