use Rattle.at_run.proofs.FormMerges.{lines_beside, json_beside, merged_lines, merged_json, merged_unread, lines_neighbours, json_neighbours}
use Rattle.at_run.proofs.readers.ReaderPieces.merge_pieces.Goals as goal

pub lines-requires : goal.lines-requires
lines-requires c = lines_beside c.args.self.now c.args.bytes.now c.args.left c.args.right c.in-Lines.left c.in-Lines.is c.requires.neighbours

pub returns-in-Lines : goal.returns-in-Lines
returns-in-Lines c = merged_lines c.args.self.now c.args.bytes.now c.args.left c.args.right c.of_lines.result c.in-Lines.left c.lines.result c.merge_lines.result
    c.in-Lines.is c.lines.ensures c.of_lines.ensures c.merge_lines.ensures.merged

pub merge_lines-requires-clause-neighbours : goal.merge_lines-requires-clause-neighbours
merge_lines-requires-clause-neighbours c lifetimes = lines_neighbours c.args.self.now c.args.bytes.now c.args.left c.args.right c.of_lines.result c.in-Lines.left c.lines.result
    c.in-Lines.is c.lines.ensures c.of_lines.ensures c.requires.neighbours

pub json-requires : goal.json-requires
json-requires c = json_beside c.args.self.now c.args.bytes.now c.args.left c.args.right c.in-Json.left c.in-Json.is c.requires.neighbours

pub returns-in-Json : goal.returns-in-Json
returns-in-Json c = merged_json c.args.self.now c.args.bytes.now c.args.left c.args.right c.of_json.result.now c.in-Json.left c.json.result
    c.in-Json.is c.json.ensures c.of_json.ensures c.merge_json.result c.merge_json.ensures

pub merge_json-requires-clause-neighbours : goal.merge_json-requires-clause-neighbours
merge_json-requires-clause-neighbours c = json_neighbours c.args.self.now c.args.bytes.now c.args.left c.args.right c.of_json.result.now c.in-Json.left c.json.result
    c.in-Json.is c.json.ensures c.of_json.ensures c.requires.neighbours

pub returns-in-Unread : goal.returns-in-Unread
returns-in-Unread c = merged_unread c.args.self.now c.args.bytes.now c.args.left c.args.right c.in-Unread.is
