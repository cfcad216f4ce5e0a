use Rattle.std.proofs.Common.{length}
use Rattle.at_text.specs.Texts.{base_of}
use Rattle.at_run.proofs.FormMerges.{json_whole}
use Rattle.at_run.proofs.SequenceEnds.{unread_whole}
use Rattle.at_run.proofs.readers.Reader.finish_pieces.Goals as goal

pub finish_json_file-requires-clause-whole : goal.finish_json_file-requires-clause-whole
finish_json_file-requires-clause-whole c = json_whole c.args.self.now c.of_json.result.now c.args.bytes.now c.args.whole c.in-Json.whole c.in-Json.is c.of_json.ensures c.requires.whole

pub returns-in-Unread : goal.returns-in-Unread
returns-in-Unread c =
    unread_whole c.args.self.now c.of_json-in-Unread.result.now c.args.bytes.now (base_of c.args.bytes.now) (length c.args.bytes.now) c.args.whole c.finish_sequence.result c.in-Unread.is c.of_json-in-Unread.ensures c.requires.whole c.finish_sequence.ensures
