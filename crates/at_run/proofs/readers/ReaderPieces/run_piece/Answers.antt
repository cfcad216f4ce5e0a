use Rattle.std.proofs.Common.{◌≡◌, rules}
use Rattle.at_run.specs.declared.forms.Form.TheVariants.{GeoJson}
use Rattle.at_run.proofs.FormMerges.{json_piece}
use Rattle.at_run.proofs.readers.ReaderPieces.run_piece.Goals as goal

pub returns-in-GeoJson : goal.returns-in-GeoJson
returns-in-GeoJson c =
    let form : c.args.self.now.form ≡ GeoJson = search rules in
    json_piece c.args.self.now c.of_json.result.now c.args.base c.args.piece.now c.run_json.result form c.of_json.ensures c.run_json.ensures
