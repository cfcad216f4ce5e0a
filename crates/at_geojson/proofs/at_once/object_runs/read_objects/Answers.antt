-- The value has brackets, since the text begins with one.
use Rattle.at_geojson.proofs.FeatureJoins.{item_alone}
use Rattle.at_geojson.proofs.at_once.object_runs.read_objects.Goals as goal

pub returns : goal.returns
returns c = item_alone c.args.text.now.algebra.now c.args.text.now.base c.args.text.now.bytes.now c.in_ok-whole.whole c.requires.begins c.in_ok-whole.ensures
