use Rattle.at_geojson.proofs.Roots.{is_answer}
use Rattle.at_geojson.proofs.root.root_part.Goals as goal

pub returns : goal.returns
returns c t fold = is_answer c.args.algebra.now t c.args.atom c.atom_part.result c.atom_part.ensures fold
