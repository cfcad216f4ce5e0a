use Rattle.std.proofs.Common.{refl}
use Rattle.at_geojson.proofs.FeatureReads.{properties_put}
use Rattle.at_geojson.proofs.at_once.features.properties_member.Goals as goal

pub returns-clause-reads : goal.returns-clause-reads
returns-clause-reads c = λ f h. properties_put c.args.text.now.algebra.now c.args.text.now.base c.args.text.now.bytes.now c.args.at c.args.members.now _ f h c.in_ok-end.field-0 c.in_ok-end.ensures.reads c.if-members.false refl refl refl refl
