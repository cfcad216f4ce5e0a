use Rattle.std.proofs.Common.{refl}
use Rattle.at_geojson.proofs.FeatureReads.{kind_put}
use Rattle.at_geojson.proofs.at_once.features.kind_member.Goals as goal

pub returns : goal.returns
returns c = λ f h. kind_put c.args.text.now.algebra.now c.args.text.now.base c.args.text.now.bytes.now c.args.at c.args.members.now _ f h c.in_ok-end.field-0 c.in_ok-end.ensures (c.if-not-is_feature.ensures refl) c.if-members.false refl refl refl refl
