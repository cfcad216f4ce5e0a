use Rattle.std.proofs.Common.{refl}
use Rattle.at_geojson.proofs.MemberReads.{none_there}
use Rattle.at_geojson.proofs.FeatureReads.{geometry_put}
use Rattle.at_geojson.proofs.at_once.features.geometry_member.Goals as goal

pub returns : goal.returns
returns c = λ f h. geometry_put c.args.text.now.algebra.now c.args.text.now.base c.args.text.now.bytes.now c.args.at c.args.members.now _ f h c.in_ok-end.field-0 c.in_ok-end.ensures (none_there c.args.members.now.geometry c.is_some.result c.is_some.ensures c.if-is_some.false) refl refl refl refl
