use Rattle.std.proofs.Common.{sym, subst}
use Rattle.at_geojson.specs.Atoms.{IfOwnShape}
use Rattle.at_geojson.proofs.ObjectOwns.{own_feature_shape}
use Rattle.at_geojson.proofs.objects.object_atoms.bare_feature.Goals as goal

pub of_feature-requires : goal.of_feature-requires
of_feature-requires c = subst (IfOwnShape c.args.algebra.now) (sym c.feature_shape-shape.ensures) (own_feature_shape c.args.algebra.now c.args.geometry c.requires)
