use Rattle.std.proofs.Common.{Some, sym, subst}
use Rattle.at_geojson.specs.Atoms.{IfOwnShape}
use Rattle.at_geojson.proofs.MemberReads.{no_twin_in}
use Rattle.at_geojson.proofs.ObjectOwns.{own_feature_shape}
use Rattle.at_geojson.proofs.at_once.features.other_geometry.Goals as goal

pub returns : goal.returns
returns c =
    let atom = c.in_ok-end.field-0.atom in
    let same = sym c.feature_shape-shape.ensures in (
      _,
      record {
        atom = atom;
        item = c.in_ok-end.ensures;
        no_twin = no_twin_in atom c.is_twin.result c.is_twin.ensures c.if-is_twin.false;
        shape = same;
        own = subst (IfOwnShape c.args.text.now.algebra.now) same (own_feature_shape c.args.text.now.algebra.now (Some atom) c.in_ok-end.ensures.own);
      },
      sym c.seen_shape.ensures.0,
      c.seen_shape.ensures.1 c.args.text.now.algebra.now.query,
    )
