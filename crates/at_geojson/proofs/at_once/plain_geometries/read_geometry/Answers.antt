use Rattle.std.proofs.Common.{◌+◌, ◌≡◌, ◌<◌, length, slice_index, ap, refl, sym, subst}
use Rattle.at_geojson.proofs.GeometryReads.{geometry_read}
use Rattle.at_geojson.proofs.at_once.plain_geometries.read_geometry.Goals as goal

pub returns : goal.returns
returns c =
    let w = c.args.text.now.bytes.now in
    let (s, item, behind, seen) = c.in_ok-end.ensures in (
      _,
      geometry_read c.args.text.now.algebra.now c.args.text.now.alloc c.args.text.now.base w c.args.at c.in_ok-first.first c.in_ok-second.second c.in_ok-named.named s c.requires.inside c.requires.opens
          c.in_ok-first.ensures.place c.in_ok-first.ensures.plain c.in_ok-first.ensures.field (sym c.if-not-is_kind.ensures) c.in_ok-named.ensures c.in_ok-expect_comma.ensures.inside c.in_ok-expect_comma.ensures.byte
          c.in_ok-second.ensures.place c.in_ok-second.ensures.plain c.in_ok-second.ensures.field (sym c.if-not-is_coordinates.ensures) item
          (subst (λ z. z < length w) (sym behind) (c.if-not-stands.ensures.inside refl)) (subst (λ z. slice_index w z ≡ 0x7D) (sym behind) (c.if-not-stands.ensures.byte refl)),
      ap (λ z. z + 1) behind,
      seen,
    )
