-- A geometry with white space round it.
use Rattle.std.proofs.Common.{refl, arith, sym, subst}
use Rattle.at_fixed.specs.NumberSoFar.{between}
use Rattle.at_lex.specs.Spans.{AreSpaces}
use Rattle.at_geojson.proofs.ValueParts.{item_read}
use Rattle.at_geojson.proofs.at_once.features.geometry_item.Goals as goal

pub returns-in-Ok : goal.returns-in-Ok
returns-in-Ok c =
    let (s, h, behind, seen) = c.in-Ok.ensures in
    let end = c.skip_spaces.result in (
      record { end = end; shape = s.shape },
      record {
        atom = h.atom;
        item = item_read c.args.text.now.algebra.now c.args.text.now.base c.args.text.now.bytes.now c.args.at c.skip_spaces-first.result end (record { end = s.end; atom = h.atom }) c.skip_spaces-first.ensures.order c.skip_spaces-first.ensures.spaces h.whole
            (omega (arith, behind, c.skip_spaces.ensures.order)) c.skip_spaces.ensures.within (subst (λ z. AreSpaces (between c.args.text.now.bytes.now z end)) (sym behind) c.skip_spaces.ensures.spaces);
        no_twin = h.no_twin;
        shape = h.shape;
        own = h.own;
      },
      refl,
      seen,
    )
