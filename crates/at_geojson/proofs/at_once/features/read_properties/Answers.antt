-- Properties with white space round them.
use Rattle.std.proofs.Common.{◌∙◌}
use Rattle.at_query.proofs.TextCounts.{all_met_is}
use Rattle.at_geojson.proofs.ValueParts.{item_read}
use Rattle.at_geojson.proofs.at_once.features.read_properties.Goals as goal

pub returns-in-Ok-clause-reads : goal.returns-in-Ok-clause-reads
returns-in-Ok-clause-reads c =
    let h = c.in-Ok.ensures.reads in (
      h.atom,
      item_read c.args.text.now.algebra.now c.args.text.now.base c.args.text.now.bytes.now c.args.at c.skip_spaces-first.result c.skip_spaces.result (record { end = c.in-Ok.field-0.end; atom = h.atom }) c.skip_spaces-first.ensures.order c.skip_spaces-first.ensures.spaces h.whole
          c.skip_spaces.ensures.order c.skip_spaces.ensures.within c.skip_spaces.ensures.spaces,
      h.roleless.no_twin,
      (h.texts, h.has, c.all_met.ensures ∙ all_met_is c.args.text.now.algebra.now.query.tests h.texts c.in-Ok.field-0.met h.met),
    )
