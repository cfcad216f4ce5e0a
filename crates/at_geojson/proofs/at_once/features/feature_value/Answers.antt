use Rattle.std.proofs.Common.{refl, sym, ◌∙◌}
use Rattle.at_geojson.proofs.at_once.features.feature_value.Goals as goal

pub returns : goal.returns
returns c = c.in_ok-end.ensures.reads.whole _ refl c.in_ok-roles.ensures.role (c.in_ok-roles.ensures.texts ∙ (c.from_vec-texts.ensures ∙ (c.new.ensures.items ∙ sym (c.in_ok-end.ensures.reads.no_texts c.requires.unasked))))

pub read_feature-requires-clause-own : goal.read_feature-requires-clause-own
read_feature-requires-clause-own c = (c.none-names.ensures c.args.text.now.bytes.now).own

pub read_feature-requires-clause-properties : goal.read_feature-requires-clause-properties
read_feature-requires-clause-properties c = (c.none-names.ensures c.args.text.now.bytes.now).properties
