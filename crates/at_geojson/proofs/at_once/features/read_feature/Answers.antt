-- Each member is read behind those before it.
use Rattle.std.proofs.Common.{arith, ◌+◌}
use Rattle.std.proofs.lemmas.Result.{IfOk-weaker}
use Rattle.at_geojson.proofs.MemberReads.{no_texts, plain_more}
use Rattle.at_geojson.proofs.SeenParts.{own_geometry}
use Rattle.at_geojson.proofs.FeatureReads.{no_members, reading_begins, reading_goes_on, all_members, all_texts, reading_ends, feature_read}
use Rattle.at_geojson.proofs.at_once.features.read_feature.Goals as goal

pub members-init : goal.members-init
members-init c = record {
  order = omega arith;
  within = omega (arith, c.requires.inside);
  properties = c.requires.properties;
  read = reading_begins c.args.text.now.algebra.now c.args.text.now.base c.args.text.now.bytes.now c.args.at c.begin.new.self _ c.requires.inside
      (no_members c.args.text.now.algebra.now c.args.text.now.base c.args.text.now.bytes.now c.none-members.result c.none-members.ensures.kind c.none-members.ensures.geometry c.none-members.ensures.properties c.none-members.ensures.hold) (c.begin.ensures.plain c.args.text.now.bytes.now c.requires.own) (c.begin.ensures.none c.args.text.now.bytes.now);
}

pub ended_feature-requires : goal.ended_feature-requires
ended_feature-requires c =
    let m = c.in_ok-end.ensures.reads c.members.invariant.read.fields c.members.invariant.read.are in
    own_geometry c.args.text.now.algebra.now c.read_member.new.members.geometry m.fields.geometry m.are.geometry m.are.own

pub returns-then-stands-clause-reads : goal.returns-then-stands-clause-reads
returns-then-stands-clause-reads c =
    let asked = c.args.text.now.algebra.now in let w = c.args.text.now.bytes.now in
    let m = c.in_ok-end.ensures.reads c.members.invariant.read.fields c.members.invariant.read.are in
    let texts = all_texts asked c.args.text.now.base w c.args.at c.members.place c.members.names.own c.read_member.new.names.own _ _ c.in_ok-name.name c.in_ok-end.end c.members.invariant.read c.in_ok-name.ensures.plain c.in_ok-name.ensures.field c.in_ok-end.ensures.reads in
    let members = all_members asked c.args.text.now.base w c.args.at c.members.place c.members.names.own c.read_member.new.names.own _ _ c.in_ok-name.name c.in_ok-end.end c.members.invariant.read c.in_ok-name.ensures.plain c.in_ok-name.ensures.field c.in_ok-end.ensures.reads in
    IfOk-weaker c.ended_feature.result _ _ (λ p e. feature_read asked c.args.text.now.base w c.args.at (c.in_ok-end.end + 1) c.read_member.new.members m.fields texts m.are p e (no_texts asked.query.tests members)
    (λ q ends. reading_ends asked c.args.text.now.base w c.args.at c.members.place c.members.names.own c.read_member.new.names.own _ _ c.in_ok-name.name c.in_ok-end.end
    c.members.invariant.read c.in_ok-name.ensures.plain c.in_ok-name.ensures.field c.in_ok-end.ensures.reads q c.members.invariant.order c.requires.opens c.in_ok-name.ensures.place (c.stands.ensures.inside c.if-stands.true) (c.stands.ensures.byte c.if-stands.true) ends)) c.ended_feature.ensures

pub members-preserved : goal.members-preserved
members-preserved c = record {
  order = omega (arith, c.members.invariant.order, c.in_ok-name.ensures.place.before, c.in_ok-name.ensures.place.text.0, c.in_ok-name.ensures.place.behind, (c.in_ok-end.ensures.reads c.members.invariant.read.fields c.members.invariant.read.are).read.item.order);
  within = omega (arith, c.in_ok-expect_comma.ensures.inside);
  properties = c.in_ok-end.ensures.properties;
  read = reading_goes_on c.args.text.now.algebra.now c.args.text.now.base c.args.text.now.bytes.now c.args.at c.members.place c.members.names.own c.read_member.new.names.own _ _ c.in_ok-name.name c.in_ok-end.end
      c.members.invariant.read c.in_ok-name.ensures.plain c.in_ok-name.ensures.field c.in_ok-end.ensures.reads c.members.invariant.order c.in_ok-name.ensures.place c.in_ok-expect_comma.ensures.inside c.in_ok-expect_comma.ensures.byte;
}

pub returns-then-stands-clause-own : goal.returns-then-stands-clause-own
returns-then-stands-clause-own c =
    let r = c.members.invariant.read in
    let more = c.in_ok-end.ensures.reads r.fields r.are in
    IfOk-weaker c.ended_feature.result _ _ (λ p e. plain_more c.args.text.now.bytes.now r.fields c.members.names.own c.read_member.new.names.own c.in_ok-name.name r.read.members r.read.plain c.in_ok-name.ensures.plain more.name) c.ended_feature.ensures
