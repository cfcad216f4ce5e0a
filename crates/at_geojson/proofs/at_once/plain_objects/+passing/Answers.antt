-- Each item and each member is passed over behind those before it.
use Rattle.std.proofs.Common.{inl, inr, refl, sym, ◌∙◌, ap, arith}
use Rattle.std.proofs.lemmas.Result.{IfOk-weaker}
use Rattle.at_query.specs.declared.query.queries.Query.{Query}
use Rattle.at_query.proofs.TextCounts.{none_met, none_met_of, met_few}
use Rattle.at_scan.specs.Members.{name_in}
use Rattle.at_geojson.specs.Atoms.{as_text}
use Rattle.at_geojson.specs.Objects.{kept_texts}
use Rattle.at_geojson.proofs.FeatureReads.{reading_begins, empty_texted, member_passed, void_goes_on, void_ends}
use Rattle.at_geojson.proofs.MemberReads.{plain_more}
use Rattle.at_geojson.proofs.RolelessArrays.{passing_begins, passing_goes_on, passing_ends}
use Rattle.at_geojson.proofs.ValueParts.{item_read, empty_read}
use Rattle.at_geojson.proofs.at_once.plain_objects.+passing.Goals as goal

pub pass_inner-pass_object-requires : goal.pass_inner-pass_object-requires
pass_inner-pass_object-requires t c = (omega arith, (c.requires.inside, (c.requires.opens, c.none-others.ensures.plain c.args.text.now.bytes.now)))

pub pass_other-returns-in-Some : goal.pass_other-returns-in-Some
pass_other-returns-in-Some t c = let (a, item, plain) = c.in-Some.ensures c.args.text.now.base in (a, item, plain.no_twin)

pub pass_part-returns : goal.pass_part-returns
pass_part-returns t c =
    let (a, whole, plain) = c.in_ok-end.ensures in (
      a,
      item_read c.args.text.now.algebra.now c.args.text.now.base c.args.text.now.bytes.now c.args.at c.skip_spaces-first.result c.skip_spaces.result (record { end = c.in_ok-end.end; atom = a }) c.skip_spaces-first.ensures.order c.skip_spaces-first.ensures.spaces whole
          c.skip_spaces.ensures.order c.skip_spaces.ensures.within c.skip_spaces.ensures.spaces,
      plain,
    )

pub pass_array-returns-then-stands : goal.pass_array-returns-then-stands
pass_array-returns-then-stands t c = (
  _,
  empty_read c.args.text.now.algebra.now c.args.text.now.base c.args.text.now.bytes.now c.args.at c.skip_spaces-first.result (omega (arith, c.skip_spaces-first.ensures.order)) (c.stands.ensures.inside c.if-stands.true) c.requires.opens (c.stands.ensures.byte c.if-stands.true) c.skip_spaces-first.ensures.spaces,
  refl,
)

pub pass_array-items-init : goal.pass_array-items-init
pass_array-items-init t c = record { order = omega arith; within = omega (arith, c.requires.inside); passed = passing_begins c.args.text.now.algebra.now c.args.text.now.base c.args.text.now.bytes.now c.args.at c.requires.inside }

pub pass_array-returns-then-stands-2 : goal.pass_array-returns-then-stands-2
pass_array-returns-then-stands-2 t c = passing_ends c.args.text.now.algebra.now c.args.text.now.base c.args.text.now.bytes.now c.args.at c.items.place c.in_ok-end.end c.items.invariant.order c.items.invariant.passed c.in_ok-end.ensures (c.stands-in-items.ensures.inside c.if-stands-2.true) c.requires.opens (c.stands-in-items.ensures.byte c.if-stands-2.true)

pub pass_array-items-preserved : goal.pass_array-items-preserved
pass_array-items-preserved t c = record {
  order = omega (arith, c.items.invariant.order, c.in_ok-end.ensures.1.order);
  within = omega (arith, c.in_ok-expect_comma.ensures.inside);
  passed = passing_goes_on c.args.text.now.algebra.now c.args.text.now.base c.args.text.now.bytes.now c.args.at c.items.place c.in_ok-end.end c.items.invariant.order c.items.invariant.passed c.in_ok-end.ensures c.in_ok-expect_comma.ensures.inside c.in_ok-expect_comma.ensures.byte;
}

pub pass_text-returns : goal.pass_text-returns
pass_text-returns t c = IfOk-weaker c.pass_other.result _ _
    (λ end h. let (a, item, none) = h in
    let nothing = none_met_of c.args.text.now.algebra.now.query.tests _ (name_in c.args.text.now.bytes.now c.args.name) _ _ (as_text a) (c.as_slice.ensures ∙ ap (λ (q : Query). q.tests) c.query.ensures.same) c.name_bytes.ensures c.asks_name.ensures c.if-asks_name.false in
    record { atom = a; item = item; no_twin = none; named = refl; met = omega (arith, nothing) })
    c.pass_other.ensures

pub pass_member-returns-in-Other : goal.pass_member-returns-in-Other
pass_member-returns-in-Other t c = IfOk-weaker c.pass_text.result _ _ (λ end h. inl (c.in-Other.is, h)) c.pass_text.ensures

pub pass_member-returns-in-Kind : goal.pass_member-returns-in-Kind
pass_member-returns-in-Kind t c = IfOk-weaker c.pass_kind.result _ _ (λ end h. inr (c.in-Kind.is, h)) c.pass_kind.ensures

pub pass_object-returns-then-stands-clause-reads : goal.pass_object-returns-then-stands-clause-reads
pass_object-returns-then-stands-clause-reads t c = empty_texted c.args.text.now.algebra.now c.args.text.now.base c.args.text.now.bytes.now c.args.at c.skip_spaces-first.result (omega (arith, c.skip_spaces-first.ensures.order)) (c.stands.ensures.inside c.if-stands.true) c.requires.opens (c.stands.ensures.byte c.if-stands.true) c.skip_spaces-first.ensures.spaces

pub pass_object-members-init : goal.pass_object-members-init
pass_object-members-init t c = record {
  order = omega arith;
  within = omega (arith, c.requires.inside);
  read = (
    reading_begins c.args.text.now.algebra.now c.args.text.now.base c.args.text.now.bytes.now c.args.at c.begin.new.self _ c.requires.inside (record { no_kind = refl; absent = λ _. refl }) (c.begin.ensures.plain c.args.text.now.bytes.now c.requires.names) (c.begin.ensures.none c.args.text.now.bytes.now),
    sym (none_met c.args.text.now.algebra.now.query.tests),
  );
}

pub pass_object-pass_member-requires : goal.pass_object-pass_member-requires
pass_object-pass_member-requires t c =
    let few = met_few c.args.text.now.algebra.now.query.tests (kept_texts c.args.text.now.algebra.now.query.tests c.members.invariant.read.0.read.members) in
    (omega arith, (c.in_ok-name.ensures.place.inside, (c.in_ok-name.ensures.plain, omega (arith, c.members.invariant.read.1, few))))

pub pass_object-returns-then-stands-2-clause-reads : goal.pass_object-returns-then-stands-2-clause-reads
pass_object-returns-then-stands-2-clause-reads t c = void_ends c.args.text.now.algebra.now c.args.text.now.base c.args.text.now.bytes.now c.args.at c.members.place c.members.others c.next_name.new.others c.members.members c.pass_member.new.members c.in_ok-name.name c.in_ok-end.end
    c.members.invariant.read.0 c.in_ok-name.ensures.plain c.in_ok-name.ensures.field (member_passed c.args.text.now.algebra.now c.args.text.now.base c.args.text.now.bytes.now c.in_ok-name.name c.members.members c.pass_member.new.members c.members.others c.next_name.new.others c.in_ok-end.end c.in_ok-end.ensures c.in_ok-name.ensures.next) c.members.invariant.read.1 c.members.invariant.order c.requires.opens c.in_ok-name.ensures.place (c.stands-in-members.ensures.inside c.if-stands-2.true) (c.stands-in-members.ensures.byte c.if-stands-2.true)

pub pass_object-members-preserved : goal.pass_object-members-preserved
pass_object-members-preserved t c = record {
  order = omega (arith, c.members.invariant.order, c.in_ok-name.ensures.place.before, c.in_ok-name.ensures.place.text.0, c.in_ok-name.ensures.place.behind, ((member_passed c.args.text.now.algebra.now c.args.text.now.base c.args.text.now.bytes.now c.in_ok-name.name c.members.members c.pass_member.new.members c.members.others c.next_name.new.others c.in_ok-end.end c.in_ok-end.ensures c.in_ok-name.ensures.next) c.members.invariant.read.0.fields c.members.invariant.read.0.are).0.read.item.order);
  within = omega (arith, c.in_ok-expect_comma.ensures.inside);
  read = void_goes_on c.args.text.now.algebra.now c.args.text.now.base c.args.text.now.bytes.now c.args.at c.members.place c.members.others c.next_name.new.others c.members.members c.pass_member.new.members c.in_ok-name.name c.in_ok-end.end
      c.members.invariant.read.0 c.in_ok-name.ensures.plain c.in_ok-name.ensures.field (member_passed c.args.text.now.algebra.now c.args.text.now.base c.args.text.now.bytes.now c.in_ok-name.name c.members.members c.pass_member.new.members c.members.others c.next_name.new.others c.in_ok-end.end c.in_ok-end.ensures c.in_ok-name.ensures.next) c.members.invariant.read.1 c.members.invariant.order c.in_ok-name.ensures.place c.in_ok-expect_comma.ensures.inside c.in_ok-expect_comma.ensures.byte;
}

pub pass_object-returns-then-stands-2-clause-names : goal.pass_object-returns-then-stands-2-clause-names
pass_object-returns-then-stands-2-clause-names t c =
    let r = c.members.invariant.read.0 in
    let more = ((member_passed c.args.text.now.algebra.now c.args.text.now.base c.args.text.now.bytes.now c.in_ok-name.name c.members.members c.pass_member.new.members c.members.others c.next_name.new.others c.in_ok-end.end c.in_ok-end.ensures c.in_ok-name.ensures.next) r.fields r.are).0 in
    plain_more c.args.text.now.bytes.now r.fields c.members.others c.next_name.new.others c.in_ok-name.name r.read.members r.read.plain c.in_ok-name.ensures.plain more.name
