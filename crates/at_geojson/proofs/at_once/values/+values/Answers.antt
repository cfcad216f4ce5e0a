-- Each item and each member is read behind those before it.
use Rattle.std.proofs.Common.{[], ◌∷◌, ◌++◌, All, refl, sym, subst, arith, ◌+◌}
use Rattle.std.proofs.lemmas.Result.{IfOk-weaker}
use Rattle.at_nest.specs.declared.algebra.Member.{Member}
use Rattle.at_scan.specs.Members.{name_in}
use Rattle.at_scan.proofs.Taken.{name_text, name_units}
use Rattle.at_geojson.specs.declared.atoms.atom.GeoAtom.{GeoAtom}
use Rattle.at_geojson.specs.declared.coordinates.pairs.Whole.{Whole}
use Rattle.at_geojson.specs.Atoms.{IsOwn}
use Rattle.at_geojson.specs.Values.{AreItemsRead, AreMembersRead, EndsArray, EndsObject}
use Rattle.at_geojson.proofs.ValueParts.{member_of, pair_whole, items_begin, items_go_on, items_own, array_read, empty_read, members_begin, members_go_on, members_own, object_read, void_read}
use Rattle.at_geojson.proofs.FieldFolds.{own_fields}
use Rattle.at_geojson.proofs.MemberReads.{no_twin_in, field_passed, fields_begin, longer_fields, fields_go_on, ends_fields, ends_longer, no_texts}
use Rattle.at_geojson.proofs.at_once.values.+values.Goals as goal

pub read_items-returns-then-stands : goal.read_items-returns-then-stands
read_items-returns-then-stands t c = empty_read c.args.text.now.algebra.now c.args.text.now.base c.args.text.now.bytes.now c.args.at c.skip_spaces-first.result (omega (arith, c.skip_spaces-first.ensures.order)) (c.stands.ensures.inside c.if-stands.true) c.requires.opens (c.stands.ensures.byte c.if-stands.true) c.skip_spaces-first.ensures.spaces

pub read_items-items-init : goal.read_items-items-init
read_items-items-init t c = record { order = omega arith; within = omega (arith, c.requires.inside); read = subst (AreItemsRead c.args.text.now.algebra.now c.args.text.now.base c.args.text.now.bytes.now c.args.at (c.args.at + 1)) (sym c.in_ok-items.ensures.items) (items_begin c.args.text.now.algebra.now c.args.text.now.base c.args.text.now.bytes.now c.args.at c.requires.inside) }

pub read_items-ended_array-requires : goal.read_items-ended_array-requires
read_items-ended_array-requires t c = subst (All (IsOwn c.args.text.now.algebra.now)) (sym c.in_ok-push.ensures.items)
    (items_own c.args.text.now.algebra.now c.args.text.now.base c.args.text.now.bytes.now c.args.at c.items.place c.items.items.items c.in_ok-end.field-0 c.items.invariant.read c.in_ok-end.ensures)

pub read_items-returns-then-stands-2 : goal.read_items-returns-then-stands-2
read_items-returns-then-stands-2 t c = IfOk-weaker c.ended_array.result _ _ (λ q e. array_read c.args.text.now.algebra.now c.args.text.now.base c.args.text.now.bytes.now c.args.at c.items.place c.items.items.items c.in_ok-end.field-0 q c.items.invariant.order c.requires.opens c.items.invariant.read c.in_ok-end.ensures
    (c.stands-in-items.ensures.inside c.if-stands-2.true) (c.stands-in-items.ensures.byte c.if-stands-2.true)
    (subst (λ z. EndsArray c.args.text.now.algebra.now (c.args.text.now.base + c.args.at) (c.in_ok-end.field-0.end + 1) z q) c.in_ok-push.ensures.items e)) c.ended_array.ensures

pub read_items-items-preserved : goal.read_items-items-preserved
read_items-items-preserved t c =
    let inside = c.in_ok-expect_comma.ensures.inside in
    record {
      order = omega (arith, c.items.invariant.order, c.in_ok-end.ensures.order);
      within = omega (arith, inside);
      read = subst (AreItemsRead c.args.text.now.algebra.now c.args.text.now.base c.args.text.now.bytes.now c.args.at (c.in_ok-end.field-0.end + 1)) (sym c.in_ok-push.ensures.items)
          (items_go_on c.args.text.now.algebra.now c.args.text.now.base c.args.text.now.bytes.now c.args.at c.items.place c.items.items.items c.in_ok-end.field-0 c.items.invariant.order c.items.invariant.read c.in_ok-end.ensures inside (c.in_ok-expect_comma.ensures.byte));
    }

pub read_members-returns-then-stands : goal.read_members-returns-then-stands
read_members-returns-then-stands t c = IfOk-weaker c.ended_object.result _ _ (λ q e. void_read c.args.text.now.algebra.now c.args.text.now.base c.args.text.now.bytes.now c.args.at c.skip_spaces-first.result q (omega (arith, c.skip_spaces-first.ensures.order)) (c.stands.ensures.inside c.if-stands.true) c.requires.opens
    (c.stands.ensures.byte c.if-stands.true) c.skip_spaces-first.ensures.spaces (subst (λ z. EndsObject c.args.text.now.algebra.now (c.args.text.now.base + c.args.at) (c.skip_spaces-first.result + 1) z q) c.in_ok-members.ensures.items e)) c.ended_object.ensures

pub read_members-members-init : goal.read_members-members-init
read_members-members-init t c = record { order = omega arith; within = omega (arith, c.requires.inside); read = subst (AreMembersRead c.args.text.now.algebra.now c.args.text.now.base c.args.text.now.bytes.now c.args.at (c.args.at + 1)) (sym c.in_ok-members.ensures.items) (members_begin c.args.text.now.algebra.now c.args.text.now.base c.args.text.now.bytes.now c.args.at c.requires.inside) }

pub read_members-units-requires-clause-whole : goal.read_members-units-requires-clause-whole
read_members-units-requires-clause-whole t c = name_text c.args.text.now.bytes.now c.members.place c.in_ok-name.name c.in_ok-name.ensures

pub read_members-ended_object-requires-then-stands-2 : goal.read_members-ended_object-requires-then-stands-2
read_members-ended_object-requires-then-stands-2 t c = subst (All (λ (m : Member GeoAtom). IsOwn c.args.text.now.algebra.now m.value)) (sym c.in_ok-push.ensures.items)
    (members_own c.args.text.now.algebra.now c.args.text.now.base c.args.text.now.bytes.now c.args.at c.members.place c.members.members.items c.in_ok-name.name c.in_ok-units.units c.in_ok-end.field-0 c.members.invariant.read c.in_ok-end.ensures)

pub read_members-returns-then-stands-2 : goal.read_members-returns-then-stands-2
read_members-returns-then-stands-2 t c = IfOk-weaker c.ended_object-then-stands-2.result _ _ (λ q e. object_read c.args.text.now.algebra.now c.args.text.now.base c.args.text.now.bytes.now c.args.at c.members.place c.members.members.items c.in_ok-name.name c.in_ok-units.units c.in_ok-end.field-0 q
    c.members.invariant.order c.requires.opens c.members.invariant.read c.in_ok-name.ensures (name_units c.args.text.now.bytes.now c.members.place c.in_ok-name.name c.in_ok-units.units c.in_ok-name.ensures c.in_ok-units.ensures) c.in_ok-end.ensures
    (c.stands-in-members.ensures.inside c.if-stands-2.true) (c.stands-in-members.ensures.byte c.if-stands-2.true)
    (subst (λ z. EndsObject c.args.text.now.algebra.now (c.args.text.now.base + c.args.at) (c.in_ok-end.field-0.end + 1) z q) c.in_ok-push.ensures.items e)) c.ended_object-then-stands-2.ensures

pub read_members-members-preserved : goal.read_members-members-preserved
read_members-members-preserved t c =
    let inside = c.in_ok-expect_comma.ensures.inside in
    record {
      order = omega (arith, c.members.invariant.order, c.in_ok-name.ensures.before, c.in_ok-name.ensures.text.0, c.in_ok-name.ensures.behind, c.in_ok-end.ensures.order);
      within = omega (arith, inside);
      read = subst (AreMembersRead c.args.text.now.algebra.now c.args.text.now.base c.args.text.now.bytes.now c.args.at (c.in_ok-end.field-0.end + 1)) (sym c.in_ok-push.ensures.items)
          (members_go_on c.args.text.now.algebra.now c.args.text.now.base c.args.text.now.bytes.now c.args.at c.members.place c.members.members.items c.in_ok-name.name c.in_ok-units.units c.in_ok-end.field-0 c.members.invariant.order c.members.invariant.read c.in_ok-name.ensures
          (name_units c.args.text.now.bytes.now c.members.place c.in_ok-name.name c.in_ok-units.units c.in_ok-name.ensures c.in_ok-units.ensures) c.in_ok-end.ensures inside (c.in_ok-expect_comma.ensures.byte));
    }

pub read_any-returns-in-Some : goal.read_any-returns-in-Some
read_any-returns-in-Some t c = pair_whole c.args.text.now.algebra.now c.args.text.now.base c.args.text.now.bytes.now c.args.at c.in-Some.field-0 c.in-Some.ensures

pub read_fields-returns-then-stands : goal.read_fields-returns-then-stands
read_fields-returns-then-stands t c = IfOk-weaker c.ended_fields.result _ _ (λ q e. void_read c.args.text.now.algebra.now c.args.text.now.base c.args.text.now.bytes.now c.args.at c.skip_spaces-first.result q (omega (arith, c.skip_spaces-first.ensures.order)) (c.stands.ensures.inside c.if-stands.true) c.requires.opens
    (c.stands.ensures.byte c.if-stands.true) c.skip_spaces-first.ensures.spaces (ends_fields c.args.text.now.algebra.now c.args.text.now.base c.args.text.now.bytes.now (c.args.text.now.base + c.args.at) (c.skip_spaces-first.result + 1) c.none-fields.result [] [] q e c.none-fields.ensures refl refl)) c.ended_fields.ensures

pub read_fields-fields-init : goal.read_fields-fields-init
read_fields-fields-init t c = record {
  order = omega arith;
  within = omega (arith, c.requires.inside);
  read = fields_begin c.args.text.now.algebra.now c.args.text.now.base c.args.text.now.bytes.now c.args.at c.none-others.result c.none-fields.result c.requires.inside c.none-fields.ensures (c.none-others.ensures.plain c.args.text.now.bytes.now) (c.none-others.ensures.none c.args.text.now.bytes.now);
}

pub read_fields-ended_fields-requires-then-stands-2 : goal.read_fields-ended_fields-requires-then-stands-2
read_fields-ended_fields-requires-then-stands-2 t c =
    let r = c.in_ok-end.ensures in let p : Whole = record { end = c.in_ok-end.end; atom = r.atom } in
    let l = longer_fields c.args.text.now.algebra.now c.args.text.now.base c.args.text.now.bytes.now c.args.at c.fields.place c.fields.others c.new_name.new.others c.fields.fields c.in_ok-name.name p c.read_field.new.fields
    c.fields.invariant.read c.in_ok-name.ensures.plain c.in_ok-name.ensures.field c.in_ok-name.ensures.new r.no_twin r.kind r.coordinates r.geometry r.properties r.features r.geometries in
    own_fields c.args.text.now.algebra.now c.read_field.new.fields _ l.are (members_own c.args.text.now.algebra.now c.args.text.now.base c.args.text.now.bytes.now c.args.at c.fields.place l.before.members c.in_ok-name.name.place (name_in c.args.text.now.bytes.now c.in_ok-name.name.place) p l.before.read r.item)

pub read_fields-returns-then-stands-2 : goal.read_fields-returns-then-stands-2
read_fields-returns-then-stands-2 t c =
    let r = c.in_ok-end.ensures in let p : Whole = record { end = c.in_ok-end.end; atom = r.atom } in
    let l = longer_fields c.args.text.now.algebra.now c.args.text.now.base c.args.text.now.bytes.now c.args.at c.fields.place c.fields.others c.new_name.new.others c.fields.fields c.in_ok-name.name p c.read_field.new.fields
    c.fields.invariant.read c.in_ok-name.ensures.plain c.in_ok-name.ensures.field c.in_ok-name.ensures.new r.no_twin r.kind r.coordinates r.geometry r.properties r.features r.geometries in
    IfOk-weaker c.ended_fields-then-stands-2.result _ _ (λ q e. object_read c.args.text.now.algebra.now c.args.text.now.base c.args.text.now.bytes.now c.args.at c.fields.place l.before.members c.in_ok-name.name.place (name_in c.args.text.now.bytes.now c.in_ok-name.name.place) p q
    c.fields.invariant.order c.requires.opens l.before.read c.in_ok-name.ensures.place l.plain.units r.item (c.stands-in-fields.ensures.inside c.if-stands-2.true) (c.stands-in-fields.ensures.byte c.if-stands-2.true)
    (ends_longer c.args.text.now.algebra.now c.args.text.now.base c.args.text.now.bytes.now c.args.at c.fields.place (p.end + 1) c.fields.others c.new_name.new.others c.fields.fields c.in_ok-name.name.place p c.read_field.new.fields [] q l e (sym (no_texts c.args.text.now.algebra.now.query.tests (l.before.members ++ member_of c.args.text.now.algebra.now c.args.text.now.base c.args.text.now.bytes.now c.in_ok-name.name.place (name_in c.args.text.now.bytes.now c.in_ok-name.name.place) p.atom ∷ []) c.requires.unasked)))) c.ended_fields-then-stands-2.ensures

pub read_fields-fields-preserved : goal.read_fields-fields-preserved
read_fields-fields-preserved t c =
    let r = c.in_ok-end.ensures in let p : Whole = record { end = c.in_ok-end.end; atom = r.atom } in
    let l = longer_fields c.args.text.now.algebra.now c.args.text.now.base c.args.text.now.bytes.now c.args.at c.fields.place c.fields.others c.new_name.new.others c.fields.fields c.in_ok-name.name p c.read_field.new.fields
    c.fields.invariant.read c.in_ok-name.ensures.plain c.in_ok-name.ensures.field c.in_ok-name.ensures.new r.no_twin r.kind r.coordinates r.geometry r.properties r.features r.geometries in
    let inside = c.in_ok-expect_comma.ensures.inside in
    record {
      order = omega (arith, c.fields.invariant.order, c.in_ok-name.ensures.place.before, c.in_ok-name.ensures.place.text.0, c.in_ok-name.ensures.place.behind, r.item.order);
      within = omega (arith, inside);
      read = fields_go_on c.args.text.now.algebra.now c.args.text.now.base c.args.text.now.bytes.now c.args.at c.fields.place c.fields.others c.new_name.new.others c.fields.fields c.in_ok-name.name.place p c.read_field.new.fields c.fields.invariant.order l c.in_ok-name.ensures.place r.item inside (c.in_ok-expect_comma.ensures.byte);
    }

pub put_field-returns : goal.put_field-returns
put_field-returns t c = record {
  atom = c.in_ok-end.field-0.atom;
  item = c.in_ok-end.ensures;
  no_twin = no_twin_in c.in_ok-end.field-0.atom c.is_twin.result c.is_twin.ensures c.if-is_twin.false;
  kind = c.put.ensures.kind;
  coordinates = c.put.ensures.coordinates;
  geometry = c.put.ensures.geometry;
  properties = c.put.ensures.properties;
  features = c.put.ensures.features;
  geometries = c.put.ensures.geometries;
}

pub other_field-returns-in-Some : goal.other_field-returns-in-Some
other_field-returns-in-Some t c = field_passed c.args.text.now.algebra.now c.args.text.now.base c.args.text.now.bytes.now c.args.at c.in-Some.end c.args.field _ c.requires.other c.in-Some.ensures

pub text_field-returns-in-Some : goal.text_field-returns-in-Some
text_field-returns-in-Some t c = record {
  atom = c.in-Some.field-0.atom;
  item = c.in-Some.ensures.item;
  no_twin = c.in-Some.ensures.no_twin;
  kind = c.put.ensures.kind;
  coordinates = c.put.ensures.coordinates;
  geometry = c.put.ensures.geometry;
  properties = c.put.ensures.properties;
  features = c.put.ensures.features;
  geometries = c.put.ensures.geometries;
}
