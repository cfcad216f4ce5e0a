use Rattle.std.proofs.Common.{◌++◌, List, sym, ◌∙◌, ap, subst}
use Rattle.std.specs.Vec.Iter.{into_iter_items}
use Rattle.at_nest.proofs.Joining.{taken_front}
use Rattle.at_geojson.specs.declared.atoms.atom.GeoAtom.{GeoAtom}
use Rattle.at_geojson.specs.Atoms.{IfOwnShape, IfOwnPart}
use Rattle.at_geojson.proofs.OwnFolds.{own_joined, own_middle, joinable, shapes_own, parts_own}
use Rattle.at_geojson.proofs.ItemFolds.{one_item_more}
use Rattle.at_geojson.proofs.atoms.lists.all_items.Goals as goal

pub joined_items-requires : goal.joined_items-requires
joined_items-requires c =
    let asked = c.args.algebra.now in
    let split = sym c.into_iter-atom-iterator.ensures.into_iter_gives.0 ∙ (taken_front _ _ _ c.loop-atom.yielded_by ∙ ap (λ (z : List GeoAtom). c.loop-atom.yielded ++ z) c.in-Some.ensures.steps.0) in
    let own = own_middle asked c.args.atoms.items c.loop-atom.yielded c.in-Some.atom (into_iter_items c.next.new.self) split c.requires in
    joinable asked c.loop-atom.items.features c.into_items.result.features c.loop-atom.invariant.0.1 (subst (IfOwnPart asked) (sym c.into_items.ensures.features) (own_joined asked c.in-Some.atom own).1)

pub loop-atom-preserved : goal.loop-atom-preserved
loop-atom-preserved c =
    let asked = c.args.algebra.now in
    let split = sym c.into_iter-atom-iterator.ensures.into_iter_gives.0 ∙ (taken_front _ _ _ c.loop-atom.yielded_by ∙ ap (λ (z : List GeoAtom). c.loop-atom.yielded ++ z) c.in-Some.ensures.steps.0) in
    let own = own_middle asked c.args.atoms.items c.loop-atom.yielded c.in-Some.atom (into_iter_items c.next.new.self) split c.requires in (
      (
        shapes_own asked c.loop-atom.items.geometries c.into_items.result.geometries c.in_ok-items.items.geometries c.in_ok-items.ensures.geometries c.loop-atom.invariant.0.0 (subst (IfOwnShape asked) (sym c.into_items.ensures.geometries) (own_joined asked c.in-Some.atom own).0),
        parts_own asked c.loop-atom.items.features c.into_items.result.features c.in_ok-items.items.features c.in_ok-items.ensures.features c.loop-atom.invariant.0.1 (subst (IfOwnPart asked) (sym c.into_items.ensures.features) (own_joined asked c.in-Some.atom own).1),
      ),
      one_item_more asked c.loop-atom.yielded c.in-Some.atom c.loop-atom.items c.into_items.result c.in_ok-items.items c.into_items.ensures.geometries c.into_items.ensures.features c.in_ok-items.ensures.geometries c.in_ok-items.ensures.features c.loop-atom.invariant.1,
    )
