use Rattle.std.proofs.Common.{sym, subst}
use Rattle.at_geojson.specs.declared.atoms.atom.Items.{Items}
use Rattle.at_geojson.specs.Atoms.{AreOwnItems}
use Rattle.at_geojson.specs.Gathering.{JoinsShapes, JoinsFound}
use Rattle.at_geojson.proofs.OwnFolds.{joinable}
use Rattle.at_geojson.proofs.RunFolds.{taken_off, taken_run_own, joined_own, settles_taken}
use Rattle.at_geojson.proofs.joined.runs.settled_run.Goals as goal

pub joined_run-requires : goal.joined_run-requires
joined_run-requires c =
    let asked = c.args.algebra.now in
    let taken = taken_off asked c.loop-settled.items.items c.take_run.new.items.items c.in_ok-before.field-0 c.in-Some.before c.in_ok-before.ensures c.in-Some.is in
    let own = taken_run_own asked c.loop-settled.items.items c.take_run.new.items.items c.in-Some.before taken c.loop-settled.invariant.0 in
    let behind = subst (AreOwnItems asked) (sym c.into_inner.ensures) c.loop-settled.invariant.1 in
    joinable asked c.in-Some.before.value.features c.into_inner.result.features own.1.1 behind.1

pub loop-settled-preserved : goal.loop-settled-preserved
loop-settled-preserved c =
    let asked = c.args.algebra.now in
    let joined = c.in_ok-settled in
    let taken = taken_off asked c.loop-settled.items.items c.take_run.new.items.items c.in_ok-before.field-0 c.in-Some.before c.in_ok-before.ensures c.in-Some.is in
    let own = taken_run_own asked c.loop-settled.items.items c.take_run.new.items.items c.in-Some.before taken c.loop-settled.invariant.0 in
    let shapes = subst (λ (i : Items). JoinsShapes c.in-Some.before.value.geometries i.geometries joined.settled.value.geometries) c.into_inner.ensures joined.ensures.geometries in
    let parts = subst (λ (i : Items). JoinsFound c.in-Some.before.value.features i.features joined.settled.value.features) c.into_inner.ensures joined.ensures.features in (
      own.0,
      joined_own asked c.in-Some.before.value c.loop-settled.settled.value joined.settled.value shapes parts own.1 c.loop-settled.invariant.1,
      λ ts h. settles_taken asked c.loop-settled.items.items c.take_run.new.items.items c.in-Some.before c.loop-settled.settled joined.settled taken shapes parts ts (c.loop-settled.invariant.2 ts h),
    )
