use Rattle.std.proofs.Common.{List, ◌++◌, All, sym, subst}
use Rattle.at_nest.specs.Folds.{AreItemFolds}
use Rattle.at_geojson.specs.declared.atoms.atom.GeoAtom.{GeoAtom}
use Rattle.at_geojson.specs.declared.atoms.atom.GeoAtom.TheVariants as atoms
use Rattle.at_geojson.specs.Atoms.{IsOwn, IsFold, IsRun}
use Rattle.at_geojson.proofs.OwnFolds.{joinable}
use Rattle.at_geojson.proofs.RunFolds.{adds_to_run, joined_own, taken_own, own_behind}
use Rattle.at_geojson.proofs.joined.runs.join_run.Goals as goal

pub joined_run-requires : goal.joined_run-requires
joined_run-requires c =
    let asked = c.args.algebra.now in
    let more = c.into_items-more in
    joinable asked c.args.before.value.features more.result.features c.requires.before.1 (taken_own asked c.args.atom more.result more.ensures.geometries more.ensures.features c.requires.atom).1

pub returns-clause-own : goal.returns-clause-own
returns-clause-own c =
    let asked = c.args.algebra.now in
    let more = c.into_items-more in
    let joined = c.in_ok-joined in
    subst (All (IsOwn asked)) (sym c.in_ok-push.ensures.items) (own_behind asked c.args.items.now.items (atoms.Run joined.joined) c.requires.items
    (joined_own asked c.args.before.value more.result joined.joined.value joined.ensures.geometries joined.ensures.features c.requires.before
    (taken_own asked c.args.atom more.result more.ensures.geometries more.ensures.features c.requires.atom)))

pub returns-clause-fold : goal.returns-clause-fold
returns-clause-fold c ts us h k =
    let asked = c.args.algebra.now in
    let more = c.into_items-more in
    let joined = c.in_ok-joined in
    subst (λ (z : List GeoAtom). AreItemFolds (IsFold asked) (IsRun asked) z (ts ++ us)) (sym c.in_ok-push.ensures.items)
    (adds_to_run asked c.args.items.now.items c.args.before joined.joined c.args.atom more.result c.requires.object more.ensures.geometries more.ensures.features joined.ensures.geometries joined.ensures.features ts us h k)
