use Rattle.std.proofs.Common.{List, ◌++◌, All, sym, subst}
use Rattle.at_nest.specs.Folds.{AreItemFolds}
use Rattle.at_geojson.specs.declared.atoms.atom.GeoAtom.{GeoAtom}
use Rattle.at_geojson.specs.declared.atoms.atom.GeoAtom.TheVariants as atoms
use Rattle.at_geojson.specs.Atoms.{IsOwn, IsFold, IsRun}
use Rattle.at_geojson.proofs.RunFolds.{adds_run, taken_own, own_behind}
use Rattle.at_geojson.proofs.joined.runs.start_run.Goals as goal

pub returns-clause-own : goal.returns-clause-own
returns-clause-own c =
    let asked = c.args.algebra.now in
    let started = c.in_ok-started.started in
    subst (All (IsOwn asked)) (sym c.in_ok-push.ensures.items) (own_behind asked c.args.items.now.items (atoms.Run started) c.requires.items
    (taken_own asked c.args.atom started.value c.in_ok-started.ensures.geometries c.in_ok-started.ensures.features c.requires.atom))

pub returns-clause-fold : goal.returns-clause-fold
returns-clause-fold c ts us h k =
    let asked = c.args.algebra.now in
    let started = c.in_ok-started.started in
    subst (λ (z : List GeoAtom). AreItemFolds (IsFold asked) (IsRun asked) z (ts ++ us)) (sym c.in_ok-push.ensures.items)
    (adds_run asked c.args.items.now.items started c.args.atom c.requires.object c.in_ok-started.ensures.geometries c.in_ok-started.ensures.features ts us h k)
