use Rattle.std.proofs.Common.{List, ◌++◌, All, sym, subst}
use Rattle.at_nest.specs.Folds.{AreItemFolds}
use Rattle.at_geojson.specs.declared.atoms.atom.GeoAtom.{GeoAtom}
use Rattle.at_geojson.specs.declared.atoms.atom.GeoAtom.TheVariants as atoms
use Rattle.at_geojson.specs.Atoms.{IsOwn, IsFold, IsRun}
use Rattle.at_geojson.proofs.RunFolds.{own_behind}
use Rattle.at_geojson.proofs.SeriesFolds.{adds_lists, begins_own, joins_own}
use Rattle.at_geojson.proofs.joined.series.join_lists.Goals as goal

pub returns-clause-own : goal.returns-clause-own
returns-clause-own c =
    let asked = c.args.algebra.now in
    let b = c.needs_shapes-needs.result in
    let before = c.in_ok-before in
    let joined = c.in_ok-joined in
    subst (All (IsOwn asked)) (sym c.in_ok-push.ensures.items) (own_behind asked c.args.items.now.items (atoms.Series joined.joined) c.requires.items
    (joins_own asked b before.before c.args.atom joined.joined joined.ensures (begins_own asked b c.args.last before.before before.ensures c.requires.last) c.requires.atom))

pub returns-clause-fold : goal.returns-clause-fold
returns-clause-fold c ts us h k =
    let asked = c.args.algebra.now in
    let before = c.in_ok-before in
    let joined = c.in_ok-joined in
    subst (λ (z : List GeoAtom). AreItemFolds (IsFold asked) (IsRun asked) z (ts ++ us)) (sym c.in_ok-push.ensures.items)
    (adds_lists asked c.needs_shapes-needs.result c.args.items.now.items c.args.last c.args.atom before.before joined.joined c.needs_shapes-needs.ensures c.requires.lists c.requires.list before.ensures joined.ensures ts us h k)
