use Rattle.std.proofs.Common.{List, ◌++◌, All, sym, subst}
use Rattle.at_nest.specs.Folds.{AreItemFolds}
use Rattle.at_nest.proofs.Held.{folds_append}
use Rattle.at_geojson.specs.declared.atoms.atom.GeoAtom.{GeoAtom}
use Rattle.at_geojson.specs.Atoms.{IsOwn, IsFold, IsRun}
use Rattle.at_geojson.proofs.RunFolds.{own_behind}
use Rattle.at_geojson.proofs.joined.runs.push_item.Goals as goal

pub returns-clause-own : goal.returns-clause-own
returns-clause-own c = subst (All (IsOwn c.args.algebra.now)) (sym c.in_ok-push.ensures.items) (own_behind c.args.algebra.now c.args.items.now.items c.args.atom c.requires.items c.requires.atom)

pub returns-clause-fold : goal.returns-clause-fold
returns-clause-fold c ts us h k =
    let asked = c.args.algebra.now in
    subst (λ (z : List GeoAtom). AreItemFolds (IsFold asked) (IsRun asked) z (ts ++ us)) (sym c.in_ok-push.ensures.items) (folds_append (IsFold asked) (IsRun asked) c.args.items.now.items ts c.args.atom us h k)
