use Rattle.std.proofs.Common.{IfOk, List, All, sym, subst}
use Rattle.at_geojson.specs.declared.atoms.atom.GeoAtom.{GeoAtom}
use Rattle.at_geojson.specs.Arrays.{Adds}
use Rattle.at_geojson.specs.Atoms.{IsOwn}
use Rattle.at_geojson.proofs.RunFolds.{own_behind}
use Rattle.at_geojson.proofs.joined.runs.push_both.Goals as goal

pub push_item-requires-clause-items : goal.push_item-requires-clause-items
push_item-requires-clause-items c = let asked = c.args.algebra.now in
    subst (All (IsOwn asked)) (sym c.in_ok-push.ensures.items) (own_behind asked c.args.items.now.items c.args.last c.requires.items c.requires.last)

pub returns-clause-fold : goal.returns-clause-fold
returns-clause-fold c =
    subst (λ (z : List GeoAtom). IfOk c.push_item.result (λ u. Adds c.args.algebra.now z c.args.atom c.push_item.new.items.items)) c.in_ok-push.ensures.items c.push_item.ensures.fold
