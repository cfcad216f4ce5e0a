use Rattle.std.proofs.Common.{IfOk, List, sym, ◌∙◌, subst, append-nil}
use Rattle.at_geojson.specs.declared.atoms.atom.GeoAtom.{GeoAtom}
use Rattle.at_geojson.specs.Arrays.{Adds}
use Rattle.at_geojson.proofs.joined.runs.add_item.Goals as goal

pub returns-in-Some-clause-fold : goal.returns-in-Some-clause-fold
returns-in-Some-clause-fold c =
    subst (λ (z : List GeoAtom). IfOk c.add_behind.result (λ u. Adds c.args.algebra.now z c.args.atom c.add_behind.new.items.items)) (sym c.in-Some.ensures.items) c.add_behind.ensures.fold

pub returns-in-None-clause-fold : goal.returns-in-None-clause-fold
returns-in-None-clause-fold c =
    let old = c.in-None.ensures.items ∙ append-nil c.pop.new.self.items in
    subst (λ (z : List GeoAtom). IfOk c.start_run.result (λ u. Adds c.args.algebra.now z c.args.atom c.start_run.new.items.items)) (sym old) c.start_run.ensures.fold

pub returns-in-None-2-clause-fold : goal.returns-in-None-2-clause-fold
returns-in-None-2-clause-fold c =
    let old = c.in-None.ensures.items ∙ append-nil c.pop.new.self.items in
    subst (λ (z : List GeoAtom). IfOk c.push_item.result (λ u. Adds c.args.algebra.now z c.args.atom c.push_item.new.items.items)) (sym old) c.push_item.ensures.fold
