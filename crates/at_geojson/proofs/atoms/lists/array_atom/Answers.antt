use Rattle.std.proofs.Common.{sym, ◌∙◌, ap}
use Rattle.at_geojson.specs.Atoms.{twin_of}
use Rattle.at_geojson.specs.Gathering.{firsts}
use Rattle.at_geojson.proofs.RunFolds.{twin_runs}
use Rattle.at_geojson.proofs.atoms.lists.array_atom.Goals as goal

pub returns-in-Some-clause-fold : goal.returns-in-Some-clause-fold
returns-in-Some-clause-fold c ts h = twin_runs c.args.algebra.now c.args.at c.args.items.items ts c.in-Some.fault h
    (ap (firsts twin_of) (sym c.as_slice-2.ensures.value) ∙ (sym c.first_twin.ensures ∙ c.in-Some.is))
