-- The algebra puts the atom behind the others, or the array wants a comma.
use Rattle.std.proofs.Common.{[], ◌∷◌, ◌++◌, ap}
use Rattle.at_nest.specs.Shown.{held_of}
use Rattle.at_nest.specs.KeptItems.{OwnAtom}
use Rattle.at_nest.proofs.Held.{each_append, gains, value_refused, value_taken}
use Rattle.at_nest.proofs.levels.array_value.Goals as goal

pub returns-in-Value : goal.returns-in-Value
returns-in-Value g c = let own = g.A.Algebra.is_own c.args.algebra.now in let fold = g.A.Algebra.is_fold c.args.algebra.now in let run = g.A.Algebra.is_run c.args.algebra.now in
    let xs = c.args.level.items.items in
    let ys = xs ++ c.args.atom ∷ [] in
    (ys, λ ts us h k. each_append (OwnAtom own fold run) xs ts c.args.atom us h k, value_refused (OwnAtom own fold run) c.args.level.from c.args.level.state xs c.args.atom ys c.array.result c.in-Value.is (ap held_of c.array.ensures))

pub returns-in_ok-add-in_default : goal.returns-in_ok-add-in_default
returns-in_ok-add-in_default g c = let own = g.A.Algebra.is_own c.args.algebra.now in let fold = g.A.Algebra.is_fold c.args.algebra.now in let run = g.A.Algebra.is_run c.args.algebra.now in
    let xs = c.args.level.items.items in
    let ys = c.add.new.items.items in (
      ys,
      gains own fold run xs c.args.atom ys c.in_ok-add-in_default.ensures.own c.in_ok-add-in_default.ensures.fold,
      value_taken (OwnAtom own fold run) c.args.level.from c.args.level.state xs c.args.atom ys c.array-in_default.result c.in_default.not-Value (ap held_of c.array-in_default.ensures),
    )
