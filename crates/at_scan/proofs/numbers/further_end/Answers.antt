-- One more number behind those before it, and the bracket behind them all.
use Rattle.std.proofs.Common.{[], ◌∷◌, ◌++◌, refl, arith}
use Rattle.at_scan.proofs.Moved.{further_last}
use Rattle.at_scan.proofs.numbers.further_end.Goals as goal

pub further-init : goal.further-init
further-init c =
    let s = c.skip_spaces-end.ensures in
    record { first = c.skip_spaces-end.result; before = s.order; spaces = s.spaces; order = omega arith; within = s.within; places = []; further = refl }

pub further-preserved : goal.further-preserved
further-preserved c =
    let i = c.further.invariant in let f = c.in_ok-end.ensures in
    record {
      first = i.first;
      before = i.before;
      spaces = i.spaces;
      order = omega (arith, i.order, f.before, f.order, f.behind);
      within = f.within;
      places = i.places ++ _ ∷ [];
      further = further_last c.args.text.now i.first i.places c.further.end _ i.further f;
    }

pub returns-then-stands : goal.returns-then-stands
returns-then-stands c =
    let i = c.further.invariant in let here = c.if-stands.true in
    record {
      first = i.first;
      before = i.before;
      spaces = i.spaces;
      places = i.places;
      place = c.further.end;
      further = i.further;
      order = i.order;
      inside = c.stands-2.ensures.inside here;
      closes = c.stands-2.ensures.byte here;
      behind = refl;
    }
