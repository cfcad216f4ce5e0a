use Rattle.std.proofs.Common.{◌≡◌, ◌≤◌, ◌-◌, length, take}
use Rattle.at_io.specs.Sinks.{Grows}
use Rattle.at_cli.proofs.outcome.telling.put_pieces.Given as goal

-- the text up to the place is written
abbrev pub invariant-loop-at : goal.invariant-loop-at
invariant-loop-at g l = let o = g.O.Sink in record {
  within : l.at ≤ length l.text;
  grown : Grows (o.written l.fn.out) (o.written l.out) (take l.at l.text);
  unfailed : o.faults l.out ≡ o.faults l.fn.out;
  fresh : l.at ≡ 0 → l.out ≡ l.fn.out;
}

abbrev pub decreases-loop-at : goal.decreases-loop-at
decreases-loop-at g l = length l.text - l.at
