use Rattle.std.proofs.Common.{◌≤◌, take}
use Rattle.std.specs.List.{flat_map}
use Rattle.at_io.specs.Sinks.{Grows}
use Rattle.at_cli.proofs.outcome.telling.put_parts.Given as goal

-- the parts so far are written
abbrev pub invariant-loop-part : goal.invariant-loop-part
invariant-loop-part g l = let e = g.E.Sink in record {
  grown : Grows (e.written l.fn.err) (e.written l.err) (flat_map (λ part. part.now) (take l.part-index l.parts));
  counted : e.faults l.fn.err ≤ e.faults l.err;
}
