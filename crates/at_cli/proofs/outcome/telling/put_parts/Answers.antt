use Rattle.std.proofs.Common.{ℕ, List, [], inr}
use Rattle.std.specs.Borrow.{Bor}
use Rattle.at_io.specs.Counts.{Rose}
use Rattle.at_cli.proofs.Growth.{prefix_at_part, rose_on}
use Rattle.at_cli.proofs.outcome.telling.put_parts.Goals as goal

pub returns-in_default : goal.returns-in_default
returns-in_default g c =
    let e = g.E.Sink in
    let rose : Rose (e.faults c.loop-part.err) (e.faults c.put.new.self) = c.in_default.ensures.failed in
    inr (
      rose_on (e.faults c.args.err.now) (e.faults c.loop-part.err) (e.faults c.put.new.self) c.loop-part.invariant.counted rose,
      prefix_at_part (λ (part : Bor (List ℕ)). part.now) c.args.parts.now c.loop-part.part-index (record { ref_ptr = (0, 0); now = [] }) c.as_bytes.result.now
          (e.written c.args.err.now) (e.written c.loop-part.err) (e.written c.put.new.self) c.loop-part-test.true c.loop-part.invariant.grown c.as_bytes.ensures.value c.in_default.ensures.kept,
    )
