-- The bytes of white space that were looked at together, behind those that were passed.
use Rattle.std.proofs.Common.{◌+◌, ◌≤◌, length, arith}
use Rattle.at_scan.proofs.Spaces.{spaces_more}
use Rattle.at_scan.proofs.places.far_spaces.Goals as goal

pub returns-then-more-lt-LANES-clause-spaces : goal.returns-then-more-lt-LANES-clause-spaces
returns-then-more-lt-LANES-clause-spaces c =
    let more = c.space_lanes-more in
    let before = c.far.invariant in
    spaces_more c.args.text.now c.args.at c.far.end more.result before.order (omega (arith, c.far-test.true, before.within, more.ensures.few)) before.spaces more.ensures.passes

pub far-preserved : goal.far-preserved
far-preserved c =
    let more = c.space_lanes-more in
    let before = c.far.invariant in
    let inside : c.far.end + more.result ≤ length c.args.text.now = omega (arith, c.far-test.true, before.within, more.ensures.few) in
    record {
      order = omega (arith, before.order);
      within = inside;
      spaces = spaces_more c.args.text.now c.args.at c.far.end more.result before.order inside before.spaces more.ensures.passes;
    }
