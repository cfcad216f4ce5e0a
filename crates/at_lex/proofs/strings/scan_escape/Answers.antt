use Rattle.std.proofs.Common.{arith, sym}
use Rattle.at_lex.specs.StringStates.{state_of}
use Rattle.at_lex.proofs.TextScans.{goes_one}
use Rattle.at_lex.proofs.strings.scan_escape.Goals as goal

pub returns-then-not-stands : goal.returns-then-not-stands
returns-then-not-stands c = record {
  order = omega (arith, c.loop-len.invariant.order);
  fits = omega arith;
  goes = goes_one c.args.text.now c.loop-len.len (state_of c.loop-len.state) (state_of c.in-Some.found) (omega arith) c.loop-len.invariant.goes (sym c.in-Some.ensures);
  stops = λ other. absurd (other (c.is_inside.ensures c.if-is_inside.true));
}

pub loop-len-preserved : goal.loop-len-preserved
loop-len-preserved c = record {
  order = omega (arith, c.loop-len.invariant.order);
  fits = omega arith;
  goes = goes_one c.args.text.now c.loop-len.len (state_of c.loop-len.state) (state_of c.in-Some.found) (omega arith) c.loop-len.invariant.goes (sym c.in-Some.ensures);
}
