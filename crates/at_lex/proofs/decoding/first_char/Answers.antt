use Rattle.std.proofs.Common.{arith}
use Rattle.at_lex.proofs.UnitLemmas.{char_none, char_some}
use Rattle.at_lex.proofs.decoding.first_char.Goals as goal

pub returns-in-Some : goal.returns-in-Some
returns-in-Some c = let (is, same) = c.in-Some.ensures in
    (c.loop-n.n, omega arith, omega arith, char_some c.args.bytes.now c.loop-n.n (omega arith) (omega arith) c.loop-n.invariant is, same)

pub returns : goal.returns
returns c = char_none c.args.bytes.now (λ k p q. c.loop-n.invariant k p (omega (arith, q)))
