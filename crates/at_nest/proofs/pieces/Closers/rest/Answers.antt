-- The first kind's turn comes behind an even number of brackets.
use Rattle.std.proofs.Common.{◌-◌, arith, sym}
use Rattle.at_nest.proofs.Closers.{turn_even, turn_odd}
use Rattle.at_nest.proofs.pieces.Closers.rest.Goals as goal

pub returns-then-at-self-eq0-clause-first : goal.returns-then-at-self-eq0-clause-first
returns-then-at-self-eq0-clause-first c = sym (turn_even c.args.self.first c.args.self.second (c.args.at - c.args.self.from) (omega (arith, c.if-at-self-eq0.true)))

pub returns-then-at-self-eq0-clause-second : goal.returns-then-at-self-eq0-clause-second
returns-then-at-self-eq0-clause-second c = sym (turn_even c.args.self.second c.args.self.first (c.args.at - c.args.self.from) (omega (arith, c.if-at-self-eq0.true)))

pub returns-else-at-self-eq0-clause-first : goal.returns-else-at-self-eq0-clause-first
returns-else-at-self-eq0-clause-first c = sym (turn_odd c.args.self.first c.args.self.second (c.args.at - c.args.self.from) (λ e. omega (arith, e, c.if-at-self-eq0.false)))

pub returns-else-at-self-eq0-clause-second : goal.returns-else-at-self-eq0-clause-second
returns-else-at-self-eq0-clause-second c = sym (turn_odd c.args.self.second c.args.self.first (c.args.at - c.args.self.from) (λ e. omega (arith, e, c.if-at-self-eq0.false)))
