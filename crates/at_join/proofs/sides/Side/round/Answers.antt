use Rattle.std.proofs.Common.{◌≡◌, ℕ, ◌/◌, ◌<◌, length, sym, subst, arith, rules}
use Rattle.std.specs.Vec.{vec_len}
use Rattle.at_join.proofs.Covering.{round_one, round_there, round_of}
use Rattle.at_join.proofs.sides.Side.round.Goals as goal

pub returns-then-to-from : goal.returns-then-to-from
returns-then-to-from c =
    let lt : c.args.from < length c.args.self.now.outlines.items = omega (arith, c.requires.some.0, c.requires.some.1) in
    round_one c.args.from c.args.to c.args.self.now.outlines.items c.index.result.now c.if-to-from.true lt c.index.ensures

pub index-requires-2 : goal.index-requires-2
index-requires-2 c =
    let count : vec_len c.args.self.now.runs ≡ length c.args.self.now.runs.items = search rules in
    let lt : c.args.from < length c.args.self.now.outlines.items = omega (arith, c.requires.some.0, c.requires.some.1) in
    subst (λ (n : ℕ). c.args.from / 16 < n) (sym count) (round_there c.args.from c.args.self.now.runs.items c.args.self.now.outlines.items c.requires.side.runs lt)

pub returns : goal.returns
returns c = λ k e from to.
    round_of c.args.from c.args.self.now.runs.items c.args.self.now.outlines.items c.index-2.result.now c.requires.side.runs c.index-2.ensures k e from
    (omega (arith, to, c.requires.stretch)) (omega (arith, to, c.requires.some.1))
