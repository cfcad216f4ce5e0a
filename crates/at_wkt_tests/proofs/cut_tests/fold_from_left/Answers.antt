use Rattle.std.proofs.Common.{ℕ, ◌≤◌, length, sym, subst, arith}
use Rattle.at_text.specs.Spans.{AreNeighbours}
use Rattle.at_wkt.specs.FoldParts.{IsPartOf}
use Rattle.at_wkt.specs.Folding.{StandsFor}
use Rattle.at_wkt_tests.proofs.cut_tests.fold_from_left.Goals as goal

pub merge_lines-front-requires-clause-neighbours : goal.merge_lines-front-requires-clause-neighbours
merge_lines-front-requires-clause-neighbours g c κs within =
    let begin = subst (λ (n : ℕ). n ≤ c.args.cuts.from) (sym c.base_of.ensures) c.requires.begin in
    (c.base_of.result, c.args.cuts.from, c.args.cuts.to, (record { first = begin; second = c.requires.order; within = c.requires.within; left = c.run_span-first.ensures; right = c.run_span-second.ensures }))

pub finish_pair-requires-clause-neighbours : goal.finish_pair-requires-clause-neighbours
finish_pair-requires-clause-neighbours g c κs within =
    let begin = subst (λ (n : ℕ). n ≤ c.args.cuts.from) (sym c.base_of.ensures) c.requires.begin in
    let front = c.merge_lines-front.ensures.merged c.base_of.result c.args.cuts.from c.args.cuts.to (record { first = begin; second = c.requires.order; within = c.requires.within; left = c.run_span-first.ensures; right = c.run_span-second.ensures }) in (
      c.args.cuts.to,
      subst (λ (n : ℕ). AreNeighbours (StandsFor (IsPartOf g.F.Fold c.args.fold.now)) c.args.bytes.now n c.args.cuts.to (length c.args.bytes.now) c.merge_lines-front.result c.run_span-third.result) c.base_of.ensures
          (record { first = omega (arith, begin, c.requires.order); second = c.requires.within; within = omega arith; left = front; right = c.run_span-third.ensures }),
    )
