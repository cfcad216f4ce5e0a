use Rattle.std.proofs.Common.{ℕ, ◌≤◌, length, sym, subst, arith}
use Rattle.at_text.specs.Spans.{AreNeighbours}
use Rattle.at_wkt.specs.FoldParts.{IsPartOf}
use Rattle.at_wkt.specs.Folding.{StandsFor}
use Rattle.at_wkt_tests.proofs.cut_tests.fold_from_right.Goals as goal

pub merge_lines-back-requires-clause-neighbours : goal.merge_lines-back-requires-clause-neighbours
merge_lines-back-requires-clause-neighbours g c κs within =
    (c.args.cuts.from, c.args.cuts.to, length c.args.bytes.now, (record { first = c.requires.order; second = c.requires.within; within = omega arith; left = c.run_span-second.ensures; right = c.run_span-third.ensures }))

pub finish_pair-requires-clause-neighbours : goal.finish_pair-requires-clause-neighbours
finish_pair-requires-clause-neighbours g c κs within =
    let begin = subst (λ (n : ℕ). n ≤ c.args.cuts.from) (sym c.base_of.ensures) c.requires.begin in
    let back = c.merge_lines-back.ensures.merged c.args.cuts.from c.args.cuts.to (length c.args.bytes.now) (record { first = c.requires.order; second = c.requires.within; within = omega arith; left = c.run_span-second.ensures; right = c.run_span-third.ensures }) in (
      c.args.cuts.from,
      subst (λ (n : ℕ). AreNeighbours (StandsFor (IsPartOf g.F.Fold c.args.fold.now)) c.args.bytes.now n c.args.cuts.from (length c.args.bytes.now) c.run_span-first.result c.merge_lines-back.result) c.base_of.ensures
          (record { first = begin; second = omega (arith, c.requires.order, c.requires.within); within = omega arith; left = c.run_span-first.ensures; right = back }),
    )
