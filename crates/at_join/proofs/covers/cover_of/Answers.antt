use Rattle.std.proofs.Common.{◌+◌, get_or, sym, subst}
use Rattle.std.proofs.lemmas.List.{get_or_default}
use Rattle.at_join.proofs.Covering.{IsRound, no_outline, round_more}
use Rattle.at_join.proofs.covers.cover_of.Goals as goal

pub loop-outline-preserved : goal.loop-outline-preserved
loop-outline-preserved c =
    let outlines = c.args.outlines.now in
    let i = c.loop-outline.outline-index in
    λ k e. subst (λ x. IsRound x outlines (i + 1)) (sym c.joined_extent-cover.ensures)
    (round_more c.loop-outline.cover outlines i (get_or outlines i no_outline) (λ d. get_or_default outlines i d no_outline c.loop-outline-test.true) c.loop-outline.invariant) k e
