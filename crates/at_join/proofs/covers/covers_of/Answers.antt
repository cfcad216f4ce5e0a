use Rattle.std.proofs.Common.{◌+◌, ◌*◌, ◌<◌, ◌≤◌, ◌∷◌, [], length, length-append, sym, ap, subst, arith, ◌∙◌}
use Rattle.at_join.proofs.Covering.{CoverTo, cover_more, next_at, part_length}
use Rattle.at_join.proofs.covers.covers_of.Goals as goal

pub loop-from-preserved : goal.loop-from-preserved
loop-from-preserved c =
    let i = c.loop-from.invariant in
    let lt = c.loop-from-test.true in
    let from = c.loop-from.from in
    let to = c.min-to.result in
    let m = c.min-to.ensures in
    let p = c.in_ok-push.ensures.items in
    let at = i.at lt in
    let far : to ≤ from + c.args.size = omega (arith, m) in
    let up : from ≤ to = omega (arith, m, i.within) in
    let most : to ≤ length c.args.outlines.now = omega (arith, m) in
    let count = ap length p ∙ length-append c.loop-from.covers.items (c.cover_of.result ∷ []) in
    record {
      within = most;
      at = λ below. next_at c.args.size (length c.loop-from.covers.items) (length c.args.outlines.now) from to at m below ∙ ap (λ l. l * c.args.size) (sym count);
      covers = subst (λ l. CoverTo c.args.size l c.args.outlines.now to) (sym p)
          (cover_more c.args.size c.loop-from.covers.items c.cover_of.result c.args.outlines.now from to at up far
          (λ k e l. c.cover_of.ensures k e (subst (λ n. k < n) (sym (part_length c.args.outlines.now from to up most)) l)) i.covers);
    }
