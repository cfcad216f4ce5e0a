use Rattle.std.proofs.Common.{◌∷◌, [], ◌<◌, length, get_or, subst, rules, ◌∙◌}
use Rattle.std.proofs.lemmas.List.{get_or_default}
use Rattle.at_geom.proofs.ClosedRings.{clash}
use Rattle.at_join.specs.declared.outlines.Outline.{Outline}
use Rattle.at_join.specs.Meetings.{Finds}
use Rattle.at_join.specs.Boxes.{touch_of}
use Rattle.at_join.specs.Sides.{IsInWindow, itself}
use Rattle.at_join.proofs.Covering.{no_outline}
use Rattle.at_join.proofs.FoundLists.{finds_more, finds_past}
use Rattle.at_join.proofs.near.push_near.Goals as goal

pub loop-at-preserved-then-next-at : goal.loop-at-preserved-then-next-at
loop-at-preserved-then-next-at c =
    let outlines = c.args.side.now.outlines.items in
    finds_past (IsInWindow c.args.window) itself outlines c.loop-at.at c.ahead-next.result c.args.near.now.items c.loop-at.near.items c.ahead-next.ensures.ahead
    (λ k d from to lt h. clash (touch_of (get_or outlines k d).extent c.args.window) h (c.ahead-next.ensures.clear k d from to lt)) c.loop-at.invariant

pub loop-at-preserved : goal.loop-at-preserved
loop-at-preserved c =
    let outlines = c.args.side.now.outlines.items in
    let old = c.loop-at.near.items in
    let new = c.push_outline.new.near.items in
    let lt : c.loop-at.at < length outlines = search rules in
    let same = c.index.ensures ∙ get_or_default outlines c.loop-at.at c.index.result.now no_outline lt in
    finds_more (IsInWindow c.args.window) itself outlines c.loop-at.at no_outline c.args.near.now.items old new lt c.loop-at.invariant
    (subst (λ (q : Outline). Finds (IsInWindow c.args.window) itself (q ∷ []) old new) same c.in_ok-push_outline.ensures)
