use Rattle.std.proofs.lemmas.Bool.{not-false, not-true}
use Rattle.at_wkt.proofs.Names.{Stuck, Items}
use Rattle.at_wkt.proofs.PathAnswers.{so_far_start, so_far_more, so_far_stuck}
use Rattle.at_wkt.proofs.PartAnswers.{items_stand}
use Rattle.at_text.proofs.Exits.{exits}
use Rattle.at_wkt.proofs.line.parts.read_members.Goals as goal

pub members-init : goal.members-init
members-init g c = so_far_start _ _ _ _ _ _ _ _ c.first_item-last.result c.first_item-last.ensures c.requires.inside c.requires.count

pub members-preserved : goal.members-preserved
members-preserved g c = so_far_more _ _ _ _ _ _ _ _ c.members.last c.in_ok-member.member c.next_item-last.result _ _
    c.members.invariant (not-true c.members.last.is_last c.members-test.true) c.in_ok-member.ensures c.next_item-last.ensures

pub returns-in_err-member : goal.returns-in_err-member
returns-in_err-member g c = exits c.from_residual.result c.in_err-member.field-0.0 _ (Stuck (Items g.M.Listed.spells) c.args.source.now.rules.base c.args.source.now.text.now c.members.last.behind.at c.members.last.behind.dimension) _ c.from_residual.ensures.1
    (λ n h. so_far_stuck _ _ _ _ _ _ _ _ c.members.last _ n c.members.invariant (not-true c.members.last.is_last c.members-test.true) h) c.in_err-member.ensures

pub returns : goal.returns
returns g c = items_stand _ _ _ _ _ _ _ _ _ c.members.last c.items_read.result c.members.invariant (not-false c.members.last.is_last c.members-test.false) c.items_read.ensures
