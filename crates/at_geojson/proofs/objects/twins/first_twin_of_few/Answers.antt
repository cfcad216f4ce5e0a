use Rattle.std.proofs.Common.{◌+◌, drop, take, ◌∙◌, ap}
use Rattle.at_text.specs.Faults.{first_fault}
use Rattle.at_geojson.specs.Gathering.{is_among, twin_at, member_twins}
use Rattle.at_geojson.proofs.TwinSteps.{one_member_more}
use Rattle.at_geojson.proofs.objects.twins.first_twin_of_few.Goals as goal

pub loop-member-preserved : goal.loop-member-preserved
loop-member-preserved c =
    let ms = c.args.members.now in
    let i = c.loop-member.member-index in
    let m = c.member-item.result in
    let own = c.member_twin.ensures ∙ ap (λ b. twin_at b m) (c.is_among-is_twin.ensures ∙ (ap (is_among (take c.loop-member.index ms)) c.as_slice.ensures ∙ ap (λ k. is_among (take k ms) m.name) c.loop-member.invariant.0)) in (
      ap (λ k. k + 1) c.loop-member.invariant.0,
      ap (λ o. first_fault o (member_twins (take (i + 1) ms) (drop (i + 1) ms))) (c.first_fault-first.ensures ∙ ap (first_fault c.loop-member.first) own)
          ∙ (one_member_more ms i m c.loop-member.first c.loop-member-test.true c.member-item.is ∙ c.loop-member.invariant.1),
    )
