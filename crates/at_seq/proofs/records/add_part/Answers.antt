use Rattle.std.proofs.Common.{[], ◌∷◌, subst}
use Rattle.std.proofs.lemmas.Result.{IfOk-weaker}
use Rattle.at_query.specs.declared.answer.gathered.Gathered.TheVariants.{Kept, Failed}
use Rattle.at_seq.specs.Gathering.{HasRecordPart}
use Rattle.at_seq.proofs.Gathers.{gathered_joinable, part_proper, part_kept, adds_one}
use Rattle.at_seq.proofs.records.add_part.Goals as goal

pub from_part-requires : goal.from_part-requires
from_part-requires c =
    let (asked, before, r, own, has) = c.requires in
    part_proper asked r c.in-Ok.part (subst (HasRecordPart asked r) c.in-Ok.is has)

pub join_into-requires : goal.join_into-requires
join_into-requires c =
    let (asked, before, r, own, has) = c.requires in
    gathered_joinable asked c.args.gathered.now (Kept c.from_part.result) before (r ∷ []) own (part_kept asked r c.in-Ok.part c.from_part.result (subst (HasRecordPart asked r) c.in-Ok.is has) c.from_part.ensures)

pub returns-in-Ok : goal.returns-in-Ok
returns-in-Ok c =
    IfOk-weaker c.join_into.result _ _ (λ u both asked r has. adds_one asked c.args.gathered.now (Kept c.from_part.result) c.join_into.new.gathered r
    (part_kept asked r c.in-Ok.part c.from_part.result (subst (HasRecordPart asked r) c.in-Ok.is has) c.from_part.ensures) both) c.join_into.ensures

pub returns-in-Err : goal.returns-in-Err
returns-in-Err c =
    IfOk-weaker c.join_into-in-Err.result _ _ (λ u both asked r has. adds_one asked c.args.gathered.now (Failed c.in-Err.fault) c.join_into-in-Err.new.gathered r (subst (HasRecordPart asked r) c.in-Err.is has) both) c.join_into-in-Err.ensures
