use Rattle.std.proofs.Common.{[], subst}
use Rattle.at_query.specs.declared.query.queries.Query.{Query}
use Rattle.at_query.specs.Accumulators.{IsAccumulated}
use Rattle.at_query.specs.declared.answer.gathered.Gathered.TheVariants.{Kept}
use Rattle.at_seq.proofs.Gathers.{gathered_none}
use Rattle.at_seq.proofs.SequenceEnds.{ended, head_found, lone_found, lone_kept}
use Rattle.at_seq.proofs.finishing.text_end.Goals as goal

pub returns : goal.returns
returns c = ended c.args.file.now.algebra.now c.args.file.now.bytes.now c.in_ok-kept-in-Parted.kept c.stray_fault-head-in-Parted.result c.end_of-in-Parted.result c.requires.valid
    (head_found c.args.file.now.algebra.now c.args.file.now.bytes.now c.args.text c.in-Parted.parted c.base_of-base.result c.stray_fault-head-in-Parted.result c.in-Parted.is c.base_of-base.ensures c.requires.whole c.stray_fault-head-in-Parted.ensures)
    c.in_ok-kept-in-Parted.ensures c.end_of-in-Parted.ensures

pub returns-in-Lone : goal.returns-in-Lone
returns-in-Lone c =
    let K : Query → Type 0 = λ query. IsAccumulated query [] c.none.result in
    ended c.args.file.now.algebra.now c.args.file.now.bytes.now (Kept c.none.result) c.stray_fault-head.result c.end_of.result c.requires.valid
    (lone_found c.args.file.now.algebra.now c.args.file.now.bytes.now c.args.text c.in-Lone.field-0 c.base_of-base.result c.stray_fault-head.result c.in-Lone.is c.base_of-base.ensures c.requires.whole c.stray_fault-head.ensures)
    (lone_kept c.args.file.now.algebra.now c.args.file.now.bytes.now c.args.text c.in-Lone.field-0 (Kept c.none.result) c.in-Lone.is c.requires.whole (gathered_none c.args.file.now.algebra.now c.none.result (subst K c.query.ensures.same c.none.ensures)))
    c.end_of.ensures
