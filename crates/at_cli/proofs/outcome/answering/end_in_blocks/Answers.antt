use Rattle.std.proofs.Common.{sym, subst}
use Rattle.at_cli.specs.declared.outcome.loading.Loaded.{Loaded}
use Rattle.at_cli.specs.Gates.{PassesGate}
use Rattle.at_cli.specs.Loading.{Leads, PassesLoaded}
use Rattle.at_cli.proofs.Loads.{ends_bytes, ends_pair, where_answered}
use Rattle.at_cli.proofs.outcome.answering.end_in_blocks.Goals as goal

pub returns-in-One-clause-leads : goal.returns-in-One-clause-leads
returns-in-One-clause-leads g c =
    let file = c.in-One.file in
    let P : Loaded → Type 0 = λ loaded. Leads loaded c.end_of_one.result in
    let ends = ends_bytes file.line file.query file.bytes.items c.answer_in_blocks-answer.result c.end_of_one.result c.answer_in_blocks-answer.ensures.answer c.end_of_one.ensures.end in
    subst P (sym c.in-One.is) (ends, c.end_of_one.ensures.late)

pub returns-in-One-clause-passes : goal.returns-in-One-clause-passes
returns-in-One-clause-passes g c zero =
    let given_up = g.G.Gate.given_up c.args.gate.now in
    subst (PassesLoaded given_up) (sym c.in-One.is) (where_answered c.answer_in_blocks-answer.result (PassesGate given_up c.in-One.file.line) (c.end_of_one.ensures.answered zero) c.answer_in_blocks-answer.ensures.passes)

pub returns-in-Two-clause-leads : goal.returns-in-Two-clause-leads
returns-in-Two-clause-leads g c =
    let files = c.in-Two.files in
    let told = c.join_in_blocks-answer in
    let P : Loaded → Type 0 = λ loaded. Leads loaded c.end_of_two.result in
    subst P (sym c.in-Two.is) ((λ second e. ends_pair files.line files.query second files.first.items files.second.items told.result c.end_of_two.result e (told.ensures.answer second e) c.end_of_two.ensures.end), c.end_of_two.ensures.late)

pub returns-in-Two-clause-passes : goal.returns-in-Two-clause-passes
returns-in-Two-clause-passes g c zero =
    let given_up = g.G.Gate.given_up c.args.gate.now in
    subst (PassesLoaded given_up) (sym c.in-Two.is) (where_answered c.join_in_blocks-answer.result (PassesGate given_up c.in-Two.files.line) (c.end_of_two.ensures.answered zero) c.join_in_blocks-answer.ensures.passes)
