use Rattle.std.proofs.Common.{◌≡◌, Some, sym, subst}
use Rattle.at_cli.specs.declared.outcome.loading.Loaded.{Loaded}
use Rattle.at_cli.specs.Loading.{chunk_size, IsReady, PassesLoaded}
use Rattle.at_cli.proofs.GatesPassed.{fed_passed}
use Rattle.at_cli.proofs.outcome.answering.end_in_chunks.Goals as goal

pub returns-in-One-clause-passes : goal.returns-in-One-clause-passes
returns-in-One-clause-passes g c zero =
    let given_up = g.G.Gate.given_up c.args.gate.now in
    let P : Loaded → Type 0 = λ loaded. chunk_size loaded ≡ Some c.args.size in
    let ready = subst IsReady c.in-One.is c.requires.ready in
    subst (PassesLoaded given_up) (sym c.in-One.is) (fed_passed c.in-One.file.line given_up c.args.size (subst P c.in-One.is c.requires.feed) ready.second)
