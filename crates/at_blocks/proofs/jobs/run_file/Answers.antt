use Rattle.std.proofs.Common.{ℕ, List, ◌-◌, length, subst}
use Rattle.at_blocks.specs.Blocks.{NoneGivenUp}
use Rattle.at_blocks.proofs.BlockParts.{none_given_up}
use Rattle.at_blocks.proofs.jobs.run_file.Goals as goal

pub returns-in-Read-clause-given_up : goal.returns-in-Read-clause-given_up
returns-in-Read-clause-given_up g c =
    let places = c.as_slice-places.result.now in
    subst (λ (w : List ℕ). NoneGivenUp (g.G.Gate.given_up c.args.gate.now) 0 (length w - 1)) c.as_slice-places.ensures.places
    (none_given_up (g.P.Pieces.stands c.args.reader.now) c.args.bytes.now places (g.G.Gate.given_up c.args.gate.now) c.in_ok-run_crew.field-0 c.in-Read.whole c.in-Read.is 0 (length places - 1) c.in_ok-run_crew.ensures)
