use Rattle.std.proofs.Common.{MatchResult, Some, subst}
use Rattle.at_seq.specs.Fragments.{SeqAsks}
use Rattle.at_seq.specs.Sequences.{HasSeqFault}
use Rattle.at_text.specs.Refusals.{IfFound}
use Rattle.at_seq.specs.Answers.{IsSeqPart}
use Rattle.at_seq.proofs.OneSequence.{only_end}
use Rattle.at_seq.proofs.ProperEntries.{proper_end}
use Rattle.at_seq.proofs.sequences.part_seq.Goals as goal

pub returns-clause-only : goal.returns-clause-only
returns-clause-only g c =
    let P : SeqAsks → Type 0 = λ a. MatchResult c.finish_pieces.result (IsSeqPart a.asked.digits a.asked.how a.asked.query a.bytes) (λ e. IfFound e (λ fault. HasSeqFault a.asked.digits a.asked.how a.bytes (Some fault))) in
    only_end _ c.args.bytes.now c.finish_pieces.result (subst P c.new-reader.ensures c.finish_pieces.ensures)

pub returns-clause-proper : goal.returns-clause-proper
returns-clause-proper g c =
    let P : SeqAsks → Type 0 = λ a. MatchResult c.finish_pieces.result (IsSeqPart a.asked.digits a.asked.how a.asked.query a.bytes) (λ e. IfFound e (λ fault. HasSeqFault a.asked.digits a.asked.how a.bytes (Some fault))) in
    proper_end _ c.args.bytes.now c.finish_pieces.result (subst P c.new-reader.ensures c.finish_pieces.ensures)

pub returns-clause-given_up : goal.returns-clause-given_up
returns-clause-given_up g c (n, low, high, h) = absurd (c.in_ok-whole.ensures.given_up n low high h)
