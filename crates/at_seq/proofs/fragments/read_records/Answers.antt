use Rattle.std.proofs.Common.{ℕ, Option, subst}
use Rattle.at_seq.specs.Gathering.{AddsNext}
use Rattle.at_seq.proofs.Merges.{more_read, all_read}
use Rattle.at_seq.proofs.fragments.read_records.Goals as goal

pub records-preserved : goal.records-preserved
records-preserved c =
    let P : Option ℕ → Type 0 = λ z. AddsNext c.args.file.now.algebra.now c.args.file.now.bytes.now (record { from = c.records.start; to = c.args.span.to }) c.records.kept c.add_next.new.gathered z in
    more_read c.args.file.now.algebra.now c.args.file.now.bytes.now c.args.span.from c.args.span.to c.records.start c.records.kept c.add_next.new.gathered c.records.invariant c.requires.within c.in-Some.end (subst P c.in-Some.is c.in_ok-end.ensures)

pub returns-in-None : goal.returns-in-None
returns-in-None c =
    let P : Option ℕ → Type 0 = λ z. AddsNext c.args.file.now.algebra.now c.args.file.now.bytes.now (record { from = c.records.start; to = c.args.span.to }) c.records.kept c.add_next.new.gathered z in
    all_read c.args.file.now.algebra.now c.args.file.now.bytes.now c.args.span.from c.args.span.to c.records.start c.records.kept c.add_next.new.gathered c.records.invariant c.requires.within (subst P c.in-None.is c.in_ok-end.ensures)
