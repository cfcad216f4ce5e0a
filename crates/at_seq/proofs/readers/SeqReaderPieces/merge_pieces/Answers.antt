use Rattle.std.proofs.Common.{ℕ, sym, subst}
use Rattle.at_seq.specs.declared.fragments.SeqFragment.TheVariants.{Read}
use Rattle.at_seq.specs.Fragments.{SeqAsks, AreBeside, IsOfBoth, HoldsSpan, HoldsFragment}
use Rattle.at_seq.proofs.Merges.{reads_beside, merged_as}
use Rattle.at_seq.proofs.readers.SeqReaderPieces.merge_pieces.Goals as goal

pub merge_spans-requires : goal.merge_spans-requires
merge_spans-requires c =
    let P : SeqAsks → Type 0 = λ a. (i : ℕ) × (j : ℕ) × (k : ℕ) × AreBeside (HoldsSpan a.asked a.bytes) a.bytes i j k c.in-Read-Read.left c.in-Read-Read.right in
    record { beside = subst P (sym c.self.view_is) (reads_beside c.args.self.now c.args._bytes.now c.args.left c.args.right c.in-Read-Read.left c.in-Read-Read.right c.in-Read-Read.is-0 c.in-Read-Read.is-1 c.requires.neighbours) }

pub returns-in-Read-Read : goal.returns-in-Read-Read
returns-in-Read-Read c =
    let P : SeqAsks → Type 0 = λ a. IsOfBoth (HoldsFragment a.asked a.bytes) a.bytes (Read c.in-Read-Read.left) (Read c.in-Read-Read.right) c.merge_spans.result in
    merged_as c.args.self.now c.args._bytes.now c.args.left c.args.right c.merge_spans.result c.in-Read-Read.left c.in-Read-Read.right c.in-Read-Read.is-0 c.in-Read-Read.is-1 (subst P c.self.view_is c.merge_spans.ensures)
