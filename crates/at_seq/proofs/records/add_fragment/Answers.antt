use Rattle.std.proofs.Common.{◌≡◌, ◌+◌, ◌<◌, List, [], ◌∷◌, length, sym, subst, arith}
use Rattle.std.proofs.lemmas.Result.{IfOk-weaker}
use Rattle.at_text.specs.Separated.{Piece}
use Rattle.at_wkt.proofs.LineMerges.{length-span_of}
use Rattle.at_seq.specs.Records.{records_in}
use Rattle.at_seq.specs.Fragments.{piece_in}
use Rattle.at_seq.specs.Gathering.{AddsRecords}
use Rattle.at_seq.proofs.PieceRecords.{no_record, one_record, are_all_spaces, not_all_spaces}
use Rattle.at_seq.proofs.Gathers.{adds_none}
use Rattle.at_seq.proofs.records.add_fragment.Goals as goal

pub returns-then-spaces_len-text : goal.returns-then-spaces_len-text
returns-then-spaces_len-text c =
    let r = piece_in c.args.file.now.bytes.now c.args.span.from c.args.span.to in
    adds_none c.args.file.now.algebra.now c.args.gathered.now (records_in (r ∷ [])) (no_record r (are_all_spaces r.text c.spaces_len.result c.spaces_len.ensures c.if-spaces_len-text.true))

pub add_part-requires : goal.add_part-requires
add_part-requires c =
    let r = piece_in c.args.file.now.bytes.now c.args.span.from c.args.span.to in
    let same : c.args.span.to ≡ c.args.span.from + length r.text = sym (length-span_of c.args.file.now.bytes.now c.args.span.from c.args.span.to c.requires.order c.requires.within) in
    let (before, own) = c.requires.own in
    (c.args.file.now.algebra.now, before, r, own, c.in_ok-part.ensures c.args.span.from r.text same c.finish_span-answer.ensures.answers)

pub returns : goal.returns
returns c =
    let r = piece_in c.args.file.now.bytes.now c.args.span.from c.args.span.to in
    let same : c.args.span.to ≡ c.args.span.from + length r.text = sym (length-span_of c.args.file.now.bytes.now c.args.span.from c.args.span.to c.requires.order c.requires.within) in
    let inside : c.spaces_len.result < length r.text = omega (arith, c.spaces_len.ensures.fits, c.if-spaces_len-text.false) in
    let P : List Piece → Type 0 = λ more. AddsRecords c.args.file.now.algebra.now c.args.gathered.now more c.add_part.new.gathered in
    IfOk-weaker c.add_part.result _ _ (λ u adds. subst P (sym (one_record r (not_all_spaces r.text c.spaces_len.result c.spaces_len.ensures inside)))
    (adds c.args.file.now.algebra.now r (c.in_ok-part.ensures c.args.span.from r.text same c.finish_span-answer.ensures.answers))) c.add_part.ensures
