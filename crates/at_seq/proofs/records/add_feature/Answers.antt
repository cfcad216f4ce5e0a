use Rattle.std.proofs.Common.{◌+◌, ◌-◌, Option, length, take, drop, IfSome, subst}
use Rattle.at_text.specs.Spans.{span_of}
use Rattle.at_geojson.specs.declared.root.FeatureFront.{FeatureFront}
use Rattle.at_geojson.specs.Wholes.{IsFeatureFront}
use Rattle.at_seq.proofs.FirstRecords.{the_record_has, feature_added}
use Rattle.at_seq.proofs.records.add_feature.Goals as goal

pub add_part-requires : goal.add_part-requires
add_part-requires c =
    let (before, own) = c.requires.own in
    let w = span_of c.args.file.now.bytes.now c.args.span.from c.args.span.to in
    let P : Option FeatureFront → Type 0 = λ z. IfSome z (IsFeatureFront c.args.file.now.algebra.now (c.args.span.from + c.spaces_len-first.result) (take (length w - c.spaces_len-first.result) (drop c.spaces_len-first.result w))) in (
      c.args.file.now.algebra.now,
      before,
      _,
      own,
      the_record_has c.args.file.now.algebra.now c.args.file.now.bytes.now c.args.span c.requires.order c.requires.within c.spaces_len-first.result c.in-Some.field-0 c.in-Some-separator_behind.end c.spaces_len-first.ensures
          (subst P c.in-Some.is c.in_ok-len.ensures) c.in-Some-separator_behind.ensures,
    )

pub returns : goal.returns
returns c =
    let w = span_of c.args.file.now.bytes.now c.args.span.from c.args.span.to in
    let P : Option FeatureFront → Type 0 = λ z. IfSome z (IsFeatureFront c.args.file.now.algebra.now (c.args.span.from + c.spaces_len-first.result) (take (length w - c.spaces_len-first.result) (drop c.spaces_len-first.result w))) in
    feature_added c.args.file.now.algebra.now c.args.file.now.bytes.now c.args.span c.requires.order c.requires.within c.spaces_len-first.result c.in-Some.field-0 c.in-Some-separator_behind.end c.spaces_len-first.ensures
    (subst P c.in-Some.is c.in_ok-len.ensures) c.in-Some-separator_behind.ensures c.args.gathered.now c.add_part.new.gathered c.in_ok-add_part.ensures
