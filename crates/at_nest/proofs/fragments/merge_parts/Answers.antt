-- Both go on; what the first takes, the second doesn't want, or the bytes are read again.
use Rattle.at_lex.specs.declared.tokens.Start.TheVariants.{Out, InString}
use Rattle.at_nest.proofs.Behind.{out_goes, string_goes, escape_union, both_ends}
use Rattle.at_nest.proofs.fragments.merge_parts.Goals as goal

pub joined-requires-clause-held : goal.joined-requires-clause-held
joined-requires-clause-held g c κs within = let b = c.requires.beside in
    (Out, b.0, b.1, b.2, out_goes _ c.args.source.now.bytes.now b.0 b.1 b.2 c.args.left c.args.right c.end.result c.slot_from-for_out.result c.end.ensures c.slot_from-for_out.ensures b.3)

pub joined-requires-2-clause-held : goal.joined-requires-2-clause-held
joined-requires-2-clause-held g c κs within = let b = c.requires.beside in (
  InString,
  b.0,
  b.1,
  b.2,
  string_goes _ c.args.source.now.bytes.now b.0 b.1 b.2 c.args.left c.args.right c.joined.new.right c.slot_from-for_out.result c.end-2.result c.slot_behind-for_string.result c.end-2.ensures c.slot_behind-for_string.ensures b.3 c.in_ok-out.ensures.stays,
)

pub returns : goal.returns
returns g c = λ at w x b. record {
  from = b.1.from;
  to = both_ends _ c.args.source.now.bytes.now at w x c.args.left c.args.right b;
  out = c.in_ok-out.ensures.union Out at w x (out_goes _ c.args.source.now.bytes.now at w x c.args.left c.args.right c.end.result c.slot_from-for_out.result c.end.ensures c.slot_from-for_out.ensures b);
  string = c.in_ok-string.ensures.union InString at w x
      (string_goes _ c.args.source.now.bytes.now at w x c.args.left c.args.right c.joined.new.right c.slot_from-for_out.result c.end-2.result c.slot_behind-for_string.result c.end-2.ensures c.slot_behind-for_string.ensures b c.in_ok-out.ensures.stays);
  escape = escape_union c.args.left.escape w x b.1.escape;
}
