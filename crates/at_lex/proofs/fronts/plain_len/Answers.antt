use Rattle.at_lex.specs.Strings.{is_plain}
use Rattle.at_lex.proofs.FrontLemmas.{front_join}
use Rattle.at_lex.proofs.fronts.plain_len.Goals as goal

pub returns : goal.returns
returns c = front_join is_plain c.args.text.now c.loop-len.len c.near_plain_len.result c.loop-len.invariant.fits c.loop-len.invariant.passes c.near_plain_len.ensures
