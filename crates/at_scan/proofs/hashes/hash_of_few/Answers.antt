use Rattle.std.proofs.Common.{fold, ◌∙◌, ap, arith}
use Rattle.std.proofs.lemmas.List.{take_all}
use Rattle.at_scan.specs.Hashes.{name_hash, hash_more}
use Rattle.at_scan.proofs.hashes.hash_of_few.Goals as goal

pub returns : goal.returns
unfolding name_hash
returns c = c.loop-byte.invariant ∙ ap (fold hash_more 1) (take_all c.loop-byte.byte-index c.args.name.now (omega (arith, c.loop-byte-test.false)))
