use Rattle.std.proofs.Common.{◌≡◌, take, fold}
use Rattle.at_scan.specs.Hashes.{hash_more}
use Rattle.at_scan.proofs.hashes.hash_of.Given as goal

abbrev pub invariant-loop-unit : goal.invariant-loop-unit
invariant-loop-unit l = l.hash ≡ fold hash_more 1 (take l.unit-index l.name)
