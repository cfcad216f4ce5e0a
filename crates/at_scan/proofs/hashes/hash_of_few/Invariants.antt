use Rattle.std.proofs.Common.{◌≡◌, take, fold}
use Rattle.at_scan.specs.Hashes.{hash_more}
use Rattle.at_scan.proofs.hashes.hash_of_few.Given as goal

abbrev pub invariant-loop-byte : goal.invariant-loop-byte
invariant-loop-byte l = l.hash ≡ fold hash_more 1 (take l.byte-index l.name)
