use Rattle.std.proofs.Common.{◌≡◌, bytes_eq, drop}
use Rattle.at_scan.proofs.spellings.are_units.Given as goal

abbrev pub invariant-loop-place : goal.invariant-loop-place
invariant-loop-place l = bytes_eq (drop l.place l.units) (drop l.place l.bytes) ≡ bytes_eq l.units l.bytes
