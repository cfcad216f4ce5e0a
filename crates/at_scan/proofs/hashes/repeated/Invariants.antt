use Rattle.std.proofs.Common.{◌-◌, ◌≤◌, ℕ, take, get_or, All, Contains}
use Rattle.std.specs.List.Sorted.{IsNonDecreasing}
use Rattle.at_scan.specs.Hashes.{times}
use Rattle.at_scan.proofs.hashes.repeated.Given as goal

abbrev pub invariant-loop-index : goal.invariant-loop-index
invariant-loop-index l = record {
  rise : IsNonDecreasing l.found.items;
  most : All (λ n. n ≤ get_or l.numbers (l.index - 1) 0) l.found.items;
  all : (n : ℕ) → 2 ≤ times n (take l.index l.numbers) → Contains l.found.items n;
}
