use Rattle.std.proofs.Common.{◌≡◌, ℕ, ◌+◌, ◌-◌, ◌≤◌, ◌^◌, ◌++◌, List, IfSome, Some, vec_len}
use Rattle.at_io.proofs.whole.read_left.Given as goal

-- what was read and what is left make the file; the counts go with what was read, and all else stays
abbrev pub invariant-loop-bytes : goal.invariant-loop-bytes
invariant-loop-bytes g l = let s = g.S.Shelf in record {
  bytes : IfSome (s.left l.fn.shelf) (λ told. (rest : List ℕ) × (s.left l.shelf ≡ Some rest) × (told ≡ l.bytes.items ++ rest));
  size : vec_len l.bytes ≤ 2 ^ 28;
  taken : s.taken l.shelf ≡ s.taken l.fn.shelf + vec_len l.bytes;
  files : s.files l.shelf ≡ s.files l.fn.shelf;
  begins : s.begins l.shelf ≡ s.begins l.fn.shelf;
  named : s.named l.shelf ≡ s.named l.fn.shelf;
  broken : s.broken l.shelf ≡ s.broken l.fn.shelf;
  counted : s.faults l.fn.shelf ≤ s.faults l.shelf;
}

abbrev pub decreases-loop-bytes : goal.decreases-loop-bytes
decreases-loop-bytes g l = 2 ^ 28 - vec_len l.bytes
