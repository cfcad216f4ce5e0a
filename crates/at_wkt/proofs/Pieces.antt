-- What is left of a file, for `run_lines`.
use Rattle.std.proofs.Common.{◌≡◌, ℕ, ◌-◌, List, length, take, drop, arith, length-drop, take_all}

-- what is left, as the code's slice shows it
pub left_is : (bytes : List ℕ) (at : ℕ) → take (length bytes - at) (drop at bytes) ≡ drop at bytes
left_is bytes at = take_all (length bytes - at) (drop at bytes) (omega (arith, length-drop at bytes))
