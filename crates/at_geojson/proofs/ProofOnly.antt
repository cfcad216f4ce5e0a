-- Lists and boxes that are there in the proof alone. For `value`.
use Rattle.std.proofs.Common.{◌<◌, ◌≤◌, Bool, true, false, List, length, refl, arith}
use Rattle.std.specs.Prelude.{◌^◌}
use Rattle.std.specs.declared.alloc.Global.{Global}
use Rattle.std.specs.declared.boxed.Box.{Box}
use Rattle.std.specs.declared.vec.Vec.{Vec}
use denote.RawPtr.{null_ptr}
use Rattle.at_query.specs.Keeping.{kept}

-- a list in memory that nothing makes
abbrev pub vec_of : {X : Type 0} → Global → (xs : List X) → length xs < 2 ^ 63 → Vec X Global
vec_of alloc xs few = record { ptr = null_ptr; len = length xs; cap = length xs; alloc = alloc; items = xs; ok = (refl, omega arith); small = few }

-- a box of this value
abbrev pub boxed : {X : Type 0} → Global → X → Box X Global
boxed alloc x = record { ptr = null_ptr; alloc = alloc; value = x }

pub kept_length : {X : Type 0} (needs : Bool) (xs : List X) → length (kept needs xs) ≤ length xs
kept_length true xs = omega arith
kept_length false xs = omega arith
