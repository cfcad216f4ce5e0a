-- Which puts of a sink in memory fail, and what they keep.
use Rattle.std.specs.Prelude.{ℕ, ◌==◌, if◌then◌else◌, List, [], ◌∷◌, Option, Some, None}
use Rattle.at_io.specs.declared.mem_sink.PutFail.{PutFail}

-- how many bytes the put of that number may keep at most, where it is one that fails
abbrev pub limit_at : List PutFail → ℕ → Option ℕ
limit_at [] call = None
limit_at (f ∷ fs) call = if f.call == call then Some f.kept else limit_at fs call
