-- What a sink in memory holds, and what its puts keep.
use Rattle.std.specs.Prelude.{◌⊎◌, ℕ, ◌-◌, ◌<◌, min, List, length, vec_len, IsSome, unwrap_or}
use Rattle.at_io.specs.declared.mem_sink.PutFail.{PutFail}
use Rattle.at_io.specs.PutFails.{limit_at}
use Rattle.at_io.specs.declared.mem_sink.MemSink.{MemSink}

abbrev pub written_of : MemSink → List ℕ
written_of s = s.bytes.items

-- the limits of the puts that fail
abbrev pub failing_puts : MemSink → List PutFail
failing_puts s = s.fails.items

-- how many bytes can still be kept
abbrev pub room_left : MemSink → ℕ
room_left s = s.room - vec_len s.bytes

-- how many bytes of a piece the next put keeps: as many as there is room for, and at most its limit where it has one
abbrev pub kept_length : MemSink → List ℕ → ℕ
kept_length s piece = min (room_left s) (min (unwrap_or (limit_at (failing_puts s) s.puts) (length piece))
    (length piece))

-- the next put of the piece fails: its number is listed, or the piece is longer than the room that is left
abbrev pub PutFails : MemSink → List ℕ → Type 0
PutFails s piece = IsSome (limit_at (failing_puts s) s.puts) ⊎ (room_left s < length piece)

-- how many puts there were
abbrev pub puts_of : MemSink → ℕ
puts_of s = s.puts

-- how often it has failed
abbrev pub faults_of : MemSink → ℕ
faults_of s = s.faults
