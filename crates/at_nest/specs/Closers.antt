-- Closing brackets whose two kinds take turns, one right behind another.
use Rattle.std.specs.Prelude.{◌≡◌, ℕ, ◌+◌, ◌-◌, zero, suc}
use Rattle.at_lex.specs.declared.tokens.Bracket.{Bracket}
use Rattle.at_nest.specs.declared.pieces.Closers.{Closers}

-- of two kinds that take turns, the one behind so many
abbrev pub turn : Bracket → Bracket → ℕ → Bracket
turn b c zero = b
turn b c (suc n) = turn c b n

-- the kinds that take turns go on doing so in the brackets behind
abbrev pub TakeTurns : Closers → Closers → Type 0
TakeTurns q p = (p.first ≡ turn q.first q.second (p.from - q.from))
    × (¬ (p.from ≡ p.last) → p.second ≡ turn q.first q.second (p.from - 1 - q.from))

-- the brackets, and those behind them, which stand right behind them and go on taking turns
abbrev pub IsLonger : Closers → Closers → Closers → Type 0
IsLonger q p r = (r.first ≡ q.first) × (¬ (q.from ≡ q.last) → r.second ≡ q.second) × (r.from ≡ q.from)
    × (r.last ≡ p.last) × (p.from ≡ q.last + 1) × TakeTurns r p
