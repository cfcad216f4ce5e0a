-- How many values the tokens of a JSON text tell of: an opening bracket, a string and a run each begin one, but of the
-- strings those with a colon behind them are names.
use Rattle.std.specs.Prelude.{ℕ, ◌+◌, ◌-◌, ◌%◌, ◌^◌, List, [], ◌∷◌}
use Rattle.at_lex.specs.declared.tokens.Token.{Token}
use Rattle.at_lex.specs.declared.tokens.TokenKind.{TokenKind}
use Rattle.at_lex.specs.declared.tokens.TokenKind.TheVariants.{Opens, Closes, Comma, Colon, Text, Run, Broken}

-- the count behind one token more: one more, one less, or the same, in 64 bits
abbrev pub counted_behind : ℕ → TokenKind → ℕ
counted_behind n (Opens b) = (n + 1) % 2 ^ 64
counted_behind n (Closes b) = n
counted_behind n Comma = n
counted_behind n Colon = (n + (2 ^ 64 - 1)) % 2 ^ 64
counted_behind n Text = (n + 1) % 2 ^ 64
counted_behind n Run = (n + 1) % 2 ^ 64
counted_behind n (Broken at) = n

-- the count behind all tokens
abbrev pub values_in : ℕ → List Token → ℕ
values_in n [] = n
values_in n (t ∷ ts) = values_in (counted_behind n t.kind) ts
