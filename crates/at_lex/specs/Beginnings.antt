-- How a run begins: what the reader of runs finds on its way. No public clause cites it.
use Rattle.std.specs.Prelude.{◌≡◌, ◌≢◌, ℕ, ◌<◌, ◌≤◌, List, length, take, slice_index}
use Rattle.at_lex.specs.declared.runs.Beginning.{Beginning}
use Rattle.at_lex.specs.declared.runs.Beginning.TheVariants.{Null, True, False, Other}

-- which literal the first byte begins
abbrev pub IsBeginning : List ℕ → Beginning → Type 0
IsBeginning text Null = slice_index text 0 ≡ 0x6E
IsBeginning text True = slice_index text 0 ≡ 0x74
IsBeginning text False = slice_index text 0 ≡ 0x66
IsBeginning text Other = (slice_index text 0 ≢ 0x6E) × (slice_index text 0 ≢ 0x74) × (slice_index text 0 ≢ 0x66)

-- the first n bytes of both are the same, and there is no next byte in one of them, or the next ones differ
pub record IsCommon (text word : List ℕ) (n : ℕ) : Type 0 where
  pub fits : n ≤ length text
  pub within : n ≤ length word
  pub same : take n text ≡ take n word
  pub stops : n < length text → n < length word → slice_index text n ≢ slice_index word n
