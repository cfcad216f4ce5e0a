-- Where two pieces of text meet: whether a run goes on over the border (RFC 8259 section 2: literals and numbers are as
-- long as they can be).
use Rattle.std.specs.Prelude.{ℕ, not, ◌&&◌, Bool, false, List, [], ◌∷◌}
use Rattle.at_text.specs.Texts.{is_run}
use Rattle.at_lex.specs.Spans.{begins_run}

-- the last byte is of a run
abbrev pub ends_run : List ℕ → Bool
ends_run [] = false
ends_run (b ∷ []) = is_run b
ends_run (b ∷ (c ∷ w)) = ends_run (c ∷ w)

-- no run goes on over the border of the two
abbrev pub are_apart : List ℕ → List ℕ → Bool
are_apart v w = not (ends_run v && begins_run w)
