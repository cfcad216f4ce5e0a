-- The tokens of a span of JSON as its bytes tell them, from each lexical state (RFC 8259 section 2). A file may be cut
-- at any byte.
use Rattle.std.specs.Prelude.{◌≡◌, ◌≢◌, ℕ, ◌+◌, ◌<◌, ◌==◌, not, ◌⊎◌, Bool, true, false, IsTrue, cond, if◌then◌else◌}
use Rattle.std.specs.Prelude.{List, [], ◌∷◌, ◌++◌, length, fold}
use Rattle.std.specs.Bool.{⊤}
use Rattle.std.specs.List.{AllByRecursion, list_any}
use Rattle.at_text.specs.Texts.{is_space, is_run}
use Rattle.at_text.specs.Prefix.{LongestViable}
use Rattle.at_lex.specs.Strings.{JsonString}
use Rattle.at_lex.specs.Runs.{JsonRun}
use Rattle.at_lex.specs.declared.tokens.Start.{Start}
use Rattle.at_lex.specs.declared.tokens.Start.TheVariants.{Out, InString, InEscape}
use Rattle.at_lex.specs.declared.tokens.Bracket.{Bracket}
use Rattle.at_lex.specs.declared.tokens.Bracket.TheVariants.{Brace, Square}
use Rattle.at_lex.specs.declared.tokens.TokenKind.{TokenKind}
use Rattle.at_lex.specs.declared.tokens.TokenKind.TheVariants.{Opens, Closes, Comma, Colon, Text, Run, Broken}
use Rattle.at_lex.specs.declared.tokens.Token.{Token}
use Rattle.at_lex.specs.declared.tokens.Lead.{Lead}
use Rattle.at_lex.specs.declared.tokens.Lead.TheVariants as leads
use Rattle.at_lex.specs.declared.tokens.Pend.{Pend}
use Rattle.at_lex.specs.declared.tokens.Pend.TheVariants as pends
use Rattle.at_lex.specs.declared.tokens.Lexed.{Lexed}

-- the lexical state after one byte more: a quote opens and closes a string, and in a string a backslash escapes the
-- next byte
abbrev pub after_byte : Start → ℕ → Start
after_byte Out b = cond (b == 0x22) InString Out
after_byte InString b = cond (b == 0x5C) InEscape (cond (b == 0x22) Out InString)
after_byte InEscape b = InString

-- the lexical state after the bytes
abbrev pub end_of : Start → List ℕ → Start
end_of s w = fold after_byte s w

-- the bytes are the rest of a string that is begun, up to its closing quote
abbrev pub ClosesText : Start → List ℕ → Type 0
ClosesText Out [] = ⊤
ClosesText Out (b ∷ w) = ⊥
ClosesText InString [] = ⊥
ClosesText InString (b ∷ w) = ClosesText (after_byte InString b) w
ClosesText InEscape [] = ⊥
ClosesText InEscape (b ∷ w) = ClosesText InString w

-- the bytes never leave the string that is begun
abbrev pub StaysInText : Start → List ℕ → Type 0
StaysInText Out w = ⊥
StaysInText InString [] = ⊤
StaysInText InString (b ∷ w) = StaysInText (after_byte InString b) w
StaysInText InEscape [] = ⊤
StaysInText InEscape (b ∷ w) = StaysInText InString w

-- any number of the four bytes of white space
abbrev pub AreSpaces : List ℕ → Type 0
AreSpaces w = AllByRecursion (λ b. IsTrue (is_space b)) w

-- any number of bytes of a run
abbrev pub AreRun : List ℕ → Type 0
AreRun w = AllByRecursion (λ b. IsTrue (is_run b)) w

-- the first byte is white space
abbrev pub begins_space : List ℕ → Bool
begins_space [] = false
begins_space (b ∷ w) = is_space b

-- the first byte is of a run
abbrev pub begins_run : List ℕ → Bool
begins_run [] = false
begins_run (b ∷ w) = is_run b

-- at least one byte, and each of a run
abbrev pub IsRun : List ℕ → Type 0
IsRun w = IsTrue (begins_run w) × AreRun w

-- the run v is as long as it can be, and its end is known: a byte that is of no run stands behind it
abbrev pub EndsRun : List ℕ → List ℕ → Type 0
EndsRun v after = IsRun v × (after ≢ []) × IsTrue (not (begins_run after))

-- from the opening quote up to the closing one
abbrev pub IsText : List ℕ → Type 0
IsText v = (u : List ℕ) × (v ≡ 0x22 ∷ u) × ClosesText InString u

-- the bytes are no word of the language, and their longest viable prefix has the length n
abbrev pub IsRefused : (List ℕ → Type 0) → List ℕ → ℕ → Type 0
IsRefused L v n = (¬ L v) × LongestViable L v n

abbrev pub opening : Bracket → ℕ
opening Brace = 0x7B
opening Square = 0x5B

abbrev pub closing : Bracket → ℕ
closing Brace = 0x7D
closing Square = 0x5D

-- the bytes v, the first of which stands at the offset `at`, are of this kind; the bytes `after` stand behind them in
-- the span
abbrev pub IsKind : ℕ → List ℕ → List ℕ → TokenKind → Type 0
IsKind at v after (Opens b) = v ≡ opening b ∷ []
IsKind at v after (Closes b) = v ≡ closing b ∷ []
IsKind at v after Comma = v ≡ 0x2C ∷ []
IsKind at v after Colon = v ≡ 0x3A ∷ []
IsKind at v after Text = IsText v × JsonString v
IsKind at v after Run = EndsRun v after × JsonRun v
IsKind at v after (Broken place) = (n : ℕ) × (place ≡ at + n) × ((IsText v × IsRefused JsonString v n × (n < length v))
    ⊎ (EndsRun v after × IsRefused JsonRun v n))

-- the bytes v are the token
abbrev pub IsToken : ℕ → List ℕ → List ℕ → Token → Type 0
IsToken at v after t = (t.from ≡ at) × (t.to ≡ at + length v) × IsKind at v after t.kind

abbrev pub is_broken : TokenKind → Bool
is_broken (Broken place) = true
is_broken _ = false

-- what is read behind a token: all that is left, and nothing behind a broken one
abbrev pub left_behind : TokenKind → List ℕ → List ℕ
left_behind kind after = if is_broken kind then [] else after

-- the bytes v, with which the span ends, are a token that may go on
abbrev pub IsPend : ℕ → List ℕ → Pend → Type 0
IsPend at v pends.Nothing = v ≡ []
IsPend at v (pends.Run i) = (i ≡ at) × IsRun v
IsPend at v (pends.Text i) = (i ≡ at) × (u : List ℕ) × (v ≡ 0x22 ∷ u) × StaysInText InString u

-- the bytes w, which stand at the offset `at` behind the lead, are these tokens with white space between them, up to
-- the first broken one, and then what may go on
abbrev pub AreTokens : ℕ → List ℕ → List Token → Pend → Type 0
AreTokens at w [] pend = (a v : List ℕ) × (w ≡ a ++ v) × AreSpaces a × IsPend (at + length a) v pend
AreTokens at w (t ∷ ts) pend = (a v r : List ℕ) × (w ≡ a ++ (v ++ r)) × AreSpaces a × IsToken (at + length a) v r t
    × AreTokens t.to (left_behind t.kind r) ts pend

-- the bytes u begin the span at `at` in the state s; `after` stand behind them
abbrev pub IsLead : Start → ℕ → List ℕ → Lead → List ℕ → Type 0
IsLead Out at u leads.Nothing after = (u ≡ []) × IsTrue (not (begins_run after))
IsLead Out at u (leads.RunEnds i) after = (i ≡ at + length u) × EndsRun u after
IsLead Out at u leads.AllRun after = IsRun u × (after ≡ [])
IsLead Out at u _ after = ⊥
IsLead s at u (leads.TextEnds i) after = (i ≡ at + length u) × ClosesText s u
IsLead s at u leads.AllText after = StaysInText s u × (after ≡ [])
IsLead s at u _ after = ⊥

-- the state behind the last byte, or outside text where a token is broken, since nothing is read behind it
abbrev pub end_behind : List Token → Start → Start
end_behind tokens end = if list_any (λ t. is_broken t.kind) tokens then Out else end

-- the items of the bytes w, which stand at `at`, from the state s
pub record HasItems (s : Start) (at : ℕ) (w : List ℕ) (lexed : Lexed) : Type 0 where
  pub first : List ℕ
  pub others : List ℕ
  pub split : w ≡ first ++ others
  pub lead : IsLead s at first lexed.lead others
  pub tokens : AreTokens (at + length first) others lexed.tokens lexed.pend
  pub end : lexed.end ≡ end_behind lexed.tokens (end_of s w)

-- whatever has the items of the bytes is this
abbrev pub IsOnlyLexed : Start → ℕ → List ℕ → Lexed → Type 0
IsOnlyLexed s at w lexed = (other : Lexed) → HasItems s at w other → other ≡ lexed
