-- What the tokens of a piece push, by their kinds.
-- For `finish`, `finish_span`, `merge` and `run_block`.
use Rattle.std.proofs.Common.{◌≡◌, ℕ, Option, None, List, [], ◌∷◌, refl, sym, subst, ◌==◌, length, true, false, true≢false, arith, ◌≢◌, slice_index}
use Rattle.std.proofs.lemmas.Bool.{eqb-true}
use Rattle.at_lex.specs.Strings.{JsonString}
use Rattle.at_lex.specs.Runs.{JsonRun}
use Rattle.at_lex.specs.Spans.{IsKind, IsToken as IsLexed, begins_run}
use Rattle.at_lex.specs.declared.tokens.Bracket.{Bracket}
use Rattle.at_lex.specs.declared.tokens.Token.{Token}
use Rattle.at_lex.specs.declared.tokens.TokenKind.{TokenKind}
use Rattle.at_lex.specs.declared.tokens.TokenKind.TheVariants as kinds
use Rattle.at_nest.specs.declared.pieces.SpanStop.{SpanStop as CodeHalt}
use Rattle.at_nest.specs.Forms.{closes, mark, comma, colon}
use Rattle.at_nest.specs.Levels.{further, first_mode, push_mark}
use Rattle.at_nest.specs.Unions.{IsToken}
use Rattle.at_nest.specs.Shown.{Shown, show_as, opened_as, comma_added, colon_added}
use Rattle.at_nest.specs.KeptItems.{Content, IsPushedAs, Pushes}
use Rattle.at_nest.specs.Reading.{ReadsToken}
use Rattle.at_nest.proofs.Showing.{open_pushes, comma_pushes, colon_pushes}
use Rattle.at_nest.proofs.TokenReads.{mark_ends, close_ends, open_ends, one_mark, one_close, cut_is_run}

kind_is : (token : Token) (t after : List ℕ) (k : TokenKind) → token.kind ≡ k → IsLexed token.from t after token → IsKind token.from t after k
kind_is token t after k e h = subst (IsKind token.from t after) e h.2

pub text_of_lexed : (token : Token) (t : List ℕ) → token.kind ≡ kinds.Text → (after : List ℕ) × IsLexed token.from t after token → JsonString t
text_of_lexed token t e (after, h) = (kind_is token t after kinds.Text e h).1

pub run_of_lexed : (token : Token) (t : List ℕ) → token.kind ≡ kinds.Run → (after : List ℕ) × IsLexed token.from t after token → JsonRun t
run_of_lexed token t e (after, h) = (kind_is token t after kinds.Run e h).1

module _ {X : Type 0} (IsKept : X → Content → Type 0) where
  pub lexed_open : (old new : Shown X) (b : Bracket) (t : List ℕ) (token : Token) → token.kind ≡ kinds.Opens b → new ≡ show_as old.outer (opened_as b token.from ∷ old.levels) → ReadsToken IsKept old new None t token
  lexed_open old new b t token e d base w f after h placed lexed =
      (further (record { outer = []; levels = record { bracket = b; from = token.from; inside = []; mode = first_mode b } ∷ [] }), open_ends token.from t after b (kind_is token t after (kinds.Opens b) e lexed), open_pushes IsKept base w old new b token.from f d h)

  pub lexed_close : (old new : Shown X) (r : Option CodeHalt) (b : Bracket) (t : List ℕ) (token : Token) → token.kind ≡ kinds.Closes b → Pushes IsKept old new r (closes b token.from) → ReadsToken IsKept old new r t token
  lexed_close old new r b t token e pushes base w f after h placed lexed =
      (further (record { outer = closes b token.from ∷ []; levels = [] }), close_ends token.from t after b (kind_is token t after (kinds.Closes b) e lexed), one_close IsKept base w new r f b token.from (pushes base w f h))

  pub lexed_comma : (old new : Shown X) (r : Option CodeHalt) (t : List ℕ) (token : Token) → token.kind ≡ kinds.Comma → (new, r) ≡ comma_added token.from old.outer old.levels → ReadsToken IsKept old new r t token
  lexed_comma old new r t token e d base w f after h placed lexed = (
    further (record { outer = mark (comma token.from) ∷ []; levels = [] }),
    mark_ends token.from t after (comma token.from) (refl, kind_is token t after kinds.Comma e lexed),
    one_mark IsKept base w new r f (comma token.from) (subst (λ a. IsPushedAs IsKept base w a.0 a.1 (push_mark f.outer f.levels (comma token.from))) (sym d) (comma_pushes IsKept base w old.outer old.levels f.outer f.levels token.from h.0 h.1)),
  )

  pub lexed_colon : (old new : Shown X) (r : Option CodeHalt) (t : List ℕ) (token : Token) → token.kind ≡ kinds.Colon → (new, r) ≡ colon_added token.from old.outer old.levels → ReadsToken IsKept old new r t token
  lexed_colon old new r t token e d base w f after h placed lexed = (
    further (record { outer = mark (colon token.from) ∷ []; levels = [] }),
    mark_ends token.from t after (colon token.from) (refl, kind_is token t after kinds.Colon e lexed),
    one_mark IsKept base w new r f (colon token.from) (subst (λ a. IsPushedAs IsKept base w a.0 a.1 (push_mark f.outer f.levels (colon token.from))) (sym d) (colon_pushes IsKept base w old.outer old.levels f.outer f.levels token.from h.0 h.1)),
  )

-- ---- the first byte of a token that was cut

pub empty_is : (t : List ℕ) → (length t == 0) ≡ true → t ≡ []
empty_is [] e = refl
empty_is (b ∷ t) e = let n : length (b ∷ t) ≡ 0 = eqb-true (length (b ∷ t)) 0 e in absurd (omega (arith, n))

pub other_is_run : (t : List ℕ) → (more : List ℕ) × IsToken t more → (length t == 0) ≡ false → slice_index t 0 ≢ 0x22 → begins_run t ≡ true
other_is_run [] (more, h) n e = absurd (true≢false n)
other_is_run (b ∷ t) (more, h) n e = cut_is_run (b ∷ t) more b t h refl e
