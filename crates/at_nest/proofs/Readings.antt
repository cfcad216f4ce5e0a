-- How a whole token is read, as the clauses of the readers of strings and runs tell it; and that each reading is right.
-- For `finish`, `finish_span`, `merge` and `run_block`.
use Rattle.std.proofs.Common.{◌≡◌, ℕ, List, [], ◌∷◌, ◌++◌, Some, None, true, sym, subst, ◌+◌, length}
use Rattle.at_text.specs.Prefix.{Viable}
use Rattle.at_text.specs.Texts.{is_run}
use Rattle.at_text.proofs.Machine.{run}
use Rattle.at_text.specs.Parts.{At}
use Rattle.at_lex.specs.Strings.{Character, SpellsString}
use Rattle.at_lex.specs.Runs.{JsonRun}
use Rattle.at_lex.specs.declared.tokens.Start.TheVariants.{InString}
use Rattle.at_lex.proofs.JsonString as str
use Rattle.at_nest.specs.Tree.{Tree, Spells}
use Rattle.at_lex.specs.Spans.{ClosesText}
use Rattle.at_nest.specs.Forms.{Meaning, fold_of, quoted, entry, mark, IsNoText}
use Rattle.at_nest.specs.Levels.{Pushed, further, stopped, plain_halt, in_text, in_run}
use Rattle.at_nest.proofs.Pushes.{IsForm, IsStop}
use Rattle.at_nest.proofs.Unions.{Ends}
use Rattle.at_nest.proofs.TokenStops.{empty_form, nothing_is, name_is, value_is}
use Rattle.at_nest.proofs.Strings.{string_token}
use Rattle.at_nest.proofs.Runs.{IsBehind, run_token, first_token}

pub data IsReading {X : Type 0} (m : Meaning X) : ℕ → List ℕ → List ℕ → Pushed X → Type 0 where
  nothing_read : {at : ℕ} {t more : List ℕ} → t ≡ [] → IsReading m at t more (further empty_form)
  string_read : {at : ℕ} {t more : List ℕ} (cs : List Character) → At at (SpellsString cs) at t → IsReading m at t more (further (record { outer = mark (quoted at cs) ∷ []; levels = [] }))
  value_read : {at : ℕ} {t more : List ℕ} (x : X) (y : Tree) → Spells at t y → IsNoText y → x ≡ fold_of m y → IsReading m at t more (further (record { outer = mark (entry at x) ∷ []; levels = [] }))
  string_stops : {at : ℕ} {t more : List ℕ} (v : List ℕ) (byte : ℕ) (o : List ℕ) (n : str.State) → t ≡ 0x22 ∷ (v ++ (byte ∷ o)) → ClosesText InString (v ++ (byte ∷ o)) → run str.step str.inside v ≡ Some n → str.step n byte ≡ None
      → IsReading m at t more (stopped empty_form (record { kind = in_text; item = at; place = at + length (0x22 ∷ v) }))
  run_stops : {at : ℕ} {t more : List ℕ} (b : ℕ) (v : List ℕ) (byte : ℕ) (o : List ℕ) → t ++ more ≡ (b ∷ v) ++ (byte ∷ o) → is_run b ≡ true → Viable JsonRun (b ∷ v) → IsBehind (b ∷ v) byte
      → IsReading m at t more (stopped empty_form (record { kind = in_run; item = at; place = at + length (b ∷ v) }))
  first_stops : {at : ℕ} {t more : List ℕ} (byte : ℕ) (o : List ℕ) → t ++ more ≡ byte ∷ o → is_run byte ≡ true → ¬ (Viable JsonRun (byte ∷ [])) → IsReading m at t more (stopped empty_form (plain_halt at))

-- each reading gives a form of the token, or a stop in it or at its end
pub reading_ends : {X : Type 0} (m : Meaning X) (at : ℕ) (t more : List ℕ) (p : Pushed X) → IsReading m at t more p → Ends m at t more p
reading_ends m at t more _ (nothing_read e) = subst (λ z. IsForm m at z empty_form) (sym e) (nothing_is m at)
reading_ends m at t more _ (string_read cs h) = name_is m at t cs h
reading_ends m at t more _ (value_read x y h n e) = value_is m at t x y h n e
reading_ends m at t more _ (string_stops v byte o n e h r s) =
    subst (λ z. IsStop m at (z ++ more) empty_form (record { kind = in_text; item = at; place = at + length (0x22 ∷ v) })) (sym e) (string_token m at v byte o more n h r s)
reading_ends m at t more _ (run_stops b v byte o e k h i) =
    subst (λ z. IsStop m at z empty_form (record { kind = in_run; item = at; place = at + length (b ∷ v) })) (sym e) (run_token m at b v byte o k h i)
reading_ends m at t more _ (first_stops byte o e k h) = subst (λ z. IsStop m at z empty_form (plain_halt at)) (sym e) (first_token m at byte o k h)
