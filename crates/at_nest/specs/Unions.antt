-- A token between two spans, and two spans put together.
use Rattle.std.specs.Prelude.{◌≡◌, ℕ, true, false, List, [], ◌∷◌, ◌++◌}
use Rattle.at_lex.specs.Spans.{begins_run, AreRun, ClosesText}
use Rattle.at_lex.specs.declared.tokens.Start.TheVariants.{InString}
use Rattle.at_nest.specs.Forms.{Meaning}
use Rattle.at_nest.specs.Levels.{Form, pieces_of, Pushed, further, stopped, push_all, push_then}
use Rattle.at_nest.specs.Stops.{IsForm, IsStop}
use Rattle.at_nest.specs.Variants.{Variant, whole, broken}

abbrev pub merged : {X : Type 0} → Meaning X → Pushed X → Pushed X → Pushed X
merged m (stopped f i) right = stopped f i
merged m (further f) (further g) = push_all m (pieces_of g) f
merged m (further f) (stopped g i) = push_then (λ k. stopped k i) (push_all m (pieces_of g) f)

abbrev pub empty_form : {X : Type 0} → Form X
empty_form = record { outer = []; levels = [] }

-- a token that is whole: a run that ends before `more`, or a string; or nothing
pub data IsToken : List ℕ → List ℕ → Type 0 where
  no_token : {t more : List ℕ} → t ≡ [] → (b : ℕ) (o : List ℕ) → more ≡ b ∷ o → IsToken t more
  a_run : {t more : List ℕ} → AreRun t → begins_run t ≡ true → begins_run more ≡ false → (b : ℕ) (o : List ℕ)
      → more ≡ b ∷ o → IsToken t more
  a_text : {t more : List ℕ} (u : List ℕ) → t ≡ 0x22 ∷ u → ClosesText InString u → IsToken t more

-- a form of the bytes x, or a stop in them or in what is behind
abbrev pub Ends : {X : Type 0} → Meaning X → ℕ → List ℕ → List ℕ → Pushed X → Type 0
Ends m at x more (further k) = IsForm m at x k
Ends m at x more (stopped k h) = IsStop m at (x ++ more) k h

abbrev pub variant_of : {X : Type 0} → List ℕ → List ℕ → Pushed X → Variant X
variant_of u v (further k) = whole u k v
variant_of u v (stopped k h) = broken u k h
