-- What a span is from one start state: all lead, or its lead with a form and what is pending, or its lead with a stop.
use Rattle.std.specs.Prelude.{◌≡◌, ℕ, ◌+◌, true, false, List, [], ◌∷◌, ◌++◌, length}
use Rattle.at_lex.specs.Spans.{begins_run, AreRun, ClosesText, StaysInText}
use Rattle.at_lex.specs.declared.tokens.Start.{Start}
use Rattle.at_lex.specs.declared.tokens.Start.TheVariants.{Out, InString, InEscape}
use Rattle.at_nest.specs.Borders.{ends_run, are_apart}
use Rattle.at_nest.specs.Forms.{Meaning}
use Rattle.at_nest.specs.Levels.{Form, SpanStop}
use Rattle.at_nest.specs.Stops.{IsForm, IsStop}

-- one variant of a fragment: a span that is all lead, or its lead with a form and what is pending, or its lead with a
-- stop
pub data Variant (X : Type 0) : Type 0 where
  all_lead : List ℕ → Variant X
  whole : List ℕ → Form X → List ℕ → Variant X
  broken : List ℕ → Form X → SpanStop → Variant X

-- the bytes are the beginning of a lead that doesn't end in them
abbrev pub IsAllLead : Start → List ℕ → Type 0
IsAllLead Out w = AreRun w
IsAllLead InString w = StaysInText InString w
IsAllLead InEscape w = StaysInText InEscape w

-- the bytes are a lead that ends before `more`
abbrev pub IsLeadEnd : Start → List ℕ → List ℕ → Type 0
IsLeadEnd Out u more = AreRun u × (begins_run more ≡ false) × (b : ℕ) × (o : List ℕ) × (more ≡ b ∷ o)
IsLeadEnd InString u more = ClosesText InString u
IsLeadEnd InEscape u more = ClosesText InEscape u

-- nothing, a run, or a string without its end
pub data IsPending : List ℕ → Type 0 where
  none_pending : {v : List ℕ} → v ≡ [] → IsPending v
  run_pending : {v : List ℕ} → AreRun v → begins_run v ≡ true → IsPending v
  text_pending : {v : List ℕ} (u : List ℕ) → v ≡ 0x22 ∷ u → StaysInText InString u → IsPending v

pub record IsWhole {X : Type 0} (m : Meaning X) (s : Start) (at : ℕ) (w u : List ℕ) (f : Form X) (v : List ℕ)
    : Type 0 where
  pub middle : List ℕ
  pub split : w ≡ u ++ (middle ++ v)
  pub lead : IsLeadEnd s u (middle ++ v)
  pub form : IsForm m (at + length u) middle f
  pub pending : IsPending v
  pub apart : are_apart middle v ≡ true
  pub ended : v ≡ [] → ends_run middle ≡ false

pub record IsBroken {X : Type 0} (m : Meaning X) (s : Start) (at : ℕ) (w u : List ℕ) (f : Form X) (h : SpanStop)
    : Type 0 where
  pub more : List ℕ
  pub split : w ≡ u ++ more
  pub lead : IsLeadEnd s u more
  pub stop : IsStop m (at + length u) more f h

abbrev pub IsVariant : {X : Type 0} → Meaning X → Start → ℕ → List ℕ → Variant X → Type 0
IsVariant m s at w (all_lead u) = (w ≡ u) × IsAllLead s w
IsVariant m s at w (whole u f v) = IsWhole m s at w u f v
IsVariant m s at w (broken u f h) = IsBroken m s at w u f h
