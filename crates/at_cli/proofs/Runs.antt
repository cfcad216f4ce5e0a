-- The end of a run is the outcome of what the words say, over the files.
-- For `top`.
use Rattle.std.proofs.Common.{◌≡◌, ◌≢◌, ◌≤◌, ◌↔◌, ◌⊎◌, ◌∙◌, sym, ap, Result, Err, ℕ, List, Option, Some, None, IfSome, inl, inr, refl, subst, arith}
use Rattle.at_io.specs.Files.{Files}
use Rattle.at_cli.specs.declared.outcome.ending.Ending.{Ending}
use Rattle.at_cli.specs.declared.words.line.Line.{Line}
use Rattle.at_cli.specs.LineOf.{SaysLine}
use Rattle.at_query.specs.declared.query.queries.Query.{Query}
use Rattle.at_query.specs.Queries.{IsQueryOf, HasQueryFault}
use Rattle.at_cli.specs.declared.outcome.ending.Ending.TheVariants.{Usage, QueryFault, Names, Faulty, ReadFailed, TooLarge, NoMemory, Answered}
use Rattle.at_cli.specs.declared.words.line.WordsEnd.{WordsEnd}
use Rattle.at_cli.specs.declared.words.line.WordsEnd.TheVariants.{Refused}
use Rattle.at_cli.specs.Outcomes.{Outcome, stopped, answered, has_right_count, HasCountedOutcome, HasLineOutcome, HasOutcome, SayNoLine, IsLineRefused, IsLineAccepted, AreRefused, AreAccepted}
use Rattle.at_cli.specs.Texts.{memory_line}
use Rattle.at_cli.specs.Endings.{status_of, text_of, line_of, outcome_by, Ends}

-- what holds over all files holds over these
pub ends_any : (Has : Files → Outcome → Type 0) (files : Option Files) (e : Ending) → ((told : Files) → Has told (outcome_by e)) → Ends Has files e
ends_any Has None e h = inr (inr tt)
ends_any Has (Some told) e h = inr (inr (h told))

-- the end over the line that the words say is that over the words
pub ends_said : (words : List (List ℕ)) (line : Line) (files : Option Files) (e : Ending) → SaysLine words line → Ends (HasLineOutcome line) files e → Ends (HasOutcome words) files e
ends_said words line files e says (inl three) = inl three
ends_said words line files e says (inr (inl five)) = inr (inl five)
ends_said words line None e says (inr (inr h)) = inr (inr tt)
ends_said words line (Some told) e says (inr (inr h)) = inr (inr (inr (line, says, h)))

-- the end over the line's query, whose names are counted, is that over the line
pub ends_asked : (line : Line) (query : Query) (files : Option Files) (e : Ending) → IsQueryOf line.digits line.how line.query query → Ends (HasCountedOutcome (has_right_count query.verb line.second) line query) files e
    → Ends (HasLineOutcome line) files e
ends_asked line query files e is (inl three) = inl three
ends_asked line query files e is (inr (inl five)) = inr (inl five)
ends_asked line query None e is (inr (inr h)) = inr (inr tt)
ends_asked line query (Some told) e is (inr (inr h)) = inr (inr (inr (query, is, h)))

-- a query that is of the line's text, as it was lent, is of the line's query
pub query_of_line : (line : Line) (query : Query) {text : List ℕ} → text ≡ line.query → IsQueryOf line.digits line.how text query → IsQueryOf line.digits line.how line.query query
query_of_line line query same is = subst (λ text. IsQueryOf line.digits line.how text query) same is

-- a query with a fault ends the run
pub ends_query : (line : Line) (files : Option Files) (text : List ℕ) (at : ℕ) → text ≡ line.query → HasQueryFault line.digits line.how text at → Ends (HasLineOutcome line) files (QueryFault at)
ends_query line files text at same h =
    let P : List ℕ → Type 0 = λ w. HasQueryFault line.digits line.how w at in
    ends_any (HasLineOutcome line) files (QueryFault at) (λ told. inl (at, subst P same h, refl))

-- ---- the words

-- words that are refused say no line
pub said_none : (words : List (List ℕ)) (read : Result Line WordsEnd) (end : WordsEnd) → ((read ≡ Err Refused) ↔ SayNoLine words) → read ≡ Err end → end ≡ Refused → SayNoLine words
said_none words read end exactly is refused = exactly.0 (is ∙ ap Err refused)

-- words that say one line are refused where the line is
pub refused_by_line : (words : List (List ℕ)) (line : Line) (refusal : List ℕ) → SaysLine words line → ((other : Line) → SaysLine words other → other ≡ line) → AreRefused words refusal → IsLineRefused line refusal
refused_by_line words line refusal says only (inl (none, e)) = absurd (none line says)
refused_by_line words line refusal says only (inr (other, also, h)) = let P : Line → Type 0 = λ l. IsLineRefused l refusal in subst P (only other also) h

-- ---- what is told of an end

outcome_answered : (e : Ending) → status_of e ≡ 0 → outcome_by e ≡ answered (text_of e)
outcome_answered (Answered text) h = refl
outcome_answered Usage h = absurd (omega (arith, h))
outcome_answered (QueryFault at) h = absurd (omega (arith, h))
outcome_answered Names h = absurd (omega (arith, h))
outcome_answered (Faulty name fault) h = absurd (omega (arith, h))
outcome_answered (ReadFailed name) h = absurd (omega (arith, h))
outcome_answered (TooLarge name) h = absurd (omega (arith, h))
outcome_answered NoMemory h = absurd (omega (arith, h))

outcome_stopped : (e : Ending) → status_of e ≢ 0 → outcome_by e ≡ stopped (status_of e) (line_of e)
outcome_stopped (Answered text) h = absurd (h refl)
outcome_stopped _ h = refl

ended : (Has : Files → Outcome → Type 0) (files : Option Files) (e : Ending) (outcome : Outcome) → status_of e ≢ 3 → status_of e ≢ 5 → outcome_by e ≡ outcome → Ends Has files e → IfSome files (λ told. Has told outcome)
ended Has files e outcome n3 n5 is (inl three) = absurd (n3 three)
ended Has files e outcome n3 n5 is (inr (inl five)) = absurd (n5 five)
ended Has None e outcome n3 n5 is (inr (inr h)) = tt
ended Has (Some told) e outcome n3 n5 is (inr (inr h)) = let P : Outcome → Type 0 = λ o. Has told o in subst P is h

module _ (Has : Files → Outcome → Type 0) (files : Option Files) (e : Ending) (status : ℕ) (ends : Ends Has files e) (tells : (status ≡ status_of e) ⊎ ((status ≡ 4) × (status_of e ≡ 0))) where
  answered_at_zero : status_of e ≡ 0 → IfSome files (λ told. Has told (answered (text_of e)))
  answered_at_zero zero = ended Has files e (answered (text_of e)) (λ h. absurd (omega (arith, zero, h))) (λ h. absurd (omega (arith, zero, h))) (outcome_answered e zero) ends

  pub told_answer : status ≡ 0 → IfSome files (λ told. Has told (answered (text_of e)))
  told_answer h = answered_at_zero (go tells) where
    go : (status ≡ status_of e) ⊎ ((status ≡ 4) × (status_of e ≡ 0)) → status_of e ≡ 0
    go (inl same) = omega (arith, h, same)
    go (inr (four, zero)) = zero

  pub told_prefix : status ≡ 4 → status_of e ≢ 4 → IfSome files (λ told. Has told (answered (text_of e)))
  told_prefix h never = answered_at_zero (go tells) where
    go : (status ≡ status_of e) ⊎ ((status ≡ 4) × (status_of e ≡ 0)) → status_of e ≡ 0
    go (inl same) = absurd (never (sym same ∙ h))
    go (inr (four, zero)) = zero

  pub told_line : (status ≡ 1) ⊎ (status ≡ 6) → IfSome files (λ told. Has told (stopped status (line_of e)))
  told_line h = go h tells where
    go : (status ≡ 1) ⊎ (status ≡ 6) → (status ≡ status_of e) ⊎ ((status ≡ 4) × (status_of e ≡ 0)) → IfSome files (λ told. Has told (stopped status (line_of e)))
    go (inl one) (inl same) = ended Has files e (stopped status (line_of e)) (λ z. omega (arith, one, same, z)) (λ z. omega (arith, one, same, z)) (outcome_stopped e (λ z. omega (arith, one, same, z)) ∙ ap (λ n. stopped n (line_of e)) (sym same)) ends
    go (inr six) (inl same) = ended Has files e (stopped status (line_of e)) (λ z. omega (arith, six, same, z)) (λ z. omega (arith, six, same, z)) (outcome_stopped e (λ z. omega (arith, six, same, z)) ∙ ap (λ n. stopped n (line_of e)) (sym same)) ends
    go (inl one) (inr (four, zero)) = absurd (omega (arith, one, four))
    go (inr six) (inr (four, zero)) = absurd (omega (arith, six, four))

never_four : (e : Ending) → status_of e ≢ 4
never_four (Answered text) h = omega (arith, h)
never_four Usage h = omega (arith, h)
never_four (QueryFault at) h = omega (arith, h)
never_four Names h = omega (arith, h)
never_four (Faulty name fault) h = omega (arith, h)
never_four (ReadFailed name) h = omega (arith, h)
never_four (TooLarge name) h = omega (arith, h)
never_four NoMemory h = omega (arith, h)

pub told_prefix_of : (Has : Files → Outcome → Type 0) (files : Option Files) (e : Ending) (status : ℕ) → Ends Has files e → (status ≡ status_of e) ⊎ ((status ≡ 4) × (status_of e ≡ 0)) → status ≡ 4
    → IfSome files (λ told. Has told (answered (text_of e)))
told_prefix_of Has files e status ends tells four = told_prefix Has files e status ends tells four (never_four e)

-- the status is that of what holds of the end, but for a failed shelf, a failed output and want of memory
pub told_complete : (Has : Files → Outcome → Type 0) (files : Option Files) (e : Ending) (status : ℕ) → Ends Has files e → (status ≡ status_of e) ⊎ ((status ≡ 4) × (status_of e ≡ 0))
    → (status ≡ 3) ⊎ ((status ≡ 4) ⊎ ((status ≡ 5) ⊎ IfSome files (λ told. (outcome : Outcome) × Has told outcome × (status ≡ outcome.status))))
told_complete Has files e status ends (inr (four, zero)) = inr (inl four)
told_complete Has files e status (inl three) (inl same) = inl (same ∙ three)
told_complete Has files e status (inr (inl five)) (inl same) = inr (inr (inl (same ∙ five)))
told_complete Has None e status (inr (inr h)) (inl same) = inr (inr (inr tt))
told_complete Has (Some told) e status (inr (inr h)) (inl same) = inr (inr (inr (outcome_by e, h, same)))

-- a line that is accepted makes what is asked of the shelf that of the words
pub asked_of : (words : List (List ℕ)) (line : Line) (Same : Type 0) (Asks : Line → Type 0) → SaysLine words line → Same ⊎ (IsLineAccepted line × Asks line)
    → Same ⊎ ((line : Line) × AreAccepted words line × Asks line)
asked_of words line Same Asks says (inl same) = inl same
asked_of words line Same Asks says (inr (accepted, asks)) = inr (line, (says, accepted), asks)

-- a status of a refusal is told as it is
pub told_refusal : (status own : ℕ) → (status ≡ own) ⊎ ((status ≡ 4) × (own ≡ 0)) → (own ≡ 2) ⊎ (own ≡ 5) → (status ≡ 2) ⊎ (status ≡ 5)
told_refusal status own (inl same) (inl two) = inl (same ∙ two)
told_refusal status own (inl same) (inr five) = inr (same ∙ five)
told_refusal status own (inr (four, zero)) (inl two) = absurd (omega (arith, zero, two))
told_refusal status own (inr (four, zero)) (inr five) = absurd (omega (arith, zero, five))

-- a line is told of each status but 0 and 4
pub is_no_answer : (status : ℕ) → (status ≡ 1) ⊎ (status ≡ 6) → (status ≢ 0) × (status ≢ 4)
is_no_answer status (inl one) = ((λ z. omega (arith, one, z)), (λ z. omega (arith, one, z)))
is_no_answer status (inr six) = ((λ z. omega (arith, six, z)), (λ z. omega (arith, six, z)))

-- a status but 4 is told of an end of that status alone, and an end of a status but 0 is told by its own
pub own_status : (status own n : ℕ) → (status ≡ own) ⊎ ((status ≡ 4) × (own ≡ 0)) → status ≡ n → n ≢ 4 → own ≡ n
own_status status own n (inl same) e other = sym same ∙ e
own_status status own n (inr (four, zero)) e other = absurd (other (sym e ∙ four))

pub as_told : (status own n : ℕ) → (status ≡ own) ⊎ ((status ≡ 4) × (own ≡ 0)) → own ≡ n → n ≢ 0 → status ≡ n
as_told status own n (inl same) e other = same ∙ e
as_told status own n (inr (four, zero)) e other = absurd (other (sym e ∙ zero))

-- 0 and 4 are told of an answer
pub answered_status : (e : Ending) (status : ℕ) → (status ≡ status_of e) ⊎ ((status ≡ 4) × (status_of e ≡ 0)) → (status ≡ 0) ⊎ (status ≡ 4) → status_of e ≡ 0
answered_status e status (inr (four, zero)) h = zero
answered_status e status (inl same) (inl zero) = sym same ∙ zero
answered_status e status (inl same) (inr four) = absurd (never_four e (sym same ∙ four))

status_small : (e : Ending) → status_of e ≤ 6
status_small (Answered text) = omega arith
status_small Usage = omega arith
status_small (QueryFault at) = omega arith
status_small Names = omega arith
status_small (Faulty name fault) = omega arith
status_small (ReadFailed name) = omega arith
status_small (TooLarge name) = omega arith
status_small NoMemory = omega arith

pub told_small : (e : Ending) (status : ℕ) → (status ≡ status_of e) ⊎ ((status ≡ 4) × (status_of e ≡ 0)) → status ≤ 6
told_small e status (inl same) = let small = status_small e in omega (arith, same, small)
told_small e status (inr (four, zero)) = omega (arith, four)

pub line_of_memory : (e : Ending) → status_of e ≡ 5 → line_of e ≡ memory_line
line_of_memory (Answered text) h = absurd (omega (arith, h))
line_of_memory Usage h = absurd (omega (arith, h))
line_of_memory (QueryFault at) h = absurd (omega (arith, h))
line_of_memory Names h = absurd (omega (arith, h))
line_of_memory (Faulty name fault) h = absurd (omega (arith, h))
line_of_memory (ReadFailed name) h = absurd (omega (arith, h))
line_of_memory (TooLarge name) h = absurd (omega (arith, h))
line_of_memory NoMemory h = refl

-- ---- what words say keeps the limits
