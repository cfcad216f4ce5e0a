-- What is loaded, and the ends to which it may lead.
-- For `top`.
use Rattle.std.proofs.Common.{◌≡◌, ℕ, List, Some, Result, Ok, Err, IfOk, MatchResult, inl, inr, sym, subst}
use Rattle.std.specs.Prelude.{IsOk}
use Rattle.at_query.specs.declared.query.queries.Query.{Query}
use Rattle.at_query.specs.declared.answer.answers.Answer.{Answer}
use Rattle.at_text.specs.Refusals.{IfFound}
use Rattle.at_run.specs.Answers.{IsFileAnswer, IsJoinAnswer, IsJoinFault}
use Rattle.at_text.specs.declared.refusals.Refusal.{Refusal}
use Rattle.at_text.specs.declared.refusals.Refusal.TheVariants as faults
use Rattle.at_run.specs.declared.faults.JoinFault.{JoinFault}
use Rattle.at_run.specs.declared.faults.JoinFault.TheVariants as joins
use Rattle.at_cli.specs.declared.words.line.Line.{Line}
use Rattle.at_cli.specs.declared.outcome.ending.Ending.{Ending}
use Rattle.at_cli.specs.declared.outcome.loading.Loaded.{Loaded}
use Rattle.at_cli.specs.declared.outcome.loading.Loaded.TheVariants.{Ended, One, Two}
use Rattle.at_run.specs.Files.{HasFileFaultIn}
use Rattle.at_cli.specs.LineOf.{SaysLine, form_of}
use Rattle.at_cli.specs.Endings.{EndsBytes, EndsPair}
use Rattle.at_cli.specs.Gates.{PassesSaid}
use Rattle.at_cli.specs.Loading.{Leads, OnEnd, IfLoaded, IsEndOf, IsEndOfJoin, PassesLoaded}

-- ---- each end

pub on_end : (loaded : Loaded) (P : Ending → Type 0) (e : Ending) → OnEnd loaded P → Leads loaded e → P e
on_end (Ended end) P e h same = subst P (sym same) h
on_end _ P e h leads = h e leads

pub on_ends : (loaded : Loaded) (P Q : Ending → Type 0) → ((e : Ending) → P e → Q e) → OnEnd loaded P → OnEnd loaded Q
on_ends (Ended end) P Q f h = f end h
on_ends _ P Q f h = λ e leads. f e (h e leads)

pub if_loaded : (loaded : Loaded) (P Q : Line → Type 0) → ((line : Line) → P line → Q line) → IfLoaded loaded P → IfLoaded loaded Q
if_loaded (Ended end) P Q f h = tt
if_loaded (One file) P Q f h = f file.line h
if_loaded (Two files) P Q f h = f files.line h

-- what is true of all is true of each
pub on_all : (loaded : Loaded) (P : Ending → Type 0) → ((e : Ending) → P e) → OnEnd loaded P
on_all (Ended end) P f = f end
on_all _ P f = λ e leads. f e

pub on_both : (loaded : Loaded) (P Q : Ending → Type 0) → OnEnd loaded P → OnEnd loaded Q → OnEnd loaded (λ e. P e × Q e)
on_both (Ended end) P Q h k = (h, k)
on_both _ P Q h k = λ e leads. (h e leads, k e leads)

-- the gate that gave up nothing of what is loaded gave up nothing that the words ask for
pub passes_said : (words : List (List ℕ)) (given_up : List ℕ) (loaded : Loaded) → IfLoaded loaded (SaysLine words) → PassesLoaded given_up loaded → PassesSaid given_up words
passes_said words given_up (Ended end) says passes = absurd passes
passes_said words given_up (One file) says passes = (file.line, says, passes)
passes_said words given_up (Two files) says passes = (files.line, says, passes)

-- ---- the end that is made of an answer

pub ends_bytes : (line : Line) (query : Query) (bytes : List ℕ) (answer : Result Answer Refusal) (e : Ending)
    → MatchResult answer (IsFileAnswer (form_of line line.first) line.digits line.how query bytes) (λ end. IfFound end (λ fault. HasFileFaultIn (form_of line line.first) line.digits line.how bytes (Some fault)))
    → IsEndOf line answer e → EndsBytes line query bytes e
ends_bytes line query bytes (Ok answer) e h (inl five) = inl five
ends_bytes line query bytes (Ok answer) e h (inr is) = inr (inr (answer, h, is))
ends_bytes line query bytes (Err (faults.Found fault)) e h is = inr (inl (fault, h, is))
ends_bytes line query bytes (Err faults.Memory) e h five = inl five

pub ends_pair : (line : Line) (query : Query) (second a b : List ℕ) (answer : Result Answer JoinFault) (e : Ending) → line.second ≡ Some second
    → MatchResult answer (IsJoinAnswer (form_of line line.first) (form_of line second) line.digits line.how query a b) (IsJoinFault (form_of line line.first) (form_of line second) line.digits line.how a b)
    → IsEndOfJoin line answer e → EndsPair line query second a b e
ends_pair line query second a b (Ok answer) e there h (inl five) = inl five
ends_pair line query second a b (Ok answer) e there h (inr is) = inr (inr (inr (answer, h, is)))
ends_pair line query second a b (Err (joins.First fault)) e there h is = inr (inl (fault, h, is))
ends_pair line query second a b (Err (joins.Second fault)) e there h is = inr (inr (inl (fault, h, is second there)))
ends_pair line query second a b (Err joins.Memory) e there h five = inl five

-- where there is an answer, what is so wherever there is one is so
pub where_answered : {X F : Type 0} (answer : Result X F) (P : Type 0) → IsOk answer → IfOk answer (λ _. P) → P
where_answered (Ok answer) P there h = h
where_answered (Err end) P there h = absurd (let e = there in cc)
