-- Where files have an answer, the gate gave up none of their blocks, and no cell.
-- For `top`.
use Rattle.std.proofs.Common.{◌≡◌, ℕ, ◌+◌, ◌-◌, List, length, Option, Some, None, Result, Ok, Err, IfOk, sym, ◌∙◌, subst, arith}
use Rattle.std.proofs.lemmas.Option.{none-some}
use Rattle.at_query.specs.declared.answer.answers.Answer.{Answer}
use Rattle.at_text.specs.declared.refusals.Refusal.{Refusal}
use Rattle.at_text.specs.declared.refusals.Refusal.TheVariants.{Memory}
use Rattle.at_run.specs.declared.faults.JoinFault.{JoinFault}
use Rattle.at_blocks.specs.Places.{IsLeastCount}
use Rattle.at_blocks.specs.Blocks.{NoneGivenUp, SomeGivenUp}
use Rattle.at_cli.specs.declared.words.line.Line.{Line}
use Rattle.at_cli.specs.Gates.{PassesCells, PassesGate}

-- there is one place more than the least count of blocks that serves
abbrev IsCounted : ℕ → List ℕ → Type 0
IsCounted blocks places = (count : ℕ) × IsLeastCount blocks count × (length places ≡ count + 1)

pub gate_passed : (line : Line) (given_up places : List ℕ) (result : Result Answer Refusal) → IsCounted line.blocks places
    → (SomeGivenUp given_up 0 (length places - 1) → result ≡ Err Memory) → line.second ≡ None → IfOk result (λ _. PassesGate given_up line)
gate_passed line given_up places (Ok answer) (count, least, counted) f none =
    ((λ _. (count, least, λ n low high h. absurd (let e = f (n, low, omega (arith, counted, high), h) in cc))), subst (PassesCells given_up) (sym none) tt)
gate_passed line given_up places (Err end) is f none = tt

no_cell : (given_up : List ℕ) (second : Option (List ℕ)) → NoneGivenUp given_up 0 64 → PassesCells given_up second
no_cell given_up None h = tt
no_cell given_up (Some second) h = h

pub pair_passed : (line : Line) (given_up places : List ℕ) (result : Result Answer JoinFault) → IsCounted line.blocks places
    → IfOk result (λ _. NoneGivenUp given_up 0 (length places - 1)) → IfOk result (λ _. NoneGivenUp given_up 0 64) → IfOk result (λ _. PassesGate given_up line)
pair_passed line given_up places (Ok answer) (count, least, counted) blocks cells =
    ((λ _. (count, least, λ n low high h. blocks n low (omega (arith, counted, high)) h)), no_cell given_up line.second cells)
pair_passed line given_up places (Err end) is blocks cells = tt

-- what is read in chunks is cut into no blocks
chunks_passed : (line : Line) (given_up : List ℕ) (size : ℕ) → line.feed ≡ Some size → PassesCells given_up line.second → PassesGate given_up line
chunks_passed line given_up size fed cells = ((λ none. absurd (none-some size (sym none ∙ fed))), cells)

pub fed_passed : (line : Line) (given_up : List ℕ) (size : ℕ) → line.feed ≡ Some size → line.second ≡ None → PassesGate given_up line
fed_passed line given_up size fed none = chunks_passed line given_up size fed (subst (PassesCells given_up) (sym none) tt)

pub fed_pair_passed : (line : Line) (given_up : List ℕ) (size : ℕ) (result : Result Answer JoinFault) → line.feed ≡ Some size → IfOk result (λ _. NoneGivenUp given_up 0 64) → IfOk result (λ _. PassesGate given_up line)
fed_pair_passed line given_up size (Ok answer) fed cells = chunks_passed line given_up size fed (no_cell given_up line.second cells)
fed_pair_passed line given_up size (Err end) fed cells = tt
