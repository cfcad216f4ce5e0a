-- What the reader of a string does at one byte, and at bytes that stand for themselves.
-- For `lex`, `next_item` and `take_text`.
use Rattle.std.proofs.Common.{rules, ◌≡◌, ◌≢◌, ℕ, ◌+◌, ◌-◌, ◌<◌, ◌≤◌, List, length, take, drop, slice_index, Some, None, ◌==◌, cond, false, sym, ◌∙◌, ap, arith, add-one, take-suc, length-drop, get_or-drop}
use Rattle.std.proofs.Math.Seq.{take-add}
use Rattle.std.proofs.lemmas.Bool.{ne_eqb}
use Rattle.at_text.proofs.Machine.{run, run_more}
use Rattle.at_lex.specs.Fronts.{IsFront}
use Rattle.at_lex.specs.Strings.{is_plain}
use Rattle.at_lex.specs.StringStates.{State, opening, inside, escaped, closed, step}
use Rattle.at_lex.proofs.JsonString as str
use Rattle.at_lex.proofs.FrontLemmas.{front_all, front_behind}
use Rattle.at_lex.proofs.Texts.{plain_run, run_on}

-- one byte more
pub goes_one : (w : List ℕ) (n : ℕ) (s t : State) → n < length w → run step opening (take n w) ≡ Some s → step s (slice_index w n) ≡ Some t → run step opening (take (n + 1) w) ≡ Some t
goes_one w n s t below e f = rw (add-one n, take-suc w n 0 below) (run_more str.machine opening s t (take n w) (slice_index w n) e f)

-- past bytes that stand for themselves
pub goes_plain : (w : List ℕ) (n k : ℕ) → run step opening (take n w) ≡ Some inside → IsFront is_plain (take (length w - n) (drop n w)) k → run step opening (take (n + k) w) ≡ Some inside
goes_plain w n k h l = search (rules, run, take-add, run_on, plain_run, front_all, front_behind)

pub within_plain : (w : List ℕ) (n k : ℕ) → n ≤ length w → IsFront is_plain (take (length w - n) (drop n w)) k → n + k ≤ length w
within_plain w n k fits front = let f = (front_behind is_plain w n k front).fits in omega (arith, f, length-drop n w, fits)

-- and the byte behind them, which is no quote and no backslash, stops the reader
pub stops_plain : (w : List ℕ) (n k : ℕ) → n ≤ length w → IsFront is_plain (take (length w - n) (drop n w)) k → n + k < length w
    → slice_index w (n + k) ≢ 0x22 → slice_index w (n + k) ≢ 0x5C → step inside (slice_index w (n + k)) ≡ None
stops_plain w n k fits front below quote slash =
    let b = slice_index w (n + k) in
    let loud : is_plain b ≡ false = ap is_plain (sym (get_or-drop n w k 0)) ∙ (front_behind is_plain w n k front).stops (omega (arith, length-drop n w, below)) in
    ap (λ c. cond c (Some closed) (cond (b == 0x5C) (Some escaped) (cond (is_plain b) (Some inside) None))) (ne_eqb b 0x22 quote)
    ∙ (ap (λ c. cond c (Some escaped) (cond (is_plain b) (Some inside) None)) (ne_eqb b 0x5C slash) ∙ ap (λ c. cond c (Some inside) None) loud)
