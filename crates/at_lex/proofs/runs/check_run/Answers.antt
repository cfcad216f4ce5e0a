use Rattle.std.proofs.Common.{sym, ◌∙◌, arith}
use Rattle.std.proofs.lemmas.Bool.{not-true, not-false}
use Rattle.at_lex.specs.Runs.{JsonRun, the_null, the_true, the_false}
use Rattle.at_lex.proofs.RunLemmas.{is_literal, is_number, whole_is_word, part_no_word, unfinished_no_word, letter_null, letter_true, letter_false}
use Rattle.at_lex.proofs.runs.check_run.Goals as goal
use Rattle.at_lex.proofs.runs.check_run.Goals.{then-not-taken-via-then-not-taken, then-not-taken-via-else-not-taken+then-taken-text}

pub returns-then-not-taken : goal.returns-then-not-taken
returns-then-not-taken c = (
  elim c.then-not-taken.branch [
    | then-not-taken-via-then-not-taken w ↦ unfinished_no_word JsonRun c.args.text.now c.take_run-taken.result c.take_run-taken.ensures (not-true _ w.if-not-taken.true)
    | then-not-taken-via-else-not-taken+then-taken-text w ↦ part_no_word JsonRun c.args.text.now c.take_run-taken.result c.take_run-taken.ensures w.if-taken-text.true
  ],
  c.take_run-taken.ensures.longest,
)

pub returns-in-Null : goal.returns-in-Null
returns-in-Null c = is_literal the_null c.args.text.now (c.in-Null.ensures ∙ sym letter_null) (whole_is_word JsonRun c.args.text.now c.take_run-taken.result c.take_run-taken.ensures (not-false _ c.if-not-taken.false) (omega arith))

pub returns-in-True : goal.returns-in-True
returns-in-True c = is_literal the_true c.args.text.now (c.in-True.ensures ∙ sym letter_true) (whole_is_word JsonRun c.args.text.now c.take_run-taken.result c.take_run-taken.ensures (not-false _ c.if-not-taken.false) (omega arith))

pub returns-in-False : goal.returns-in-False
returns-in-False c = is_literal the_false c.args.text.now (c.in-False.ensures ∙ sym letter_false) (whole_is_word JsonRun c.args.text.now c.take_run-taken.result c.take_run-taken.ensures (not-false _ c.if-not-taken.false) (omega arith))

pub returns-in-Other : goal.returns-in-Other
returns-in-Other c = is_number c.args.text.now (record { no_n = c.in-Other.ensures.0; no_t = c.in-Other.ensures.1; no_f = c.in-Other.ensures.2 })
    (whole_is_word JsonRun c.args.text.now c.take_run-taken.result c.take_run-taken.ensures (not-false _ c.if-not-taken.false) (omega arith))
