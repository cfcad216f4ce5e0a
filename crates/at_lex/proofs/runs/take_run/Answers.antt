use Rattle.std.proofs.Common.{sym, ◌∙◌}
use Rattle.at_lex.specs.Runs.{the_null, the_true, the_false}
use Rattle.at_lex.proofs.RunLemmas.{takes_literal, number_taken, letter_null, letter_true, letter_false}
use Rattle.at_lex.proofs.runs.take_run.Goals as goal

pub returns-in-Null : goal.returns-in-Null
returns-in-Null c = takes_literal the_null c.args.text.now c.take_literal.result (c.in-Null.ensures ∙ sym letter_null) c.take_literal.ensures.common c.take_literal.ensures.whole

pub returns-in-True : goal.returns-in-True
returns-in-True c = takes_literal the_true c.args.text.now c.take_literal-in-True.result (c.in-True.ensures ∙ sym letter_true) c.take_literal-in-True.ensures.common c.take_literal-in-True.ensures.whole

pub returns-in-False : goal.returns-in-False
returns-in-False c = takes_literal the_false c.args.text.now c.take_literal-in-False.result (c.in-False.ensures ∙ sym letter_false) c.take_literal-in-False.ensures.common c.take_literal-in-False.ensures.whole

pub returns-in-Other : goal.returns-in-Other
returns-in-Other c = number_taken c.args.text.now c.json_number.result (record { no_n = c.in-Other.ensures.0; no_t = c.in-Other.ensures.1; no_f = c.in-Other.ensures.2 }) c.json_number.ensures
