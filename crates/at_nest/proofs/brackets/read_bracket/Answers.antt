-- From an opening bracket: the value or the items that the algebra read, or the bracket alone. From a closing one: as
-- many as stand there where no level is open, else the bracket alone.
use Rattle.std.proofs.Common.{◌<◌, ◌≤◌, length, arith, rules}
use Rattle.at_nest.specs.Shown.{shown}
use Rattle.at_nest.specs.KeptItems.{IsAtomOf}
use Rattle.at_nest.proofs.Ahead.{opens_ahead, opened_reads, whole_ahead, whole_fits, attempt_seen}
use Rattle.at_nest.proofs.SeveralAhead.{several_ahead, items_fit, items_seen, front_begins}
use Rattle.at_nest.proofs.ClosersAhead.{closes_ahead, closers_ahead, closing_ahead}
use Rattle.at_nest.proofs.brackets.read_bracket.Goals as goal

-- ---- an opening bracket alone

pub returns-then-seen-eq0 : goal.returns-then-seen-eq0
returns-then-seen-eq0 g c = opened_reads (IsAtomOf g.A.Algebra c.args.ahead.now.algebra.now) (shown c.args.body.now) (shown c.opened.new.body) c.in-Opens.bracket c.args.token.from c.args.ahead.now.bytes.now c.opened.result (opens_ahead c.args.ahead.now.bytes.now c.args.token c.in-Opens.bracket c.in-Opens.is c.requires.token) c.opened.ensures.read c.opened.ensures.body

pub returns-in_default-attempt : goal.returns-in_default-attempt
returns-in_default-attempt g c = opened_reads (IsAtomOf g.A.Algebra c.args.ahead.now.algebra.now) (shown c.args.body.now) (shown c.opened-in_default-attempt.new.body) c.in-Opens.bracket c.args.token.from c.args.ahead.now.bytes.now c.opened-in_default-attempt.result (opens_ahead c.args.ahead.now.bytes.now c.args.token c.in-Opens.bracket c.in-Opens.is c.requires.token) c.opened-in_default-attempt.ensures.read c.opened-in_default-attempt.ensures.body

pub returns-in_default-attempt-2 : goal.returns-in_default-attempt-2
returns-in_default-attempt-2 g c = opened_reads (IsAtomOf g.A.Algebra c.args.ahead.now.algebra.now) (shown c.args.body.now) (shown c.opened-in_default-attempt-2.new.body) c.in-Opens.bracket c.args.token.from c.args.ahead.now.bytes.now c.opened-in_default-attempt-2.result (opens_ahead c.args.ahead.now.bytes.now c.args.token c.in-Opens.bracket c.in-Opens.is c.requires.token) c.opened-in_default-attempt-2.ensures.read c.opened-in_default-attempt-2.ensures.body

-- ---- several items

pub items-requires-clause-begins : goal.items-requires-clause-begins
items-requires-clause-begins g c = let some : 0 < c.window-seen.result = search rules in front_begins c.window-seen.result c.in-Opens.bracket c.args.ahead.now.bytes.now some (opens_ahead c.args.ahead.now.bytes.now c.args.token c.in-Opens.bracket c.in-Opens.is c.requires.token)

pub overflow_add-result : goal.overflow_add-result
overflow_add-result g c = let own = g.A.Algebra.is_own c.args.ahead.now.algebra.now in let fold = g.A.Algebra.is_fold c.args.ahead.now.algebra.now in let run = g.A.Algebra.is_run c.args.ahead.now.algebra.now in
    let fits : c.in-Whole.len ≤ length c.args.ahead.now.bytes.now = items_fit own fold run c.args.token.from c.args.ahead.now.bytes.now c.in-Whole.len c.in-Whole.atom (items_seen own fold run c.args.token.from c.window-seen.result c.args.ahead.now.bytes.now c.in-Whole.len c.in-Whole.atom c.in_ok-attempt-in-Opens.attempt c.in-Whole.is c.in_ok-attempt-in-Opens.ensures) in
    omega (arith, fits, c.requires.fits)

pub returns-then-wants_items : goal.returns-then-wants_items
returns-then-wants_items g c = let own = g.A.Algebra.is_own c.args.ahead.now.algebra.now in let fold = g.A.Algebra.is_fold c.args.ahead.now.algebra.now in let run = g.A.Algebra.is_run c.args.ahead.now.algebra.now in
    several_ahead own fold run (shown c.args.body.now) (shown c.put_items.new.body) c.in_ok-halt-in-Opens.halt c.in-Opens.bracket c.args.token.from c.args.ahead.now.bytes.now c.in-Whole.len c.in-Whole.atom (opens_ahead c.args.ahead.now.bytes.now c.args.token c.in-Opens.bracket c.in-Opens.is c.requires.token)
    (items_seen own fold run c.args.token.from c.window-seen.result c.args.ahead.now.bytes.now c.in-Whole.len c.in-Whole.atom c.in_ok-attempt-in-Opens.attempt c.in-Whole.is c.in_ok-attempt-in-Opens.ensures) c.in_ok-halt-in-Opens.ensures

-- ---- a value

pub overflow_add-result-in-Opens : goal.overflow_add-result-in-Opens
overflow_add-result-in-Opens g c = let own = g.A.Algebra.is_own c.args.ahead.now.algebra.now in let fold = g.A.Algebra.is_fold c.args.ahead.now.algebra.now in
    let fits : c.in-Whole-attempt.len ≤ length c.args.ahead.now.bytes.now = whole_fits own fold c.args.token.from c.args.ahead.now.bytes.now c.in-Whole-attempt.len c.in-Whole-attempt.atom (attempt_seen own fold c.args.token.from c.window-seen.result c.args.ahead.now.bytes.now c.in-Whole-attempt.len c.in-Whole-attempt.atom c.in_ok-attempt-in-Opens-2.attempt c.in-Whole-attempt.is c.in_ok-attempt-in-Opens-2.ensures) in
    omega (arith, fits, c.requires.fits)

pub returns-in_ok-halt-in-Opens-2 : goal.returns-in_ok-halt-in-Opens-2
returns-in_ok-halt-in-Opens-2 g c = let own = g.A.Algebra.is_own c.args.ahead.now.algebra.now in let fold = g.A.Algebra.is_fold c.args.ahead.now.algebra.now in let run = g.A.Algebra.is_run c.args.ahead.now.algebra.now in
    whole_ahead own fold run (shown c.args.body.now) (shown c.read_value.new.body) c.in_ok-halt-in-Opens-2.halt c.in-Opens.bracket c.args.token.from c.args.ahead.now.bytes.now c.in-Whole-attempt.len c.in-Whole-attempt.atom (opens_ahead c.args.ahead.now.bytes.now c.args.token c.in-Opens.bracket c.in-Opens.is c.requires.token)
    (attempt_seen own fold c.args.token.from c.window-seen.result c.args.ahead.now.bytes.now c.in-Whole-attempt.len c.in-Whole-attempt.atom c.in_ok-attempt-in-Opens-2.attempt c.in-Whole-attempt.is c.in_ok-attempt-in-Opens-2.ensures) c.in_ok-halt-in-Opens-2.ensures

-- ---- closing brackets

pub returns-then-is_outside : goal.returns-then-is_outside
returns-then-is_outside g c = closers_ahead (IsAtomOf g.A.Algebra c.args.ahead.now.algebra.now) (shown c.args.body.now) (shown c.keep_closers.new.body) c.in_ok-halt-in-Closes.halt c.in-Closes.bracket c.args.token.from c.leading.result c.args.ahead.now.bytes.now c.of_kind.result (closes_ahead c.args.ahead.now.bytes.now c.args.token c.in-Closes.bracket c.in-Closes.is c.requires.token) c.leading.ensures.same c.of_kind.ensures c.in_ok-halt-in-Closes.ensures

pub returns-in_ok-halt-in-Closes-2 : goal.returns-in_ok-halt-in-Closes-2
returns-in_ok-halt-in-Closes-2 g c = closing_ahead (IsAtomOf g.A.Algebra c.args.ahead.now.algebra.now) (shown c.args.body.now) (shown c.close.new.body) c.in_ok-halt-in-Closes-2.halt c.in-Closes.bracket c.args.token.from c.args.ahead.now.bytes.now (closes_ahead c.args.ahead.now.bytes.now c.args.token c.in-Closes.bracket c.in-Closes.is c.requires.token) c.in_ok-halt-in-Closes-2.ensures
