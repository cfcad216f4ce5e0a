use Rattle.std.proofs.Common.{sym, ◌∙◌}
use Rattle.at_text.proofs.Exits.{answers_by}
use Rattle.at_query.proofs.Parted.{when_ends, when_stops}
use Rattle.at_query.proofs.TestParts.{when_in, when_meets, when_has, test_stops}
use Rattle.at_query.proofs.query.filters.read_test.Goals as goal

pub returns-then-stands : goal.returns-then-stands
returns-then-stands c =
    let here = sym c.stands.ensures ∙ c.if-stands.true in
    let when = when_in c.args.rules.digits c.args.rules.how in
    answers_by c.read_in.result _ _ _ _ c.read_in.ensures (λ read h. when_ends when here h) (λ n h. when_stops when here h)

pub returns-then-stands-2 : goal.returns-then-stands-2
returns-then-stands-2 c =
    let here = sym c.stands-2.ensures ∙ c.if-stands-2.true in
    let when = when_meets c.args.rules.digits c.args.rules.how in
    answers_by c.read_meets.result _ _ _ _ c.read_meets.ensures (λ read h. when_ends when here h) (λ n h. when_stops when here h)

pub returns-then-stands-3 : goal.returns-then-stands-3
returns-then-stands-3 c =
    let here = sym c.stands-3.ensures ∙ c.if-stands-3.true in
    let when = when_has c.args.rules.digits c.args.rules.how in
    answers_by c.read_has.result _ _ _ _ c.read_has.ensures (λ read h. when_ends when here h) (λ n h. when_stops when here h)

pub returns : goal.returns
returns c = test_stops c.args.rules.digits c.args.rules.how c.args.text.now c.args.at c.requires.inside (sym c.stands.ensures ∙ c.if-stands.false) (sym c.stands-2.ensures ∙ c.if-stands-2.false) (sym c.stands-3.ensures ∙ c.if-stands-3.false)
