use Rattle.std.proofs.Common.{sym, ◌∙◌, ap, subst}
use Rattle.at_query.specs.Readers.{Ends, Stops, Behind, OneTest, test_in, joint_of}
use Rattle.at_query.proofs.TestLists.{SoFar, joint_is, at_end, so_far_stops, so_far_more}
use Rattle.at_text.proofs.Exits.{exits}
use Rattle.at_query.proofs.query.reading.read_tests.Goals as goal

pub returns-in_err-read : goal.returns-in_err-read
returns-in_err-read c =
    let inv = c.loop-from.invariant in
    let word = joint_is c.loop-from.items.items inv.done c.joint.result.now inv.items_are (c.joint.ensures ∙ ap joint_of c.deref.ensures.value) in
    exits c.from_residual.result c.in_err-read.field-0.0 _ (Stops (Behind c.joint.result.now (OneTest c.args.rules.digits c.args.rules.how)) c.args.text.now c.loop-from.from) _ c.from_residual.ensures.1
    (λ n s. so_far_stops c.args.rules.digits c.args.rules.how c.args.text.now c.args.at c.loop-from.from c.loop-from.items.items c.loop-from.fault inv c.loop-from-test.true n
    (subst (λ z. Stops (Behind z (OneTest c.args.rules.digits c.args.rules.how)) c.args.text.now c.loop-from.from n) word s)) c.in_err-read.ensures

pub loop-from-preserved : goal.loop-from-preserved
loop-from-preserved c =
    let inv = c.loop-from.invariant in
    let read = c.in_ok-read.read in
    let word = joint_is c.loop-from.items.items inv.done c.joint.result.now inv.items_are (c.joint.ensures ∙ ap joint_of c.deref.ensures.value) in
    let stands = subst (λ z. Ends (Behind z (OneTest c.args.rules.digits c.args.rules.how)) c.args.text.now c.loop-from.from read.end (test_in read)) word c.in_ok-read.ensures.1 in
    let more = so_far_more c.args.rules.digits c.args.rules.how c.args.text.now c.args.at c.loop-from.from c.loop-from.items.items c.loop-from.fault inv c.loop-from-test.true read c.least-fault.result c.least-fault.ensures stands in
    subst (λ z. SoFar c.args.rules.digits c.args.rules.how c.args.text.now c.args.at read.end z c.least-fault.result) (sym c.in_ok-push.ensures.items) more

pub returns : goal.returns
returns c = at_end c.args.rules.digits c.args.rules.how c.args.text.now c.args.at c.loop-from.from c.loop-from.items.items c.loop-from.fault c.loop-from.invariant c.loop-from-test.false
