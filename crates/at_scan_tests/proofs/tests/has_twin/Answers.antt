-- The names that are kept are plain and differ, one name more and another one.
use Rattle.at_scan.proofs.OtherNamesMore.{next_plain}
use Rattle.at_scan_tests.proofs.tests.has_twin.Goals as goal

pub next_name-requires-clause-names : goal.next_name-requires-clause-names
next_name-requires-clause-names c = (c.none-names.ensures c.args.text.now).own

pub add_other-requires-clause-names : goal.add_other-requires-clause-names
add_other-requires-clause-names c =
    next_plain c.args.text.now c.none-names.result.own c.next_name.new.others c.in_ok-next_name.field-0 (c.none-names.ensures c.args.text.now).own c.in_ok-next_name.ensures.plain c.in_ok-next_name.ensures.next

pub next_name-requires-2-clause-names : goal.next_name-requires-2-clause-names
next_name-requires-2-clause-names c =
    let before = next_plain c.args.text.now c.none-names.result.own c.next_name.new.others c.in_ok-next_name.field-0 (c.none-names.ensures c.args.text.now).own c.in_ok-next_name.ensures.plain c.in_ok-next_name.ensures.next in
    c.in_ok-add_other.ensures.adds.plain before c.in_ok-name.ensures.plain
