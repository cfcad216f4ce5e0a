-- No names are kept at first.
use Rattle.at_scan_tests.proofs.tests.the_example_of_the_crate.Goals as goal

pub next_name-requires-clause-names : goal.next_name-requires-clause-names
next_name-requires-clause-names g c = c.none-others.ensures.plain _
