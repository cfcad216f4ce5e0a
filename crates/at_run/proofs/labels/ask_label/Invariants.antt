use Rattle.std.proofs.Common.{◌≡◌, drop}
use Rattle.std.specs.List.{list_any}
use Rattle.at_run.specs.Labelling.{asks_label}
use Rattle.at_run.proofs.labels.ask_label.Given as goal

abbrev pub invariant-loop-test : goal.invariant-loop-test
invariant-loop-test l = list_any asks_label (drop l.test-index l.tests) ≡ list_any asks_label l.tests
