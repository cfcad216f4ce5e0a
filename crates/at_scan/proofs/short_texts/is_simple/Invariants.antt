use Rattle.std.proofs.Common.{◌≡◌, drop}
use Rattle.std.specs.List.{list_all}
use Rattle.at_scan.specs.Places.{is_simple}
use Rattle.at_scan.proofs.short_texts.is_simple.Given as goal

abbrev pub invariant-loop-b : goal.invariant-loop-b
invariant-loop-b l = list_all is_simple (drop l.b-index l.text) ≡ list_all is_simple l.text
