use Rattle.std.proofs.Common.{◌≡◌, drop}
use Rattle.at_scan.specs.Members.{name_in, is_named_among}
use Rattle.at_scan.proofs.members.is_among.Given as goal

abbrev pub invariant-loop-other : goal.invariant-loop-other
invariant-loop-other l = is_named_among l.text (drop l.other-index l.names) (name_in l.text l.name.place) ≡ is_named_among l.text l.names (name_in l.text l.name.place)
