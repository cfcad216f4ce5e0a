use Rattle.std.proofs.Common.{◌∙◌, sym, subst}
use Rattle.at_scan.specs.declared.places.NamePlace.{NamePlace}
use Rattle.at_scan.specs.Members.{AddsName}
use Rattle.at_scan.proofs.OtherNamesMore.{cut_known, cut_plain, other_adds}
use Rattle.at_scan.proofs.members.add_name.Goals as goal

pub knows-requires-clause-names : goal.knows-requires-clause-names
knows-requires-clause-names c = cut_plain c.args.text.now c.args.others.now c.cut.new.self c.requires.names c.cut.ensures

pub push-requires-clause-known : goal.push-requires-clause-known
push-requires-clause-known c = cut_known c.args.text.now c.args.others.now c.cut.new.self c.requires.names c.cut.ensures

pub returns-clause-adds : goal.returns-clause-adds
returns-clause-adds c = subst (λ (n : NamePlace). AddsName c.args.text.now n c.args.others.now c.push.new.self) c.other_name-other.ensures.place
    (other_adds c.args.text.now c.args.others.now c.cut.new.self c.push.new.self c.other_name-other.result c.requires.names c.cut.ensures c.other_name-other.ensures.name (sym c.knows.ensures ∙ c.if-knows.false) c.in_ok-push.ensures)
