use Rattle.std.proofs.Common.{◌≡◌, ◌-◌, true, take, drop, sym, subst}
use Rattle.std.specs.List.{list_all}
use Rattle.at_scan.specs.Places.{is_simple}
use Rattle.at_scan.proofs.SimpleTexts.{plain_name_is}
use Rattle.at_scan.proofs.members.short_name.Goals as goal

pub returns-clause-plain : goal.returns-clause-plain
returns-clause-plain c =
    let w = c.args.text.now in let n = c.in_ok-name.name in
    plain_name_is w c.args.at n c.in_ok-name.ensures.place
    (subst (λ k. list_all is_simple (take (n.end - k) (drop k w)) ≡ true) (sym c.in_ok-name.ensures.first)
    (subst (λ k. list_all is_simple (take (k - c.args.first) (drop c.args.first w)) ≡ true) (sym c.in_ok-name.ensures.end) c.requires.text.1))
