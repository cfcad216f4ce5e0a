use Rattle.std.proofs.Common.{rules, ◌≡◌, ◌≤◌, length, refl, arith}
use Rattle.at_scan.proofs.OtherNamesMore.{cut_far}
use Rattle.at_scan.proofs.members.OtherNames.shorten.Goals as goal

pub returns-else-self : goal.returns-else-self
returns-else-self c =
    let len : length c.args.self.now.near ≡ 8 = search rules in
    let less : c.args.self.now.placed ≤ c.args.self.now.count = omega (arith, c.if-self.false) in
    cut_far c.args.self.now _ len c.requires less refl refl refl c.truncate-else-self.ensures.items
