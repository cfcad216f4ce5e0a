-- The bytes of the name are a string.
use Rattle.std.proofs.Common.{refl}
use Rattle.at_nest.proofs.Showing.{text_bytes}
use Rattle.at_nest.proofs.member_rows.named_member.Goals as goal

pub units-requires-clause-whole : goal.units-requires-clause-whole
units-requires-clause-whole g c = let (base, w, cs, part, at) = c.requires.name in (cs, at.0, text_bytes c.args.bytes.now base w c.args.member.name cs part at)

pub returns : goal.returns
returns g c = (refl, refl, λ base w cs part at. c.in_ok-units.ensures cs at.0 (text_bytes c.args.bytes.now base w c.args.member.name cs part at))
