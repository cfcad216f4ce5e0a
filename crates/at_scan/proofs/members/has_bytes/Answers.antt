-- The bytes are the same.
use Rattle.std.proofs.Common.{sym, ◌∙◌, arith}
use Rattle.std.specs.Cmp.Lexicographic.{same_text}
use Rattle.at_scan.proofs.KnownNames.{stands_of}
use Rattle.at_scan.proofs.members.has_bytes.Goals as goal

pub returns-then-eq : goal.returns-then-eq
returns-then-eq c e = stands_of c.args.text.now c.args.name c.args.first c.requires.name (omega (arith, c.requires.within, c.if-text-first.false)) (same_text _ _ (sym c.if-eq.true ∙ c.eq.ensures))
