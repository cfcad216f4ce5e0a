use Rattle.std.proofs.lemmas.Nat.Bits.{bit_at-zero}
use Rattle.std.proofs.Common.{ℕ, subst}
use Rattle.at_fixed.specs.Gaps.{IsFirstSet}
use Rattle.at_fixed.proofs.GapMasks.{cleared}
use Rattle.at_fixed.proofs.gaps.without_first.Goals as goal

pub returns-then-mask-eq0-clause-bits : goal.returns-then-mask-eq0-clause-bits
returns-then-mask-eq0-clause-bits c place first = let P : ℕ → Type 0 = λ n. IsFirstSet n 0 place in none_first place (subst P c.if-mask-eq0.true first) where
  none_first : {E : Type 0} (place : ℕ) → IsFirstSet 0 0 place → E
  none_first place first = absurd (cc (first.set, bit_at-zero place))

pub returns-else-mask-eq0-clause-bits : goal.returns-else-mask-eq0-clause-bits
returns-else-mask-eq0-clause-bits c = cleared c.args.mask
