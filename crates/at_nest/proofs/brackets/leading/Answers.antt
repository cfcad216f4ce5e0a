-- One more byte is the byte.
use Rattle.std.proofs.Common.{◌≡◌, ◌∙◌, ap, arith, refl, ◌+◌, suc, [], ◌∷◌, ◌++◌, get_or, take, replicate}
use Rattle.std.proofs.Math.Seq.{take-suc}
use Rattle.std.proofs.lemmas.List.{replicate-append-replicate}
use Rattle.at_nest.proofs.brackets.leading.Goals as goal

pub loop-count-init : goal.loop-count-init
loop-count-init c = (omega arith, refl)

pub loop-count-preserved : goal.loop-count-preserved
loop-count-preserved c = let n = c.loop-count.count in let bytes = c.args.bytes.now in let e : n + 1 ≡ suc n = omega arith in (
  omega (arith, c.loop-count-test.true),
  ap (λ k. take k bytes) e ∙ (take-suc bytes n 0 c.loop-count-test.true ∙ (ap (λ z. z ++ (get_or bytes n 0 ∷ [])) c.loop-count.invariant.1
      ∙ (ap (λ x. replicate n c.args.byte ++ (x ∷ [])) c.if-bytes-count.true ∙ replicate-append-replicate n 1 c.args.byte))),
)

pub returns-else-bytes-count-clause-same : goal.returns-else-bytes-count-clause-same
returns-else-bytes-count-clause-same c = c.loop-count.invariant.1

pub returns-after-loop-count-clause-fits : goal.returns-after-loop-count-clause-fits
returns-after-loop-count-clause-fits c = c.loop-count.invariant.0

pub returns-after-loop-count-clause-same : goal.returns-after-loop-count-clause-same
returns-after-loop-count-clause-same c = c.loop-count.invariant.1
