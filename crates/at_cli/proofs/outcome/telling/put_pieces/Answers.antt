use Rattle.std.proofs.Common.{◌∙◌, arith}
use Rattle.std.proofs.lemmas.Result.{err_from_is_err_and}
use Rattle.at_cli.proofs.Growth.{grows_to, prefix_to}
use Rattle.at_cli.proofs.outcome.telling.put_pieces.Goals as goal

pub returns-in_err-put-clause-kept : goal.returns-in_err-put-clause-kept
returns-in_err-put-clause-kept g c =
    let o = g.O.Sink in
    let exit = err_from_is_err_and c.from_residual.result c.from_residual.ensures.1 in
    rw exit.1 (prefix_to c.args.text.now c.loop-at.at c.min-end.result (o.written c.args.out.now) (o.written c.loop-at.out) (o.written c.put.new.self)
    (omega arith) c.loop-at.invariant.grown c.in_err-put.ensures.kept)

pub loop-at-preserved : goal.loop-at-preserved
loop-at-preserved g c = let o = g.O.Sink in record {
  within = omega arith;
  grown = grows_to c.args.text.now c.loop-at.at c.min-end.result (o.written c.args.out.now) (o.written c.loop-at.out) (o.written c.put.new.self)
      (omega arith) c.loop-at.invariant.grown c.in_ok-put.ensures.ok;
  unfailed = c.in_ok-put.ensures.unfailed ∙ c.loop-at.invariant.unfailed;
  fresh = λ z. let bad : ⊥ = omega (arith, z) in elim bad [ ];
}
