use Rattle.std.proofs.Common.{All, take, subst, arith}
use Rattle.std.proofs.lemmas.List.{take_all}
use Rattle.at_scan.specs.Members.{IsMarked}
use Rattle.at_scan.proofs.Marks.{still_marked, marked_next}
use Rattle.at_scan.proofs.members.mark_all.Goals as goal

pub loop-name-preserved : goal.loop-name-preserved
loop-name-preserved c =
    let old = c.loop-name.invariant in let new = c.mark.ensures in
    (new.len, marked_next c.mark.new.marks c.args.names.now c.loop-name.name-index _ (still_marked c.loop-name.marks c.mark.new.marks (take c.loop-name.name-index c.args.names.now) old.1 new.keeps) c.loop-name-test.true new.name, λ n had. new.keeps n (old.2 n had))

pub returns-clause-names : goal.returns-clause-names
returns-clause-names c = subst (All (IsMarked c.loop-name.marks)) (take_all c.loop-name.name-index c.args.names.now (omega (arith, c.loop-name-test.false))) c.loop-name.invariant.1
