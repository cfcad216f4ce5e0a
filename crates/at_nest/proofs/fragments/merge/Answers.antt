-- What is kept of the two stands for the bytes of both.
use Rattle.std.proofs.Common.{sym, ◌∙◌, subst}
use Rattle.std.proofs.lemmas.Result.{IfOk-weaker}
use Rattle.at_text.specs.Spans.{span_of}
use Rattle.at_nest.specs.KeptItems.{OwnAtom}
use Rattle.at_nest.specs.FragmentMeanings.{HoldsParts}
use Rattle.at_nest.proofs.Behind.{parts_beside, part_joined}
use Rattle.at_nest.proofs.fragments.merge.Goals as goal

pub merge_parts-parts-requires-clause-beside : goal.merge_parts-parts-requires-clause-beside
merge_parts-parts-requires-clause-beside g c κs within = let (i, j, k, n) = c.requires.neighbours in
    (i, span_of c.args.bytes.now i j, span_of c.args.bytes.now j k, parts_beside _ c.args.bytes.now i j k c.args.left c.args.right c.in-Some-Some.left c.in-Some-Some.right (sym c.into_parts.ensures ∙ c.in-Some-Some.is-0) (sym c.into_parts-2.ensures ∙ c.in-Some-Some.is-1) n)

pub returns-in-Some-Some-clause-union : goal.returns-in-Some-Some-clause-union
returns-in-Some-Some-clause-union g c = let own = g.A.Algebra.is_own c.args.algebra.now in let fold = g.A.Algebra.is_fold c.args.algebra.now in let run = g.A.Algebra.is_run c.args.algebra.now in
    λ i j k n. let beside = parts_beside (OwnAtom own fold run) c.args.bytes.now i j k c.args.left c.args.right c.in-Some-Some.left c.in-Some-Some.right (sym c.into_parts.ensures ∙ c.in-Some-Some.is-0) (sym c.into_parts-2.ensures ∙ c.in-Some-Some.is-1) n in
    c.fragment_of.ensures i (span_of c.args.bytes.now i k)
    (IfOk-weaker c.merge_parts-parts.result _ _
    (λ p f. subst (λ z. HoldsParts (OwnAtom own fold run) i z p) (part_joined c.args.bytes.now i j k n.first n.second) (f i (span_of c.args.bytes.now i j) (span_of c.args.bytes.now j k) beside))
    c.merge_parts-parts.ensures)
