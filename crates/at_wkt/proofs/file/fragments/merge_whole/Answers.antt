use Rattle.std.proofs.Common.{ap}
use Rattle.at_text.specs.declared.texts.Span.{Span}
use Rattle.at_wkt.proofs.LineMerges.{broken_has, lines_merged}
use Rattle.at_wkt.proofs.file.fragments.merge_whole.Goals as goal

pub fold_span-requires-clause-order : goal.fold_span-requires-clause-order
fold_span-requires-clause-order g c κs within = (broken_has (g.F.Fold.is_own c.args.fold.now) (g.F.Fold.is_fold c.args.fold.now) c.args.bytes.now c.requires.neighbours.0 c.requires.neighbours.1 c.requires.neighbours.2
    c.args.left c.args.right c.requires.neighbours.3 c.joined-broken.result (ap (λ (z : Span). z.from) c.joined-broken.ensures) (ap (λ (z : Span). z.to) c.joined-broken.ensures)).order

pub fold_span-requires-clause-within : goal.fold_span-requires-clause-within
fold_span-requires-clause-within g c κs within = (broken_has (g.F.Fold.is_own c.args.fold.now) (g.F.Fold.is_fold c.args.fold.now) c.args.bytes.now c.requires.neighbours.0 c.requires.neighbours.1 c.requires.neighbours.2
    c.args.left c.args.right c.requires.neighbours.3 c.joined-broken.result (ap (λ (z : Span). z.from) c.joined-broken.ensures) (ap (λ (z : Span). z.to) c.joined-broken.ensures)).within

pub fold_span-requires-clause-one : goal.fold_span-requires-clause-one
fold_span-requires-clause-one g c κs within = (broken_has (g.F.Fold.is_own c.args.fold.now) (g.F.Fold.is_fold c.args.fold.now) c.args.bytes.now c.requires.neighbours.0 c.requires.neighbours.1 c.requires.neighbours.2
    c.args.left c.args.right c.requires.neighbours.3 c.joined-broken.result (ap (λ (z : Span). z.from) c.joined-broken.ensures) (ap (λ (z : Span). z.to) c.joined-broken.ensures)).one

pub returns : goal.returns
returns g c i j k n = lines_merged (g.F.Fold.is_own c.args.fold.now) (g.F.Fold.is_fold c.args.fold.now) c.args.bytes.now i j k c.args.left c.args.right n
    c.joined-broken.result (ap (λ (z : Span). z.from) c.joined-broken.ensures) (ap (λ (z : Span). z.to) c.joined-broken.ensures)
    c.in_ok-added.added c.in_ok-part.part c.in_ok-part.ensures.own c.in_ok-added.ensures.fold c.in_ok-part.ensures.fold
