use Rattle.std.proofs.Common.{◌≡◌, List, [], ◌∷◌, ◌++◌, sym, ◌∙◌, ap, subst, append_assoc, append-nil}
use Rattle.at_lex.specs.declared.tokens.Token.{Token}
use Rattle.at_lex.specs.Stream.{HasLeft}
use Rattle.at_lex.proofs.ItemLemmas.{all_items}
use Rattle.at_lex.proofs.Unique.{items_one}
use Rattle.at_lex.proofs.pieces.lex.Goals as goal

pub loop-token-preserved : goal.loop-token-preserved
loop-token-preserved c = λ ts pend end h.
    let items = c.loop-token.tokens.items in let t = c.in-Whole.token in
    let P : List Token → Type 0 = λ all. HasLeft c.new-lead.result.1 all pend end in
    let same : items ++ (t ∷ ts) ≡ c.push.new.self.items ++ ts = sym (append_assoc items (t ∷ []) ts) ∙ ap (λ all. all ++ ts) (sym c.in_ok-push-in-Whole.ensures.items) in
    subst P same (c.loop-token.invariant (t ∷ ts) pend end (c.in-Whole.ensures.items ts pend end h))

pub returns-in-End-clause-items : goal.returns-in-End-clause-items
returns-in-End-clause-items c =
    let items = c.loop-token.tokens.items in
    let P : List Token → Type 0 = λ all. HasLeft c.new-lead.result.1 all c.in-End.pend c.in-End.end in
    let same : items ++ [] ≡ c.from_vec.result = append-nil items ∙ sym c.from_vec.ensures in
    all_items c.args.start c.args.base c.args.piece.now c.new-lead.result.0 c.new-lead.result.1 c.from_vec.result c.in-End.pend c.in-End.end c.new-lead.ensures.begun
    (subst P same (c.loop-token.invariant [] c.in-End.pend c.in-End.end c.in-End.ensures.items))

pub returns-in-End-clause-only : goal.returns-in-End-clause-only
returns-in-End-clause-only c = λ other h. items_one c.args.start c.args.base c.args.piece.now other _ h (returns-in-End-clause-items c)
