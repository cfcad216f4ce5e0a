use Rattle.std.proofs.Common.{◌≡◌, List, ℕ, [], ◌∷◌, sym, subst}
use Rattle.at_lex.specs.declared.tokens.Start.TheVariants.{Out}
use Rattle.at_lex.proofs.ItemLemmas.{all_items}
use Rattle.bench_nest.specs.Values.{values_in}
use Rattle.bench_nest.proofs.tokens.count_tokens.Goals as goal

pub loop-token-preserved : goal.loop-token-preserved
loop-token-preserved c = λ ts pend end h.
    let (all, have, same) = c.loop-token.invariant (c.in-Whole.token ∷ ts) pend end (c.in-Whole.ensures.items ts pend end h) in
    let P : ℕ → Type 0 = λ n. values_in 0 all ≡ values_in n ts in
    (all, have, subst P (sym c.counted-count.ensures) same)

pub returns-in-End : goal.returns-in-End
returns-in-End c =
    let (all, have, same) = c.loop-token.invariant [] _ _ c.in-End.ensures.items in
    (_, all_items Out 0 c.args.bytes.now _ _ all _ _ c.new-lead.ensures.begun have, sym same)
