-- Each token goes on with what has been read, or stops the piece.
use Rattle.std.proofs.Common.{Option, None, Some, sym, ◌∙◌, subst, refl}
use Rattle.at_lex.specs.Spans.{IsToken as IsLexed}
use Rattle.at_nest.specs.declared.pieces.SpanStop.{SpanStop}
use Rattle.at_nest.specs.declared.variants.Variant.TheVariants.{Whole, Broken}
use Rattle.at_nest.specs.Shown.{Shown, shown}
use Rattle.at_nest.specs.Unions.{empty_form}
use Rattle.at_nest.specs.KeptItems.{IsAtomOf, IsShown}
use Rattle.at_nest.specs.Reading.{ReadsToken, ReadsAhead}
use Rattle.at_nest.specs.VariantMeanings.{HoldsBehind}
use Rattle.at_nest.proofs.Items.{consumed_none, consumed_on, consumed_stop, consumed_end, token_bytes, ahead_bytes, consumed_ahead, consumed_ahead_stop}
use Rattle.at_nest.proofs.Refusals.{consumed_refused}
use Rattle.at_nest.proofs.variants.read_items.Goals as goal

pub loop-token-init : goal.loop-token-init
loop-token-init g c =
    consumed_none (IsAtomOf g.A.Algebra c.args.source.now.algebra.now) c.args.base c.args.source.now.bytes.now (shown c.new-body.result) c.args.lexer
    (subst (λ (z : Shown g.row.A-Atom.Denot). IsShown (IsAtomOf g.A.Algebra c.args.source.now.algebra.now) c.args.base c.args.source.now.bytes.now z empty_form) (sym c.new-body.ensures) (refl, tt)) c.requires.out

pub read_token-requires-clause-token : goal.read_token-requires-clause-token
read_token-requires-clause-token g c κs within = let gives = c.in-Whole.ensures.gives in
    let bytes = token_bytes _ c.args.base c.args.source.now.bytes.now c.args.lexer.at c.args.lexer.rest (shown c.loop-token.body) c.loop-token.lexer c.next_item.new.self c.in-Whole.token c.requires.behind c.loop-token.invariant gives in
    (gives.2, subst (λ v. IsLexed c.in-Whole.token.from v gives.2 c.in-Whole.token) (sym (c.part-text.ensures ∙ bytes.0)) (subst (λ n. IsLexed n gives.1 gives.2 c.in-Whole.token) (sym gives.6.0) gives.6))

pub returns-in-Some-2 : goal.returns-in-Some-2
returns-in-Some-2 g c =
    let gives = c.in-Whole.ensures.gives in
    let bytes = token_bytes (IsAtomOf g.A.Algebra c.args.source.now.algebra.now) c.args.base c.args.source.now.bytes.now c.args.lexer.at c.args.lexer.rest (shown c.loop-token.body) c.loop-token.lexer c.next_item.new.self c.in-Whole.token c.requires.behind c.loop-token.invariant gives in
    consumed_stop (IsAtomOf g.A.Algebra c.args.source.now.algebra.now) c.args.base c.args.source.now.bytes.now c.args.lexer.at c.args.lead c.args.lexer.rest c.read_token.new.body (shown c.loop-token.body) c.loop-token.lexer c.next_item.new.self c.in-Whole.token c.in-Some-2.halt c.requires.behind c.loop-token.invariant gives
    (subst (λ v. ReadsToken (IsAtomOf g.A.Algebra c.args.source.now.algebra.now) (shown c.loop-token.body) (shown c.read_token.new.body) (Some c.in-Some-2.halt) v c.in-Whole.token) (c.part-text.ensures ∙ bytes.0)
    (subst (λ (z : Option SpanStop). ReadsToken (IsAtomOf g.A.Algebra c.args.source.now.algebra.now) (shown c.loop-token.body) (shown c.read_token.new.body) z c.part-text.result.now c.in-Whole.token) c.in-Some-2.is c.in_ok-read_token-in-Whole.ensures.reads))

pub loop-token-preserved : goal.loop-token-preserved
loop-token-preserved g c =
    let gives = c.in-Whole.ensures.gives in
    let bytes = token_bytes (IsAtomOf g.A.Algebra c.args.source.now.algebra.now) c.args.base c.args.source.now.bytes.now c.args.lexer.at c.args.lexer.rest (shown c.loop-token.body) c.loop-token.lexer c.next_item.new.self c.in-Whole.token c.requires.behind c.loop-token.invariant gives in
    consumed_on (IsAtomOf g.A.Algebra c.args.source.now.algebra.now) c.args.base c.args.source.now.bytes.now c.args.lexer.at c.args.lexer.rest (shown c.loop-token.body) (shown c.read_token.new.body) c.loop-token.lexer c.next_item.new.self c.in-Whole.token c.requires.behind c.loop-token.invariant gives
    (c.in_ok-read_token-in-Whole.ensures.whole c.in-None-2.is)
    (subst (λ v. ReadsToken (IsAtomOf g.A.Algebra c.args.source.now.algebra.now) (shown c.loop-token.body) (shown c.read_token.new.body) None v c.in-Whole.token) (c.part-text.ensures ∙ bytes.0)
    (subst (λ (z : Option SpanStop). ReadsToken (IsAtomOf g.A.Algebra c.args.source.now.algebra.now) (shown c.loop-token.body) (shown c.read_token.new.body) z c.part-text.result.now c.in-Whole.token) c.in-None-2.is c.in_ok-read_token-in-Whole.ensures.reads))

-- a token that has no place there
pub returns-then-refuses : goal.returns-then-refuses
returns-then-refuses g c =
    subst (λ z. HoldsBehind (IsAtomOf g.A.Algebra c.args.source.now.algebra.now) c.args.base c.args.source.now.bytes.now c.args.lexer.at c.args.lexer.rest c.args.lead (Broken c.args.lead c.loop-token.body z)) (sym c.first_byte-halt.ensures)
    (consumed_refused (IsAtomOf g.A.Algebra c.args.source.now.algebra.now) c.args.base c.args.source.now.bytes.now c.args.lexer.at c.args.lead c.args.lexer.rest c.loop-token.body c.loop-token.lexer c.next_item.new.self c.in-Whole.token c.loop-token.invariant c.in-Whole.ensures.gives (sym c.refuses.ensures ∙ c.if-refuses.true))

-- what is read from a bracket on
pub read_bracket-requires-clause-token : goal.read_bracket-requires-clause-token
read_bracket-requires-clause-token g c κs within =
    let gives = c.in-Whole.ensures.gives in
    let bytes = ahead_bytes (IsAtomOf g.A.Algebra c.args.source.now.algebra.now) c.args.base c.args.source.now.bytes.now c.args.lexer.at c.args.lexer.rest (shown c.loop-token.body) c.loop-token.lexer c.next_item.new.self c.in-Whole.token c.requires.behind c.loop-token.invariant gives in
    (gives.1, gives.2, c.from_place.ensures ∙ bytes.0, subst (λ n. IsLexed n gives.1 gives.2 c.in-Whole.token) (sym gives.6.0) gives.6)

pub returns-in-Some : goal.returns-in-Some
returns-in-Some g c =
    let gives = c.in-Whole.ensures.gives in
    let bytes = ahead_bytes (IsAtomOf g.A.Algebra c.args.source.now.algebra.now) c.args.base c.args.source.now.bytes.now c.args.lexer.at c.args.lexer.rest (shown c.loop-token.body) c.loop-token.lexer c.next_item.new.self c.in-Whole.token c.requires.behind c.loop-token.invariant gives in
    consumed_ahead_stop (IsAtomOf g.A.Algebra c.args.source.now.algebra.now) c.args.base c.args.source.now.bytes.now c.args.lexer.at c.args.lead c.args.lexer.rest c.read_bracket.new.body (shown c.loop-token.body) c.loop-token.lexer c.next_item.new.self c.in-Whole.token c.in-Some.halt c.in_ok-read-in-Whole.read.to c.loop-token.invariant gives
    (subst (λ v. ReadsAhead (IsAtomOf g.A.Algebra c.args.source.now.algebra.now) (shown c.loop-token.body) (shown c.read_bracket.new.body) (Some c.in-Some.halt) c.in-Whole.token.from v c.in_ok-read-in-Whole.read.to) (c.from_place.ensures ∙ bytes.0)
    (subst (λ (z : Option SpanStop). ReadsAhead (IsAtomOf g.A.Algebra c.args.source.now.algebra.now) (shown c.loop-token.body) (shown c.read_bracket.new.body) z c.in-Whole.token.from c.from_place.result.now c.in_ok-read-in-Whole.read.to) c.in-Some.is c.in_ok-read-in-Whole.ensures))

pub loop-token-preserved-then-is_bracket : goal.loop-token-preserved-then-is_bracket
loop-token-preserved-then-is_bracket g c =
    let gives = c.in-Whole.ensures.gives in
    let bytes = ahead_bytes (IsAtomOf g.A.Algebra c.args.source.now.algebra.now) c.args.base c.args.source.now.bytes.now c.args.lexer.at c.args.lexer.rest (shown c.loop-token.body) c.loop-token.lexer c.next_item.new.self c.in-Whole.token c.requires.behind c.loop-token.invariant gives in
    consumed_ahead (IsAtomOf g.A.Algebra c.args.source.now.algebra.now) c.args.base c.args.source.now.bytes.now c.args.lexer.at c.args.lexer.rest (shown c.loop-token.body) (shown c.read_bracket.new.body) c.loop-token.lexer c.next_item.new.self c.skip_to.new.self c.in-Whole.token c.in_ok-read-in-Whole.read.to c.loop-token.invariant (sym c.is_bracket.ensures ∙ c.if-is_bracket.true) gives
    (subst (λ v. ReadsAhead (IsAtomOf g.A.Algebra c.args.source.now.algebra.now) (shown c.loop-token.body) (shown c.read_bracket.new.body) None c.in-Whole.token.from v c.in_ok-read-in-Whole.read.to) (c.from_place.ensures ∙ bytes.0)
    (subst (λ (z : Option SpanStop). ReadsAhead (IsAtomOf g.A.Algebra c.args.source.now.algebra.now) (shown c.loop-token.body) (shown c.read_bracket.new.body) z c.in-Whole.token.from c.from_place.result.now c.in_ok-read-in-Whole.read.to) c.in-None.is c.in_ok-read-in-Whole.ensures))
    c.skip_to.ensures

pub returns-in-End : goal.returns-in-End
returns-in-End g c =
    subst (λ n. HoldsBehind (IsAtomOf g.A.Algebra c.args.source.now.algebra.now) c.args.base c.args.source.now.bytes.now c.args.lexer.at c.args.lexer.rest c.args.lead (Whole c.args.lead c.loop-token.body n c.in-End.end)) (sym c.pend_of.ensures)
    (consumed_end (IsAtomOf g.A.Algebra c.args.source.now.algebra.now) c.args.base c.args.source.now.bytes.now c.args.lexer.at c.args.lead c.args.lexer.rest c.loop-token.body c.loop-token.lexer c.next_item.new.self c.in-End.pend c.in-End.end c.requires.behind c.loop-token.invariant c.in-End.ensures.gives)
