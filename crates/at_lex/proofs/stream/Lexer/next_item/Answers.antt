use Rattle.std.proofs.Common.{◌≡◌, ℕ, ◌+◌, ◌-◌, List, drop, sym, ◌∙◌, ap, subst}
use Rattle.at_text.specs.Texts.{is_space}
use Rattle.at_lex.specs.declared.tokens.Start.{Start}
use Rattle.at_lex.specs.declared.tokens.Start.TheVariants.{Out}
use Rattle.at_lex.specs.declared.tokens.Item.{Item}
use Rattle.at_lex.specs.declared.tokens.Item.TheVariants.{Whole, End}
use Rattle.at_lex.specs.Spans.{left_behind}
use Rattle.at_lex.specs.Stream.{Left, IsFirstItem, GivesItem}
use Rattle.at_lex.proofs.FrontLemmas.{front_all, suffix_is}
use Rattle.at_lex.proofs.ItemLemmas.{gives_whole, gives_end, item_begins, out_left}
use Rattle.at_lex.proofs.Unique.{gives_one}
use Rattle.at_lex.proofs.stream.Lexer.next_item.Goals as goal

pub returns-in-Whole-clause-gives : goal.returns-in-Whole-clause-gives
returns-in-Whole-clause-gives c =
    let w = c.self.inside.rest.now in let n = c.space_len-spaces.result in let at = c.self.inside.at in let t = c.in-Whole.token in
    let old : Left = record { at = at; rest = w; state = c.self.inside.state } in
    let spaces = c.space_len-spaces.ensures in
    let P : List ℕ → Type 0 = λ v. IsFirstItem (at + n) v (Whole t) in
    let first : P (drop n w) = subst P (suffix_is w n) c.in-Whole.ensures in
    let out : c.self.inside.state ≡ Out = out_left c.self.inside.state w c.self.invariant.1 (sym c.is_empty.ensures ∙ c.if-is_empty.false) in
    let gives = gives_whole old n t out spaces.fits (front_all is_space w n spaces) first in
    let left : (l : List ℕ) (s : Start) → Left = λ l s. record { at = t.to; rest = l; state = s } in
    let same : left (left_behind t.kind (drop (t.to - at) w)) Out ≡ left c.behind-self-inside.result.now c.self.inside.state =
    ap (λ l. left l Out) (sym c.behind-self-inside.ensures) ∙ ap (λ (s : Start). left c.behind-self-inside.result.now s) (sym out) in
    let Q : Left → Type 0 = λ l. GivesItem old (Whole t) l in
    let R : Left → Type 0 = λ l. GivesItem l (Whole t) (left c.behind-self-inside.result.now c.self.inside.state) in
    subst R c.self.view_is (subst Q same gives)

pub returns-in_default-clause-gives : goal.returns-in_default-clause-gives
returns-in_default-clause-gives c =
    let w = c.self.inside.rest.now in let n = c.space_len-spaces.result in let at = c.self.inside.at in
    let pend = c.in_default.field-0 in let end = c.in_default.field-1 in
    let old : Left = record { at = at; rest = w; state = c.self.inside.state } in
    let spaces = c.space_len-spaces.ensures in
    let P : List ℕ → Type 0 = λ v. IsFirstItem (at + n) v (End pend end) in
    let first : P (drop n w) = subst P (suffix_is w n) c.in_default.ensures in
    let out : c.self.inside.state ≡ Out = out_left c.self.inside.state w c.self.invariant.1 (sym c.is_empty.ensures ∙ c.if-is_empty.false) in
    let gives = gives_end old n pend end spaces.fits (front_all is_space w n spaces) out first in
    let Q : Item → Type 0 = λ i. GivesItem old i old in
    let R : Left → Type 0 = λ l. GivesItem l c.first_item-item.result l in
    subst R c.self.view_is (subst Q (sym c.in_default.is) gives)

pub returns-in-Whole-clause-items : goal.returns-in-Whole-clause-items
returns-in-Whole-clause-items c =
    item_begins c.args.self.now (record { at = c.in-Whole.token.to; rest = c.behind-self-inside.result.now; state = c.self.inside.state }) (Whole c.in-Whole.token) (returns-in-Whole-clause-gives c)

pub returns-in_default-clause-items : goal.returns-in_default-clause-items
returns-in_default-clause-items c = item_begins c.args.self.now c.args.self.now c.first_item-item.result (returns-in_default-clause-gives c)

pub returns-in-Whole-clause-only : goal.returns-in-Whole-clause-only
returns-in-Whole-clause-only c = λ other others h.
    gives_one c.args.self.now other (Whole c.in-Whole.token) others (record { at = c.in-Whole.token.to; rest = c.behind-self-inside.result.now; state = c.self.inside.state }) h (returns-in-Whole-clause-gives c)

pub returns-in_default-clause-only : goal.returns-in_default-clause-only
returns-in_default-clause-only c = λ other others h. gives_one c.args.self.now other c.first_item-item.result others c.args.self.now h (returns-in_default-clause-gives c)
