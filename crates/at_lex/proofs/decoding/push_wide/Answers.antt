use Rattle.std.proofs.Common.{List, ℕ, length, flat_map, sym, subst}
use Rattle.std.specs.Str.{chars}
use Rattle.std.specs.Char.Escape.{encode_utf16}
use Rattle.at_lex.specs.UnitSteps.{StepsOver}
use Rattle.at_lex.proofs.ShortFronts.{near_none, near_some}
use Rattle.at_lex.proofs.decoding.push_wide.Goals as goal

pub returns : goal.returns
returns c =
    let (cs, content) = c.requires.content in
    let (m, some, few, is, same) = c.in-Some.ensures in
    let w = c.args.text.now in let near = c.first_four-near.result.now in
    let P : List ℕ → Type 0 = λ v. StepsOver w (length v) (flat_map encode_utf16 (chars v)) in
    (_, subst P (sym same) (near_some cs w near content c.requires.some c.requires.plain c.first_four-near.ensures c.plain_len.result c.plain_len.ensures m some few is), c.in_ok-push_chars.ensures)

pub returns-in_default : goal.returns-in_default
returns-in_default c =
    let (cs, content) = c.requires.content in
    (_, near_none cs c.args.text.now c.first_four-near.result.now content c.requires.some c.requires.plain c.first_four-near.ensures c.plain_len.result c.plain_len.ensures c.in_default.ensures, c.in_ok-push.ensures)
