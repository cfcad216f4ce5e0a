use Rattle.std.proofs.Common.{take, arith, sym, take-append-drop}
use Rattle.std.proofs.lemmas.List.{length-take-le}
use Rattle.at_lex.proofs.FrontLemmas.{suffix_is}
use Rattle.at_lex.proofs.Texts.{closes_end}
use Rattle.at_lex.proofs.ItemLemmas.{closes_lead}
use Rattle.at_lex.proofs.stream.Lexer.behind_text.Goals as goal

pub returns-in-Closed : goal.returns-in-Closed
returns-in-Closed c =
    let w = c.args.piece.now in let n = c.in-Closed.len in
    let (fits, closes) = c.in-Closed.ensures in
    let l = length-take-le n w fits in
    (take n w, rw suffix_is (sym (take-append-drop n w)), closes_lead c.args.start c.args.base _ (take n w) _ c.requires.in_text closes (omega (arith, l)), omega (arith, l), sym (closes_end c.args.start (take n w) closes))
