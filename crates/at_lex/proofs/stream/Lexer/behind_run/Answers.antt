use Rattle.std.proofs.Common.{ℕ, ◌+◌, List, take, drop, sym, subst}
use Rattle.at_lex.specs.declared.tokens.Lead.{Lead}
use Rattle.at_lex.specs.declared.tokens.Start.TheVariants.{Out}
use Rattle.at_lex.specs.Spans.{IsLead}
use Rattle.at_lex.specs.Stream.{IsBegun}
use Rattle.at_lex.proofs.FrontLemmas.{suffix_is}
use Rattle.at_lex.proofs.ItemLemmas.{lead_none, lead_all, lead_ends, lead_begins}
use Rattle.at_lex.proofs.stream.Lexer.behind_run.Goals as goal
use Rattle.at_lex.proofs.stream.Lexer.behind_run.Goals.{then-len-eq0, else-len-eq0+then-len-piece, else-len-eq0+else-len-piece}

pub returns : goal.returns
returns c =
    let w = c.args.piece.now in let n = c.run_len-len.result in let at = c.args.base in
    let P : Lead → Type 0 = λ lead. IsLead Out at (take n w) lead (drop n w) in
    let lead : P c.if-len-eq0.lead = elim c.if-len-eq0.branch [
      | then-len-eq0 x ↦ subst P (sym x.lead-is) (lead_none at w n c.run_len-len.ensures x.if-len-eq0.true)
      | else-len-eq0+then-len-piece x ↦ subst P (sym x.lead-is) (lead_all at w n c.run_len-len.ensures x.if-len-eq0.false x.if-len-piece.true)
      | else-len-eq0+else-len-piece x ↦ subst P (sym x.lead-is) (lead_ends at w n c.run_len-len.ensures x.if-len-eq0.false x.if-len-piece.false)
    ] in
    let Q : List ℕ → Type 0 = λ r. IsBegun Out at w c.if-len-eq0.lead (record { at = at + n; rest = r; state = Out }) in
    subst Q (sym (suffix_is w n)) (lead_begins at w n c.if-len-eq0.lead c.run_len-len.ensures lead)
