use Rattle.std.proofs.Common.{ℕ, ◌+◌, ◌-◌, ◌≤◌, List, length, take, drop, arith, sym, ◌∙◌, ap, subst, refl, take-append-drop, length-drop, inl}
use Rattle.std.proofs.lemmas.List.{length-take-le}
use Rattle.at_lex.specs.declared.tokens.Start.{Start}
use Rattle.at_lex.specs.Spans.{ClosesText, StaysInText, end_of}
use Rattle.at_lex.specs.StringStates.{state_of, lexical_of}
use Rattle.at_lex.proofs.FrontLemmas.{suffix_is}
use Rattle.at_lex.proofs.ItemLemmas.{quote_first, whole_text, unfinished_in_text, refused_text, open_text}
use Rattle.at_lex.proofs.stream.read_text.Goals as goal

pub returns-then-is_whole : goal.returns-then-is_whole
returns-then-is_whole c =
    let w = c.args.text.now in let n = c.scan_text-scanned.result.len in let s = c.scan_text-scanned.ensures in
    let (u, e) = quote_first w c.requires.begins in (
      take n w,
      drop n w,
      sym (take-append-drop n w),
      (
        refl,
        (let l = length-take-le n w s.fits in omega (arith, l)),
        whole_text w u n (state_of c.scan_text-scanned.result.state) e s (sym c.is_whole.ensures ∙ c.if-is_whole.true),
      ),
    )

pub text_end-requires : goal.text_end-requires
text_end-requires c =
    let (u, e) = quote_first c.args.text.now c.requires.begins in
    λ out. unfinished_in_text c.args.text.now u c.scan_text-scanned.result.len (state_of c.scan_text-scanned.result.state) e c.scan_text-scanned.ensures (sym c.is_whole.ensures ∙ c.if-is_whole.false) (sym c.lexical.ensures ∙ out)

pub returns-in-Closed : goal.returns-in-Closed
returns-in-Closed c =
    let w = c.args.text.now in let n = c.scan_text-scanned.result.len in let s = c.scan_text-scanned.ensures in let t = state_of c.scan_text-scanned.result.state in let k = c.in-Closed.more in
    let (u, e) = quote_first w c.requires.begins in
    let (within, closes) = c.in-Closed.ensures in
    let fits : n + k ≤ length w = omega (arith, within, ap length (suffix_is w n), length-drop n w, s.fits) in
    let P : Start → List ℕ → Type 0 = λ x v. ClosesText x (take k v) in
    let closed : ClosesText (lexical_of t) (take k (drop n w)) = subst (λ (x : Start). P x (drop n w)) c.lexical.ensures (subst (P c.lexical.result) (suffix_is w n) closes) in (
      take (n + k) w,
      drop (n + k) w,
      sym (take-append-drop (n + k) w),
      (
        refl,
        (let l = length-take-le (n + k) w fits in omega (arith, l)),
        (n, refl, inl (refused_text w u n k t e s (sym c.is_whole.ensures ∙ c.if-is_whole.false) fits closed)),
      ),
    )

pub returns-in-Open : goal.returns-in-Open
returns-in-Open c =
    let w = c.args.text.now in let n = c.scan_text-scanned.result.len in let s = c.scan_text-scanned.ensures in let t = state_of c.scan_text-scanned.result.state in
    let (u, e) = quote_first w c.requires.begins in
    let (stays, state) = c.in-Open.ensures in
    let P : Start → List ℕ → Type 0 = λ x v. StaysInText x v in
    let on : StaysInText (lexical_of t) (drop n w) = subst (λ (x : Start). P x (drop n w)) c.lexical.ensures (subst (P c.lexical.result) (suffix_is w n) stays) in
    let (begun, same) = open_text w u n t e s (sym c.is_whole.ensures ∙ c.if-is_whole.false) on in
    ((refl, begun.0, begun.1, begun.2), state ∙ (ap (λ (x : Start). end_of x (take (length w - n) (drop n w))) c.lexical.ensures ∙ (ap (end_of (lexical_of t)) (suffix_is w n) ∙ same)))
