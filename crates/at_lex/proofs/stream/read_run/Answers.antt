use Rattle.std.proofs.Common.{◌≡◌, ◌≤◌, ◌<◌, ◌+◌, ◌-◌, ◌⊎◌, inl, inr, length, take, drop, arith, sym, refl, ap, subst, false, take-append-drop, length-drop}
use Rattle.std.proofs.lemmas.List.{length-take-le}
use Rattle.at_lex.specs.declared.tokens.TokenKind.{TokenKind}
use Rattle.at_lex.specs.declared.tokens.TokenKind.TheVariants.{Broken}
use Rattle.at_lex.specs.Runs.{JsonRun}
use Rattle.at_lex.specs.Spans.{IsKind}
use Rattle.at_lex.proofs.FrontLemmas.{suffix_is}
use Rattle.at_lex.proofs.RunBytes.{viable_run, run_out}
use Rattle.at_lex.proofs.NumberLemmas.{ended_run}
use Rattle.at_lex.proofs.ItemLemmas.{all_run, ends_run, refused}
use Rattle.at_lex.proofs.stream.read_run.Goals as goal
use Rattle.at_lex.proofs.stream.read_run.Goals.{then-taken+then-end-len, else-taken, else-taken-via-then-taken+else-end-len, else-taken-via-else-taken}

pub returns-then-end-text : goal.returns-then-end-text
returns-then-end-text c =
    let w = c.args.text.now in let n = c.take_run-taken.result.len in
    let all = all_run w n c.run_len.result (viable_run (take n w) c.take_run-taken.ensures.longest.front) c.run_len.ensures c.if-end-text.true in
    ((refl, (c.requires.begins, all)), sym (run_out w all))

pub returns : goal.returns
returns c =
    let w = c.args.text.now in let n = c.take_run-taken.result.len in let k = c.run_len.result in let at = c.args.at in
    let whole = c.take_run-taken.ensures in
    let fits = whole.longest.fits in
    let left : length (drop n w) ≡ length w - n = length-drop n w in
    let within : n + k ≤ length w = omega (arith, c.run_len.ensures.fits, ap length (suffix_is w n), left, fits) in
    let below : n + k < length w = omega (arith, within, c.if-end-text.false) in
    let ends = ends_run w n k c.requires.begins fits (viable_run (take n w) whole.longest.front) c.run_len.ensures below in
    let l = length-take-le (n + k) w within in
    let P : TokenKind → Type 0 = λ kind. IsKind at (take (n + k) w) (drop (n + k) w) kind in
    let broken : (n < n + k) ⊎ (c.take_run-taken.result.whole ≡ false) → P (Broken (at + n)) = λ why. (n, refl, inr (ends, refused JsonRun w c.take_run-taken.result (n + k) whole (omega arith) within why)) in
    let kind : P c.if-taken.kind = elim c.if-taken.branch [
      | then-taken+then-end-len x ↦ (let e : n ≡ n + k = sym x.if-end-len.true in subst P (sym x.kind-is) (ends, subst (λ m. JsonRun (take m w)) e (whole.whole.0 x.if-taken.true)))
      | else-taken x ↦ subst P (sym x.kind-is) (broken (elim x.else-taken.branch [
        | else-taken-via-then-taken+else-end-len y ↦ inl (let not_same = y.if-end-len.false in omega (arith, not_same))
        | else-taken-via-else-taken y ↦ inr y.if-taken.false
      ]))
    ] in
    (take (n + k) w, drop (n + k) w, sym (take-append-drop (n + k) w), (refl, (let e : at + (n + k) ≡ at + length (take (n + k) w) = omega (arith, l) in e), kind))

pub returns-in-Some : goal.returns-in-Some
returns-in-Some c =
    let w = c.args.text.now in let n = c.in-Some.len in
    let fits : n ≤ length w = (let e = c.in-Some.ensures.ends in omega (arith, e)) in
    let l = length-take-le n w fits in
    (take n w, drop n w, sym (take-append-drop n w), (refl, (let e : c.args.at + n ≡ c.args.at + length (take n w) = omega (arith, l) in e), ended_run w n c.in-Some.ensures))
