use Rattle.std.proofs.Common.{ℕ, ◌+◌, ◌<◌, length, take, slice_index, List, arith, ◌∙◌, sym, subst}
use Rattle.std.proofs.lemmas.List.{take_all}
use Rattle.at_lex.specs.declared.tokens.Start.{Start}
use Rattle.at_lex.specs.declared.tokens.Start.TheVariants.{InEscape}
use Rattle.at_lex.proofs.Texts.{IsIn, text_escaped, text_slashed, text_closed, quiet_part, quiet_stops, loud_byte}
use Rattle.at_lex.proofs.strings.text_end.Goals as goal

pub loop-len-preserved-in-InEscape : goal.loop-len-preserved-in-InEscape
loop-len-preserved-in-InEscape c =
    let below : c.loop-len.len < length c.args.text.now = omega arith in
    let here : IsIn c.args.start (take c.loop-len.len c.args.text.now) InEscape = (c.loop-len.invariant.stays, sym c.in-InEscape.is ∙ c.loop-len.invariant.state) in
    let (stays, state) = text_escaped c.args.start c.args.text.now c.loop-len.len below here in
    record { fits = omega arith; stays = stays; state = state }

pub returns-then-text-len-eq34 : goal.returns-then-text-len-eq34
returns-then-text-len-eq34 c =
    let w = c.args.text.now in let n = c.loop-len.len in let k = c.quiet_len-len.result in
    let below : n + k < length w = omega (arith, c.quiet_len-len.ensures.fits) in
    let (here, is) = quiet_part c.args.start c.loop-len.state w n k (c.loop-len.invariant.stays, c.loop-len.invariant.state) c.in_default.not-InEscape c.quiet_len-len.ensures in
    (omega arith, text_closed c.args.start w (n + k) below here c.if-text-len-eq34.true)

pub loop-len-preserved : goal.loop-len-preserved
loop-len-preserved c =
    let w = c.args.text.now in let n = c.loop-len.len in let k = c.quiet_len-len.result in
    let below : n + k < length w = omega (arith, c.quiet_len-len.ensures.fits) in
    let (here, is) = quiet_part c.args.start c.loop-len.state w n k (c.loop-len.invariant.stays, c.loop-len.invariant.state) c.in_default.not-InEscape c.quiet_len-len.ensures in
    let slash = loud_byte (slice_index w (n + k)) (quiet_stops w n k c.loop-len.invariant.fits below c.quiet_len-len.ensures) c.if-text-len-eq34.false in
    let (stays, state) = text_slashed c.args.start w (n + k) below here slash in
    record { fits = omega arith; stays = stays; state = state }

pub returns-then-len-text : goal.returns-then-len-text
returns-then-len-text c =
    let w = c.args.text.now in let n = c.loop-len.len in let k = c.quiet_len-len.result in
    let (here, is) = quiet_part c.args.start c.loop-len.state w n k (c.loop-len.invariant.stays, c.loop-len.invariant.state) c.in_default.not-InEscape c.quiet_len-len.ensures in
    let P : List ℕ → Type 0 = λ v. IsIn c.args.start v c.loop-len.state in
    let Q : Start → Type 0 = λ t. IsIn c.args.start (take (n + k) w) t in
    subst P (take_all (n + k) w (omega arith)) (subst Q (sym is) here)
