use Rattle.std.proofs.Common.{◌≡◌, ◌*◌, ◌/◌, ◌%◌, ◌^◌, get_or, ap, subst, ◌∙◌, arith, w64, bit_or, ⊎_elim}
use Rattle.std.specs.Int.{bit_at}
use Rattle.std.proofs.Common.{set, get_or-set_same, get_or-set_other}
use Rattle.std.proofs.lemmas.Nat.Bits.{bit_at_set_same, bit_at_or}
use Rattle.std.proofs.lemmas.Bool.{cases_eq}
use Rattle.at_scan.specs.Members.{name_mark}
use Rattle.at_scan.proofs.members.mark.Goals as goal

pub bounds-marks-mark : goal.bounds-marks-mark
bounds-marks-mark c = omega (arith, c.mark_of-mark.ensures.below, c.requires)

pub bounds-marks-mark-2 : goal.bounds-marks-mark-2
bounds-marks-mark-2 c = omega (arith, c.mark_of-mark.ensures.below, c.requires)

pub returns-clause-name : goal.returns-clause-name
returns-clause-name c =
    let words = c.args.marks.now in let mark = c.mark_of-mark.result in
    let new = bit_or (get_or words (mark / 64) 0) (1 * 2 ^ (mark % 64) % 2 ^ 64) in
    subst (λ m. bit_at (get_or (set words (mark / 64) new) (m / 64) 0) (m % 64) ≡ 1) c.mark_of-mark.ensures.mark
    (ap (λ w. bit_at w (mark % 64)) (get_or-set_same words (mark / 64) new 0 (omega (arith, c.mark_of-mark.ensures.below, c.requires))) ∙ bit_at_set_same w64 (get_or words (mark / 64) 0) (mark % 64) (omega arith))

pub returns-clause-keeps : goal.returns-clause-keeps
returns-clause-keeps c n had =
    let words = c.args.marks.now in
    let at = c.mark_of-mark.result / 64 in
    let other = name_mark n in
    let one = 1 * 2 ^ (c.mark_of-mark.result % 64) % 2 ^ 64 in
    let new = bit_or (get_or words at 0) one in
    ⊎_elim
    (λ e.
    let old : bit_at (get_or words at 0) (other % 64) ≡ 1 = subst (λ k. bit_at (get_or words k 0) (other % 64) ≡ 1) e had in
    ap (λ w. bit_at w (other % 64)) (ap (λ k. get_or (set words at new) k 0) e ∙ get_or-set_same words at new 0 (omega (arith, c.mark_of-mark.ensures.below, c.requires)))
    ∙ omega (arith, old, bit_at_or (get_or words at 0) one (other % 64)))
    (λ ne. ap (λ w. bit_at w (other % 64)) (get_or-set_other words at (other / 64) new 0 ne) ∙ had)
    (cases_eq (other / 64) at)
