-- White space, of which sixteen bytes are looked at together. For what passes over white space: most of the crate's calls.
use Rattle.std.proofs.Common.{◌≡◌, ℕ, zero, suc, ◌+◌, ◌<◌, ◌≤◌, true, List, [], ◌∷◌, ◌++◌, length, slice_index, refl, sym, subst, arith}
use Rattle.std.proofs.lemmas.Bool.{eqb-true}
use Rattle.at_text.specs.Texts.{is_space}
use Rattle.at_fixed.specs.NumberSoFar.{between}
use Rattle.at_fixed.proofs.DigitParts.{part-more, part-none}
use Rattle.at_lex.specs.Spans.{AreSpaces}
use Rattle.at_scan.specs.Places.{is_blank}

spaces_and : (s : List ℕ) (b : ℕ) → AreSpaces s → is_space b ≡ true → AreSpaces (s ++ (b ∷ []))
spaces_and [] b h e = (e, tt)
spaces_and (c ∷ s) b h e = (h.0, spaces_and s b h.1 e)

pub spaces_more : (w : List ℕ) (at end n : ℕ) → at ≤ end → end + n ≤ length w → AreSpaces (between w at end) → ((k : ℕ) → end ≤ k → k < end + n → is_space (slice_index w k) ≡ true) → AreSpaces (between w at (end + n))
spaces_more w at end zero order within h each = subst (λ e. AreSpaces (between w at e)) (omega arith) h
spaces_more w at end (suc n) order within h each =
    let before = spaces_more w at end n order (omega (arith, within)) h (λ k from to. each k from (omega (arith, to))) in
    let next : end + n + 1 ≡ end + suc n = omega arith in
    subst (λ e. AreSpaces (between w at e)) next
    (subst AreSpaces (sym (part-more w at (end + n) (omega (arith, order)) (omega (arith, within))))
    (spaces_and (between w at (end + n)) (slice_index w (end + n)) before (each (end + n) (omega arith) (omega arith))))

-- blanks from the place on
blank_space : (b : ℕ) → is_blank b ≡ true → is_space b ≡ true
blank_space b h = subst (λ n. is_space n ≡ true) (sym (eqb-true b 0x20 h)) refl

pub blanks_are : (w : List ℕ) (at n : ℕ) → at + n ≤ length w → ((k : ℕ) → at ≤ k → k < at + n → is_blank (slice_index w k) ≡ true) → AreSpaces (between w at (at + n))
blanks_are w at n h l = grind (arith, part-none, spaces_more, blank_space)
