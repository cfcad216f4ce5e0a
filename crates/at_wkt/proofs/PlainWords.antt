-- Words that stand in a text as they are, in capitals.
-- For `read_line`, `read_geometry` and `Room::check_line`: the word of a geometry.
use Rattle.std.proofs.Common.{◌≡◌, ℕ, ◌+◌, ◌-◌, ◌≤◌, true, Bool, List, ◌++◌, length, take, drop, length-drop, length-append, sym, ◌∙◌, ap, arith}
use Rattle.std.specs.Str.{str_to_ascii_uppercase}
use Rattle.std.specs.Str.{bytes_eq}
use Rattle.std.proofs.lemmas.Bool.Decides.{Decides-eqb}
use Rattle.std.proofs.lemmas.List.{drop-take, take_rest}
use Rattle.std.proofs.lemmas.Slice.Eq.{starts_is}
use Rattle.std.proofs.Math.Seq.{take-append_seam}
use Rattle.at_wkt.specs.Readers.{KeywordStands}

word_here : (w p rest : List ℕ) (i : ℕ) → i ≤ length w → str_to_ascii_uppercase p ≡ p → drop i w ≡ p ++ rest → KeywordStands w i (i + length p) p
word_here w p rest i h capitals e = record {
  order = omega arith;
  within = omega (arith, h, sym (length-drop i w) ∙ (ap length e ∙ length-append p rest));
  text = ap str_to_ascii_uppercase (drop-take i (length p) w ∙ (ap (take (length p)) e ∙ take-append_seam p rest)) ∙ capitals;
}

-- what a text that goes on with a word of capitals says
pub word_plain : (w p : List ℕ) (i : ℕ) (r : Bool) → i ≤ length w → str_to_ascii_uppercase p ≡ p → r ≡ bytes_eq p (take (length p) (take (length w - i) (drop i w))) → r ≡ true → KeywordStands w i (i + length p) p
word_plain w p i r h capitals e same =
    let rest : List ℕ = drop (length p) (take (length w - i) (drop i w)) in
    word_here w p rest i h capitals (sym (take_rest w i) ∙ (starts_is Decides-eqb (take (length w - i) (drop i w)) p r e).0 same)
