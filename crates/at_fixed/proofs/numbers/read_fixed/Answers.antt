use Rattle.std.proofs.Common.{ℕ, ℤ, List, Result, sym, ◌∙◌, subst}
use Rattle.at_fixed.specs.declared.notation.Notation.TheVariants.{Wkt}
use Rattle.at_fixed.specs.declared.rounding.Coords.{Coords}
use Rattle.at_fixed.specs.declared.rounding.FixedFault.{FixedFault}
use Rattle.at_fixed.specs.Numerals.{Numeral, SpellsNumeral, WktNumber}
use Rattle.at_fixed.specs.Fixed.{IsFixedOf}
use Rattle.at_fixed.specs.Products.{IsValue}
use Rattle.at_fixed.proofs.FixedLaws.{value_means}
use Rattle.at_fixed.proofs.Spelled.{fixed_by, json_text, taken_whole}
use Rattle.at_fixed.proofs.numbers.read_fixed.Goals as goal

-- the value of the one number of the text
read_value : (text : List ℕ) (digits : ℕ) (how : Coords) (answer : Result ℤ FixedFault) → IsFixedOf text digits how answer
    → (n : Numeral) → SpellsNumeral text n → IsValue n digits how answer
read_value text digits how answer h n spelled =
    let P : Numeral → Type 0 = λ m. IsValue m digits how answer in
    subst P (sym (h.only n spelled)) (rw h.value (value_means h.numeral digits how))

pub returns-clause-value : goal.returns-clause-value
returns-clause-value c =
    let w = c.args.text.now in
    let (len, text, whole) = taken_whole WktNumber w _ c.scan.ensures.taken (json_text w c.requires.number) in
    let (n, h, e, kept) = c.scan.ensures.value whole in
    fixed_by Wkt w c.args.digits c.args.how c.value_of.result n h (sym text ∙ e) (c.value_of.ensures n kept)

pub returns-clause-products : goal.returns-clause-products
returns-clause-products c = read_value c.args.text.now c.args.digits c.args.how c.value_of.result (returns-clause-value c)
