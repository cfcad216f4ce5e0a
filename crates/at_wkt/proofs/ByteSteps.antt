-- What loops over bytes keep true.
-- For `read_line`, `read_geometry` and `Room::check_line`: the loops over blanks and letters below them.
use Rattle.std.proofs.Common.{◌≡◌, ◌≢◌, ℕ, ◌+◌, ◌-◌, ◌<◌, ◌==◌, Bool, true, List, length, take, slice_index, sym, ◌∙◌, ap, arith}
use native.Mathlib.Decide.{dec_lt}
use Rattle.std.proofs.lemmas.List.{get_or_past, get_or_default}
use Rattle.at_wkt.specs.Readers.{next, Matches, KeywordBreaks}

pub next_in : (w : List ℕ) (j : ℕ) → j < length w → next w j ≡ slice_index w j
next_in w j h = get_or_default w j 256 0 h

pub byte_inside : (w : List ℕ) (j c : ℕ) → c < 256 → next w j ≡ c → j < length w
byte_inside w j c l h = elim (dec_lt j (length w)) [ yes k ↦ k | no f ↦ absurd (let e : next w j ≡ 256 = get_or_past w j 256 (omega arith) in omega (arith, e, h, l)) ]

pub test_eq : (a b : ℕ) (t : Bool) → t ≡ (a == b) → t ≡ true → a ≡ b
test_eq a b t e h = grind (arith, e, h)

pub word_broken : (w : List ℕ) (i : ℕ) (word : List ℕ) (count : ℕ) → Matches w i word count → count ≢ length word → KeywordBreaks w i (i + count) word
word_broken w i word count h e =
    let size : count ≡ (i + count) - i = omega arith in
    let less : count < length word = omega (arith, h.fits, e) in record {
      order = omega arith;
      within = h.within;
      text = h.text ∙ ap (λ n. take n word) size;
      short = omega arith;
      differs = λ f. h.stops less (f ∙ ap (slice_index word) (sym size));
    }
