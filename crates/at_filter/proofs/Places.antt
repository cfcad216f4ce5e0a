-- What a search for a byte finds, in std's words.
-- For `run_lines`, which looks for line feeds.
use Rattle.std.proofs.Common.{◌≡◌, ℕ, Bool, List, length, get_or, Option, Some, None, unwrap_or, sym, arith}
use Rattle.std.proofs.lemmas.Bool.{false_from_ne_true}
use Rattle.std.proofs.lemmas.List.Sums.{position_or_len_is}
use Rattle.std.specs.List.{position_or_len}
use Rattle.memchr.specs.Find.{IsFirstByte}

-- the first place of a byte, or the length, is where std's word puts it
pub first_place : (test : ℕ → Bool) (hay : List ℕ) (r : Option ℕ) → IsFirstByte test hay r → unwrap_or r (length hay) ≡ position_or_len test hay
first_place test hay None h = sym (position_or_len_is test hay (length hay) 0 (omega arith)
    (λ k lt. false_from_ne_true (test (get_or hay k 0)) (h k (omega arith) lt)) (λ lt. absurd (omega arith)))
first_place test hay (Some k) h = sym (position_or_len_is test hay k 0 (omega (arith, h.0.high))
    (λ i lt. false_from_ne_true (test (get_or hay i 0)) (h.0.before i (omega arith) lt)) (λ lt. h.1))
