-- From the mask of lanes to a front of bytes: so many pass, and the next doesn't.
-- For `lex`, `next_item`, `take_text` and `units`.
use Rattle.std.proofs.Common.{◌≡◌, ℕ, ◌+◌, ◌≤◌, ◌%◌, ◌^◌, Bool, true, not, List, map, length, get_or, Fits, w8, sym, ap, ◌∙◌, arith}
use Rattle.std.proofs.lemmas.Bool.{agree_below, agree_below_at, not-true, not-false}
use Rattle.std.proofs.lemmas.Simd.{map-map, mask_l-mod, length-chunk, first_set_mask_l, run_in_chunk_le, run_in_chunk_fails, run_in_chunk_stops}
use Rattle.std.proofs.lemmas.List.{length-map}
use Rattle.std.specs.List.{prefix_len}
use lib.Lanes.{chunk, mask_l, top}
use Rattle.at_fixed.specs.Eights.{first_set}
use Rattle.at_lex.specs.Fronts.{IsFrontAt}

module _ (test : ℕ → Bool) (w : List ℕ) (at n r : ℕ) (z : List ℕ) (f : ℕ → ℕ) (few : n ≤ 64) (room : at + n ≤ length w)
    (fits : (k : ℕ) → Fits w8 (get_or w k 0)) (lanes : z ≡ map f (chunk at n w)) (found : r ≡ first_set (mask_l (map (top 7) z) % 2 ^ 64) n) where
  abbrev marked : ℕ → Bool
  marked x = top 7 (f x)

  long : length (chunk at n w) ≡ n
  long = length-chunk at n w room

  counted : r ≡ prefix_len (λ x. not (marked x)) (chunk at n w)
  counted =
      let v = chunk at n w in
      let mask = ap (λ l. mask_l l % 2 ^ 64) (ap (map (top 7)) lanes ∙ map-map (top 7) f v) ∙ mask_l-mod (map marked v) 64 (omega (arith, length-map v marked, long, few)) in
      found ∙ ap (λ m. first_set m n) mask ∙ first_set_mask_l marked v n long few

  -- a lane is marked just where the test fails
  pub front_at : agree_below marked (λ x. not (test x)) 256 ≡ true → IsFrontAt test w at n r
  front_at all = record {
    few = run_in_chunk_le marked w at n r 0 room counted;
    passes = λ k after before. not-false _ (sym (agree_below_at marked (λ x. not (test x)) 256 (get_or w k 0) all (fits k).fits) ∙ run_in_chunk_fails marked w at n r 0 room counted k after before);
    stops = λ short. not-true _ (sym (agree_below_at marked (λ x. not (test x)) 256 (get_or w (at + r) 0) all (fits (at + r)).fits) ∙ run_in_chunk_stops marked w at n r 0 room counted short);
  }
