-- Lists of one element again and again.
-- For `read` and `read_whole`.
use Rattle.std.proofs.Common.{arith, ◌≡◌, ◌≤◌, ℕ, List, ◌++◌, take, length, replicate, sym, ◌∙◌, ap}
use Rattle.std.proofs.lemmas.List.{take-replicate, length-replicate, take-append-le}

-- what begins with n times an element agrees over n with more of that element
pub front_of_equal : (n m y : ℕ) (front rest : List ℕ) → n ≤ m → front ≡ replicate n y → take n (front ++ rest) ≡ take n (replicate m y)
front_of_equal n m y front rest within same =
    let long : length front ≡ n = ap length same ∙ length-replicate n y in
    take-append-le n front rest (omega arith) ∙ ap (take n) same ∙ take-replicate n n y (omega arith) ∙ sym (take-replicate n m y within)
