-- Lists of proper entries that grow, for the tests.
-- For the crates above.
use Rattle.std.proofs.Common.{◌≡◌, ℕ, ◌+◌, ◌<◌, List, [], ◌∷◌, ◌++◌, map, arith, subst, sym}
use Rattle.std.specs.List.{AllByRecursion}
use Rattle.at_query.specs.declared.answer.parts.Entry.{Entry}
use Rattle.at_query.specs.Parts.{AreRising, IsProperEntry}

all_more : (P : Entry → Type 0) (es : List Entry) (e : Entry) → AllByRecursion P es → P e → AllByRecursion P (es ++ e ∷ [])
all_more P [] e h p = (p, tt)
all_more P (x ∷ es) e h p = (h.0, all_more P es e h.1 p)

rising_more : (es : List Entry) (e : Entry) → AreRising (map (λ (x : Entry). x.at) es) → AllByRecursion (λ (x : Entry). x.at < e.at) es → AreRising (map (λ (x : Entry). x.at) (es ++ e ∷ []))
rising_more [] e h k = tt
rising_more (x ∷ []) e h k = (k.0, tt)
rising_more (x ∷ y ∷ es) e h k = (h.0, rising_more (y ∷ es) e h.1 k.1)

-- proper entries with offsets that rise up to a number
pub record AreSquares (n : ℕ) (es : List Entry) : Type 0 where
  pub rising : AreRising (map (λ (e : Entry). e.at) es)
  pub below : AllByRecursion (λ (e : Entry). e.at < n) es
  pub entries : AllByRecursion IsProperEntry es

below_next : (n : ℕ) (es : List Entry) → AllByRecursion (λ (e : Entry). e.at < n) es → AllByRecursion (λ (e : Entry). e.at < n + 1) es
below_next n [] h = tt
below_next n (e ∷ es) h = (omega (arith, h.0), below_next n es h.1)

pub squares_more : (n : ℕ) (es new : List Entry) (e : Entry) → new ≡ es ++ e ∷ [] → AreSquares n es → IsProperEntry e → e.at ≡ n → AreSquares (n + 1) new
squares_more n es new e is h p at = subst (AreSquares (n + 1)) (sym is) (record {
  rising = rising_more es e h.rising (subst (λ (m : ℕ). AllByRecursion (λ (x : Entry). x.at < m) es) (sym at) h.below);
  below = all_more (λ (x : Entry). x.at < n + 1) es e (below_next n es h.below) (omega (arith, at));
  entries = all_more IsProperEntry es e h.entries p;
})
