-- What was read of bytes is read of them as more come.
-- For `take`.
use Rattle.std.proofs.Common.{◌≡◌, ℕ, ◌-◌, ◌≤◌, inl, inr, List, [], ◌∷◌, ◌++◌, length, take, drop, reverse, subst, sym, ap, ◌∙◌, refl, arith}
use Rattle.std.proofs.lemmas.List.{drop-append-le, take-append-le}
use Rattle.std.proofs.Math.ListN.{length-drop, length-append}
use Rattle.at_text.specs.Spans.{span_of, StandsAt}
use Rattle.at_text.specs.Texts.{base_of}
use Rattle.at_task.specs.declared.ranks.Ranked.{Ranked}
use Rattle.at_task.specs.Ranking.{AreBeside, ReadUpTo}

-- a span of them stays
span_more : (bytes more : List ℕ) (i k : ℕ) → i ≤ k → k ≤ length bytes → span_of (bytes ++ more) i k ≡ span_of bytes i k
span_more bytes more i k le within =
    let size = length-drop i bytes in
    ap (take (k - i)) (drop-append-le i bytes more (omega (arith, le, within)))
    ∙ take-append-le (k - i) (drop i bytes) more (omega (arith, size, le, within))

-- where their text begins is settled by three of them
base_more : (bytes more : List ℕ) → 3 ≤ length bytes → base_of (bytes ++ more) ≡ base_of bytes
base_more [] more some = absurd (omega (arith, some))
base_more (a ∷ []) more some = absurd (omega (arith, some))
base_more (a ∷ b ∷ []) more some = absurd (omega (arith, some))
base_more (a ∷ b ∷ c ∷ rest) more some = refl

module _ {F : Type 0} (Stands : ℕ → List ℕ → F → Type 0) (bytes more : List ℕ) where
  beside_more : (begin end : ℕ) (rs : List (Ranked F)) → end ≤ length bytes → AreBeside Stands bytes begin end rs → AreBeside Stands (bytes ++ more) begin end rs
  beside_more begin end [] within h = h
  beside_more begin end (r ∷ rs) within h =
      let le = h.0 in
      let stands : StandsAt Stands (bytes ++ more) r.from end r.fragment = subst (λ w. Stands r.from w r.fragment) (sym (span_more bytes more r.from end h.0 within)) h.1 in
      (h.0, stands, beside_more begin r.from rs (omega (arith, le, within)) h.2)

  -- what was read of the bytes
  pub read_more : (new : List ℕ) (end : ℕ) (rs : List (Ranked F)) → new ≡ bytes ++ more → ReadUpTo Stands bytes end rs → ReadUpTo Stands new end rs
  read_more new end rs e h = subst (λ w. ReadUpTo Stands w end rs) (sym e) (by_end h) where
    by_end : ReadUpTo Stands bytes end rs → ReadUpTo Stands (bytes ++ more) end rs
    by_end (inl none) = inl none
    by_end (inr (some, within, beside)) =
        let size = length-append bytes more in
        inr (
          some,
          omega (arith, within, size),
          subst (λ b. AreBeside Stands (bytes ++ more) b end (reverse rs)) (sym (base_more bytes more (omega (arith, some, within)))) (beside_more (base_of bytes) end (reverse rs) within beside),
        )
