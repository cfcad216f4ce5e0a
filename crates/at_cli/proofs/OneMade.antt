-- A made file's name has one text.
-- For `top`.
use Rattle.std.proofs.Common.{◌≡◌, ◌≢◌, ℕ, inl, inr, codes, decimal, List, ◌∷◌, sym, ◌∙◌, ap, arith}
use Rattle.std.proofs.lemmas.List.{append_cancel_left}
use Rattle.std.proofs.lemmas.Fmt.{decimal_injective}
use Rattle.at_cli.specs.Made.{IsMadeText, wkt_text, geojson_text}

fronts : (a b : ℕ) (v w : List ℕ) → a ≢ b → 0x40 ∷ a ∷ v ≡ 0x40 ∷ b ∷ w → ⊥
fronts a b v w differ e = differ cc

pub one_made_text : (name a b : List ℕ) → IsMadeText name a → IsMadeText name b → a ≡ b
one_made_text name a b (m, lm, inl (h, e)) (n, ln, inl (k, i)) = e ∙ (ap geojson_text (decimal_injective m n (omega (arith, lm)) (omega (arith, ln)) (append_cancel_left (codes "@g:") (decimal m) (decimal n) (sym h ∙ k))) ∙ sym i)
one_made_text name a b (m, lm, inl (h, e)) (n, ln, inr (k, i)) = absurd (fronts 0x67 0x77 (0x3A ∷ decimal m) (0x3A ∷ decimal n) (λ z. omega (arith, z)) (sym h ∙ k))
one_made_text name a b (m, lm, inr (h, e)) (n, ln, inl (k, i)) = absurd (fronts 0x77 0x67 (0x3A ∷ decimal m) (0x3A ∷ decimal n) (λ z. omega (arith, z)) (sym h ∙ k))
one_made_text name a b (m, lm, inr (h, e)) (n, ln, inr (k, i)) = e ∙ (ap wkt_text (decimal_injective m n (omega (arith, lm)) (omega (arith, ln)) (append_cancel_left (codes "@w:") (decimal m) (decimal n) (sym h ∙ k))) ∙ sym i)
