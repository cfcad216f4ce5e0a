-- Closing brackets of one kind, as what is read of the bytes from the first one on.
-- For `merge` and `run_block`.
use Rattle.std.proofs.Common.{◌≡◌, ℕ, Option, List, [], ◌∷◌, ◌++◌, false, true, refl, sym, ◌∙◌, ap, subst, arith, append-nil, ◌+◌, ◌-◌, zero, suc, length, take, drop, get_or, replicate}
use Rattle.std.proofs.Math.Seq.{take-length}
use Rattle.std.proofs.lemmas.List.{take-append-drop, length-replicate}
use Rattle.at_lex.specs.Spans.{closing, IsKind, IsToken}
use Rattle.at_lex.specs.declared.tokens.Bracket.{Bracket}
use Rattle.at_lex.specs.declared.tokens.Bracket.TheVariants.{Brace, Square}
use Rattle.at_lex.specs.declared.tokens.Token.{Token}
use Rattle.at_lex.specs.declared.tokens.TokenKind.TheVariants.{Closes}
use Rattle.at_nest.specs.declared.pieces.Closers.{Closers}
use Rattle.at_nest.specs.declared.pieces.SpanStop.{SpanStop as CodeHalt}
use Rattle.at_nest.specs.Borders.{ends_run, are_apart}
use Rattle.at_nest.specs.Forms.{closes, Formed}
use Rattle.at_nest.specs.Levels.{further, push_all}
use Rattle.at_nest.specs.Shown.{Shown}
use Rattle.at_nest.specs.KeptItems.{Content, free, closers, IsPushedAs, Pushes, PushesClosers}
use Rattle.at_nest.specs.Reading.{ReadsAhead}
use Rattle.at_nest.proofs.TokenReads.{close_ends, one_close}

closing_apart : (b : Bracket) (r : List ℕ) → are_apart (closing b ∷ []) r ≡ true
closing_apart Brace r = refl
closing_apart Square r = refl

closers_formed : (b : Bracket) (n at : ℕ) → Formed free at (replicate n (closing b)) (closers b b at n)
closers_formed b zero at = tt
closers_formed b (suc n) at = let here : at ≡ at + 0 = omega arith in let next : at + 1 ≡ at + 0 + 1 = omega arith in
    ([], closing b ∷ [], replicate n (closing b), refl, tt, (here, refl), closing_apart b (replicate n (closing b)), subst (λ k. Formed free k (replicate n (closing b)) (closers b b (at + 1) n)) next (closers_formed b n (at + 1)))

closing_ended : (b : Bracket) (n : ℕ) → ends_run (replicate (suc n) (closing b)) ≡ false
closing_ended Brace zero = refl
closing_ended Square zero = refl
closing_ended b (suc n) = closing_ended b n

-- the token is the first byte
pub closes_ahead : (ahead : List ℕ) (t : Token) (b : Bracket) → t.kind ≡ Closes b → (v after : List ℕ) × (ahead ≡ v ++ after) × IsToken t.from v after t → (more : List ℕ) × (ahead ≡ closing b ∷ more)
closes_ahead ahead t b k (v, after, e, h) = (after, e ∙ ap (λ z. z ++ after) (subst (IsKind t.from v after) k h.2))

module _ {X : Type 0} (IsKept : X → Content → Type 0) (old new : Shown X) (r : Option CodeHalt) (b : Bracket) (at : ℕ) where
  pub closers_ahead : (n : ℕ) (ahead : List ℕ) (c : Closers) → (more : List ℕ) × (ahead ≡ closing b ∷ more) → take n (take (length ahead - 1) (drop 1 ahead)) ≡ replicate n (get_or ahead 0 0) → c ≡ record { first = b; second = b; from = at; last = at + n } → PushesClosers IsKept old new r c
      → ReadsAhead IsKept old new r at ahead (at + n + 1)
  closers_ahead n ahead c (more, e) same made pushes = let size : length (replicate (suc n) (closing b)) ≡ suc n = length-replicate (suc n) (closing b) in
      let whole : length (closing b ∷ more) - 1 ≡ length more = omega arith in
      let all : take n more ≡ replicate n (closing b) = ap (take n) (sym (ap (λ k. take k more) whole ∙ take-length more)) ∙ subst (λ z. take n (take (length z - 1) (drop 1 z)) ≡ replicate n (get_or z 0 0)) e same in (
        replicate (suc n) (closing b),
        drop n more,
        e ∙ ap (λ z. closing b ∷ z) (sym (take-append-drop n more) ∙ ap (λ z. z ++ drop n more) all),
        omega (arith, size),
        omega (arith, size),
        closing_ended b n,
        λ base w f h. (
          further (record { outer = closers b b at (suc n); levels = [] }),
          record { formed = subst (Formed free at (replicate (suc n) (closing b))) (sym (append-nil (closers b b at (suc n)))) (closers_formed b (suc n) at); levels = tt },
          subst (IsPushedAs IsKept base w new r) (ap (λ z. push_all free z f) (sym (append-nil (closers b b at (suc n)))))
              (subst (λ z. PushesClosers IsKept old new r z) made pushes base w f (closers b b at (suc n)) h (n, refl, refl)),
        ),
      )

  pub closing_ahead : (ahead : List ℕ) → (more : List ℕ) × (ahead ≡ closing b ∷ more) → Pushes IsKept old new r (closes b at) → ReadsAhead IsKept old new r at ahead (at + 1)
  closing_ahead ahead (more, e) pushes = (
    closing b ∷ [],
    more,
    e,
    refl,
    omega arith,
    closing_ended b 0,
    λ base w f h. (further (record { outer = closes b at ∷ []; levels = [] }), close_ends at (closing b ∷ []) more b refl, one_close IsKept base w new r f b at (pushes base w f h)),
  )
