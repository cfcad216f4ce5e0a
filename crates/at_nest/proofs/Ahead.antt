-- A whole value, and an opening bracket alone, as what is read of the bytes from the bracket on.
-- For `merge` and `run_block`.
use Rattle.std.proofs.Common.{◌≡◌, ℕ, inl, inr, List, [], ◌∷◌, ◌++◌, Option, None, Result, Ok, Err, IfOk, Bool, true, false, true≢false, refl, sym, ◌∙◌, ap, subst, arith, append_assoc, ◌+◌, ◌<◌, ◌≤◌, suc, ◌==◌, length, length-append, take, drop, take-append-drop}
use Rattle.at_text.specs.Texts.{is_run}
use Rattle.at_lex.specs.Runs.{JsonRun}
use Rattle.at_lex.specs.Spans.{opening, IsKind, IsToken}
use Rattle.at_lex.specs.declared.tokens.Bracket.{Bracket}
use Rattle.at_lex.specs.declared.tokens.Bracket.TheVariants.{Brace, Square}
use Rattle.at_lex.specs.declared.tokens.Token.{Token}
use Rattle.at_lex.specs.declared.tokens.TokenKind.TheVariants.{Opens}
use Rattle.at_lex.proofs.RunBytes.{word_run}
use Rattle.at_lex.proofs.Unique.{head_same}
use Rattle.at_nest.specs.declared.brackets.Read.{Read}
use Rattle.at_nest.specs.declared.pieces.SpanStop.{SpanStop as CodeHalt}
use Rattle.at_nest.specs.declared.algebra.Attempt.TheVariants.{Whole, Unsaid}
use Rattle.at_nest.specs.declared.algebra.Attempt.{Attempt}
use Rattle.at_nest.specs.Tree.{Tree, literal, number, text, array, object, Spells}
use Rattle.at_nest.specs.Borders.{ends_run}
use Rattle.at_nest.specs.Forms.{entry, mark, IsNoText}
use Rattle.at_nest.specs.Folds.{IsAttempt, HasBrackets}
use Rattle.at_nest.specs.Levels.{further, first_mode}
use Rattle.at_nest.specs.Shown.{Shown, show_as, opened_as}
use Rattle.at_nest.specs.KeptItems.{Content, PushesValue, OwnAtom}
use Rattle.at_nest.specs.Reading.{ReadsAhead}
use Rattle.at_nest.proofs.TreeParts as parts
use Rattle.at_nest.proofs.Walks.{ends_append}
pub use Rattle.at_nest.proofs.Runs.{no_nil}
use Rattle.at_nest.proofs.Showing.{open_pushes}
use Rattle.at_nest.proofs.TokenReads.{open_ends, mark_ends, one_mark}
use Rattle.at_nest.proofs.Told.{fold_free}

-- the token is the first byte
pub opens_ahead : (ahead : List ℕ) (t : Token) (b : Bracket) → t.kind ≡ Opens b → (v after : List ℕ) × (ahead ≡ v ++ after) × IsToken t.from v after t → (more : List ℕ) × (ahead ≡ opening b ∷ more)
opens_ahead ahead t b k (v, after, e, h) = (after, e ∙ ap (λ z. z ++ after) (subst (IsKind t.from v after) k h.2))

pub opened_ahead : {X : Type 0} (IsKept : X → Content → Type 0) (old new : Shown X) (b : Bracket) (at : ℕ) (ahead : List ℕ) → (more : List ℕ) × (ahead ≡ opening b ∷ more) → new ≡ show_as old.outer (opened_as b at ∷ old.levels) → ReadsAhead IsKept old new None at ahead (at + 1)
opened_ahead IsKept old new b at ahead (more, e) d = (
  opening b ∷ [],
  more,
  e,
  refl,
  omega arith,
  no_run b,
  λ base w f h. (further (record { outer = []; levels = record { bracket = b; from = at; inside = []; mode = first_mode b } ∷ [] }), open_ends at (opening b ∷ []) more b refl, open_pushes IsKept base w old new b at f d h),
)
  where
    no_run : (b : Bracket) → ends_run (opening b ∷ []) ≡ false
    no_run Brace = refl
    no_run Square = refl

-- what `opened` gives
pub opened_reads : {X E : Type 0} (IsKept : X → Content → Type 0) (old new : Shown X) (b : Bracket) (at : ℕ) (ahead : List ℕ) (result : Result Read E) → (more : List ℕ) × (ahead ≡ opening b ∷ more) → IfOk result (λ r. r ≡ record { to = at + 1; halt = None })
    → IfOk result (λ r. new ≡ show_as old.outer (opened_as b at ∷ old.levels)) → IfOk result (λ r. ReadsAhead IsKept old new r.halt at ahead r.to)
opened_reads IsKept old new b at ahead (Ok r) begins e d = subst (λ z. ReadsAhead IsKept old new z.halt at ahead z.to) (sym e) (opened_ahead IsKept old new b at ahead begins d)
opened_reads IsKept old new b at ahead (Err x) begins e d = tt

-- ---- a value that begins with an opening bracket

pub no_opening : (test : ℕ → Bool) → test 0x7B ≡ false → test 0x5B ≡ false → (b : Bracket) (c : ℕ) → test c ≡ true → c ≡ opening b → ⊥
no_opening test p q Brace c h e = true≢false (sym h ∙ (ap test e ∙ p))
no_opening test p q Square c h e = true≢false (sym h ∙ (ap test e ∙ q))

no_bracket_run : (v r more : List ℕ) (b : Bracket) → v ++ r ≡ opening b ∷ more → JsonRun v → ⊥
no_bracket_run [] r more b e h = no_nil h
no_bracket_run (c ∷ v) r more b e h = no_opening is_run refl refl b c (word_run (c ∷ v) h).0 (head_same c (opening b) (v ++ r) more e)

pub between : (c d : ℕ) (u v : List ℕ) → v ≡ c ∷ (u ++ d ∷ []) → is_run d ≡ false → (0 < length v) × (ends_run v ≡ false)
between c d u v e n = (let size : length v ≡ suc (length (u ++ d ∷ [])) = ap (λ z. length z) e in omega (arith, size), ap ends_run e ∙ (ends_append (c ∷ u) d [] ∙ n))

abbrev pub IsEnded : List ℕ → Type 0
IsEnded v = (0 < length v) × (ends_run v ≡ false)

pub value_brackets : (at : ℕ) (v r more : List ℕ) (b : Bracket) (t : Tree) → v ++ r ≡ opening b ∷ more → Spells at v t → HasBrackets t
value_brackets at v r more b (literal i l) e h = absurd (no_bracket_run v r more b e (inl (l, h.1)))
value_brackets at v r more b (number i n) e h = absurd (no_bracket_run v r more b e (inr (n, h.1.0, h.1.1)))
value_brackets at v r more b (text i cs) e h = absurd (no_opening (λ c. c == 0x22) refl refl b 0x22 refl (head_same 0x22 (opening b) _ more (sym (ap (λ z. z ++ r) h.1.1) ∙ e)))
value_brackets at v r more b _ e h = tt

-- an item with brackets: its last byte is of no run, and it is no string
pub brackets_ended : (at : ℕ) (v : List ℕ) (t : Tree) → HasBrackets t → Spells at v t → IsEnded v
brackets_ended at v (array i ts) b h = let (f, (u, g, s)) = parts.array_parts ts i at v h in between 0x5B 0x5D u v g refl
brackets_ended at v (object i ms) b h = let (f, (u, g, s)) = parts.object_parts ms i at v h in between 0x7B 0x7D u v g refl
brackets_ended at v _ b h = absurd b

pub brackets_no_text : (t : Tree) → HasBrackets t → IsNoText t
brackets_no_text (text i cs) b = absurd b
brackets_no_text _ b = tt

pub whole_ahead : {X : Type 0} (IsOwn : X → Type 0) (IsFold : X → Tree → Type 0) (IsRun : X → List Tree → Type 0) (old new : Shown X) (r : Option CodeHalt) (b : Bracket) (at : ℕ) (ahead : List ℕ) (len : ℕ) (x : X) → (more : List ℕ) × (ahead ≡ opening b ∷ more) → IsAttempt IsOwn IsFold at ahead (Whole len x)
    → PushesValue (OwnAtom IsOwn IsFold IsRun) old new r at x → ReadsAhead (OwnAtom IsOwn IsFold IsRun) old new r at ahead (at + len)
whole_ahead IsOwn IsFold IsRun old new r b at ahead len x (more, e) (v, rest, split, size, t, spells, own, fold) pushes =
    let has : HasBrackets t = value_brackets at v rest more b t (sym split ∙ e) spells in
    let ended : IsEnded v = brackets_ended at v t has spells in (
      v,
      rest,
      split,
      ap (λ n. at + n) size,
      ended.0,
      ended.1,
      λ base w f h. (
        further (record { outer = mark (entry at t) ∷ []; levels = [] }),
        mark_ends at v rest (entry at t) (refl, t, spells, brackets_no_text t has, sym (fold_free t)),
        one_mark (OwnAtom IsOwn IsFold IsRun) base w new r f (entry at t) (pushes base w f t h (own, fold)),
      ),
    )

pub whole_fits : {X : Type 0} (IsOwn : X → Type 0) (IsFold : X → Tree → Type 0) (at : ℕ) (w : List ℕ) (len : ℕ) (x : X) → IsAttempt IsOwn IsFold at w (Whole len x) → len ≤ length w
whole_fits IsOwn IsFold at w len x (v, r, split, size, t, spells, own, fold) = let e : length w ≡ length (v ++ r) = ap (λ z. length z) split in omega (arith, size, e, length-append v r)

-- a value of the first bytes alone
pub attempt_front : {X : Type 0} (IsOwn : X → Type 0) (IsFold : X → Tree → Type 0) (at : ℕ) (front back w : List ℕ) (a : Attempt X) → front ++ back ≡ w → IsAttempt IsOwn IsFold at front a → IsAttempt IsOwn IsFold at w a
attempt_front IsOwn IsFold at front back w (Whole len x) e (v, r, split, size, t, spells, own, fold) = (v, r ++ back, sym e ∙ (ap (λ z. z ++ back) split ∙ append_assoc v r back), size, t, spells, own, fold)
attempt_front IsOwn IsFold at front back w (Unsaid looked) e h = tt

-- the attempt saw the first n bytes
pub attempt_seen : {X : Type 0} (IsOwn : X → Type 0) (IsFold : X → Tree → Type 0) (at n : ℕ) (w : List ℕ) (len : ℕ) (x : X) (a : Attempt X) → a ≡ Whole len x → IsAttempt IsOwn IsFold at (take n w) a → IsAttempt IsOwn IsFold at w (Whole len x)
attempt_seen IsOwn IsFold at n w len x a e h = subst (λ z. IsAttempt IsOwn IsFold at w z) e (attempt_front IsOwn IsFold at (take n w) (drop n w) w a (take-append-drop n w) h)
