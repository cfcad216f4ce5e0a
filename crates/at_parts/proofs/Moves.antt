-- Words of a grammar from one offset to another, and the syntax fault of the same bytes at both.
-- For `sequence_features`, `sequence_faults`, `sound_parts`, `first_syntax_fault`, `line_features` and `line_faults`.
use Rattle.std.proofs.Common.{◌≡◌, ℕ, ◌+◌, ◌-◌, List, ◌++◌, length, take, arith, sym, ◌∙◌, ap}
use Rattle.at_text.specs.declared.faults.Fault.{Fault}
use Rattle.at_text.specs.Syntax.{IsSyntaxFault, stop_fault}
use Rattle.at_text.specs.Parts.{◌▸◌, At}
use Rattle.at_parts.specs.Moved.{fault_moved}

-- the offsets behind the one become those behind the other
abbrev pub Meets : (ℕ → ℕ) → ℕ → ℕ → Type 0
Meets f i j = (n : ℕ) → f (i + n) ≡ j + n

-- a word of P at an offset is a word of Q at the other
pub record Moves (f : ℕ → ℕ) (P Q : ℕ → List ℕ → Type 0) : Type 0 where
  pub moved : (i j : ℕ) (w : List ℕ) → Meets f i j → P i w → Q j w

pub same_moves : {f : ℕ → ℕ} (P : List ℕ → Type 0) → Moves f (λ i. P) (λ i. P)
same_moves P = record { moved = λ i j w meets h. h }

pub then_moves : {f : ℕ → ℕ} {P R Q S : ℕ → List ℕ → Type 0} → Moves f P R → Moves f Q S → Moves f (P ▸ Q) (R ▸ S)
then_moves {f} one two = record { moved = λ i j w meets (v, r, e, p, q). (v, r, e, one.moved i j v meets p, two.moved (i + length v) (j + length v) r (further i j (length v) meets) q) } where
  further : (i j k : ℕ) → Meets f i j → Meets f (i + k) (j + k)
  further i j k meets n = let place : i + k + n ≡ i + (k + n) = omega arith in ap f place ∙ (meets (k + n) ∙ omega arith)

pub at_moves : {f : ℕ → ℕ} {P R : ℕ → List ℕ → Type 0} (k : ℕ) → Moves f P R → Moves f (At k P) (At (f k) R)
at_moves {f} k one = record { moved = λ i j w meets h. (lands k i j meets h.0, one.moved i j w meets h.1) } where
  lands : (k i j : ℕ) → Meets f i j → k ≡ i → f k ≡ j
  lands k i j meets e = let place : k ≡ i + 0 = omega (arith, e) in ap f place ∙ (meets 0 ∙ omega arith)

pub meets_on : (d at : ℕ) → Meets (λ i. d + i) at (d + at)
meets_on d at n = omega arith

pub meets_back : (d at : ℕ) → Meets (λ i. i - d) (d + at) at
meets_back d at n = omega arith

-- ---- the syntax fault

stop_moved : (d at : ℕ) (w : List ℕ) (n : ℕ) → stop_fault (d + at) w n ≡ fault_moved d (stop_fault at w n)
stop_moved d at w n = grind arith

-- where the same bytes are words at both offsets
pub syntax_moved : (d at : ℕ) (L K : List ℕ → Type 0) → ((v : List ℕ) → L v → K v) → ((v : List ℕ) → K v → L v) → (w : List ℕ) (f : Fault) → IsSyntaxFault L at w f → IsSyntaxFault K (d + at) w (fault_moved d f)
syntax_moved d at L K there back w f h = record {
  no_word = λ word. h.no_word (back w word);
  taken = h.taken;
  longest = record {
    fits = h.longest.fits;
    front = (h.longest.front.0, there (take h.taken w ++ h.longest.front.0) h.longest.front.1);
    longest = λ below k. h.longest.longest below (k.0, back (take (h.taken + 1) w ++ k.0) k.1);
  };
  place = ap (fault_moved d) h.place ∙ sym (stop_moved d at w h.taken);
}
