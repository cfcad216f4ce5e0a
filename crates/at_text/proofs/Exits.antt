-- The exits of `?` where a reader stops at a place or for want of memory.
-- For the crates above.
use Rattle.std.proofs.Common.{◌≡◌, ℕ, Bool, true, false, Result, Ok, Err, refl, sym, subst}
use Rattle.std.specs.Result.{MatchResult, IfOk, IsErrAnd}
use Rattle.at_text.specs.declared.halts.Halt.{Halt}
use Rattle.at_text.specs.declared.halts.Halt.TheVariants.{At, Memory}
use Rattle.at_text.specs.Halts.{IfStopped}

pub stopped_by : (h : Halt) (Q R : ℕ → Type 0) → ((n : ℕ) → Q n → R n) → IfStopped h Q → IfStopped h R
stopped_by (At n) Q R f q = f n q
stopped_by Memory Q R f q = tt

-- the halt of a callee goes on as it is
pub exits : {X : Type 0} (r : Result X Halt) (h : Halt) (P : X → Type 0) (Q R : ℕ → Type 0) → IsErrAnd r (λ y. y ≡ h) → ((n : ℕ) → Q n → R n) → IfStopped h Q → MatchResult r P (λ e. IfStopped e R)
exits (Ok x) h P Q R e f q = absurd e
exits (Err g) h P Q R e f q = let G : Halt → Type 0 = λ z. IfStopped z R in subst G (sym e) (stopped_by h Q R f q)

-- what a call answers, said in another way
pub answers_by : {X : Type 0} (r : Result X Halt) (P P' : X → Type 0) (Q Q' : ℕ → Type 0) → MatchResult r P (λ e. IfStopped e Q) → ((x : X) → P x → P' x) → ((n : ℕ) → Q n → Q' n) → MatchResult r P' (λ e. IfStopped e Q')
answers_by (Ok x) P P' Q Q' h f g = f x h
answers_by (Err e) P P' Q Q' h f g = stopped_by e Q Q' g h

-- the end of what was taken
pub taken_ends : (whole : Bool) (r : Result ℕ Halt) (end : ℕ) (P Q : ℕ → Type 0) → (whole ≡ true → r ≡ Ok end) → (whole ≡ false → r ≡ Err (At end)) → (whole ≡ true → P end) → (whole ≡ false → Q end)
    → MatchResult r P (λ e. IfStopped e Q)
taken_ends true r end P Q word stop p q = let M : Result ℕ Halt → Type 0 = λ z. MatchResult z P (λ e. IfStopped e Q) in subst M (sym (word refl)) (p refl)
taken_ends false r end P Q word stop p q = let M : Result ℕ Halt → Type 0 = λ z. MatchResult z P (λ e. IfStopped e Q) in subst M (sym (stop refl)) (q refl)

-- the same where nothing is said of the stop
pub taken_ok : (whole : Bool) (r : Result ℕ Halt) (end : ℕ) (P : ℕ → Type 0) → (whole ≡ true → r ≡ Ok end) → (whole ≡ false → r ≡ Err (At end)) → (whole ≡ true → P end) → IfOk r P
taken_ok true r end P word stop p = let M : Result ℕ Halt → Type 0 = λ z. IfOk z P in subst M (sym (word refl)) (p refl)
taken_ok false r end P word stop p = let M : Result ℕ Halt → Type 0 = λ z. IfOk z P in subst M (sym (stop refl)) tt
