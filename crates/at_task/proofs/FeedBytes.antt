-- The bytes of a feed before and after some of them were taken.
-- For `draw`, `take_chunk` and `poll`.
use Rattle.std.proofs.Common.{◌≡◌, ℕ, List, [], ◌++◌, take, drop, Option, Some, None, IfSome, subst, sym, ap, ◌∙◌, refl}
use Rattle.std.proofs.lemmas.List.{append_assoc, append-nil, take-append-drop}
use Rattle.at_run.specs.Readers.{Asks}
use Rattle.at_task.specs.FeedEnds.{AreFeedBytes}
use Rattle.at_task.specs.Ranking.{KeepsBytes}

-- a chunk is taken
pub chunk_taken : (before taken chunk : List ℕ) (n : ℕ) (rest left : Option (List ℕ)) → taken ≡ before ++ chunk
    → IfSome rest (λ told. (chunk ≡ take n told) × (left ≡ Some (drop n told))) → KeepsBytes before rest taken left
chunk_taken before taken chunk n None left e h = tt
chunk_taken before taken chunk n (Some told) left e (f, k) =
    let all : told ≡ chunk ++ drop n told = sym (take-append-drop n told) ∙ ap (λ w. w ++ drop n told) (sym f) in
    (drop n told, k, ap (λ w. before ++ w) all ∙ sym (append_assoc before chunk (drop n told)) ∙ ap (λ w. w ++ drop n told) (sym e))

module _ (before taken more : List ℕ) (grown : taken ≡ before ++ more) where
  -- what may be all bytes later may be all bytes before
  pub same_bytes : (rest left : Option (List ℕ)) → KeepsBytes before rest taken left → (bytes : List ℕ) → AreFeedBytes taken left bytes → AreFeedBytes before rest bytes
  same_bytes (Some told) left (m, e, f) bytes h =
      let all : bytes ≡ taken ++ m = subst (λ z. AreFeedBytes taken z bytes) e h in
      all ∙ sym f
  same_bytes None (Some told) keeps bytes h = (more ++ told, h ∙ ap (λ w. w ++ told) grown ∙ append_assoc before more told)
  same_bytes None None keeps bytes (told, h) = (more ++ told, h ∙ ap (λ w. w ++ told) grown ∙ append_assoc before more told)

  -- there are such bytes, which begin with what was taken
  pub some_bytes : (rest left : Option (List ℕ)) → KeepsBytes before rest taken left → (behind : List ℕ) × AreFeedBytes before rest (taken ++ behind)
  some_bytes (Some told) left (m, e, f) = (m, sym f)
  some_bytes None left keeps = ([], (more, append-nil taken ∙ grown))

  -- where nothing is left they are what was taken
  pub end_bytes : (rest left : Option (List ℕ)) → KeepsBytes before rest taken left → IfSome left (λ told. told ≡ []) → AreFeedBytes before rest taken
  end_bytes (Some told) left (m, e, f) none =
      let empty : m ≡ [] = subst (λ z. IfSome z (λ told. told ≡ [])) e none in
      sym (append-nil taken) ∙ ap (λ w. taken ++ w) (sym empty) ∙ sym f
  end_bytes None left keeps none = (more, grown)

-- what is said of all bytes later is said of them before
pub said_before : (P : Asks → List ℕ → Type 0) (before taken : List ℕ) (rest left : Option (List ℕ)) {asks now : Asks} → now ≡ asks → ((more : List ℕ) × (taken ≡ before ++ more)) → KeepsBytes before rest taken left
    → ((bytes : List ℕ) × AreFeedBytes taken left bytes × P now bytes) → (bytes : List ℕ) × AreFeedBytes before rest bytes × P asks bytes
said_before P before taken rest left e (more, grown) keeps (bytes, are, h) = (bytes, same_bytes before taken more grown rest left keeps bytes are, subst (λ asks. P asks bytes) e h)

-- there are bytes of a feed
pub any_bytes : (taken : List ℕ) (rest : Option (List ℕ)) → (bytes : List ℕ) × AreFeedBytes taken rest bytes
any_bytes taken None = (taken, ([], sym (append-nil taken)))
any_bytes taken (Some rest) = (taken ++ rest, refl)

-- such as begin with what was taken
begun_bytes : (taken : List ℕ) (rest : Option (List ℕ)) → (behind : List ℕ) × AreFeedBytes taken rest (taken ++ behind)
begun_bytes taken None = ([], ([], refl))
begun_bytes taken (Some told) = (told, refl)

-- and what was taken, where nothing is left
pub emptied_bytes : (taken : List ℕ) (rest : Option (List ℕ)) → IfSome rest (λ told. told ≡ []) → AreFeedBytes taken rest taken
emptied_bytes taken None none = ([], sym (append-nil taken))
emptied_bytes taken (Some told) none = sym (append-nil taken) ∙ ap (λ w. taken ++ w) (sym none)

-- two feeds have bytes that begin with what was taken, and what holds of all bytes of each holds of these
pub both_begun : (a b : List ℕ) (r s : Option (List ℕ)) (A B : List ℕ → Type 0) → ((bytes : List ℕ) → AreFeedBytes a r bytes → A bytes) → ((bytes : List ℕ) → AreFeedBytes b s bytes → B bytes)
    → (behind : List ℕ) × (other : List ℕ) × A (a ++ behind) × B (b ++ other)
both_begun a b r s A B of_a of_b =
    let (behind, are) = begun_bytes a r in
    let (other, also) = begun_bytes b s in
    (behind, other, of_a (a ++ behind) are, of_b (b ++ other) also)
