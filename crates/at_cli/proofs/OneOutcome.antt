-- The words and the files have at most one outcome: a law of the definitions, which no function's contract is needed for.
-- For `top`.
use Rattle.std.proofs.Common.{◌≡◌, inl, inr, ℕ, ◌<◌, ◌≤◌, ◌^◌, Bool, true, false, List, [], length, Option, Some, None, refl, sym, ◌∙◌, ap, subst, arith, true≢false}
use Rattle.std.proofs.lemmas.Option.{none-some, same_Some}
use Rattle.at_io.specs.Files.{Files}
use Rattle.at_query.specs.declared.query.queries.Query.{Query}
use Rattle.at_query.specs.Printing.{printed}
use Rattle.at_query.proofs.OneQuery.{one_query, one_query_fault, query_or_fault}
use Rattle.at_run.specs.declared.forms.Form.{Form}
use Rattle.at_cli.specs.declared.words.line.Line.{Line}
use Rattle.at_cli.specs.LineOf.{form_of}
use Rattle.at_cli.specs.Made.{is_made}
use Rattle.at_cli.proofs.OneMade.{one_made_text}
use Rattle.at_cli.specs.Texts.{usage_line, query_line, files_line, size_line, fault_line}
use Rattle.at_cli.specs.Outcomes.{Outcome, stopped, answered, has_right_count, HasBytesBy, Sized, HasBytesOutcome, HasPairOutcome, HasFilesOutcome, HasCountedOutcome, HasLineOutcome, HasOutcome, TheOutcome, IsQueryRefused, IsLineRefused, AreRefused, IsLineAccepted, AreAccepted}
use Rattle.at_cli.specs.declared.outcome.ending.Ending.{Ending}
use Rattle.at_cli.specs.Endings.{outcome_by, Ends}
use Rattle.at_cli.proofs.OneLine.{one_line}
use Rattle.at_run.proofs.OneAnswer.{one_file_fault_in, one_file_answer, answer_or_fault, one_join_answer, join_or_first_fault, join_or_second_fault}

-- ---- one outcome of what is the same

too_long : (n limit : ℕ) → limit < n → n ≤ limit → ⊥
too_long n limit h k = omega arith

-- a name has at most one list of bytes
one_bytes_by : (t : Bool) (files : Files) (name a b : List ℕ) → HasBytesBy t files name a → HasBytesBy t files name b → a ≡ b
one_bytes_by true files name a b h k = one_made_text name a b h k
one_bytes_by false files name a b h k = same_Some a b (sym h ∙ k)

one_sized : (files : Files) (name : List ℕ) (Rest : List ℕ → Outcome → Type 0) → ((bytes : List ℕ) (x y : Outcome) → Rest bytes x → Rest bytes y → x ≡ y)
    → (a b : Outcome) → Sized files name Rest a → Sized files name Rest b → a ≡ b
one_sized files name Rest one a b (bytes, named, inl (h, e)) (others, also, inl (k, i)) = e ∙ sym i
one_sized files name Rest one a b (bytes, named, inl (h, e)) (others, also, inr (k, more)) =
    absurd (too_long (length others) (2 ^ 28) (let P : List ℕ → Type 0 = λ w. 2 ^ 28 < length w in subst P (one_bytes_by (is_made name) files name bytes others named also) h) k)
one_sized files name Rest one a b (bytes, named, inr (h, more)) (others, also, inl (k, i)) =
    absurd (too_long (length others) (2 ^ 28) k (let P : List ℕ → Type 0 = λ w. length w ≤ 2 ^ 28 in subst P (one_bytes_by (is_made name) files name bytes others named also) h))
one_sized files name Rest one a b (bytes, named, inr (h, more)) (others, also, inr (k, further)) =
    one others a b (let P : List ℕ → Type 0 = λ w. Rest w a in subst P (one_bytes_by (is_made name) files name bytes others named also) more) further

module _ (line : Line) where
  -- the form of the first file
  abbrev form : Form
  form = form_of line line.first

  module _ (query : Query) where
    one_of_bytes : (bytes : List ℕ) (a b : Outcome) → HasBytesOutcome line query bytes a → HasBytesOutcome line query bytes b → a ≡ b
    one_of_bytes bytes a b (inl (f, h, e)) (inl (g, k, i)) =
        let same : f ≡ g = same_Some f g (one_file_fault_in form line.digits line.how bytes (Some f) (Some g) h k) in
        e ∙ (ap (λ z. stopped 1 (fault_line line.first z)) same ∙ sym i)
    one_of_bytes bytes a b (inl (f, h, e)) (inr (answer, k, i)) = absurd (answer_or_fault form line.digits line.how query bytes answer f k h)
    one_of_bytes bytes a b (inr (answer, h, e)) (inl (g, k, i)) = absurd (answer_or_fault form line.digits line.how query bytes answer g h k)
    one_of_bytes bytes a b (inr (x, h, e)) (inr (y, k, i)) = e ∙ (ap (λ z. answered (printed line.digits z)) (one_file_answer form line.digits line.how query bytes x y h k) ∙ sym i)

    -- the first fault of the first file that has one, or the join
    one_of_pair : (second a b : List ℕ) (x y : Outcome) → HasPairOutcome line query second a b x → HasPairOutcome line query second a b y → x ≡ y
    one_of_pair second a b x y (inl (f, h, e)) (inl (g, k, i)) =
        let same : f ≡ g = same_Some f g (one_file_fault_in form line.digits line.how a (Some f) (Some g) h k) in
        e ∙ (ap (λ z. stopped 1 (fault_line line.first z)) same ∙ sym i)
    one_of_pair second a b x y (inl (f, h, e)) (inr (inl (g, (k, l), i))) = absurd (none-some f (one_file_fault_in form line.digits line.how a None (Some f) k h))
    one_of_pair second a b x y (inl (f, h, e)) (inr (inr (answer, k, i))) = absurd (join_or_first_fault form (form_of line second) line.digits line.how query a b answer f k h)
    one_of_pair second a b x y (inr (inl (f, (h, l), e))) (inl (g, k, i)) = absurd (none-some g (one_file_fault_in form line.digits line.how a None (Some g) h k))
    one_of_pair second a b x y (inr (inl (f, (h, l), e))) (inr (inl (g, (k, m), i))) =
        let same : f ≡ g = same_Some f g (one_file_fault_in (form_of line second) line.digits line.how b (Some f) (Some g) l m) in
        e ∙ (ap (λ z. stopped 1 (fault_line second z)) same ∙ sym i)
    one_of_pair second a b x y (inr (inl (f, (h, l), e))) (inr (inr (answer, k, i))) = absurd (join_or_second_fault form (form_of line second) line.digits line.how query a b answer f k l)
    one_of_pair second a b x y (inr (inr (answer, h, e))) (inl (g, k, i)) = absurd (join_or_first_fault form (form_of line second) line.digits line.how query a b answer g h k)
    one_of_pair second a b x y (inr (inr (answer, h, e))) (inr (inl (g, (k, l), i))) = absurd (join_or_second_fault form (form_of line second) line.digits line.how query a b answer g h l)
    one_of_pair second a b x y (inr (inr (one, h, e))) (inr (inr (other, k, i))) =
        e ∙ (ap (λ z. answered (printed line.digits z)) (one_join_answer form (form_of line second) line.digits line.how query a b one other h k) ∙ sym i)

    module _ (files : Files) where
      one_of_files : (second : Option (List ℕ)) (a b : Outcome) → HasFilesOutcome second line query files a → HasFilesOutcome second line query files b → a ≡ b
      one_of_files None a b h k = one_sized files line.first (HasBytesOutcome line query) (λ bytes x y p q. one_of_bytes bytes x y p q) a b h k
      one_of_files (Some second) a b h k =
          one_sized files line.first (λ bytes. Sized files second (HasPairOutcome line query second bytes))
          (λ bytes x y p q. one_sized files second (HasPairOutcome line query second bytes) (λ others z w r t. one_of_pair second bytes others z w r t) x y p q) a b h k

      one_counted : (right : Bool) (a b : Outcome) → HasCountedOutcome right line query files a → HasCountedOutcome right line query files b → a ≡ b
      one_counted false a b h k = h ∙ sym k
      one_counted true a b h k = one_of_files line.second a b h k

  one_of_line : (files : Files) (a b : Outcome) → HasLineOutcome line files a → HasLineOutcome line files b → a ≡ b
  one_of_line files a b (inl (m, h, e)) (inl (n, k, i)) = e ∙ (ap (λ z. stopped 2 (query_line z)) (one_query_fault line.digits line.how line.query m n h k) ∙ sym i)
  one_of_line files a b (inl (m, h, e)) (inr (q, k, i)) = absurd (query_or_fault line.digits line.how line.query q m k h)
  one_of_line files a b (inr (p, h, e)) (inl (n, k, i)) = absurd (query_or_fault line.digits line.how line.query p n h k)
  one_of_line files a b (inr (p, h, e)) (inr (q, k, i)) =
      let same : p ≡ q = one_query line.digits line.how line.query p q h k in
      one_counted q files (has_right_count q.verb line.second) a b (subst (λ (z : Query). HasCountedOutcome (has_right_count z.verb line.second) line z files a) same e) i

  one_refused_query : (query : Query) (a b : List ℕ) → IsQueryRefused line query a → IsQueryRefused line query b → a ≡ b
  one_refused_query query a b (h, e) (k, i) = e ∙ sym i

  one_refused_line : (a b : List ℕ) → IsLineRefused line a → IsLineRefused line b → a ≡ b
  one_refused_line a b (inl (m, h, e)) (inl (n, k, i)) = e ∙ (ap query_line (one_query_fault line.digits line.how line.query m n h k) ∙ sym i)
  one_refused_line a b (inl (m, h, e)) (inr (q, k, i)) = absurd (query_or_fault line.digits line.how line.query q m k h)
  one_refused_line a b (inr (p, h, e)) (inl (n, k, i)) = absurd (query_or_fault line.digits line.how line.query p n h k)
  one_refused_line a b (inr (p, h, e)) (inr (q, k, i)) = one_refused_query q a b (subst (λ z. IsQueryRefused line z a) (one_query line.digits line.how line.query p q h k) e) i

  pub refused_not_accepted : (refusal : List ℕ) → IsLineRefused line refusal → IsLineAccepted line → ⊥
  refused_not_accepted refusal (inl (m, h, e)) (q, k, i) = query_or_fault line.digits line.how line.query q m k h
  refused_not_accepted refusal (inr (p, h, e)) (q, k, right) =
      let (wrong, i) = subst (λ z. IsQueryRefused line z refusal) (one_query line.digits line.how line.query p q h k) e in true≢false (sym right ∙ wrong)

  -- ---- what is refused is the outcome

  refused_outcome_of : (query : Query) (files : Files) (refusal : List ℕ) → IsQueryRefused line query refusal → HasCountedOutcome (has_right_count query.verb line.second) line query files (stopped 2 refusal)
  refused_outcome_of query files refusal (wrong, e) = subst (λ z. HasCountedOutcome z line query files (stopped 2 refusal)) (sym wrong) (ap (stopped 2) e)

  refused_outcome : (files : Files) (refusal : List ℕ) → IsLineRefused line refusal → HasLineOutcome line files (stopped 2 refusal)
  refused_outcome files refusal (inl (m, h, e)) = inl (m, h, ap (stopped 2) e)
  refused_outcome files refusal (inr (q, h, e)) = inr (q, h, refused_outcome_of q files refusal e)

  -- ---- an outcome of status 2 is what is refused

  never_two : (o : Outcome) (status : ℕ) (text out : List ℕ) → o ≡ record { status = status; out = out; err = text } → o.status ≡ 2 → (status ≡ 2 → ⊥) → ⊥
  never_two o status text out e h n = n (sym (ap (λ (z : Outcome). z.status) e) ∙ h)

  sized_not_two : (files : Files) (name : List ℕ) (Rest : List ℕ → Outcome → Type 0) → ((bytes : List ℕ) (o : Outcome) → Rest bytes o → o.status ≡ 2 → ⊥) → (o : Outcome) → Sized files name Rest o → o.status ≡ 2 → ⊥
  sized_not_two files name Rest never o (bytes, named, inl (large, e)) h = never_two o 6 (size_line name) [] e h (λ z. cc)
  sized_not_two files name Rest never o (bytes, named, inr (small, rest)) h = never bytes o rest h

  bytes_not_two : (query : Query) (bytes : List ℕ) (o : Outcome) → HasBytesOutcome line query bytes o → o.status ≡ 2 → ⊥
  bytes_not_two query bytes o (inl (f, k, e)) h = never_two o 1 (fault_line line.first f) [] e h (λ z. cc)
  bytes_not_two query bytes o (inr (answer, k, e)) h = never_two o 0 [] (printed line.digits answer) e h (λ z. cc)

  pair_not_two : (query : Query) (second a b : List ℕ) (o : Outcome) → HasPairOutcome line query second a b o → o.status ≡ 2 → ⊥
  pair_not_two query second a b o (inl (f, k, e)) h = never_two o 1 (fault_line line.first f) [] e h (λ z. cc)
  pair_not_two query second a b o (inr (inl (f, k, e))) h = never_two o 1 (fault_line second f) [] e h (λ z. cc)
  pair_not_two query second a b o (inr (inr (answer, k, e))) h = never_two o 0 [] (printed line.digits answer) e h (λ z. cc)

  files_not_two : (query : Query) (files : Files) (second : Option (List ℕ)) (o : Outcome) → HasFilesOutcome second line query files o → o.status ≡ 2 → ⊥
  files_not_two query files None o k h = sized_not_two files line.first (HasBytesOutcome line query) (λ bytes x r t. bytes_not_two query bytes x r t) o k h
  files_not_two query files (Some second) o k h =
      sized_not_two files line.first (λ a. Sized files second (HasPairOutcome line query second a))
      (λ a x r t. sized_not_two files second (HasPairOutcome line query second a) (λ b y u v. pair_not_two query second a b y u v) x r t) o k h

  refused_of_counted : (query : Query) (files : Files) (o : Outcome) (t : Bool) → has_right_count query.verb line.second ≡ t → HasCountedOutcome t line query files o → o.status ≡ 2
      → (refusal : List ℕ) × IsQueryRefused line query refusal × (o ≡ stopped 2 refusal)
  refused_of_counted query files o false wrong e h = (files_line, (wrong, refl), e)
  refused_of_counted query files o true right k h = absurd (files_not_two query files line.second o k h)

  refused_of_line : (files : Files) (o : Outcome) → HasLineOutcome line files o → o.status ≡ 2 → (refusal : List ℕ) × IsLineRefused line refusal × (o ≡ stopped 2 refusal)
  refused_of_line files o (inl (m, k, e)) h = (query_line m, inl (m, k, refl), e)
  refused_of_line files o (inr (q, k, e)) h = let (refusal, refused, same) = refused_of_counted q files o (has_right_count q.verb line.second) refl e h in (refusal, inr (q, k, refused), same)

-- ---- the laws

-- the words and the files have at most one outcome: one status, one text to the output, one text to the error output
pub one_outcome : (words : List (List ℕ)) (files : Files) (a b : Outcome) → HasOutcome words files a → HasOutcome words files b → a ≡ b
one_outcome words files a b (inl (none, e)) (inl (also, i)) = e ∙ sym i
one_outcome words files a b (inl (none, e)) (inr (line, says, k)) = absurd (none line says)
one_outcome words files a b (inr (line, says, h)) (inl (none, i)) = absurd (none line says)
one_outcome words files a b (inr (line, says, h)) (inr (other, also, k)) = one_of_line other files a b (subst (λ z. HasLineOutcome z files a) (one_line words line other says also) h) k

-- so an outcome is the only one, and an end that stands for one stands for the only one
pub the_outcome : (words : List (List ℕ)) (files : Files) (o : Outcome) → HasOutcome words files o → TheOutcome words files o
the_outcome words files o h = record { has = h; only = λ other k. one_outcome words files other o k h }

pub ends_only : (words : List (List ℕ)) (files : Option Files) (e : Ending) → Ends (HasOutcome words) files e → Ends (TheOutcome words) files e
ends_only words files e (inl three) = inl three
ends_only words files e (inr (inl five)) = inr (inl five)
ends_only words None e (inr (inr h)) = inr (inr tt)
ends_only words (Some told) e (inr (inr h)) = inr (inr (the_outcome words told (outcome_by e) h))

-- the words are refused with at most one line
pub one_refusal : (words : List (List ℕ)) (a b : List ℕ) → AreRefused words a → AreRefused words b → a ≡ b
one_refusal words a b (inl (none, e)) (inl (also, i)) = e ∙ sym i
one_refusal words a b (inl (none, e)) (inr (line, says, k)) = absurd (none line says)
one_refusal words a b (inr (line, says, h)) (inl (none, i)) = absurd (none line says)
one_refusal words a b (inr (line, says, h)) (inr (other, also, k)) = one_refused_line other a b (subst (λ z. IsLineRefused z a) (one_line words line other says also) h) k

-- or accepted with at most one line, and not both
pub one_accepted : (words : List (List ℕ)) (a b : Line) → AreAccepted words a → AreAccepted words b → a ≡ b
one_accepted words a b (says, h) (also, k) = one_line words a b says also

pub refused_or_accepted : (words : List (List ℕ)) (refusal : List ℕ) (other : Line) → AreRefused words refusal → AreAccepted words other → ⊥
refused_or_accepted words refusal other (inl (none, e)) (says, k) = none other says
refused_or_accepted words refusal other (inr (line, says, h)) (also, k) = refused_not_accepted other refusal (subst (λ z. IsLineRefused z refusal) (one_line words line other says also) h) k

-- words that are refused have the refusal as their outcome, whatever the files are
pub refusal_is_outcome : (words : List (List ℕ)) (files : Files) (refusal : List ℕ) → AreRefused words refusal → HasOutcome words files (stopped 2 refusal)
refusal_is_outcome words files refusal (inl (none, e)) = inl (none, ap (stopped 2) e)
refusal_is_outcome words files refusal (inr (line, says, h)) = inr (line, says, refused_outcome line files refusal h)

-- and an outcome of that status is a refusal
pub outcome_is_refusal : (words : List (List ℕ)) (files : Files) (o : Outcome) → HasOutcome words files o → o.status ≡ 2 → (refusal : List ℕ) × AreRefused words refusal × (o ≡ stopped 2 refusal)
outcome_is_refusal words files o (inl (none, e)) h = (usage_line, inl (none, refl), e)
outcome_is_refusal words files o (inr (line, says, k)) h = let (refusal, refused, same) = refused_of_line line files o k h in (refusal, inr (line, says, refused), same)
