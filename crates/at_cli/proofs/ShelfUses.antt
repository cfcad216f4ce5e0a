-- What the shelf was asked for, name after name, and what the end is over the names' bytes.
-- For `top`.
use Rattle.std.proofs.Common.{◌≡◌, ℕ, ◌+◌, ◌^◌, ◌<◌, ◌≤◌, ◌⊎◌, inl, inr, Bool, true, false, if◌then◌else◌, List, [], ◌∷◌, ◌++◌, length, Option, Some, None, IfSome, is_some, Result, Err, refl, sym, ◌∙◌, ap, subst, arith, append-nil, append_assoc, length-append, true≢false}
use Rattle.std.specs.Prelude.{IsSome}
use Rattle.at_io.specs.Counts.{next_count, Rose}
use Rattle.at_io.specs.declared.whole.ReadError.{ReadError}
use Rattle.at_io.specs.declared.whole.ReadError.TheVariants.{Failed, TooLarge as Large}
use Rattle.at_io.specs.Files.{Files, bytes_named, name_among}
use Rattle.at_query.specs.declared.query.queries.Verb.{Verb}
use Rattle.at_query.specs.declared.query.queries.Verb.TheVariants as verbs
use Rattle.at_cli.specs.declared.outcome.ending.Ending.{Ending}
use Rattle.at_cli.specs.Made.{is_made}
use Rattle.at_cli.specs.Texts.{unread_line}
use Rattle.at_cli.specs.Outcomes.{Outcome, has_right_count, HasBytesBy, HasBytes, Sized}
use Rattle.at_cli.specs.Failures.{asked_name, begun_with, last_begun, Meanings, WasAsked, AsksFor, HaveSized, FailedOn}
use Rattle.at_cli.specs.Endings.{status_of, outcome_by, Ends}
use Rattle.at_cli.proofs.Growth.{rose_on}

-- ---- the bytes of a name

pub by_shelf : (files : Option Files) (name bytes : List ℕ) → is_made name ≡ false → IfSome files (λ told. bytes_named told name ≡ Some bytes) → IfSome files (λ told. HasBytes told name bytes)
by_shelf None name bytes e h = tt
by_shelf (Some told) name bytes e h = let P : Bool → Type 0 = λ t. HasBytesBy t told name bytes in subst P (sym e) h

abbrev pub IsLarge : Option Files → List ℕ → Type 0
IsLarge files name = IfSome files (λ told. (bytes : List ℕ) × HasBytes told name bytes × (2 ^ 28 < length bytes))

large_of : (o : Option (List ℕ)) → IsSome o → IfSome o (λ bytes. 2 ^ 28 < length bytes) → (bytes : List ℕ) × (o ≡ Some bytes) × (2 ^ 28 < length bytes)
large_of (Some bytes) there large = (bytes, refl, large)
large_of None there large = absurd (true≢false (sym there))

pub large_by_shelf : (files : Option Files) (name : List ℕ) → is_made name ≡ false → IfSome files (λ told. IsSome (bytes_named told name)) → IfSome files (λ told. IfSome (bytes_named told name) (λ bytes. 2 ^ 28 < length bytes)) → IsLarge files name
large_by_shelf None name e there large = tt
large_by_shelf (Some told) name e there large =
    let (bytes, is, h) = large_of (bytes_named told name) there large in
    (bytes, (let P : Bool → Type 0 = λ t. HasBytesBy t told name bytes in subst P (sym e) is), h)

-- a file that is too large is there
pub there_of : {X : Type 0} (r : Result X ReadError) (P : Type 0) → r ≡ Err Large → (r ≡ Err Failed) ⊎ P → P
there_of r P e (inr h) = h
there_of {X} r P e (inl failed) = absurd (let clash : ◌≡◌ {A = Result X ReadError} (Err Large) (Err Failed) = sym e ∙ failed in cc)

-- ---- what was asked

-- a shelf of which nothing is asked tells the same
pub none_asked : (m : Meanings) → WasAsked [] m m
none_asked m = record { begun = refl; least = omega arith; limit = omega arith; last = same m.files m.named } where
  same : (files : Option Files) (named : Option (List ℕ)) → IfSome files (λ told. named ≡ last_begun told [] named)
  same None named = tt
  same (Some told) named = refl

asked_is : (name : List ℕ) → is_made name ≡ false → asked_name name ≡ name ∷ []
asked_is name e = ap (λ t. if t then [] else name ∷ []) e

pub name_asked : (name : List ℕ) (m n : Meanings) → is_made name ≡ false
    → n.begins ≡ next_count m.begins → m.taken ≤ n.taken → n.taken ≤ m.taken + (2 ^ 28 + 1) → IfSome m.files (λ told. n.named ≡ name_among told name) → WasAsked (asked_name name) m n
name_asked name m n e begun least limit last =
    let P : List (List ℕ) → Type 0 = λ l. WasAsked l m n in
    subst P (sym (asked_is name e)) (record { begun = begun; least = least; limit = omega (arith, limit); last = last })

begun_both : (ns ms : List (List ℕ)) (n : ℕ) → begun_with ms (begun_with ns n) ≡ begun_with (ns ++ ms) n
begun_both [] ms n = refl
begun_both (x ∷ ns) ms n = begun_both ns ms (next_count n)

last_both : (told : Files) (ns ms : List (List ℕ)) (named : Option (List ℕ)) → last_begun told ms (last_begun told ns named) ≡ last_begun told (ns ++ ms) named
last_both told [] ms named = refl
last_both told (x ∷ ns) ms named = last_both told ns ms (name_among told x)

-- what holds of the files holds of the same files
with_files : (files other : Option Files) (P : Files → Type 0) → other ≡ files → IfSome other P → IfSome files P
with_files files other P e h = subst (λ o. IfSome o P) e h

pub both_asked : (ns ms : List (List ℕ)) (m mid after : Meanings) → mid.files ≡ m.files → WasAsked ns m mid → WasAsked ms mid after → WasAsked (ns ++ ms) m after
both_asked ns ms m mid after same h k = record {
  begun = k.begun ∙ (ap (begun_with ms) h.begun ∙ begun_both ns ms m.begins);
  least = (let l = h.least in let o = k.least in omega (arith, l, o));
  limit = (let l = h.limit in let o = k.limit in omega (arith, l, o, length-append ns ms));
  last = last m.files h.last (with_files m.files mid.files (λ told. after.named ≡ last_begun told ms mid.named) same k.last);
} where
  last : (files : Option Files) → IfSome files (λ told. mid.named ≡ last_begun told ns m.named) → IfSome files (λ told. after.named ≡ last_begun told ms mid.named)
      → IfSome files (λ told. after.named ≡ last_begun told (ns ++ ms) m.named)
  last None p q = tt
  last (Some told) p q = q ∙ (ap (last_begun told ms) p ∙ last_both told ns ms m.named)

pub asks_all : (ns : List (List ℕ)) (m n : Meanings) → WasAsked ns m n → AsksFor ns m n
asks_all ns m n h = record { front = ns; behind = []; in_turn = sym (append-nil ns); was_asked = h }

-- ---- failures

none_before : (files : Option Files) → IfSome files (λ told. HaveSized told [])
none_before None = tt
none_before (Some told) = tt

-- a name of which the shelf is asked has bytes within the limit
sized_by : (t made : Bool) (told : Files) (name bytes : List ℕ) → t ≡ made → HasBytesBy made told name bytes → length bytes ≤ 2 ^ 28 → HaveSized told (if t then [] else name ∷ [])
sized_by true made told name bytes e h small = tt
sized_by false true told name bytes e h small = absurd (true≢false (sym e))
sized_by false false told name bytes e h small = ((bytes, h, small), tt)

pub name_sized : (files : Option Files) (name bytes : List ℕ) → IfSome files (λ told. HasBytes told name bytes) → length bytes ≤ 2 ^ 28 → IfSome files (λ told. HaveSized told (asked_name name))
name_sized None name bytes h small = tt
name_sized (Some told) name bytes h small = sized_by (is_made name) (is_made name) told name bytes refl h small

both_sized : (files : Option Files) (ns ms : List (List ℕ)) → IfSome files (λ told. HaveSized told ns) → IfSome files (λ told. HaveSized told ms) → IfSome files (λ told. HaveSized told (ns ++ ms))
both_sized None ns ms h k = tt
both_sized (Some told) [] ms h k = k
both_sized (Some told) (n ∷ ns) ms (one, h) k = (one, both_sized (Some told) ns ms h k)

failed_name : (name : List ℕ) (more : List (List ℕ)) (m n : Meanings) → is_made name ≡ false → Rose m.faults n.faults → n.broken ≡ n.begins
    → WasAsked (asked_name name) m n → FailedOn (asked_name name ++ more) (unread_line name) m n
failed_name name more m n e rose broken asked = record {
  earlier = [];
  name = name;
  behind = more;
  in_turn = ap (λ l. l ++ more) (asked_is name e);
  told = refl;
  cause = rose;
  broken = broken;
  was_asked = (let P : List (List ℕ) → Type 0 = λ l. WasAsked l m n in subst P (asked_is name e) asked);
  earlier_sized = none_before m.files;
}

-- the name was lent as this text
pub failed_as : (text name : List ℕ) (more : List (List ℕ)) (m n : Meanings) → text ≡ name → (is_made text ≡ false) × Rose m.faults n.faults × (n.broken ≡ n.begins)
    → WasAsked (asked_name text) m n → FailedOn (asked_name name ++ more) (unread_line name) m n
failed_as text name more m n same (unmade, rose, broken) asked =
    let F : List ℕ → Type 0 = λ name. FailedOn (asked_name name ++ more) (unread_line name) m n in subst F same (failed_name text more m n unmade rose broken asked)

pub failed_behind : (ns ms : List (List ℕ)) (line : List ℕ) (m mid after : Meanings) → mid.files ≡ m.files → WasAsked ns m mid → m.faults ≤ mid.faults
    → IfSome m.files (λ told. HaveSized told ns) → FailedOn ms line mid after → FailedOn (ns ++ ms) line m after
failed_behind ns ms line m mid after same h le sized failed = record {
  earlier = ns ++ failed.earlier;
  name = failed.name;
  behind = failed.behind;
  in_turn = ap (λ l. ns ++ l) failed.in_turn ∙ sym (append_assoc ns failed.earlier (failed.name ∷ failed.behind));
  told = failed.told;
  cause = rose_on m.faults mid.faults after.faults le failed.cause;
  broken = failed.broken;
  was_asked = (let P : List (List ℕ) → Type 0 = λ l. WasAsked l m after in
      subst P (sym (append_assoc ns failed.earlier (failed.name ∷ []))) (both_asked ns (failed.earlier ++ (failed.name ∷ [])) m mid after same h failed.was_asked));
  earlier_sized = both_sized m.files ns failed.earlier sized (with_files m.files mid.files (λ told. HaveSized told failed.earlier) same failed.earlier_sized);
}

-- ---- ends

pub ends_more : (files : Option Files) (name bytes : List ℕ) (Rest : Files → List ℕ → Outcome → Type 0) (e : Ending) → IfSome files (λ told. HasBytes told name bytes) → length bytes ≤ 2 ^ 28
    → Ends (λ told. Rest told bytes) files e → Ends (λ told. Sized told name (Rest told)) files e
ends_more files name bytes Rest e named small (inl three) = inl three
ends_more files name bytes Rest e named small (inr (inl five)) = inr (inl five)
ends_more None name bytes Rest e named small (inr (inr h)) = inr (inr tt)
ends_more (Some told) name bytes Rest e named small (inr (inr h)) = inr (inr (bytes, named, inr (small, h)))

pub ends_sized : (files : Option Files) (name bytes : List ℕ) (Rest : List ℕ → Outcome → Type 0) (e : Ending) → IfSome files (λ told. HasBytes told name bytes) → length bytes ≤ 2 ^ 28
    → (status_of e ≡ 5) ⊎ Rest bytes (outcome_by e) → Ends (λ told. Sized told name Rest) files e
ends_sized files name bytes Rest e named small (inl five) = inr (inl five)
ends_sized None name bytes Rest e named small (inr h) = inr (inr tt)
ends_sized (Some told) name bytes Rest e named small (inr h) = inr (inr (bytes, named, inr (small, h)))

-- ---- counts of names

pub join_has_second : (verb : Verb) (second : Option (List ℕ)) → has_right_count verb second ≡ true → verb ≡ verbs.Join → is_some second ≡ true
join_has_second verb (Some second) right e = refl
join_has_second verb None right e = absurd (true≢false (sym right ∙ ap (λ v. has_right_count v None) e))

pub other_has_none : (verb : Verb) (second : Option (List ℕ)) → has_right_count verb second ≡ true → (verb ≡ verbs.Join → ⊥) → second ≡ None
other_has_none verb None right n = refl
other_has_none verbs.Join (Some second) right n = absurd (n refl)
other_has_none _ (Some second) right n = absurd (true≢false (sym right))

-- what holds where there is a second name holds of the names that there are
pub with_second : (second : Option (List ℕ)) (P : Option (List ℕ) → Type 0) → is_some second ≡ true → ((name : List ℕ) → second ≡ Some name → P (Some name)) → P second
with_second (Some name) P there h = h name refl
with_second None P there h = absurd (true≢false (sym there))

pub with_none : (second : Option (List ℕ)) (P : Option (List ℕ) → Type 0) → second ≡ None → P None → P second
with_none second P none h = subst P (sym none) h
