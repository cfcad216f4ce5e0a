-- What words ask for, and what is said of files behind the filter that they name.
use Rattle.std.proofs.Common.{◌≡◌, ℕ, Bool, true, false, if◌then◌else◌, bytes_eq, codes, List, [], ◌∷◌, Option, Some, None, IfSome, option_map, unwrap_or, ◌-◌, map, take, drop, length, slice_get, ◌++◌, ◌⊎◌, inl, inr, refl, sym, ◌∙◌, ap, subst}
use Rattle.std.proofs.lemmas.List.{take_rest}
use Rattle.std.proofs.lemmas.Slice.Eq.{bytes_eq-Decides}
use Rattle.std.proofs.Common.{◌≤◌, ◌+◌, ◌*◌, ◌^◌}
use Rattle.at_io.specs.Files.{Files, bytes_named, name_among}
use Rattle.at_io.specs.Counts.{Rose}
use Rattle.at_cli.specs.Failures.{Meanings, FailedOn, HaveSized, last_begun, begun_with}
use Rattle.at_filter.specs.declared.filter.Seen.TheVariants.{Nothing}
use Rattle.at_filter.proofs.Filtering.{as_many}
use Rattle.at_filter.proofs.FilteredFiles.{named_of_filtered, name_of_filtered}
use Rattle.at_filter.specs.declared.filter.Filter.{Filter}
use Rattle.at_filter.specs.declared.filter.Filter.TheVariants.{Lines, Items}
use Rattle.at_filter.specs.Filters.{filtered, filtered_files}
use Rattle.at_part.specs.Words.{word_of, filter_of}

-- the filter of a word has that word, and each word of a filter is that filter's
pub word_back : (f : Filter) → filter_of (word_of f) ≡ Some f
word_back Lines = refl
word_back Items = refl

same_some : {X : Type 0} (x y : X) → Some x ≡ Some y → x ≡ y
same_some x y e = ap (λ o. unwrap_or o x) e

pub word_of_some : (word : List ℕ) (f : Filter) → Some f ≡ filter_of word → word ≡ word_of f
word_of_some word f e = by_lines (bytes_eq word (codes "lines")) (bytes_eq word (codes "items")) refl refl e
  where
    by_lines : (s t : Bool) → bytes_eq word (codes "lines") ≡ s → bytes_eq word (codes "items") ≡ t → Some f ≡ (if s then Some Lines else if t then Some Items else None) → word ≡ word_of f
    by_lines true t is other h = (bytes_eq-Decides word (codes "lines")).0 is ∙ ap word_of (same_some Lines f (sym h))
    by_lines false true is other h = (bytes_eq-Decides word (codes "items")).0 other ∙ ap word_of (same_some Items f (sym h))
    by_lines false false is other h = absurd (cc)

head_or : List (List ℕ) → List ℕ → List ℕ
head_or [] d = d
head_or (x ∷ xs) d = x

tail_of : List (List ℕ) → List (List ℕ)
tail_of [] = []
tail_of (x ∷ xs) = xs

-- two ways in which words begin with a filter's word
pub one_filter : (f g : Filter) (words rest others : List (List ℕ)) → words ≡ word_of f ∷ rest → words ≡ word_of g ∷ others → (f ≡ g) × (rest ≡ others)
unfolding head_or tail_of
one_filter f g words rest others e h =
    let it : word_of f ≡ word_of g = ap (λ o. head_or o (word_of f)) (sym e ∙ h) in
    (same_some f g (sym (word_back f) ∙ ap filter_of it ∙ word_back g), ap tail_of (sym e ∙ h))

-- what is said of words and of filtered files
pub behind : (k f : Filter) (words rest : List (List ℕ)) (files other : Option Files) (Q : List (List ℕ) → Files → Type 0) → k ≡ f → words ≡ rest → other ≡ option_map (filtered_files k) files → IfSome other (Q words) → IfSome files (λ told. Q rest (filtered_files f told))
behind k f words rest None other Q is same e h = tt
behind k f words rest (Some files) other Q is same e h = subst (λ o. Q rest (filtered_files o files)) is (subst (λ ws. Q ws (filtered_files k files)) same (subst (λ o. IfSome o (Q words)) e h))

-- and of how the program ended
pub behind_complete : (k f : Filter) (words rest : List (List ℕ)) (files other : Option Files) (r : ℕ) (Q : List (List ℕ) → Files → Type 0) → k ≡ f → words ≡ rest → other ≡ option_map (filtered_files k) files → (r ≡ 3) ⊎ ((r ≡ 4) ⊎ ((r ≡ 5) ⊎ IfSome other (Q words))) → (r ≡ 3) ⊎ ((r ≡ 4) ⊎ ((r ≡ 5) ⊎ IfSome files (λ told. Q rest (filtered_files f told))))
behind_complete k f words rest files other r Q is same e (inl h) = inl h
behind_complete k f words rest files other r Q is same e (inr (inl h)) = inr (inl h)
behind_complete k f words rest files other r Q is same e (inr (inr (inl h))) = inr (inr (inl h))
behind_complete k f words rest files other r Q is same e (inr (inr (inr h))) = inr (inr (inr (behind k f words rest files other Q is same e h)))

-- words of which the first is a filter's
first_of : {S : Type 0} (ws : List S) (s : S) → slice_get ws 0 ≡ Some s → ws ≡ s ∷ drop 1 ws
first_of [] s e = absurd (cc)
first_of (x ∷ xs) s e = ap (λ y. y ∷ xs) (same_some x s e)

pub asked_is : {S : Type 0} (text : S → List ℕ) (ws : List S) (s : S) (word : List ℕ) (f : Filter) → slice_get ws 0 ≡ Some s → word ≡ text s → Some f ≡ filter_of word → map text ws ≡ word_of f ∷ map text (take (length ws - 1) (drop 1 ws))
asked_is text ws s word f first is named =
    let word_is : text s ≡ word_of f = sym is ∙ word_of_some word f named in
    ap (map text) (first_of ws s first) ∙ ap (λ w. w ∷ map text (drop 1 ws)) word_is ∙ ap (λ rest. word_of f ∷ map text rest) (sym (take_rest ws 1))

-- ---- what a filtered shelf tells of the shelf behind it

last_behind : (f : Filter) (told : Files) (names : List (List ℕ)) (named : Option (List ℕ)) → last_begun (filtered_files f told) names named ≡ last_begun told names named
last_behind f told [] named = refl
last_behind f told (name ∷ names) named = ap (last_begun (filtered_files f told) names) (name_of_filtered f told name) ∙ last_behind f told names (name_among told name)

last_asked : (f : Filter) (files : Option Files) (names : List (List ℕ)) (before after : Option (List ℕ)) → IfSome (option_map (filtered_files f) files) (λ told. after ≡ last_begun told names before) → IfSome files (λ told. after ≡ last_begun told names before)
last_asked f None names before after h = tt
last_asked f (Some told) names before after h = h ∙ last_behind f told names before

sized_by : (f : Filter) (found : Option (List ℕ)) (bytes : List ℕ) → option_map (filtered f Nothing) found ≡ Some bytes → length bytes ≤ 2 ^ 28 → (own : List ℕ) × (found ≡ Some own) × (length own ≤ 2 ^ 28)
sized_by f None bytes e h = absurd (cc)
sized_by f (Some own) bytes e h = (own, refl, subst (λ n. n ≤ 2 ^ 28) (sym (ap length (same_some (filtered f Nothing own) bytes e)) ∙ as_many f Nothing own) h)

sized : (f : Filter) (told : Files) (names : List (List ℕ)) → HaveSized (filtered_files f told) names → HaveSized told names
sized f told [] h = h
sized f told (name ∷ names) ((bytes, e, small), rest) = (sized_by f (bytes_named told name) bytes (sym (named_of_filtered f told name) ∙ e) small, sized f told names rest)

all_sized : (f : Filter) (files : Option Files) (names : List (List ℕ)) → IfSome (option_map (filtered_files f) files) (λ told. HaveSized told names) → IfSome files (λ told. HaveSized told names)
all_sized f None names h = tt
all_sized f (Some told) names h = sized f told names h

-- a failure on the filtered shelf, of which all but the files is as of the other, is one on that
pub failed_behind : (f : Filter) (names : List (List ℕ)) (line : List ℕ) (before own after : Meanings) (files : Option Files) → before.files ≡ option_map (filtered_files f) own.files → before.taken ≡ own.taken → before.begins ≡ own.begins → before.named ≡ own.named → before.faults ≡ own.faults
    → FailedOn names line before after → FailedOn names line own (record { files = files; taken = after.taken; begins = after.begins; named = after.named; broken = after.broken; faults = after.faults })
failed_behind f names line before own after files e t b n u h =
    let asked = h.earlier ++ (h.name ∷ []) in
    record {
      earlier = h.earlier;
      name = h.name;
      behind = h.behind;
      in_turn = h.in_turn;
      told = h.told;
      cause = subst (λ o. Rose o after.faults) u h.cause;
      broken = h.broken;
      was_asked = record {
        begun = h.was_asked.begun ∙ ap (begun_with asked) b;
        least = subst (λ o. o ≤ after.taken) t h.was_asked.least;
        limit = subst (λ o. after.taken ≤ o + length asked * (2 ^ 28 + 1)) t h.was_asked.limit;
        last = last_asked f own.files asked own.named after.named (subst (λ o. IfSome o (λ told. after.named ≡ last_begun told asked own.named)) e (subst (λ o. IfSome before.files (λ told. after.named ≡ last_begun told asked o)) n h.was_asked.last));
      };
      earlier_sized = all_sized f own.files h.earlier (subst (λ o. IfSome o (λ told. HaveSized told h.earlier)) e h.earlier_sized);
    }
