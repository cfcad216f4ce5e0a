-- How bytes pass a filter: one by one, in two halves, and in a run.
use Rattle.std.proofs.Common.{◌≡◌, ◌==◌, ◌+◌, ◌<◌, ℕ, Bool, true, false, if◌then◌else◌, not, List, [], ◌∷◌, ◌++◌}
use Rattle.std.proofs.Common.{take, drop, length, set, get_or, refl, ap, sym, ◌∙◌, arith, map}
use Rattle.std.proofs.Common.{cond, suc}
use Rattle.std.proofs.lemmas.List.{drop_more, take_more_set, drop-drop, drop-set-lt, append_assoc}
use Rattle.std.proofs.Math.Seq.{take-add}
use Rattle.std.proofs.lemmas.Bool.{false≢true}
use Rattle.std.specs.List.{position_or_len}
use Rattle.at_text.specs.Texts.{is_space}
use Rattle.at_filter.specs.declared.filter.Filter.{Filter}
use Rattle.at_filter.specs.declared.filter.Filter.TheVariants.{Lines, Items}
use Rattle.at_filter.specs.declared.filter.Seen.{Seen}
use Rattle.at_filter.specs.declared.filter.Seen.TheVariants.{Nothing, Object}
use Rattle.at_filter.specs.Filters.{filtered, seen_behind, filtered_byte, next_of, next_seen, byte_of_lines, byte_of_items}

-- lines pass one by one
pub lines_pass : (seen : Seen) (bs : List ℕ) → filtered Lines seen bs ≡ map byte_of_lines bs
lines_pass seen [] = refl
lines_pass seen (b ∷ bs) = ap (λ rest. byte_of_lines b ∷ rest) (lines_pass seen bs)

pub lines_stay : (seen : Seen) (bs : List ℕ) → seen_behind Lines seen bs ≡ seen
lines_stay seen [] = refl
lines_stay seen (b ∷ bs) = lines_stay seen bs

-- lines of which the filter is known
pub lines_of : (f : Filter) (seen : Seen) (bs out : List ℕ) → f ≡ Lines → out ≡ map byte_of_lines bs → out ≡ filtered f seen bs
lines_of f seen bs out is h = rw (is) (h ∙ sym (lines_pass seen bs))

pub lines_seen : (f : Filter) (seen : Seen) (bs : List ℕ) → f ≡ Lines → seen ≡ seen_behind f seen bs
lines_seen f seen bs is = rw (is) (sym (lines_stay seen bs))

-- as many bytes come as go
pub as_many : (f : Filter) (seen : Seen) (bs : List ℕ) → length (filtered f seen bs) ≡ length bs
as_many f seen [] = refl
as_many f seen (b ∷ bs) = ap suc (as_many f (next_of f seen b) bs)

-- two halves, one behind the other
pub halves : (f : Filter) (seen : Seen) (xs ys : List ℕ) → filtered f seen (xs ++ ys) ≡ filtered f seen xs ++ filtered f (seen_behind f seen xs) ys
halves f seen [] ys = refl
halves f seen (x ∷ xs) ys = ap (λ rest. filtered_byte f seen x ∷ rest) (halves f (next_of f seen x) xs ys)

-- nothing is seen with a byte that is no closing bracket of an object
all_nothing : (s o a c : Bool) → o ≡ false → (if s then Nothing else if o then Object else if a then Nothing else if c then Nothing else Nothing) ≡ Nothing
all_nothing false true a c is = absurd (false≢true (sym is))
all_nothing false false false true is = refl
all_nothing _ _ _ _ is = refl

pub unseen : (b : ℕ) → (b == 0x7D) ≡ false → next_seen Nothing b ≡ Nothing
unseen b is = all_nothing (is_space b) (b == 0x7D) (b == 0x5D) (b == 0x2C) is

-- bytes before the first such bracket stay as they are
plain_by : (b : ℕ) (bs : List ℕ) (n m : ℕ) (t : Bool) → m ≡ suc n → (b == 0x7D) ≡ t → filtered Items Nothing bs ≡ take n bs ++ filtered Items Nothing (drop n bs) → filtered Items Nothing (b ∷ bs) ≡ take (cond (not t) m 0) (b ∷ bs) ++ filtered Items Nothing (drop (cond (not t) m 0) (b ∷ bs))
plain_by b bs n m true more is here = refl
plain_by b bs n m false more is here = rw (more) (ap (λ s. b ∷ filtered Items s bs) (unseen b is) ∙ ap (λ rest. b ∷ rest) here)

pub plain : (bs : List ℕ) → filtered Items Nothing bs ≡ take (position_or_len (λ b. b == 0x7D) bs) bs ++ filtered Items Nothing (drop (position_or_len (λ b. b == 0x7D) bs) bs)
plain [] = refl
plain (b ∷ bs) = plain_by b bs (position_or_len (λ b. b == 0x7D) bs) (1 + position_or_len (λ b. b == 0x7D) bs) (b == 0x7D) (omega arith) refl (plain bs)

plain_seen_by : (b : ℕ) (bs : List ℕ) (n m : ℕ) (t : Bool) → m ≡ suc n → (b == 0x7D) ≡ t → seen_behind Items Nothing bs ≡ seen_behind Items Nothing (drop n bs) → seen_behind Items Nothing (b ∷ bs) ≡ seen_behind Items Nothing (drop (cond (not t) m 0) (b ∷ bs))
plain_seen_by b bs n m true more is here = refl
plain_seen_by b bs n m false more is here = rw (more) (ap (λ s. seen_behind Items s bs) (unseen b is) ∙ here)

pub plain_seen : (bs : List ℕ) → seen_behind Items Nothing bs ≡ seen_behind Items Nothing (drop (position_or_len (λ b. b == 0x7D) bs) bs)
plain_seen [] = refl
plain_seen (b ∷ bs) = plain_seen_by b bs (position_or_len (λ b. b == 0x7D) bs) (1 + position_or_len (λ b. b == 0x7D) bs) (b == 0x7D) (omega arith) refl (plain_seen bs)

-- the same where the state is known, and what is passed over is as long as the run of such bytes
pub plain_of : (seen : Seen) (bs : List ℕ) (n : ℕ) → seen ≡ Nothing → n ≡ position_or_len (λ b. b == 0x7D) bs → filtered Items seen bs ≡ take n bs ++ filtered Items seen (drop n bs)
plain_of seen bs n is long = rw (is, long) (plain bs)

pub plain_seen_of : (seen : Seen) (bs : List ℕ) (n : ℕ) → seen ≡ Nothing → n ≡ position_or_len (λ b. b == 0x7D) bs → seen_behind Items seen bs ≡ seen_behind Items seen (drop n bs)
plain_seen_of seen bs n is long = rw (is, long) (plain_seen bs)

-- one more byte is passed in place, and some behind it stay as they are
pub passed_on : (seen next : Seen) (xs ys all : List ℕ) (i k y : ℕ) → i < length xs → y ≡ byte_of_items seen (get_or xs i 0) → next ≡ next_seen seen (get_or xs i 0) → ys ≡ set xs i y → all ≡ take i xs ++ filtered Items seen (drop i xs) → filtered Items next (drop (i + 1) ys) ≡ take k (drop (i + 1) ys) ++ filtered Items next (drop k (drop (i + 1) ys)) → all ≡ take (i + 1 + k) ys ++ filtered Items next (drop (i + 1 + k) ys)
passed_on seen next xs ys all i k y less is_y is_next is_ys so_far skips =
    let x = get_or xs i 0 in
    let rest = drop (i + 1) xs in
    let same : drop (i + 1) ys ≡ rest = ap (drop (i + 1)) is_ys ∙ drop-set-lt (i + 1) xs i y (omega arith) in
    let front : take (i + 1) ys ≡ take i xs ++ y ∷ [] = ap (take (i + 1)) is_ys ∙ take_more_set xs i y less in
    let one : all ≡ take i xs ++ filtered Items seen (x ∷ rest) = so_far ∙ ap (λ r. take i xs ++ filtered Items seen r) (drop_more xs i 0 less) in
    let two : take i xs ++ filtered Items seen (x ∷ rest) ≡ take i xs ++ (y ∷ filtered Items next rest) = ap (λ r. take i xs ++ r) (ap (λ b. b ∷ filtered Items (next_seen seen x) rest) (sym is_y) ∙ ap (λ s. y ∷ filtered Items s rest) (sym is_next)) in
    let three : take i xs ++ (y ∷ filtered Items next rest) ≡ take (i + 1) ys ++ filtered Items next (drop (i + 1) ys) = sym (append_assoc (take i xs) (y ∷ []) (filtered Items next rest)) ∙ ap (λ r. r ++ filtered Items next rest) (sym front) ∙ ap (λ r. take (i + 1) ys ++ filtered Items next r) (sym same) in
    let four = ap (λ r. take (i + 1) ys ++ r) skips ∙ sym (append_assoc (take (i + 1) ys) (take k (drop (i + 1) ys)) (filtered Items next (drop k (drop (i + 1) ys)))) in
    let five = ap (λ r. r ++ filtered Items next (drop k (drop (i + 1) ys))) (sym (take-add (i + 1) k ys)) ∙ ap (λ r. take (i + 1 + k) ys ++ filtered Items next r) (drop-drop k (i + 1) ys) in
    one ∙ two ∙ three ∙ four ∙ five

-- what is seen then is as before
pub seen_on : (seen next all : Seen) (xs ys : List ℕ) (i k y : ℕ) → i < length xs → next ≡ next_seen seen (get_or xs i 0) → ys ≡ set xs i y → all ≡ seen_behind Items seen (drop i xs) → seen_behind Items next (drop (i + 1) ys) ≡ seen_behind Items next (drop k (drop (i + 1) ys)) → all ≡ seen_behind Items next (drop (i + 1 + k) ys)
seen_on seen next all xs ys i k y less is_next is_ys so_far skips =
    let same : drop (i + 1) ys ≡ drop (i + 1) xs = ap (drop (i + 1)) is_ys ∙ drop-set-lt (i + 1) xs i y (omega arith) in
    so_far ∙ ap (seen_behind Items seen) (drop_more xs i 0 less) ∙ ap (λ s. seen_behind Items s (drop (i + 1) xs)) (sym is_next) ∙ ap (seen_behind Items next) (sym same) ∙ skips ∙ ap (seen_behind Items next) (drop-drop k (i + 1) ys)
