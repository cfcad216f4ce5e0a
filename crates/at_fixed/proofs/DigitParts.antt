-- Digits read one by one: the bytes passed so far, the number that they spell, and what is kept of it.
-- For `json_number`, `leading_number`, `plain_len`, `plain_number`, `read_fixed` and `wkt_number`.
use Rattle.std.proofs.Common.{◌≡◌, ℕ, suc, lit<, ◌+◌, ◌-◌, ◌*◌, ◌^◌, ◌<◌, ◌≤◌, Bool, true, false, nat_lt, List, [], ◌∷◌, ◌++◌, length, take, drop, slice_index, refl, sym, ◌∙◌, ap, subst, arith, add-one, take-suc, length-take, length-drop, take-append-drop, take-take}
use Rattle.std.proofs.lemmas.Bool.{cases_eq}
use Rattle.std.proofs.lemmas.Nat.{pow-add}
use Rattle.std.proofs.lemmas.List.{drop-append-le, drop_all}
use Rattle.std.proofs.Math.Nat.{pow-le-pow_right, pow-suc}
use Rattle.at_text.specs.Texts.{is_digit}
use Rattle.at_fixed.specs.Numerals.{AreDigits}
use Rattle.at_fixed.specs.NumberSoFar.{between, digits_behind, Keeps, KeepsDigits}

pub part-none : (w : List ℕ) (from : ℕ) → from ≤ length w → between w from from ≡ []
part-none w from h = drop_all from (take from w) (omega (arith, length-take from w))

pub part-more : (w : List ℕ) (from to : ℕ) → from ≤ to → to < length w → between w from (to + 1) ≡ between w from to ++ (slice_index w to ∷ [])
part-more w from to h k =
    let fits : from ≤ length (take to w) = omega (arith, length-take to w) in
    rw (add-one to, take-suc w to 0 k) (drop-append-le from (take to w) (slice_index w to ∷ []) fits)

pub part-place : (w : List ℕ) (from to : ℕ) → from ≤ to → take to w ≡ take from w ++ between w from to
part-place w from to h = sym (take-append-drop from (take to w)) ∙ ap (λ x. x ++ between w from to) (take-take from to w h)

pub part-length : (w : List ℕ) (from to : ℕ) → from ≤ to → to ≤ length w → from + length (between w from to) ≡ to
part-length w from to h k = omega (arith, length-drop from (take to w), length-take to w)

pub part-part : (w : List ℕ) (from mid to : ℕ) → from ≤ mid → mid ≤ to → to ≤ length w → between w from to ≡ between w from mid ++ between w mid to
part-part w from mid to h k l =
    let fits : from ≤ length (take mid w) = omega (arith, length-take mid w) in
    ap (drop from) (part-place w mid to k) ∙ drop-append-le from (take mid w) (between w mid to) fits

pub digits-more : (ds : List ℕ) (b : ℕ) → AreDigits ds → is_digit b ≡ true → AreDigits (ds ++ (b ∷ []))
digits-more [] b h k = (k, tt)
digits-more (d ∷ ds) b (h, hs) k = (h, digits-more ds b hs k)

pub digits-both : (ds es : List ℕ) → AreDigits ds → AreDigits es → AreDigits (ds ++ es)
digits-both [] es h k = k
digits-both (d ∷ ds) es (h, hs) k = (h, digits-both ds es hs k)

pub behind-both : (m : ℕ) (ds es : List ℕ) → digits_behind m (ds ++ es) ≡ digits_behind (digits_behind m ds) es
behind-both m [] es = refl
behind-both m (d ∷ ds) es = behind-both (10 * m + (d - 0x30)) ds es

-- a part that isn't empty begins with the byte at its place
pub part-cons : (w : List ℕ) (from to : ℕ) → from < to → to ≤ length w → between w from to ≡ slice_index w from ∷ between w (from + 1) to
part-cons w from to h k =
    let first : between w from (from + 1) ≡ slice_index w from ∷ [] = part-more w from from (omega arith) (omega arith) ∙ ap (λ x. x ++ (slice_index w from ∷ [])) (part-none w from (omega arith)) in
    part-part w from (from + 1) to (omega arith) (omega arith) k ∙ ap (λ x. x ++ between w (from + 1) to) first

pub part-first : (w : List ℕ) (from to : ℕ) → from < to → to ≤ length w → AreDigits (between w from to) → is_digit (slice_index w from) ≡ true
part-first w from to h k ds = let both : AreDigits (slice_index w from ∷ between w (from + 1) to) = subst AreDigits (part-cons w from to h k) ds in both.0

-- ---- what is kept

digit_below : (b : ℕ) → is_digit b ≡ true → b - 0x30 < 10
digit_below b h = grind (arith, h)

pub behind_split : (x r : ℕ) (ds : List ℕ) → digits_behind (x + r) ds ≡ x * 10 ^ length ds + digits_behind r ds
behind_split x r [] = grind arith
behind_split x r (d ∷ ds) =
    let c : ℕ = d - 0x30 in
    let next : 10 * (x + r) + c ≡ 10 * x + (10 * r + c) = grind arith in
    let power : 10 * x * 10 ^ length ds ≡ x * 10 ^ suc (length ds) = rw (pow-suc 10 (length ds)) (grind arith) in
    ap (λ n. digits_behind n ds) next ∙ (behind_split (10 * x) (10 * r + c) ds ∙ ap (λ n. n + digits_behind (10 * r + c) ds) power)

pub behind_small : (r t : ℕ) (ds : List ℕ) → r < t → AreDigits ds → digits_behind r ds < t * 10 ^ length ds
behind_small r t [] h ds = grind (arith, h)
behind_small r t (d ∷ ds) h (k, hs) =
    let c : ℕ = d - 0x30 in
    let below : 10 * r + c < 10 * t = omega (arith, digit_below d k, h) in
    let power : 10 * t * 10 ^ length ds ≡ t * 10 ^ suc (length ds) = rw (pow-suc 10 (length ds)) (grind arith) in
    subst (λ n. digits_behind (10 * r + c) ds < n) power (behind_small (10 * r + c) (10 * t) ds below hs)

dropped_more : (K d m : ℕ) (cut next : Bool) (ds : List ℕ) (h : Keeps K d cut m) → AreDigits ds → (0 < length ds → 10 ^ 18 ≤ K)
    → next ≡ nat_lt 0 (digits_behind h.rest ds) → Keeps K (d + length ds) next (digits_behind m ds)
dropped_more K d m cut next ds h k l n = grind (arith, pow-add, behind_split, behind_small, cases_eq)

-- nothing was dropped, and what is kept is the whole number
pub none_dropped : (K m : ℕ) (cut : Bool) → Keeps K 0 cut m → (m ≡ K) × (cut ≡ false)
none_dropped K m cut h = grind arith

all_kept : (K : ℕ) (cut : Bool) → cut ≡ false → K < 10 ^ 19 → Keeps K 0 cut K
all_kept K cut e h = record { rest = 0; split = omega arith; small = lit< tt; cut = e; full = λ some. absurd (omega (arith, some)); fits = h }

kept_more : (K d m next : ℕ) (cut : Bool) (ds : List ℕ) → Keeps K d cut m → next ≡ digits_behind K ds → next < 10 ^ 19 → (10 ^ 18 ≤ K → ds ≡ [])
    → Keeps next d cut (digits_behind m ds)
kept_more K d m next cut ds h k l n = grind arith

-- digits of a text that are all kept
pub run_whole : (w : List ℕ) (from stop K d m next : ℕ) (cut : Bool) → KeepsDigits w from stop K next → Keeps K d cut m → Keeps next d cut (digits_behind m (between w from stop))
run_whole w from stop K d m next cut h k = grind (arith, kept_more, part-none)

-- digits are kept as long as there is room, up to `stop`, and dropped from there on
pub run_keeps : (w : List ℕ) (from stop to K d m next : ℕ) (cut after : Bool) → KeepsDigits w from stop K next → stop ≤ to → to ≤ length w → Keeps K d cut m
    → AreDigits (between w stop to) → (stop < length w → is_digit (slice_index w stop) ≡ true → 10 ^ 18 ≤ next)
    → ((rest : ℕ) → cut ≡ nat_lt 0 rest → after ≡ nat_lt 0 (digits_behind rest (between w stop to)))
    → Keeps next (d + (to - stop)) after (digits_behind m (between w from to))
run_keeps w from stop to K d m next cut after run more within h are_digits stops cuts =
    let front : List ℕ = between w from stop in let back : List ℕ = between w stop to in
    let count : length back ≡ to - stop = omega (arith, part-length w stop to more within) in
    let first : Keeps next d cut (digits_behind m front) = run_whole w from stop K d m next cut run h in
    let room : 0 < length back → 10 ^ 18 ≤ next = λ some.
    let before : stop < to = omega (arith, count, some) in
    stops (omega (arith, before, within)) (part-first w stop to before within are_digits) in
    let value : digits_behind m (between w from to) ≡ digits_behind (digits_behind m front) back = ap (digits_behind m) (part-part w from stop to run.order more within) ∙ behind-both m front back in
    let all : Keeps next (d + length back) after (digits_behind (digits_behind m front) back) = dropped_more next d (digits_behind m front) cut after back first are_digits room (cuts first.rest first.cut) in
    let P : ℕ → Type 0 = λ n. Keeps next (d + n) after (digits_behind m (between w from to)) in
    subst P count (subst (Keeps next (d + length back) after) (sym value) all)

-- nothing is kept yet
pub keeps_none : (w : List ℕ) (from before : ℕ) → from ≤ length w → before < 10 ^ 19 → KeepsDigits w from from before before
keeps_none w from before h k = grind (arith, part-none)

-- digits behind those that were kept
pub keeps_both : (w : List ℕ) (from mid to before kept next : ℕ) → KeepsDigits w from mid before kept → KeepsDigits w mid to kept next → KeepsDigits w from to before next
keeps_both w from mid to before kept next h k = grind (arith, part-part, digits-both, behind-both, part-none)

-- ---- how large what is kept may be

pub room_more : (n k l : ℕ) → n < 10 ^ k → k ≤ l → n < 10 ^ l
room_more n k l small more = let ten : 0 < 10 = lit< tt in let least : 10 ^ k ≤ 10 ^ l = pow-le-pow_right ten more in omega (arith, small, least)

pub kept_small : (w : List ℕ) (from to before kept k : ℕ) → from ≤ to → to ≤ length w → AreDigits (between w from to) → kept ≡ digits_behind before (between w from to) → before < 10 ^ k → kept < 10 ^ (k + (to - from))
kept_small w from to before kept k h l m n p = grind (arith, part-length, behind_small, pow-add)
