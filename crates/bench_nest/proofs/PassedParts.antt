-- What the readers of whole values find of a text: the parts that they pass over spell trees, and the values in these are counted.
use Rattle.std.proofs.Common.{◌≡◌, ℕ, ◌+◌, ◌-◌, ◌<◌, ◌≤◌, ◌%◌, ◌^◌, inl, inr, List, [], ◌∷◌, ◌++◌, length, take, drop, slice_index, take-append-drop, refl, sym, ◌∙◌, ap, subst, arith}
use Rattle.std.proofs.Math.Nat.{mod-add-mod, add-mod-mod}
use Rattle.at_fixed.specs.NumberSoFar.{between}
use Rattle.at_fixed.specs.Numerals.{JsonNumber}
use Rattle.at_lex.specs.Strings.{JsonString}
use Rattle.at_lex.specs.Runs.{JsonRun}
use Rattle.at_lex.specs.Spans.{AreSpaces}
use Rattle.at_nest.specs.declared.algebra.Attempt.TheVariants.{Whole}
use Rattle.at_nest.specs.Folds.{IsAttempt}
use Rattle.at_fixed.proofs.DigitParts.{part-length}
use Rattle.at_nest.specs.Tree.{Tree, literal, number, text, array, object, Trees, no_trees, Members, no_members, Spells}
use Rattle.at_nest.specs.Passing.{items_then, items_of, Named, members_then, members_of}
use Rattle.at_nest.proofs.Ahead.{no_nil}
use Rattle.at_nest.proofs.Passed.{items_none, items_on, items_end, items_empty, members_none, members_on, members_end, members_empty}
use Rattle.bench_nest.specs.declared.passing.Passed.{Passed}
use Rattle.bench_nest.specs.Nodes.{nodes_of, nodes_of_items, nodes_of_members, IsAny, CountsNodes}
use Rattle.bench_nest.specs.Passed.{IsPassed, IsPassedText, IsPassedItem, IsPassedName, nodes_in, nodes_in_members, AreItemsCounted, AreMembersCounted}
use Rattle.at_scan.proofs.Taken.{some_bytes, end_fits, no_empty_number, no_empty_string}
use Rattle.at_wkt.proofs.NumberSteps.{rest_part}

-- ---- bytes that were taken from a place on

pub number_passed : (w : List ℕ) (at n : ℕ) → at ≤ length w → n ≤ length (drop at w) → JsonNumber (take n (drop at w)) → IsPassed w at (record { end = at + n; count = 1 })
number_passed w at n h k j = (
  some_bytes JsonNumber w at n no_empty_number j,
  end_fits w at n h k,
  λ base. (number (base + at) j.0, (refl, (j.1, sym (rest_part w at n) ∙ j.2)), refl),
)

pub text_passed : (w : List ℕ) (at n : ℕ) → at ≤ length w → n ≤ length (drop at w) → JsonString (take n (drop at w)) → IsPassedText w at (at + n)
text_passed w at n h k j = (some_bytes JsonString w at n no_empty_string j, end_fits w at n h k, subst JsonString (rest_part w at n) j)

pub string_passed : (w : List ℕ) (at end : ℕ) → IsPassedText w at end → IsPassed w at (record { end = end; count = 1 })
string_passed w at end (order, fits, j) = (order, fits, λ base. (text (base + at) j.0, (refl, (j.1, j.2)), refl))

pub run_passed : (w : List ℕ) (at n : ℕ) → at ≤ length w → n ≤ length (drop at w) → JsonRun (take n (drop at w)) → IsPassed w at (record { end = at + n; count = 1 })
run_passed w at n h k (inr j) = number_passed w at n h k j
run_passed w at n h k (inl (l, e)) = (some_bytes JsonRun w at n no_nil (inl (l, e)), end_fits w at n h k, λ base. (literal (base + at) l, (refl, sym (rest_part w at n) ∙ e), refl))

pub item_passed : (w : List ℕ) (at first end : ℕ) (p : Passed) → at ≤ first → AreSpaces (between w at first) → IsPassed w first p → p.end ≤ end → end ≤ length w → AreSpaces (between w p.end end) → IsPassedItem w at (record { end = end; count = p.count })
item_passed w at first end p h spaces (order, fits, value) k fits2 more = (
  omega (arith, h, order, k),
  fits2,
  λ base. let v = value base in (v.0, record { first = first; last = p.end; before = h; order = omega (arith, order); behind = k; spaces = spaces; is_part = v.1; more_spaces = more }, v.2),
)

no_spaces : (w : List ℕ) (at : ℕ) → AreSpaces (between w at at)
no_spaces w at = subst AreSpaces (rest_part w at 0 ∙ ap (between w at) (let e : at + 0 ≡ at = omega arith in e)) tt

-- with no white space behind the value
pub item_ended : (w : List ℕ) (at first end : ℕ) (count : ℕ) → at ≤ first → AreSpaces (between w at first) → IsPassed w first (record { end = end; count = count }) → IsPassedItem w at (record { end = end; count = count })
item_ended w at first end count h spaces passed = item_passed w at first end (record { end = end; count = count }) h spaces passed (omega arith) passed.1 (no_spaces w end)

pub name_passed : (w : List ℕ) (at first end colon : ℕ) → at ≤ first → AreSpaces (between w at first) → IsPassedText w first end → end ≤ colon → AreSpaces (between w end colon) → colon < length w → slice_index w colon ≡ 0x3A → IsPassedName w at colon
name_passed w at first end colon h spaces (order, fits, j) k more inside byte = (
  omega (arith, h, order, k),
  inside,
  byte,
  λ base. (j.0, base + first, record { first = first; last = end; before = h; order = omega (arith, order); behind = k; spaces = spaces; is_part = (refl, (j.1, j.2)); more_spaces = more }),
)

-- ---- counts

sums : (m n c a b : ℕ) → n ≡ a % m → c ≡ b % m → (n + c) % m ≡ (a + b) % m
sums m n c a b e f = ap (λ z. (z + c) % m) e ∙ (mod-add-mod a m c ∙ (ap (λ z. (a + z) % m) f ∙ add-mod-mod a b m))

nodes_last : (done : List Tree) (t : Tree) → nodes_in (done ++ t ∷ []) ≡ nodes_in done + nodes_of t
nodes_last [] t = omega arith
nodes_last (u ∷ done) t = let e : nodes_in (done ++ t ∷ []) ≡ nodes_in done + nodes_of t = nodes_last done t in omega (arith, e)

nodes_then : (done : List Tree) (ts : Trees) → nodes_of_items (items_then done ts) ≡ nodes_in done + nodes_of_items ts
nodes_then [] ts = omega arith
nodes_then (u ∷ done) ts = let e : nodes_of_items (items_then done ts) ≡ nodes_in done + nodes_of_items ts = nodes_then done ts in omega (arith, e)

members_last : (done : List Named) (n : Named) → nodes_in_members (done ++ n ∷ []) ≡ nodes_in_members done + nodes_of n.tree
members_last [] n = omega arith
members_last (u ∷ done) n = let e : nodes_in_members (done ++ n ∷ []) ≡ nodes_in_members done + nodes_of n.tree = members_last done n in omega (arith, e)

nodes_then_members : (done : List Named) (ms : Members) → nodes_of_members (members_then done ms) ≡ nodes_in_members done + nodes_of_members ms
nodes_then_members [] ms = omega arith
nodes_then_members (u ∷ done) ms = let e : nodes_of_members (members_then done ms) ≡ nodes_in_members done + nodes_of_members ms = nodes_then_members done ms in omega (arith, e)

items_counted : (n c : ℕ) (done : List Tree) (t : Tree) → n ≡ (1 + nodes_in done) % 2 ^ 64 → CountsNodes c t → (n + c) % 2 ^ 64 ≡ (1 + nodes_in (done ++ t ∷ [])) % 2 ^ 64
items_counted n c done t e f = sums (2 ^ 64) n c (1 + nodes_in done) (nodes_of t) e f ∙ ap (λ z. z % 2 ^ 64) (let g : 1 + nodes_in done + nodes_of t ≡ 1 + nodes_in (done ++ t ∷ []) = omega (arith, nodes_last done t) in g)

members_counted : (n c : ℕ) (done : List Named) (m : Named) → n ≡ (1 + nodes_in_members done) % 2 ^ 64 → CountsNodes c m.tree → (n + c) % 2 ^ 64 ≡ (1 + nodes_in_members (done ++ m ∷ [])) % 2 ^ 64
members_counted n c done m e f = sums (2 ^ 64) n c (1 + nodes_in_members done) (nodes_of m.tree) e f ∙ ap (λ z. z % 2 ^ 64) (let g : 1 + nodes_in_members done + nodes_of m.tree ≡ 1 + nodes_in_members (done ++ m ∷ []) = omega (arith, members_last done m) in g)

array_counted : (n i : ℕ) (done : List Tree) → n ≡ (1 + nodes_in done) % 2 ^ 64 → CountsNodes n (array i (items_of done))
array_counted n i done e = e ∙ ap (λ z. z % 2 ^ 64) (let f : 1 + nodes_in done ≡ 1 + nodes_of_items (items_of done) = omega (arith, nodes_then done no_trees) in f)

object_counted : (n i : ℕ) (done : List Named) → n ≡ (1 + nodes_in_members done) % 2 ^ 64 → CountsNodes n (object i (members_of done))
object_counted n i done e = e ∙ ap (λ z. z % 2 ^ 64) (let f : 1 + nodes_in_members done ≡ 1 + nodes_of_members (members_of done) = omega (arith, nodes_then_members done no_members) in f)

-- ---- arrays

pub array_begins : (w : List ℕ) (at : ℕ) → at < length w → AreItemsCounted w at (at + 1) 1
array_begins w at h base = ([], items_none base w at h, refl)

pub array_goes_on : (w : List ℕ) (at place n : ℕ) (p : Passed) → at < place → AreItemsCounted w at place n → IsPassedItem w place p → p.end < length w → slice_index w p.end ≡ 0x2C → AreItemsCounted w at (p.end + 1) ((n + p.count) % 2 ^ 64)
array_goes_on w at place n p h counted (order, fits, item) inside byte base =
    let (done, before, e) = counted base in let (t, padded, f) = item base in
    (done ++ t ∷ [], items_on base w at place p.end done t h (omega (arith, order)) inside byte before padded, items_counted n p.count done t e f)

pub array_ends : (w : List ℕ) (at place n : ℕ) (p : Passed) → at < place → slice_index w at ≡ 0x5B → AreItemsCounted w at place n → IsPassedItem w place p → p.end < length w → slice_index w p.end ≡ 0x5D → IsPassed w at (record { end = p.end + 1; count = (n + p.count) % 2 ^ 64 })
array_ends w at place n p h opens counted (order, fits, item) inside byte = (
  omega (arith, h, order),
  omega (arith, inside),
  λ base. (let (done, before, e) = counted base in let (t, padded, f) = item base in
      (array (base + at) (items_of (done ++ t ∷ [])), items_end base w at place p.end done t h (omega (arith, order)) inside opens byte before padded, array_counted ((n + p.count) % 2 ^ 64) (base + at) (done ++ t ∷ []) (items_counted n p.count done t e f))),
)

pub empty_array : (w : List ℕ) (at end : ℕ) → at < end → end < length w → slice_index w at ≡ 0x5B → slice_index w end ≡ 0x5D → AreSpaces (between w (at + 1) end) → IsPassed w at (record { end = end + 1; count = 1 })
empty_array w at end h inside opens byte spaces = (omega (arith, h), omega (arith, inside), λ base. (array (base + at) (items_of []), items_empty base w at end h inside opens byte spaces, refl))

-- ---- objects

pub object_begins : (w : List ℕ) (at : ℕ) → at < length w → AreMembersCounted w at (at + 1) 1
object_begins w at h base = ([], members_none base w at h, refl)

pub object_goes_on : (w : List ℕ) (at place colon n : ℕ) (p : Passed) → at < place → AreMembersCounted w at place n → IsPassedName w place colon → IsPassedItem w (colon + 1) p → p.end < length w → slice_index w p.end ≡ 0x2C → AreMembersCounted w at (p.end + 1) ((n + p.count) % 2 ^ 64)
object_goes_on w at place colon n p h counted (order, within, colon_byte, name) (order2, fits, item) inside byte base =
    let (done, before, e) = counted base in let (t, padded, f) = item base in let (cs, i, named) = name base in
    let m : Named = record { name = cs; at = i; tree = t } in
    (done ++ m ∷ [], members_on base w at place colon p.end done m h order (omega (arith, order2)) inside colon_byte byte before named padded, members_counted n p.count done m e f)

pub object_ends : (w : List ℕ) (at place colon n : ℕ) (p : Passed) → at < place → slice_index w at ≡ 0x7B → AreMembersCounted w at place n → IsPassedName w place colon → IsPassedItem w (colon + 1) p → p.end < length w → slice_index w p.end ≡ 0x7D
    → IsPassed w at (record { end = p.end + 1; count = (n + p.count) % 2 ^ 64 })
object_ends w at place colon n p h opens counted (order, within, colon_byte, name) (order2, fits, item) inside byte = (
  omega (arith, h, order, order2),
  omega (arith, inside),
  λ base. (let (done, before, e) = counted base in let (t, padded, f) = item base in let (cs, i, named) = name base in
      let m : Named = record { name = cs; at = i; tree = t } in
      (object (base + at) (members_of (done ++ m ∷ [])), members_end base w at place colon p.end done m h order (omega (arith, order2)) inside opens colon_byte byte before named padded, object_counted ((n + p.count) % 2 ^ 64) (base + at) (done ++ m ∷ []) (members_counted n p.count done m e f))),
)

pub empty_object : (w : List ℕ) (at end : ℕ) → at < end → end < length w → slice_index w at ≡ 0x7B → slice_index w end ≡ 0x7D → AreSpaces (between w (at + 1) end) → IsPassed w at (record { end = end + 1; count = 1 })
empty_object w at end h inside opens byte spaces = (omega (arith, h), omega (arith, inside), λ base. (object (base + at) (members_of []), members_empty base w at end h inside opens byte spaces, refl))

-- ---- what the algebra answers

pub attempt_of : (at : ℕ) (w : List ℕ) (p : Passed) → IsPassed w 0 p → IsAttempt IsAny CountsNodes at w (Whole p.end p.count)
attempt_of at w p (order, fits, value) = let (t, spells, count) = value at in (
  between w 0 p.end,
  drop p.end w,
  sym (take-append-drop p.end w) ∙ ap (λ z. z ++ drop p.end w) (rest_part w 0 p.end ∙ ap (between w 0) (let e : 0 + p.end ≡ p.end = omega arith in e)),
  omega (arith, part-length w 0 p.end (omega arith) fits),
  t,
  subst (λ n. Spells n (between w 0 p.end) t) (let e : at + 0 ≡ at = omega arith in e) spells,
  tt,
  count,
)
