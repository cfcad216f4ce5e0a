-- From what is known of the parts of a text to the tree that it spells: arrays item by item, objects member by member.
-- For the crates above.
use Rattle.std.proofs.Common.{◌≡◌, ℕ, List, [], ◌∷◌, ◌++◌, refl, sym, ◌∙◌, ap, subst, arith, append_assoc, append-nil, ◌+◌, ◌<◌, ◌≤◌, length, slice_index}
use Rattle.at_fixed.specs.NumberSoFar.{between}
use Rattle.at_fixed.proofs.DigitParts.{part-none, part-more, part-length, part-part, part-cons}
use Rattle.at_text.specs.Parts.{At, ◌▸◌}
use Rattle.at_lex.specs.Strings.{SpellsString}
use Rattle.at_lex.specs.Spans.{AreSpaces}
use Rattle.at_nest.specs.Tree.{Tree, array, object, Trees, no_trees, tree_and, Members, no_members, member_and, Spells, Padded, WithName, SpellsItems, SpellsFurtherItems, SpellsMembers, SpellsFurtherMembers}
use Rattle.at_nest.specs.Passing.{IsPadded, items_then, items_of, ItemsBefore, Named, members_then, members_of, MembersBefore}
use Rattle.at_nest.proofs.TreeParts.{PaddedParts, AfterParts, padded_parts, padded_made, after_made, named_made, array_made, object_made}

-- ---- bytes

-- up to a place, from there to another, and the byte there
through : (w : List ℕ) (from place end b : ℕ) (r : List ℕ) → from ≤ place → place ≤ end → end < length w → slice_index w end ≡ b → between w from place ++ (between w place end ++ (b ∷ r)) ≡ between w from (end + 1) ++ r
through w from place end b r h k l e =
    sym (append_assoc (between w from place) (between w place end) (b ∷ r)) ∙ (ap (λ z. z ++ (b ∷ r)) (sym (part-part w from place end h k (omega (arith, l)))) ∙ (ap (λ z. between w from end ++ (z ∷ r)) (sym e)
    ∙ (sym (append_assoc (between w from end) (slice_index w end ∷ []) r) ∙ ap (λ z. z ++ r) (sym (part-more w from end (omega (arith, h, k)) l)))))

to_end : (w : List ℕ) (from place end : ℕ) → from ≤ place → place ≤ end → end < length w → between w from place ++ (between w place end ++ []) ≡ between w from end
to_end w from place end h k l = ap (λ z. between w from place ++ z) (append-nil (between w place end)) ∙ sym (part-part w from place end h k (omega (arith, l)))

-- between two bytes
enclosed : (w : List ℕ) (from end b c : ℕ) → from < end → end < length w → slice_index w from ≡ b → slice_index w end ≡ c → between w from (end + 1) ≡ b ∷ (between w (from + 1) end ++ c ∷ [])
enclosed w from end b c h l e f = part-cons w from (end + 1) (omega (arith, h)) (omega (arith, l)) ∙ (ap (λ z. z ∷ between w (from + 1) (end + 1)) e ∙ ap (λ z. b ∷ z) (part-more w (from + 1) end (omega (arith, h)) l ∙ ap (λ z. between w (from + 1) end ++ z ∷ []) f))

pub padded_gives : (Part Then : ℕ → List ℕ → Type 0) (base : ℕ) (w : List ℕ) (from to : ℕ) (r : List ℕ) → to ≤ length w → IsPadded Part base w from to → Then (base + to) r → (Padded Part ▸ Then) (base + from) (between w from to ++ r)
padded_gives Part Then base w from to r fits h more =
    let a : List ℕ = between w from h.first in let v : List ℕ = between w h.first h.last in let b : List ℕ = between w h.last to in
    let la : from + length a ≡ h.first = part-length w from h.first h.before (omega (arith, h.order, h.behind, fits)) in
    let lv : h.first + length v ≡ h.last = part-length w h.first h.last h.order (omega (arith, h.behind, fits)) in
    let lb : h.last + length b ≡ to = part-length w h.last to h.behind fits in
    let split : between w from to ++ r ≡ a ++ (v ++ (b ++ r)) = ap (λ z. z ++ r) (part-part w from h.first to h.before (omega (arith, h.order, h.behind)) fits ∙ ap (λ z. a ++ z) (part-part w h.first h.last to h.order h.behind fits)) ∙ (append_assoc a (v ++ b) r ∙ ap (λ z. a ++ z) (append_assoc v b r)) in
    let here : base + h.first ≡ base + from + length a = omega (arith, la) in
    let there : base + to ≡ base + from + length a + length v + length b = omega (arith, la, lv, lb) in
    padded_made Part Then (base + from) (between w from to ++ r) (a, v, b, r, split, h.spaces, h.more_spaces, subst (λ n. Part n v) here h.is_part, subst (λ n. Then n r) there more)

-- ---- arrays

items_last : (done : List Tree) (t : Tree) (ts : Trees) → items_then (done ++ t ∷ []) ts ≡ items_then done (tree_and t ts)
items_last [] t ts = refl
items_last (u ∷ done) t ts = ap (tree_and u) (items_last done t ts)

-- behind the bracket
pub items_none : (base : ℕ) (w : List ℕ) (from : ℕ) → from < length w → ItemsBefore base w from (from + 1) []
items_none base w from l r t ts h =
    let here : base + (from + 1) ≡ base + from + 1 = omega arith in
    subst (λ z. SpellsItems (base + from + 1) (z ++ r) (tree_and t ts)) (sym (part-none w (from + 1) (omega (arith, l)))) (subst (λ n. (Padded (λ j v. Spells j v t) ▸ (λ j v. SpellsFurtherItems j v ts)) n r) here h)

-- one more, with the comma that stands behind it at the place `end`
pub items_on : (base : ℕ) (w : List ℕ) (from place end : ℕ) (done : List Tree) (t : Tree) → from < place → place ≤ end → end < length w → slice_index w end ≡ 0x2C → ItemsBefore base w from place done → IsPadded (λ j v. Spells j v t) base w place end
    → ItemsBefore base w from (end + 1) (done ++ t ∷ [])
items_on base w from place end done t h k l e before item r u ts more =
    let here : base + (end + 1) ≡ base + end + 1 = omega arith in
    let further : SpellsFurtherItems (base + end) (0x2C ∷ r) (tree_and u ts) =
    after_made 0x2C (Padded (λ j v. Spells j v u) ▸ (λ j v. SpellsFurtherItems j v ts)) (base + end) (0x2C ∷ r) (r, refl, subst (λ n. (Padded (λ j v. Spells j v u) ▸ (λ j v. SpellsFurtherItems j v ts)) n r) here more) in
    let all = before (between w place end ++ (0x2C ∷ r)) t (tree_and u ts) (padded_gives (λ j v. Spells j v t) (λ j v. SpellsFurtherItems j v (tree_and u ts)) base w place end (0x2C ∷ r) (omega (arith, l)) item further) in
    subst (λ z. SpellsItems (base + from + 1) z (items_then (done ++ t ∷ []) (tree_and u ts))) (through w (from + 1) place end 0x2C r (omega (arith, h)) k l e)
    (subst (λ z. SpellsItems (base + from + 1) (between w (from + 1) place ++ (between w place end ++ (0x2C ∷ r))) z) (sym (items_last done t (tree_and u ts))) all)

-- the last one, with the bracket that stands behind it at the place `end`
pub items_end : (base : ℕ) (w : List ℕ) (from place end : ℕ) (done : List Tree) (t : Tree) → from < place → place ≤ end → end < length w → slice_index w from ≡ 0x5B → slice_index w end ≡ 0x5D → ItemsBefore base w from place done → IsPadded (λ j v. Spells j v t) base w place end
    → Spells (base + from) (between w from (end + 1)) (array (base + from) (items_of (done ++ t ∷ [])))
items_end base w from place end done t h k l opens e before item =
    let all = before (between w place end ++ []) t no_trees (padded_gives (λ j v. Spells j v t) (λ j v. SpellsFurtherItems j v no_trees) base w place end [] (omega (arith, l)) item refl) in
    let inside : SpellsItems (base + from + 1) (between w (from + 1) end) (items_of (done ++ t ∷ [])) =
    subst (λ z. SpellsItems (base + from + 1) z (items_of (done ++ t ∷ []))) (to_end w (from + 1) place end (omega (arith, h)) k l)
    (subst (λ z. SpellsItems (base + from + 1) (between w (from + 1) place ++ (between w place end ++ [])) z) (sym (items_last done t no_trees)) all) in
    array_made (items_of (done ++ t ∷ [])) (base + from) (base + from) (between w from (end + 1)) (refl, (between w (from + 1) end, enclosed w from end 0x5B 0x5D (omega (arith, h, k)) l opens e, inside))

pub items_empty : (base : ℕ) (w : List ℕ) (from end : ℕ) → from < end → end < length w → slice_index w from ≡ 0x5B → slice_index w end ≡ 0x5D → AreSpaces (between w (from + 1) end) → Spells (base + from) (between w from (end + 1)) (array (base + from) (items_of []))
items_empty base w from end h l opens e spaces = array_made (items_of []) (base + from) (base + from) (between w from (end + 1)) (refl, (between w (from + 1) end, enclosed w from end 0x5B 0x5D h l opens e, spaces))

-- ---- objects

members_last : (done : List Named) (n : Named) (ms : Members) → members_then (done ++ n ∷ []) ms ≡ members_then done (member_and n.name n.at n.tree ms)
members_last [] n ms = refl
members_last (m ∷ done) n ms = ap (member_and m.name m.at m.tree) (members_last done n ms)

pub members_none : (base : ℕ) (w : List ℕ) (from : ℕ) → from < length w → MembersBefore base w from (from + 1) []
members_none base w from l r name i t ms h =
    let here : base + (from + 1) ≡ base + from + 1 = omega arith in
    subst (λ z. SpellsMembers (base + from + 1) (z ++ r) (member_and name i t ms)) (sym (part-none w (from + 1) (omega (arith, l))))
    (subst (λ n. (WithName name i (λ j v. Spells j v t) ▸ (λ j v. SpellsFurtherMembers j v ms)) n r) here h)

-- a member from the place up to `end`, with its colon at the place `colon`
member_gives : (base : ℕ) (w : List ℕ) (place colon end : ℕ) (n : Named) (ms : Members) (r : List ℕ) → place ≤ colon → colon < end → end ≤ length w → slice_index w colon ≡ 0x3A → IsPadded (At n.at (SpellsString n.name)) base w place colon → IsPadded (λ j v. Spells j v n.tree) base w (colon + 1) end
    → SpellsFurtherMembers (base + end) r ms → (WithName n.name n.at (λ j v. Spells j v n.tree) ▸ (λ j v. SpellsFurtherMembers j v ms)) (base + place) (between w place end ++ r)
member_gives base w place colon end n ms r h k l e name item further =
    let here : base + (colon + 1) ≡ base + colon + 1 = omega arith in
    let value = padded_gives (λ j v. Spells j v n.tree) (λ j v. SpellsFurtherMembers j v ms) base w (colon + 1) end r l item further in
    let behind : AfterParts 0x3A (PaddedParts (λ j v. Spells j v n.tree) (λ j v. SpellsFurtherMembers j v ms)) (base + colon) (0x3A ∷ (between w (colon + 1) end ++ r)) = (
      between w (colon + 1) end ++ r,
      refl,
      padded_parts (λ j v. Spells j v n.tree) (λ j v. SpellsFurtherMembers j v ms) (base + colon + 1) (between w (colon + 1) end ++ r)
          (subst (λ i. (Padded (λ j v. Spells j v n.tree) ▸ (λ j v. SpellsFurtherMembers j v ms)) i (between w (colon + 1) end ++ r)) here value),
    ) in
    let all = padded_gives (At n.at (SpellsString n.name)) (AfterParts 0x3A (PaddedParts (λ j v. Spells j v n.tree) (λ j v. SpellsFurtherMembers j v ms))) base w place colon (0x3A ∷ (between w (colon + 1) end ++ r)) (omega (arith, k, l)) name behind in
    let bytes : between w place colon ++ (0x3A ∷ (between w (colon + 1) end ++ r)) ≡ between w place end ++ r =
    ap (λ z. between w place colon ++ (z ∷ (between w (colon + 1) end ++ r))) (sym e) ∙ (sym (append_assoc (between w place colon) (slice_index w colon ∷ between w (colon + 1) end) r)
    ∙ ap (λ z. z ++ r) (ap (λ z. between w place colon ++ z) (sym (part-cons w colon end k l)) ∙ sym (part-part w place colon end h (omega (arith, k)) l))) in
    named_made n.name n.at (λ j v. Spells j v n.tree) (λ j v. SpellsFurtherMembers j v ms) (base + place) (between w place end ++ r)
    (padded_parts (At n.at (SpellsString n.name)) (AfterParts 0x3A (PaddedParts (λ j v. Spells j v n.tree) (λ j v. SpellsFurtherMembers j v ms))) (base + place) (between w place end ++ r)
    (subst (λ z. (Padded (At n.at (SpellsString n.name)) ▸ AfterParts 0x3A (PaddedParts (λ j v. Spells j v n.tree) (λ j v. SpellsFurtherMembers j v ms))) (base + place) z) bytes all))

pub members_on : (base : ℕ) (w : List ℕ) (from place colon end : ℕ) (done : List Named) (n : Named) → from < place → place ≤ colon → colon < end → end < length w → slice_index w colon ≡ 0x3A → slice_index w end ≡ 0x2C → MembersBefore base w from place done
    → IsPadded (At n.at (SpellsString n.name)) base w place colon → IsPadded (λ j v. Spells j v n.tree) base w (colon + 1) end → MembersBefore base w from (end + 1) (done ++ n ∷ [])
members_on base w from place colon end done n h k k2 l c e before name item r other i u ms more =
    let here : base + (end + 1) ≡ base + end + 1 = omega arith in
    let further : SpellsFurtherMembers (base + end) (0x2C ∷ r) (member_and other i u ms) =
    after_made 0x2C (WithName other i (λ j v. Spells j v u) ▸ (λ j v. SpellsFurtherMembers j v ms)) (base + end) (0x2C ∷ r)
    (r, refl, subst (λ m. (WithName other i (λ j v. Spells j v u) ▸ (λ j v. SpellsFurtherMembers j v ms)) m r) here more) in
    let all = before (between w place end ++ (0x2C ∷ r)) n.name n.at n.tree (member_and other i u ms) (member_gives base w place colon end n (member_and other i u ms) (0x2C ∷ r) k k2 (omega (arith, l)) c name item further) in
    subst (λ z. SpellsMembers (base + from + 1) z (members_then (done ++ n ∷ []) (member_and other i u ms))) (through w (from + 1) place end 0x2C r (omega (arith, h)) (omega (arith, k, k2)) l e)
    (subst (λ z. SpellsMembers (base + from + 1) (between w (from + 1) place ++ (between w place end ++ (0x2C ∷ r))) z) (sym (members_last done n (member_and other i u ms))) all)

pub members_end : (base : ℕ) (w : List ℕ) (from place colon end : ℕ) (done : List Named) (n : Named) → from < place → place ≤ colon → colon < end → end < length w → slice_index w from ≡ 0x7B → slice_index w colon ≡ 0x3A → slice_index w end ≡ 0x7D → MembersBefore base w from place done
    → IsPadded (At n.at (SpellsString n.name)) base w place colon → IsPadded (λ j v. Spells j v n.tree) base w (colon + 1) end → Spells (base + from) (between w from (end + 1)) (object (base + from) (members_of (done ++ n ∷ [])))
members_end base w from place colon end done n h k k2 l opens c e before name item =
    let all = before (between w place end ++ []) n.name n.at n.tree no_members (member_gives base w place colon end n no_members [] k k2 (omega (arith, l)) c name item refl) in
    let inside : SpellsMembers (base + from + 1) (between w (from + 1) end) (members_of (done ++ n ∷ [])) =
    subst (λ z. SpellsMembers (base + from + 1) z (members_of (done ++ n ∷ []))) (to_end w (from + 1) place end (omega (arith, h)) (omega (arith, k, k2)) l)
    (subst (λ z. SpellsMembers (base + from + 1) (between w (from + 1) place ++ (between w place end ++ [])) z) (sym (members_last done n no_members)) all) in
    object_made (members_of (done ++ n ∷ [])) (base + from) (base + from) (between w from (end + 1)) (refl, (between w (from + 1) end, enclosed w from end 0x7B 0x7D (omega (arith, h, k, k2)) l opens e, inside))

pub members_empty : (base : ℕ) (w : List ℕ) (from end : ℕ) → from < end → end < length w → slice_index w from ≡ 0x7B → slice_index w end ≡ 0x7D → AreSpaces (between w (from + 1) end) → Spells (base + from) (between w from (end + 1)) (object (base + from) (members_of []))
members_empty base w from end h l opens e spaces = object_made (members_of []) (base + from) (base + from) (between w from (end + 1)) (refl, (between w (from + 1) end, enclosed w from end 0x7B 0x7D h l opens e, spaces))
