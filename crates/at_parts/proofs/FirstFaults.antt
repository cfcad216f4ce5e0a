-- Behind sound parts the bytes of a part go on as they do in the frame, so their first fault of syntax is the file's.
-- For `first_syntax_fault`.
use Rattle.std.proofs.Common.{◌≡◌, ℕ, List, [], ◌∷◌, ◌++◌, Bool, codes, if◌then◌else◌, nat_lt, refl, sym, ◌∙◌, ap, subst, arith, append_assoc, length-append, ◌+◌, ◌-◌, ◌<◌, ◌≤◌, length, take, drop, take-append-drop}
use native.Mathlib.Decide.{dec_lt}
use Rattle.std.proofs.lemmas.Bool.{lt-ltb}
use Rattle.std.proofs.lemmas.List.{take-append-le}
use Rattle.std.proofs.Math.Seq.{take-append_seam, take-append-add}
use Rattle.at_text.specs.declared.faults.Fault.{Fault}
use Rattle.at_text.specs.declared.faults.FaultKind.TheVariants.{Syntax, Ended}
use Rattle.at_text.specs.Faults.{fault_at}
use Rattle.at_text.specs.Prefix.{Viable, LongestViable}
use Rattle.at_text.specs.Syntax.{IsSyntaxFault, stop_fault}
use Rattle.at_text.specs.Texts.{base_of}
use Rattle.at_fixed.specs.declared.rounding.Coords.{Coords}
use Rattle.at_nest.specs.Tree.{object, Trees, no_trees, tree_and, Members, no_members, SpellsItems}
use Rattle.at_nest.specs.Syntax.{JsonText}
use Rattle.at_nest.proofs.TreeParts.{items_made, object_made}
use Rattle.at_parts.specs.Moved.{fault_moved}
use Rattle.at_parts.specs.Collections.{joined, opening, FirstSyntaxFaultIsTheWholes}
use Rattle.at_parts.proofs.MovedTrees.{moved_items, moved_members, items_at, further_members_moved, further_members_back}
use Rattle.at_parts.proofs.CommaItems.{appended, AreSome, Lined, lined_parts, lined_made}
use Rattle.at_parts.proofs.Fronts.{Closing, closing_with}
use Rattle.at_parts.proofs.Wholes.{Front, members_of, whole_parts, whole_made}
use Rattle.at_parts.proofs.Openings.{front_is, opening_front}
use Rattle.at_parts.proofs.Stands.{begun_some}
use Rattle.at_parts.proofs.Joined.{some_moved, some_back, parts_in_row}
use Rattle.at_parts.proofs.Files.{body_of, same_base}

-- ---- the same bytes behind another front

some_at : (from to : ℕ) (w : List ℕ) (ts : Trees) → SpellsItems from w ts → AreSome ts → (us : Trees) × SpellsItems to w us × AreSome us
some_at from to w ts h some = let (us, e, k) = items_at from to w ts h in (moved_items to us, k, some_moved to us (some_back from us ts e some))

closing_at : (from to : ℕ) (more : Members) (w : List ℕ) → Closing more from w → (others : Members) × Closing others to w
closing_at from to more w c =
    let (ms, h) = further_members_back from (length c.spaces) c.others more c.further in
    (moved_members to ms, closing_with more (moved_members to ms) from to w c (further_members_moved to (length c.spaces) c.others ms h))

-- with the bracket of the first feature
abbrev opened : List ℕ
opened = opening ++ (0x7B ∷ [])

opened_on : (r : List ℕ) → opened ++ r ≡ opening ++ (0x7B ∷ r)
opened_on r = append_assoc opening (0x7B ∷ []) r

abbrev before : List ℕ → List ℕ → List ℕ
before w row = w ++ (row ++ (0x7B ∷ []))

before_on : (w row r : List ℕ) → before w row ++ r ≡ w ++ (row ++ (0x7B ∷ r))
before_on w row r = append_assoc w (row ++ (0x7B ∷ [])) r ∙ ap (λ o. w ++ o) (append_assoc row (0x7B ∷ []) r)

module _ (at : ℕ) (w : List ℕ) (f : Front at w) (ts : Trees) (row : List ℕ) (lined : Lined ts (at + length w) row) where
  text_there : (r : List ℕ) → JsonText 0 (opening ++ (0x7B ∷ r)) → JsonText at (w ++ (row ++ (0x7B ∷ r)))
  text_there r (t, h) =
      let wh = whole_parts 0 opening opening_front (0x7B ∷ r) t h in
      let some = begun_some wh.items (0 + length opening) wh.features wh.behind r wh.spelled wh.split in
      let (us, hu, are) = some_at (0 + length opening) (at + length w + length row) wh.features wh.items wh.spelled some in
      let (more, closes) = closing_at (0 + length opening + length wh.features + 1) (at + length w + length row + length wh.features + 1) wh.more wh.behind wh.closes in
      let place : at + length w + length row + length wh.features + 1 ≡ at + length w + length (row ++ wh.features) + 1 = omega (arith, length-append row wh.features) in
      let split : row ++ (0x7B ∷ r) ≡ (row ++ wh.features) ++ (0x5D ∷ wh.behind) = ap (λ o. row ++ o) wh.split ∙ sym (append_assoc row wh.features (0x5D ∷ wh.behind)) in
      (object (at + length f.before) (members_of at w f (appended ts us) more), whole_made at w f (row ++ (0x7B ∷ r)) (appended ts us) more (row ++ wh.features) wh.behind split (lined_made ts (at + length w) row wh.features us lined are hu) (subst (λ o. Closing more o wh.behind) place closes))

  text_back : (r : List ℕ) → JsonText at (w ++ (row ++ (0x7B ∷ r))) → JsonText 0 (opening ++ (0x7B ∷ r))
  text_back r (t, h) =
      let wh = whole_parts at w f (row ++ (0x7B ∷ r)) t h in
      let on = lined_parts ts (at + length w) row (0x7B ∷ r) lined wh.items wh.features wh.behind wh.spelled wh.split in
      let some = begun_some on.behind_them (at + length w + length row) on.bytes wh.behind r on.spelled on.split in
      let (us, hu, are) = some_at (at + length w + length row) (0 + length opening) on.bytes on.behind_them on.spelled some in
      let (more, closes) = closing_at (at + length w + length wh.features + 1) (0 + length opening + length on.bytes + 1) wh.more wh.behind wh.closes in
      (object (0 + length opening_front.before) (members_of 0 opening opening_front us more), whole_made 0 opening opening_front (0x7B ∷ r) us more on.bytes wh.behind on.split hu closes)

  viable_there : (r : List ℕ) → Viable (JsonText 0) (opened ++ r) → Viable (JsonText at) (before w row ++ r)
  viable_there r (more, h) = (more, subst (JsonText at) (sym (append_assoc (before w row) r more ∙ before_on w row (r ++ more))) (text_there (r ++ more) (subst (JsonText 0) (append_assoc opened r more ∙ opened_on (r ++ more)) h)))

  viable_back : (r : List ℕ) → Viable (JsonText at) (before w row ++ r) → Viable (JsonText 0) (opened ++ r)
  viable_back r (more, h) = (more, subst (JsonText 0) (sym (append_assoc opened r more ∙ opened_on (r ++ more))) (text_back (r ++ more) (subst (JsonText at) (append_assoc (before w row) r more ∙ before_on w row (r ++ more)) h)))

-- ---- the longest front

taken_on : (a x y : List ℕ) (j : ℕ) → j ≤ length x → take (length a + j) (a ++ (x ++ y)) ≡ a ++ take j x
taken_on a x y j h = take-append-add a (x ++ y) j ∙ ap (λ o. a ++ o) (take-append-le j x y h)

module _ (L K : List ℕ → Type 0) (a b : List ℕ) (there : (r : List ℕ) → Viable L (a ++ r) → Viable K (b ++ r)) (back : (r : List ℕ) → Viable K (b ++ r) → Viable L (a ++ r)) where
  -- where the bytes x stop behind a within x, so they do behind b
  pub record Stops (x y : List ℕ) (n : ℕ) : Type 0 where
    pub on : ℕ
    pub place : n ≡ length a + on
    pub longest : LongestViable K (b ++ (x ++ y)) (length b + on)
    pub no_word : ¬ K (b ++ (x ++ y))

  viable_word : (x y : List ℕ) (j : ℕ) → K (b ++ (x ++ y)) → Viable K (b ++ take j x)
  viable_word x y j h =
      let bytes : b ++ (x ++ y) ≡ (b ++ take j x) ++ (drop j x ++ y) = ap (λ o. b ++ (o ++ y)) (sym (take-append-drop j x)) ∙ (simp append_assoc) in
      (drop j x ++ y, subst K bytes h)

  stops_on : (x y z : List ℕ) (n j : ℕ) → n ≡ length a + j → j < length x → LongestViable L (a ++ (x ++ z)) n → Stops x y n
  stops_on x y z n j e small h =
      let least : j ≤ length x = omega (arith, small) in
      let next : j + 1 ≤ length x = omega (arith, small) in
      let within : n < length (a ++ (x ++ z)) = omega (arith, e, small, length-append {A = ℕ}) in
      let further : n + 1 ≡ length a + (j + 1) = omega (arith, e) in
      let behind : length b + j + 1 ≡ length b + (j + 1) = omega arith in
      let never : ¬ Viable K (b ++ take (j + 1) x) = λ v. h.longest within (subst (Viable L) (sym (ap (λ o. take o (a ++ (x ++ z))) further ∙ taken_on a x z (j + 1) next)) (back (take (j + 1) x) v)) in
      record {
        on = j;
        place = e;
        longest = record {
          fits = omega (arith, length-append {A = ℕ}, small);
          front = subst (Viable K) (sym (taken_on b x y j least)) (there (take j x) (subst (Viable L) (ap (λ o. take o (a ++ (x ++ z))) e ∙ taken_on a x z j least) h.front));
          longest = λ _ v. never (subst (Viable K) (ap (λ o. take o (b ++ (x ++ y))) behind ∙ taken_on b x y (j + 1) next) v);
        };
        no_word = λ k. never (viable_word x y (j + 1) k);
      }

  stops : (x y z : List ℕ) (n : ℕ) → Viable L a → length a ≤ n + 1 → n < length a + length x → LongestViable L (a ++ (x ++ z)) n → Stops x y n
  stops x y z n lives least most h = elim (dec_lt n (length a)) [
    | yes short ↦ (
        let within : n < length (a ++ (x ++ z)) = omega (arith, short, length-append {A = ℕ}) in
        let all : n + 1 ≡ length a = omega (arith, short, least) in
        absurd (h.longest within (subst (Viable L) (sym (ap (λ o. take o (a ++ (x ++ z))) all ∙ take-append_seam a (x ++ z))) lives)))
    | no long ↦ stops_on x y z n (n - length a) (omega (arith, long)) (omega (arith, long, most)) h
  ]

-- ---- the fault

stop_at : (b : Bool) (i : ℕ) → (if b then fault_at Syntax i else fault_at Ended i).at ≡ i
stop_at b i = grind arith

stop_syntax : (at : ℕ) (w : List ℕ) (n : ℕ) → n < length w → stop_fault at w n ≡ fault_at Syntax (at + n)
stop_syntax at w n h = ap (λ o. if o then fault_at Syntax (at + n) else fault_at Ended (at + n)) (lt-ltb n (length w) h)

-- a feature of no members
opened_lives : Viable (JsonText 0) opened
opened_lives =
    let item : Trees = tree_and (object 40 no_members) no_trees in
    let spelled = items_made (object 40 no_members) no_trees 40 (codes "{}") ([], codes "{}", [], [], refl, tt, tt, object_made no_members 40 40 (codes "{}") (refl, ([], refl, tt)), refl) in
    let closes : Closing no_members (0 + length opening + 2 + 1) (codes "}") = record { spaces = []; others = []; end = []; split = refl; are_spaces = tt; are_end = tt; further = refl } in
    let text = whole_made 0 opening opening_front (codes "{}]}") item no_members (codes "{}") (codes "}") refl spelled closes in
    (codes "}]}", (object (0 + length opening_front.before) (members_of 0 opening opening_front item no_members), text))

pub first_syntax_fault : (digits : ℕ) (how : Coords) → FirstSyntaxFaultIsTheWholes digits how
first_syntax_fault digits how front parts first rest after behind f (ms, opens) sounds fault low high =
    let at : ℕ = base_of front in
    let w : List ℕ = body_of front in
    let fr : Front at w = front_is ms at w opens in
    let row : List ℕ = joined parts in
    let z : List ℕ = row ++ ((0x7B ∷ rest) ++ behind) in
    let x : List ℕ = opening ++ ((0x7B ∷ rest) ++ after) in
    let s = same_base front z fr in
    let in_row = parts_in_row digits how parts (length front) first sounds in
    let lined : Lined in_row.items (at + length w) row = subst (λ o. Lined in_row.items o row) (sym s.size) in_row.lined in
    let n : ℕ = fault.taken in
    let here : f.at ≡ 0 + n = ap (λ o. o.at) fault.place ∙ stop_at (nat_lt n (length x)) (0 + n) in
    let size : length opening ≡ 40 = refl in
    let opened_size : length opened ≡ 41 = refl in
    let rest_size : length (0x7B ∷ rest) ≡ 1 + length rest = omega arith in
    let least : length opened ≤ n + 1 = omega (arith, here, size, opened_size, low) in
    let most : n < length opened + length rest = omega (arith, here, size, opened_size, rest_size, high) in
    let longest : LongestViable (JsonText 0) (opened ++ (rest ++ after)) n = subst (λ o. LongestViable (JsonText 0) o n) (sym (opened_on (rest ++ after))) fault.longest in
    let st = stops (JsonText 0) (JsonText at) opened (before w row) (viable_there at w fr in_row.items row lined) (viable_back at w fr in_row.items row lined) rest behind after n opened_lives least most longest in
    let j : ℕ = st.on in
    let place : n ≡ length opened + j = st.place in
    let small : j < length rest = omega (arith, place, most) in
    let x_size : length x ≡ length opening + (1 + (length rest + length after)) = length-append opening ((0x7B ∷ rest) ++ after) ∙ (simp length-append (omega arith)) in
    let within : n < length x = omega (arith, x_size, size, opened_size, place, small) in
    let alone : Fault = fault_at Syntax (1 + j) in
    let in_frame : 0 + n ≡ length opening + (1 + j) = omega (arith, place, size, opened_size) in
    let before_size : length (before w row) ≡ length w + (length row + 1) = simp length-append (omega arith) in
    let z_size : length (w ++ z) ≡ length w + (length row + (1 + (length rest + length behind))) = simp length-append (omega arith) in
    let m : ℕ = length (before w row) + j in
    let inside : m < length (w ++ z) = omega (arith, before_size, z_size, small) in
    let base_size : at + length w ≡ length front = s.size in
    let there : at + m ≡ length front + length row + (1 + j) = omega (arith, before_size, base_size) in
    let bytes : before w row ++ (rest ++ behind) ≡ w ++ z = before_on w row (rest ++ behind) in
    let g : Fault = fault_moved (length front + length row) alone in
    let found : IsSyntaxFault (JsonText at) at (w ++ z) g = record {
      no_word = subst (λ o. ¬ JsonText at o) bytes st.no_word;
      taken = m;
      longest = subst (λ o. LongestViable (JsonText at) o m) bytes st.longest;
      place = sym (stop_syntax at (w ++ z) m inside ∙ ap (fault_at Syntax) there);
    } in (
      g,
      (alone, fault.place ∙ (stop_syntax 0 x n within ∙ ap (fault_at Syntax) in_frame), refl),
      subst (λ o. IsSyntaxFault (JsonText (base_of (front ++ z))) (base_of (front ++ z)) o g) (sym s.body) (subst (λ o. IsSyntaxFault (JsonText o) o (w ++ z) g) (sym s.base) found),
    )
