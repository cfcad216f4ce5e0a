-- Tests behind one another, each behind its word, up to the end of the text.
-- For `read_query`.
use Rattle.std.proofs.Common.{◌≡◌, ℕ, ◌+◌, ◌<◌, ◌≤◌, ◌⊎◌, inl, inr, List, [], ◌∷◌, ◌++◌, length, drop, map, codes, Option, refl, sym, ◌∙◌, ap, subst, arith, append-nil, append_assoc, length-append, lit<}
use Rattle.std.proofs.lemmas.List.{drop_all, map-append}
use Rattle.at_text.specs.Parts.{Exactly}
use Rattle.at_fixed.specs.declared.rounding.Coords.{Coords}
use Rattle.at_wkt.proofs.Leads.{part-cons}
use Rattle.at_wkt.proofs.Lists.{to_right, to_left}
use Rattle.at_query.specs.declared.query.queries.Test.{Test}
use Rattle.at_query.specs.declared.query.filters.TestRead.{TestRead}
use Rattle.at_query.specs.Spelling.{SpellsTest, SpellsTests}
use Rattle.at_query.specs.Queries.{lesser}
use Rattle.at_fixed.specs.NumberSoFar.{between}
use Rattle.at_query.specs.Readers.{Ends, AgreesThrough, past, over, Stops, Covers, Breaks, Behind, Then, TestMeaning, test_meaning, OneTest, Tests, joint_of, tests_of, fault_of, test_in, TestsCover}
use Rattle.at_query.proofs.Parted.{Lives, then_covers, then_breaks, first_stops, stops_break}
use Rattle.at_query.proofs.BoxParts.{lesser-assoc, lesser-none}

-- what goes on as the text does is not nothing before its end
nothing_on : (w : List ℕ) (i n : ℕ) → i < length w → i ≤ n → AgreesThrough w i n [] → ⊥
nothing_on w i n short h (past below s e) = let line : [] ≡ (_ ∷ between w (i + 1) (n + 1)) ++ s = e ∙ ap (λ z. z ++ s) (part-cons w i (n + 1) (omega arith) (omega arith)) in cc
nothing_on w i n short h (over end e) = let line : [] ≡ _ ∷ between w (i + 1) n = e ∙ part-cons w i n (omega (arith, end)) (omega (arith, end)) in cc

-- ---- the words between

joint_long : {X : Type 0} (xs : List X) → 0 < length (joint_of xs)
joint_long [] = lit< tt
joint_long (x ∷ xs) = lit< tt

joint_map : (ms : List TestMeaning) → joint_of (tests_of ms) ≡ joint_of ms
joint_map [] = refl
joint_map (m ∷ ms) = refl

joint_more : (ms : List TestMeaning) (m : TestMeaning) → joint_of (ms ++ (m ∷ [])) ≡ codes " and "
joint_more [] m = refl
joint_more (n ∷ ms) m = refl

tests_more : (ms : List TestMeaning) (m : TestMeaning) → tests_of (ms ++ (m ∷ [])) ≡ tests_of ms ++ (m.test ∷ [])
tests_more ms m = map-append (λ (n : TestMeaning). n.test) ms (m ∷ [])

fault_more : (ms : List TestMeaning) (m : TestMeaning) → fault_of (ms ++ (m ∷ [])) ≡ lesser (fault_of ms) m.fault
fault_more [] m = lesser-none m.fault
fault_more (n ∷ ms) m = ap (lesser n.fault) (fault_more ms m) ∙ sym (lesser-assoc n.fault (fault_of ms) m.fault)

pub joint_is : (items : List Test) (ms : List TestMeaning) (word : List ℕ) → items ≡ tests_of ms → word ≡ joint_of items → word ≡ joint_of ms
joint_is items ms word e f = f ∙ (ap joint_of e ∙ joint_map ms)

module _ (digits : ℕ) (how : Coords) where
  -- a test behind its word, and behind it further ones
  abbrev SomeTests : List ℕ → TestMeaning × List TestMeaning → ℕ → List ℕ → Type 0
  SomeTests word = Then (Behind word (OneTest digits how)) (Tests digits how (codes " and "))

  from_some : (word : List ℕ) (p : TestMeaning × List TestMeaning) (at : ℕ) (v : List ℕ) → SomeTests word p at v → Tests digits how word (p.0 ∷ p.1) at v
  from_some word p at v (v1, v2, ev, (a, b, eb, ew, (t, em, s)), (ts, es, ss)) = (
    t ∷ ts,
    ap (λ z. z ∷ p.1) em ∙ ap (λ z. test_meaning digits how t ∷ z) es,
    to_right (Exactly word) (SpellsTest t) (SpellsTests (codes " and ") ts) at v (v1, v2, ev, (a, b, eb, ew, s), ss),
  )

  to_some : (word : List ℕ) (ms : List TestMeaning) (at : ℕ) (v : List ℕ) → Tests digits how word ms at v
      → ((v ≡ []) × (ms ≡ [])) ⊎ ((p : TestMeaning × List TestMeaning) × (ms ≡ p.0 ∷ p.1) × SomeTests word p at v)
  to_some word ms at v ([], em, s) = inl (s, em)
  to_some word ms at v (t ∷ ts, em, s) =
      let (v1, v2, ev, (a, b, eb, ew, st), ss) = to_left (Exactly word) (SpellsTest t) (SpellsTests (codes " and ") ts) at v s in
      inr ((test_meaning digits how t, map (test_meaning digits how) ts), em, (v1, v2, ev, (a, b, eb, ew, (t, refl, st)), (ts, refl, ss)))

  pub tests_lives : (word : List ℕ) → Lives (Tests digits how word)
  tests_lives word at = ([], [], ([], refl, refl))

  some_bytes : (word : List ℕ) → 0 < length word → (p : TestMeaning × List TestMeaning) (at : ℕ) (v : List ℕ) → SomeTests word p at v → v ≡ [] → ⊥
  some_bytes word long p at v (v1, v2, ev, (a, b, eb, ew, t), ts) e =
      omega (arith, long, ap length e, ap length ev, length-append v1 v2, ap length eb, length-append a b, ap length ew)

  module _ (word : List ℕ) (long : 0 < length word) (w : List ℕ) (i : ℕ) where
    tests_none : i ≡ length w → Covers (Tests digits how word) w i []
    tests_none e =
        let none : drop i w ≡ [] = drop_all i w (omega (arith, e)) in
        record {
          within = omega (arith, e);
          sound = ([], refl, none);
          only = λ ms h. elim (to_some word ms i (drop i w) h) [
            | inl (f, g) ↦ g
            | inr (p, f, s) ↦ absurd (some_bytes word long p i (drop i w) s none)
          ];
        }

    lead_covers : (m : TestMeaning) (ms : List TestMeaning) → Covers (SomeTests word) w i (m, ms) → Covers (Tests digits how word) w i (m ∷ ms)
    lead_covers m ms h = record {
      within = h.within;
      sound = from_some word (m, ms) i (drop i w) h.sound;
      only = λ ns q. elim (to_some word ns i (drop i w) q) [
        | inl (f, g) ↦ absurd (some_bytes word long (m, ms) i (drop i w) h.sound f)
        | inr (p, f, s) ↦ f ∙ ap (λ (z : TestMeaning × List TestMeaning). z.0 ∷ z.1) (h.only p s)
      ];
    }

    lead_breaks : i < length w → (n : ℕ) → Breaks (SomeTests word) w i n → Breaks (Tests digits how word) w i n
    lead_breaks short n h = record {
      order = h.order;
      within = h.within;
      viable = (let (p, more, s) = h.viable in (p.0 ∷ p.1, more, from_some word p i (between w i n ++ more) s));
      dead = λ ns v q on. elim (to_some word ns i v q) [
        | inl (f, g) ↦ nothing_on w i n short h.order (subst (AgreesThrough w i n) f on)
        | inr (p, f, s) ↦ h.dead p v s on
      ];
    }

  -- the tests read from a place up to another: these items and this least fault, and what follows there leads on
  pub record SoFar (w : List ℕ) (start at : ℕ) (items : List Test) (fault : Option ℕ) : Type 0 where
    pub within : at ≤ length w
    pub done : List TestMeaning
    pub items_are : items ≡ tests_of done
    pub fault_is : fault ≡ fault_of done
    pub covers : (ms : List TestMeaning) → Covers (Tests digits how (joint_of done)) w at ms → Covers (Tests digits how (codes " where ")) w start (done ++ ms)
    pub breaks : (n : ℕ) → Breaks (Tests digits how (joint_of done)) w at n → Breaks (Tests digits how (codes " where ")) w start n

  module _ (w : List ℕ) (start at : ℕ) (items : List Test) (fault : Option ℕ) (h : SoFar w start at items fault) where
    pub at_end : length w ≤ at → TestsCover digits how w start items fault
    at_end e =
        let none = tests_none (joint_of h.done) (joint_long h.done) w at (omega (arith, e, h.within)) in
        record {
          meanings = h.done;
          covers = subst (Covers (Tests digits how (codes " where ")) w start) (append-nil h.done) (h.covers [] none);
          items_are = h.items_are;
          fault_is = h.fault_is;
        }

    module _ (short : at < length w) where
      abbrev First : TestMeaning → ℕ → List ℕ → Type 0
      First = Behind (joint_of h.done) (OneTest digits how)

      pub so_far_stops : (n : ℕ) → Stops First w at n → Breaks (Tests digits how (codes " where ")) w start n
      so_far_stops n s = h.breaks n (lead_breaks (joint_of h.done) (joint_long h.done) w at short n (stops_break (first_stops (tests_lives (codes " and ")) s)))

      pub so_far_more : (read : TestRead) (least : Option ℕ) → least ≡ lesser fault read.fault → Ends First w at read.end (test_in read) → SoFar w start read.end (items ++ (read.test ∷ [])) least
      so_far_more read least e q =
          let m = test_in read in
          let next_word : joint_of (h.done ++ (m ∷ [])) ≡ codes " and " = joint_more h.done m in
          record {
            within = q.within;
            done = h.done ++ (m ∷ []);
            items_are = ap (λ z. z ++ (read.test ∷ [])) h.items_are ∙ sym (tests_more h.done m);
            fault_is = e ∙ (ap (λ z. lesser z read.fault) h.fault_is ∙ sym (fault_more h.done m));
            covers = λ ms c.
                let further : Covers (Tests digits how (codes " and ")) w read.end ms = subst (λ z. Covers (Tests digits how z) w read.end ms) next_word c in
                let all = h.covers (m ∷ ms) (lead_covers (joint_of h.done) (joint_long h.done) w at m ms (then_covers q further)) in
                subst (Covers (Tests digits how (codes " where ")) w start) (sym (append_assoc h.done (m ∷ []) ms)) all;
            breaks = λ n c.
                let further : Breaks (Tests digits how (codes " and ")) w read.end n = subst (λ z. Breaks (Tests digits how z) w read.end n) next_word c in
                h.breaks n (lead_breaks (joint_of h.done) (joint_long h.done) w at short n (then_breaks q further));
          }
