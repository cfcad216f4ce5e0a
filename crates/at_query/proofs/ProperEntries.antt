-- The part of a join is a proper list of entries, where its features are proper.
-- For the crates above.
use Rattle.std.proofs.Common.{◌≡◌, ℕ, ◌<◌, List, [], ◌∷◌, map, arith, refl, sym, subst, inl, inr}
use Rattle.std.specs.List.{AllByRecursion}
use Rattle.at_query.specs.declared.query.queries.Verb.TheVariants as verbs
use Rattle.at_query.specs.declared.query.queries.Query.{Query}
use Rattle.at_query.specs.declared.features.Feature.{Feature}
use Rattle.at_query.specs.declared.answer.parts.Entry.{Entry}
use Rattle.at_query.specs.declared.answer.parts.Part.TheVariants.{Entries}
use Rattle.at_query.specs.Holding.{Holds}
use Rattle.at_query.specs.Results.{Keeps}
use Rattle.at_query.specs.Parts.{entry_of, IsPart, AreRising, IsProperEntry, AreProper, IsProperFeature, AreProperFeatures}
use Rattle.at_query.proofs.KeptLists.{kept_all}

abbrev at_of : Feature → ℕ
at_of f = f.at

-- all offsets are above n
abbrev AreAbove : ℕ → List Feature → Type 0
AreAbove n fs = AllByRecursion (λ (f : Feature). n < f.at) fs

rising_rest : (n : ℕ) (fs : List Feature) → AreRising (n ∷ map at_of fs) → AreRising (map at_of fs)
rising_rest n [] h = tt
rising_rest n (f ∷ fs) h = h.1

raised : (n m : ℕ) (fs : List Feature) → n < m → AreAbove m fs → AreAbove n fs
raised n m [] lt h = tt
raised n m (f ∷ fs) lt h = (omega (arith, h.0), raised n m fs lt h.1)

all_above : (n : ℕ) (fs : List Feature) → AreRising (n ∷ map at_of fs) → AreAbove n fs
all_above n [] h = tt
all_above n (f ∷ fs) h = (h.0, raised n f.at fs h.0 (all_above f.at fs h.1))

rising_from : (n : ℕ) (fs : List Feature) → AreAbove n fs → AreRising (map at_of fs) → AreRising (n ∷ map at_of fs)
rising_from n [] above h = tt
rising_from n (f ∷ fs) above h = (above.0, h)

-- what is kept of rising offsets rises
kept_rises : (P : Feature → Type 0) (fs kept : List Feature) → Keeps P fs kept → AreRising (map at_of fs) → AreRising (map at_of kept)
kept_rises P [] kept h rising = subst (λ (l : List Feature). AreRising (map at_of l)) (sym h) tt
kept_rises P (f ∷ fs) kept (inl (p, (zs, e, h))) rising =
    subst (λ (l : List Feature). AreRising (map at_of l)) (sym e)
    (rising_from f.at zs (kept_all P (λ (g : Feature). f.at < g.at) fs zs h (all_above f.at fs rising)) (kept_rises P fs zs h (rising_rest f.at fs rising)))
kept_rises P (f ∷ fs) kept (inr (n, h)) rising = kept_rises P fs kept h (rising_rest f.at fs rising)

proper_entries : (fs : List Feature) → AllByRecursion IsProperFeature fs → AllByRecursion IsProperEntry (map entry_of fs)
proper_entries [] h = tt
proper_entries (f ∷ fs) h = (record { extent = refl; closed = h.0.closed; in_range = h.0.in_range }, proper_entries fs h.1)

ats_of_entries : (fs : List Feature) → map (λ (e : Entry). e.at) (map entry_of fs) ≡ map at_of fs
ats_of_entries [] = refl
ats_of_entries (f ∷ fs) = rw (ats_of_entries fs)

-- the part of a join over features with closed rings, coordinates in range and rising offsets is a proper list of entries
pub entries_are_proper : (query : Query) (fs : List Feature) (es : List Entry) → query.verb ≡ verbs.Join → IsPart query fs (Entries es) → AreProperFeatures fs → AreProper es
entries_are_proper query fs es join (kept, h, e) proper =
    let is : Entries es ≡ Entries (map entry_of kept) = rw join at e in
    let same : es ≡ map entry_of kept = cc in
    subst AreProper (sym same) (record {
      rising = subst AreRising (sym (ats_of_entries kept)) (kept_rises (Holds query) fs kept h proper.rising);
      entries = proper_entries kept (kept_all (Holds query) IsProperFeature fs kept h proper.features);
    })
