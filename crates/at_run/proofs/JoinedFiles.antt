-- The pairs of the entries of two files are the answer to a join over the files' features.
-- For `answer_join`.
use Rattle.std.proofs.Common.{◌≡◌, ℕ, inl, inr, List, [], ◌∷◌, ◌++◌, map, None, refl, sym, ap, ◌∙◌, subst}
use Rattle.std.proofs.lemmas.List.{map-append}
use Rattle.at_fixed.specs.declared.rounding.Coords.{Coords}
use Rattle.at_query.specs.declared.query.queries.Verb.TheVariants as verbs
use Rattle.at_query.specs.declared.query.queries.Query.{Query}
use Rattle.at_query.specs.declared.features.Feature.{Feature}
use Rattle.at_query.specs.declared.answer.parts.Entry.{Entry}
use Rattle.at_query.specs.declared.answer.parts.Part.TheVariants.{Entries}
use Rattle.at_query.specs.declared.answer.answers.Pair.{Pair}
use Rattle.at_query.specs.declared.answer.answers.Answer.TheVariants.{Pairs}
use Rattle.at_query.specs.Holding.{Holds}
use Rattle.at_query.specs.Results.{Keeps, pairs_of, Joins, at_pair, IsJoined}
use Rattle.at_query.specs.Parts.{entry_of, IsPart, AreProper, AreProperFeatures}
use Rattle.at_query.proofs.KeptLists.{keeps-append, keeps_parts}
use Rattle.at_query.proofs.ProperEntries.{entries_are_proper}
use Rattle.at_join.specs.Meetings.{Meeting, at_entries, IsAllPairs}
use Rattle.at_run.specs.declared.forms.Form.{Form}
use Rattle.at_run.specs.declared.forms.Form.TheVariants.{GeoJson, Wkt, Seq}
use Rattle.at_run.specs.Files.{HasFileFaultIn, AreFileFeaturesIn}
use Rattle.at_run.specs.Answers.{IsFilePart, IsJoinAnswer}
use Rattle.at_seq.proofs.ProperEntries.{seq_features_proper}
use Rattle.at_run.proofs.ProperFeatures.{file_features_proper, json_features_proper}

-- ---- what is kept of lists

unmapped : {X Z : Type 0} (P : Z → Type 0) (h : X → Z) (xs : List X) (ks : List Z) → Keeps P (map h xs) ks → (js : List X) × Keeps (λ (x : X). P (h x)) xs js × (ks ≡ map h js)
unmapped P h [] ks e = ([], refl, e)
unmapped P h (x ∷ xs) ks (inl (p, (zs, e, r))) = let (js, k, same) = unmapped P h xs zs r in (x ∷ js, inl (p, (js, refl, k)), e ∙ ap (λ l. h x ∷ l) same)
unmapped P h (x ∷ xs) ks (inr (n, r)) = let (js, k, same) = unmapped P h xs ks r in (js, inr (n, k), same)

-- a query without tests holds of each
all_kept : (query : Query) (fs kept : List Feature) → query.tests ≡ [] → Keeps (Holds query) fs kept → kept ≡ fs
all_kept query [] kept none h = h
all_kept query (f ∷ fs) kept none (inl (p, (zs, e, r))) = e ∙ ap (λ l. f ∷ l) (all_kept query fs zs none r)
all_kept query (f ∷ fs) kept none (inr (n, r)) = absurd (n (rw none tt))

-- ---- pairs of features and of their entries

abbrev both_entries : Feature × Feature → Entry × Entry
both_entries (f, g) = (entry_of f, entry_of g)

abbrev Met : Feature × Feature → Type 0
Met pair = Meeting (both_entries pair)

abbrev row : Feature → List Feature → List (Feature × Feature)
row f gs = map (λ (g : Feature). (f, g)) gs

row_of_entries : (f : Feature) (gs : List Feature) → map (λ (y : Entry). (entry_of f, y)) (map entry_of gs) ≡ map both_entries (row f gs)
row_of_entries f [] = refl
row_of_entries f (g ∷ gs) = ap (λ l. (entry_of f, entry_of g) ∷ l) (row_of_entries f gs)

pairs_of_entries : (fs gs : List Feature) → pairs_of (map entry_of fs) (map entry_of gs) ≡ map both_entries (pairs_of fs gs)
pairs_of_entries [] gs = refl
pairs_of_entries (f ∷ fs) gs =
    ap (λ l. l ++ pairs_of (map entry_of fs) (map entry_of gs)) (row_of_entries f gs)
    ∙ (ap (λ l. map both_entries (row f gs) ++ l) (pairs_of_entries fs gs) ∙ sym (map-append both_entries (row f gs) (pairs_of fs gs)))

offsets_of_entries : (pairs : List (Feature × Feature)) → map at_entries (map both_entries pairs) ≡ map at_pair pairs
offsets_of_entries [] = refl
offsets_of_entries ((f, g) ∷ pairs) = ap (λ l. at_pair (f, g) ∷ l) (offsets_of_entries pairs)

module _ (query : Query) where
  -- the row of a feature of which the query holds
  row_kept : (f : Feature) (gs : List Feature) (ks : List (Feature × Feature)) → Holds query f → Keeps Met (row f gs) ks → Keeps (Joins query) (row f gs) ks
  row_kept f [] ks h k = k
  row_kept f (g ∷ gs) ks h (inl (m, (zs, e, r))) = inl ((h, m), (zs, e, row_kept f gs zs h r))
  row_kept f (g ∷ gs) ks h (inr (n, r)) = inr (λ j. n j.1, row_kept f gs ks h r)

  -- and of one of which it doesn't
  row_dropped : (f : Feature) (gs : List Feature) → (¬ Holds query f) → Keeps (Joins query) (row f gs) []
  row_dropped f [] n = refl
  row_dropped f (g ∷ gs) n = inr (λ j. n j.0, row_dropped f gs n)

  pairs_kept : (fs kept gs : List Feature) (ks : List (Feature × Feature)) → Keeps (Holds query) fs kept → Keeps Met (pairs_of kept gs) ks → Keeps (Joins query) (pairs_of fs gs) ks
  pairs_kept [] kept gs ks e k = rw e at k
  pairs_kept (f ∷ fs) kept gs ks (inl (p, (zs, e, r))) k =
      let (us, vs, same, hu, hv) = keeps_parts Met (row f gs) (pairs_of zs gs) ks (rw e at k) in
      rw same (keeps-append (Joins query) (row f gs) (pairs_of fs gs) us vs (row_kept f gs us p hu) (pairs_kept fs zs gs vs r hv))
  pairs_kept (f ∷ fs) kept gs ks (inr (n, r)) k = keeps-append (Joins query) (row f gs) (pairs_of fs gs) [] ks (row_dropped f gs n) (pairs_kept fs kept gs ks r k)

  pub all_pairs_joined : (all : Query) (fs gs : List Feature) (es hs : List Entry) (ps : List Pair) → query.verb ≡ verbs.Join → all.verb ≡ verbs.Join → all.tests ≡ []
      → IsPart query fs (Entries es) → IsPart all gs (Entries hs) → IsAllPairs es hs ps → IsJoined query fs gs (Pairs ps)
  all_pairs_joined all fs gs es hs ps join_first join_second none (kept, keeps, e) (others, also, i) (ks, found, is) =
      let first : Entries es ≡ Entries (map entry_of kept) = rw join_first at e in
      let second : Entries hs ≡ Entries (map entry_of others) = rw join_second at i in
      let same_first : es ≡ map entry_of kept = cc in
      let same_second : hs ≡ map entry_of gs = (let every = all_kept all gs others none also in let h : hs ≡ map entry_of others = cc in h ∙ ap (map entry_of) every) in
      let listed : pairs_of es hs ≡ map both_entries (pairs_of kept gs) = ap (λ l. pairs_of l hs) same_first ∙ (ap (λ l. pairs_of (map entry_of kept) l) same_second ∙ pairs_of_entries kept gs) in
      let (js, met, mapped) = unmapped Meeting both_entries (pairs_of kept gs) ks (rw listed at found) in
      (js, pairs_kept fs kept gs js keeps met, ap Pairs (is ∙ (ap (map at_entries) mapped ∙ offsets_of_entries js)))

module _ (digits : ℕ) (how : Coords) where
  -- the features of a file without a fault are proper
  features_proper : (form : Form) (bytes : List ℕ) (fs : List Feature) → HasFileFaultIn form digits how bytes None → AreFileFeaturesIn form digits how bytes fs → AreProperFeatures fs
  features_proper Wkt bytes fs h are = file_features_proper digits how bytes fs h are
  features_proper Seq bytes fs h are = seq_features_proper digits how bytes fs h are
  features_proper GeoJson bytes fs h (t, is, same) = subst AreProperFeatures (sym same) (json_features_proper digits how bytes t h is)

  -- the entries of a file are proper
  pub file_entries_proper : (form : Form) (query : Query) (bytes : List ℕ) (es : List Entry) → query.verb ≡ verbs.Join → IsFilePart form digits how query bytes (Entries es) → AreProper es
  file_entries_proper form query bytes es join h = entries_are_proper query h.features es join h.is_part (features_proper form bytes h.features h.faultless h.are_features)

  -- the pairs of the entries of two files are their joined answer
  pub files_joined : (form_a form_b : Form) (query all : Query) (a b : List ℕ) (es hs : List Entry) (ps : List Pair) → query.verb ≡ verbs.Join → all.verb ≡ verbs.Join → all.tests ≡ []
      → IsFilePart form_a digits how query a (Entries es) → IsFilePart form_b digits how all b (Entries hs) → IsAllPairs es hs ps → IsJoinAnswer form_a form_b digits how query a b (Pairs ps)
  files_joined form_a form_b query all a b es hs ps join_first join_second none h k found = record {
    first_faultless = h.faultless;
    second_faultless = k.faultless;
    first = h.features;
    are_first = h.are_features;
    second = k.features;
    are_second = k.are_features;
    is_joined = all_pairs_joined query all h.features k.features es hs ps join_first join_second none h.is_part k.is_part found;
  }
