-- What is gathered of one line, and of joined lines.
-- For `answer`, `answer_join`, `finish_pieces` and `part`.
use Rattle.std.proofs.Common.{◌≡◌, ℕ, ◌+◌, List, [], ◌∷◌, ◌++◌, take, drop, Option, Some, None, refl, sym, ap, subst, inl, inr, arith}
use Rattle.std.specs.List.{AllByRecursion}
use Rattle.std.specs.Str.{IsUtf8}
use Rattle.std.proofs.lemmas.Str.{IsUtf8-append}
use Rattle.std.proofs.ByRecursion.{All-append}
use Rattle.at_text.specs.declared.faults.Fault.{Fault}
use Rattle.at_text.specs.Faults.{first_of}
use Rattle.at_text.specs.Spans.{span_of}
use Rattle.at_text.specs.Syntax.{IsSyntaxFault}
use Rattle.at_fixed.specs.declared.rounding.Coords.{Coords}
use Rattle.at_geom.specs.declared.shapes.Shape.{Shape}
use Rattle.at_geom.specs.Shapes.{IsShapeInRange}
use Rattle.at_lex.specs.Strings.{Character, JsonString}
use Rattle.at_text.specs.declared.refusals.Refusal.{Refusal}
use Rattle.at_text.specs.declared.refusals.Refusal.TheVariants.{Found, Memory as NoMemory}
use Rattle.at_wkt.specs.Geometry.{Geometry}
use Rattle.at_wkt.specs.Meaning.{shape_of, faults_of}
use Rattle.at_text.specs.Refusals.{IfFound}
use Rattle.at_wkt.specs.Answers.{HasLineShape, HasFirstLineFault, HasFaultOrShape, unspelled, faulty}
use Rattle.at_wkt.specs.Lines.{FileLine}
use Rattle.at_query.specs.declared.features.Feature.{Feature}
use Rattle.at_query.specs.declared.features.TextPair.{TextPair}
use Rattle.at_query.specs.declared.answer.parts.Part.TheVariants.{Count}
use Rattle.at_query.specs.declared.answer.accumulators.Accumulator.{Accumulator}
use Rattle.at_query.specs.declared.answer.accumulators.Accumulator.TheVariants.{Part as APart}
use Rattle.at_query.specs.declared.query.queries.Query.{Query}
use Rattle.at_query.specs.Accumulators.{IsAccumulated}
use Rattle.at_query.specs.GatheredParts.{IsOwnOf, IsJoinOf, AddsFeature}
use Rattle.at_query.proofs.ShapeRanges.{shape_in}
use Rattle.at_query.specs.declared.answer.gathered.Gathered.{Gathered}
use Rattle.at_query.specs.declared.answer.gathered.Gathered.TheVariants.{Kept, Failed}
use Rattle.at_run.specs.Labels.{SpellsLabelled, LabelledLine, texts_of}
use Rattle.at_run.specs.declared.labels.Behind.{Behind}
use Rattle.at_run.specs.Labelling.{QuoteIs, LabelStands, HasFront, IsBehind, AreKeptTexts, AreFrontTexts}
use Rattle.at_run.specs.Features.{AreLineFeatures}
use Rattle.at_run.specs.Gathering.{Asked, IsGathered, CountsAll, IsChecked, IsLineRead, JoinsGathered, KeepsOwn}
use Rattle.at_query.proofs.LineBytes.{plain_valid, blanks_valid}
use Rattle.at_run.proofs.LabelSteps.{without_quote, plain_syntax, label_front, label_spelled, label_syntax}
use Rattle.at_run.proofs.FaultLists.{first_one, first_joined}
use Rattle.at_run.proofs.KeptLabels.{kept_label}

-- ---- lists of lines

abbrev IsValidLine : FileLine → Type 0
IsValidLine l = IsUtf8 l.text

each_part : (ls ms : List FileLine) → AllByRecursion IsValidLine (ls ++ ms) → AllByRecursion IsValidLine ls × AllByRecursion IsValidLine ms
each_part [] ms h = (tt, h)
each_part (l ∷ ls) ms (h, hs) = let (a, b) = each_part ls ms hs in ((h, a), b)

module _ (digits : ℕ) (how : Coords) where
  features_joined : (ls ms : List FileLine) (fs gs : List Feature) → AreLineFeatures digits how ls fs → AreLineFeatures digits how ms gs → AreLineFeatures digits how (ls ++ ms) (fs ++ gs)
  features_joined [] ms fs gs e k = rw e k
  features_joined (l ∷ ls) ms fs gs (f, rest, e, is, more) k = (f, rest ++ gs, ap (λ z. z ++ gs) e, is, features_joined ls ms rest gs more k)

at_begin : (P : ℕ → List ℕ → Type 0) (at : ℕ) (text : List ℕ) (end : ℕ) → end ≡ 0 → P (at + end) (drop end text) → P at text
at_begin P at text end begin h = let place : at + end ≡ at = omega (arith, begin) in subst (λ i. P i text) place (subst (P (at + end)) (ap (λ n. drop n text) begin) h)

-- ---- what is gathered

module _ (asked : Asked) where
  -- whatever is kept behind other features by the one is what is kept by the other
  abbrev Replaces : Feature → Feature → Type 0
  Replaces read feature = (before : List Feature) (kept : Accumulator) → IsAccumulated asked.query (before ++ read ∷ []) kept → IsAccumulated asked.query (before ++ feature ∷ []) kept

  -- of a line that spells a label or none, and a geometry without a fault
  read_line : (at : ℕ) (text : List ℕ) (label : Option (List Character)) (g : Geometry) (shape : Shape) (texts : List TextPair) → IsUtf8 text → SpellsLabelled label g at text
      → None ≡ first_of (faults_of asked.digits asked.how g) → shape ≡ shape_of asked.digits asked.how g
      → Replaces (record { at = at; shape = shape; texts = texts }) (record { at = at; shape = shape; texts = texts_of label })
      → IsLineRead asked (record { at = at; text = text }) (record { at = at; shape = shape; texts = texts })
  read_line at text label g shape texts valid spelled none shape_is keeps = record {
    in_range = subst IsShapeInRange (sym shape_is) (shape_in asked.digits asked.how g);
    valid = valid;
    faultless = first_one asked.digits asked.how (record { at = at; text = text }) (faults_of asked.digits asked.how g) None (inr (label, g, spelled, refl)) none;
    feature = record { at = at; shape = shape; texts = texts_of label };
    is_feature = record { label = label; geometry = g; spelled = spelled; at = refl; shape = shape_is; texts = refl };
    keeps = keeps;
  }

  read_plain : (at : ℕ) (text : List ℕ) (shape : Shape) (texts : List TextPair) → HasLineShape asked.digits asked.how at text shape → texts ≡ []
      → IsLineRead asked (record { at = at; text = text }) (record { at = at; shape = shape; texts = texts })
  read_plain at text shape texts h none =
      read_line at text None h.geometry shape texts (plain_valid at text (h.geometry, h.spelled)) h.spelled h.fault_is h.shape_is
      (λ before kept is. subst (λ ts. IsAccumulated asked.query (before ++ record { at = at; shape = shape; texts = ts } ∷ []) kept) none is)

  -- of a line with a label, of which only the texts that are asked for are kept
  read_labelled : (at : ℕ) (text : List ℕ) (quote end : ℕ) (shape : Shape) (texts : List TextPair) → LabelStands text quote end → IsUtf8 (span_of text quote end)
      → HasLineShape asked.digits asked.how (at + end) (drop end text) shape → AreKeptTexts asked.query.tests (span_of text quote end) texts
      → IsLineRead asked (record { at = at; text = text }) (record { at = at; shape = shape; texts = texts })
  read_labelled at text quote end shape texts label valid h kept =
      let (cs, are, same) = label.string in
      let behind : IsUtf8 (drop end text) = plain_valid (at + end) (drop end text) (h.geometry, h.spelled) in
      let front : IsUtf8 (take quote text) = blanks_valid (take quote text) label.begins.blanks in
      let whole : IsUtf8 text = subst IsUtf8 (sym (label_front at text quote end label)) (IsUtf8-append (take quote text) (span_of text quote end ++ drop end text) front (IsUtf8-append (span_of text quote end) (drop end text) valid behind)) in
      read_line at text (Some cs) h.geometry shape texts whole (label_spelled at text quote end label cs (are, same) h.geometry h.spelled) h.fault_is h.shape_is
      (λ before acc is. kept_label asked.query at shape cs before texts acc (kept cs are same) is)

  -- ---- faults

  -- of a line whose label doesn't end or isn't UTF-8
  pub gathered_syntax : (at : ℕ) (text : List ℕ) (fault : Fault) → (IsUtf8 text → IsSyntaxFault (LabelledLine at) at text fault) → IsGathered asked (Failed fault) (record { at = at; text = text } ∷ [])
  gathered_syntax at text fault h valid = first_one asked.digits asked.how (record { at = at; text = text }) (fault ∷ []) (Some fault) (inl (fault, h valid.0, refl)) refl

  -- of one whose geometry has faults
  gathered_faulty : (at : ℕ) (text : List ℕ) (label : Option (List Character)) (g : Geometry) (fault : Fault) → SpellsLabelled label g at text → Some fault ≡ first_of (faults_of asked.digits asked.how g)
      → IsGathered asked (Failed fault) (record { at = at; text = text } ∷ [])
  gathered_faulty at text label g fault spelled is valid = first_one asked.digits asked.how (record { at = at; text = text }) (faults_of asked.digits asked.how g) (Some fault) (inr (label, g, spelled, refl)) is

  -- without a label, and behind one
  gathered_fault : (at : ℕ) (text : List ℕ) (fault : Fault) → QuoteIs text None → HasFirstLineFault asked.digits asked.how at text fault → IsGathered asked (Failed fault) (record { at = at; text = text } ∷ [])
  gathered_fault at text fault none (unspelled s) = gathered_syntax at text fault (λ _. plain_syntax at text fault (without_quote text none) s)
  gathered_fault at text fault none (faulty shape h) = gathered_faulty at text None h.geometry fault h.spelled h.fault_is

  gathered_behind : (at : ℕ) (text : List ℕ) (quote end : ℕ) (fault : Fault) → LabelStands text quote end → HasFirstLineFault asked.digits asked.how (at + end) (drop end text) fault
      → IsGathered asked (Failed fault) (record { at = at; text = text } ∷ [])
  gathered_behind at text quote end fault label (unspelled s) =
      let (cs, are, same) = label.string in gathered_syntax at text fault (λ _. label_syntax at text quote end label cs (are, same) fault s)
  gathered_behind at text quote end fault label (faulty shape h) =
      let (cs, are, same) = label.string in gathered_faulty at text (Some cs) h.geometry fault (label_spelled at text quote end label cs (are, same) h.geometry h.spelled) h.fault_is

  -- of a line that is read behind what it begins with
  read_front : (at : ℕ) (text label : List ℕ) (end : ℕ) (shape : Shape) (texts : List TextPair) → HasFront text label end → HasLineShape asked.digits asked.how (at + end) (drop end text) shape
      → AreFrontTexts asked.query.tests label texts → IsLineRead asked (record { at = at; text = text }) (record { at = at; shape = shape; texts = texts })
  read_front at text label end shape texts (inl (none, empty, begin)) h kept =
      read_plain at text shape texts (at_begin (λ i w. HasLineShape asked.digits asked.how i w shape) at text end begin h) (kept.0 empty)
  read_front at text label end shape texts (inr (quote, stands, valid, same)) h kept =
      read_labelled at text quote end shape texts stands (subst IsUtf8 same valid) h (subst (λ w. AreKeptTexts asked.query.tests w texts) same (kept.1 (subst JsonString (sym same) stands.string)))

  fault_front : (at : ℕ) (text label : List ℕ) (end : ℕ) (fault : Fault) → HasFront text label end → HasFirstLineFault asked.digits asked.how (at + end) (drop end text) fault
      → IsGathered asked (Failed fault) (record { at = at; text = text } ∷ [])
  fault_front at text label end fault (inl (none, empty, begin)) h = gathered_fault at text fault none (at_begin (λ i w. HasFirstLineFault asked.digits asked.how i w fault) at text end begin h)
  fault_front at text label end fault (inr (quote, stands, valid, same)) h = gathered_behind at text quote end fault stands h

  -- ---- a line that is only counted

  count_kept : (f : Feature) → CountsAll asked.query → IsAccumulated asked.query (f ∷ []) (APart (Count 1))
  count_kept f (is_count, no_tests) = (f ∷ [], inl (rw no_tests tt, ([], refl, refl)), rw is_count ((λ e. absurd (cc)), refl))

  pub counted_some : (line : FileLine) (fault : Fault) → IsGathered asked (Failed fault) (line ∷ []) → IsChecked asked line (Some fault)
  counted_some line fault h counts = (tt, h)

  checked_front : (at : ℕ) (text label : List ℕ) (end : ℕ) (found : Option Fault) → HasFront text label end → HasFaultOrShape asked.digits asked.how (at + end) (drop end text) found
      → IsChecked asked (record { at = at; text = text }) found
  checked_front at text label end None front (shape, has) counts =
      let read : Feature = record { at = at; shape = shape; texts = [] } in
      let is = read_front at text label end shape [] front has (λ _. refl, λ string cs are same. rw counts.1 refl) in
      let kept = count_kept read counts in
      ((read ∷ [], kept), ((is.valid, tt), is.faultless, (is.feature ∷ [], (is.feature, [], refl, is.is_feature, refl), is.keeps [] (APart (Count 1)) kept)))
  checked_front at text label end (Some fault) front h counts = (tt, fault_front at text label end fault front h)

  -- ---- what is read of a line

  module _ (ahead : List ℕ) (len at : ℕ) (line : Behind) (is : IsBehind ahead len at line) where
    read_there : (P : ℕ → List ℕ → Type 0) → P line.at (take line.len line.ahead.now) → P (at + is.end) (drop is.end (take len ahead))
    read_there P h = subst (λ i. P i (drop is.end (take len ahead))) is.place (subst (P line.at) is.text h)

    pub read_shape : (shape : Shape) (texts : List TextPair) → HasLineShape asked.digits asked.how line.at (take line.len line.ahead.now) shape → AreFrontTexts asked.query.tests line.label.now texts
        → IsLineRead asked (record { at = at; text = take len ahead }) (record { at = at; shape = shape; texts = texts })
    read_shape shape texts h kept = read_front at (take len ahead) line.label.now is.end shape texts is.front (read_there (λ i w. HasLineShape asked.digits asked.how i w shape) h) kept

    pub read_fault : (fault : Fault) → HasFirstLineFault asked.digits asked.how line.at (take line.len line.ahead.now) fault → IsGathered asked (Failed fault) (record { at = at; text = take len ahead } ∷ [])
    read_fault fault h = fault_front at (take len ahead) line.label.now is.end fault is.front (read_there (λ i w. HasFirstLineFault asked.digits asked.how i w fault) h)

    pub checked_line : (found : Option Fault) → HasFaultOrShape asked.digits asked.how line.at (take line.len line.ahead.now) found → IsChecked asked (record { at = at; text = take len ahead }) found
    checked_line found h = checked_front at (take len ahead) line.label.now is.end found is.front (read_there (λ i w. HasFaultOrShape asked.digits asked.how i w found) h)

-- ---- a line that is put behind those before it

-- what is kept of both is own of whatever both are own of
pub joins_own : (left right both : Gathered) → IsJoinOf left right both → KeepsOwn left right both
joins_own (Kept a) (Kept b) both (c, e, joins) = λ asked h k. rw e (h.0 ++ k.0, joins asked.query h.0 k.0 h.1 k.1)
joins_own (Kept a) (Failed f) both e = λ asked h k. rw e tt
joins_own (Failed f) (Kept b) both e = λ asked h k. rw e tt
joins_own (Failed f) (Failed g) both (first, e, is) = λ asked h k. rw e tt

-- and is what is gathered of the joined lines
pub joins_lines : (left right both : Gathered) → IsJoinOf left right both → JoinsGathered left right both
joins_lines (Kept a) (Kept b) both (c, e, joins) = λ asked ls ms (v, h, (fs, hf, pa)) (w, k, (gs, kg, pb)).
    rw e (All-append IsValidLine ls ms v w, first_joined asked.digits asked.how ls ms None None None h k refl, (fs ++ gs, features_joined asked.digits asked.how ls ms fs gs hf kg, joins asked.query fs gs pa pb))
joins_lines (Kept a) (Failed f) both e = λ asked ls ms h k.
    rw e (λ valid. first_joined asked.digits asked.how ls ms None (Some f) (Some f) h.1 (k (each_part ls ms valid).1) refl)
joins_lines (Failed f) (Kept b) both e = λ asked ls ms h k.
    rw e (λ valid. first_joined asked.digits asked.how ls ms (Some f) None (Some f) (h (each_part ls ms valid).0) k.1 refl)
joins_lines (Failed f) (Failed g) both (first, e, is) = λ asked ls ms h k.
    rw e (λ valid. first_joined asked.digits asked.how ls ms (Some f) (Some g) (Some first) (h (each_part ls ms valid).0) (k (each_part ls ms valid).1) is)

-- a feature that is read
pub owns_feature : (query : Query) (f : Feature) (old new : Gathered) → AddsFeature query f old new → IsOwnOf query old → IsOwnOf query new
owns_feature query f (Kept old) new (kept, e, adds) (fs, is) = rw e (fs ++ f ∷ [], adds fs is)
owns_feature query f (Failed fault) new e h = rw e tt

pub adds_feature : (asked : Asked) (line : FileLine) (read : Feature) (old new : Gathered) → IsLineRead asked line read → AddsFeature asked.query read old new
    → (lines : List FileLine) → IsGathered asked old lines → IsGathered asked new (lines ++ line ∷ [])
adds_feature asked line read (Kept old) new is (kept, e, adds) lines (v, h, (fs, hf, acc)) =
    rw e (
      All-append IsValidLine lines (line ∷ []) v (is.valid, tt),
      first_joined asked.digits asked.how lines (line ∷ []) None None None h is.faultless refl,
      (
        fs ++ is.feature ∷ [],
        features_joined asked.digits asked.how lines (line ∷ []) fs (is.feature ∷ []) hf (is.feature, [], refl, is.is_feature, refl),
        is.keeps fs kept (adds fs acc),
      ),
    )
adds_feature asked line read (Failed fault) new is e lines h =
    rw e (λ valid. first_joined asked.digits asked.how lines (line ∷ []) (Some fault) None (Some fault) (h (each_part lines (line ∷ []) valid).0) is.faultless refl)

-- ---- what a line's refusal becomes

pub found_weaker : (end : Refusal) (P Q : Fault → Type 0) → ((fault : Fault) → P fault → Q fault) → IfFound end P → IfFound end Q
found_weaker (Found fault) P Q f h = f fault h
found_weaker NoMemory P Q f h = tt
