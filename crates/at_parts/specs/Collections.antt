-- Parts of a collection of features, each of which is asked in a frame, and what they say of the whole file.
use Rattle.std.specs.Prelude.{◌≡◌, ◌⊎◌, ℕ, ◌+◌, ◌<◌, ◌≤◌, IsTrue, codes, List, [], ◌∷◌, ◌++◌, drop, length}
use Rattle.std.specs.Prelude.{Some, None}
use Rattle.at_text.specs.declared.faults.Fault.{Fault}
use Rattle.at_text.specs.declared.faults.FaultKind.TheVariants.{Form}
use Rattle.at_text.specs.Faults.{fault_at}
use Rattle.at_text.specs.Parts.{Exactly, Many, ◌▸◌}
use Rattle.at_text.specs.Texts.{is_space, base_of}
use Rattle.at_fixed.specs.declared.rounding.Coords.{Coords}
use Rattle.at_filter.specs.declared.filter.Filter.TheVariants.{Items}
use Rattle.at_filter.specs.declared.filter.Seen.TheVariants.{Nothing}
use Rattle.at_filter.specs.Filters.{filtered}
use Rattle.at_lex.specs.Strings.{Character, SpellsString}
use Rattle.at_nest.specs.Tree.{object, Members, no_members, member_and, Padded, WithName, Spells}
use Rattle.at_nest.specs.Syntax.{IsFileOf, HasJsonFault}
use Rattle.at_query.specs.declared.features.Feature.{Feature}
use Rattle.at_scan.specs.declared.kinds.Kind.TheVariants.{FeatureCollection}
use Rattle.at_geojson.specs.Names.{is_named, member_named, kind_of}
use Rattle.at_run.specs.Files.{AreJsonFeatures}
use Rattle.at_run.specs.JsonFiles.{HasJsonFileFault}
use Rattle.at_parts.specs.Moved.{AreMoved, IsMoved}

-- ---- how a file is cut

-- members, each with a comma behind it
abbrev pub FirstMembers : Members → ℕ → List ℕ → Type 0
FirstMembers no_members at w = w ≡ []
FirstMembers (member_and name i t ms) at w =
    (WithName name i (λ j v. Spells j v t) ▸ Exactly (codes ",") ▸ FirstMembers ms) at w

-- the name `features`, however it is spelled
abbrev pub NamesFeatures : ℕ → List ℕ → Type 0
NamesFeatures at w = (name : List Character) × IsTrue (is_named (codes "features") name) × SpellsString name at w

-- what stands before the features of a collection: the bracket of its object, members of other names, the name
-- `features` and a colon, and the bracket of an array
abbrev pub OpensFeatures : Members → ℕ → List ℕ → Type 0
OpensFeatures ms at w = (member_named (codes "features") ms ≡ None)
    × (Many is_space ▸ Exactly (codes "{") ▸ FirstMembers ms ▸ Padded NamesFeatures ▸ Exactly (codes ":")
    ▸ Many is_space ▸ Exactly (codes "[") ▸ Many is_space) at w

-- the bytes with which a file begins are its front
abbrev pub IsFront : List ℕ → Type 0
IsFront front = (ms : Members) × OpensFeatures ms (base_of front) (drop (base_of front) front)

-- what stands between two features
abbrev pub IsComma : List ℕ → Type 0
IsComma w = (Many is_space ▸ Exactly (codes ",") ▸ Many is_space) 0 w

-- the bytes of a part, and what stands between it and the next one
pub record FilePart : Type 0 where
  pub text : List ℕ
  pub comma : List ℕ

abbrev pub joined : List FilePart → List ℕ
joined [] = []
joined (p ∷ ps) = p.text ++ (p.comma ++ joined ps)

-- ---- how a part is asked

-- the frame into which a part is put
abbrev pub opening : List ℕ
opening = codes "{\"type\":\"FeatureCollection\",\"features\":["

abbrev pub closing : List ℕ
closing = codes "]}"

abbrev pub framed : List ℕ → List ℕ
framed text = opening ++ (text ++ closing)

-- what may be put behind a part: a comma and one more feature
abbrev pub marker : List ℕ
marker = codes ",{\"type\":\"Feature\"}"

-- a bracket closes behind an object, closes an array, and a further member follows, with nothing but white space
-- between: so it looks where the features end and others follow
abbrev pub SeemsToLeave : List ℕ → Type 0
SeemsToLeave w = (a r d : List ℕ) × (w ≡ a ++ (r ++ d))
    × (Exactly (codes "}") ▸ Many is_space ▸ Exactly (codes "]") ▸ Many is_space ▸ Exactly (codes ",")
    ▸ Many is_space ▸ Exactly (codes "\"")) 0 r

module _ (digits : ℕ) (how : Coords) where
  -- a part that is asked alone has no fault in the frame, and these features there; and it nowhere seems to leave the
  -- array of features, or the item `0` behind it is found to be no feature
  pub record IsAlone (text : List ℕ) (features : List Feature) : Type 0 where
    pub no_fault : HasJsonFileFault digits how (framed text) None
    pub has : AreJsonFeatures digits how (framed text) features
    pub stays : (¬ SeemsToLeave text) ⊎ HasJsonFileFault digits how (framed (text ++ codes ",0"))
        (Some (fault_at Form (length opening + length text + 1)))

  -- a part that is asked with the marker behind it has no fault in the frame, and there these features and a last one,
  -- which begins where the marker's feature does
  pub record IsListed (text : List ℕ) (features : List Feature) : Type 0 where
    pub no_fault : HasJsonFileFault digits how (framed (text ++ marker)) None
    pub last : Feature
    pub place : last.at ≡ length opening + length text + 1
    pub has : AreJsonFeatures digits how (framed (text ++ marker)) (features ++ last ∷ [])

  -- a part that is read behind the filter of items has no fault in the frame, and these features there
  pub record IsFiltered (text : List ℕ) (features : List Feature) : Type 0 where
    pub no_fault : HasJsonFileFault digits how (filtered Items Nothing (framed text)) None
    pub has : AreJsonFeatures digits how (filtered Items Nothing (framed text)) features

  -- a part is sound that begins with an object, and of which any way of asking tells these features
  pub record IsSound (text : List ℕ) (features : List Feature) : Type 0 where
    pub rest : List ℕ
    pub begins : text ≡ 0x7B ∷ rest
    pub told : IsAlone text features ⊎ (IsFiltered text features ⊎ IsListed text features)

  -- each part but the last is sound, and stands before a comma; the first of them begins behind so many bytes of the
  -- file, and these are their features there
  abbrev pub AreSound : ℕ → List FilePart → List Feature → Type 0
  AreSound at [] features = features ≡ []
  AreSound at (p ∷ ps) features = (own here rest : List Feature) × IsSound p.text own × IsComma p.comma
      × AreMoved (length opening) at own here × AreSound (at + length p.text + length p.comma) ps rest
      × (features ≡ here ++ rest)

  -- the last part begins with a feature and goes on to the file's end; with the file's own front before it, it is a
  -- collection without a fault, and these are its features
  pub record IsSoundEnd (front text : List ℕ) (features : List Feature) : Type 0 where
    pub rest : List ℕ
    pub begins : text ≡ 0x7B ∷ rest
    pub at : ℕ
    pub members : Members
    pub is_file : IsFileOf (front ++ text) (object at members)
    pub is_collection : kind_of members ≡ Some FeatureCollection
    pub no_fault : HasJsonFileFault digits how (front ++ text) None
    pub has : AreJsonFeatures digits how (front ++ text) features

  -- ---- what the parts say of the whole

  -- where all parts are sound, the file has no fault, and its features are those of the parts, in order, at their
  -- offsets in the file
  abbrev pub SoundPartsMakeTheWhole : Type 0
  SoundPartsMakeTheWhole = (front : List ℕ) (parts : List FilePart) (end : List ℕ)
      (first own last : List Feature) → IsFront front → AreSound (length front) parts first
      → IsSoundEnd front end own → AreMoved (length front) (length front + length (joined parts)) own last
      → HasJsonFileFault digits how (front ++ (joined parts ++ end)) None
      × AreJsonFeatures digits how (front ++ (joined parts ++ end)) (first ++ last)

  -- where the parts before one are sound, and that one has a fault of its syntax within its own bytes, the file has the
  -- same fault. Nothing is asked of what stands behind the part in the frame, nor of what follows it in the file.
  abbrev pub FirstSyntaxFaultIsTheWholes : Type 0
  FirstSyntaxFaultIsTheWholes = (front : List ℕ) (parts : List FilePart) (first : List Feature)
      (rest after behind : List ℕ) (f : Fault) → IsFront front → AreSound (length front) parts first
      → HasJsonFault (opening ++ ((0x7B ∷ rest) ++ after)) (Some f) → length opening ≤ f.at
      → f.at < length opening + length (0x7B ∷ rest)
      → (g : Fault) × IsMoved (length opening) (length front + length (joined parts)) f g
      × HasJsonFault (front ++ (joined parts ++ ((0x7B ∷ rest) ++ behind))) (Some g)
