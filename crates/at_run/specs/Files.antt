-- What a file says in its form: its first fault, and its features. Nothing here knows of blocks.
use Rattle.std.specs.Prelude.{◌≡◌, ℕ, List, Option}
use Rattle.at_text.specs.declared.faults.Fault.{Fault}
use Rattle.at_fixed.specs.declared.rounding.Coords.{Coords}
use Rattle.at_nest.specs.Tree.{Tree}
use Rattle.at_nest.specs.Syntax.{IsFileOf}
use Rattle.at_query.specs.declared.features.Feature.{Feature}
use Rattle.at_geojson.specs.Roles.{features_of}
use Rattle.at_seq.specs.Sequences.{HasSeqFault, AreSeqFeatures}
use Rattle.at_run.specs.declared.forms.Form.{Form}
use Rattle.at_run.specs.declared.forms.Form.TheVariants.{GeoJson, Wkt, Seq}
use Rattle.at_run.specs.Features.{AreFileFeatures}
use Rattle.at_run.specs.LineFaults.{HasLinesFault}
use Rattle.at_run.specs.JsonFiles.{HasJsonFileFault}

-- the first fault of a file of the form, or none
abbrev pub HasFileFaultIn : Form → ℕ → Coords → List ℕ → Option Fault → Type 0
HasFileFaultIn GeoJson digits how bytes first = HasJsonFileFault digits how bytes first
HasFileFaultIn Wkt digits how bytes first = HasLinesFault digits how bytes first
HasFileFaultIn Seq digits how bytes first = HasSeqFault digits how bytes first

-- no other is the file's first fault
abbrev pub TheFileFaultIn : Form → ℕ → Coords → List ℕ → Option Fault → Type 0
TheFileFaultIn form digits how bytes first = (other : Option Fault) → HasFileFaultIn form digits how bytes other
    → other ≡ first

-- the features of the tree that a file of GeoJSON spells
abbrev pub AreJsonFeatures : ℕ → Coords → List ℕ → List Feature → Type 0
AreJsonFeatures digits how bytes features = (t : Tree) × IsFileOf bytes t × (features ≡ features_of digits how t)

-- the features of a file of the form
abbrev pub AreFileFeaturesIn : Form → ℕ → Coords → List ℕ → List Feature → Type 0
AreFileFeaturesIn GeoJson digits how bytes features = AreJsonFeatures digits how bytes features
AreFileFeaturesIn Wkt digits how bytes features = AreFileFeatures digits how bytes features
AreFileFeaturesIn Seq digits how bytes features = AreSeqFeatures digits how bytes features
