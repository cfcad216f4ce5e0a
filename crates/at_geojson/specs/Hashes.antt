-- Hashes of members' names. Only contracts of private functions cite this.
use Rattle.std.specs.Prelude.{ℕ}
use Rattle.at_nest.specs.declared.algebra.Member.{Member}
use Rattle.at_scan.specs.Hashes.{name_hash}
use Rattle.at_geojson.specs.declared.atoms.atom.GeoAtom.{GeoAtom}

abbrev pub member_hash : Member GeoAtom → ℕ
member_hash m = name_hash m.name
