-- Words that stand at the places of a text, looked at sixteen bytes together.
use Rattle.std.specs.Prelude.{◌≡◌, ℕ, ◌+◌, ◌-◌, ◌<◌, ◌≤◌, true, Some, List, length, take, drop, slice_index}
use Rattle.std.specs.List.{list_all}
use Rattle.at_scan.specs.declared.fields.Field.{Field}
use Rattle.at_scan.specs.declared.kinds.Kind.{Kind}
use Rattle.at_scan.specs.declared.known_names.KindRead.{KindRead}
use Rattle.at_scan.specs.declared.members.FieldName.{FieldName}
use Rattle.at_scan.specs.Names.{kind_of_text}
use Rattle.at_scan.specs.Places.{is_common, IsNameAt, IsSimpleTextAt}
use Rattle.at_scan.specs.Fields.{field_of}
use Rattle.at_scan.specs.Members.{name_in, IsPlainName}

-- so many of the bytes at the place are those of the word
pub record BeginsAlike (w : List ℕ) (at : ℕ) (word : List ℕ) (n : ℕ) : Type 0 where
  pub few : n ≤ 16
  pub same : (k : ℕ) → k < n → slice_index w (at + k) ≡ slice_index word k

-- the word's first bytes, so many, stand at the place
pub record StandsWord (w : List ℕ) (at : ℕ) (word : List ℕ) (n : ℕ) : Type 0 where
  pub within : at + n ≤ length w
  pub same : (k : ℕ) → k < n → slice_index w (at + k) ≡ slice_index word k

-- the word begins with a quote, and the next one is its byte m: what stands between them are bytes of ASCII that stand
-- for themselves
pub record IsQuoted (word : List ℕ) (m : ℕ) : Type 0 where
  pub long : 16 ≤ length word
  pub some : 1 ≤ m
  pub few : m < 16
  pub opens : slice_index word 0 ≡ 0x22
  pub closes : slice_index word m ≡ 0x22
  pub common : list_all is_common (take (m - 1) (drop 1 word)) ≡ true

-- the first bytes of the word, so many, are the name of the field between quotes, and a colon
pub record NamesField (word : List ℕ) (n : ℕ) (field : Field) : Type 0 where
  pub some : 3 ≤ n
  pub few : n ≤ 16
  pub quoted : IsQuoted word (n - 2)
  pub colon : slice_index word (n - 1) ≡ 0x3A
  pub names : field_of (take (n - 2 - 1) (drop 1 word)) ≡ field

-- the first bytes of the word, so many, are the name of the kind between quotes
pub record NamesKind (word : List ℕ) (n : ℕ) (kind : Kind) : Type 0 where
  pub some : 2 ≤ n
  pub few : n ≤ 16
  pub quoted : IsQuoted word (n - 1)
  pub names : kind_of_text (take (n - 1 - 1) (drop 1 word)) ≡ Some kind

-- the name of a kind between quotes from the place on
pub record IsKindName (w : List ℕ) (at : ℕ) (p : KindRead) : Type 0 where
  pub text : IsSimpleTextAt w at p.end
  pub kind : kind_of_text (take (p.end - 1 - (at + 1)) (drop (at + 1) w)) ≡ Some p.kind

-- a member's name at the place, and which member it is
pub record IsFieldName (w : List ℕ) (at : ℕ) (n : FieldName) : Type 0 where
  pub place : IsNameAt w at n.place
  pub plain : IsPlainName w n.place
  pub field : n.field ≡ field_of (name_in w n.place)
