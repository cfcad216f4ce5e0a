-- The names of an object's members, at their places.
use Rattle.std.specs.Prelude.{◌≡◌, ℕ, ◌+◌, ◌-◌, ◌/◌, ◌%◌, ◌^◌, ◌<◌, ◌≤◌, Bool, true, false, ◌||◌, bytes_eq, List, [], ◌∷◌, ◌++◌, All}
use Rattle.std.specs.Prelude.{length, take, drop, get_or, slice_index}
use Rattle.std.specs.Bool.{⊤}
use Rattle.std.specs.Int.{bit_at}
use Rattle.std.specs.List.{list_any}
use Rattle.at_fixed.specs.NumberSoFar.{between}
use Rattle.at_lex.specs.Strings.{AreUnitsOf}
use Rattle.at_scan.specs.declared.places.NamePlace.{NamePlace}
use Rattle.at_scan.specs.declared.members.FieldName.{FieldName}
use Rattle.at_scan.specs.declared.members.OtherName.{OtherName}
use Rattle.at_scan.specs.declared.members.OtherNames.{OtherNames}
use Rattle.at_scan.specs.declared.members.TableNames.{TableNames}
use Rattle.at_scan.specs.Hashes.{tail_hash}
use Rattle.at_scan.specs.Places.{IsSimpleTextAt}
use Rattle.at_scan.specs.Fields.{field_of, is_no_field}

-- the bytes between the quotes
abbrev pub name_in : List ℕ → NamePlace → List ℕ
name_in w n = take (n.end - 1 - (n.first + 1)) (drop (n.first + 1) w)

-- a string of ASCII without escapes: the bytes between the quotes are the name's units
pub record IsPlainName (w : List ℕ) (n : NamePlace) : Type 0 where
  pub text : IsSimpleTextAt w n.first n.end
  pub order : n.first + 1 ≤ n.end - 1
  pub within : n.end ≤ length w
  pub units : AreUnitsOf (between w n.first n.end) (name_in w n)

-- a plain name with the hash of its last bytes, and which member it is
pub record IsOtherName (w : List ℕ) (n : OtherName) : Type 0 where
  pub plain : IsPlainName w n.place
  pub hash : n.hash ≡ tail_hash (name_in w n.place)
  pub field : n.field ≡ field_of (name_in w n.place)

-- the bit that marks a name: the highest bits of its hash
abbrev pub name_mark : OtherName → ℕ
name_mark n = n.hash / 2 ^ 52

-- the name's bit is set
abbrev pub IsMarked : List ℕ → OtherName → Type 0
IsMarked marks n = bit_at (slice_index marks (name_mark n / 64)) (name_mark n % 64) ≡ 1

abbrev pub is_named_among : List ℕ → List OtherName → List ℕ → Bool
is_named_among w names name = list_any (λ (n : OtherName). bytes_eq name (name_in w n.place)) names

-- the known names: those in place, and those in memory
abbrev pub known_in : OtherNames → List OtherName
known_in others = take others.placed others.near ++ others.far.items

-- the name is one of those of members for which no kind asks: the first of the known ones
abbrev pub is_among_others : List ℕ → OtherNames → List ℕ → Bool
is_among_others w others name = is_named_among w (take others.count (known_in others)) name

-- none of these names is one of those before it
abbrev pub AreUnlike : List ℕ → List OtherName → List OtherName → Type 0
AreUnlike w before [] = ⊤
AreUnlike w before (n ∷ ns) = (is_named_among w before (name_in w n.place) ≡ false) × AreUnlike w (before ++ n ∷ []) ns

-- names stand in memory only where no more of them have a place, and each known name is marked
pub record ArePlaced (others : OtherNames) : Type 0 where
  pub few : others.placed ≤ 8
  pub full : others.placed < 8 → others.far.items ≡ []
  pub marked : All (IsMarked others.marks) (known_in others)

pub record ArePlainOthers (w : List ℕ) (others : OtherNames) : Type 0 where
  pub placed : ArePlaced others
  pub known : others.count ≤ length (known_in others)
  pub plain : All (IsOtherName w) (known_in others)
  pub unlike : AreUnlike w [] (known_in others)

pub record ArePlainNames (w : List ℕ) (names : TableNames) : Type 0 where
  pub own : ArePlainOthers w names.own
  pub properties : ArePlainOthers w names.properties

-- the known name behind the object's own
pub record IsExpected (others : OtherNames) (n : OtherName) : Type 0 where
  pub inside : others.count < length (known_in others)
  pub there : n ≡ get_or (known_in others) others.count n

-- the same of a name like that
abbrev pub IsNextName : List ℕ → OtherNames → NamePlace → Type 0
IsNextName w others n = (known : OtherName) × IsExpected others known × (name_in w n ≡ name_in w known.place)

-- no names are known but the object's own, whatever the marks
pub record AreShortened (old new : OtherNames) : Type 0 where
  pub count : new.count ≡ old.count
  pub known : known_in new ≡ take old.count (known_in old)
  pub few : new.placed ≤ 8
  pub full : new.placed < 8 → new.far.items ≡ []

-- no names are known but the object's own
pub record AreCut (old new : OtherNames) : Type 0 where
  pub count : new.count ≡ old.count
  pub known : known_in new ≡ take old.count (known_in old)
  pub placed : ArePlaced new

-- one more name is known, and the marks are the same
pub record KeepsName (n : OtherName) (old new : OtherNames) : Type 0 where
  pub count : new.count ≡ old.count
  pub known : known_in new ≡ known_in old ++ n ∷ []
  pub marks : new.marks ≡ old.marks
  pub few : new.placed ≤ 8
  pub full : new.placed < 8 → new.far.items ≡ []
  pub most : length new.far.items ≤ 248

-- one more name is known and is the object's
pub record AddsOther (n : OtherName) (old new : OtherNames) : Type 0 where
  pub count : new.count ≡ old.count + 1
  pub known : known_in new ≡ known_in old ++ n ∷ []
  pub placed : ArePlaced new

-- the new ones are the old ones and this one
pub record AddsName (w : List ℕ) (n : NamePlace) (old new : OtherNames) : Type 0 where
  pub names : (name : List ℕ) → is_among_others w new name ≡ (is_among_others w old name || bytes_eq name (name_in w n))
  pub plain : ArePlainOthers w old → IsPlainName w n → ArePlainOthers w new

-- the bytes from the name's first quote on
abbrev pub from_name : List ℕ → NamePlace → List ℕ
from_name w n = take (length w - n.first) (drop n.first w)

-- the bytes from the place on are those of the name
pub record IsAgain (w : List ℕ) (n : NamePlace) (first end : ℕ) : Type 0 where
  pub text : IsSimpleTextAt w first end
  pub name : (m : NamePlace) → m.first ≡ first → m.end ≡ end → name_in w m ≡ name_in w n

-- the name is none of the others, and is put to them, where no kind asks for the member
pub record IsNextField (w : List ℕ) (old new : OtherNames) (n : FieldName) : Type 0 where
  pub other : is_no_field n.field ≡ true → (is_among_others w old (name_in w n.place) ≡ false)
      × AddsName w n.place old new
  pub field : is_no_field n.field ≡ false → new ≡ old
