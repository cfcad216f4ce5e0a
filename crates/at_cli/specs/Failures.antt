-- What is asked of the shelf, and what is known where the program ends since the shelf failed.
use Rattle.std.specs.Prelude.{◌≡◌, ◌+◌, ◌*◌, ◌≤◌, ◌^◌, ℕ, if◌then◌else◌, List, [], ◌∷◌, ◌++◌, length, Option, Some}
use Rattle.std.specs.Prelude.{None, IfSome}
use Rattle.at_io.specs.Counts.{next_count, Rose}
use Rattle.at_io.specs.Files.{Files, bytes_named, name_among}
use Rattle.at_io.specs.declared.shelf.Shelf.{Ghosts}
use Rattle.at_cli.specs.declared.words.line.Line.{Line}
use Rattle.at_cli.specs.Made.{is_made}
use Rattle.at_cli.specs.Texts.{unread_line}

-- the name, unless it is a made file's, of which no shelf is asked
abbrev pub asked_name : List ℕ → List (List ℕ)
asked_name name = if is_made name then [] else name ∷ []

abbrev pub asked_second : Option (List ℕ) → List (List ℕ)
asked_second None = []
asked_second (Some second) = asked_name second

-- the names of which the shelf is asked, in turn
abbrev pub asked_names : Line → List (List ℕ)
asked_names line = asked_name line.first ++ asked_second line.second

-- the count of begins when each of the names was begun once more
abbrev pub begun_with : List (List ℕ) → ℕ → ℕ
begun_with [] begins = begins
begun_with (name ∷ names) begins = begun_with names (next_count begins)

-- the name begun last, when these were begun in turn
abbrev pub last_begun : Files → List (List ℕ) → Option (List ℕ) → Option (List ℕ)
last_begun told [] named = named
last_begun told (name ∷ names) named = last_begun told names (name_among told name)

-- all that a shelf tells of itself
pub record Meanings : Type 0 where
  pub files : Option Files
  pub taken : ℕ
  pub begins : ℕ
  pub named : Option (List ℕ)
  pub broken : ℕ
  pub faults : ℕ

-- the files of these names were asked for in turn: as many were begun, the last by the last name, and in all no more was
-- taken than tells that each is too large
pub record WasAsked (names : List (List ℕ)) (before after : Meanings) : Type 0 where
  pub begun : after.begins ≡ begun_with names before.begins
  pub least : before.taken ≤ after.taken
  pub limit : after.taken ≤ before.taken + length names * (2 ^ 28 + 1)
  pub last : IfSome before.files (λ told. after.named ≡ last_begun told names before.named)

-- the shelf was asked for the first of these names, so many as were needed, and for no other
pub record AsksFor (names : List (List ℕ)) (before after : Meanings) : Type 0 where
  pub front : List (List ℕ)
  pub behind : List (List ℕ)
  pub in_turn : names ≡ front ++ behind
  pub was_asked : WasAsked front before after

-- the files have each of these names, with at most 2^28 bytes
abbrev pub HaveSized : Files → List (List ℕ) → Type 0
HaveSized told [] = Unit {0}
HaveSized told (name ∷ names) = ((bytes : List ℕ) × (bytes_named told name ≡ Some bytes) × (length bytes ≤ 2 ^ 28))
    × HaveSized told names

-- the shelf failed on the file of one of these names, which the line tells: its count of faults rose, the file was begun
-- in its turn, once and by that name, and the last call that failed came after that; the files have the names before
-- it, within the limit
pub record FailedOn (names : List (List ℕ)) (line : List ℕ) (before after : Meanings) : Type 0 where
  pub earlier : List (List ℕ)
  pub name : List ℕ
  pub behind : List (List ℕ)
  pub in_turn : names ≡ earlier ++ (name ∷ behind)
  pub told : line ≡ unread_line name
  pub cause : Rose before.faults after.faults
  pub broken : after.broken ≡ after.begins
  pub was_asked : WasAsked (earlier ++ (name ∷ [])) before after
  pub earlier_sized : IfSome before.files (λ told. HaveSized told earlier)

-- the same of a shelf before and after
module _ {S : Type 0} (shelves : Ghosts S) where
  abbrev pub meanings_of : S → Meanings
  meanings_of shelf = record {
    files = shelves.files shelf;
    taken = shelves.taken shelf;
    begins = shelves.begins shelf;
    named = shelves.named shelf;
    broken = shelves.broken shelf;
    faults = shelves.faults shelf;
  }

  abbrev pub ShelfWasAsked : List (List ℕ) → S → S → Type 0
  ShelfWasAsked names before after = WasAsked names (meanings_of before) (meanings_of after)

  abbrev pub ShelfAsksFor : List (List ℕ) → S → S → Type 0
  ShelfAsksFor names before after = AsksFor names (meanings_of before) (meanings_of after)

  abbrev pub ShelfFailedOn : List (List ℕ) → List ℕ → S → S → Type 0
  ShelfFailedOn names line before after = FailedOn names line (meanings_of before) (meanings_of after)
