-- The words of the program for parts, and its usage line.
use Rattle.std.specs.Prelude.{◌≢◌, ℕ, if◌then◌else◌, bytes_eq, codes, List, ◌∷◌, Option, Some, None}
use Rattle.at_filter.specs.declared.filter.Filter.{Filter}
use Rattle.at_filter.specs.declared.filter.Filter.TheVariants.{Lines, Items}

-- the name of a filter
abbrev pub word_of : Filter → List ℕ
word_of Lines = codes "lines"
word_of Items = codes "items"

-- the filter of a name
abbrev pub filter_of : List ℕ → Option Filter
filter_of word = if bytes_eq word (codes "lines") then Some Lines
    else if bytes_eq word (codes "items") then Some Items else None

-- the first of the words names no filter, or there is none
abbrev pub NameNoFilter : List (List ℕ) → Type 0
NameNoFilter words = (f : Filter) (rest : List (List ℕ)) → words ≢ word_of f ∷ rest

abbrev pub part_usage : List ℕ
part_usage = codes "usage: atgis-part lines|items WORDS..\n"
