-- How the content of a sink grows. Where it isn't told, nothing is claimed of it.
use Rattle.std.specs.Prelude.{◌≡◌, ℕ, ◌≤◌, ⊤, List, ◌++◌, length, take, Option, Some, None}

-- the new content is the old one with the text behind it
abbrev pub Grows : Option (List ℕ) → Option (List ℕ) → List ℕ → Type 0
Grows None new text = ⊤
Grows (Some old) new text = new ≡ Some (old ++ text)

-- the new content is the old one with a prefix of the text behind it
abbrev pub GrowsByPrefix : Option (List ℕ) → Option (List ℕ) → List ℕ → Type 0
GrowsByPrefix None new text = ⊤
GrowsByPrefix (Some old) new text = (kept : ℕ) × (kept ≤ length text) × (new ≡ Some (old ++ take kept text))
