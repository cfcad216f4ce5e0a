-- What a walk over a list finds that ends at the first element which passes a test.
use Rattle.std.specs.Prelude.{Bool, true, false, List}
use Rattle.std.specs.List.{AllByRecursion}
use Rattle.at_text.specs.Lists.{SomeOf}

-- the test said yes of some element, or no of each
abbrev pub IsSearchAnswer : {X : Type 0} → (X → Bool → Type 0) → List X → Bool → Type 0
IsSearchAnswer {X} Says xs true = SomeOf (λ (x : X). Says x true) xs
IsSearchAnswer {X} Says xs false = AllByRecursion (λ (x : X). Says x false) xs

pub record Searches {X : Type 0} (Says : X → Bool → Type 0) (xs : List X) (r : Bool) : Type 0 where
  pub answer : IsSearchAnswer Says xs r
