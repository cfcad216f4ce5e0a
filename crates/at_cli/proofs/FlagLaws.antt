-- The first of several options that a word may be, as it is shown.
-- For `read_words` and `top`.
use Rattle.std.proofs.Common.{◌≡◌, ◌∙◌, ap, Option, Some, None, option_map}
use Rattle.std.specs.Option.{option_or}

pub shown_or : {X Y : Type 0} (f : X → Y) (a b r : Option X) (x y : Option Y) → r ≡ option_or a b → option_map f a ≡ x → option_map f b ≡ y → option_map f r ≡ option_or x y
shown_or f None b r x y is e g = ap (option_map f) is ∙ g ∙ ap (λ o. option_or o y) e
shown_or f (Some a) b r x y is e g = ap (option_map f) is ∙ ap (λ o. option_or o y) e
