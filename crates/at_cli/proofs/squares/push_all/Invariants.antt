use Rattle.std.proofs.Common.{◌≡◌, ◌++◌, take}
use Rattle.std.specs.List.{flat_map}
use Rattle.at_cli.proofs.squares.push_all.Given as goal

-- the parts so far are put behind the text
abbrev pub invariant-loop-part : goal.invariant-loop-part
invariant-loop-part l = l.text.items ≡ l.fn.text.items ++ flat_map (λ part. part.now) (take l.part-index l.parts)
