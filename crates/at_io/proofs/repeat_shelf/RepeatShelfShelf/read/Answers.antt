use Rattle.std.proofs.Common.{rules, ◌≡◌, ◌≤◌, drop, replicate, Some, sym, ap}
use Rattle.std.proofs.lemmas.List.{drop-replicate}
use Rattle.at_io.proofs.Repeats.{front_of_equal}
use Rattle.at_io.proofs.repeat_shelf.RepeatShelfShelf.read.Goals as goal

pub returns-clause-bytes : goal.returns-clause-bytes
returns-clause-bytes c =
    let n = c.min-given.result in
    let s = c.args.self.now in
    let equal : c.fill.new.self ≡ replicate n s.byte = search rules in
    let within : n ≤ s.left = search rules in
    (front_of_equal n s.left s.byte c.fill.new.self (drop n c.args.room.now) within equal, ap Some (sym (drop-replicate n s.left s.byte)))
