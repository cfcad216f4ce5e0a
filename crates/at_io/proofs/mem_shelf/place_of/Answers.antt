use Rattle.std.proofs.Common.{◌≡◌, ◌+◌, ◌∷◌, Some, true, bytes_eq, length, drop, if◌then◌else◌, refl, sym, ◌∙◌, ap}
use Rattle.std.proofs.lemmas.List.{at_drop_more}
use Rattle.std.proofs.lemmas.Option.{slice_get_read}
use Rattle.std.proofs.lemmas.Slice.Eq.{bytes_eq-Decides}
use Rattle.at_io.specs.Files.{bytes_named}
use Rattle.at_io.specs.NamedFiles.{entries_of}
use Rattle.at_io.proofs.mem_shelf.place_of.Goals as goal

pub returns-then-eq : goal.returns-then-eq
returns-then-eq c =
    let fs = c.args.files.now in
    let name = c.args.name.now in
    let f = c.index-files-i.result in
    let there = slice_get_read fs (length fs) c.loop-i.i f refl c.loop-i-test.true c.index-files-i.is in
    let same : bytes_eq f.name name ≡ true = ap (λ n. bytes_eq n name) (sym c.as_str.ensures) ∙ sym c.eq.ensures ∙ c.if-eq.true in
    let step = at_drop_more (λ rest. bytes_named (entries_of rest) name) fs c.loop-i.i f c.loop-i-test.true in
    let found : bytes_named (entries_of fs) name ≡ Some f.bytes =
    sym c.loop-i.invariant ∙ step ∙ ap (λ x. bytes_named (entries_of (x ∷ drop (c.loop-i.i + 1) fs)) name) (sym c.index-files-i.is) ∙ ap (λ b. if b then Some f.bytes else bytes_named (entries_of (drop (c.loop-i.i + 1) fs)) name) same in
    (f, there, (bytes_eq-Decides f.name name).0 same, found)
