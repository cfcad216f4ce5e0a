use Rattle.std.proofs.Common.{ℕ, ◌+◌, ◌-◌, List, length, take, drop, subst, arith}
use Rattle.std.proofs.lemmas.List.{take_rest}
use Rattle.at_nest.specs.Folds.{IsAttempt}
use Rattle.at_nest.specs.declared.algebra.Attempt.{Attempt}
use Rattle.at_geojson.specs.declared.atoms.atom.GeoAtom.{GeoAtom}
use Rattle.at_geojson.specs.Atoms.{IsOwn, IsFold}
use Rattle.at_seq.proofs.SequenceEnds.{read_ahead}
use Rattle.at_seq.proofs.records.atom_at_once.Goals as goal

pub returns-then-spaces_len-behind : goal.returns-then-spaces_len-behind
returns-then-spaces_len-behind c =
    let value : List ℕ = take (length c.args.text.now - c.args.spaces) (drop c.args.spaces c.args.text.now) in
    let behind : List ℕ = take (length value - c.in-Whole.len) (drop c.in-Whole.len value) in
    let ahead : List ℕ = take (length c.args.ahead.now - c.args.spaces) (drop c.args.spaces c.args.ahead.now) in
    let P : Attempt GeoAtom → Type 0 = λ z. IsAttempt (IsOwn c.args.file.now.algebra.now) (IsFold c.args.file.now.algebra.now) (c.args.at + c.args.spaces) ahead z in
    read_ahead c.args.file.now.algebra.now c.args.at c.args.text.now c.args.ahead.now behind c.args.spaces c.in-Whole.len c.spaces_len.result c.in-Whole.atom c.requires.begins (omega (arith, c.requires.some))
    c.if-len-value.false (take_rest value c.in-Whole.len) c.requires.spaces (subst P c.in-Whole.is c.in_ok-len.ensures) c.spaces_len.ensures c.if-spaces_len-behind.true
