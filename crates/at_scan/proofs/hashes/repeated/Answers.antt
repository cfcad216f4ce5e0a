use Rattle.std.proofs.Common.{◌+◌, ◌≡◌, ◌-◌, ◌<◌, ◌≤◌, All, get_or, arith, subst}
use Rattle.std.proofs.lemmas.List.Elements.{All-weaker}
use Rattle.at_scan.proofs.Repeats.{found_again, found_once}
use Rattle.at_scan.proofs.hashes.repeated.Goals as goal

pub loop-index-preserved-then-number-numbers : goal.loop-index-preserved-then-number-numbers
loop-index-preserved-then-number-numbers c =
    let numbers = c.args.numbers.now in
    let i = c.loop-index.index in
    let some : 0 < i = omega (arith, c.loop-index.auto.index) in
    let within = c.loop-index-test.true in
    let no_less = c.requires (i - 1) i 0 (omega arith) within in
    let greater : get_or numbers (i - 1) 0 < get_or numbers i 0 = omega (arith, no_less, c.if-number-numbers.true) in
    let same : i ≡ i + 1 - 1 = omega arith in
    record {
      rise = c.loop-index.invariant.rise;
      most = All-weaker (λ n. n ≤ get_or numbers (i - 1) 0) (λ n. n ≤ get_or numbers (i + 1 - 1) 0) (λ n low. subst (λ k. n ≤ get_or numbers k 0) same (omega (arith, low, greater))) c.loop-index.found.items c.loop-index.invariant.most;
      all = found_once numbers c.loop-index.found.items i c.requires some within greater c.loop-index.invariant.all;
    }

pub loop-index-preserved : goal.loop-index-preserved
loop-index-preserved c =
    let numbers = c.args.numbers.now in
    let i = c.loop-index.index in
    let same : i ≡ i + 1 - 1 = omega arith in
    record {
      rise = c.in_ok-add_once.ensures.rise;
      most = subst (λ k. All (λ n. n ≤ get_or numbers k 0) c.add_once.new.found.items) same c.in_ok-add_once.ensures.most;
      all = found_again numbers c.loop-index.found.items c.add_once.new.found.items i c.loop-index-test.true c.in_ok-add_once.ensures.has c.in_ok-add_once.ensures.keeps c.loop-index.invariant.all;
    }
