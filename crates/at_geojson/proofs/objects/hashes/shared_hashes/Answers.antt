use Rattle.std.proofs.Common.{map, sym, subst}
use Rattle.std.specs.List.Sorted.{IsNonDecreasing, IsPermutation}
use Rattle.std.proofs.lemmas.List.Sorted.{IsNonDecreasingBy-from_sort}
use Rattle.std.proofs.lemmas.Result.{IfOk-weaker}
use Rattle.at_scan.proofs.Repeats.{repeated_in_any_order}
use Rattle.at_geojson.specs.Hashes.{member_hash}
use Rattle.at_geojson.proofs.objects.hashes.shared_hashes.Goals as goal

pub repeated-requires : goal.repeated-requires
repeated-requires c = subst IsNonDecreasing (sym c.as_slice.ensures.value) (IsNonDecreasingBy-from_sort (λ x. x) _ c.sort_unstable.ensures.sorted)

pub returns : goal.returns
returns c =
    let moved : IsPermutation (map member_hash c.args.members.now) c.as_slice.result.now
    = subst (IsPermutation (map member_hash c.args.members.now)) (sym c.as_slice.ensures.value) (subst (λ x. IsPermutation x c.sort_unstable.new.self.items) c.in_ok-hashes.ensures c.sort_unstable.ensures.permutation) in
    IfOk-weaker c.repeated.result _ _ (λ found h. repeated_in_any_order (map member_hash c.args.members.now) c.as_slice.result.now found.items moved h) c.repeated.ensures
