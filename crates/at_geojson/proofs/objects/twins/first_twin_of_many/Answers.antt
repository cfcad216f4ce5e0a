use Rattle.std.proofs.Common.{◌≡◌, ◌+◌, Contains, drop, take, sym, ◌∙◌, ap, subst}
use Rattle.std.proofs.lemmas.Bool.{both_ways}
use Rattle.at_text.specs.Faults.{first_fault}
use Rattle.at_scan.specs.Hashes.{name_hash}
use Rattle.at_geojson.specs.Gathering.{is_among, twin_at, member_twins}
use Rattle.at_geojson.proofs.TwinSteps.{HasNames, one_member_more, set_more, set_kept, no_twin, negated}
use Rattle.at_geojson.proofs.objects.twins.first_twin_of_many.Goals as goal
use Rattle.at_geojson.proofs.objects.twins.first_twin_of_many.Goals.{then-has_hash_among+in_ok-is_twin, else-has_hash_among}

pub loop-member-preserved : goal.loop-member-preserved
loop-member-preserved c =
    let ms = c.args.members.now in
    let i = c.loop-member.member-index in
    let m = c.member-item.result in
    let within = c.loop-member-test.true in
    let here = c.member-item.is in
    let shared = c.in_ok-shared.shared.items in
    let before = c.loop-member.invariant.names in
    let name = c.as_slice-name.result in
    let units = c.as_slice-name.ensures in
    let hashes = c.as_slice.ensures.value in
    let told : HasNames shared c.if-has_hash_among.names (take (i + 1) ms) × (c.if-has_hash_among.is_twin ≡ is_among (take i ms) m.name)
    = elim c.if-has_hash_among.branch [
      | then-has_hash_among+in_ok-is_twin w ↦
          let has = subst (λ hs. Contains hs (name_hash name.now)) hashes (c.has_hash_among.ensures.0 w.if-has_hash_among.true) in
          let new = w.in_ok-is_twin.ensures in (
            subst (λ s. HasNames shared s (take (i + 1) ms)) (sym w.names-is) (set_more shared ms i m name c.loop-member.names w.insert.new.self within here units new.updates before),
            w.is_twin-is ∙ negated w.in_ok-is_twin.field-0 _ (is_among (take i ms) m.name) new.added (before name has ∙ ap (is_among (take i ms)) units),
          )
      | else-has_hash_among w ↦
          let apart : Contains shared (name_hash m.name) → ⊥
          = λ has. both_ways c.has_hash_among.result w.if-has_hash_among.false (c.has_hash_among.ensures.1 (subst (λ hs. Contains hs (name_hash name.now)) (sym hashes) (subst (λ u. Contains shared (name_hash u)) (sym units) has))) in (
            subst (λ s. HasNames shared s (take (i + 1) ms)) (sym w.names-is) (set_kept shared ms i m c.loop-member.names within here apart before),
            w.is_twin-is ∙ (w.if-has_hash_among.false ∙ sym (no_twin shared ms i m c.in_ok-shared.ensures within here apart)),
          )
    ] in
    let own = c.member_twin.ensures ∙ ap (λ b. twin_at b m) told.1 in
    record {
      names = told.0;
      first = ap (λ o. first_fault o (member_twins (take (i + 1) ms) (drop (i + 1) ms))) (c.first_fault-first.ensures ∙ ap (first_fault c.loop-member.first) own)
          ∙ (one_member_more ms i m c.loop-member.first within here ∙ c.loop-member.invariant.first);
    }
