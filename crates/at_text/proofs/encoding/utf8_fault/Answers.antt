use Rattle.std.proofs.Common.{◌≡◌, Bool, true, false, Some, ap, refl, ◌∙◌}
use Rattle.std.specs.Str.{is_utf8}
use Rattle.std.proofs.lemmas.Str.{is_utf8-from_IsUtf8, IsUtf8-from_is_utf8}
use Rattle.at_text.specs.declared.faults.FaultKind.TheVariants.{NotUtf8}
use Rattle.at_text.specs.Faults.{fault_at}
use Rattle.at_text.proofs.encoding.utf8_fault.Goals as goal

not_true : (b : Bool) → (b ≡ true → ⊥) → b ≡ false
not_true true h = absurd (h refl)
not_true false h = refl

pub returns-in-Ok : goal.returns-in-Ok
returns-in-Ok c = let e : is_utf8 c.args.bytes.now ≡ true = is_utf8-from_IsUtf8 c.args.bytes.now c.in-Ok.ensures.cases.1 in rw e

pub returns-in-Err : goal.returns-in-Err
returns-in-Err c =
    let e : is_utf8 c.args.bytes.now ≡ false = not_true (is_utf8 c.args.bytes.now) (λ h. c.in-Err.ensures.cases.0 (IsUtf8-from_is_utf8 c.args.bytes.now h)) in
    rw e (ap (λ n. Some (fault_at NotUtf8 n)) (c.valid_up_to.ensures ∙ c.in-Err.ensures.valid_len))
