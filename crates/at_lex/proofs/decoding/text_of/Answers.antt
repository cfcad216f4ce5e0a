use Rattle.std.proofs.Common.{◌≡◌, take, sym, ◌∙◌, ap}
use Rattle.std.specs.Str.{is_utf8}
use Rattle.std.proofs.lemmas.Str.{is_utf8-from_IsUtf8, IsUtf8-from_is_utf8}
use Rattle.at_lex.proofs.UnitLemmas.{taken_min, no_text}
use Rattle.at_lex.proofs.decoding.text_of.Goals as goal

pub returns-in-Ok : goal.returns-in-Ok
returns-in-Ok c =
    let same : take c.min.result c.args.bytes.now ≡ take c.args.n c.args.bytes.now = ap (λ k. take k c.args.bytes.now) c.min.ensures ∙ taken_min c.args.n c.args.bytes.now in
    (ap is_utf8 (sym same) ∙ is_utf8-from_IsUtf8 _ c.in-Ok.ensures.cases.1, c.in-Ok.ensures.cases.0 ∙ same)

pub returns-in-Err : goal.returns-in-Err
returns-in-Err c =
    let same : take c.min.result c.args.bytes.now ≡ take c.args.n c.args.bytes.now = ap (λ k. take k c.args.bytes.now) c.min.ensures ∙ taken_min c.args.n c.args.bytes.now in
    no_text _ (λ h. c.in-Err.ensures.cases.0 (IsUtf8-from_is_utf8 _ (ap is_utf8 same ∙ h)))
