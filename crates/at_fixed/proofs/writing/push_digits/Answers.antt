use Rattle.std.proofs.Common.{ℕ, ◌≡◌, ◌+◌, ◌-◌, ◌/◌, ◌%◌, ◌^◌, ◌<◌, mod-lt, lit<, ◌++◌, string_bytes, arith, ◌∙◌, ap}
use Rattle.at_fixed.proofs.Written.{written_more}
use Rattle.at_fixed.proofs.writing.push_digits.Goals as goal

pub loop-left-preserved : goal.loop-left-preserved
loop-left-preserved c =
    let ten : 0 < 10 = lit< tt in
    let digit : ℕ = (c.args.n / 10 ^ (c.loop-left.left - 1)) % 10 in
    let byte : c.from.result ≡ 0x30 + digit = c.from.ensures ∙ c.digit_at.ensures in
    let ascii : c.from.result < 128 = omega (arith, byte, mod-lt (c.args.n / 10 ^ (c.loop-left.left - 1)) ten) in
    written_more (string_bytes c.loop-left.text) (string_bytes c.push.new.self) c.from.result c.args.n c.loop-left.left (omega arith)
    (c.in_ok-push.ensures.bytes ∙ ap (λ w. string_bytes c.loop-left.text ++ w) (c.in_ok-push.ensures.ascii ascii)) byte ∙ c.loop-left.invariant
