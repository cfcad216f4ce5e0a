use Rattle.std.proofs.Common.{sym, ◌∙◌}
use Rattle.at_scan.proofs.SimpleTexts.{simple_item_is}
use Rattle.at_scan.proofs.short_texts.last_item.Goals as goal

pub returns : goal.returns
returns c =
    let before = c.skip_spaces-first.ensures in let behind = c.skip_spaces-end.ensures in
    simple_item_is c.args.text.now c.args.at _ before.order before.spaces (c.in-Ok.ensures, sym c.is_simple.ensures ∙ c.if-not-is_simple.false) behind.order behind.within behind.spaces
