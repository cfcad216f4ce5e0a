use Rattle.at_scan.proofs.SimpleTexts.{simple_item_is}
use Rattle.at_scan.proofs.short_texts.simple_item.Goals as goal

pub returns : goal.returns
returns c =
    let before = c.skip_spaces-first.ensures in let behind = c.skip_spaces-end.ensures in
    simple_item_is c.args.text.now c.args.at _ before.order before.spaces c.in_ok-last.ensures behind.order behind.within behind.spaces
