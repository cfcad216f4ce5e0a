use Rattle.at_cli.specs.Steps.{flag_shown}
use Rattle.at_cli.proofs.FlagLaws.{shown_or}
use Rattle.at_cli.proofs.words.flags.flag_in.Goals as goal

pub returns : goal.returns
returns c =
    shown_or flag_shown c.or-4.result c.flag_for-6.result c.or-5.result _ _ c.or-5.ensures
    (shown_or flag_shown c.or-3.result c.flag_for-5.result c.or-4.result _ _ c.or-4.ensures
    (shown_or flag_shown c.or-2.result c.flag_for-4.result c.or-3.result _ _ c.or-3.ensures
    (shown_or flag_shown c.or.result c.flag_for-3.result c.or-2.result _ _ c.or-2.ensures
    (shown_or flag_shown c.flag_for.result c.flag_for-2.result c.or.result _ _ c.or.ensures c.flag_for.ensures c.flag_for-2.ensures) c.flag_for-3.ensures)
    c.flag_for-4.ensures)
    c.flag_for-5.ensures) c.flag_for-6.ensures
