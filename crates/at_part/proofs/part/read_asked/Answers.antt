use Rattle.std.proofs.Common.{◌∙◌, sym, ap, string_bytes}
use Rattle.std.specs.Option.{option_copied}
use Rattle.at_part.proofs.Asking.{asked_is}
use Rattle.at_part.proofs.part.read_asked.Goals as goal

pub returns-in-Some-filter_of : goal.returns-in-Some-filter_of
returns-in-Some-filter_of c = asked_is string_bytes c.args.words.now c.in-Some.first.now c.as_str.result.now c.in-Some-filter_of.filter (sym c.first.ensures.value ∙ ap option_copied c.in-Some.is) c.as_str.ensures.value (sym c.in-Some-filter_of.is ∙ c.filter_of.ensures)
