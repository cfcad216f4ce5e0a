-- The last levels of the first list are a stretch now, with those of the second one behind it.
use Rattle.std.proofs.Common.{◌≡◌, ◌++◌, refl, ◌∙◌, ap}
use Rattle.at_nest.specs.Shown.{stretched}
use Rattle.at_nest.proofs.Stretches.{appended}
use Rattle.at_nest.proofs.open_levels.Levels.append.Goals as goal

pub returns : goal.returns
returns g c =
    let before : c.replace-front.result.items ≡ c.args.self.now.last.items = rw (c.replace-front.ensures.value) refl in
    let after : c.replace-front.new.dest.items ≡ c.args.behind.last.items = rw (c.replace-front.ensures.after) refl in
    appended c.args.self.now.before.items c.add_stretch.new.before.items c.append.new.self.items c.args.behind.before.items c.replace-front.result.items c.replace-front.new.dest.items c.in_ok-add_stretch.ensures c.in_ok-append.ensures.items
    ∙ (ap (λ z. (stretched c.args.self.now.before.items ++ z) ++ (stretched c.args.behind.before.items ++ c.replace-front.new.dest.items)) before
    ∙ ap (λ z. (stretched c.args.self.now.before.items ++ c.args.self.now.last.items) ++ (stretched c.args.behind.before.items ++ z)) after)
