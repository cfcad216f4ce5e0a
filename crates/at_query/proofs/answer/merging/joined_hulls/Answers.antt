use Rattle.std.proofs.Common.{◌≡◌, List, ◌++◌, subst, rules}
use Rattle.std.specs.Prelude.{IfOk}
use Rattle.std.specs.Prelude.{Result}
use Rattle.at_text.specs.declared.memory.Memory.{Memory}
use Rattle.at_geom.specs.declared.positions.Pos.{Pos}
use Rattle.at_geom.specs.declared.positions.Path.{Path}
use Rattle.at_hull.specs.Hulls.{IsHull}
use Rattle.at_query.proofs.Hulls.{joins_if_ok, own_if_ok}
use Rattle.at_query.proofs.answer.merging.joined_hulls.Goals as goal

abbrev Joins : List Pos → List Pos → Result Path Memory → Type 0
Joins a b r = (ps qs : List Pos) → IsHull ps a → IsHull qs b → IfOk r (λ h. IsHull (ps ++ qs) h)

pub returns-clause-joins : goal.returns-clause-joins
returns-clause-joins c =
    let right : c.from_vec.result ≡ c.args.right = search rules in
    joins_if_ok c.args.left c.args.right c.hull_join-2.result (subst (λ b. Joins c.args.left b c.hull_join-2.result) right c.hull_join-2.ensures)

pub returns-clause-own : goal.returns-clause-own
returns-clause-own c =
    let right : c.from_vec.result ≡ c.args.right = search rules in
    own_if_ok c.args.left c.args.right c.hull_join-2.result c.requires.left c.requires.right (subst (λ b. Joins c.args.left b c.hull_join-2.result) right c.hull_join-2.ensures)
