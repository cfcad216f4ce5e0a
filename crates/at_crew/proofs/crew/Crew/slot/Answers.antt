use Rattle.std.proofs.Common.{rules, ℕ, ◌-◌, ◌*◌, ◌^◌, ◌<◌, ap, arith}
use Rattle.at_crew.proofs.Tree.{height_small, shifted, to_product, from_product}
use Rattle.at_crew.proofs.crew.Crew.slot.Goals as goal

pub overflow_shl-result : goal.overflow_shl-result
overflow_shl-result g c = let h = height_small c.args.self.now.blocks c.requires.0 c.args.height c.args.node c.requires.1 c.args.self.now.sized.3 in omega (arith, h)

pub overflow_mul-result : goal.overflow_mul-result
overflow_mul-result g c = let z = c.args.self.now.sized in let e = shifted c.args.self.now.blocks c.requires.0 c.args.height c.args.node c.requires.1 z.3 in let t = to_product c.args.self.now.blocks c.requires.0 c.args.height c.args.node c.requires.1 in
    rw e (let b : c.args.node * 2 ^ c.args.height < 2 ^ 64 = omega (arith, t, z) in search rules)

pub overflow_sub-result : goal.overflow_sub-result
overflow_sub-result g c = let z = c.args.self.now.sized in let e = shifted c.args.self.now.blocks c.requires.0 c.args.height c.args.node c.requires.1 z.3 in rw e (from_product c.args.self.now.blocks c.requires.0 c.args.height c.args.node c.requires.1)

pub returns : goal.returns
returns g c = let e = shifted c.args.self.now.blocks c.requires.0 c.args.height c.args.node c.requires.1 c.args.self.now.sized.3 in ap (λ (w : ℕ). c.args.node * w - c.args.self.now.blocks) e
