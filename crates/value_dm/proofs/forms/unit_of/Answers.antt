use Rattle.std.proofs.Common.{◌≤◌, ◌^◌, lit<, arith}
use Rattle.std.proofs.Math.Nat.{pow-le-pow_right, one-le-pow}
use Rattle.value_dm.proofs.forms.unit_of.Goals as goal

pub pow-requires : goal.pow-requires
pow-requires c =
    let most : 10 ^ c.args.scale ≤ 10 ^ 38 = pow-le-pow_right (lit< tt) c.requires in omega (arith, most)

pub returns-clause-positive : goal.returns-clause-positive
returns-clause-positive c = let some = one-le-pow c.args.scale 10 (lit< tt) in omega (arith, some, c.pow.ensures)
