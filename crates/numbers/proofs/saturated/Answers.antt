use Rattle.std.proofs.Common.{length, ap, arith}
use Rattle.std.proofs.lemmas.List.{drop_all}
use Rattle.numbers.specs.Value.{value}
use Rattle.numbers.proofs.Words.{value_from}
use Rattle.numbers.proofs.saturated.Goals as goal

pub loop-i-init : goal.loop-i-init
loop-i-init c = omega (arith, ap value (drop_all (length c.args.a.now) c.args.a.now (omega arith)))

pub loop-i-preserved : goal.loop-i-preserved
loop-i-preserved c =
    let v = value_from c.args.a.now c.loop-i.i (omega arith) (omega arith) in
    omega (arith, v, c.loop-i.invariant, c.saturating_mul.ensures, c.saturating_add-sum.ensures)
