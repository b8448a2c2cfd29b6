use Rattle.std.proofs.Common.{◌+◌, ◌/◌, ◌%◌, get_or, arith}
use Rattle.numbers.specs.Value.{value, weight}
use Rattle.numbers.proofs.Words.{weight_more, value_set, value_more, sum_turn}
use Rattle.numbers.proofs.add.Goals as goal

pub loop-i-preserved : goal.loop-i-preserved
loop-i-preserved c =
    let i = c.loop-i.i in
    let d = get_or c.loop-i.into i 0 in
    let s = get_or c.args.from.now i 0 in
    let sum = d + s + c.loop-i.over in (
      omega arith,
      rw weight_more (
          omega (
            arith,
            value_more c.args.from.now i (omega arith),
            sum_turn (weight i) d s c.loop-i.over (sum % 4294967296) (sum / 4294967296) (value c.loop-i.into) _ _ _ _
                (value_set c.loop-i.into i _ (omega arith)) c.loop-i.invariant.1 (omega arith),
          )),
    )
