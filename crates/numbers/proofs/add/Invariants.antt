use Rattle.std.proofs.Common.{◌≡◌, ◌+◌, ◌*◌, ◌^◌, ◌<◌, take}
use Rattle.numbers.specs.Value.{value, weight}
use Rattle.numbers.proofs.add.Given as goal

abbrev pub invariant-loop-i : goal.invariant-loop-i
invariant-loop-i l =
    (l.over < 2 ^ 32) × (value l.into + l.over * weight l.i ≡ value l.initial.into + value (take l.i l.from) + l.carry)
