use Rattle.std.proofs.Common.{◌≡◌, ◌-◌, ◌^◌, min, drop}
use Rattle.numbers.specs.Value.{value}
use Rattle.numbers.proofs.saturated.Given as goal

abbrev pub invariant-loop-i : goal.invariant-loop-i
invariant-loop-i l = l.sum ≡ min (value (drop l.i l.a)) (2 ^ 64 - 1)
