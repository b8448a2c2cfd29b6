use Rattle.std.proofs.Common.{◌≡◌, ◌<◌, drop}
use Rattle.table.specs.Chains.{mixed}
use Rattle.table.proofs.lookup.hash.Given as goal

abbrev pub invariant-loop-word : goal.invariant-loop-word
invariant-loop-word l = (l.h < 4294967296) × (mixed l.h (drop l.word-index l.key) ≡ mixed 0 l.key)
