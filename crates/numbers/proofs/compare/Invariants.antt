use Rattle.std.proofs.Common.{◌≡◌, ℕ, List, ◌++◌, reverse}
use Rattle.numbers.proofs.compare.Given as goal

-- the words gone by are the same in both
abbrev pub invariant-loop-x : goal.invariant-loop-x
invariant-loop-x l =
    (high : List ℕ) × (reverse l.a ≡ high ++ reverse l.x-iterator.a.iter.rest.now) × (reverse l.b ≡ high ++ reverse l.x-iterator.b.iter.rest.now)
