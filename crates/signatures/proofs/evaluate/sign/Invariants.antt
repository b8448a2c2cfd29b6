use Rattle.std.proofs.Common.{◌≡◌, ℕ, ◌+◌, ◌<◌, get_or}
use Rattle.signatures.specs.Evaluating.{item_signature}
use Rattle.signatures.proofs.evaluate.sign.Given as goal

abbrev pub invariant-loop-q : goal.invariant-loop-q
invariant-loop-q l =
    (get_or l.out 0 0 ≡ get_or (item_signature l.job l.item l.parts.left.now l.parts.right.now) 0 0)
    × ((i : ℕ) → i < l.q → get_or l.out (i + 1) 0 ≡ get_or (item_signature l.job l.item l.parts.left.now l.parts.right.now) (i + 1) 0)
