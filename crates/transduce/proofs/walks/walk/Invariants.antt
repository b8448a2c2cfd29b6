use Rattle.std.proofs.Common.{◌≡◌, ℕ, ◌+◌, ◌-◌, ◌*◌, ◌<◌, List, ◌++◌, length}
use Rattle.std.specs.Borrow.{MutBor}
use Rattle.transduce.specs.Framed.{SourceKnown}
use Rattle.transduce.specs.Walks.{Progress}
use Rattle.transduce.proofs.walks.walk.Given as goal

abbrev pub invariant-steps : goal.invariant-steps
invariant-steps g l = record {
  within : 2 * l.here.node < length l.src.tree.now;
  long : length l.stack.words.now ≡ length l.initial.stack.words.now;
  progress : (k : SourceKnown l.src) → Progress l.src k l.stack l.here l.initial.left l.left
      (λ us. (lent : MutBor (List ℕ)) (ws : List ℕ) → g.S.Sink.holds l.initial.sink lent ws → g.S.Sink.holds l.sink lent (ws ++ us));
}

-- each turn puts a leaf or node out, or goes further down the tree
abbrev pub decreases-steps : goal.decreases-steps
decreases-steps g l = l.left * (length l.src.tree.now + 1) + (length l.src.tree.now - l.here.node)
