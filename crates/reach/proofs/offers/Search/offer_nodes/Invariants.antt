use Rattle.std.proofs.Common.{ℕ, ◌+◌, ◌<◌}
use Rattle.reach.specs.Kept.{Kept}
use Rattle.reach.specs.Searching.{BothWays}
use Rattle.reach.proofs.Steps.{Progress}
use Rattle.reach.proofs.offers.Search.offer_nodes.Given as goal

abbrev pub invariant-loop-letter : goal.invariant-loop-letter
invariant-loop-letter g l =
    let A = g.A.Automaton.meaning l.initial.self.automaton.now in
    let markof = g.A.Automaton.markof l.initial.self.automaton.now in
    record {
      kept : Kept l.initial.self l.self;
      goes : Progress A l.initial.self.table.now l.self.table.now (λ S us. (i j : ℕ) → i < l.letter → j < l.k + 1 → BothWays A S us (markof i) l.k j);
    }
