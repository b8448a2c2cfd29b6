use Rattle.std.proofs.Common.{ℕ, ◌<◌}
use Rattle.reach.specs.Kept.{Kept}
use Rattle.reach.specs.Searching.{BothWays}
use Rattle.reach.proofs.Steps.{Progress}
use Rattle.reach.proofs.offers.Search.offer_pairs.Given as goal

abbrev pub invariant-loop-i : goal.invariant-loop-i
invariant-loop-i g l =
    let A = g.A.Automaton.meaning l.initial.self.automaton.now in
    record {
      kept : Kept l.initial.self l.self;
      goes : Progress A l.initial.self.table.now l.self.table.now (λ S us. (j : ℕ) → j < l.i → BothWays A S us l.mark l.k j);
    }
