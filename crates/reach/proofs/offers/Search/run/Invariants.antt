use Rattle.std.proofs.Common.{◌≡◌, ◌-◌}
use Rattle.reach.proofs.Settling.{Turn}
use Rattle.reach.proofs.offers.Search.run.Given as goal

abbrev pub invariant-loop-k : goal.invariant-loop-k
invariant-loop-k g l = record {
  automaton : l.self.automaton ≡ l.fn.self.automaton;
  same_table : l.self.table.ghost_name ≡ l.fn.self.table.ghost_name;
  shape : l.self.table.now.shape ≡ l.fn.self.table.now.shape;
  turn : Turn (g.A.Automaton.meaning l.fn.self.automaton.now) l.self.table.now;
}

abbrev pub decreases-loop-k : goal.decreases-loop-k
decreases-loop-k g l = l.self.table.now.shape.most - l.self.table.now.settled
