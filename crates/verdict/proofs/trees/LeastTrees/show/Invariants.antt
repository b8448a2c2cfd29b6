use Rattle.std.proofs.Common.{◌≡◌, ◌-◌, ◌≤◌, List, length, drop}
use Rattle.model.specs.Trees.{Tree}
use Rattle.model.specs.Rows.{tree_row}
use Rattle.automata.specs.Classes.{at}
use Rattle.verdict.specs.Ranked.{Holds, Low}
use Rattle.verdict.proofs.Writing.{Underway}
use Rattle.verdict.proofs.trees.LeastTrees.show.Given as goal

abbrev pub invariant-loop-ranks : goal.invariant-loop-ranks
invariant-loop-ranks l =
    (l.self.table.now.settled ≤ length l.ranks.words.now) × Low l.self.table.now.settled (drop l.ranks.top l.ranks.words.now) × (l.writer.out.ghost_name ≡ l.initial.writer.out.ghost_name)
    × ((S : List Tree) → Holds S l.self.table.now → length (tree_row (at S l.rank)) ≤ length l.initial.writer.out.now)
    × ((S : List Tree) → Holds S l.self.table.now → Underway S (tree_row (at S l.rank)) l.writer.used l.initial.writer.out.now l.writer.out.now (drop l.ranks.top l.ranks.words.now))

abbrev pub decreases-loop-ranks : goal.decreases-loop-ranks
decreases-loop-ranks l = length l.initial.writer.out.now - l.writer.used
