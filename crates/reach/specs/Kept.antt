-- A search under way: its automaton, and what stays the same.
use Rattle.std.specs.Prelude.{◌≡◌}
use Rattle.automata.specs.Automata.{TreeAutomaton}
use Rattle.reach.specs.declared.offers.Search.{Search}

-- what signatures its automaton gives to trees
abbrev pub meaning_of : {A : Type 0} {a : _} → Search A a → TreeAutomaton
meaning_of {A} {a} s = a.meaning s.automaton.now

-- what does not change while trees are offered: the automaton, which table it is and of what shape, and how much of it is settled
pub record Kept {A : Type 0} {a : _} (old new : Search A a) : Type 0 where
  pub automaton : new.automaton ≡ old.automaton
  pub same_table : new.table.ghost_name ≡ old.table.ghost_name
  pub shape : new.table.now.shape ≡ old.table.now.shape
  pub settled : new.table.now.settled ≡ old.table.now.settled
