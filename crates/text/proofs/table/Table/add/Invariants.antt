-- That a rule changes no number of cases: what is written for a case stands in the
-- place that was there for it.
use Rattle.std.proofs.Common.{◌≡◌, vec_len}
use Rattle.text.proofs.table.Table.add.Given as goal

abbrev pub invariant-loop-case : goal.invariant-loop-case
invariant-loop-case g l = vec_len l.self.given ≡ vec_len l.initial.self.given
