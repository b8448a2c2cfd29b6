use Rattle.std.proofs.Common.{arith}
use Rattle.rows.proofs.PatternLists.{none_next, one_more}
use Rattle.rows.proofs.patterns.read_patterns.Goals as goal

pub loop-i-preserved : goal.loop-i-preserved
loop-i-preserved c = one_more _ _ _ _ _ _ c.args.count _ _ c.loop-i.invariant _ _ c.in_ok-end.ensures c.set_number.ensures

pub returns-in_err-end : goal.returns-in_err-end
returns-in_err-end c = rw c.from_residual.ensures (none_next _ _ _ _ _ _ c.args.count _ _ c.loop-i.invariant (omega arith) c.in_err-end.ensures)
