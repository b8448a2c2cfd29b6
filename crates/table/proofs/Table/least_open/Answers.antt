use Rattle.table.proofs.Selecting.{take_row, keep_row}
use Rattle.table.proofs.Table.least_open.Goals as goal
use Rattle.table.proofs.Table.least_open.Goals.{then-improves, else-improves}

pub loop-k-preserved : goal.loop-k-preserved
loop-k-preserved c =
    elim c.if-improves.branch [
      | then-improves w ↦ take_row _ _ c.loop-k.best _ c.loop-k.invariant (c.improves.ensures.yes w.if-improves.true) w.best-is
      | else-improves w ↦ keep_row _ _ c.loop-k.best _ c.loop-k.invariant (c.improves.ensures.not w.if-improves.false) w.best-is
    ]
