use Rattle.std.proofs.Common.{◌*◌, arith}
use Rattle.rows.proofs.SubtreeReads.{none_item}
use Rattle.rows.proofs.trees.item_at.Goals as goal

pub returns-in_default : goal.returns-in_default
returns-in_default c = none_item c.args.tree.now (2 * c.args.i) (omega arith)
