use Rattle.model.proofs.Order.{tree_order}
use Rattle.model.proofs.order_stands.Goals as goal

pub returns : goal.returns
returns c = tree_order
