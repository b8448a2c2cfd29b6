use Rattle.numbers.proofs.Words.{value_small}
use Rattle.numbers.proofs.set.Goals as goal

pub returns : goal.returns
returns c = value_small _ _ _ c.clear.ensures c.requires
