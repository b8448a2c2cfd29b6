use Rattle.automata.proofs.Theory.{laws}
use Rattle.automata.proofs.laws_stand.Goals as goal

pub returns : goal.returns
returns c = laws
