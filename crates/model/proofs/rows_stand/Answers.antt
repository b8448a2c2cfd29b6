use Rattle.model.proofs.Prefix.{row_laws}
use Rattle.model.proofs.rows_stand.Goals as goal

pub returns : goal.returns
returns c = row_laws
