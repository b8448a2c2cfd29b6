use Rattle.signatures.proofs.Telling.{laws, job_laws}
use Rattle.signatures.proofs.laws_stand.Goals as goal

pub returns : goal.returns
returns c = record { signatures = laws; classes = job_laws }
