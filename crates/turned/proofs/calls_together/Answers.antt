-- The two calls together, as the law says: a job that fits, and a tree that has a result.
-- It is the lemma that is shown of the two promises.
use Rattle.turned.proofs.Together.{judged_and_turned}
use Rattle.turned.proofs.calls_together.Goals as goal

pub returns : goal.returns
returns c = judged_and_turned
