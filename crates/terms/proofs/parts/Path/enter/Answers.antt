-- That a node that is entered brings one part more to come: its right part, behind
-- the left one that is pushed.
use Rattle.terms.proofs.Steps.{to_come-left}
use Rattle.terms.proofs.parts.Path.enter.Goals as goal

pub returns-clause-one_more : goal.returns-clause-one_more
returns-clause-one_more c = rw c.in_ok-push.ensures.items (to_come-left c.args.self.now.parts.items)
