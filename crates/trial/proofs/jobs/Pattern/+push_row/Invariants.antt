use Rattle.trial.proofs.jobs.Pattern.TheLaws.{the_size}
use Rattle.trial.proofs.jobs.Pattern.+push_row.Given as goal

abbrev pub decreases-push_row : goal.decreases-push_row
decreases-push_row l = the_size l.self.now
