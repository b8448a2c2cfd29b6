use Rattle.trial.proofs.jobs.Pattern.TheLaws.{the_size}
use Rattle.trial.proofs.kinds.+pattern_kind.Given as goal

abbrev pub decreases-pattern_kind : goal.decreases-pattern_kind
decreases-pattern_kind l = the_size l.pattern.now
