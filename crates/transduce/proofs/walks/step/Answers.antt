use Rattle.std.proofs.Props.{props}
use Rattle.std.proofs.Math.Logic.{∥∥₁_elim}
use Rattle.transduce.proofs.Walking.{some_step}
use Rattle.transduce.proofs.walks.step.Goals as goal

pub unwrap-requires : goal.unwrap-requires
unwrap-requires c = ∥∥₁_elim c.requires (hlevel props) (λ r. some_step c.args.src r.0 c.args.frames.now c.args.here r.1 r.2 c.step_at.result c.step_at.ensures)
