use Rattle.std.proofs.Common.{arith}
use Rattle.std.proofs.Props.{props}
use Rattle.std.proofs.Math.Logic.{∥∥₁_elim}
use Rattle.transduce.proofs.Walking.{count_small, node_after}
use Rattle.transduce.proofs.walks.after_node.Goals as goal

pub overflow_add-result-2 : goal.overflow_add-result-2
overflow_add-result-2 c = ∥∥₁_elim c.requires.ready (hlevel props) (λ r. omega (arith, count_small c.args.src r.0 c.args.frames.now c.args.here r.1 r.2))

pub returns : goal.returns
returns c k rest p = node_after c.args.src k c.args.frames.now c.args.here rest c.args.mark c.requires.begun p
