use Rattle.std.proofs.Common.{arith}
use Rattle.std.proofs.Props.{props}
use Rattle.std.proofs.Math.Logic.{∥∥₁_elim}
use Rattle.transduce.proofs.Walking.{child_within, popped_long, leaf_next, leaf_popped}
use Rattle.transduce.proofs.walks.after_leaf.Goals as goal

pub returns-then-here-gt1-clause-goes_on : goal.returns-then-here-gt1-clause-goes_on
returns-then-here-gt1-clause-goes_on c k rest p = leaf_next c.args.src k c.args.frames.now c.args.here rest c.args.mark c.requires.begun c.if-here-gt1.true p

pub pop-requires : goal.pop-requires
pop-requires c = ∥∥₁_elim c.requires.ready (hlevel props) (λ r. omega (arith, r.2.high, child_within _ _ _ r.2.here.subtree, c.requires.room))

pub returns : goal.returns
returns c = record {
  long = popped_long c.args.frames.now c.pop.new.self c.pop.result c.pop.ensures;
  goes_on = λ k rest p. leaf_popped c.args.src k c.args.frames.now c.args.here rest c.args.mark c.pop.new.self c.pop.result c.pop.ensures c.requires.begun c.if-here-gt1.false p;
}
