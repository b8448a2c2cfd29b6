use Rattle.std.proofs.Common.{refl, arith}
use Rattle.std.proofs.Props.{props}
use Rattle.std.proofs.Math.Logic.{∥∥₁_elim}
use Rattle.transduce.proofs.Walking.{at_part, part_marked, node_inner, child_within, last_part, first_part}
use Rattle.transduce.proofs.walks.descend.Goals as goal

pub part-requires : goal.part-requires
part-requires c = ∥∥₁_elim c.requires.ready (hlevel props) (λ r.
    let o = at_part c.args.src r.0 c.args.frames.now c.args.here r.1 c.args.state c.args.part c.requires.begun r.2 in
    node_inner c.args.src r.0 c.args.here.node o.mark o.first o.second o.here.subtree)

pub enter-entered-requires : goal.enter-entered-requires
enter-entered-requires c = ∥∥₁_elim c.requires.ready (hlevel props) (λ r.
    let o = at_part c.args.src r.0 c.args.frames.now c.args.here r.1 c.args.state c.args.part c.requires.begun r.2 in
    let child = c.part.ensures r.0 o.mark o.first o.second o.here.subtree in
    record { here = child_within _ _ _ child.0; state = o.state_below })

pub push-requires : goal.push-requires
push-requires c = ∥∥₁_elim c.requires.ready (hlevel props) (λ r.
    let o = at_part c.args.src r.0 c.args.frames.now c.args.here r.1 c.args.state c.args.part c.requires.begun r.2 in
    omega (arith, node_inner c.args.src r.0 c.args.here.node o.mark o.first o.second o.here.subtree, o.high, c.requires.room))

pub returns-then-here-eq1 : goal.returns-then-here-eq1
returns-then-here-eq1 c =
    let same = c.enter-entered.ensures.same in
    record {
      down = ∥∥₁_elim c.requires.ready (hlevel props) (λ r. let o = at_part c.args.src r.0 c.args.frames.now c.args.here r.1 c.args.state c.args.part c.requires.begun r.2 in omega (arith, (c.part.ensures r.0 o.mark o.first o.second o.here.subtree).1, same));
      within = ∥∥₁_elim c.requires.ready (hlevel props) (λ r. let o = at_part c.args.src r.0 c.args.frames.now c.args.here r.1 c.args.state c.args.part c.requires.begun r.2 in omega (arith, child_within _ _ _ (c.part.ensures r.0 o.mark o.first o.second o.here.subtree).0, same));
      long = refl;
      pending = λ k rest p.
          let o = at_part c.args.src k c.args.frames.now c.args.here rest c.args.state c.args.part c.requires.begun p in
          let child = c.part.ensures k o.mark o.first o.second o.here.subtree in
          last_part c.args.src k c.args.frames.now c.args.here rest c.args.state c.args.part c.requires.begun p c.enter-entered.result c.if-here-eq1.true (omega (arith, child.1, same))
          (c.enter-entered.ensures.frame k _ (part_marked _ o.mark o.first o.second c.args.part o.here.marked) child.0);
    }

pub returns : goal.returns
returns c =
    let same = c.enter-entered.ensures.same in
    record {
      down = ∥∥₁_elim c.requires.ready (hlevel props) (λ r. let o = at_part c.args.src r.0 c.args.frames.now c.args.here r.1 c.args.state c.args.part c.requires.begun r.2 in omega (arith, (c.part.ensures r.0 o.mark o.first o.second o.here.subtree).1, same));
      within = ∥∥₁_elim c.requires.ready (hlevel props) (λ r. let o = at_part c.args.src r.0 c.args.frames.now c.args.here r.1 c.args.state c.args.part c.requires.begun r.2 in omega (arith, child_within _ _ _ (c.part.ensures r.0 o.mark o.first o.second o.here.subtree).0, same));
      long = c.push.ensures.long;
      pending = λ k rest p.
          let o = at_part c.args.src k c.args.frames.now c.args.here rest c.args.state c.args.part c.requires.begun p in
          let child = c.part.ensures k o.mark o.first o.second o.here.subtree in
          first_part c.args.src k c.args.frames.now c.args.here rest c.args.state c.args.part c.requires.begun p c.enter-entered.result c.push.new.self c.if-here-eq1.false (omega (arith, child.1, same))
          (c.enter-entered.ensures.frame k _ (part_marked _ o.mark o.first o.second c.args.part o.here.marked) child.0) c.push.ensures;
    }
