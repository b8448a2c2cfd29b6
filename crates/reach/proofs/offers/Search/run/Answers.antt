-- The search goes from turn to turn, by the lemmas of Settling: the first follows the leaves, and each next one the nodes of one more rank.
-- Where a step fails there are more classes than rows; where no row is open, all classes are found.
use Rattle.std.proofs.Common.{Bor, [], ap, ◌∙◌, arith}
use Rattle.table.specs.declared.Shape.{Shape}
use Rattle.reach.specs.Searching.{PairsCovered}
use Rattle.reach.proofs.Steps.{overflown, finds_more, searching_same, progress_same, overflow_same}
use Rattle.reach.proofs.Settling.{no_rows, first_turn, rank_free, settled_searching, next_turn, finished}
use Rattle.reach.proofs.offers.Search.run.Goals as goal

pub offer_leaves-requires-clause-searching : goal.offer_leaves-requires-clause-searching
offer_leaves-requires-clause-searching g c = record { settled_list = []; state = no_rows _ _ c.reset.ensures.empty c.reset.ensures.chains }

pub returns-in_err-offer_leaves-clause-finds : goal.returns-in_err-offer_leaves-clause-finds
returns-in_err-offer_leaves-clause-finds g c =
    finds_more _ _ _ c.from_residual.result c.from_residual.ensures.1 (overflown _ _ _ c.in_err-offer_leaves.ensures.says c.offer_leaves.ensures.kept.shape
    (record { settled_list = []; state = no_rows _ _ c.reset.ensures.empty c.reset.ensures.chains }))

pub loop-k-init : goal.loop-k-init
loop-k-init g c = record {
  automaton = c.offer_leaves.ensures.kept.automaton;
  same_table = c.offer_leaves.ensures.kept.same_table;
  shape = c.offer_leaves.ensures.kept.shape ∙ c.reset.ensures.shape;
  turn = first_turn _ _ _ (no_rows _ _ c.reset.ensures.empty c.reset.ensures.chains) c.in_ok-offer_leaves.ensures.says;
}

pub settle-requires-clause-rank : goal.settle-requires-clause-rank
settle-requires-clause-rank g c = rank_free _ _ c.loop-k.invariant.turn c.in-Some.k c.in-Some.ensures

pub offer_nodes-requires-clause-searching : goal.offer_nodes-requires-clause-searching
offer_nodes-requires-clause-searching g c =
    let u = c.loop-k.invariant.turn in
    searching_same _ _ (ap (λ (a : Bor _). g.A.Automaton.meaning a.now) c.loop-k.invariant.automaton) _
    (settled_searching _ _ u c.settle.new.self c.in-Some.k c.in-Some.ensures c.settle.ensures.settles (c.settle.ensures.chains u.state.chains))

pub returns-in_err-offer_nodes-clause-finds : goal.returns-in_err-offer_nodes-clause-finds
returns-in_err-offer_nodes-clause-finds g c =
    let u = c.loop-k.invariant.turn in
    let same = ap (λ (a : Bor _). g.A.Automaton.meaning a.now) c.loop-k.invariant.automaton in
    finds_more _ _ _ c.from_residual-in_err-offer_nodes.result c.from_residual-in_err-offer_nodes.ensures.1
    (overflown _ _ _ (overflow_same _ _ same _ c.in_err-offer_nodes.ensures.says) c.offer_nodes.ensures.kept.shape
    (settled_searching _ _ u c.settle.new.self c.in-Some.k c.in-Some.ensures c.settle.ensures.settles (c.settle.ensures.chains u.state.chains)))

pub loop-k-smaller : goal.loop-k-smaller
loop-k-smaller g c =
    let same = ap (λ (sh : Shape). sh.most) (c.offer_nodes.ensures.kept.shape ∙ c.settle.ensures.settles.same_shape) in
    omega (arith, same, c.offer_nodes.ensures.kept.settled, c.settle.ensures.settles.settled_is, rank_free _ _ c.loop-k.invariant.turn c.in-Some.k c.in-Some.ensures)

pub loop-k-preserved : goal.loop-k-preserved
loop-k-preserved g c =
    let u = c.loop-k.invariant.turn in
    let same = ap (λ (a : Bor _). g.A.Automaton.meaning a.now) c.loop-k.invariant.automaton in
    record {
      automaton = c.offer_nodes.ensures.kept.automaton ∙ c.loop-k.invariant.automaton;
      same_table = c.offer_nodes.ensures.kept.same_table ∙ c.loop-k.invariant.same_table;
      shape = c.offer_nodes.ensures.kept.shape ∙ (c.settle.ensures.settles.same_shape ∙ c.loop-k.invariant.shape);
      turn = next_turn _ _ u c.settle.new.self c.in-Some.k c.in-Some.ensures c.settle.ensures.settles (c.settle.ensures.chains u.state.chains) c.offer_nodes.new.self.table.now
          (progress_same _ _ same _ _ (λ A S us. PairsCovered A S us c.loop-k.self.table.now.settled) c.in_ok-offer_nodes.ensures.says);
    }

pub returns-clause-finds : goal.returns-clause-finds
returns-clause-finds g c = finished _ _ c.loop-k.invariant.turn c.in_default.ensures
