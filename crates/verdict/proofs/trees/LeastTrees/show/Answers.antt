-- The row of a tree has two words for each leaf and node, so that it is too long exactly if its size says so; a size past 64
-- bits is larger than any room. What is written and what is on the stack are the row, and each step writes words.
use Rattle.std.proofs.Common.{◌≤◌, ℕ, List, length, rules, drop, sym, refl, ap, ◌∙◌, subst, append-nil, arith}
use Rattle.std.proofs.Props.{props}
use Rattle.std.proofs.Math.Logic.{∥∥₁_elim}
use Rattle.std.proofs.lemmas.List.{drop_all, length-set}
use Rattle.model.specs.Trees.{Tree}
use Rattle.model.specs.Rows.{tree_row}
use Rattle.automata.specs.Classes.{at}
use Rattle.table.specs.Rows.{linkage}
use Rattle.verdict.specs.Ranked.{Holds, Low, Placed, rows_of}
use Rattle.verdict.proofs.Writing.{row_long, room_for, one_rank, begun, finished, further, more_used}
use Rattle.verdict.proofs.trees.LeastTrees.show.Goals as goal

pub returns-then-size-out : goal.returns-then-size-out
returns-then-size-out c S held =
    let long = row_long S c.args.self.table.now held c.args.rank c.requires.rank c.ranked.result c.ranked.ensures (linkage c.tree.result) c.tree.ensures.is in
    (omega (arith, long, c.saturated-size.ensures), refl)

pub loop-ranks-init : goal.loop-ranks-init
loop-ranks-init c =
    let s = c.args.stack.now in
    let r = c.args.rank in
    let one = one_rank s r (omega arith) in
    let room : (S : List Tree) → Holds S c.args.self.table.now → length (tree_row (at S r)) ≤ length c.args.out.now = λ S held.
    room_for S c.args.self.table.now held c.args.rank c.requires.rank c.ranked.result c.ranked.ensures (linkage c.tree.result) c.tree.ensures.is c.args.out.now (omega (arith, c.saturated-size.ensures, c.if-size-out.false)) in (
      simp length-set (omega arith),
      subst (Low c.args.self.table.now.settled) (sym one) (omega arith, tt),
      refl,
      room,
      λ S held. begun S (tree_row (at S r)) c.args.out.now (room S held) _ (sym (append-nil (tree_row (at S r))) ∙ ap (rows_of S) (sym one)),
    )

pub loop-ranks-smaller : goal.loop-ranks-smaller
loop-ranks-smaller c = ∥∥₁_elim c.args.self.held (hlevel props) (λ h.
    let S = h.0 in
    let held = h.1 in
    let more = more_used S (tree_row (at S c.args.rank)) c.args.out.now (c.loop-ranks.invariant.3 S held) c.loop-ranks.writer.used c.loop-ranks.writer.out.now (drop c.loop-ranks.ranks.top c.loop-ranks.ranks.words.now) (c.loop-ranks.invariant.4 S held)
    c.put.new.self.used c.put.new.self.out.now (drop c.expand-item.new.ranks.top c.expand-item.new.ranks.words.now) c.expand-item.result (c.expand-item.ensures.takes S held) (λ ws w. (c.put.ensures (record c.loop-ranks.writer.out { now = c.args.out.now }) ws (refl, w)).1) in
    omega (arith, more))

pub loop-ranks-preserved : goal.loop-ranks-preserved
loop-ranks-preserved c = (
  omega (arith, c.expand-item.ensures.long, c.loop-ranks.invariant.0),
  c.expand-item.ensures.low,
  ∥∥₁_elim c.args.self.held (hlevel props) (λ h. let u = c.loop-ranks.invariant.4 h.0 h.1 in (c.put.ensures (record c.loop-ranks.writer.out { now = c.args.out.now }) u.done (refl, u.holds)).0 ∙ c.loop-ranks.invariant.2),
  c.loop-ranks.invariant.3,
  λ S held. further S (tree_row (at S c.args.rank)) c.args.out.now (c.loop-ranks.invariant.3 S held) c.loop-ranks.writer.used c.loop-ranks.writer.out.now (drop c.loop-ranks.ranks.top c.loop-ranks.ranks.words.now) (c.loop-ranks.invariant.4 S held)
      c.put.new.self.used c.put.new.self.out.now (drop c.expand-item.new.ranks.top c.expand-item.new.ranks.words.now) c.expand-item.result (c.expand-item.ensures.takes S held) (λ ws w. (c.put.ensures (record c.loop-ranks.writer.out { now = c.args.out.now }) ws (refl, w)).1),
)

pub returns : goal.returns
returns c S held =
    let placed = finished S (tree_row (at S c.args.rank)) c.args.out.now (c.loop-ranks.invariant.3 S held) c.loop-ranks.writer.used c.loop-ranks.writer.out.now (drop c.loop-ranks.ranks.top c.loop-ranks.ranks.words.now) (c.loop-ranks.invariant.4 S held)
    (drop_all c.loop-ranks.ranks.top c.loop-ranks.ranks.words.now (omega arith)) in
    subst (λ (o : List ℕ). Placed (tree_row (at S c.args.rank)) c.args.out.now o c.loop-ranks.writer.used) (search rules) placed
