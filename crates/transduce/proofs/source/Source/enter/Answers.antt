use Rattle.std.proofs.Common.{subst}
use Rattle.std.proofs.Props.{props}
use Rattle.std.proofs.Math.Logic.{∥∥₁_elim}
use Rattle.rows.specs.Subtrees.{ItemAt}
use Rattle.transduce.proofs.Entering.{item_within, some_item, mark_below, enter_item}
use Rattle.transduce.proofs.source.Source.enter.Goals as goal

pub item_at-requires : goal.item_at-requires
item_at-requires c = ∥∥₁_elim c.args.self.known (hlevel props) (λ k. item_within c.args.self k c.args.node c.requires.here)

pub unwrap-item-requires : goal.unwrap-item-requires
unwrap-item-requires c = ∥∥₁_elim c.args.self.known (hlevel props) (λ k. some_item c.args.self k c.args.node c.requires.here c.item_at.result c.item_at.ensures)

pub pattern-at-requires-clause-mark : goal.pattern-at-requires-clause-mark
pattern-at-requires-clause-mark c =
    let item = subst (ItemAt c.args.self.tree.now c.args.node) c.unwrap-item.ensures c.item_at.ensures in
    ∥∥₁_elim c.args.self.known (hlevel props) (λ k. mark_below c.args.self k c.args.node c.unwrap-item.result c.requires.here item)

pub returns-clause-frame : goal.returns-clause-frame
returns-clause-frame c k x h st =
    let item = subst (ItemAt c.args.self.tree.now c.args.node) c.unwrap-item.ensures c.item_at.ensures in
    enter_item c.args.self k c.args.node c.args.state c.pattern-at.result c.unwrap-item.result c.requires.state c.pattern-at.ensures item x h st
