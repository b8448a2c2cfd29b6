-- That the words written so far stay the first: the first item begins the row, with none
-- before it, and an item that follows goes on with it.
use Rattle.std.proofs.Common.{◌≡◌, ◌++◌, ℕ, ◌+◌, List, [], refl, sym, subst, ◌∙◌, rules}
use Rattle.terms.specs.Beginnings.{Begins, item_words, to_come}
use Rattle.terms.proofs.Steps.{none_read, item_behind, still_begins}
use Rattle.terms.proofs.writer.Writer.write.Goals as goal

pub loop-heap-init : goal.loop-heap-init
loop-heap-init c =
    let e : c.args.words.now ≡ item_words c.in_ok-first.first ++ c.in_ok-first.rest.now = search rules in
    record {
      most = search rules;
      row = (item_words c.in_ok-first.first, e, c.in_ok-item.ensures.row [] (none_read _ [] _ (c.next_item.ensures.path ∙ c.requires) refl));
    }

pub loop-heap-preserved : goal.loop-heap-preserved
loop-heap-preserved c =
    let e : c.loop-heap.rest.now ≡ item_words c.in_ok-item-2.item ++ c.in_ok-item-2.behind.now = search rules in
    let s : List ℕ = c.loop-heap.invariant.row.0 in
    let b : Begins c.args.marks.now.count (to_come c.loop-heap.self.path.parts.items + 1) s = search (rules, still_begins) in
    let same = sym c.next_item-in-loop-heap.ensures.path in
    record {
      most = search rules;
      row = (
        s ++ item_words c.in_ok-item-2.item,
        item_behind c.args.words.now s c.loop-heap.rest.now c.in_ok-item-2.behind.now _ c.loop-heap.invariant.row.1 e,
        c.in_ok-item-3.ensures.row s (subst (λ ps. Begins c.args.marks.now.count (to_come ps + 1) s) same b),
      );
    }
