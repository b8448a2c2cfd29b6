-- That the words of a leaf or a node go on from those that begin a row: by the lemmas,
-- over what the mark, the words and the open nodes are.
use Rattle.std.proofs.lemmas.Result.{on_ok_weaker}
use Rattle.terms.proofs.Steps.{leaf_read_on, node_read_on}
use Rattle.terms.proofs.reader.Reader.next.Goals as goal

pub returns-then-ne-clause-row : goal.returns-then-ne-clause-row
returns-then-ne-clause-row c =
    on_ok_weaker c.close.result
    (λ h.
    leaf_read_on _ c.in_ok-mark.mark c.args.self.now.words.items.items c.put.new.self.words.items.items
    c.args.self.now.path.parts.items c.put.new.self.path.parts.items c.close.new.path.parts.items
    c.in_ok-put.ensures.after c.in_ok-put.ensures.path c.in_ok-mark.ensures.0 h c.requires.begins)
    c.close.ensures.closes

pub returns-clause-row : goal.returns-clause-row
returns-clause-row c =
    node_read_on _ c.in_ok-mark.mark c.args.self.now.words.items.items c.put-2.new.self.words.items.items
    c.args.self.now.path.parts.items c.put-2.new.self.path.parts.items c.enter.new.self.parts.items
    c.in_ok-put-2.ensures.after c.in_ok-put-2.ensures.path c.in_ok-mark.ensures.0 c.in_ok-enter.ensures.some
    c.in_ok-enter.ensures.one_more c.requires.begins
