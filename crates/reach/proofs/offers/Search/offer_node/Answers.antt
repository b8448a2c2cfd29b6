-- What is read from the rows of ranks p and q is that of their trees, by the lemmas of Ranks. So the node over them is described by
-- its signature, its size and its link, and is covered if it is taken up, and also if its row is settled already.
use Rattle.std.proofs.Common.{◌≡◌, ℕ, ◌+◌, ◌<◌, List, length, sym, refl, ap, ◌∙◌, arith, rules}
use Rattle.numbers.specs.Value.{value, weight}
use Rattle.model.specs.Trees.{node, size}
use Rattle.automata.specs.Classes.{at}
use Rattle.automata.specs.Links.{Link}
use Rattle.reach.proofs.Ranks.{rank_within, row_within, read_sig, read_size, placed, rank_marked, row_reached, node_size, node_size_fits}
use Rattle.reach.proofs.TakingUp.{settled_found, unchanged}
use Rattle.reach.proofs.offers.Search.offer_node.Goals as goal

by_parts : (h : ℕ → List ℕ → List ℕ → List ℕ) (a : ℕ) (k l l' r r' : List ℕ) → k ≡ h a l r → l ≡ l' → r ≡ r' → k ≡ h a l' r'
by_parts h a k l l' r r' e f d = cc

pub ranked-left-requires : goal.ranked-left-requires
ranked-left-requires g c = rank_within _ _ _ c.requires.searching.state c.args.p c.requires.left

pub ranked-right-requires : goal.ranked-right-requires
ranked-right-requires g c = rank_within _ _ _ c.requires.searching.state c.args.q c.requires.right

pub signature-requires : goal.signature-requires
signature-requires g c = omega (arith, c.ranked-left.ensures, row_within _ _ _ c.requires.searching.state c.args.p c.requires.left)

pub signature-requires-2 : goal.signature-requires-2
signature-requires-2 g c = omega (arith, c.ranked-right.ensures, row_within _ _ _ c.requires.searching.state c.args.q c.requires.right)

pub node-requires-clause-left : goal.node-requires-clause-left
node-requires-clause-left g c = row_reached _ _ _ c.requires.searching.state c.args.p c.requires.left _ _ c.ranked-left.ensures c.signature.ensures.is

pub node-requires-clause-right : goal.node-requires-clause-right
node-requires-clause-right g c = row_reached _ _ _ c.requires.searching.state c.args.q c.requires.right _ _ c.ranked-right.ensures c.signature-2.ensures.is

pub returns-then-is_settled-clause-says : goal.returns-then-is_settled-clause-says
returns-then-is_settled-clause-says g c = λ S s.
    let p = c.args.p in
    let q = c.args.q in
    let l = read_sig _ _ _ s p c.requires.left _ _ c.ranked-left.ensures c.signature.ensures.is in
    let r = read_sig _ _ _ s q c.requires.right _ _ c.ranked-right.ensures c.signature-2.ensures.is in
    unchanged _ _ _ s _ (settled_found _ S _ s _ c.find-row.result c.find-row.ensures (search rules) (node c.args.mark (at S p) (at S q))
    (c.requires.mark, rank_marked _ _ _ s p c.requires.left, rank_marked _ _ _ s q c.requires.right)
    (by_parts (g.A.Automaton.meaning c.args.self.now.automaton.now).on_node _ _ _ _ _ _ c.node.ensures l r))

pub overflow_cast-p : goal.overflow_cast-p
overflow_cast-p g c = omega (arith, rank_within _ _ _ c.requires.searching.state c.args.p c.requires.left, c.args.self.now.table.now.row_bits)

pub overflow_add-p : goal.overflow_add-p
overflow_add-p g c = omega (arith, rank_within _ _ _ c.requires.searching.state c.args.p c.requires.left, c.args.self.now.table.now.row_bits)

pub overflow_cast-q : goal.overflow_cast-q
overflow_cast-q g c = omega (arith, rank_within _ _ _ c.requires.searching.state c.args.q c.requires.right, c.args.self.now.table.now.row_bits)

pub overflow_add-q : goal.overflow_add-q
overflow_add-q g c = omega (arith, rank_within _ _ _ c.requires.searching.state c.args.q c.requires.right, c.args.self.now.table.now.row_bits)

pub returns-clause-says : goal.returns-clause-says
returns-clause-says g c = λ S s.
    let p = c.args.p in
    let q = c.args.q in
    let l = read_sig _ _ _ s p c.requires.left _ _ c.ranked-left.ensures c.signature.ensures.is in
    let r = read_sig _ _ _ s q c.requires.right _ _ c.ranked-right.ensures c.signature-2.ensures.is in
    let copied = ap value c.copy_from_slice.ensures.after ∙ ap (λ (x : Link). x.size) c.tree.ensures.is in
    let words : length c.copy_from_slice.new.self ≡ c.args.self.now.table.now.shape.words = ap length c.copy_from_slice.ensures.after ∙ c.tree.ensures.size in
    let a = read_size _ _ _ s p c.requires.left _ _ c.ranked-left.ensures copied in
    let b = read_size _ _ _ s q c.requires.right _ _ c.ranked-right.ensures (ap (λ (x : Link). x.size) c.tree-2.ensures.is) in
    let fits : size (at S p) + size (at S q) + 1 < weight (length c.copy_from_slice.new.self) = rw words (node_size_fits _ _ _ s p q c.requires.left c.requires.right) in
    c.take_up.ensures.says _ S s (node c.args.mark (at S p) (at S q)) (record {
      marked = (c.requires.mark, rank_marked _ _ _ s p c.requires.left, rank_marked _ _ _ s q c.requires.right);
      signed = sym (by_parts (g.A.Automaton.meaning c.args.self.now.automaton.now).on_node _ _ _ _ _ _ c.node.ensures l r);
      sized = node_size _ c.add.result _ _ _ _ _ c.add.ensures a b fits;
      linked = (refl, placed _ _ _ s p c.requires.left, placed _ _ _ s q c.requires.right);
    })
