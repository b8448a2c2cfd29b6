-- Two steps one after the other, by the lemmas of Steps; the second is of the same automaton.
-- Where the first step fails, so do both.
use Rattle.std.proofs.Common.{Bor, ap}
use Rattle.model.specs.Trees.{node}
use Rattle.automata.specs.Classes.{at}
use Rattle.automata.specs.Frontier.{Covered}
use Rattle.reach.proofs.Steps.{searching_same, offered_same, offered_then, goes_on, fails}
use Rattle.reach.proofs.offers.Search.offer_both.Goals as goal

pub returns-in_err-offer_node-clause-says : goal.returns-in_err-offer_node-clause-says
returns-in_err-offer_node-clause-says g c = fails _ _ _ _ _ c.from_residual.result c.from_residual.ensures.1 c.in_err-offer_node.ensures.says

pub offer_node-requires-2-clause-searching : goal.offer_node-requires-2-clause-searching
offer_node-requires-2-clause-searching g c =
    searching_same _ _ (ap (λ (a : Bor _). g.A.Automaton.meaning a.now) c.offer_node.ensures.kept.automaton) _
    (goes_on _ _ _ _ c.in_ok-offer_node.ensures.says c.requires.searching)

pub returns-clause-says : goal.returns-clause-says
returns-clause-says g c =
    let same = ap (λ (a : Bor _). g.A.Automaton.meaning a.now) c.offer_node.ensures.kept.automaton in
    offered_then _ _ _ _ _ _ _ c.offer_node-2.result c.in_ok-offer_node.ensures.says c.offer_node.ensures.kept.shape
    (offered_same _ _ same _ _ (λ A S us. Covered A us (node c.args.mark (at S c.args.i) (at S c.args.k))) _ c.offer_node-2.ensures.says)
    (λ S ts us p k q. (k _ p, q))
