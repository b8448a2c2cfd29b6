-- Each turn adds both nodes over ranks k and i to what is covered, by the lemmas of Steps, and the last step the node over k twice.
-- The automaton is that of the beginning all along, so what a step says of its own is said of that one.
use Rattle.std.proofs.Common.{Bor, ap, arith}
use Rattle.model.specs.Trees.{node}
use Rattle.automata.specs.Classes.{at}
use Rattle.automata.specs.Frontier.{Covered}
use Rattle.reach.specs.Searching.{BothWays}
use Rattle.reach.proofs.Steps.{no_step, and_then, offered_then, goes_on, overflows, kept_none, kept_then, pairs_more, fails, searching_same, offered_same, progress_same, overflow_same}
use Rattle.reach.proofs.offers.Search.offer_pairs.Goals as goal

pub loop-i-init : goal.loop-i-init
loop-i-init g c = record { kept = kept_none _; goes = no_step _ _ _ (λ S us j h. absurd (omega arith)) }

pub offer_both-requires-clause-searching : goal.offer_both-requires-clause-searching
offer_both-requires-clause-searching g c =
    searching_same _ _ (ap (λ (a : Bor _). g.A.Automaton.meaning a.now) c.loop-i.invariant.kept.automaton) _ (goes_on _ _ _ _ c.loop-i.invariant.goes c.requires.searching)

pub returns-in_err-offer_both-clause-says : goal.returns-in_err-offer_both-clause-says
returns-in_err-offer_both-clause-says g c =
    fails _ _ _ _ _ c.from_residual.result c.from_residual.ensures.1 (overflows _ _ _ _ c.loop-i.invariant.goes c.loop-i.invariant.kept.shape
    (overflow_same _ _ (ap (λ (a : Bor _). g.A.Automaton.meaning a.now) c.loop-i.invariant.kept.automaton) _ c.in_err-offer_both.ensures.says))

pub loop-i-preserved : goal.loop-i-preserved
loop-i-preserved g c =
    let same = ap (λ (a : Bor _). g.A.Automaton.meaning a.now) c.loop-i.invariant.kept.automaton in
    record {
      kept = kept_then _ _ _ c.loop-i.invariant.kept c.offer_both.ensures.kept;
      goes = and_then _ _ _ _ _ _ _ c.loop-i.invariant.goes
          (progress_same _ _ same _ _ (λ A S us. BothWays A S us c.args.mark c.args.k c.loop-i.i) c.in_ok-offer_both.ensures.says)
          (λ S ts us p k q. pairs_more _ S ts us _ _ _ p k q);
    }

pub offer_node-requires-clause-searching : goal.offer_node-requires-clause-searching
offer_node-requires-clause-searching g c =
    searching_same _ _ (ap (λ (a : Bor _). g.A.Automaton.meaning a.now) c.loop-i.invariant.kept.automaton) _ (goes_on _ _ _ _ c.loop-i.invariant.goes c.requires.searching)

pub returns-clause-says : goal.returns-clause-says
returns-clause-says g c =
    let same = ap (λ (a : Bor _). g.A.Automaton.meaning a.now) c.loop-i.invariant.kept.automaton in
    offered_then _ _ _ _ _ _ _ c.offer_node.result c.loop-i.invariant.goes c.loop-i.invariant.kept.shape
    (offered_same _ _ same _ _ (λ A S us. Covered A us (node c.args.mark (at S c.args.k) (at S c.args.k))) _ c.offer_node.ensures.says)
    (λ S ts us p k q. pairs_more _ S ts us _ _ _ (λ j h. p j (omega arith)) k (q, q))
