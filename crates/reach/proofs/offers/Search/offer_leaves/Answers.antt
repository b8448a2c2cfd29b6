-- Each turn adds the leaf of one more letter to what is covered, by the lemmas of Steps; the letters stand for all marks.
-- The automaton is that of the beginning all along, so what a step says of its own is said of that one.
use Rattle.std.proofs.Common.{Bor, ap, ◌∙◌, arith}
use Rattle.model.specs.Trees.{leaf}
use Rattle.automata.specs.Frontier.{Covered}
use Rattle.automata.proofs.Growing.{leaves_by_letters}
use Rattle.reach.proofs.Steps.{no_step, and_then, weaken, goes_on, overflows, kept_none, kept_then, leaves_more, fails, searching_same, progress_same, overflow_same}
use Rattle.reach.proofs.offers.Search.offer_leaves.Goals as goal

pub loop-letter-init : goal.loop-letter-init
loop-letter-init g c = record { kept = kept_none _; goes = no_step _ _ _ (λ S us i h. absurd (omega arith)) }

pub offer_leaf-requires-clause-searching : goal.offer_leaf-requires-clause-searching
offer_leaf-requires-clause-searching g c =
    searching_same _ _ (ap (λ (a : Bor _). g.A.Automaton.meaning a.now) c.loop-letter.invariant.kept.automaton) _
    (goes_on _ _ _ _ c.loop-letter.invariant.goes c.requires.searching)

pub returns-in_err-offer_leaf-clause-says : goal.returns-in_err-offer_leaf-clause-says
returns-in_err-offer_leaf-clause-says g c =
    fails _ _ _ _ _ c.from_residual.result c.from_residual.ensures.1 (overflows _ _ _ _ c.loop-letter.invariant.goes c.loop-letter.invariant.kept.shape
    (overflow_same _ _ (ap (λ (a : Bor _). g.A.Automaton.meaning a.now) c.loop-letter.invariant.kept.automaton) _ c.in_err-offer_leaf.ensures.says))

pub loop-letter-preserved : goal.loop-letter-preserved
loop-letter-preserved g c =
    let same = ap (λ (a : Bor _). g.A.Automaton.meaning a.now) c.loop-letter.invariant.kept.automaton in
    let mark = ap (λ (a : Bor _). g.A.Automaton.markof a.now c.loop-letter.letter) c.loop-letter.invariant.kept.automaton in
    record {
      kept = kept_then _ _ _ c.loop-letter.invariant.kept c.offer_leaf.ensures.kept;
      goes = and_then _ _ _ _ _ _ _ c.loop-letter.invariant.goes
          (progress_same _ _ same _ _ (λ A S us. Covered A us (leaf c.mark-mark.result)) c.in_ok-offer_leaf.ensures.says)
          (λ S ts us p k q. leaves_more _ ts us (g.A.Automaton.markof c.args.self.now.automaton.now) _ _ (c.mark-mark.ensures ∙ mark) p k q);
    }

pub returns-clause-says : goal.returns-clause-says
returns-clause-says g c =
    weaken _ _ _ _ _ c.loop-letter.invariant.goes
    (λ S us p. leaves_by_letters _ _ (g.A.Automaton.markof c.args.self.now.automaton.now) c.requires.alphabet us (λ i h. p i (omega (arith, c.letters-letter-end.ensures))))
