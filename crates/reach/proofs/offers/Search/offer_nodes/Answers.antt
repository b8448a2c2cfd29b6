-- Each turn adds the nodes with the mark of one more letter to what is covered, by the lemmas of Steps; the letters stand for all marks.
-- The automaton is that of the beginning all along, so what a step says of its own is said of that one.
use Rattle.std.proofs.Common.{Bor, ℕ, ◌+◌, ◌<◌, ap, ◌∙◌, arith}
use Rattle.reach.specs.Searching.{BothWays}
use Rattle.reach.proofs.Steps.{no_step, and_then, weaken, goes_on, overflows, kept_none, kept_then, letters_more, pairs_covered, fails, searching_same, progress_same, overflow_same}
use Rattle.reach.proofs.offers.Search.offer_nodes.Goals as goal

pub loop-letter-init : goal.loop-letter-init
loop-letter-init g c = record { kept = kept_none _; goes = no_step _ _ _ (λ S us i j h. absurd (omega arith)) }

pub offer_pairs-requires-clause-searching : goal.offer_pairs-requires-clause-searching
offer_pairs-requires-clause-searching g c =
    searching_same _ _ (ap (λ (a : Bor _). g.A.Automaton.meaning a.now) c.loop-letter.invariant.kept.automaton) _
    (goes_on _ _ _ _ c.loop-letter.invariant.goes c.requires.searching)

pub returns-in_err-offer_pairs-clause-says : goal.returns-in_err-offer_pairs-clause-says
returns-in_err-offer_pairs-clause-says g c =
    fails _ _ _ _ _ c.from_residual.result c.from_residual.ensures.1 (overflows _ _ _ _ c.loop-letter.invariant.goes c.loop-letter.invariant.kept.shape
    (overflow_same _ _ (ap (λ (a : Bor _). g.A.Automaton.meaning a.now) c.loop-letter.invariant.kept.automaton) _ c.in_err-offer_pairs.ensures.says))

pub loop-letter-preserved : goal.loop-letter-preserved
loop-letter-preserved g c =
    let same = ap (λ (a : Bor _). g.A.Automaton.meaning a.now) c.loop-letter.invariant.kept.automaton in
    let mark = ap (λ (a : Bor _). g.A.Automaton.markof a.now c.loop-letter.letter) c.loop-letter.invariant.kept.automaton in
    record {
      kept = kept_then _ _ _ c.loop-letter.invariant.kept c.offer_pairs.ensures.kept;
      goes = and_then _ _ _ _ _ _ _ c.loop-letter.invariant.goes
          (progress_same _ _ same _ _ (λ A S us. (i : ℕ) → i < c.args.k + 1 → BothWays A S us c.mark-mark.result c.args.k i) c.in_ok-offer_pairs.ensures.says)
          (λ S ts us p k q. letters_more _ S ts us (g.A.Automaton.markof c.args.self.now.automaton.now) _ _ _ (c.mark-mark.ensures ∙ mark) p k q);
    }

pub returns-clause-says : goal.returns-clause-says
returns-clause-says g c =
    weaken _ _ _ _ _ c.loop-letter.invariant.goes
    (λ S us p. pairs_covered _ S us _ (g.A.Automaton.markof c.args.self.now.automaton.now) _ _ c.requires.alphabet (omega (arith, c.letters-letter-end.ensures)) p)
