-- The leaf that is taken up is described by its signature, the size that was set and its link.
-- So what the take-up says of every tree so described it says of the leaf.
use Rattle.std.proofs.Common.{sym, refl}
use Rattle.model.specs.Trees.{leaf}
use Rattle.reach.proofs.offers.Search.offer_leaf.Goals as goal

pub returns-clause-says : goal.returns-clause-says
returns-clause-says g c = λ S s. c.take_up.ensures.says _ S s (leaf c.args.mark)
    (record { marked = c.requires.mark; signed = sym c.leaf.ensures; sized = c.set.ensures; linked = (refl, refl, refl) })
