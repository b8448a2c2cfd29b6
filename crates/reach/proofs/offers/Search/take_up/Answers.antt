-- A tree that comes up: its row is known, or known not to be; each outcome by a lemma of TakingUp.
-- What was located is read at the row's case first.
use Rattle.std.proofs.Common.{subst}
use Rattle.table.specs.Chains.{Located}
use Rattle.reach.proofs.TakingUp.{too_many, new_row, better, nothing_new, unchanged}
use Rattle.reach.proofs.offers.Search.take_up.Goals as goal

pub returns-then-table-clause-says : goal.returns-then-table-clause-says
returns-then-table-clause-says g c = λ A S s x d.
    too_many A S _ s _ _ x d (subst (Located _ _) c.in_default.is c.requires.located) c.if-table.true

pub returns-in_default-clause-says : goal.returns-in_default-clause-says
returns-in_default-clause-says g c = λ A S s x d.
    new_row A S _ s _ _ x d (subst (Located _ _) c.in_default.is c.requires.located) _ c.insert.ensures.put c.insert.ensures.count c.insert.ensures.chains

pub returns-then-is_better-clause-says : goal.returns-then-is_better-clause-says
returns-then-is_better-clause-says g c = λ A S s x d.
    let u = c.is_better.ensures.yes c.if-is_better.true in
    better A S _ s _ _ x d c.in-Some.k (subst (Located _ _) c.in-Some.is c.requires.located) _ u.0 u.1 c.replace.ensures.put c.replace.ensures.count
    (c.replace.ensures.chains c.requires.chains)

pub returns-else-is_better-clause-says : goal.returns-else-is_better-clause-says
returns-else-is_better-clause-says g c = λ A S s x d.
    unchanged A S _ s _ (nothing_new A S _ s _ _ x d c.in-Some.k (subst (Located _ _) c.in-Some.is c.requires.located) (c.is_better.ensures.not c.if-is_better.false))
