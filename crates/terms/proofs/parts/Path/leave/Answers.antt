-- That a part that ends leaves the nodes above it open, with a right part for a left
-- one: what is popped was the last, and the lemmas count the left parts.
use Rattle.std.proofs.Common.{◌++◌, ◌∷◌, [], ap, ◌∙◌}
use Rattle.terms.specs.declared.parts.Part.{Part}
use Rattle.terms.proofs.Steps.{left_ends, right_ends}
use Rattle.terms.proofs.parts.Path.leave.Goals as goal

pub returns-in_ok-push-in-Left : goal.returns-in_ok-push-in-Left
returns-in_ok-push-in-Left c =
    rw c.in-Left.is
    (left_ends _ _ c.pop.new.self.items
    (c.in-Some.ensures.items ∙ ap (λ (p : Part). c.pop.new.self.items ++ p ∷ []) c.in-Left.is)
    c.in_ok-push-in-Left.ensures.items)

pub returns-in-Right : goal.returns-in-Right
returns-in-Right c =
    rw c.in-Right.is
    (right_ends _ c.pop.new.self.items
    (c.in-Some.ensures.items ∙ ap (λ (p : Part). c.pop.new.self.items ++ p ∷ []) c.in-Right.is))
