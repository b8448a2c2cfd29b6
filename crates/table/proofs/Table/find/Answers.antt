-- The row at the cursor has another signature: `==` of two slices is std's test of the words in pairs, which `other_text` reads.
-- So the row, if there is one, is below the cursor in the chain.
use Rattle.std.proofs.Common.{refl, ◌∙◌, arith}
use Rattle.std.specs.Cmp.Lexicographic.{other_text}
use Rattle.table.proofs.Chaining.{look_turn}
use Rattle.table.proofs.Table.find.Goals as goal

pub loop-k-preserved : goal.loop-k-preserved
loop-k-preserved c =
    look_turn _ _ c.requires c.loop-k.next c.in-Some.k _ (omega (arith, c.in-Some.ensures))
    (λ e. other_text _ _ c.if-eq.ensures (c.signature.ensures.is ∙ e)) refl c.loop-k.invariant
