-- That closing ends, and where: each right part that is closed leaves as many parts to
-- come, fewer open nodes, and no more of the text.
use Rattle.std.proofs.Common.{◌≡◌, ◌≤◌, length, vec_items}
use Rattle.tokens.specs.Progress.{ahead}
use Rattle.terms.specs.Beginnings.{to_come}
use Rattle.terms.proofs.reader.close.Given as goal

abbrev pub invariant-loop-part : goal.invariant-loop-part
invariant-loop-part l = record {
  falls : ahead l.cursor ≤ ahead l.initial.cursor;
  same : to_come (vec_items l.path.parts) ≡ to_come (vec_items l.initial.path.parts);
}

abbrev pub decreases-loop-part : goal.decreases-loop-part
decreases-loop-part l = length (vec_items l.path.parts)
