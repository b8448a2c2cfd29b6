-- No step stands at a place: a pattern's row that begins there begins with words that are tested for.
-- What the tests find amiss is told of the slice from the place on, so the row's beginning is told of it too.
use Rattle.std.proofs.Common.{arith}
use Rattle.rows.proofs.Openings.{opening, opening_rest}
use Rattle.rows.proofs.steps.step_at.Goals as goal

pub returns-in_err-get : goal.returns-in_err-get
returns-in_err-get c = rw c.from_residual.ensures (λ p rest u e. let o = opening c.args.words.now c.args.at p rest e in omega (arith, c.in_err-get.ensures.lookup))

pub returns-in_default : goal.returns-in_default
returns-in_default c p rest u e = let o = opening_rest c.args.words.now c.in_ok-get.field-0.now c.args.at p rest c.in_ok-get.ensures.lookup.0.2 e in omega arith

pub returns-in_default-2 : goal.returns-in_default-2
returns-in_default-2 c p rest u e = let o = opening_rest c.args.words.now c.in_ok-get.field-0.now c.args.at p rest c.in_ok-get.ensures.lookup.0.2 e in omega arith

pub returns-in_default-3 : goal.returns-in_default-3
returns-in_default-3 c p rest u e = let o = opening_rest c.args.words.now c.in_ok-get.field-0.now c.args.at p rest c.in_ok-get.ensures.lookup.0.2 e in omega arith

pub returns-in_default-4 : goal.returns-in_default-4
returns-in_default-4 c p rest u e = let o = opening_rest c.args.words.now c.in_ok-get.field-0.now c.args.at p rest c.in_ok-get.ensures.lookup.0.2 e in omega arith
