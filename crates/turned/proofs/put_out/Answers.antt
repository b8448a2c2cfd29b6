-- Counted first: where the count is more than there is room for, or stopped early, the result is too long; else it is written whole.
use Rattle.std.proofs.Common.{ℕ, ◌≡◌, ◌*◌, ◌≤◌, List, ◌++◌, length, drop, Some, None, sym, refl, ap, ◌∙◌, subst, rules, arith}
use Rattle.transduce.specs.Framed.{result_row}
use Rattle.turned.proofs.Counted.{cut_short, all_counted, written}
use Rattle.turned.proofs.Saying.{said}
use Rattle.turned.proofs.put_out.Goals as goal

pub returns-in_err-ok : goal.returns-in_err-ok
returns-in_err-ok c k is =
    said c.args.src k is _ _ c.from_residual.result (rw c.from_residual.ensures (omega (arith, cut_short c.args.src k _ _ c.walk.result (search rules) (c.walk.ensures k)), refl))

pub returns-then-words-most : goal.returns-then-words-most
returns-then-words-most c k is =
    said c.args.src k is _ _ None (omega (arith, all_counted c.args.src k _ _ c.args.out c.walk.result (search rules) (c.walk.ensures k), c.if-words-most.true), refl)

pub returns : goal.returns
returns c k is =
    let row = result_row c.args.src k in
    let o = c.args.out.now in
    let counted = all_counted c.args.src k _ _ c.args.out c.walk.result (search rules) (c.walk.ensures k) in
    let all : c.walk.new.sink.words ≡ length row = omega (arith, counted, c.if-words-most.false) in
    let fits : length row ≤ length o = omega (arith, all, c.if-words-most.false) in
    let all_written = written c.args.src k _ _ (record c.walk-whole.new.sink.out { ghost_name = _; now = o }) c.walk-whole.new.sink.out c.walk-whole.result (c.walk-whole.ensures k) (omega (arith, fits)) fits in
    let names = all_written.0 in
    said c.args.src k is _ _ (Some c.walk.new.sink.words) (all, c.if-words-most.false, subst (λ (xs : List ℕ). xs ≡ row ++ drop c.walk.new.sink.words o) (search rules) (all_written.1 ∙ ap (λ (i : ℕ). row ++ drop i o) (sym all)))
