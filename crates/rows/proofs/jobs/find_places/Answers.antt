use Rattle.std.proofs.Common.{sym}
use Rattle.rows.proofs.JobReads.{none_turn, none_to, none_end}
use Rattle.rows.proofs.jobs.find_places.Goals as goal

pub returns-in_err-turn : goal.returns-in_err-turn
returns-in_err-turn c = rw c.from_residual-in_err-turn.ensures (none_turn c.args.words.now _ (sym (c.in_ok-marks.ensures.item.3.1 0)) c.in_ok-from.from c.in_ok-from.ensures c.in_err-turn.ensures)

pub returns-in_err-to : goal.returns-in_err-to
returns-in_err-to c =
    rw c.from_residual-in_err-to.ensures
    (none_to c.args.words.now _ (sym (c.in_ok-marks.ensures.item.3.1 0)) c.in_ok-from.from c.in_ok-from.ensures _ c.in_ok-turn.turn c.in_ok-turn.ensures c.in_err-to.ensures)

pub returns-then-to-words : goal.returns-then-to-words
returns-then-to-words c =
    none_end c.args.words.now _ (sym (c.in_ok-marks.ensures.item.3.1 0)) c.in_ok-from.from c.in_ok-from.ensures _ c.in_ok-turn.turn c.in_ok-turn.ensures c.in_ok-to.to c.in_ok-to.ensures c.if-to-words.true
