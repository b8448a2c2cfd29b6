use Rattle.std.proofs.Common.{sym, arith}
use Rattle.rows.proofs.TurnReads.{none_room, none_leaves, none_nodes, some_turn}
use Rattle.rows.proofs.jobs.read_turn.Goals as goal

pub returns-then-words-count : goal.returns-then-words-count
returns-then-words-count c = none_room c.args.words.now c.args.at c.args.marks _ (sym (c.in_ok-states.ensures.lookup.3.1 0)) c.if-words-count.true

pub returns-in_err-mid : goal.returns-in_err-mid
returns-in_err-mid c = rw c.from_residual-in_err-mid.ensures (none_leaves c.args.words.now c.args.at c.args.marks _ (sym (c.in_ok-states.ensures.lookup.3.1 0)) c.in_err-mid.ensures)

pub returns-in_err-end : goal.returns-in_err-end
returns-in_err-end c =
    rw c.from_residual-in_err-end.ensures
    (none_nodes c.args.words.now c.args.at c.args.marks _ (sym (c.in_ok-states.ensures.lookup.3.1 0)) c.args.index.now _ c.in_ok-mid.mid c.in_ok-mid.ensures c.in_err-end.ensures)

pub returns : goal.returns
returns c =
    some_turn c.args.words.now c.args.at c.args.marks _ (sym (c.in_ok-states.ensures.lookup.3.1 0)) c.args.index.now _ c.in_ok-mid.mid c.in_ok-mid.ensures _ c.in_ok-end.end
    c.in_ok-states.ensures.lookup.3.0 (omega (arith, c.if-states-eq0.false)) c.if-states-gt-MOST_STATES.false (omega arith) c.in_ok-end.ensures
