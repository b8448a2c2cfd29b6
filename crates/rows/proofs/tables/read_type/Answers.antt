use Rattle.std.proofs.Common.{ℕ, ◌+◌, sym, subst}
use Rattle.std.proofs.lemmas.Bool.{ltb-false}
use Rattle.rows.specs.Standing.{Absent}
use Rattle.rows.specs.Tables.{Table}
use Rattle.rows.proofs.TypeReads.{none_nodes, none_count, none_wanted}
use Rattle.rows.proofs.tables.read_type.Goals as goal

pub returns-in_err-count : goal.returns-in_err-count
returns-in_err-count c =
    rw c.from_residual-in_err-count.ensures
    (none_nodes c.args.words.now c.args.at c.args.marks _ (sym (c.in_ok-kinds.ensures.lookup.3.1 0)) c.in_ok-nodes.nodes c.in_ok-nodes.ensures c.in_err-count.ensures)

pub returns-in_err-get : goal.returns-in_err-get
returns-in_err-get c =
    rw c.from_residual-in_err-get.ensures
    (none_count c.args.words.now c.args.at c.args.marks _ (sym (c.in_ok-kinds.ensures.lookup.3.1 0)) c.in_ok-nodes.nodes c.in_ok-nodes.ensures c.in_ok-count.count c.in_ok-count.ensures
    (ltb-false _ _ (sym c.in_err-get.ensures.lookup.0)))

pub returns-in_err-end : goal.returns-in_err-end
returns-in_err-end c =
    rw c.from_residual-in_err-end.ensures
    (none_wanted c.args.words.now c.args.at c.args.marks _ (sym (c.in_ok-kinds.ensures.lookup.3.1 0)) c.in_ok-nodes.nodes c.in_ok-nodes.ensures c.in_ok-count.count c.in_ok-count.ensures
    (subst (λ (n : ℕ). Absent (λ xs. xs) (Table n c.in_ok-kinds.field-0.now) c.args.words.now (c.in_ok-count.count + 1)) (c.in_ok-get.ensures.lookup.3.1 0) c.in_err-end.ensures))
