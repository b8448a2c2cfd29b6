-- The words written are row k, and rows before and after it lie elsewhere, by `written`.
-- That the row is within the region the check finds, but `written` wants it as a fact.
use Rattle.std.proofs.Common.{◌≡◌, arith, rules}
use Rattle.table.proofs.Spacing.{row_fits, written}
use Rattle.table.proofs.rows.write_row.Goals as goal

pub returns : goal.returns
returns c =
    let copied : c.copy_from_slice.new.self ≡ c.args.from.now = search rules in
    written c.args.width c.args.k _ c.args.from.now c.args.region.now _ (omega arith) c.requires.long
    (row_fits c.args.width c.args.k c.args.rows _ c.requires.row c.requires.room) copied
