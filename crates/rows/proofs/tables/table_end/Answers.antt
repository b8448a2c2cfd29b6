use Rattle.std.proofs.Common.{◌-◌, length, drop, ap, ◌∙◌, arith, length-take, length-drop}
use Rattle.std.specs.List.{list_all}
use Rattle.rows.proofs.TableEnds.{ends_by, cut_out}
use Rattle.rows.proofs.tables.table_end.Goals as goal

pub returns : goal.returns
returns c =
    let s = c.args.words.now in
    rw c.then_some.ensures (ends_by s c.args.at c.args.count c.args.bound c.are_below.result (omega (arith, c.in_ok-table.ensures.lookup.0.1, length-take (length s - c.args.at) (drop c.args.at s), length-drop c.args.at s))
    (c.are_below.ensures ∙ ap (list_all _) (cut_out s c.in_ok-table.table.now c.args.at c.args.count c.in_ok-table.ensures.lookup.0.2)))
