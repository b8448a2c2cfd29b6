use Rattle.std.proofs.Common.{rules}
use Rattle.rows.proofs.Known.{type_known}
use Rattle.rows.proofs.tables.KnownType.place.Goals as goal

pub overflow_mul-result-2 : goal.overflow_mul-result-2
overflow_mul-result-2 c = let k = type_known c.args.self in let m = k.few_marks in let n = k.ok.few_kinds in search rules

pub overflow_add-result-2 : goal.overflow_add-result-2
overflow_add-result-2 c = let k = type_known c.args.self in let m = k.few_marks in let n = k.ok.few_kinds in search rules
