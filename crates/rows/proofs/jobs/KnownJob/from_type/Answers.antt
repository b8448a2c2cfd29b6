use Rattle.std.proofs.Math.Logic.{∥∥₁_map}
use Rattle.rows.proofs.jobs.KnownJob.from_type.Goals as goal

pub invariant_of-result : goal.invariant_of-result
invariant_of-result c = record { known = ∥∥₁_map c.args.self.known (λ k. k.from_known) }
