-- The first rank that is found is the first whose tree breaks the job: each rank below it was tried, and its signature does not.
use Rattle.std.proofs.Common.{◌≡◌, ℕ, ◌<◌, ◌≤◌, true, false, Option, Some, None, rules, arith}
use Rattle.std.specs.Option.{MatchOption}
use Rattle.std.proofs.lemmas.Iterator.{first_from_Range}
use Rattle.model.specs.Jobs.{Job}
use Rattle.table.specs.declared.Table.{Table}
use Rattle.signatures.specs.Parsing.{job_of}
use Rattle.verdict.specs.Verdicts.{breaks_at, FirstBreak}
use Rattle.verdict.proofs.first_break.Goals as goal

-- what is found among numbers, as it is said of ranks
first_found : (j : Job) (t : Table) (r : Option ℕ) → MatchOption r ((k : ℕ) → 0 ≤ k → k < t.settled → breaks_at j t k ≡ false)
    (λ i. (0 ≤ i) × (i < t.settled) × (breaks_at j t i ≡ true) × ((k : ℕ) → 0 ≤ k → k < i → breaks_at j t k ≡ false)) → FirstBreak j t r
first_found j t None h = λ k l. h k (omega arith) l
first_found j t (Some i) h = (h.1, h.2, λ k l. h.3 k (omega arith) l)

pub returns : goal.returns
returns c =
    let j = job_of c.args.job in
    let t = c.args.table.now in
    first_found j t c.find.result
    (first_from_Range _ _ _ c.find.result (λ k. breaks_at j t k ≡ true) (λ k. breaks_at j t k ≡ false) c.find.ensures.ran
    (λ k q e. search rules) (λ k q e. search rules))
