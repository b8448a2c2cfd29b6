-- What is decided of a job is what its search comes to: more classes than rows, or a table in which all stand.
-- Rows say one job, so that it is the same of every job that the words are.
use Rattle.std.proofs.Common.{refl, ap, ◌∙◌}
use Rattle.std.proofs.lemmas.Result.{err_from_is_err_and}
use Rattle.table.specs.declared.Shape.{Shape}
use Rattle.rows.proofs.Known.{job_known}
use Rattle.signatures.specs.Parsing.{job_of}
use Rattle.signatures.proofs.ParsedJobs.{rows_found}
use Rattle.signatures.proofs.Telling.{more_classes}
use Rattle.verdict.proofs.Reading.{decides_as}
use Rattle.verdict.proofs.decide.Goals as goal

pub returns-in_err-search : goal.returns-in_err-search
returns-in_err-search c j rows =
    let known = rows_found c.args.job (job_known c.args.job) in
    let most = c.search.new.table.shape.most in
    let p = err_from_is_err_and c.from_residual.result c.from_residual.ensures.1 in
    decides_as c.args.job.words.now (job_of c.args.job) j known rows most c.args.most (ap (λ (s : Shape). s.most) c.search.ensures.shape ∙ c.lay_out-table.ensures.most) _ _ c.from_residual.result
    (rw (p.1, p.2) (more_classes (job_of c.args.job) known.well_formed most c.in_err-search.ensures.finds.longer, refl))

pub returns : goal.returns
returns c j rows =
    decides_as c.args.job.words.now (job_of c.args.job) j (rows_found c.args.job (job_known c.args.job)) rows c.search.new.table.shape.most c.args.most
    (ap (λ (s : Shape). s.most) c.search.ensures.shape ∙ c.lay_out-table.ensures.most) _ _ c.conclude.result c.conclude.ensures
