-- What is decided of the known job is what the promise says of it, with the same words for why nothing is.
use Rattle.std.proofs.Common.{◌+◌, rules, arith}
use Rattle.std.proofs.lemmas.Result.{err_from_is_err_and}
use Rattle.rows.specs.Jobs.{job_in, JobKnown}
use Rattle.turned.proofs.Deciding.{enough_words, says_decided, says_undecided}
use Rattle.turned.proofs.judge_with.Goals as goal

pub returns-in_err-decide-clause-says : goal.returns-in_err-decide-clause-says
returns-in_err-decide-clause-says c =
    let s = c.args.words.now in
    let known : JobKnown s c.read_job.new.index c.in_ok-places.places = search rules in
    let j = job_in s c.in_ok-places.places known.turns in
    let p = err_from_is_err_and c.from_residual-in_err-decide.result c.from_residual-in_err-decide.ensures.1 in
    rw (p.1, p.2) (says_undecided s j known.rows c.args.most _ _ c.in_err-decide.field-0.0 (c.in_err-decide.ensures j known.rows))

pub returns-clause-says : goal.returns-clause-says
returns-clause-says c =
    let s = c.args.words.now in
    let known : JobKnown s c.read_job.new.index c.in_ok-places.places = search rules in
    let j = job_in s c.in_ok-places.places known.turns in
    says_decided s j known.rows c.args.most _ _ c.in_ok-decide.field-0 (c.in_ok-decide.ensures j known.rows)

pub decide-requires-clause-work : goal.decide-requires-clause-work
decide-requires-clause-work c =
    let p = c.in_ok-places.places in
    let known : JobKnown c.args.words.now c.read_job.new.index p = search rules in
    omega (arith, enough_words (p.turn.states + 1) c.args.most (omega (arith, known.rows.limits.few_states, known.states)), c.requires.work)
