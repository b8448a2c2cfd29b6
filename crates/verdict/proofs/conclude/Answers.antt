-- What follows from the first rank whose tree breaks the job, or from there being none: what is said of ranks is said of trees,
-- and what is shown of that rank is placed, or too long.
use Rattle.std.proofs.Common.{◌≡◌, refl, arith}
use Rattle.std.proofs.lemmas.Result.{err_from_is_err_and}
use Rattle.automata.specs.Classes.{at}
use Rattle.rows.proofs.Known.{job_known}
use Rattle.signatures.specs.Parsing.{job_of}
use Rattle.signatures.specs.Signatures.{job_automaton}
use Rattle.signatures.proofs.ParsedJobs.{rows_found}
use Rattle.verdict.specs.declared.Undecided.TheVariants.{TooLong}
use Rattle.verdict.proofs.Reading.{found_holds, few_classes, none_read, first_read}
use Rattle.verdict.proofs.conclude.Goals as goal

pub returns-in_default : goal.returns-in_default
returns-in_default c =
    let j = job_of c.args.job in
    let w = (rows_found c.args.job (job_known c.args.job)).well_formed in
    let t = c.args.table.now in
    record { few = few_classes j w t c.requires.found; fits = none_read j w t c.requires.found c.in_default.ensures; kept = refl }

pub invariant_of-show : goal.invariant_of-show
invariant_of-show c = record { held = ∣ (c.requires.found.trees, found_holds (job_automaton (job_of c.args.job)) c.args.table.now c.requires.found) ∣₁ }

pub returns-in_err-words : goal.returns-in_err-words
returns-in_err-words c =
    let j = job_of c.args.job in
    let w = (rows_found c.args.job (job_known c.args.job)).well_formed in
    let t = c.args.table.now in
    let S = c.requires.found.trees in
    let p = err_from_is_err_and c.from_residual.result c.from_residual.ensures.1 in
    let shown = rw c.in_err-words.ensures.ok_part at (c.show.ensures S (found_holds (job_automaton j) t c.requires.found)) in
    let said : c.in_err-words.field-0.0 ≡ TooLong = grind arith in
    rw (p.1, p.2, said) (record {
      few = few_classes j w t c.requires.found;
      tree = at S c.in-Some.rank;
      least = first_read j w t c.requires.found c.in-Some.rank c.in-Some.ensures;
      long = shown.0;
      kept = shown.1;
    })

pub returns : goal.returns
returns c =
    let j = job_of c.args.job in
    let w = (rows_found c.args.job (job_known c.args.job)).well_formed in
    let t = c.args.table.now in
    let S = c.requires.found.trees in
    record {
      few = few_classes j w t c.requires.found;
      tree = at S c.in-Some.rank;
      least = first_read j w t c.requires.found c.in-Some.rank c.in-Some.ensures;
      placed = rw c.in_ok-words.ensures.ok_part at (c.show.ensures S (found_holds (job_automaton j) t c.requires.found));
    }
