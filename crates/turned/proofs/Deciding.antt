-- What was decided of a known job, as the promise of the call says it; and that the work words asked for are enough.
use Rattle.std.proofs.Common.{ℕ, ◌+◌, ◌*◌, ◌/◌, ◌≤◌, List, Ok, Err, mul-le-mul_left, arith}
use Rattle.model.specs.Rows.{Rows}
use Rattle.model.specs.Jobs.{Job}
use Rattle.table.specs.Layout.{words_for}
use Rattle.verdict.specs.declared.Verdict.{Verdict}
use Rattle.verdict.specs.declared.Verdict.TheVariants.{Fits, Breaks}
use Rattle.verdict.specs.declared.Undecided.{Undecided}
use Rattle.verdict.specs.declared.Undecided.TheVariants.{Many, TooLong}
use Rattle.verdict.specs.Verdicts.{Decides}
use Rattle.turned.specs.Undecided.{unjudged}
use Rattle.turned.specs.Judging.{JudgedSays}

pub enough_words : (w n : ℕ) → w ≤ 65 → words_for w n + n ≤ (n + 1) * (256 + n)
enough_words w n h =
    let q = n / 32 in
    let low : q ≤ n = omega arith in
    omega (arith, mul-le-mul_left n h, mul-le-mul_left n low)

module _ (s : List ℕ) (j : Job) (rows : Rows s j) (n : ℕ) (o o' : List ℕ) where
  pub says_decided : (v : Verdict) → Decides j n o o' (Ok v) → JudgedSays s n o o' (Ok v)
  says_decided Fits d = record { judging = record { job = j; rows = rows; few = d.few }; fits = d.fits; kept = d.kept }
  says_decided (Breaks k) d = record {
    judging = record { job = j; rows = rows; few = d.few };
    tree = d.tree;
    least = d.least;
    words = d.placed.words;
    written = d.placed.written;
    rest = d.placed.rest;
  }

  pub says_undecided : (why : Undecided) → Decides j n o o' (Err why) → JudgedSays s n o o' (Err (unjudged why))
  says_undecided Many d = record { job = j; rows = rows; many = d.0; kept = d.1 }
  says_undecided TooLong d = record { judging = record { job = j; rows = rows; few = d.few }; tree = d.tree; least = d.least; long = d.long; kept = d.kept }
