-- What is said of a job of which nothing was decided.
use Rattle.verdict.specs.declared.Undecided.{Undecided}
use Rattle.verdict.specs.declared.Undecided.TheVariants.{Many as TooMany, TooLong}
use Rattle.turned.specs.declared.Unjudged.{Unjudged}
use Rattle.turned.specs.declared.Unjudged.TheVariants.{Many, OutFull}

-- the call's words for why nothing was decided
abbrev pub unjudged : Undecided → Unjudged
unjudged TooMany = Many
unjudged TooLong = OutFull
