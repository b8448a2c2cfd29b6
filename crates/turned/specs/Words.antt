-- The words that say why there is no answer.
use Rattle.std.specs.Prelude.{ℕ, List, codes}
use Rattle.turned.specs.declared.Unturned.{Unturned}
use Rattle.turned.specs.declared.Unturned.TheVariants.{NotOf, NoSuch, NoTree, Full, Small}
use Rattle.turned.specs.declared.Unjudged.{Unjudged}
use Rattle.turned.specs.declared.Unjudged.TheVariants.{NoJob, Many, OutFull, Few}

-- how it is printed that a tree has no result
abbrev pub unturned_words : Unturned → List ℕ
unturned_words NotOf = codes "not of"
unturned_words NoSuch = codes "no such"
unturned_words NoTree = codes "no tree"
unturned_words Full = codes "full"
unturned_words Small = codes "small"

-- how it is printed that nothing is said of a job
abbrev pub unjudged_words : Unjudged → List ℕ
unjudged_words NoJob = codes "no job"
unjudged_words Many = codes "many"
unjudged_words OutFull = codes "out full"
unjudged_words Few = codes "few"
