-- Answers as numbers: the promise of a call, for the answer that its number stands for.
use Rattle.std.specs.Prelude.{◌≡◌, List, ℕ, Ok, Err, Result}
use Rattle.turned.specs.declared.Unturned.{Unturned}
use Rattle.turned.specs.declared.Unturned.TheVariants.{NotOf, NoSuch, NoTree, Full, Small}
use Rattle.turned.specs.declared.Unjudged.{Unjudged}
use Rattle.turned.specs.declared.Unjudged.TheVariants.{NoJob, Many, OutFull, Few}
use Rattle.turned.specs.Turning.{DonePost}
use Rattle.turned.specs.Judging.{Verdict, Fits, Breaks, JudgedPost}

-- the number of what is said of a job
abbrev pub judged_code : Result Verdict Unjudged → ℕ
judged_code (Ok Fits) = 0
judged_code (Ok (Breaks k)) = 1
judged_code (Err NoJob) = 2
judged_code (Err Many) = 3
judged_code (Err OutFull) = 4
judged_code (Err Few) = 5

-- how many words are told, where w were told before
abbrev pub judged_words : Result Verdict Unjudged → ℕ → ℕ
judged_words (Ok Fits) w = w
judged_words (Ok (Breaks k)) w = k
judged_words (Err why) w = w

-- the number of what came of a tree
abbrev pub done_code : Result ℕ Unturned → ℕ
done_code (Ok k) = 0
done_code (Err NotOf) = 1
done_code (Err NoSuch) = 2
done_code (Err NoTree) = 3
done_code (Err Full) = 4
done_code (Err Small) = 5

-- how many words are told, where w were told before
abbrev pub done_words : Result ℕ Unturned → ℕ → ℕ
done_words (Ok k) w = k
done_words (Err why) w = w

-- r stands for an answer that is promised, and the words told were w and are w'
pub record JudgeCoded (s : List ℕ) (most : ℕ) (o o' : List ℕ) (lent w w' r : ℕ) : Type 0 where
  pub judged : Result Verdict Unjudged
  pub promise : JudgedPost s most o o' lent judged
  pub code : r ≡ judged_code judged
  pub words : w' ≡ judged_words judged w

-- the same of a tree that is turned
pub record TurnCoded (s a o o' : List ℕ) (lent w w' r : ℕ) : Type 0 where
  pub done : Result ℕ Unturned
  pub promise : DonePost s a o o' lent done
  pub code : r ≡ done_code done
  pub words : w' ≡ done_words done w
