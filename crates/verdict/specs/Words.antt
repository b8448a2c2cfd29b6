-- The words that say what is decided.
use Rattle.std.specs.Prelude.{ℕ, List, codes}
use Rattle.verdict.specs.declared.Verdict.{Verdict}
use Rattle.verdict.specs.declared.Verdict.TheVariants.{Fits, Breaks}

-- how a verdict is printed: by its name alone
abbrev pub verdict_words : Verdict → List ℕ
verdict_words Fits = codes "fits"
verdict_words (Breaks k) = codes "breaks"
