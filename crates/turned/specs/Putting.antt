-- The result of a job and a tree that are known, put into out.
use Rattle.std.specs.Prelude.{◌≡◌, ℕ, ◌<◌, ◌≤◌, true, List, ◌++◌, length, drop, Some, None, Option}
use Rattle.transduce.specs.declared.source.Source.{Source}
use Rattle.std.specs.Option.{ok_or}
use Rattle.model.specs.Types.{is_of}
use Rattle.rows.specs.Known.{from_of}
use Rattle.transduce.specs.Framed.{SourceKnown, result_row}
use Rattle.turned.specs.declared.Unturned.TheVariants.{Full}
use Rattle.turned.specs.Turning.{DoneSays}

-- out, which was o and is o', begins with the result and goes on as it was; or the result is too long, and out is as it was
abbrev pub PutOut : (src : Source) → SourceKnown src → List ℕ → List ℕ → Option ℕ → Type 0
PutOut src k o o' (Some n) = (n ≡ length (result_row src k)) × (n ≤ length o) × (o' ≡ result_row src k ++ drop n o)
PutOut src k o o' None = (length o < length (result_row src k)) × (o' ≡ o)

-- what is then said of a tree of the first type
abbrev pub PutSays : (src : Source) → SourceKnown src → List ℕ → List ℕ → Option ℕ → Type 0
PutSays src k o o' r = is_of (from_of src.job) k.tree.tree ≡ true → DoneSays src.job.words.now src.tree.now o o' (ok_or r Full)
