-- A type and a job that were read, as values whose invariants say so.
use Rattle.model.specs.Types.{TreeType}
use Rattle.rows.specs.declared.tables.KnownType.{KnownType}
use Rattle.rows.specs.declared.jobs.KnownJob.{KnownJob}
use Rattle.rows.specs.Tables.{type_in}

-- the type whose tables these are
abbrev pub type_of : KnownType → TreeType
type_of t = type_in t.words.now t.marks t.places

-- the two types of a job
abbrev pub from_of : KnownJob → TreeType
from_of j = type_in j.words.now j.places.marks j.places.from

abbrev pub to_of : KnownJob → TreeType
to_of j = type_in j.words.now j.places.marks j.places.to
