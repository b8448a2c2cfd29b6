-- Tables of kinds, and a type by the places of its tables.
use Rattle.std.specs.Prelude.{◌≡◌, ℕ, ◌+◌, ◌-◌, ◌*◌, ◌≤◌, List, length, Some, None, Option}
use Rattle.model.specs.Types.{TreeType, Below, WellFormedType}
use Rattle.model.specs.Rows.{type_row}
use Rattle.rows.specs.declared.tables.TypePlaces.{TypePlaces}
use Rattle.rows.specs.Standing.{Stands, Absent, slice}

-- so many words, all below a bound
pub record Table (count bound : ℕ) (xs : List ℕ) : Type 0 where
  pub long : length xs ≡ count
  pub below : Below bound xs

-- the type whose tables stand at these places of s, for m marks
abbrev pub type_in : List ℕ → ℕ → TypePlaces → TreeType
type_in s m p = record {
  kinds = p.kinds;
  leaves = slice p.leaves m s;
  nodes = slice p.nodes (m * (p.kinds * p.kinds)) s;
  wanted = slice p.wanted (p.end - p.wanted) s;
}

-- a type whose row is read: well-formed, within the limit of 64 kinds
pub record TypeOk (m : ℕ) (t : TreeType) : Type 0 where
  pub well_formed : WellFormedType m t
  pub few_kinds : t.kinds ≤ 64

-- a type stands at these places of s
pub record TypeKnown (s : List ℕ) (m : ℕ) (p : TypePlaces) : Type 0 where
  pub few_marks : m ≤ 64
  pub ok : TypeOk m (type_in s m p)
  pub leaves_within : p.leaves + m ≤ length s
  pub nodes_within : p.nodes + m * (p.kinds * p.kinds) ≤ length s
  pub wanted_before : p.wanted ≤ p.end
  pub wanted_within : p.end ≤ length s

-- what the reader of a type answers: the places of the type whose row stands at `at`, or that none does
abbrev pub TypeRead : List ℕ → ℕ → ℕ → Option TypePlaces → Type 0
TypeRead s at m None = Absent type_row (TypeOk m) s at
TypeRead s at m (Some p) = TypeKnown s m p × Stands s at p.end (type_row (type_in s m p))
