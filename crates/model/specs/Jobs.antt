-- Jobs: a type for what comes in, a turn, and a type for what is to come out.
use Rattle.std.specs.Prelude.{◌≡◌, ℕ, ◌<◌, ◌≤◌, true}
use Rattle.std.specs.List.{AllByRecursion}
use Rattle.model.specs.Trees.{Tree, Marked}
use Rattle.model.specs.Types.{TreeType, kind, is_of, WellFormedType}
use Rattle.model.specs.Turns.{Pattern, Turn, depth, made, WellFormedTurn}

pub record Job : Type 0 where
  -- there are the marks 0 .. marks - 1
  pub marks : ℕ
  pub from : TreeType
  pub turn : Turn
  pub to : TreeType

-- what state q makes of a tree
abbrev pub made_by : Job → Tree → ℕ → Tree
made_by j x q = made j.marks j.turn x q

-- what becomes of a tree: what state 0 makes of it
abbrev pub result : Job → Tree → Tree
result j x = made_by j x 0

-- Trees that need not be told apart: they are of one kind in the first type, and what each state makes of them is of one
-- kind in the second. Trees that are alike form a class.
pub record Alike (j : Job) (x y : Tree) : Type 0 where
  pub same_kind : kind j.from x ≡ kind j.from y
  pub same_made : (q : ℕ) → q < j.turn.states → kind j.to (made_by j x q) ≡ kind j.to (made_by j y q)

-- a tree that comes in: its marks are the job's, and it is of the first type
pub record Comes (j : Job) (x : Tree) : Type 0 where
  pub marked : Marked j.marks x
  pub of_type : is_of j.from x ≡ true

-- what becomes of it is of the second type
abbrev pub Good : Job → Tree → Type 0
Good j x = is_of j.to (result j x) ≡ true

-- the job fits: every tree that comes in, of any size, becomes one of the second type
abbrev pub FitsAll : Job → Type 0
FitsAll j = (x : Tree) → Comes j x → Good j x

pub record WellFormedJob (j : Job) : Type 0 where
  pub some_mark : 1 ≤ j.marks
  pub first : WellFormedType j.marks j.from
  pub turns : WellFormedTurn j.marks j.turn
  pub second : WellFormedType j.marks j.to

-- a pattern is at most so deep
abbrev pub Shallow : Pattern → Type 0
Shallow p = depth p ≤ 64

-- how large a job may be
pub record WithinLimits (j : Job) : Type 0 where
  pub few_marks : j.marks ≤ 64
  pub few_from : j.from.kinds ≤ 64
  pub few_states : j.turn.states ≤ 64
  pub few_to : j.to.kinds ≤ 64
  pub leaf_depths : AllByRecursion Shallow j.turn.on_leaf
  pub node_depths : AllByRecursion Shallow j.turn.on_node
