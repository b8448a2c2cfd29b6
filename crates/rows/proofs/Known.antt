-- A type and a job that were read are known in one way only: a job's words fix its turn, since no turn's row begins another.
-- So what a truncated fact of them hides can be taken out of it.
use Rattle.std.proofs.Common.{◌≡◌, ℕ, ◌*◌, Bool, List, ◌++◌, sym, ◌∙◌}
use Rattle.std.proofs.Props.{props}
use Rattle.std.proofs.Math.Logic.{∥∥₁_elim}
use mathlib.Core.HLevel.{is_prop→PathP}
use native.Mathlib.Nat.{ℕ_set}
use native.Mathlib.Bridge.{le_prop}
use Rattle.std.specs.List.{AllByRecursion-prop}
use mathlib.Core.List.{tail-eq_of_cons-eq}
use Rattle.model.specs.Turns.{Pattern, p_leaf, p_node, p_part, WellFormedPattern}
use Rattle.model.specs.Jobs.{Job}
use Rattle.model.specs.Rows.{turn_row, type_row, Rows}
use Rattle.model.proofs.Prefix.{types_apart, turns_apart}
use Rattle.rows.specs.declared.tables.TypePlaces.{TypePlaces}
use Rattle.rows.specs.declared.tables.KnownType.{KnownType}
use Rattle.rows.specs.declared.jobs.JobPlaces.{JobPlaces}
use Rattle.rows.specs.declared.jobs.KnownJob.{KnownJob}
use Rattle.rows.specs.Tables.{TypeKnown}
use Rattle.rows.specs.Jobs.{Indexed, JobKnown, job_in}

TypeKnown-prop : (s : List ℕ) (m : ℕ) (p : TypePlaces) → IsProp (TypeKnown s m p)
TypeKnown-prop s m p = hlevel (props, AllByRecursion-prop)

-- what is known of the tables of a type
pub type_known : (t : KnownType) → TypeKnown t.words.now t.marks t.places
type_known t = ∥∥₁_elim t.known (TypeKnown-prop t.words.now t.marks t.places) (λ k. k)

WellFormedPattern-prop : (m n : ℕ) (parts : Bool) (p : Pattern) → IsProp (WellFormedPattern m n parts p)
WellFormedPattern-prop m n parts (p_leaf a) = hlevel props
WellFormedPattern-prop m n parts (p_node a x y) = hlevel (props, WellFormedPattern-prop m n parts x, WellFormedPattern-prop m n parts y)
WellFormedPattern-prop m n parts (p_part q s) = hlevel props

Rows-prop : (s : List ℕ) (j : Job) → IsProp (Rows s j)
Rows-prop s j = hlevel (props, AllByRecursion-prop, WellFormedPattern-prop)

module _ (s index : List ℕ) (p : JobPlaces) where
  Indexed-prop : (first : ℕ) (ps : List Pattern) → IsProp (Indexed s index first ps)
  Indexed-prop first ps = hlevel props

  same_turns : (k l : JobKnown s index p) → k.turns ≡ l.turns
  same_turns k l =
      let j = job_in s p k.turns in
      let i = job_in s p l.turns in
      let behind : type_row j.from ++ (turn_row k.turns ++ type_row j.to) ≡ type_row j.from ++ (turn_row l.turns ++ type_row j.to) = tail-eq_of_cons-eq (k.rows.row ∙ sym l.rows.row) in
      (turns_apart p.marks k.turns l.turns (type_row j.to) (type_row j.to) k.rows.well_formed.turns l.rows.well_formed.turns
      (types_apart p.marks j.from j.from _ _ k.rows.well_formed.first l.rows.well_formed.first behind).1).0

  JobKnown-prop : IsProp (JobKnown s index p)
  JobKnown-prop k l =
      let e = same_turns k l in
      λ i. record {
        turns = e i;
        rows = is_prop→PathP (λ i. Rows s (job_in s p (e i))) (λ i. Rows-prop s (job_in s p (e i))) k.rows l.rows i;
        states = is_prop→PathP (λ i. (e i).states ≡ p.turn.states) (λ i. ℕ_set (e i).states p.turn.states) k.states l.states i;
        room = le_prop k.room l.room i;
        from_known = TypeKnown-prop s p.marks p.from k.from_known l.from_known i;
        to_known = TypeKnown-prop s p.marks p.to k.to_known l.to_known i;
        leaf_places = is_prop→PathP (λ i. Indexed s index 0 (e i).on_leaf) (λ i. Indexed-prop 0 (e i).on_leaf) k.leaf_places l.leaf_places i;
        node_places = is_prop→PathP (λ i. Indexed s index (p.turn.states * p.marks) (e i).on_node) (λ i. Indexed-prop (p.turn.states * p.marks) (e i).on_node) k.node_places l.node_places i;
      }

-- what is known of a job
pub job_known : (j : KnownJob) → JobKnown j.words.now j.index.now j.places
job_known j = ∥∥₁_elim j.known (JobKnown-prop j.words.now j.index.now j.places) (λ k. k)
