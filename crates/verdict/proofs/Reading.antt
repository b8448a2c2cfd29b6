-- A table in which all classes are found, read off: its least trees by rank, and what their signatures say of the job.
use Rattle.std.proofs.Common.{◌≡◌, ℕ, ◌<◌, Bool, not, ◌&&◌, List, length, Some, None, Result, sym, ap, ◌∙◌, subst, arith}
use Rattle.model.specs.Trees.{Tree, size}
use Rattle.model.specs.Types.{contains, is_of}
use Rattle.model.specs.Jobs.{Job, FitsAll, WellFormedJob}
use Rattle.model.specs.Rows.{Rows}
use Rattle.model.proofs.Prefix.{row_laws}
use Rattle.automata.specs.Automata.{TreeAutomaton, sig}
use Rattle.automata.specs.Classes.{at}
use Rattle.automata.specs.Links.{Linked}
use Rattle.table.specs.declared.Table.{Table}
use Rattle.table.specs.Tables.{sig_at, tree_at, ranked_at}
use Rattle.reach.specs.Promise.{AllFound}
use Rattle.signatures.specs.Signatures.{signature, job_automaton}
use Rattle.signatures.specs.JobClasses.{JobClasses, FewClasses, LeastBreak}
use Rattle.signatures.proofs.Computing.{computed, kind_of_state}
use Rattle.signatures.proofs.Telling.{from_classes}
use Rattle.verdict.specs.declared.Verdict.{Verdict}
use Rattle.verdict.specs.declared.Undecided.{Undecided}
use Rattle.verdict.specs.Ranked.{Holds}
use Rattle.verdict.specs.Verdicts.{breaks_by, breaks_at, FirstBreak, Decides}
use Rattle.verdict.proofs.FirstBreaks.{breaks, none_breaks, first_breaks}

pub found_holds : (A : TreeAutomaton) (t : Table) (f : AllFound A t) → Holds f.trees t
found_holds A t f =
    let s = f.state in
    record {
      ranks = s.ranks;
      few = f.few;
      room = s.room;
      rising = f.classes.order;
      rows = λ r h. omega (arith, (s.row_of r h).within, s.rows, s.room.few_rows);
      sized = λ r h. let o = s.row_of r h in s.sized (ranked_at t r) o.within ∙ ap size o.stands;
      linked = λ r h. let o = s.row_of r h in subst (Linked f.trees (tree_at t (ranked_at t r))) o.stands (s.linked (ranked_at t r) o.within);
    }

module _ (j : Job) (w : WellFormedJob j) (t : Table) (f : AllFound (job_automaton j) t) where
  abbrev S : List Tree
  S = f.trees

  pub classes : JobClasses j S
  classes = from_classes j w S f.classes

  pub few_classes : FewClasses j t.shape.most
  few_classes = record { trees = S; classes = classes; few = omega (arith, f.state.ranks, f.few) }

  -- what the signature of a rank says is so of its tree
  read_breaks : (r : ℕ) → r < length S → breaks_at j t r ≡ breaks j (at S r)
  read_breaks r h =
      let o = f.state.row_of r h in
      let signed : sig_at t (ranked_at t r) ≡ signature j (at S r) = f.state.signed (ranked_at t r) o.within ∙ ap (sig (job_automaton j)) o.stands ∙ computed j w (at S r) in
      let made = ap (contains j.to.wanted) (kind_of_state j (at S r) 0 (omega (arith, w.turns.some_state))) in
      ap (breaks_by j) signed ∙ ap (λ (b : Bool). is_of j.from (at S r) && not b) made

  pub none_read : FirstBreak j t None → FitsAll j
  none_read g = none_breaks j w S classes (λ i h. sym (read_breaks i h) ∙ g i (omega (arith, f.state.ranks)))

  pub first_read : (r : ℕ) → FirstBreak j t (Some r) → LeastBreak j (at S r)
  first_read r (h, e, g) =
      let within : r < length S = omega (arith, f.state.ranks) in
      first_breaks j w S classes r within (sym (read_breaks r within) ∙ e) (λ k l. sym (read_breaks k (omega (arith, within))) ∙ g k l)

-- rows say one job, so that what is decided of one reading of the words is decided of every other
pub decides_as : (s : List ℕ) (i j : Job) → Rows s i → Rows s j → (m n : ℕ) → m ≡ n → (o o' : List ℕ) (v : Result Verdict Undecided) → Decides i m o o' v → Decides j n o o' v
decides_as s i j p q m n e o o' v d =
    subst (λ (k : ℕ). Decides j k o o' v) e (subst (λ (k : Job). Decides k m o o' v) (row_laws.one_job s i j p q) d)
