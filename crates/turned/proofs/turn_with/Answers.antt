-- What is known of the job and of the tree is what the promise asks for: the tree is of the first type exactly if its kind is
-- wanted, and what was put out is the answer.
use Rattle.std.proofs.Common.{◌≡◌, true, false, ◌≤◌, length, None, Err, sym, refl, ap, ◌∙◌, subst, rules, arith}
use Rattle.model.specs.Types.{TreeType, contains}
use Rattle.rows.specs.Jobs.{job_in, JobKnown}
use Rattle.rows.specs.Tables.{type_in}
use Rattle.turned.specs.declared.Unturned.TheVariants.{NoTree}
use Rattle.turned.specs.Turning.{DoneSays}
use Rattle.turned.proofs.Saying.{of_type}
use Rattle.turned.proofs.turn_with.Goals as goal

pub returns-in_err-kind-clause-says : goal.returns-in_err-kind-clause-says
returns-in_err-kind-clause-says c =
    let s = c.args.words.now in
    let p = c.in_ok-places.places in
    let known : JobKnown s c.read_job.new.index p = search rules in
    let read = rw (c.from_type-from.ensures.says, c.from_type-from.ensures.marks) at c.read_tree.ensures in
    let none : c.read_tree.result ≡ None = search rules in
    let lacks = rw none at read in
    let said : c.from_residual-in_err-kind.result ≡ Err NoTree = search rules in
    rw said (record { job = job_in s p known.turns; rows = known.rows; none = λ x e m. lacks x m e; kept = refl })

pub returns-then-not-wants-clause-says : goal.returns-then-not-wants-clause-says
returns-then-not-wants-clause-says c =
    let s = c.args.words.now in
    let p = c.in_ok-places.places in
    let known : JobKnown s c.read_job.new.index p = search rules in
    let read = rw (c.from_type-from.ensures.says, c.from_type-from.ensures.marks) at c.read_tree.ensures in
    let t = rw c.in_ok-kind.ensures.ok_part at read in
    let wanted = c.wants.ensures ∙ ap (λ (t : TreeType). contains t.wanted c.in_ok-kind.kind) c.from_type-from.ensures.says in
    record {
      job = job_in s p known.turns;
      tree = t.tree;
      rows = known.rows;
      row = t.row;
      marked = t.marked;
      other = of_type (type_in s p.marks p.from) t.tree _ _ false t.of_kind wanted c.if-not-wants.true;
      kept = refl;
    }

pub invariant_of-src : goal.invariant_of-src
invariant_of-src c =
    let room : length c.args.tree.now ≤ length c.read_tree.new.ends = omega arith in
    let known : JobKnown c.args.words.now c.read_job.new.index c.in_ok-places.places = search rules in
    let read = rw (c.from_type-from.ensures.says, c.from_type-from.ensures.marks) at c.read_tree.ensures in
    let t = rw c.in_ok-kind.ensures.ok_part at read in
    record { known = ∣ record { job = known; kinds = c.read_tree.new.kinds; kind = c.in_ok-kind.kind; tree = t; room = room } ∣₁ }

pub returns-clause-says : goal.returns-clause-says
returns-clause-says c =
    let room : length c.args.tree.now ≤ length c.read_tree.new.ends = omega arith in
    let s = c.args.words.now in
    let p = c.in_ok-places.places in
    let known : JobKnown s c.read_job.new.index p = search rules in
    let read = rw (c.from_type-from.ensures.says, c.from_type-from.ensures.marks) at c.read_tree.ensures in
    let t = rw c.in_ok-kind.ensures.ok_part at read in
    let wanted = c.wants.ensures ∙ ap (λ (t : TreeType). contains t.wanted c.in_ok-kind.kind) c.from_type-from.ensures.says in
    let comes = of_type (type_in s p.marks p.from) t.tree _ _ true t.of_kind wanted c.if-not-wants.false in
    subst (DoneSays s c.args.tree.now c.args.out.now c.put_out.new.out) (sym c.ok_or-2.ensures.value)
    (c.put_out.ensures (record { job = known; kinds = c.read_tree.new.kinds; kind = c.in_ok-kind.kind; tree = t; room = room }) comes)
