-- The walk as a whole: what was put out and what is pending are the result, from the start to the end.
-- Each leaf or node moves two words from the one to the other.
use Rattle.std.proofs.Common.{◌≡◌, ℕ, ◌-◌, ◌*◌, ◌<◌, ◌≤◌, List, [], ◌∷◌, ◌++◌, length, Ok, Err, sym, refl, ap, ◌∙◌, subst, append_assoc, arith, length-append}
use Rattle.std.proofs.lemmas.List.{append-nil}
use Rattle.model.specs.Rows.{tree_row}
use Rattle.rows.specs.Jobs.{Begins}
use Rattle.rows.proofs.Stood.{stands}
use Rattle.transduce.specs.declared.frames.Frame.{Frame}
use Rattle.transduce.specs.declared.frames.Frames.{Frames}
use Rattle.transduce.specs.declared.source.Source.{Source}
use Rattle.transduce.specs.declared.walks.TooLong.{TooLong}
use Rattle.transduce.specs.Tasks.{pattern_for}
use Rattle.transduce.specs.Framed.{SourceKnown, FrameKnown, result_row}
use Rattle.transduce.specs.Walks.{Pending, Progress, Walked}
use Rattle.transduce.proofs.Walking.{tree_long, made_filled, pending_long, child_within}

module _ (src : Source) (k : SourceKnown src) where
  -- the whole tree is the subtree numbered 0
  pub whole_begins : Begins src.tree.now (2 * 0) (tree_row k.tree.tree)
  whole_begins = stands src.tree.now (tree_row k.tree.tree) [] 0 (tree_long k.tree.tree) (sym k.tree.row ∙ sym (append-nil (tree_row k.tree.tree)))

  pub whole_within : 2 * 0 < length src.tree.now
  whole_within = child_within src.tree.now 0 k.tree.tree whole_begins

  pub some_state : 0 < src.job.places.turn.states
  some_state = omega (arith, k.job.rows.well_formed.turns.some_state, k.job.states)

  pub start : (frames : Frames) (f : Frame) (most : ℕ) (Put : List ℕ → Type 0) → frames.depth ≡ 0 → FrameKnown src k f (record { tree = k.tree.tree; patterns = pattern_for src.job.places.marks k.job.turns k.tree.tree 0 ∷ [] })
      → Put [] → Progress src k frames f most most Put
  start frames f most Put z e p =
      let x = k.tree.tree in
      let m = src.job.places.marks in
      let t = k.job.turns in
      record {
        before = [];
        after = result_row src k;
        pending = record {
          task = record { tree = x; patterns = pattern_for m t x 0 ∷ [] };
          todo = [];
          here = e;
          stack = z;
          high = omega arith;
          row = append-nil _ ∙ append-nil _ ∙ ap tree_row (made_filled m t x 0);
        };
        whole = refl;
        counted = omega arith;
        put = p;
      }

  pub pending_within : (frames : Frames) (now : Frame) (rest : List ℕ) → Pending src k frames now rest → 2 * now.node < length src.tree.now
  pending_within frames now rest p = child_within src.tree.now (2 * now.node) p.task.tree p.here.subtree

  module _ (frames : Frames) (now : Frame) (most left : ℕ) (Put : List ℕ → Type 0) (p : Progress src k frames now most left Put) where
    -- one leaf or node more, of the two words w
    pub one_more : (new : Frames) (next : Frame) (w more : List ℕ) (Put' : List ℕ → Type 0) → length w ≡ 2 → 1 ≤ left → p.after ≡ w ++ more → Pending src k new next more → Put' (p.before ++ w)
        → Progress src k new next most (left - 1) Put'
    one_more new next w more Put' l h e pend put = record {
      before = p.before ++ w;
      after = more;
      pending = pend;
      whole = append_assoc p.before w more ∙ ap (λ (r : List ℕ). p.before ++ r) (sym e) ∙ p.whole;
      counted = omega (arith, length-append p.before w, p.counted);
      put = put;
    }

    pub same_put : (new : Frames) (next : Frame) → Pending src k new next p.after → Progress src k new next most left Put
    same_put new next pend = record { before = p.before; after = p.after; pending = pend; whole = p.whole; counted = p.counted; put = p.put }

    pub finished : (w : List ℕ) (Put' : List ℕ → Type 0) → length w ≡ 2 → 1 ≤ left → p.after ≡ w ++ [] → Put' (p.before ++ w) → Walked src k most Put' (Ok tt)
    finished w Put' l h e put =
        let all : p.before ++ w ≡ result_row src k = ap (λ (r : List ℕ). p.before ++ r) (sym (append-nil w) ∙ sym e) ∙ p.whole in
        (subst Put' all put, omega (arith, ap length all, length-append p.before w, p.counted))

    pub stopped : (e : TooLong) → left ≡ 0 → Walked src k most Put (Err e)
    stopped e z =
        let some = pending_long src k frames now p.after p.pending in
        (p.before, p.put, omega (arith, ap length p.whole, length-append p.before p.after, p.counted))
