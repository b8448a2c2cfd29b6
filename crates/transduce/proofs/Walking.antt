-- One step of the walk: what is still to be put out begins with a leaf or a node, or is the same in the frame of a part.
-- The first pattern of the frame is the one that begins with the step; the others and the frames below stay.
use Rattle.std.proofs.Common.{◌≡◌, ℕ, suc, ◌+◌, ◌-◌, ◌*◌, ◌<◌, ◌≤◌, true, List, [], ◌∷◌, ◌++◌, length, drop, Some, None, Option, sym, refl, ap, ◌∙◌, subst, append_assoc, arith, length-append}
use Rattle.std.specs.List.{flat_map, AllByRecursion}
use Rattle.std.proofs.lemmas.List.{append-nil}
use Rattle.std.proofs.lemmas.Bool.{false≢true}
use Rattle.model.specs.Trees.{Tree, leaf, node, Marked}
use Rattle.model.specs.Turns.{Pattern, p_leaf, p_node, p_part, Turn, filled, made, WellFormedPattern}
use Rattle.model.specs.Rows.{tree_row, side_word, pattern_row, patterns_row}
use Rattle.model.proofs.Prefix.{trees_apart}
use Rattle.rows.specs.declared.steps.Part.{Part}
use Rattle.rows.specs.declared.steps.Part.TheVariants.{Left, Right}
use Rattle.std.specs.Option.{IsSome}
use Rattle.rows.specs.declared.steps.Step.{Step}
use Rattle.rows.specs.declared.steps.Step.TheVariants.{Leaf, Node, Made}
use Rattle.rows.specs.Numbered.{number}
use Rattle.rows.specs.Standing.{Stands}
use Rattle.rows.specs.Stepwise.{side_of, StepAt}
use Rattle.rows.specs.Jobs.{Begins}
use Rattle.rows.proofs.Stood.{past, stands, rest_stands}
use Rattle.rows.proofs.PatternEnds.{tells}
use Rattle.rows.proofs.TurnReads.{patterns_long}
use Rattle.transduce.specs.declared.frames.Frame.{Frame}
use Rattle.transduce.specs.declared.frames.Frames.{Frames}
use Rattle.transduce.specs.declared.source.Source.{Source}
use Rattle.transduce.specs.Tasks.{parts_of, pattern_for, has_parts, Task, task_row, tasks_row}
use Rattle.transduce.specs.Framed.{SourceKnown, FrameKnown, part_tree, Stack}
use Rattle.transduce.specs.Stacked.{frame_at, Pushed, Popped}
use Rattle.transduce.specs.Walks.{Pending, Begun, AfterNode, AfterLeaf}
use Rattle.transduce.proofs.Entering.{subtree_at}

pub tree_long : (x : Tree) → 1 ≤ length (tree_row x)
tree_long (leaf a) = omega arith
tree_long (node a l r) = omega arith

-- a subtree that stands in a row begins within it
pub child_within : (s : List ℕ) (i : ℕ) (x : Tree) → Begins s i (tree_row x) → i < length s
child_within s i x st = omega (arith, st.within, tree_long x)

-- what is popped leaves the words as they were
pub popped_long : (old new : Frames) (r : Option Frame) → Popped old new r → length new.words.now ≡ length old.words.now
popped_long old new None p = ap length p.2
popped_long old new (Some f) p = ap length p.2

-- the parts of a node that stands in a tree's row
module _ (src : Source) (k : SourceKnown src) (i a : ℕ) (l r : Tree) (st : Begins src.tree.now (2 * i) (tree_row (node a l r))) where
  inner_words : drop (2 * (i + 1)) src.tree.now ≡ tree_row l ++ (tree_row r ++ drop (2 * i + length (tree_row (node a l r))) src.tree.now)
  inner_words =
      let next : 2 * (i + 1) ≡ 2 * i + 2 = omega arith in
      ap (λ (n : ℕ). drop n src.tree.now) next ∙ past src.tree.now (1 ∷ a ∷ []) _ (2 * i) st.words ∙ append_assoc (tree_row l) (tree_row r) _

  pub left_begins : Begins src.tree.now (2 * (i + 1)) (tree_row l)
  left_begins = stands src.tree.now (tree_row l) _ (2 * (i + 1)) (tree_long l) inner_words

  pub node_inner : 2 * (i + 1) < length src.tree.now
  node_inner = omega (arith, left_begins.within, tree_long l)

  pub right_begins : (j : ℕ) → j ≡ number src.ends.now (i + 1) → Begins src.tree.now (2 * j) (tree_row r) × (i < j)
  right_begins j e =
      let y = subtree_at src k (i + 1) node_inner in
      let at_right = (trees_apart y.tree l _ _ (sym y.stands.words ∙ inner_words)).1 in
      let at_j : drop (2 * j) src.tree.now ≡ tree_row r ++ drop (2 * i + length (tree_row (node a l r))) src.tree.now = ap (λ (n : ℕ). drop (2 * n) src.tree.now) e ∙ at_right in
      (stands src.tree.now (tree_row r) _ (2 * j) (tree_long r) at_j, omega (arith, y.stands.long))

-- a tree with parts is a node
pub record IsNode (x : Tree) : Type 0 where
  pub mark : ℕ
  pub first : Tree
  pub second : Tree
  pub same : x ≡ node mark first second

is_node : (x : Tree) → has_parts x ≡ true → IsNode x
is_node (leaf a) h = absurd (false≢true h)
is_node (node a l r) h = record { mark = a; first = l; second = r; same = refl }

-- what a state makes of a tree is its pattern, filled in
pub made_filled : (m : ℕ) (t : Turn) (x : Tree) (q : ℕ) → filled (parts_of m t x) (pattern_for m t x q) ≡ made m t x q
made_filled m t (leaf a) q = refl
made_filled m t (node a l r) q = refl

part_made : (m : ℕ) (t : Turn) (a : ℕ) (l r : Tree) (q : ℕ) (d : Part) → parts_of m t (node a l r) q (side_of d) ≡ made m t (part_tree d l r) q
part_made m t a l r q Left = refl
part_made m t a l r q Right = refl

pub part_marked : (m a : ℕ) (l r : Tree) (d : Part) → Marked m (node a l r) → Marked m (part_tree d l r)
part_marked m a l r Left h = h.1
part_marked m a l r Right h = h.2

module _ (src : Source) (k : SourceKnown src) where
  abbrev m : ℕ
  m = src.job.places.marks

  abbrev n : ℕ
  n = src.job.places.turn.states

  abbrev t : Turn
  t = k.job.turns

  -- frames that are as they were stand for the same tasks
  stack_kept : (old new : List ℕ) (d : ℕ) (xs : List Task) → ((j : ℕ) → j < d → frame_at new j ≡ frame_at old j) → Stack src k old d xs → Stack src k new d xs
  stack_kept old new d [] same h = h
  stack_kept old new d (x ∷ xs) same h =
      let e : frame_at old (d - 1) ≡ frame_at new (d - 1) = sym (same (d - 1) (omega (arith, h.0))) in (
        h.0,
        subst (λ (f : Frame). d - 1 ≤ f.node) e h.1,
        subst (λ (f : Frame). FrameKnown src k f x) e h.2,
        stack_kept old new (d - 1) xs (λ j l. same j (omega arith)) h.3,
      )

  module _ (frames : Frames) (now : Frame) (rest : List ℕ) where
    -- what is pending, with the first pattern of the frame apart
    pub record Opened : Type 0 where
      pub tree : Tree
      pub first : Pattern
      pub others : List Pattern
      pub todo : List Task
      pub here : FrameKnown src k now (record { tree = tree; patterns = first ∷ others })
      pub stack : Stack src k frames.words.now frames.depth todo
      pub high : frames.depth ≤ now.node
      pub row : task_row m t (record { tree = tree; patterns = first ∷ others }) ++ tasks_row m t todo ≡ rest

    opened_as : (x : Tree) (ps : List Pattern) (todo : List Task) → FrameKnown src k now (record { tree = x; patterns = ps }) → Stack src k frames.words.now frames.depth todo → frames.depth ≤ now.node
        → task_row m t (record { tree = x; patterns = ps }) ++ tasks_row m t todo ≡ rest → Opened
    opened_as x [] todo f st h e = absurd (omega (arith, f.some, f.counted))
    opened_as x (p ∷ ps) todo f st h e = record { tree = x; first = p; others = ps; todo = todo; here = f; stack = st; high = h; row = e }

    pub opened : Pending src k frames now rest → Opened
    opened p = opened_as p.task.tree p.task.patterns p.todo p.here p.stack p.high p.row

    -- the first pattern begins with the step
    first_words : (o : Opened) → drop now.at src.job.words.now ≡ pattern_row o.first ++ (patterns_row o.others ++ drop o.here.end src.job.words.now)
    first_words o = o.here.stands.words ∙ append_assoc (pattern_row o.first) (patterns_row o.others) _

    -- something comes of the first pattern
    pub pending_long : Pending src k frames now rest → 1 ≤ length rest
    pending_long p =
        let o = opened p in
        let w = tree_row (filled (parts_of m t o.tree) o.first) in
        let ws = flat_map (λ p. tree_row (filled (parts_of m t o.tree) p)) o.others in
        let all : length ((w ++ ws) ++ tasks_row m t o.todo) ≡ length rest = ap length o.row in
        omega (arith, length-append (w ++ ws) (tasks_row m t o.todo), length-append w ws, tree_long (filled (parts_of m t o.tree) o.first))

    pub some_step : Pending src k frames now rest → (x : Option Step) → StepAt src.job.words.now now.at x → IsSome x
    some_step p None absent = let o = opened p in absurd (absent o.first _ tt (first_words o))
    some_step p (Some x) st = refl

    pub count_small : Pending src k frames now rest → now.count ≤ length src.job.words.now
    count_small p =
        omega (arith, p.here.counted, patterns_long p.task.patterns, p.here.stands.long, p.here.stands.within)

    -- what is left of the frame behind words of its first pattern
    goes_on_with : (x : Tree) (qs ps : List Pattern) (w : List ℕ) (c : ℕ) (f : FrameKnown src k now (record { tree = x; patterns = ps })) → patterns_row ps ≡ w ++ patterns_row qs
        → AllByRecursion (WellFormedPattern m n (has_parts x)) qs → c ≡ length qs → 1 ≤ c
        → FrameKnown src k (record { node = now.node; at = now.at + length w; count = c }) (record { tree = x; patterns = qs })
    goes_on_with x qs ps w c f e ok l h = record {
      marked = f.marked;
      subtree = f.subtree;
      end = f.end;
      stands = rest_stands src.job.words.now w (patterns_row qs) now.at f.end (subst (Stands src.job.words.now now.at f.end) e f.stands);
      well_formed = ok;
      counted = l;
      some = h;
    }

    -- a node: its two patterns come first
    node_opened : (a : ℕ) (x : Tree) (y z : Pattern) (os : List Pattern) (todo : List Task) → FrameKnown src k now (record { tree = x; patterns = p_node a y z ∷ os }) → Stack src k frames.words.now frames.depth todo
        → frames.depth ≤ now.node → task_row m t (record { tree = x; patterns = p_node a y z ∷ os }) ++ tasks_row m t todo ≡ rest
        → AfterNode src k frames (record { node = now.node; at = now.at + 2; count = now.count + 1 }) a rest
    node_opened a x y z os todo f st h e =
        let put = λ (p : Pattern). tree_row (filled (parts_of m t x) p) in
        let fy = put y in
        let fz = put z in
        let fs = flat_map put os in
        let w = f.well_formed in
        let grouped : (fy ++ fz) ++ fs ≡ fy ++ (fz ++ fs) = append_assoc fy fz fs in
        let as_row : patterns_row (p_node a y z ∷ os) ≡ (1 ∷ a ∷ []) ++ patterns_row (y ∷ z ∷ os) = ap (λ (l : List ℕ). 1 ∷ a ∷ l) (append_assoc (pattern_row y) (pattern_row z) (patterns_row os)) in
        record {
          more = (fy ++ (fz ++ fs)) ++ tasks_row m t todo;
          first = sym e ∙ ap (λ (l : List ℕ). 1 ∷ a ∷ (l ++ tasks_row m t todo)) grouped;
          pending = record {
            task = record { tree = x; patterns = y ∷ z ∷ os };
            todo = todo;
            here = goes_on_with x (y ∷ z ∷ os) (p_node a y z ∷ os) (1 ∷ a ∷ []) (now.count + 1) f as_row (w.0.1, (w.0.2, w.1)) (omega (arith, f.counted)) (omega arith);
            stack = st;
            high = h;
            row = refl;
          };
        }

    pub node_after : (a : ℕ) → Begun src now (Node a) → Pending src k frames now rest
        → AfterNode src k frames (record { node = now.node; at = now.at + 2; count = now.count + 1 }) a rest
    node_after a b p =
        let o = opened p in
        let s = tells src.job.words.now now.at (Node a) o.first _ b (first_words o) in
        let e = s.2 in
        node_opened a o.tree s.0 s.1 o.others o.todo
        (subst (λ (q : Pattern). FrameKnown src k now (record { tree = o.tree; patterns = q ∷ o.others })) e o.here) o.stack o.high
        (subst (λ (q : Pattern). task_row m t (record { tree = o.tree; patterns = q ∷ o.others }) ++ tasks_row m t o.todo ≡ rest) e o.row)

    -- a leaf: the others, or the frame below, or the end
    record LeafOpened (a : ℕ) : Type 0 where
      tree : Tree
      others : List Pattern
      todo : List Task
      here : FrameKnown src k now (record { tree = tree; patterns = p_leaf a ∷ others })
      stack : Stack src k frames.words.now frames.depth todo
      high : frames.depth ≤ now.node
      row : rest ≡ 0 ∷ a ∷ (flat_map (λ p. tree_row (filled (parts_of m t tree) p)) others ++ tasks_row m t todo)

    leaf_opened : (a : ℕ) → Begun src now (Leaf a) → Pending src k frames now rest → LeafOpened a
    leaf_opened a b p =
        let o = opened p in
        let e = (tells src.job.words.now now.at (Leaf a) o.first _ b (first_words o)).0 in
        record {
          tree = o.tree;
          others = o.others;
          todo = o.todo;
          here = subst (λ (q : Pattern). FrameKnown src k now (record { tree = o.tree; patterns = q ∷ o.others })) e o.here;
          stack = o.stack;
          high = o.high;
          row = sym (subst (λ (q : Pattern). task_row m t (record { tree = o.tree; patterns = q ∷ o.others }) ++ tasks_row m t o.todo ≡ rest) e o.row);
        }

    pub leaf_next : (a : ℕ) → Begun src now (Leaf a) → 1 < now.count → Pending src k frames now rest
        → AfterLeaf src k frames (Some (record { node = now.node; at = now.at + 2; count = now.count - 1 })) a rest
    leaf_next a b h p =
        let o = leaf_opened a b p in
        record {
          more = flat_map (λ p. tree_row (filled (parts_of m t o.tree) p)) o.others ++ tasks_row m t o.todo;
          first = o.row;
          goes_on = record {
            task = record { tree = o.tree; patterns = o.others };
            todo = o.todo;
            here = goes_on_with o.tree o.others (p_leaf a ∷ o.others) (0 ∷ a ∷ []) (now.count - 1) o.here refl o.here.well_formed.1 (omega (arith, o.here.counted)) (omega arith);
            stack = o.stack;
            high = o.high;
            row = refl;
          };
        }

    none_left : (xs : List Pattern) (c : ℕ) → c ≤ 1 → c ≡ suc (length xs) → xs ≡ []
    none_left [] c h e = refl
    none_left (x ∷ xs) c h e = absurd (omega arith)

    -- the last leaf of a frame
    leaf_last : (a : ℕ) → Begun src now (Leaf a) → now.count ≤ 1 → Pending src k frames now rest → (todo : List Task) × Stack src k frames.words.now frames.depth todo × (rest ≡ 0 ∷ a ∷ tasks_row m t todo)
    leaf_last a b h p =
        let o = leaf_opened a b p in
        let empty = none_left o.others now.count h o.here.counted in
        (o.todo, o.stack, o.row ∙ ap (λ (qs : List Pattern). 0 ∷ a ∷ (flat_map (λ p. tree_row (filled (parts_of m t o.tree) p)) qs ++ tasks_row m t o.todo)) empty)

    -- behind the last leaf of a frame comes what is popped
    pub leaf_popped : (a : ℕ) (new : Frames) (next : Option Frame) → Popped frames new next → Begun src now (Leaf a) → now.count ≤ 1 → Pending src k frames now rest → AfterLeaf src k new next a rest
    leaf_popped a new None pop b h p = let l = leaf_last a b h p in at_end l.0 l.1 l.2
      where
        at_end : (todo : List Task) → Stack src k frames.words.now frames.depth todo → rest ≡ 0 ∷ a ∷ tasks_row m t todo → AfterLeaf src k new None a rest
        at_end [] st e = record { more = []; first = e; goes_on = refl }
        at_end (x ∷ xs) st e = absurd (omega (arith, st.0, pop.0))
    leaf_popped a new (Some f) pop b h p = let l = leaf_last a b h p in at_frame l.0 l.1 l.2
      where
        at_frame : (todo : List Task) → Stack src k frames.words.now frames.depth todo → rest ≡ 0 ∷ a ∷ tasks_row m t todo → AfterLeaf src k new (Some f) a rest
        at_frame [] st e = absurd (omega (arith, pop.0, st))
        at_frame (x ∷ xs) st e =
            let is : frame_at frames.words.now (frames.depth - 1) ≡ f = sym (pop.3 ∙ ap (frame_at frames.words.now) pop.1) in
            record {
              more = tasks_row m t (x ∷ xs);
              first = e;
              goes_on = record {
                task = x;
                todo = xs;
                here = subst (λ (g : Frame). FrameKnown src k g x) is st.2;
                stack = subst (λ (w : List ℕ). Stack src k w new.depth xs) (sym pop.2) (subst (λ (d : ℕ). Stack src k frames.words.now d xs) (sym pop.1) st.3);
                high = subst (λ (g : Frame). new.depth ≤ g.node) is (omega (arith, pop.1, st.1));
                row = refl;
              };
            }

    -- a part: the tree is a node
    pub record AtPart (q : ℕ) (d : Part) : Type 0 where
      pub mark : ℕ
      pub first : Tree
      pub second : Tree
      pub others : List Pattern
      pub todo : List Task
      pub state_below : q < n
      pub here : FrameKnown src k now (record { tree = node mark first second; patterns = p_part q (side_of d) ∷ others })
      pub stack : Stack src k frames.words.now frames.depth todo
      pub high : frames.depth ≤ now.node
      pub row : task_row m t (record { tree = node mark first second; patterns = p_part q (side_of d) ∷ others }) ++ tasks_row m t todo ≡ rest

    pub at_part : (q : ℕ) (d : Part) → Begun src now (Made q d) → Pending src k frames now rest → AtPart q d
    at_part q d b p =
        let o = opened p in
        let e = (tells src.job.words.now now.at (Made q d) o.first _ b (first_words o)).0 in
        let f = subst (λ (z : Pattern). FrameKnown src k now (record { tree = o.tree; patterns = z ∷ o.others })) e o.here in
        let r = subst (λ (z : Pattern). task_row m t (record { tree = o.tree; patterns = z ∷ o.others }) ++ tasks_row m t o.todo ≡ rest) e o.row in
        let w = f.well_formed.0 in
        let x = is_node o.tree w.1 in
        record {
          mark = x.mark;
          first = x.first;
          second = x.second;
          others = o.others;
          todo = o.todo;
          state_below = w.0;
          here = subst (λ (z : Tree). FrameKnown src k now (record { tree = z; patterns = p_part q (side_of d) ∷ o.others })) x.same f;
          stack = o.stack;
          high = o.high;
          row = subst (λ (z : Tree). task_row m t (record { tree = z; patterns = p_part q (side_of d) ∷ o.others }) ++ tasks_row m t o.todo ≡ rest) x.same r;
        }

    module _ (q : ℕ) (d : Part) (b : Begun src now (Made q d)) (p : Pending src k frames now rest) where
      abbrev part_of : AtPart q d → Tree
      part_of o = part_tree d o.first o.second

      -- the row of the part, and of what comes behind it
      part_row : (o : AtPart q d) → (tree_row (filled (parts_of m t (part_of o)) (pattern_for m t (part_of o) q)) ++ flat_map (λ p. tree_row (filled (parts_of m t (node o.mark o.first o.second)) p)) o.others) ++ tasks_row m t o.todo ≡ rest
      part_row o =
          ap (λ (x : Tree). (tree_row x ++ flat_map (λ p. tree_row (filled (parts_of m t (node o.mark o.first o.second)) p)) o.others) ++ tasks_row m t o.todo)
          (made_filled m t (part_of o) q ∙ sym (part_made m t o.mark o.first o.second q d))
          ∙ o.row

      abbrev Entered : AtPart q d → Frame → Type 0
      Entered o f = FrameKnown src k f (record { tree = part_of o; patterns = pattern_for m t (part_of o) q ∷ [] })

      pub last_part : (f : Frame) → now.count ≡ 1 → now.node < f.node → Entered (at_part q d b p) f → Pending src k frames f rest
      last_part f c l e =
          let o = at_part q d b p in
          let empty = none_left o.others now.count (omega arith) o.here.counted in
          let r = subst (λ (qs : List Pattern). (tree_row (filled (parts_of m t (part_of o)) (pattern_for m t (part_of o) q)) ++ flat_map (λ p. tree_row (filled (parts_of m t (node o.mark o.first o.second)) p)) qs) ++ tasks_row m t o.todo ≡ rest) empty (part_row o) in
          record { task = record { tree = part_of o; patterns = pattern_for m t (part_of o) q ∷ [] }; todo = o.todo; here = e; stack = o.stack; high = omega (arith, o.high); row = r }

      pub first_part : (f : Frame) (new : Frames) → (now.count ≡ 1 → ⊥) → now.node < f.node → Entered (at_part q d b p) f
          → Pushed frames new (record { node = now.node; at = now.at + 3; count = now.count - 1 })
          → Pending src k new f rest
      first_part f new c l e push =
          let o = at_part q d b p in
          let x = node o.mark o.first o.second in
          let waits : Task = record { tree = x; patterns = o.others } in
          let below : new.depth - 1 ≡ frames.depth = omega (arith, push.depth) in
          let frame : frame_at new.words.now (new.depth - 1) ≡ record { node = now.node; at = now.at + 3; count = now.count - 1 } = ap (frame_at new.words.now) below ∙ push.saved.here in
          let kept : (j : ℕ) → j < frames.depth → frame_at new.words.now j ≡ frame_at frames.words.now j = λ j h. push.saved.others j (λ z. omega arith) in
          let some : 1 ≤ now.count - 1 = omega (arith, o.here.some, c) in
          record {
            task = record { tree = part_of o; patterns = pattern_for m t (part_of o) q ∷ [] };
            todo = waits ∷ o.todo;
            here = e;
            stack = (
              omega (arith, push.depth),
              subst (λ (z : Frame). new.depth - 1 ≤ z.node) (sym frame) (omega (arith, o.high, push.depth)),
              subst (λ (z : Frame). FrameKnown src k z waits) (sym frame)
                  (goes_on_with x o.others (p_part q (side_of d) ∷ o.others) (2 ∷ q ∷ side_word (side_of d) ∷ []) (now.count - 1) o.here refl o.here.well_formed.1 (omega (arith, o.here.counted)) some),
              subst (λ (z : ℕ). Stack src k new.words.now z o.todo) (sym below) (stack_kept frames.words.now new.words.now frames.depth o.todo kept o.stack),
            );
            high = omega (arith, o.high, push.depth);
            row = behind (tree_row (filled (parts_of m t (part_of o)) (pattern_for m t (part_of o) q))) (task_row m t waits) (tasks_row m t o.todo) (part_row o);
          }
        where
          behind : (a b c : List ℕ) → (a ++ b) ++ c ≡ rest → (a ++ []) ++ (b ++ c) ≡ rest
          behind a b c e = ap (λ (l : List ℕ). l ++ (b ++ c)) (append-nil a) ∙ sym (append_assoc a b c) ∙ e
