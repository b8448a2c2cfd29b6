-- One step of evaluating a pattern: the step that stands at its place tells of which sort it is, and its patterns stand behind.
use Rattle.std.proofs.Common.{◌≡◌, ℕ, ◌+◌, ◌-◌, ◌<◌, ◌≤◌, max, List, length, Some, None, Option, sym, refl, ◌∙◌, subst, arith, length-append}
use Rattle.model.specs.Types.{TreeType, kind_of_leaf, kind_of_node}
use Rattle.model.specs.Turns.{Pattern, p_leaf, p_node, p_part, depth}
use Rattle.model.specs.Rows.{pattern_row}
use Rattle.std.specs.Option.{IsSome}
use Rattle.rows.specs.declared.steps.Part.{Part}
use Rattle.rows.specs.declared.steps.Step.{Step}
use Rattle.rows.specs.declared.steps.Step.TheVariants.{Leaf, Node, Made}
use Rattle.rows.specs.Stepwise.{side_of, StepAt}
use Rattle.rows.specs.Known.{to_of}
use Rattle.rows.proofs.Stood.{past, stands}
use Rattle.rows.proofs.PatternEnds.{tells}
use Rattle.rows.proofs.TurnReads.{pattern_long}
use Rattle.rows.specs.declared.jobs.KnownJob.{KnownJob}
use Rattle.signatures.specs.Signatures.{pattern_kind, part_kind}
use Rattle.signatures.specs.Evaluating.{Evaluable, Evaluates}

pub step_found : (s : List ℕ) (at : ℕ) (r : Option Step) (x : Step) → r ≡ Some x → StepAt s at r → StepAt s at (Some x)
step_found s at r x e h = subst (StepAt s at) e h

module _ (a : KnownJob) (at deep : ℕ) (l r : List ℕ) where
  pub some_step : (p : Pattern) → Evaluable a at deep l r p → (x : Option Step) → StepAt a.words.now at x → IsSome x
  some_step p e None absent = absurd (absent p _ tt e.begins.words)
  some_step p e (Some x) st = refl

  -- a pattern that begins with a leaf or a part
  as_leaf : (b : ℕ) → StepAt a.words.now at (Some (Leaf b)) → (p : Pattern) → Evaluable a at deep l r p → p ≡ p_leaf b
  as_leaf b st p e = (tells a.words.now at (Leaf b) p _ st e.begins.words).0

  pub leaf_mark : (b : ℕ) → StepAt a.words.now at (Some (Leaf b)) → (p : Pattern) → Evaluable a at deep l r p → b < a.places.marks
  leaf_mark b st p e = (subst (Evaluable a at deep l r) (as_leaf b st p e) e).bounded

  pub leaf_value : (b v : ℕ) → StepAt a.words.now at (Some (Leaf b)) → v ≡ kind_of_leaf (to_of a) b → v < a.places.to.kinds
      → (p : Pattern) → Evaluable a at deep l r p → Evaluates a at l r p (record { kind = v; end = at + 2 })
  leaf_value b v st i h p e =
      subst (λ (x : Pattern). Evaluates a at l r x (record { kind = v; end = at + 2 })) (sym (as_leaf b st p e))
      (record { value = i; below = h; ends = refl })

  pub part_value : (q v : ℕ) (d : Part) → StepAt a.words.now at (Some (Made q d)) → v ≡ part_kind l r q (side_of d)
      → (p : Pattern) → Evaluable a at deep l r p → Evaluates a at l r p (record { kind = v; end = at + 3 })
  part_value q v d st i p e =
      let same : p ≡ p_part q (side_of d) = (tells a.words.now at (Made q d) p _ st e.begins.words).0 in
      let e' = subst (Evaluable a at deep l r) same e in
      subst (λ (x : Pattern). Evaluates a at l r x (record { kind = v; end = at + 3 })) (sym same)
      (record { value = i; below = omega (arith, e'.bounded); ends = refl })

  -- a node and its two patterns
  pub record Inner (b : ℕ) (p : Pattern) : Type 0 where
    pub first : Pattern
    pub second : Pattern
    pub same : p ≡ p_node b first second
    pub mark : b < a.places.marks
    pub deeper : 1 ≤ deep
    pub first_ready : Evaluable a (at + 2) (deep - 1) l r first
    pub second_ready : Evaluable a (at + 2 + length (pattern_row first)) (deep - 1) l r second

  pub inner : (b : ℕ) → StepAt a.words.now at (Some (Node b)) → (p : Pattern) → Evaluable a at deep l r p → Inner b p
  inner b st p e =
      let t = tells a.words.now at (Node b) p _ st e.begins.words in
      let x = t.0 in
      let y = t.1 in
      let e' = subst (Evaluable a at deep l r) t.2 e in
      let d : 1 + max (depth x) (depth y) ≤ deep = e'.shallow in
      let fx = stands a.words.now (pattern_row x) _ (at + 2) (omega (arith, pattern_long x)) t.3 in
      let fy = stands a.words.now (pattern_row y) _ (at + 2 + length (pattern_row x)) (omega (arith, pattern_long y)) (past a.words.now (pattern_row x) _ (at + 2) t.3) in
      record {
        first = x;
        second = y;
        same = t.2;
        mark = e'.bounded.0;
        deeper = omega arith;
        first_ready = record { begins = fx; shallow = omega arith; bounded = e'.bounded.1 };
        second_ready = record { begins = fy; shallow = omega arith; bounded = e'.bounded.2 };
      }

  pub node_value : (b v u w : ℕ) → StepAt a.words.now at (Some (Node b)) → (mid end : ℕ)
      → ((x : Pattern) → Evaluable a (at + 2) (deep - 1) l r x → Evaluates a (at + 2) l r x (record { kind = u; end = mid }))
      → ((y : Pattern) → Evaluable a mid (deep - 1) l r y → Evaluates a mid l r y (record { kind = w; end = end }))
      → v ≡ kind_of_node (to_of a) b u w → v < a.places.to.kinds
      → (p : Pattern) → Evaluable a at deep l r p → Evaluates a at l r p (record { kind = v; end = end })
  node_value b v u w st mid end f g i h p e =
      let n = inner b st p e in
      let fx = f n.first n.first_ready in
      let gy = g n.second (subst (λ (z : ℕ). Evaluable a z (deep - 1) l r n.second) (sym fx.ends) n.second_ready) in
      let t = to_of a in
      let kinds : kind_of_node t b u w ≡ kind_of_node t b (pattern_kind t (part_kind l r) n.first) (pattern_kind t (part_kind l r) n.second) =
      same_kinds t b fx.value gy.value in
      subst (λ (x : Pattern). Evaluates a at l r x (record { kind = v; end = end })) (sym n.same)
      (record {
        value = i ∙ kinds;
        below = h;
        ends = omega (arith, fx.ends, gy.ends, length-append (pattern_row n.first) (pattern_row n.second));
      })
    where
      same_kinds : (t : TreeType) (b : ℕ) {u u' w w' : ℕ} → u ≡ u' → w ≡ w' → kind_of_node t b u w ≡ kind_of_node t b u' w'
      same_kinds t b e f = cc
