-- Where a pattern ends, from its first step and the ends of its parts; and that none stands there, from what is amiss.
-- A pattern that stands at a place begins with the step that stands there, so it is of that sort.
use Rattle.std.proofs.Common.{◌≡◌, ℕ, ◌+◌, ◌-◌, ◌<◌, ◌≤◌, max, Bool, true, false, ltb, ◌⊎◌, List, [], ◌∷◌, ◌++◌, drop, Some, None, Option, sym, ◌∙◌, subst, inl, inr, append_assoc, arith}
use mathlib.Core.List.{tail-eq_of_cons-eq}
use Rattle.std.specs.Bool.{then_some}
use Rattle.std.proofs.lemmas.Bool.{true≢false, ltb-true, ltb-false}
use Rattle.model.specs.Turns.{Pattern, p_leaf, p_node, p_part, depth}
use Rattle.model.specs.Rows.{side_word, pattern_row}
use Rattle.model.proofs.Prefix.{patterns_apart, side_words}
use Rattle.rows.specs.declared.steps.Part.{Part}
use Rattle.rows.specs.declared.steps.Step.{Step}
use Rattle.rows.specs.declared.steps.Step.TheVariants.{Leaf, Node, Made}
use Rattle.rows.specs.declared.patterns.Bounds.{Bounds}
use Rattle.rows.specs.Standing.{Absent, Ends}
use Rattle.rows.specs.Stepwise.{side_of, StepAt, PatternOk}
use Rattle.rows.proofs.Stood.{both}

pub as_step : (s : List ℕ) (at : ℕ) (x y : Step) → x ≡ y → StepAt s at (Some x) → StepAt s at (Some y)
as_step s at x y e h = subst (λ (z : Step). StepAt s at (Some z)) e h

depth_positive : (p : Pattern) → 1 ≤ depth p
depth_positive (p_leaf a) = omega arith
depth_positive (p_node a x y) = omega arith
depth_positive (p_part q d) = omega arith

-- what a step tells of the pattern that begins with it, before the words `rest`
abbrev pub Tells : List ℕ → ℕ → Step → Pattern → List ℕ → Type 0
Tells s at (Leaf a) p rest = (p ≡ p_leaf a) × (drop (at + 2) s ≡ rest)
Tells s at (Node a) p rest = (x : Pattern) × (y : Pattern) × (p ≡ p_node a x y) × (drop (at + 2) s ≡ pattern_row x ++ (pattern_row y ++ rest))
Tells s at (Made q d) p rest = (p ≡ p_part q (side_of d)) × (drop (at + 3) s ≡ rest)

pub tells : (s : List ℕ) (at : ℕ) (x : Step) (p : Pattern) (rest : List ℕ) → StepAt s at (Some x) → drop at s ≡ pattern_row p ++ rest → Tells s at x p rest
tells s at (Leaf a) (p_leaf b) rest st e = let e' = sym st.words ∙ e in (cc, cc)
tells s at (Leaf a) (p_node b y z) rest st e = let e' = sym st.words ∙ e in let i : ◌≡◌ {A = ℕ} 0 1 = cc in absurd (omega arith)
tells s at (Leaf a) (p_part q f) rest st e = let e' = sym st.words ∙ e in let i : ◌≡◌ {A = ℕ} 0 2 = cc in absurd (omega arith)
tells s at (Node a) (p_leaf b) rest st e = let e' = sym st.words ∙ e in let i : ◌≡◌ {A = ℕ} 0 1 = cc in absurd (omega arith)
tells s at (Node a) (p_node b y z) rest st e =
    let e' = sym st.words ∙ e in
    (y, z, cc, tail-eq_of_cons-eq (tail-eq_of_cons-eq e') ∙ append_assoc (pattern_row y) (pattern_row z) rest)
tells s at (Node a) (p_part q f) rest st e = let e' = sym st.words ∙ e in let i : ◌≡◌ {A = ℕ} 1 2 = cc in absurd (omega arith)
tells s at (Made q d) (p_leaf b) rest st e = let e' = sym st.words ∙ e in let i : ◌≡◌ {A = ℕ} 0 2 = cc in absurd (omega arith)
tells s at (Made q d) (p_node b y z) rest st e = let e' = sym st.words ∙ e in let i : ◌≡◌ {A = ℕ} 1 2 = cc in absurd (omega arith)
tells s at (Made q d) (p_part r f) rest st e =
    let e' = sym st.words ∙ e in
    let w : side_word f ≡ side_word (side_of d) = cc in
    let same = side_words f (side_of d) w in
    (cc, cc)

module _ (s : List ℕ) (at deep : ℕ) (b : Bounds) where
  pub none_deep : deep ≡ 0 → Absent pattern_row (PatternOk deep b) s at
  none_deep z p rest ok e = omega (arith, depth_positive p, ok.shallow)

  some_leaf : (a : ℕ) → StepAt s at (Some (Leaf a)) → 1 ≤ deep → a < b.marks → Ends pattern_row (PatternOk deep b) s at (Some (at + 2))
  some_leaf a st d h = (p_leaf a, record { well_formed = h; shallow = d }, st)

  none_leaf : (a : ℕ) → StepAt s at (Some (Leaf a)) → b.marks ≤ a → Absent pattern_row (PatternOk deep b) s at
  none_leaf a st h p rest ok e =
      let ok' = subst (PatternOk deep b) (tells s at (Leaf a) p rest st e).0 ok in omega (arith, ok'.well_formed)

  -- a leaf is a pattern exactly if its mark is one
  pub leaf_ends : (v : Bool) (a : ℕ) → StepAt s at (Some (Leaf a)) → 1 ≤ deep → v ≡ ltb a b.marks → Ends pattern_row (PatternOk deep b) s at (then_some v (at + 2))
  leaf_ends true a st d e = some_leaf a st d (ltb-true a b.marks (sym e))
  leaf_ends false a st d e = none_leaf a st (ltb-false a b.marks (sym e))

  pub some_made : (q : ℕ) (d : Part) → StepAt s at (Some (Made q d)) → 1 ≤ deep → b.parts ≡ true → q < b.states → Ends pattern_row (PatternOk deep b) s at (Some (at + 3))
  some_made q d st f p h = (p_part q (side_of d), record { well_formed = (h, p); shallow = f }, st)

  pub none_made : (q : ℕ) (d : Part) → StepAt s at (Some (Made q d)) → (b.parts ≡ false) ⊎ (b.states ≤ q) → Absent pattern_row (PatternOk deep b) s at
  none_made q d st h p rest ok e =
      let ok' = subst (PatternOk deep b) (tells s at (Made q d) p rest st e).0 ok in
      elim h [
        | inl n ↦ true≢false (sym ok'.well_formed.1 ∙ n)
        | inr n ↦ omega (arith, ok'.well_formed.0)
      ]

  module _ (a : ℕ) (st : StepAt s at (Some (Node a))) where
    -- the patterns of a node that stands at the place
    record Inner (p : Pattern) (rest : List ℕ) : Type 0 where
      first : Pattern
      second : Pattern
      words : drop (at + 2) s ≡ pattern_row first ++ (pattern_row second ++ rest)
      mark : a < b.marks
      first_ok : PatternOk (deep - 1) b first
      second_ok : PatternOk (deep - 1) b second

    inner : (p : Pattern) (rest : List ℕ) → PatternOk deep b p → drop at s ≡ pattern_row p ++ rest → Inner p rest
    inner p rest ok e =
        let t = tells s at (Node a) p rest st e in
        let x = t.0 in
        let y = t.1 in
        let ok' = subst (PatternOk deep b) t.2 ok in
        let w = ok'.well_formed in
        let d : 1 + max (depth x) (depth y) ≤ deep = ok'.shallow in
        record {
          first = x;
          second = y;
          words = t.3;
          mark = w.0;
          first_ok = record { well_formed = w.1; shallow = omega arith };
          second_ok = record { well_formed = w.2; shallow = omega arith };
        }

    pub none_mark : b.marks ≤ a → Absent pattern_row (PatternOk deep b) s at
    none_mark h p rest ok e = omega (arith, (inner p rest ok e).mark)

    pub none_first : Absent pattern_row (PatternOk (deep - 1) b) s (at + 2) → Absent pattern_row (PatternOk deep b) s at
    none_first absent p rest ok e = let i = inner p rest ok e in absent i.first (pattern_row i.second ++ rest) i.first_ok i.words

    module _ (mid : ℕ) (r : Ends pattern_row (PatternOk (deep - 1) b) s (at + 2) (Some mid)) where
      none_second : Absent pattern_row (PatternOk (deep - 1) b) s mid → Absent pattern_row (PatternOk deep b) s at
      none_second absent p rest ok e =
          let i = inner p rest ok e in
          let same = patterns_apart r.0 i.first (drop mid s) (pattern_row i.second ++ rest) (sym r.2.words ∙ i.words) in
          absent i.second rest i.second_ok same.1

      some_node : (end : ℕ) → 1 ≤ deep → a < b.marks → Ends pattern_row (PatternOk (deep - 1) b) s mid (Some end) → Ends pattern_row (PatternOk deep b) s at (Some end)
      some_node end d h q =
          let x = r.0 in
          let y = q.0 in
          let dx : depth x ≤ deep - 1 = r.1.shallow in
          let dy : depth y ≤ deep - 1 = q.1.shallow in (
            p_node a x y,
            record { well_formed = (h, r.1.well_formed, q.1.well_formed); shallow = omega arith },
            both s (1 ∷ a ∷ []) (pattern_row x ++ pattern_row y) at (at + 2) end st (both s (pattern_row x) (pattern_row y) (at + 2) mid end r.2 q.2),
          )

      -- a node is a pattern exactly if two stand behind it
      pub node_ends : (end : Option ℕ) → 1 ≤ deep → a < b.marks → Ends pattern_row (PatternOk (deep - 1) b) s mid end → Ends pattern_row (PatternOk deep b) s at end
      node_ends None d h q = none_second q
      node_ends (Some end) d h q = some_node end d h q
