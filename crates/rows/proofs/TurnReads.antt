-- Turns at a place: the number of states, then two lists of patterns, each of which is found or is absent.
-- What the index notes of the first list lasts while the second is noted behind it.
use Rattle.std.proofs.Common.{◌≡◌, ℕ, ◌+◌, ◌-◌, ◌*◌, ◌<◌, ◌≤◌, Bool, true, false, ◌⊎◌, List, [], ◌∷◌, ◌++◌, length, get_or, drop, Some, sym, refl, ap, ◌∙◌, subst, inl, inr, append_assoc, arith, length-append, length-drop}
use Rattle.std.specs.List.{AllByRecursion}
use Rattle.std.proofs.ByRecursion.{All-weaker}
use Rattle.model.specs.Turns.{Pattern, p_leaf, p_node, p_part, Turn, WellFormedPattern}
use Rattle.model.specs.Jobs.{Shallow}
use Rattle.model.specs.Rows.{pattern_row, patterns_row, turn_row}
use Rattle.model.proofs.Prefix.{patterns_apart, joined_apart}
use Rattle.rows.specs.declared.patterns.Bounds.{Bounds}
use Rattle.rows.specs.Standing.{Absent}
use Rattle.rows.specs.Stepwise.{PatternOk}
use Rattle.rows.specs.Jobs.{Begins, PatternsOk, PatternsKnown, TurnOk, TurnRead}
use Rattle.rows.proofs.Stood.{uncons, one, both}

-- two facts of each element are one
all_both : {A : Type 0} (P Q R : A → Type 0) → ((x : A) → P x → Q x → R x) → (xs : List A) → AllByRecursion P xs → AllByRecursion Q xs → AllByRecursion R xs
all_both P Q R f [] p q = tt
all_both P Q R f (x ∷ xs) p q = (f x p.0 q.0, all_both P Q R f xs p.1 q.1)

-- a pattern has at least two words
pub pattern_long : (p : Pattern) → 2 ≤ length (pattern_row p)
pattern_long (p_leaf a) = omega arith
pattern_long (p_node a x y) = omega arith
pattern_long (p_part q d) = omega arith

pub patterns_long : (ps : List Pattern) → 2 * length ps ≤ length (patterns_row ps)
patterns_long [] = omega arith
patterns_long (p ∷ ps) = omega (arith, length-append (pattern_row p) (patterns_row ps), pattern_long p, patterns_long ps)

abbrev bounds : ℕ → ℕ → Bool → Bounds
bounds m n parts = record { marks = m; states = n; parts = parts }

patterns_ok : (m n k : ℕ) (parts : Bool) (ps : List Pattern) → length ps ≡ k → AllByRecursion (WellFormedPattern m n parts) ps → AllByRecursion Shallow ps → PatternsOk k (bounds m n parts) ps
patterns_ok m n k parts ps l w d = record {
  long = l;
  each = all_both (WellFormedPattern m n parts) Shallow (PatternOk 64 (bounds m n parts)) (λ p a b. record { well_formed = a; shallow = b }) ps w d;
}

module _ (s : List ℕ) (at m : ℕ) where
  -- the patterns of a turn whose row stands at the place, with n states
  record Whole (n : ℕ) (t : Turn) (rest : List ℕ) : Type 0 where
    within : at < length s
    few : (1 ≤ n) × (n ≤ 64)
    words : drop (at + 1) s ≡ patterns_row t.on_leaf ++ (patterns_row t.on_node ++ rest)
    leaves : PatternsOk (n * m) (bounds m n false) t.on_leaf
    nodes : PatternsOk (n * m) (bounds m n true) t.on_node

  whole : (n : ℕ) (t : Turn) (rest : List ℕ) → get_or s at 0 ≡ n → TurnOk m t → drop at s ≡ turn_row t ++ rest → Whole n t rest
  whole n t rest e ok d =
      let f = uncons s at (at + 1) t.states ((patterns_row t.on_leaf ++ patterns_row t.on_node) ++ rest) refl d in
      let same : t.states ≡ n = sym f.word ∙ e in
      let w = ok.well_formed in
      let as_n : (k : ℕ) (parts : Bool) (ps : List Pattern) → AllByRecursion (WellFormedPattern m t.states parts) ps → AllByRecursion (WellFormedPattern m n parts) ps = λ k parts ps h. subst (λ (x : ℕ). AllByRecursion (WellFormedPattern m x parts) ps) same h in
      let many : t.states * m ≡ n * m = ap (λ (x : ℕ). x * m) same in
      record {
        within = f.within;
        few = (omega (arith, w.some_state), omega (arith, ok.few_states));
        words = f.rest ∙ append_assoc (patterns_row t.on_leaf) (patterns_row t.on_node) rest;
        leaves = patterns_ok m n (n * m) false t.on_leaf (w.leaf_count ∙ many) (as_n 0 false t.on_leaf w.leaf_patterns) ok.leaf_depths;
        nodes = patterns_ok m n (n * m) true t.on_node (w.node_count ∙ many) (as_n 0 true t.on_node w.node_patterns) ok.node_depths;
      }

  pub none_short : length s ≤ at → Absent turn_row (TurnOk m) s at
  none_short h t rest ok d = let w = whole (get_or s at 0) t rest refl ok d in omega (arith, w.within)

  module _ (n : ℕ) (e : get_or s at 0 ≡ n) where
    pub none_states : (n ≡ 0) ⊎ (64 < n) → Absent turn_row (TurnOk m) s at
    none_states h t rest ok d = let w = whole n t rest e ok d in elim h [ inl z ↦ omega (arith, w.few) | inr z ↦ omega (arith, w.few) ]

    pub none_room : length s < 4 * (n * m) → Absent turn_row (TurnOk m) s at
    none_room h t rest ok d =
        let w = whole n t rest e ok d in
        let l = patterns_row t.on_leaf in
        let r = patterns_row t.on_node in
        let long : length s - (at + 1) ≡ length (l ++ (r ++ rest)) = sym (length-drop (at + 1) s) ∙ ap length w.words in
        omega (arith, length-append l (r ++ rest), length-append r rest, patterns_long t.on_leaf, patterns_long t.on_node, w.leaves.long, w.nodes.long)

    pub none_leaves : Absent patterns_row (PatternsOk (n * m) (bounds m n false)) s (at + 1) → Absent turn_row (TurnOk m) s at
    none_leaves absent t rest ok d = let w = whole n t rest e ok d in absent t.on_leaf _ w.leaves w.words

    module _ (old mid : List ℕ) (p : ℕ) (l : PatternsKnown s old mid (at + 1) p 0 (n * m) (bounds m n false)) where
      pub none_nodes : Absent patterns_row (PatternsOk (n * m) (bounds m n true)) s p → Absent turn_row (TurnOk m) s at
      none_nodes absent t rest ok d =
          let w = whole n t rest e ok d in
          let behind = (joined_apart pattern_row patterns_apart l.patterns t.on_leaf (drop p s) (patterns_row t.on_node ++ rest) (l.ok.long ∙ sym w.leaves.long) (sym l.stands.words ∙ w.words)).1 in
          absent t.on_node rest w.nodes behind

      pub some_turn : (new : List ℕ) (z : ℕ) → at < length s → 1 ≤ n → n ≤ 64 → 4 * (n * m) ≤ length new → PatternsKnown s mid new p z (n * m) (n * m) (bounds m n true)
          → TurnRead s new m at (Some (record { states = n; end = z }))
      some_turn new z in_s low high room r =
          let ls = l.patterns in
          let rs = r.patterns in
          let formed : (parts : Bool) (ps : List Pattern) → AllByRecursion (PatternOk 64 (bounds m n parts)) ps → AllByRecursion (WellFormedPattern m n parts) ps =
          λ parts ps h. All-weaker (PatternOk 64 (bounds m n parts)) (WellFormedPattern m n parts) (λ p o. o.well_formed) ps h in
          let deep : (parts : Bool) (ps : List Pattern) → AllByRecursion (PatternOk 64 (bounds m n parts)) ps → AllByRecursion Shallow ps =
          λ parts ps h. All-weaker (PatternOk 64 (bounds m n parts)) Shallow (λ p o. o.shallow) ps h in
          record {
            turns = record { states = n; on_leaf = ls; on_node = rs };
            ok = record {
              well_formed = record {
                some_state = low;
                leaf_count = l.ok.long;
                node_count = r.ok.long;
                leaf_patterns = formed false ls l.ok.each;
                node_patterns = formed true rs r.ok.each;
              };
              few_states = high;
              leaf_depths = deep false ls l.ok.each;
              node_depths = deep true rs r.ok.each;
            };
            states = refl;
            room = room;
            stands = both s (n ∷ []) (patterns_row ls ++ patterns_row rs) at (at + 1) z (one s at (at + 1) n refl in_s e) (both s (patterns_row ls) (patterns_row rs) (at + 1) p z l.stands r.stands);
            leaf_places = λ i h.
                let below : 0 + i < n * m = omega (arith, l.ok.long) in
                subst (λ (x : ℕ). Begins s x (pattern_row (get_or ls i (p_leaf 0)))) (sym (r.kept (0 + i) below)) (l.indexed i h);
            node_places = r.indexed;
          }
