-- The signature of a leaf or a node of a known job, word by word: its patterns stand where the index says, and can be evaluated.
use Rattle.std.proofs.Common.{◌≡◌, ℕ, zero, suc, ◌+◌, ◌*◌, ◌<◌, Bool, true, false, List, length, get_or, sym, refl, ap, ◌∙◌, subst, add-one, arith}
use Rattle.std.specs.List.{range_with_len, AllByRecursion}
use Rattle.std.proofs.lemmas.Bool.{false≢true}
use Rattle.std.proofs.lemmas.Nat.{mul-add-lt}
use Rattle.std.proofs.lemmas.List.{ext_get_or, length-map}
use Rattle.std.proofs.lemmas.List.FromFn.{get_or-map-range_with_len}
use Rattle.std.proofs.ByRecursion.{All-get_or}
use Rattle.model.specs.Types.{TreeType}
use Rattle.model.specs.Turns.{Side, left, right, Pattern, p_leaf, p_node, p_part, Turn, pattern_place, WellFormedPattern}
use Rattle.model.specs.Jobs.{Shallow}
use Rattle.model.specs.Rows.{pattern_row}
use Rattle.rows.specs.declared.trees.Item.{Item}
use Rattle.rows.specs.declared.trees.Item.TheVariants.{Leaf, Node}
use Rattle.rows.specs.Numbered.{number}
use Rattle.rows.specs.Jobs.{Begins, Indexed, JobKnown, item_place}
use Rattle.rows.specs.Known.{to_of}
use Rattle.rows.proofs.Known.{job_known}
use Rattle.rows.specs.declared.jobs.KnownJob.{KnownJob}
use Rattle.signatures.specs.Signatures.{signature, pattern_kind, part_kind, no_part_kind, job_automaton}
use Rattle.signatures.specs.Parsing.{job_of}
use Rattle.signatures.specs.Evaluating.{Bounded, Evaluable, Signed, Signable, item_signature, item_pattern}
use Rattle.automata.specs.Automata.{Reached}
use Rattle.model.specs.Jobs.{made_by}
use Rattle.model.proofs.KindsBelow.{kind_below}
use Rattle.signatures.proofs.Computing.{computed, kind_of_state}
use Rattle.signatures.proofs.ParsedJobs.{turn_found, rows_found, length_counting}

-- a pattern without parts has one kind, whatever stands for parts
no_parts_same : (t : TreeType) (m n : ℕ) (f g : ℕ → Side → ℕ) (p : Pattern) → WellFormedPattern m n false p → pattern_kind t f p ≡ pattern_kind t g p
no_parts_same t m n f g (p_leaf a) w = refl
no_parts_same t m n f g (p_node a x y) w = let u = no_parts_same t m n f g x w.1 in let v = no_parts_same t m n f g y w.2 in cc
no_parts_same t m n f g (p_part q s) w = absurd (false≢true w.1)

bounded : (m n k : ℕ) (parts : Bool) (f : ℕ → Side → ℕ) (p : Pattern) → WellFormedPattern m n parts p → (parts ≡ true → (q : ℕ) (s : Side) → q < n → f q s < k) → Bounded m k f p
bounded m n k parts f (p_leaf a) w h = w
bounded m n k parts f (p_node a x y) w h = (w.0, bounded m n k parts f x w.1 h, bounded m n k parts f y w.2 h)
bounded m n k parts f (p_part q s) w h = h w.1 q s w.0

module _ (a : KnownJob) where
  abbrev k : JobKnown a.words.now a.index.now a.places
  k = job_known a

  -- one pattern of the turn, at its place
  ready : (parts : Bool) (t : Turn) (ps : List Pattern) (first i at : ℕ) (l r : List ℕ) → Indexed a.words.now a.index.now first ps → AllByRecursion (WellFormedPattern a.places.marks a.places.turn.states parts) ps → AllByRecursion Shallow ps
      → i < length ps → at ≡ number a.index.now (first + i) → (parts ≡ true → (q : ℕ) (s : Side) → q < a.places.turn.states → part_kind l r q s < a.places.to.kinds)
      → Evaluable a at 64 l r (get_or ps i (p_leaf 0))
  ready parts t ps first i at l r places formed shallow h e kinds = record {
    begins = subst (λ (z : ℕ). Begins a.words.now z (pattern_row (get_or ps i (p_leaf 0)))) (sym e) (places i h);
    shallow = All-get_or Shallow ps i (p_leaf 0) h shallow;
    bounded = bounded a.places.marks a.places.turn.states a.places.to.kinds parts (part_kind l r) (get_or ps i (p_leaf 0))
        (All-get_or (WellFormedPattern a.places.marks a.places.turn.states parts) ps i (p_leaf 0) h formed) kinds;
  }

  inside : (q b : ℕ) → q < a.places.turn.states → b < a.places.marks → pattern_place a.places.marks q b < k.turns.states * a.places.marks
  inside q b p h =
      let same : k.turns.states * a.places.marks ≡ a.places.turn.states * a.places.marks = ap (λ (n : ℕ). n * a.places.marks) k.states in
      omega (arith, mul-add-lt q a.places.marks b a.places.turn.states p h)

  as_states : (parts : Bool) (ps : List Pattern) → AllByRecursion (WellFormedPattern a.places.marks k.turns.states parts) ps → AllByRecursion (WellFormedPattern a.places.marks a.places.turn.states parts) ps
  as_states parts ps h = subst (λ (n : ℕ). AllByRecursion (WellFormedPattern a.places.marks n parts) ps) k.states h

  part_below : (l r : List ℕ) → Signed a l → Signed a r → (q : ℕ) (s : Side) → q < a.places.turn.states → part_kind l r q s < a.places.to.kinds
  part_below l r u v q left h = u.made q h
  part_below l r u v q right h = v.made q h

  pub item_ready : (item : Item) (l r : List ℕ) (q at : ℕ) → Signable a item l r → q < a.places.turn.states → at ≡ number a.index.now (item_place a.places item q) → Evaluable a at 64 l r (item_pattern a item q)
  item_ready (Leaf b) l r q at s h e =
      let w = k.rows.well_formed.turns in
      let i = pattern_place a.places.marks q b in
      subst (λ (t : Turn). Evaluable a at 64 l r (get_or t.on_leaf i (p_leaf 0))) (turn_found a k)
      (ready false k.turns k.turns.on_leaf 0 i at l r k.leaf_places (as_states false k.turns.on_leaf w.leaf_patterns) k.rows.limits.leaf_depths
      (omega (arith, w.leaf_count, inside q b h s)) (e ∙ ap (number a.index.now) (zero_plus i)) (λ z. absurd (false≢true z)))
    where
      zero_plus : (i : ℕ) → i ≡ 0 + i
      zero_plus i = omega arith
  item_ready (Node b) l r q at s h e =
      let w = k.rows.well_formed.turns in
      let i = pattern_place a.places.marks q b in
      subst (λ (t : Turn). Evaluable a at 64 l r (get_or t.on_node i (p_leaf 0))) (turn_found a k)
      (ready true k.turns k.turns.on_node (a.places.turn.states * a.places.marks) i at l r k.node_places (as_states true k.turns.on_node w.node_patterns) k.rows.limits.node_depths
      (omega (arith, w.node_count, inside q b h s.0)) e (λ _. part_below l r s.1 s.2))

  -- the kinds of a signature, from the second word on
  pub item_kind : (item : Item) (l r : List ℕ) (q : ℕ) → Signable a item l r → q < a.places.turn.states
      → get_or (item_signature a item l r) (q + 1) 0 ≡ pattern_kind (to_of a) (part_kind l r) (item_pattern a item q)
  item_kind (Leaf b) l r q s h =
      let t = to_of a in
      let w = k.rows.well_formed.turns in
      let i = pattern_place a.places.marks q b in
      let in_list : i < length k.turns.on_leaf = omega (arith, w.leaf_count, inside q b h s) in
      let formed = All-get_or (WellFormedPattern a.places.marks k.turns.states false) k.turns.on_leaf i (p_leaf 0) in_list w.leaf_patterns in
      let same : pattern_kind t (no_part_kind t) (item_pattern a (Leaf b) q) ≡ pattern_kind t (part_kind l r) (item_pattern a (Leaf b) q) =
      subst (λ (u : Turn). pattern_kind t (no_part_kind t) (get_or u.on_leaf i (p_leaf 0)) ≡ pattern_kind t (part_kind l r) (get_or u.on_leaf i (p_leaf 0))) (turn_found a k)
      (no_parts_same t a.places.marks k.turns.states (no_part_kind t) (part_kind l r) (get_or k.turns.on_leaf i (p_leaf 0)) formed) in
      ap (λ (i : ℕ). get_or (item_signature a (Leaf b) l r) i 0) (add-one q) ∙ get_or-map-range_with_len (λ q. pattern_kind t (no_part_kind t) (item_pattern a (Leaf b) q)) 0 a.places.turn.states q q 0 h (omega arith) ∙ same
  item_kind (Node b) l r q s h =
      let t = to_of a in
      ap (λ (i : ℕ). get_or (item_signature a (Node b) l r) i 0) (add-one q) ∙ get_or-map-range_with_len (λ q. pattern_kind t (part_kind l r) (item_pattern a (Node b) q)) 0 a.places.turn.states q q 0 h (omega arith)

  signature_long : (item : Item) (l r : List ℕ) → length (item_signature a item l r) ≡ a.places.turn.states + 1
  signature_long (Leaf b) l r = omega (arith, length-map (range_with_len 0 a.places.turn.states) (λ q. pattern_kind (to_of a) (no_part_kind (to_of a)) (item_pattern a (Leaf b) q)), length_counting 0 a.places.turn.states)
  signature_long (Node b) l r = omega (arith, length-map (range_with_len 0 a.places.turn.states) (λ q. pattern_kind (to_of a) (part_kind l r) (item_pattern a (Node b) q)), length_counting 0 a.places.turn.states)

  -- words that are those of the signature, one by one
  pub signed_all : (item : Item) (l r out : List ℕ) → length out ≡ a.places.turn.states + 1 → get_or out 0 0 ≡ get_or (item_signature a item l r) 0 0
      → ((q : ℕ) → q < a.places.turn.states → get_or out (q + 1) 0 ≡ get_or (item_signature a item l r) (q + 1) 0) → out ≡ item_signature a item l r
  signed_all item l r out n e f = ext_get_or 0 out (item_signature a item l r) (n ∙ sym (signature_long item l r)) each
    where
      each : (i : ℕ) → i < length out → get_or out i 0 ≡ get_or (item_signature a item l r) i 0
      each zero h = e
      each (suc i) h = ap (λ (z : ℕ). get_or out z 0) (sym (add-one i)) ∙ f i (omega arith) ∙ ap (λ (z : ℕ). get_or (item_signature a item l r) z 0) (add-one i)

  -- a signature that some tree has
  pub reached_signed : (l : List ℕ) → Reached (job_automaton (job_of a)) l → Signed a l
  reached_signed l x =
      let j = job_of a in
      let w = (rows_found a k).well_formed in
      let is : l ≡ signature j x.tree = x.signed ∙ computed j w x.tree in
      subst (Signed a) (sym is)
      (record {
        first = kind_below j.marks j.from w.first x.tree;
        made = λ q h. omega (arith, kind_of_state j x.tree q h, kind_below j.marks j.to w.second (made_by j x.tree q));
      })
