-- What is parsed from the words of a known job is that job: a pattern's row is parsed to the pattern, by induction on it.
use Rattle.std.proofs.Common.{◌≡◌, ℕ, zero, suc, ◌+◌, ◌*◌, ◌<◌, ◌≤◌, List, ◌++◌, length, get_or, drop, sym, refl, ap, ◌∙◌, subst, append_assoc, arith}
use Rattle.std.specs.List.{range_with_len, AllByRecursion}
use Rattle.std.proofs.lemmas.List.{ext_get_or, get_or-map, length-map}
use Rattle.std.proofs.ByRecursion.{All-get_or}
use Rattle.model.specs.Turns.{Side, left, right, Pattern, p_leaf, p_node, p_part, Turn, depth}
use Rattle.model.specs.Jobs.{Shallow}
use Rattle.model.specs.Rows.{side_word, pattern_row, Rows}
use Rattle.rows.specs.Numbered.{number}
use Rattle.rows.specs.Jobs.{Indexed, JobKnown, job_in}
use Rattle.rows.specs.declared.jobs.KnownJob.{KnownJob}
use Rattle.signatures.specs.Parsing.{word_side, Parsed, parse, patterns_in, turn_in, job_of}

side_again : (d : Side) → word_side (side_word d) ≡ d
side_again left = refl
side_again right = refl

parse_row : (n : ℕ) (p : Pattern) (rest : List ℕ) → depth p ≤ n → parse n (pattern_row p ++ rest) ≡ record { pattern = p; rest = rest }
unfolding parse
parse_row zero (p_leaf a) rest h = absurd (omega arith)
parse_row zero (p_node a x y) rest h = absurd (omega arith)
parse_row zero (p_part q d) rest h = absurd (omega arith)
parse_row (suc n) (p_leaf a) rest h = refl
parse_row (suc n) (p_node a x y) rest h =
    let again = λ (s : List ℕ). let u = parse n s in let v = parse n u.rest in ◌≡◌ {A = Parsed} (record { pattern = p_node a u.pattern v.pattern; rest = v.rest }) (record { pattern = p_node a x y; rest = rest }) in
    subst again (sym (append_assoc (pattern_row x) (pattern_row y) rest))
    (joined (parse_row n x (pattern_row y ++ rest) (omega arith)) (parse_row n y rest (omega arith)))
  where
    joined : {u : Parsed} → u ≡ record { pattern = x; rest = pattern_row y ++ rest } → parse n (pattern_row y ++ rest) ≡ record { pattern = y; rest = rest }
        → ◌≡◌ {A = Parsed} (record { pattern = p_node a u.pattern (parse n u.rest).pattern; rest = (parse n u.rest).rest }) (record { pattern = p_node a x y; rest = rest })
    joined {u} e f =
        ap (λ (w : Parsed). record { pattern = p_node a w.pattern (parse n w.rest).pattern; rest = (parse n w.rest).rest }) e
        ∙ ap (λ (w : Parsed). record { pattern = p_node a x w.pattern; rest = w.rest }) f
parse_row (suc n) (p_part q d) rest h = ap (λ (s : Side). record { pattern = p_part q s; rest = rest }) (side_again d)

pub length_counting : (a n : ℕ) → length (range_with_len a n) ≡ n
length_counting a zero = refl
length_counting a (suc n) = ap suc (length_counting (a + 1) n)

getD_counting : (a n i : ℕ) → i < n → get_or (range_with_len a n) i 0 ≡ a + i
getD_counting a zero i h = absurd (omega arith)
getD_counting a (suc n) zero h = omega arith
getD_counting a (suc n) (suc i) h = getD_counting (a + 1) n i (omega arith) ∙ omega arith

patterns_found : (s index : List ℕ) (first count : ℕ) (ps : List Pattern) → length ps ≡ count → AllByRecursion Shallow ps → Indexed s index first ps → ps ≡ patterns_in s index first count
patterns_found s index first count ps l shallow f =
    ext_get_or (p_leaf 0) ps (patterns_in s index first count) (l ∙ sym (length-map (range_with_len 0 count) _ ∙ length_counting 0 count)) (λ i h.
    let inside : i < count = omega arith in
    let st = f i h in
    let p = get_or ps i (p_leaf 0) in
    let parsed : (parse 64 (drop (number index (first + i)) s)).pattern ≡ p = ap (λ (w : List ℕ). (parse 64 w).pattern) st.words ∙ ap (λ (w : Parsed). w.pattern) (parse_row 64 p _ (All-get_or Shallow ps i (p_leaf 0) h shallow)) in
    let place : get_or (range_with_len 0 count) i 0 ≡ i = getD_counting 0 count i inside ∙ omega arith in
    sym (get_or-map (λ k. (parse 64 (drop (number index (first + k)) s)).pattern) (range_with_len 0 count) i 0 (p_leaf 0) (omega (arith, length_counting 0 count))
    ∙ ap (λ (k : ℕ). (parse 64 (drop (number index (first + k)) s)).pattern) place ∙ parsed))

-- the turn of a known job
pub turn_found : (a : KnownJob) (k : JobKnown a.words.now a.index.now a.places) → k.turns ≡ turn_in a
turn_found a k =
    let w = k.rows.well_formed.turns in
    let l = k.rows.limits in
    let many : k.turns.states * a.places.marks ≡ a.places.turn.states * a.places.marks = ap (λ (n : ℕ). n * a.places.marks) k.states in
    let leaves = patterns_found a.words.now a.index.now 0 _ k.turns.on_leaf (w.leaf_count ∙ many) l.leaf_depths k.leaf_places in
    let nodes = patterns_found a.words.now a.index.now (a.places.turn.states * a.places.marks) _ k.turns.on_node (w.node_count ∙ many) l.node_depths k.node_places in
    λ i. record { states = k.states i; on_leaf = leaves i; on_node = nodes i }

pub rows_found : (a : KnownJob) → JobKnown a.words.now a.index.now a.places → Rows a.words.now (job_of a)
rows_found a k = subst (λ (t : Turn). Rows a.words.now (job_in a.words.now a.places t)) (turn_found a k) k.rows
