-- A tree written from its links: the words that are written, and those of the trees whose ranks stand on the stack, are
-- together the tree's row; at the end the stack is empty.
use Rattle.std.proofs.Common.{◌≡◌, ℕ, ◌+◌, ◌-◌, ◌*◌, ◌<◌, ◌≤◌, List, [], ◌∷◌, ◌++◌, length, take, drop, set, sym, refl, ap, ◌∙◌, append_assoc, append-nil, arith, length-append}
use Rattle.std.proofs.lemmas.List.{drop-set, drop_all, take_at, drop_at}
use Rattle.model.specs.Trees.{Tree, size}
use Rattle.model.specs.Rows.{tree_row}
use Rattle.model.proofs.Prefix.{tree_words}
use Rattle.rows.specs.declared.trees.Item.{Item}
use Rattle.rows.specs.Subtrees.{item_row}
use Rattle.automata.specs.Classes.{at}
use Rattle.automata.specs.Links.{Link}
use Rattle.table.specs.declared.Table.{Table}
use Rattle.table.specs.Tables.{tree_at, ranked_at}
use Rattle.transduce.proofs.Putting.{Written, item_long}
use Rattle.verdict.specs.Ranked.{Holds, rows_of, Expanded, Placed}

pub record Underway (S : List Tree) (row : List ℕ) (used : ℕ) (orig out stack : List ℕ) : Type 0 where
  pub done : List ℕ
  pub holds : Written used orig out done
  pub whole : row ≡ done ++ rows_of S stack

-- how long the row of a ranked tree is
pub row_long : (S : List Tree) (t : Table) → Holds S t → (r : ℕ) → r < t.settled → (i : ℕ) → i ≡ ranked_at t r → (k : Link) → k ≡ tree_at t i → length (tree_row (at S r)) ≡ 2 * k.size
row_long S t held r h i e k f =
    let z : k.size ≡ size (at S r) = ap (λ (l : Link). l.size) (f ∙ ap (tree_at t) e) ∙ held.sized r (omega (arith, held.ranks)) in
    omega (arith, z, tree_words (at S r))

-- there is room for the row if there is for twice its size
pub room_for : (S : List Tree) (t : Table) → Holds S t → (r : ℕ) → r < t.settled → (i : ℕ) → i ≡ ranked_at t r → (k : Link) → k ≡ tree_at t i → (out : List ℕ) → 2 * k.size ≤ length out → length (tree_row (at S r)) ≤ length out
room_for S t held r h i e k f out z = omega (arith, row_long S t held r h i e k f, z)

pub one_rank : (s : List ℕ) (r : ℕ) → 0 < length s → drop (length s - 1) (set s (length s - 1) r) ≡ r ∷ []
one_rank s r h =
    drop-set s (length s - 1) r (omega arith) ∙ ap (λ (rest : List ℕ). r ∷ rest) (drop_all (length s - 1 + 1) s (omega arith))

module _ (S : List Tree) (row orig : List ℕ) (room : length row ≤ length orig) where
  pub begun : (stack : List ℕ) → row ≡ rows_of S stack → Underway S row 0 orig orig stack
  begun stack e = record { done = []; holds = λ _. (refl, refl); whole = e }

  module _ (used : ℕ) (out stack : List ℕ) (u : Underway S row used orig out stack) where
    fits : length u.done + length (rows_of S stack) ≤ length orig
    fits = omega (arith, ap length u.whole, length-append u.done (rows_of S stack))

    pub finished : stack ≡ [] → Placed row orig out used
    finished e =
        let is : row ≡ u.done = u.whole ∙ ap (λ (s : List ℕ). u.done ++ rows_of S s) e ∙ append-nil u.done in
        let h = u.holds (omega (arith, fits)) in
        let n : length u.done ≡ used = sym h.0 in
        record {
          words = h.0 ∙ ap length (sym is);
          written = ap (take used) h.1 ∙ take_at u.done (drop (length u.done) orig) used n ∙ sym is;
          rest = ap (drop used) h.1 ∙ drop_at u.done (drop (length u.done) orig) used n ∙ ap (λ (i : ℕ). drop i orig) n;
        }

    module _ (used' : ℕ) (out' stack' : List ℕ) (x : Item) (e : Expanded S stack stack' x)
        (put : (ws : List ℕ) → Written used orig out ws → Written used' orig out' (ws ++ item_row x)) where
      pub further : Underway S row used' orig out' stack'
      further = record {
        done = u.done ++ item_row x;
        holds = put u.done u.holds;
        whole = u.whole ∙ ap (λ (w : List ℕ). u.done ++ w) e.words ∙ sym (append_assoc u.done (item_row x) (rows_of S stack'));
      }

      pub more_used : (used < used') × (used' ≤ length orig)
      more_used =
          let long = fits in
          let rows = ap length e.words ∙ length-append (item_row x) (rows_of S stack') in
          let more = length-append u.done (item_row x) in
          let h = put u.done u.holds (omega (arith, long, rows, more, item_long x)) in
          (omega (arith, h.0, (u.holds (omega (arith, long))).0, more, item_long x), omega (arith, h.0, long, rows, more, item_long x))
