-- Counted first, then written: what the two walks over the result come to.
-- A walk that stops early has put out fewer leaves and nodes than the result has, so that there is no room for it.
use Rattle.std.proofs.Common.{◌≡◌, ℕ, ◌*◌, ◌-◌, ◌^◌, ◌<◌, ◌≤◌, min, List, [], ◌++◌, length, drop, Ok, Err, Result, sym, refl, arith}
use Rattle.std.specs.Borrow.{MutBor}
use Rattle.std.proofs.lemmas.Bool.{true≢false}
use Rattle.std.specs.Result.{IsOk, IsErr}
use Rattle.transduce.specs.declared.source.Source.{Source}
use Rattle.transduce.specs.declared.walks.TooLong.{TooLong}
use Rattle.transduce.specs.Framed.{SourceKnown, result_row}
use Rattle.transduce.specs.Walks.{Walked}

-- a counter that began at 0 has counted these words to n
abbrev pub Counts : ℕ → List ℕ → Type 0
Counts n us = (lent : MutBor (List ℕ)) (ws : List ℕ) → 0 ≡ min (length ws) (2 ^ 64 - 1) → n ≡ min (length (ws ++ us)) (2 ^ 64 - 1)

-- a writer that began at 0 in what was lent has written these words
abbrev pub Writes : MutBor (List ℕ) → ℕ → MutBor (List ℕ) → List ℕ → Type 0
Writes first n last us = (lent : MutBor (List ℕ)) (ws : List ℕ)
    → (first.ghost_name ≡ lent.ghost_name) × (length ws ≤ length lent.now → (0 ≡ length ws) × (first.now ≡ ws ++ drop (length ws) lent.now))
    → (last.ghost_name ≡ lent.ghost_name) × (length (ws ++ us) ≤ length lent.now → (n ≡ length (ws ++ us)) × (last.now ≡ (ws ++ us) ++ drop (length (ws ++ us)) lent.now))

module _ (src : Source) (k : SourceKnown src) (n most : ℕ) where
  pub cut_short : (r : Result (Unit {0}) TooLong) → IsErr r → Walked src k most (Counts n) r → 2 * most < length (result_row src k)
  cut_short (Ok u) e w = absurd (true≢false (sym e))
  cut_short (Err x) e w = w.2

  pub all_counted : (lent : MutBor (List ℕ)) (r : Result (Unit {0}) TooLong) → IsOk r → Walked src k most (Counts n) r → n ≡ min (length (result_row src k)) (2 ^ 64 - 1)
  all_counted lent (Ok u) e w = w.0 lent [] (omega arith)
  all_counted lent (Err x) e w = absurd (true≢false (sym e))

  -- where there is room for all, all is written
  pub written : (first last : MutBor (List ℕ)) (r : Result (Unit {0}) TooLong) → Walked src k most (Writes first n last) r
      → length (result_row src k) ≤ 2 * most → length (result_row src k) ≤ length first.now
      → (last.ghost_name ≡ first.ghost_name) × (last.now ≡ result_row src k ++ drop (length (result_row src k)) first.now)
  written first last (Ok u) w l h = let all = w.0 first [] (refl, λ _. (omega arith, refl)) in (all.0, (all.1 h).1)
  written first last (Err x) w l h = absurd (omega (arith, w.2))
