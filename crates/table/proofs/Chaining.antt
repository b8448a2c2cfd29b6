-- A look-up goes down a chain, and what it has not met yet lies below its cursor; a new row becomes the first of its chain.
-- Both follow from each row's next one being the last before it in the same chain.
use Rattle.std.proofs.Common.{◌≡◌, ℕ, ◌+◌, ◌-◌, ◌<◌, ◌≤◌, ◌≢◌, ◌⊎◌, List, length, get_or, set, sym, refl, ap, ◌∙◌, subst, inl, inr, mod-lt, arith}
use native.Mathlib.Decide.{ℕ_discrete, dec_lt}
use Rattle.std.proofs.lemmas.List.{get_or-set_same, get_or-set_other, length-set}
use Rattle.table.specs.declared.Table.{Table}
use Rattle.table.specs.Rows.{row, Written}
use Rattle.table.specs.Tables.{sig_at}
use Rattle.table.specs.Chains.{mixed, bucket, Chained, Chains}

pub bucket_below : (chains : ℕ) (xs : List ℕ) → 0 < chains → bucket chains xs < chains
unfolding bucket
bucket_below chains xs h = mod-lt (mixed 0 xs) h

-- Looking for a key: the cursor, counted from one, is in its chain, and a row that has the key is below it.

pub record Looking (t : Table) (key : List ℕ) (cursor : ℕ) : Type 0 where
  pub within : cursor ≤ t.count
  pub below : (i : ℕ) → i < t.count → sig_at t i ≡ key → i < cursor
  pub belongs : (k : ℕ) → k + 1 ≡ cursor → bucket (length t.heads.now) (sig_at t k) ≡ bucket (length t.heads.now) key

module _ (t : Table) (key : List ℕ) (chains : Chains t) where
  pub look_start : (c : ℕ) → c ≡ get_or t.heads.now (bucket (length t.heads.now) key) 0 → Looking t key c
  look_start c e = record {
    within = omega (arith, e, chains.head_within b below_all);
    below = λ i h r. omega (arith, e, ap (λ (xs : List ℕ). get_or t.heads.now (bucket (length t.heads.now) xs) 0) r, chains.head_last i h);
    belongs = λ k h. let q : k ≡ get_or t.heads.now b 0 - 1 = omega (arith, e, h) in
        ap (λ (j : ℕ). bucket (length t.heads.now) (sig_at t j)) q ∙ chains.head_belongs b below_all (omega (arith, e, h));
  }
    where
      b : ℕ
      b = bucket (length t.heads.now) key

      below_all : b < length t.heads.now
      below_all = bucket_below (length t.heads.now) key t.for_heads

  -- row k, at the cursor c, has another signature, and d is the next
  pub look_turn : (c k d : ℕ) → k + 1 ≡ c → sig_at t k ≢ key → d ≡ get_or t.nexts.now k 0 → Looking t key c → Looking t key d
  look_turn c k d h miss e l = record {
    within = omega (arith, e, chains.next_before k lt, lt);
    below = λ i u r. let v : i < k = before i u r in omega (arith, e, chains.next_last i k v lt (ap (bucket (length t.heads.now)) r ∙ sym (l.belongs k h)));
    belongs = λ j u. let q : j ≡ get_or t.nexts.now k 0 - 1 = omega (arith, e, u) in
        ap (λ (i : ℕ). bucket (length t.heads.now) (sig_at t i)) q ∙ (chains.next_belongs k lt (omega (arith, e, u)) ∙ l.belongs k h);
  }
    where
      lt : k < t.count
      lt = omega (arith, l.within)

      before : (i : ℕ) → i < t.count → sig_at t i ≡ key → i < k
      before i u r =
          elim (ℕ_discrete i k) [
            | yes q ↦ absurd (miss (ap (sig_at t) (sym q) ∙ r))
            | no q ↦ elim (dec_lt i k) [ yes v ↦ v | no v ↦ absurd (q (omega (arith, l.below i u r))) ]
          ]

-- A new row.

module _ (n count : ℕ) (f f' : ℕ → ℕ) (heads heads' nexts nexts' : List ℕ) (ch : Chained n count f heads nexts) (b : ℕ)
    (b_below : b < n) (long : n ≤ length heads) (free : count < length nexts)
    (old : (i : ℕ) → i < count → f' i ≡ f i) (new : f' count ≡ b)
    (heads_are : heads' ≡ set heads b (count + 1)) (nexts_are : nexts' ≡ set nexts count (get_or heads b 0)) where
  upto : (i : ℕ) → i < count + 1 → (i < count) ⊎ (i ≡ count)
  upto i h = elim (dec_lt i count) [ yes u ↦ inl u | no u ↦ inr (omega arith) ]

  head_here : (j : ℕ) → j ≡ b → get_or heads' j 0 ≡ count + 1
  head_here j e =
      ap (λ (xs : List ℕ). get_or xs j 0) heads_are
      ∙ (ap (λ (i : ℕ). get_or (set heads b (count + 1)) i 0) e ∙ get_or-set_same heads b (count + 1) 0 (omega arith))

  head_other : (j : ℕ) → j ≢ b → get_or heads' j 0 ≡ get_or heads j 0
  head_other j q = ap (λ (xs : List ℕ). get_or xs j 0) heads_are ∙ get_or-set_other heads b j (count + 1) 0 q

  next_old : (k : ℕ) → k < count → get_or nexts' k 0 ≡ get_or nexts k 0
  next_old k h = ap (λ (xs : List ℕ). get_or xs k 0) nexts_are ∙ get_or-set_other nexts count k (get_or heads b 0) 0 (λ e. omega arith)

  next_new : (k : ℕ) → k ≡ count → get_or nexts' k 0 ≡ get_or heads b 0
  next_new k e =
      ap (λ (xs : List ℕ). get_or xs k 0) nexts_are
      ∙ (ap (λ (i : ℕ). get_or (set nexts count (get_or heads b 0)) i 0) e ∙ get_or-set_same nexts count (get_or heads b 0) 0 free)

  -- a row counted from one that was within stays in its chain
  stays : (p q : ℕ) → q ≡ p → 0 < p → p ≤ count → (j : ℕ) → f (p - 1) ≡ j → f' (q - 1) ≡ j
  stays p q e h l j g = let d : q - 1 ≡ p - 1 = omega arith in ap f' d ∙ (old (p - 1) (omega arith) ∙ g)

  pub chain_more : Chained n (count + 1) f' heads' nexts'
  chain_more = record {
    head_last = λ k h. elim (upto k h) [
      | inl u ↦ elim (ℕ_discrete (f k) b) [
        | yes e ↦ omega (arith, head_here (f' k) (old k u ∙ e))
        | no q ↦ omega (arith, head_other (f' k) (λ e. q (sym (old k u) ∙ e)), ap (λ (j : ℕ). get_or heads j 0) (old k u), ch.head_last k u)
      ]
      | inr e ↦ omega (arith, head_here (f' k) (ap f' e ∙ new))
    ];
    head_within = λ j h. elim (ℕ_discrete j b) [
      | yes e ↦ omega (arith, head_here j e)
      | no q ↦ omega (arith, head_other j q, ch.head_within j h)
    ];
    head_belongs = λ j h p. elim (ℕ_discrete j b) [
      | yes e ↦ let q : get_or heads' j 0 - 1 ≡ count = omega (arith, head_here j e) in ap f' q ∙ (new ∙ sym e)
      | no q ↦
          let o = head_other j q in
          stays (get_or heads j 0) (get_or heads' j 0) o (omega (arith, o, p)) (ch.head_within j h) j (ch.head_belongs j h (omega (arith, o, p)))
    ];
    next_last = λ i k u h e. elim (upto k h) [
      | inl v ↦ omega (arith, next_old k v, ch.next_last i k u v (sym (old i (omega arith)) ∙ (e ∙ old k v)))
      | inr q ↦
          let v : i < count = omega arith in
          let g : f i ≡ b = sym (old i v) ∙ (e ∙ (ap f' q ∙ new)) in
          omega (arith, next_new k q, ap (λ (j : ℕ). get_or heads j 0) g, ch.head_last i v)
    ];
    next_before = λ k h. elim (upto k h) [
      | inl v ↦ omega (arith, next_old k v, ch.next_before k v)
      | inr q ↦ omega (arith, q, next_new k q, ch.head_within b b_below)
    ];
    next_belongs = λ k h p. elim (upto k h) [
      | inl v ↦
          let o = next_old k v in
          stays (get_or nexts k 0) (get_or nexts' k 0) o (omega (arith, o, p)) (omega (arith, ch.next_before k v)) (f' k)
          (ch.next_belongs k v (omega (arith, o, p)) ∙ sym (old k v))
      | inr q ↦
          let o = next_new k q in
          stays (get_or heads b 0) (get_or nexts' k 0) o (omega (arith, o, p)) (ch.head_within b b_below) (f' k)
          (ch.head_belongs b b_below (omega (arith, o, p)) ∙ sym (ap f' q ∙ new))
    ];
  }

-- as `insert` writes it: the row `count` of width w gets the key, and the chain b of the key begins with it
pub chain_inserted : (count b w : ℕ) (sigs sigs' heads nexts key : List ℕ)
    → Chained (length heads) count (λ k. bucket (length heads) (row w k sigs)) heads nexts
    → b ≡ bucket (length heads) key → b < length heads → count < length nexts → Written w count key sigs sigs'
    → Chained (length (set heads b (count + 1))) (count + 1) (λ k. bucket (length (set heads b (count + 1))) (row w k sigs'))
    (set heads b (count + 1)) (set nexts count (get_or heads b 0))
chain_inserted count b w sigs sigs' heads nexts key ch e below free ws =
    subst (λ (n : ℕ). Chained n (count + 1) (λ k. bucket n (row w k sigs')) (set heads b (count + 1)) (set nexts count (get_or heads b 0)))
    (sym (length-set heads b (count + 1)))
    (chain_more (length heads) count (λ k. bucket (length heads) (row w k sigs)) (λ k. bucket (length heads) (row w k sigs'))
    heads (set heads b (count + 1)) nexts (set nexts count (get_or heads b 0)) ch b below (omega arith) free
    (λ i h. ap (bucket (length heads)) (ws.others i (λ q. omega arith))) (ap (bucket (length heads)) ws.here ∙ sym e) refl refl)
