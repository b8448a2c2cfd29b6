-- Jobs: the number of marks, a type, a turn and a type, each of which is found or is absent, with nothing behind.
-- What was found is what stands in the row of any job with these words, since no row begins another.
use Rattle.std.proofs.Common.{◌≡◌, ℕ, ◌-◌, ◌<◌, ◌≤◌, ◌⊎◌, List, [], ◌∷◌, ◌++◌, length, get_or, drop, Some, sym, refl, ap, ◌∙◌, subst, inl, inr, arith, length-drop}
use Rattle.std.proofs.lemmas.List.{append-nil, drop_all}
use Rattle.model.specs.Jobs.{Job}
use Rattle.model.specs.Rows.{type_row, turn_row, Rows}
use Rattle.model.proofs.Prefix.{types_apart, turns_apart}
use Rattle.rows.specs.declared.tables.TypePlaces.{TypePlaces}
use Rattle.rows.specs.declared.jobs.TurnPlaces.{TurnPlaces}
use Rattle.rows.specs.Standing.{Stands, Absent}
use Rattle.rows.specs.Tables.{TypeOk, TypeRead, type_in}
use Rattle.rows.specs.Jobs.{TurnOk, TurnKnown, PlacesFound}
use Rattle.rows.proofs.Stood.{uncons, one, both}

module _ (s : List ℕ) where
  -- the parts of a job with these words, for m marks
  record Whole (m : ℕ) (j : Job) : Type 0 where
    within : 0 < length s
    few : (1 ≤ m) × (m ≤ 64)
    words : drop 1 s ≡ type_row j.from ++ (turn_row j.turn ++ type_row j.to)
    first : TypeOk m j.from
    turns : TurnOk m j.turn
    second : TypeOk m j.to

  whole : (m : ℕ) (j : Job) → get_or s 0 0 ≡ m → Rows s j → Whole m j
  whole m j e r =
      let f = uncons s 0 1 j.marks (type_row j.from ++ (turn_row j.turn ++ type_row j.to)) (omega arith) (sym r.row) in
      let same : j.marks ≡ m = sym f.word ∙ e in
      let w = r.well_formed in
      let l = r.limits in
      record {
        within = f.within;
        few = (omega (arith, w.some_mark), omega (arith, l.few_marks));
        words = f.rest;
        first = subst (λ (x : ℕ). TypeOk x j.from) same (record { well_formed = w.first; few_kinds = l.few_from });
        turns = subst (λ (x : ℕ). TurnOk x j.turn) same (record { well_formed = w.turns; few_states = l.few_states; leaf_depths = l.leaf_depths; node_depths = l.node_depths });
        second = subst (λ (x : ℕ). TypeOk x j.to) same (record { well_formed = w.second; few_kinds = l.few_to });
      }

  pub none_empty : length s ≡ 0 → (j : Job) → Rows s j → ⊥
  none_empty z j r = let w = whole (get_or s 0 0) j refl r in omega (arith, w.within)

  module _ (m : ℕ) (e : get_or s 0 0 ≡ m) where
    pub none_marks : (m ≡ 0) ⊎ (64 < m) → (j : Job) → Rows s j → ⊥
    none_marks h j r = let w = whole m j e r in elim h [ inl z ↦ omega (arith, w.few) | inr z ↦ omega (arith, w.few) ]

    pub none_from : Absent type_row (TypeOk m) s 1 → (j : Job) → Rows s j → ⊥
    none_from absent j r = let w = whole m j e r in absent j.from _ w.first w.words

    module _ (p : TypePlaces) (a : TypeRead s 1 m (Some p)) where
      at_turn : (j : Job) → Whole m j → drop p.end s ≡ turn_row j.turn ++ type_row j.to
      at_turn j w = (types_apart m (type_in s m p) j.from (drop p.end s) _ a.0.ok.well_formed w.first.well_formed (sym a.1.words ∙ w.words)).1

      pub none_turn : Absent turn_row (TurnOk m) s p.end → (j : Job) → Rows s j → ⊥
      none_turn absent j r = let w = whole m j e r in absent j.turn _ w.turns (at_turn j w)

      module _ (index : List ℕ) (t : TurnPlaces) (b : TurnKnown s index m p.end t) where
        at_to : (j : Job) → Whole m j → drop t.end s ≡ type_row j.to ++ []
        at_to j w =
            (turns_apart m b.turns j.turn (drop t.end s) (type_row j.to) b.ok.well_formed w.turns.well_formed (sym b.stands.words ∙ at_turn j w)).1
            ∙ sym (append-nil (type_row j.to))

        pub none_to : Absent type_row (TypeOk m) s t.end → (j : Job) → Rows s j → ⊥
        none_to absent j r = let w = whole m j e r in absent j.to [] w.second (at_to j w)

        module _ (q : TypePlaces) (c : TypeRead s t.end m (Some q)) where
          pub none_end : (q.end ≡ length s → ⊥) → (j : Job) → Rows s j → ⊥
          none_end more j r =
              let w = whole m j e r in
              let nothing : drop q.end s ≡ [] = (types_apart m (type_in s m q) j.to (drop q.end s) [] c.0.ok.well_formed w.second.well_formed (sym c.1.words ∙ at_to j w)).1 in
              let left : length s - q.end ≡ 0 = sym (length-drop q.end s) ∙ ap length nothing in
              more (omega (arith, c.1.within))

          pub some_job : 0 < length s → 1 ≤ m → m ≤ 64 → q.end ≡ length s → PlacesFound s index (Some (record { marks = m; from = p; turn = t; to = q }))
          some_job in_s low high all =
              let st : Stands s 0 q.end (m ∷ (type_row (type_in s m p) ++ (turn_row b.turns ++ type_row (type_in s m q)))) =
              both s (m ∷ []) _ 0 1 q.end (one s 0 1 m (omega arith) in_s e) (both s (type_row (type_in s m p)) _ 1 p.end q.end a.1 (both s (turn_row b.turns) (type_row (type_in s m q)) p.end t.end q.end b.stands c.1)) in
              let o = b.ok in
              record {
                turns = b.turns;
                rows = record {
                  row = sym (st.words ∙ ap (λ (l : List ℕ). (m ∷ (type_row (type_in s m p) ++ (turn_row b.turns ++ type_row (type_in s m q)))) ++ l) (drop_all q.end s (omega arith)) ∙ append-nil _);
                  well_formed = record { some_mark = low; first = a.0.ok.well_formed; turns = o.well_formed; second = c.0.ok.well_formed };
                  limits = record { few_marks = high; few_from = a.0.ok.few_kinds; few_states = o.few_states; few_to = c.0.ok.few_kinds; leaf_depths = o.leaf_depths; node_depths = o.node_depths };
                };
                states = b.states;
                room = b.room;
                from_known = a.0;
                to_known = c.0;
                leaf_places = b.leaf_places;
                node_places = b.node_places;
              }
