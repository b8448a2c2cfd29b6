use Rattle.std.proofs.Common.{ℕ, List, [], ◌∷◌, ◌++◌, sym, refl, ap, ◌∙◌, subst, append_assoc, arith}
use Rattle.std.specs.Borrow.{MutBor}
use Rattle.std.proofs.Props.{props}
use Rattle.std.proofs.Math.Logic.{∥∥₁_elim, ∥∥₁_map}
use Rattle.std.proofs.lemmas.List.{append-nil}
use Rattle.transduce.proofs.Progressing.{whole_begins, whole_within, some_state, start, pending_within, one_more, same_put, finished, stopped}
use Rattle.transduce.proofs.walks.walk.Goals as goal

pub enter-here-requires : goal.enter-here-requires
enter-here-requires g c = ∥∥₁_elim c.args.src.known (hlevel props) (λ k. record { here = whole_within c.args.src k; state = some_state c.args.src k })

pub steps-init : goal.steps-init
steps-init g c = record {
  within = ∥∥₁_elim c.args.src.known (hlevel props) (λ k. omega (arith, c.enter-here.ensures.same, whole_within c.args.src k));
  long = refl;
  progress = λ k. start c.args.src k _ _ _ _ refl (c.enter-here.ensures.frame k k.tree.tree k.tree.marked (whole_begins c.args.src k))
      (λ lent ws h. subst (g.S.Sink.holds c.args.sink.now lent) (sym (append-nil ws)) h);
}

pub step-requires : goal.step-requires
step-requires g c = ∥∥₁_map c.args.src.known (λ k. (k, (c.steps.invariant.progress k).after, (c.steps.invariant.progress k).pending))

pub descend-here-requires : goal.descend-here-requires
descend-here-requires g c = record { room = omega (arith, c.requires, c.steps.invariant.long); ready = ∥∥₁_map c.args.src.known (λ k. (k, (c.steps.invariant.progress k).after, (c.steps.invariant.progress k).pending)); begun = c.in-Made.ensures }

pub steps-preserved-in-Made : goal.steps-preserved-in-Made
steps-preserved-in-Made g c =
    let d = c.descend-here.ensures in
    record {
      within = d.within;
      long = d.long ∙ c.steps.invariant.long;
      progress = λ k. let p = c.steps.invariant.progress k in same_put c.args.src k _ _ _ _ _ p _ _ (d.pending k p.after p.pending);
    }

pub returns-then-left-eq0 : goal.returns-then-left-eq0
returns-then-left-eq0 g c k = stopped c.args.src k _ _ _ _ _ (c.steps.invariant.progress k) _ c.if-left-eq0.true

pub after_node-here-requires : goal.after_node-here-requires
after_node-here-requires g c = record { ready = ∥∥₁_map c.args.src.known (λ k. (k, (c.steps.invariant.progress k).after, (c.steps.invariant.progress k).pending)); begun = c.in-Node.ensures }

pub steps-preserved-in-Node : goal.steps-preserved-in-Node
steps-preserved-in-Node g c = record {
  within = ∥∥₁_elim c.args.src.known (hlevel props) (λ k.
      let p = c.steps.invariant.progress k in
      pending_within c.args.src k c.steps.stack c.after_node-here.result _ (c.after_node-here.ensures k p.after p.pending).pending);
  long = c.steps.invariant.long;
  progress = λ k.
      let p = c.steps.invariant.progress k in
      let n = c.after_node-here.ensures k p.after p.pending in
      one_more c.args.src k _ _ _ _ _ p _ _ (1 ∷ c.in-Node.a ∷ []) n.more _ refl (omega arith) n.first n.pending (λ lent ws h. subst (g.S.Sink.holds c.put.new.self lent) (append_assoc ws p.before _) (c.put.ensures lent (ws ++ p.before) (p.put lent ws h)));
}

pub returns-then-left-eq0-2 : goal.returns-then-left-eq0-2
returns-then-left-eq0-2 g c k = stopped c.args.src k _ _ _ _ _ (c.steps.invariant.progress k) _ c.if-left-eq0-2.true

pub after_leaf-requires : goal.after_leaf-requires
after_leaf-requires g c = record { room = omega (arith, c.requires, c.steps.invariant.long); ready = ∥∥₁_map c.args.src.known (λ k. (k, (c.steps.invariant.progress k).after, (c.steps.invariant.progress k).pending)); begun = c.in-Leaf.ensures }

pub returns-in_default : goal.returns-in_default
returns-in_default g c k =
    let p = c.steps.invariant.progress k in
    let n = c.in_default.ensures.goes_on k p.after p.pending in
    finished c.args.src k _ _ _ _ _ p (0 ∷ c.in-Leaf.a ∷ [])
    (λ us. (lent : MutBor (List ℕ)) (ws : List ℕ) → g.S.Sink.holds c.args.sink.now lent ws → g.S.Sink.holds c.put-in-Leaf.new.self lent (ws ++ us)) refl (omega arith) (n.first ∙ ap (λ (l : List ℕ). 0 ∷ c.in-Leaf.a ∷ l) n.goes_on) (λ lent ws h. subst (g.S.Sink.holds c.put-in-Leaf.new.self lent) (append_assoc ws p.before _) (c.put-in-Leaf.ensures lent (ws ++ p.before) (p.put lent ws h)))

pub steps-preserved : goal.steps-preserved
steps-preserved g c = record {
  within = ∥∥₁_elim c.args.src.known (hlevel props) (λ k.
      let p = c.steps.invariant.progress k in
      pending_within c.args.src k c.after_leaf.new.frames c.in-Some.next _ (c.in-Some.ensures.goes_on k p.after p.pending).goes_on);
  long = c.in-Some.ensures.long ∙ c.steps.invariant.long;
  progress = λ k.
      let p = c.steps.invariant.progress k in
      let n = c.in-Some.ensures.goes_on k p.after p.pending in
      one_more c.args.src k _ _ _ _ _ p _ _ (0 ∷ c.in-Leaf.a ∷ []) n.more _ refl (omega arith) n.first n.goes_on (λ lent ws h. subst (g.S.Sink.holds c.put-in-Leaf.new.self lent) (append_assoc ws p.before _) (c.put-in-Leaf.ensures lent (ws ++ p.before) (p.put lent ws h)));
}
