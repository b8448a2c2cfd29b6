-- The words gone by are the same in both; the first that differ decide, and where none do the lists are one.
use Rattle.std.proofs.Common.{◌≡◌, ◌<◌, ◌++◌, ◌∷◌, [], ap, sym, subst, ◌∙◌, reverse, length, Ordering, inl, inr, arith}
use Rattle.std.proofs.lemmas.List.{length-reverse, reverse-reverse}
use Rattle.std.specs.List.{push}
use Rattle.std.specs.Ordering.{nat_cmp, MatchOrdering}
use Rattle.std.specs.Cmp.Lexicographic.{slice_cmp}
use Rattle.numbers.specs.Value.{value}
use Rattle.numbers.proofs.Words.{compares, word_next, word_gone, first_decides, none_differs}
use Rattle.numbers.proofs.compare.Goals as goal

pub loop-x-init : goal.loop-x-init
loop-x-init c = ([], cc, cc)

pub loop-x-preserved : goal.loop-x-preserved
loop-x-preserved c =
    let high = c.loop-x.invariant.0 in
    let e = c.in-Some.ensures.steps in (
      high ++ c.in-Some.x.now ∷ [],
      word_gone _ _ high _ _ c.loop-x.invariant.1 e.0,
      word_gone _ _ high _ _ c.loop-x.invariant.2 (e.1 ∙ ap (push _) (sym c.if-x-y.false)),
    )

pub returns-then-x-y : goal.returns-then-x-y
returns-then-x-y c =
    let a = c.args.a.now in
    let b = c.args.b.now in
    let high = c.loop-x.invariant.0 in
    let e = c.in-Some.ensures.steps in
    let by_words : c.cmp.result ≡ slice_cmp nat_cmp (reverse a) (reverse b) =
    c.cmp.ensures
    ∙ (sym (first_decides high _ _ _ _ c.if-x-y.true)
    ∙ sym (ap (λ us. slice_cmp nat_cmp us (reverse b)) (word_next _ _ high _ _ c.loop-x.invariant.1 e.0)
    ∙ ap (slice_cmp nat_cmp _) (word_next _ _ high _ _ c.loop-x.invariant.2 e.1))) in
    subst (λ (r : Ordering). MatchOrdering r (value a < value b) (value a ≡ value b) (value b < value a)) (sym by_words)
    (compares a b c.requires (λ k. omega (arith, c.type_inv.a k)) (λ k. omega (arith, c.type_inv.b k)))

pub returns : goal.returns
returns c =
    let a = c.args.a.now in
    let b = c.args.b.now in
    let same_long : length (reverse a) ≡ length (reverse b) = length-reverse a ∙ (c.requires ∙ sym (length-reverse b)) in
    let same : reverse a ≡ reverse b =
    none_differs _ _ _ _ _ same_long c.loop-x.invariant.1 c.loop-x.invariant.2 (elim c.in-None.ensures.steps [ inl e ↦ inl e.1.0 | inr e ↦ inr e.1.0 ]) in
    ap value (sym (reverse-reverse a) ∙ (ap reverse same ∙ reverse-reverse b))
