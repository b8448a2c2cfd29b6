use Rattle.std.proofs.Common.{◌+◌, ◌≢◌, sym, ◌∙◌, arith, below_more}
use Rattle.std.proofs.lemmas.List.{get_or-set_same, get_or-set_other, length-set}
use Rattle.signatures.specs.Evaluating.{item_pattern}
use Rattle.signatures.proofs.Signing.{item_ready, item_kind, signed_all}
use Rattle.signatures.proofs.evaluate.sign.Goals as goal

pub evaluate-value-requires : goal.evaluate-value-requires
evaluate-value-requires c =
    (item_pattern c.args.job c.args.item c.loop-q.q, item_ready c.args.job c.args.item c.args.parts.left.now c.args.parts.right.now c.loop-q.q c.pattern.result c.requires.signable (omega arith) c.pattern.ensures)

pub loop-q-preserved : goal.loop-q-preserved
loop-q-preserved c =
    let q = c.loop-q.q in
    let out = c.loop-q.out in
    let v = c.evaluate-value.result.kind in
    let p = item_pattern c.args.job c.args.item q in
    let ready = item_ready c.args.job c.args.item c.args.parts.left.now c.args.parts.right.now q c.pattern.result c.requires.signable (omega arith) c.pattern.ensures in
    let value = (c.evaluate-value.ensures p ready).value in
    let other : 0 ≢ q + 1 = omega arith in (
      get_or-set_other out (q + 1) 0 v 0 other ∙ c.loop-q.invariant.0,
      below_more _ q
          (λ i h. let ne : i + 1 ≢ q + 1 = omega arith in get_or-set_other out (q + 1) (i + 1) v 0 ne ∙ c.loop-q.invariant.1 i h)
          (get_or-set_same out (q + 1) v 0 (omega (arith, length-set c.args.out.now 0 c.first_kind.result)) ∙ value ∙ sym (item_kind c.args.job c.args.item c.args.parts.left.now c.args.parts.right.now q c.requires.signable (omega arith))),
    )

pub returns : goal.returns
returns c = signed_all c.args.job c.args.item c.args.parts.left.now c.args.parts.right.now c.loop-q.out (omega (arith, length-set c.args.out.now 0 c.first_kind.result)) c.loop-q.invariant.0 (λ q h. c.loop-q.invariant.1 q (omega arith))
