use Rattle.signatures.proofs.Signing.{reached_signed}
use Rattle.signatures.proofs.evaluate.JobAutomatonAutomaton.node.Goals as goal

pub sign-requires-clause-signable : goal.sign-requires-clause-signable
sign-requires-clause-signable c =
    let j = c.args.self.now.job in
    (c.requires.mark, reached_signed j c.args.left.now c.requires.left, reached_signed j c.args.right.now c.requires.right)
