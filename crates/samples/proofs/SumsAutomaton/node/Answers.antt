use Rattle.std.proofs.Common.{refl, arith}
use Rattle.samples.specs.Meanings.{sums}
use Rattle.samples.proofs.OneWord.{one_word}
use Rattle.samples.proofs.SumsAutomaton.node.Goals as goal

pub bounds-left-0 : goal.bounds-left-0
bounds-left-0 c = omega (arith, one_word (sums c.args.self.now.base c.args.self.now.marks c.args.self.now.modulus) (λ a. refl) (λ a s t. refl) _ c.requires.left)

pub bounds-right-0 : goal.bounds-right-0
bounds-right-0 c = omega (arith, one_word (sums c.args.self.now.base c.args.self.now.marks c.args.self.now.modulus) (λ a. refl) (λ a s t. refl) _ c.requires.right)
