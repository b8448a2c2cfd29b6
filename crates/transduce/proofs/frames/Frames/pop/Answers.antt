use Rattle.std.proofs.Common.{refl, arith}
use Rattle.transduce.proofs.frames.Frames.pop.Goals as goal

pub returns : goal.returns
returns c = (omega arith, refl, refl, c.load-top.ensures)
