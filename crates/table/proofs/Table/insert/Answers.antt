-- The new row becomes the first of its chain, by `chain_inserted`; the rest the check finds.
-- `nexts` and `heads` are written at one place each.
use Rattle.std.proofs.Common.{arith}
use Rattle.table.proofs.Chaining.{chain_inserted}
use Rattle.table.proofs.Table.insert.Goals as goal

pub returns-clause-chains : goal.returns-clause-chains
returns-clause-chains c =
    chain_inserted c.args.self.now.count c.hash-chain.result c.args.self.now.shape.width c.args.self.now.sigs.now _
    c.args.self.now.heads.now c.args.self.now.nexts.now c.args.key.now c.requires.chains c.hash-chain.ensures.is
    c.hash-chain.ensures.below (omega (arith, c.args.self.now.for_nexts, c.requires.free)) c.write_row.ensures
