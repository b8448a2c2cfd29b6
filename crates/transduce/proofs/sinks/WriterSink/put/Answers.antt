use Rattle.transduce.proofs.Putting.{put_two}
use Rattle.transduce.proofs.sinks.WriterSink.put.Goals as goal

pub returns : goal.returns
returns c lent ws h = (h.0, λ l. put_two c.args.self.now.used lent.now c.args.self.now.out.now ws c.args.item h.1 l c.from.result c.from.ensures)
