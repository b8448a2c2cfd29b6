-- That the first part may be read: no word begins each row, and no node is open.
-- What follows is found.
use Rattle.terms.proofs.Steps.{none_read}
use Rattle.terms.proofs.reader.Reader.read.Goals as goal

pub next-requires : goal.next-requires
next-requires c = record { begins = none_read _ _ _ c.requires.no_node c.requires.no_word }
