use Rattle.rows.proofs.Known.{type_known}
use Rattle.rows.proofs.TableEnds.{slice_below}
use Rattle.rows.proofs.tables.KnownType.leaf_kind.Goals as goal

pub returns-clause-below : goal.returns-clause-below
returns-clause-below c =
    let t = c.args.self in
    let k = type_known t in
    slice_below t.words.now t.places.leaves t.marks c.args.mark t.places.kinds k.leaves_within c.requires k.ok.well_formed.leaves_below
