use Rattle.std.proofs.Common.{◌*◌}
use Rattle.rows.proofs.Known.{type_known}
use Rattle.rows.proofs.TableEnds.{slice_below}
use Rattle.rows.proofs.tables.KnownType.node_kind.Goals as goal

pub returns-clause-below : goal.returns-clause-below
returns-clause-below c =
    let t = c.args.self in
    let k = type_known t in
    slice_below t.words.now t.places.nodes (t.marks * (t.places.kinds * t.places.kinds)) c.place.result t.places.kinds k.nodes_within c.place.ensures.below k.ok.well_formed.nodes_below
