use Rattle.std.proofs.Common.{◌-◌}
use Rattle.rows.specs.Standing.{slice}
use Rattle.rows.proofs.TableEnds.{contains_by}
use Rattle.rows.proofs.tables.TypePlaces.wants.Goals as goal

pub returns : goal.returns
returns c =
    let e = contains_by c.args.kind (slice c.args.self.wanted (c.args.self.end - c.args.self.wanted) c.args.words.now) in cc
