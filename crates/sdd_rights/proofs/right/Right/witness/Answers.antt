use Rattle.std.proofs.Common.{rules}
use Rattle.sdd_rights.specs.StandingKind.{is_shared}
use Rattle.sdd_rights.specs.Right.{number_of, home_of, kind_of, IsOwnerBy}
use Rattle.sdd_rights.proofs.right.Right.witness.Goals as goal

pub returns-clause-owner : goal.returns-clause-owner
returns-clause-owner c slots =
    let self = c.args.self.now in
    let owner : IsOwnerBy (home_of self) (number_of self) (is_shared (kind_of self)) c.self.inside.witness c.self.inside.read_fraction = search rules in
    (c.self.inside.read_fraction, owner)
