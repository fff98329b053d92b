-- An owner with the same right is the same owner
use Rattle.std.proofs.Common.{◌≡◌, ap, subst, sym}
use base.Stored.{Coded-set}
use Rattle.sdd_rights.specs.contracts.right.StandingKind.{the_row}
use Rattle.sdd_rights.specs.declared.right.Right.{Right}
use Rattle.sdd_rights.specs.Right.{kind_of}
use Rattle.sdd_space.specs.declared.owner.Owner.{Owner}
use Rattle.sdd_space.specs.declared.ownership.Ownership.{Ghosts}
use Rattle.sdd_space.specs.declared.ownership.RightOf.{RightOf}

module _ {K T : Type 0} {g : Ghosts K} where
  pub same-owner : (o : Owner K T g) (right : Right) (k : kind_of right ≡ g.kind) → right ≡ o.right.right →
      record { right = record { right = right; of = o.right.of; kind = k }; of = o.of } ≡ o
  same-owner o right k e =
      subst (λ (r : Right). (k : kind_of r ≡ g.kind) → record { right = record { right = r; of = o.right.of; kind = k }; of = o.of } ≡ o) (sym e)
      (λ k. ap (λ (k' : kind_of o.right.right ≡ g.kind). record { right = record { right = o.right.right; of = o.right.of; kind = k' }; of = o.of })
      (Coded-set the_row.coded (kind_of o.right.right) g.kind k o.right.kind)) k
