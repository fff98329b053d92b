use Rattle.std.proofs.Common.{◌≡◌, sym, subst, Some}
use Rattle.sdd_participants.specs.Slab.{entry_at}
use Rattle.sdd_space.specs.CallerId.{IsExact}
use Rattle.sdd_space.specs.Ptr.{cell_seen}
use Rattle.sdd_world_model.specs.World.{World}
use Rattle.sdd_examples.specs.Config.{cell_of}
use Rattle.sdd_examples.proofs.Found.{found_by}
use Rattle.sdd_examples.proofs.config.Config.load.Goals as goal

pub returns-clause-found : goal.returns-clause-found
returns-clause-found g c = λ exact.
    let after = c.load.new.s in let did = c.load.ensures.exact exact in
    let same : IsExact (g.S.Caller.caller after) = rw c.load.ensures.undisturbed.caller exact in
    found_by (g.S.Caller.world after) (g.S.Shows.shows after) c.load.result c.load.ensures.shown
    (λ k value shows. (g.met.S.Caller.shows_is_value after same k value).0 shows) (cell_of c.args.self.now)
    (subst (λ (w : World _). entry_at w.cells (cell_of c.args.self.now) ≡ Some (cell_seen c.load.result)) (sym did.1) did.0)
