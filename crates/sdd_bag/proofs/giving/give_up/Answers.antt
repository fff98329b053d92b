use Rattle.std.proofs.Common.{◌≡◌, ap, ◌∙◌, sym, subst}
use Rattle.sdd_space.specs.CallerId.{CallerId, IsExact}
use Rattle.sdd_world_model.specs.ParticipantChanges.{KeepsMoreWaiting}
use Rattle.sdd_space.specs.Undisturbed.{Unmoved}
use Rattle.sdd_bag.proofs.ReleasedValues.{same-values}
use Rattle.sdd_bag.proofs.giving.give_up.Goals as goal

pub returns-clause-unmoved : goal.returns-clause-unmoved
returns-clause-unmoved g c =
    let old = c.args.s.now in let new = c.give_up.new.giver.space.now in let got = c.give_up.ensures in let e = c.requires.exact in
    let end : c.s-1.given.0 ≡ new = c.s-1.given.1 (sym c.give_up.ensures.kept) ∙ c.drop-giver.ensures in
    let values = same-values (g.S.Caller.world old) (g.S.Caller.world new) (g.S.Caller.caller old).place (g.T.Item.holds c.args.value) (got.exact e) in
    let then : IsExact (g.S.Caller.caller new) = subst (λ (s : CallerId). IsExact s) (sym got.caller) e in
    subst (λ (s : _). Unmoved g.S.Caller.caller g.S.Caller.known g.S.Shows.shows old s) (sym end) (record {
      caller = got.caller;
      known = got.known;
      shown = λ k v was.
          (g.met.S.Caller.shows_is_value new then k v).1 (values k ∙ (g.met.S.Caller.shows_is_value old e k v).0 was);
    })

pub returns-clause-own : goal.returns-clause-own
returns-clause-own g c =
    let end : c.s-1.given.0 ≡ c.give_up.new.giver.space.now = c.s-1.given.1 (sym c.give_up.ensures.kept) ∙ c.drop-giver.ensures in
    subst (λ (s : _). KeepsMoreWaiting (g.S.Caller.own c.args.s.now) (g.S.Caller.own s)) (sym end) c.give_up.ensures.own

pub returns-clause-world : goal.returns-clause-world
returns-clause-world g c =
    let end : c.s-1.given.0 ≡ c.give_up.new.giver.space.now = c.s-1.given.1 (sym c.give_up.ensures.kept) ∙ c.drop-giver.ensures in
    ap g.S.Caller.world end ∙ c.give_up.ensures.exact c.requires.exact
