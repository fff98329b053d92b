use Rattle.std.proofs.Common.{sym, ap, ◌∙◌, subst, rules}
use Rattle.sdd_shared_values.specs.SharedValues.{showing}
use Rattle.sdd_domain_steps.specs.Local.{LocalModel}
use Rattle.sdd_domain_core.specs.Sound.{IsSound}
use Rattle.sdd_domain.proofs.Givers.{same_giver}
use Rattle.sdd_domain_core.proofs.Sound.{sound_release}
use Rattle.sdd_domain_core.proofs.OwnerLooks.{release_tied, release_owned, release_last, release_world, release_keeps, went_own, went_knows, went_caller}
use Rattle.sdd_world_model.specs.KnownEpochs.{KnowsOn}
use Rattle.sdd_world_model.specs.Releases.{left_waiting}
use Rattle.sdd_rights.specs.Right.{number_of}
use Rattle.sdd_domain_core.specs.Space.{caller_of, known_of}
use Rattle.sdd_domain.proofs.space.LocalItems.release.Goals as goal

pub invariant_of-self : goal.invariant_of-self
invariant_of-self g c = let v : LocalModel _ _ = (c.self-inside.view_is 0).giver in let inner = same_giver c.self-inside.view_is in
    let tied = c.self-inside.invariant in let knows = c.release.ensures.recalled in let went = c.release.ensures.went in
    sound_release g.T.Item.holds v c.release.new.self (subst (IsSound g.T.Item.holds) (sym inner) c.self.invariant) c.args.right tied knows
    c.release.result went

pub invariant_of-self-inside : goal.invariant_of-self-inside
invariant_of-self-inside g c = let v : LocalModel _ _ = (c.self-inside.view_is 0).giver in let inner = same_giver c.self-inside.view_is in
    let tied = c.self-inside.invariant in let knows = c.release.ensures.recalled in let went = c.release.ensures.went in
    release_tied v c.release.new.self c.args.right tied knows c.release.result went

pub returns : goal.returns
returns g c =
    let v : LocalModel _ _ = (c.self-inside.view_is 0).giver in let inner = same_giver c.self-inside.view_is in
    let tied = c.self-inside.invariant in let knows = c.release.ensures.recalled in let went = c.release.ensures.went in record {
      unmoved = record {
        caller = went_caller v c.release.new.self c.args.right tied knows c.release.result went ∙ ap caller_of (inner ∙ c.self.view_is);
        known = subst (λ (p : LocalModel g.row.T.Denot g.row.J.Denot). KnowsOn (known_of p)
            (known_of (record { member = c.release.new.self; entries = v.entries })))
            (inner ∙ c.self.view_is) (went_knows v c.release.new.self c.args.right tied knows c.release.result went);
        shown = release_keeps v c.release.new.self c.args.right tied knows c.release.result went c.args.self.now (inner ∙ c.self.view_is)
            (showing g.row.T) g.T.Item.holds;
      };
      own = went_own v c.release.new.self c.args.right tied knows c.release.result went
          ∙ ap (λ (p : LocalModel g.row.T.Denot g.row.J.Denot). left_waiting c.release.result (number_of c.args.right) p.member.own) (inner ∙ c.self.view_is);
      sole = search rules;
      released = λ exact. record {
        owned = release_owned v c.release.new.self c.args.right tied knows c.release.result went c.args.self.now (inner ∙ c.self.view_is) exact;
        last = release_last v c.release.new.self c.args.right tied knows c.release.result went c.args.self.now (inner ∙ c.self.view_is) exact;
        world = release_world v c.release.new.self c.args.right tied knows c.release.result went c.args.self.now (inner ∙ c.self.view_is) exact;
      };
    }
