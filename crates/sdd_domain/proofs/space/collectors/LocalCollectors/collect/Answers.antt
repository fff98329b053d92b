use Rattle.std.proofs.Common.{sym, ap, ◌∙◌, subst, rules}
use Rattle.sdd_rights.specs.Right.{raw_number_of}
use Rattle.sdd_shared_values.specs.SharedValues.{showing}
use Rattle.sdd_world_model.specs.KnownEpochs.{KnowsOn}
use Rattle.sdd_domain_steps.specs.Local.{LocalModel}
use Rattle.sdd_domain_core.specs.Sound.{IsSound}
use Rattle.sdd_domain_core.specs.Space.{known_of, caller_of}
use Rattle.sdd_domain.proofs.Givers.{same_giver}
use Rattle.sdd_domain.proofs.CollectedWorld.{collect_keeps, collect_last, collect_owned, collect_world, gave_knows, gave_caller, gave_tied, sound_collected}
use Rattle.sdd_domain.proofs.space.collectors.LocalCollectors.collect.Goals as goal

pub invariant_of-self : goal.invariant_of-self
invariant_of-self g c = let v : LocalModel _ _ = (c.self-inside.view_is 0).giver in let inner = same_giver c.self-inside.view_is in
    let tied = c.self-inside.invariant in let knows = c.collect.ensures.recalled in let went = c.collect.ensures.went in
    let sound = subst (IsSound g.T.Item.holds) (sym inner) c.self.invariant in
    sound_collected v c.collect.new.self (raw_number_of c.args.collector.now) c.args.right tied sound.closes knows g.T.Item.holds sound c.collect.result went

pub invariant_of-self-inside : goal.invariant_of-self-inside
invariant_of-self-inside g c = let v : LocalModel _ _ = (c.self-inside.view_is 0).giver in let inner = same_giver c.self-inside.view_is in
    let tied = c.self-inside.invariant in let knows = c.collect.ensures.recalled in let went = c.collect.ensures.went in
    let sound = subst (IsSound g.T.Item.holds) (sym inner) c.self.invariant in
    gave_tied v c.collect.new.self (raw_number_of c.args.collector.now) c.args.right tied sound.closes knows c.collect.result went

pub returns : goal.returns
returns g c =
    let v : LocalModel _ _ = (c.self-inside.view_is 0).giver in let inner = same_giver c.self-inside.view_is in
    let tied = c.self-inside.invariant in let knows = c.collect.ensures.recalled in let went = c.collect.ensures.went in
    let closes = (subst (IsSound g.T.Item.holds) (sym inner) c.self.invariant).closes in record {
      unmoved =
          let m = c.collect.new.self in let cell = raw_number_of c.args.collector.now in record {
            caller = gave_caller v m cell c.args.right tied closes knows c.collect.result went ∙ ap caller_of (inner ∙ c.self.view_is);
            known = subst (λ (p : LocalModel g.row.T.Denot g.row.J.Denot). KnowsOn (known_of p) (known_of (record { member = m; entries = v.entries })))
                (inner ∙ c.self.view_is) (gave_knows v m cell c.args.right tied closes knows c.collect.result went);
            shown = collect_keeps v m cell c.args.right tied closes knows c.collect.result went c.args.self.now (inner ∙ c.self.view_is)
                (showing g.row.T) g.T.Item.holds;
          };
      own = search rules;
      sole = search rules;
      owned = collect_owned v c.collect.new.self (raw_number_of c.args.collector.now) c.args.right tied closes knows c.collect.result went
          c.args.self.now (inner ∙ c.self.view_is);
      last = collect_last v c.collect.new.self (raw_number_of c.args.collector.now) c.args.right tied closes knows c.collect.result went
          c.args.self.now (inner ∙ c.self.view_is);
      exact = collect_world v c.collect.new.self (raw_number_of c.args.collector.now) c.args.right tied closes knows c.collect.result went
          c.args.self.now (inner ∙ c.self.view_is);
    }
