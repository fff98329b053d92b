use Rattle.std.proofs.Common.{◌≡◌, subst, sym, refl, inl, inr, ap, ◌∙◌, IsTrue}
use Rattle.sdd_world_model.specs.World.{World, AnyGuardOpen}
use Rattle.sdd_world_model.specs.WorldInvariant.{IsCounted, IsWhole, taken}
use Rattle.sdd_participants.specs.Slab.{entry_at}
use Rattle.sdd_participants.specs.declared.tally.Tally.{Tally}
use Rattle.sdd_world_core.specs.Closing.{NothingIsOut}
use Rattle.sdd_world.proofs.Closing.{emptied-live}
use Rattle.sdd_world.proofs.Sweeps.{sweeps, nothing-out, all-went, all-counted, none-out-goes, plain-goes, none-taken-at-end, tally-accounts}
use Rattle.sdd_world.proofs.world.World.close.Goals as goal

pub returns-then-is_guarded : goal.returns-then-is_guarded
returns-then-is_guarded g c =
    let guarded : AnyGuardOpen c.args.self = c.is_guarded.ensures.0 c.if-is_guarded.true in
    record {
      closed = inl (refl, guarded, refl);
      exactly = (λ ok. cc, λ h. absurd (h.0 guarded));
      spent = λ quiet _. absurd (quiet guarded);
      plainly = λ _. (λ ok. cc, λ h. absurd (h.0 guarded));
      tally = record {};
      accounts = record {};
      swept = λ e. cc;
      places = λ p. (λ l. l, λ l. l);
    }

pub clear-requires : goal.clear-requires
clear-requires g c = record {
  quiet = λ some. let any : IsTrue c.is_guarded.result = c.is_guarded.ensures.1 some in absurd (cc);
}

pub returns-then-not-is_unused : goal.returns-then-not-is_unused
returns-then-not-is_unused g c =
    let holds = g.T.Item.holds in
    let old = c.args.self in
    let end = c.clear.new.self in
    let whole : IsWhole end = rw (← c.self.view_is) c.self.invariant.2 in
    let quiet : AnyGuardOpen old → ⊥ = λ some. let any : IsTrue c.is_guarded.result = c.is_guarded.ensures.1 some in absurd (cc) in
    let out : NothingIsOut end → ⊥ = λ none. let unused : IsTrue c.is_unused.result = c.is_unused.ensures.1 (rw (← c.self.view_is) at none) in absurd (cc) in
    record {
      closed = inr (refl, quiet, c.clear.ensures, out);
      exactly = (λ ok. cc, λ h. absurd (out (nothing-out holds old end c.clear.ensures whole h.1)));
      spent = λ _ e. absurd (out (nothing-out holds old end c.clear.ensures whole (none-out-goes holds old e)));
      plainly = λ _. (λ ok. cc, λ h. absurd (out (nothing-out holds old end c.clear.ensures whole (none-out-goes holds old h.1))));
      tally = record {};
      accounts = record {};
      swept = λ _. sweeps holds old end c.clear.ensures whole;
      places = λ p. rw c.clear.ensures.time (emptied-live old.time p);
    }

pub destroy-requires : goal.destroy-requires
destroy-requires g c =
    let whole : IsWhole c.clear.new.self = rw (← c.self.view_is) c.self.invariant.2 in
    let swept = sweeps g.T.Item.holds c.args.self c.clear.new.self c.clear.ensures whole in
    record {
      unused = c.is_unused.ensures.0 c.if-not-is_unused.false;
      idle = λ j. ap (λ (w : World g.row.T.Denot). entry_at w.jobs j) c.self.view_is ∙ swept.ran j;
    }

pub returns : goal.returns
returns g c =
    let holds = g.T.Item.holds in
    let old = c.args.self in
    let end = c.clear.new.self in
    let quiet : AnyGuardOpen old → ⊥ = λ some. let any : IsTrue c.is_guarded.result = c.is_guarded.ensures.1 some in absurd (cc) in
    let none : NothingIsOut end = rw (← c.self.view_is) (c.is_unused.ensures.0 c.if-not-is_unused.false) in
    let told : c.destroy.result ≡ end.tally = c.destroy.ensures ∙ ap (λ (w : World g.row.T.Denot). w.tally) c.self.view_is in
    let whole : IsWhole end = rw (← c.self.view_is) c.self.invariant.2 in
    let counted = told ∙ all-counted holds old end c.clear.ensures none in
    let at_end : IsCounted c.destroy.result 0 = subst (λ (t : Tally). IsCounted t 0) (sym told) (none-taken-at-end end none whole) in
    record {
      closed = (quiet, (end, c.clear.ensures, none, told));
      exactly = (λ _. (quiet, all-went holds old end c.clear.ensures none), λ _. refl);
      spent = λ _ _. refl;
      plainly = λ plain. (λ _. (quiet, plain-goes holds old plain (all-went holds old end c.clear.ensures none)), λ _. refl);
      accounts = tally-accounts (taken old) old.tally c.destroy.result counted at_end;
      tally = counted;
      swept = record {};
      places = record {};
    }
