use Rattle.sdd_script.proofs.Words.{◌≡◌, ℕ, None, Some, IsSome, is_some, slice_index_or, refl, sym, ap, ◌∙◌, map-set, standing_at, is_out, sole_slot, item_in, At, Environment, owner_holding, state_of, IsTied, Does, attends, here, leaves, sits, Owned, name-some, named as named-as, off-standing, raw-leaves, nobody}
use Rattle.sdd_script_model.specs.Sound.{named}
use Rattle.sdd_participants.specs.declared.standing.Standing.TheVariants.{Shared}
use Rattle.sdd_script_text.specs.Actions as call
use Rattle.sdd_script_text.specs.declared.answer.Reply.TheVariants as reply
use Rattle.sdd_script.proofs.acts.raw.put_out_raw.Goals as goal

pub returns-in_default : goal.returns-in_default
returns-in_default c = record {
  acts = rw (← c.interpreter.view_is) (nobody c.interpreter.inside.environment c.args.name _ c.in_default.ensures
      (λ valid. valid.0));
}

-- the item has a name
has-name : (h : Environment) → IsTied h → (k s : ℕ) → s ≡ k → standing_at h.world k ≡ Some Owned → IsSome (slice_index_or h.log.names.items s None)
has-name h t k s is stands =
    rw is (name-some (state_of h) t.sound.stocked k (ap is_out stands)
    (off-standing (state_of h) h.world (named (state_of h)) t.sound.ledger (λ n b es at holds. holds) k
    (λ sole. absurd (let never : Some Owned ≡ Some (Shared 1) = sym stands ∙ sole in cc))))

pub item_at-requires : goal.item_at-requires
item_at-requires c = has-name c.interpreter.inside.environment c.interpreter.invariant _ _ c.slot_of_sole-slot.ensures c.at.ensures.done.0

went : (c : goal.After-item_at) → Does (state_of c.interpreter.inside.environment) (At c.args.name (call.Raw c.args.owner))
    (reply.Raw c.item_at.result) (record c.interpreter.inside.environment { world = c.at.new.world; owners = c.take_sole.new.owners })
went c =
    let at = here c.args.name.0 c.interpreter.invariant c.is_whole.ensures c.in-Some.ensures in
    let took = c.in-Some-take_sole.ensures in
    let done = c.at.ensures.done in
    let its = ap sole_slot (named-as owner_holding c.interpreter.inside.environment.owners.entries.items c.args.owner.0 took.0) in
    leaves at refl (simp (done.1, took.1, map-set))
    (raw-leaves (state_of c.interpreter.inside.environment) at.tied.sound at.whole _ _ (sits at) c.args.owner.0 its done.0) (
      (attends at, ap is_some its),
      (
        _,
        its,
        c.item_at.ensures ∙ ap (item_in c.interpreter.inside.environment.log.names.items) c.slot_of_sole-slot.ensures,
        refl,
      ),
    )

pub invariant_of-interpreter-2 : goal.invariant_of-interpreter-2
invariant_of-interpreter-2 c = (went c).0

pub returns : goal.returns
returns c = record { acts = rw (← c.interpreter.view_is) (went c).1 }
