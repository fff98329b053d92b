-- What is not there: the lines that are invalid
use Rattle.sdd_interpreter.proofs.Words.{◌≡◌, ◌≢◌, ℕ, Option, Some, None, slice_index_or, refl, sym, ap, ◌∙◌, option_map, get_or-map, false≢true, PlaceName, Val, AnyOwner, Sole, Share, Environment, NamedParticipant, ScriptState, opening_at, holding_at, since_of, since_in, Acts, IsParticipant, CanPointTo, open_since, owner_holding, state_of, Action, At, CanPointAt, IsShared, IsValid}
use Rattle.sdd_space.specs.Shared.{Shared}
use Rattle.sdd_script_text.specs.declared.answer.Reply.TheVariants as reply
use Rattle.sdd_interpreter.proofs.Acts.{still}

-- what isn't valid is answered so, and changes nothing
pub invalid : (d : ScriptState) (n : PlaceName) (a : Action) → ¬ (IsValid d n.0 a) → Acts d (At n a) reply.Invalid d
invalid d n a wrong = still d (At n a) reply.Invalid (wrong, refl)

module _ (h : Environment) where
  abbrev d : ScriptState
  d = state_of h

  -- ---- nobody has this name

  pub no-participant : (n : ℕ) → None ≡ slice_index_or h.places.entries.items n None → ¬ (IsParticipant d n)
  no-participant n none there =
      let entry : opening_at d.places n ≡ None = get_or-map open_since h.places.entries.items n None ∙ ap open_since (sym none) in
      false≢true (rw entry at there)

  -- so what one would do is invalid
  pub nobody : (name : PlaceName) (a : Action) → None ≡ slice_index_or h.places.entries.items name.0 None → (IsValid d name.0 a → IsParticipant d name.0) →
      Acts d (At name a) reply.Invalid d
  nobody name a none there = invalid d name a (λ valid. no-participant name.0 none (there valid))

  -- ---- no owner of this kind has this name

  owner-entry : (o : ℕ) (x : Option AnyOwner) → slice_index_or h.owners.entries.items o None ≡ x → holding_at d.owners o ≡ option_map owner_holding x
  owner-entry o x e = get_or-map (option_map owner_holding) h.owners.entries.items o None ∙ ap (option_map owner_holding) e

  pub no-shared : (o : ℕ) → ((owner : Shared Val) → slice_index_or h.owners.entries.items o None ≢ Some (Share owner)) → ¬ (IsShared d o)
  no-shared o none there = by (slice_index_or h.owners.entries.items o None) refl where
    by : (x : Option AnyOwner) → slice_index_or h.owners.entries.items o None ≡ x → ⊥
    by None e = let entry = owner-entry o None e in false≢true (rw entry at there)
    by (Some (Sole x)) e = let entry = owner-entry o (Some (Sole x)) e in false≢true (rw entry at there)
    by (Some (Share x)) e = none x e

  -- ---- the participant can't point to this item

  module _ (n : ℕ) (a : NamedParticipant) (there : open_since (Some a) ≡ opening_at d.places n) where
    since-is : since_of d n ≡ a.since
    since-is = ap since_in (sym there)

    -- what a interpreter says of it is what is meant
    pub points : (i : ℕ) → CanPointAt h.world h.log.slots.items h.log.names.items h.log.dates.items i a.since → CanPointTo d n i
    points i can = (record { last = can.last; taken = can.taken }, λ waits. rw since-is (can.fresh waits))

    pub points-not : (i : ℕ) → ¬ (CanPointAt h.world h.log.slots.items h.log.names.items h.log.dates.items i a.since) → ¬ (CanPointTo d n i)
    points-not i cannot can = cannot (record { last = can.0.last; taken = can.0.taken; fresh = λ waits. rw (← since-is) (can.1 waits) })
