-- A collector that is closed
use Rattle.std.proofs.Common.{◌≡◌, ℕ, ◌<◌, List, length, ap, ◌∙◌, arith}
use Rattle.std.proofs.Math.ListN.{get_or-map}
use Rattle.std.proofs.lemmas.List.{length-map}
use Rattle.sdd_participants.specs.EpochState.{EpochState, nobody}
use Rattle.sdd_participants.specs.EpochState as time
use Rattle.sdd_participants.specs.Collecting.{without}
use Rattle.sdd_participants.specs.declared.participant.Participant.{Participant}
use Rattle.sdd_world_model.specs.OwnerOrCell.{OwnerOrCell}
use Rattle.sdd_world_model.specs.Loans.{Loans}
use Rattle.sdd_world_model.specs.World.{World, AnyGuardOpen, KeepsSizes, place_at}
use Rattle.sdd_world_model.specs.ParticipantChanges.{all_awaiting}
use Rattle.sdd_world_model.specs.Collecting.{collector_closed, is_for, without_collector}
use Rattle.sdd_world_model.proofs.ParticipantChanges.{Gives-collector_closed}
use Rattle.sdd_world_model.proofs.WorldInvariant.{all_awaiting-guards}
use Rattle.sdd_world_core.specs.Lending.{AreLentOf}
use Rattle.sdd_world_core.proofs.Lending.{SameGuards, guards-placed, readers-keep}
use Rattle.sdd_world_core.proofs.NoGuards.{lent-quiet}

module _ {T : Type 0} (holds : T → List OwnerOrCell) (w : World T) (p c : ℕ) (there : p < length w.time.places) where
  -- as many guards are open as before
  guards-without : SameGuards w (without_collector w c)
  guards-without q = ap (λ (x : Participant). x.guards) (get_or-map (without (is_for w c)) w.time.places q nobody)

  guards-closed : SameGuards w (collector_closed holds w p c)
  guards-closed q =
      let start = without_collector w c in
      let inside : p < length start.time.places = omega (arith, there, length-map w.time.places (without (is_for w c))) in
      let g = Gives-collector_closed holds w p c there in
      ap (λ (t : EpochState). (time.place_at t q).guards) g.time
      ∙ guards-placed start p (all_awaiting g.slots (place_at start p)) inside (all_awaiting-guards g.slots (place_at start p)) q
      ∙ guards-without q

  -- nothing is lent, as no guard is open
  pub lent-closed : (l : Loans) → (AnyGuardOpen w → ⊥) → KeepsSizes w (collector_closed holds w p c) → AreLentOf w l →
      AreLentOf (collector_closed holds w p c) l
  lent-closed l quiet sizes i =
      lent-quiet w (collector_closed holds w p c) l (readers-keep w (collector_closed holds w p c) sizes i.readers) guards-closed quiet i

  -- the count is as before
  pub count-closed : (collector_closed holds w p c).time.count ≡ w.time.count
  count-closed = ap (λ (t : EpochState). t.count) (Gives-collector_closed holds w p c there).time
