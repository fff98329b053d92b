-- A participant's seat between two calls is at the table of its domain, so that what is so by the one is so by the other
use Rattle.std.proofs.Common.{◌≡◌, ℕ, Bool, ◌<◌, List, Option, refl, sym, ap, ◌∙◌, subst}
use base.Stored.{Gv}
use Rattle.sdd_participants.specs.declared.participant.Participant.{Participant}
use Rattle.sdd_rights.specs.declared.views.Sizes.{Sizes}
use Rattle.sdd_domain_invariant.specs.Epoch.{HasPlace}
use Rattle.sdd_world_model.specs.OwnerOrCell.{OwnerOrCell, AreOf}
use Rattle.sdd_atomics.specs.TableFacts.{TableFacts, id_of, gamma_of, places_of, slots_of}
use Rattle.sdd_atomics.specs.SeatAtTable as seat
use Rattle.sdd_atomics.specs.SeatAtTable.{DomainSeat, facts_at}
use Rattle.sdd_atomics.specs.DomainSeat.{epoch}
use Rattle.sdd_atomics.proofs.Sitting.{viewed_facts}
use Rattle.sdd_domain_steps.specs.declared.cells.values.LooseOwner.{LooseOwner}
use Rattle.sdd_domain_steps.specs.BetweenCalls.{IsBetweenCalls}
use Rattle.sdd_domain_steps.specs.Cells.{AreLoose}
use Rattle.sdd_domain_steps.specs.InPlace.{IsHeldBy}
use Rattle.sdd_domain_steps.specs.SpaceIds.{home_of_slots}
use Rattle.sdd_domain_steps.proofs.InPlace.{placed}

module _ {b : TableFacts} {p : ℕ} {own : Participant} {s : DomainSeat} (q : IsBetweenCalls b p own s) where
  pub at_table : facts_at s ≡ b
  at_table = λ d. record { id = q.home d; sizes = q.knows.0 d; gamma = q.knows.1 d }

  pub fits_from : (hs : List OwnerOrCell) → AreOf (home_of_slots (seat.id_of s) (seat.gamma_of s) (seat.slots_of s)) hs
      → AreOf (home_of_slots (id_of b) (gamma_of b) (slots_of b)) hs
  fits_from hs = subst (λ (t : TableFacts). AreOf (home_of_slots t.id t.gamma t.sizes.slots) hs) at_table

  pub placed_at : HasPlace (epoch s) × ((epoch s).place < seat.places_of s) × ((epoch s).all ≡ seat.places_of s)
  placed_at = subst (λ (k : ℕ). HasPlace (epoch s) × ((epoch s).place < k) × ((epoch s).all ≡ k)) (sym (ap (λ (z : Sizes). z.participants) q.knows.0))
      (placed b p own s q)

  pub loose_to : (shared : Bool) (new : Option LooseOwner) → AreLoose b shared new → AreLoose (facts_at s) shared new
  loose_to shared new = subst (λ (t : TableFacts). AreLoose t shared new) (sym at_table)

  pub loose_from : (shared : Bool) (new : Option LooseOwner) → AreLoose (facts_at s) shared new → AreLoose b shared new
  loose_from shared new = subst (λ (t : TableFacts). AreLoose t shared new) at_table

  -- a slot was held after it
  module _ (slot : ℕ) (shared : Bool) (value : Gv) (h : DomainSeat) (held : IsHeldBy slot shared value (seat.places_of s) s h) where
    pub held_at_table : IsHeldBy slot shared value (places_of b) s h
    held_at_table = subst (λ (k : ℕ). IsHeldBy slot shared value k s h) (ap (λ (z : Sizes). z.participants) q.knows.0) held

    pub holds_at_table : facts_at h ≡ b
    holds_at_table = viewed_facts s h _ held.table held.view (refl, refl) ∙ at_table
