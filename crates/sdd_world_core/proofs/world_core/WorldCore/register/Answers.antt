use Rattle.std.proofs.Common.{◌≡◌, ◌∙◌, ℕ, List, Ok, Err, arith}
use Rattle.std.specs.Prelude.{MatchResult, Result}
use Rattle.sdd_core.specs.declared.refused.Refused.{Refused}
use Rattle.sdd_participants.specs.EpochState.{EpochState, IsVacant}
use Rattle.sdd_participants.specs.EpochState as time
use Rattle.sdd_values.specs.ReadSections.{ReadSections}
use Rattle.sdd_world_model.specs.Slots.{Slots}
use Rattle.sdd_world_model.specs.Cells.{Cells}
use Rattle.sdd_participants.specs.Slab.{Entries}
use Rattle.sdd_world_model.specs.OwnerOrCell.{OwnerOrCell}
use Rattle.sdd_world_model.specs.Loans.{Loans}
use Rattle.sdd_world_core.specs.WorldCore.{IsSound}
use Rattle.sdd_world_core.specs.Lending.{AreLentOf}
use Rattle.sdd_world_core.proofs.Lending.{lent-registered}
use Rattle.sdd_world_model.specs.World.{World}
use Rattle.sdd_world_model.specs.WorldInvariant.{IsWhole}
use Rattle.sdd_world_model.proofs.PlacesMatchStates.{Whole-registered, registered-adds}
use Rattle.sdd_participants.specs.Jobs.{places_of}
use Rattle.sdd_world_core.proofs.world_core.WorldCore.register.Goals as goal

-- one place more, or as before
registers : {T : Type 0} (w : World T) (t : EpochState) (answer : Result ℕ Refused) →
    MatchResult answer (λ p. IsVacant w.time p × (t ≡ time.registered w.time p)) (λ _. t ≡ w.time) →
    IsWhole w → IsWhole (record w { time = t })
registers w t (Ok p) h i = rw h.1 (Whole-registered w p h.0 i)
registers w t (Err e) h i = rw h i

-- what is lent stays so
lends : {T : Type 0} (holds : T → List OwnerOrCell) (w : World T) (t : EpochState) (l : Loans) (answer : Result ℕ Refused) →
    MatchResult answer (λ p. IsVacant w.time p × (t ≡ time.registered w.time p)) (λ _. t ≡ w.time) → w.time.participants ≡ w.home.readers.size →
    IsWhole w → AreLentOf w l → AreLentOf (record w { time = t }) l
lends holds w t l (Ok p) h n i k = rw h.1 (lent-registered holds w l p h.0 n i k)
lends holds w t l (Err e) h n i k = rw h k

-- there is room for what waits, as before
sound : {T : Type 0} (holds : T → List OwnerOrCell) (t u : EpochState) (s : Slots T) (c : Cells) (jobs : Entries (Unit {0})) (r : ReadSections)
    (answer : Result ℕ Refused) →
    MatchResult answer (λ p. IsVacant t p × (u ≡ time.registered t p)) (λ _. u ≡ t) → IsSound holds t s c jobs r → IsSound holds u s c jobs r
sound holds t u s c jobs r (Ok p) h i =
    let a = registered-adds t p in
    rw h.1 (record {
      counted = omega (arith, i.counted, a.waiting);
      reserved = a.room ∙ i.reserved;
      held = i.held;
      homes = i.homes;
      participants = a.participants ∙ i.participants;
      sections = i.sections;
      readers = i.readers;
    })
sound holds t u s c jobs r (Err e) h i = rw h i

pub invariant_of-self : goal.invariant_of-self
invariant_of-self g c =
    let i = c.self.inside in
    sound g.T.Item.holds i.time c.register.new.self i.slots i.cells
    (places_of i.jobs) i.sections c.register.result c.register.ensures.registered c.self.invariant

pub returns-clause-whole : goal.returns-clause-whole
returns-clause-whole g c = rw (← c.self.view_is) (λ i. registers _ c.register.new.self c.register.result c.register.ensures.registered i)

pub returns-clause-lent : goal.returns-clause-lent
returns-clause-lent g c = rw (← c.self.view_is) (λ i k.
    lends g.T.Item.holds _ c.register.new.self _ c.register.result c.register.ensures.registered c.self.invariant.participants i k)
