use Rattle.std.proofs.Common.{◌≡◌, ◌≢◌, ℕ, Option, Some, None, ap, refl, sym, subst}
use Rattle.std.specs.Prelude.{MatchOption}
use Rattle.sdd_rights.specs.declared.right.Right.{Right}
use Rattle.sdd_participants.specs.Slab.{Entries}
use Rattle.sdd_participants.specs.EpochState.{EpochState}
use Rattle.sdd_participants.specs.declared.standing.Standing.TheVariants.{Owned, Raw}
use Rattle.sdd_participants.specs.declared.tally.Tally.{Tally}
use Rattle.sdd_values.specs.ReadSections.{ReadSections}
use Rattle.sdd_world_model.specs.Cells.{Cells}
use Rattle.sdd_world_model.specs.Slots.{Slots, standing_at, with_standing}
use Rattle.sdd_world_model.specs.Out.{is_out}
use Rattle.sdd_world_model.specs.WorldStep.WorldStep.{takes_back_raw}
use Rattle.sdd_world_model.specs.WorldInvariant.{IsWhole}
use Rattle.sdd_world_model.specs.World.{World}
use Rattle.sdd_world_model.proofs.PlacesMatchStates.{Whole-restands}
use Rattle.sdd_world_core.specs.Lending.{AreLentOf}
use Rattle.sdd_world_core.proofs.Lending.{lent-call, readers-as}
use Rattle.sdd_participants.specs.Jobs.{places_of}
use Rattle.sdd_world_core.proofs.world_core.WorldCore.from_raw.Goals as goal

-- the slots after an item is taken back, or after none is
module _ {T : Type 0} (P : Slots T → Type 0) (s new : Slots T) (k : ℕ) where
  either : (o : Option Right) →
      MatchOption o ((standing_at s k ≢ Some Raw) × (new ≡ s)) (λ _. (standing_at s k ≡ Some Raw) × (new ≡ with_standing s k Owned)) →
      P s → (standing_at s k ≡ Some Raw → P (with_standing s k Owned)) → P new
  either None h same back = subst P (sym h.1) same
  either (Some right) h same back = subst P (sym h.1) (back h.0)

-- the world of these parts
abbrev of : {T : Type 0} → EpochState → Cells → Entries (Unit {0}) → ReadSections → Tally → Slots T → World T
of t c jobs r tally s = record {
  home = record { slots = s.home; cells = c.home; readers = r.home };
  time = t;
  standings = s.standings;
  values = s.values;
  cells = c.cells;
  pointers = c.pointers;
  jobs = jobs;
  tally = tally;
}

pub returns-clause-whole : goal.returns-clause-whole
returns-clause-whole g c =
    let i = c.self.inside in
    let slot : ℕ = c.args.slot in
    rw (← c.self.view_is)
    (λ whole. either (λ s. IsWhole (of i.time i.cells (places_of i.jobs) i.sections i.tally s)) i.slots c.from_raw.new.self slot c.from_raw.result
    c.from_raw.ensures.back whole (λ is. Whole-restands _ slot Owned (ap is_out is) refl whole))

pub returns-clause-lent : goal.returns-clause-lent
returns-clause-lent g c =
    let i = c.self.inside in
    let slot : ℕ = c.args.slot in
    rw (← c.self.view_is)
    (λ whole l. either (λ s. AreLentOf (of i.time i.cells (places_of i.jobs) i.sections i.tally s)
    (record { fractions = s.fractions; sections = i.sections })) i.slots
    c.from_raw.new.self slot c.from_raw.result c.from_raw.ensures.back l
    (λ is. lent-call g.T.Item.holds _ _ _ (takes_back_raw _ slot is) whole (λ h. readers-as _ _ refl refl h) (λ q. refl) l))
