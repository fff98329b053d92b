-- What is of one home is of another with the same slots and cells
use Rattle.std.proofs.Common.{◌≡◌, List, [], ◌∷◌, sym, ap, ◌∙◌}
use Rattle.atomic_table.specs.Seated.{TableId}
use Rattle.sdd_atomics.specs.TableFacts.{TableFacts, id_of, gamma_of, sizes_of, slots_of}
use Rattle.sdd_core.specs.declared.limits.Limits.{Limits}
use Rattle.sdd_rights.specs.declared.views.Sizes.{Sizes}
use Rattle.sdd_rights.specs.Right.{home_of_table}
use Rattle.sdd_shared_values.specs.declared.shared_values.SharedValues.{SharedValues}
use Rattle.sdd_domain_steps.specs.DomainValues.{sizes_in, IsValuesOf}
use Rattle.sdd_domain_steps.specs.SpaceIds.{home_at, home_of_slots, home_in, cells_home}
use Rattle.sdd_domain_steps.specs.LocalState.{LocalState}
use Rattle.sdd_world_model.specs.OwnerOrCell.{SpaceId, OwnerOrCell, owned, shared, atomic_owned, atomic_shared, atomic_raw, AreOf}

pub re_homed : (a b : SpaceId) → a.slots ≡ b.slots → a.cells ≡ b.cells → (hs : List OwnerOrCell) → AreOf a hs → AreOf b hs
re_homed a b slots cells [] of_a = tt
re_homed a b slots cells (owned k h ∷ hs) of_a = (of_a.0 ∙ slots, re_homed a b slots cells hs of_a.1)
re_homed a b slots cells (shared k h ∷ hs) of_a = (of_a.0 ∙ slots, re_homed a b slots cells hs of_a.1)
re_homed a b slots cells (atomic_owned k h ∷ hs) of_a = (of_a.0 ∙ cells, re_homed a b slots cells hs of_a.1)
re_homed a b slots cells (atomic_shared k h ∷ hs) of_a = (of_a.0 ∙ cells, re_homed a b slots cells hs of_a.1)
re_homed a b slots cells (atomic_raw k h ∷ hs) of_a = (of_a.0 ∙ cells, re_homed a b slots cells hs of_a.1)

-- the participant is one of this table's domain
pub record IsOn {J : Type 0} (b : TableFacts) (m : LocalState J) : Type 0 where
  pub home : m.home ≡ id_of b
  pub gamma : m.gamma ≡ gamma_of b
  pub slots : m.limits.slots ≡ slots_of b
  pub jobs : m.limits.jobs ≡ (sizes_of b).jobs

pub on_table : {J : Type 0} (l : Limits) (b : TableFacts) (same_table : TableId) → same_table ≡ id_of b → sizes_of b ≡ sizes_in l → (m : LocalState J) → m.home
    ≡ same_table → m.gamma ≡
    gamma_of b → m.limits ≡ l
    → IsOn b m
on_table l b same_table same sizes m home gamma limits = record {
  home = home ∙ same;
  gamma = gamma;
  slots = ap (λ (x : Limits). x.slots) limits ∙ sym (ap (λ (z : Sizes). z.slots) sizes);
  jobs = ap (λ (x : Limits). x.jobs) limits ∙ sym (ap (λ (z : Sizes). z.jobs) sizes);
}

module _ {J : Type 0} (b : TableFacts) (m : LocalState J) (on : IsOn b m) where
  -- what may be held in the domain of the table is of the participant's home
  pub to_table : (hs : List OwnerOrCell) → AreOf (home_in m) hs → AreOf (home_of_slots (id_of b) (gamma_of b) (slots_of b)) hs
  to_table = re_homed (home_in m) (home_of_slots (id_of b) (gamma_of b) (slots_of b))
      (λ d. home_of_table (on.home d) (on.gamma d) (on.slots d)) (λ d. cells_home (on.home d))

  pub from_table : (hs : List OwnerOrCell) → AreOf (home_of_slots (id_of b) (gamma_of b) (slots_of b)) hs → AreOf (home_in m) hs
  from_table = re_homed (home_of_slots (id_of b) (gamma_of b) (slots_of b)) (home_in m)
      (λ d. home_of_table (sym on.home d) (sym on.gamma d) (sym on.slots d)) (λ d. cells_home (sym on.home d))

  pub from_values : {T F : Type 0} (values : SharedValues T F) → IsValuesOf b values → (hs : List OwnerOrCell) → AreOf
      (home_of_slots values.table values.gamma values.size) hs
      → AreOf (home_in m) hs
  from_values values s = re_homed (home_of_slots values.table values.gamma values.size) (home_in m)
      (λ d. home_of_table ((s.table ∙ sym on.home) d) ((s.gamma ∙ sym on.gamma) d) ((s.size ∙ sym on.slots) d)) (λ d. cells_home ((s.table ∙ sym on.home) d))

-- what a value in a domain holds is of the domain's home
pub of_domain : {T F : Type 0} (l : Limits) (b : TableFacts) (values : SharedValues T F) → sizes_of b ≡ sizes_in l → IsValuesOf b values →
    (hs : List OwnerOrCell) →
    AreOf (home_of_slots values.table values.gamma values.size) hs → AreOf (home_at (id_of b) (gamma_of b) l) hs
of_domain l b values sizes s = re_homed (home_of_slots values.table values.gamma values.size) (home_at (id_of b) (gamma_of b) l)
    (λ d. home_of_table (s.table d) (s.gamma d) ((s.size ∙ ap (λ (z : Sizes). z.slots) sizes) d)) (λ d. cells_home (s.table d))
