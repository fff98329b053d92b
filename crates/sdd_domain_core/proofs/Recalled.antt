-- An owner was recalled beside a participant's seat: that changed nothing, and what it tells of the owner is known
use Rattle.std.proofs.Common.{◌≡◌, ℕ, refl, sym, ap, ◌∙◌, subst}
use Rattle.std.specs.Prelude.{Bool}
use base.Stored.{Gv}
use Rattle.atomic_table.specs.declared.shared.Seat.{Seat}
use Rattle.sdd_core.specs.declared.limits.Limits.{Limits}
use Rattle.sdd_participants.specs.declared.participant.Participant.{Participant}
use Rattle.sdd_rights.specs.declared.read_fraction.ReadFraction.{ReadFraction}
use Rattle.sdd_rights.specs.declared.right.StandingKind.{StandingKind}
use Rattle.sdd_rights.specs.declared.right.Right.{Right}
use Rattle.sdd_rights.specs.Owner.{witness_of_owner}
use Rattle.sdd_rights.specs.Right.{AreSlotsOfTable, IsOwnerBy, home_of, kind_of, number_of, views_of}
use Rattle.sdd_rights.specs.StandingKind.{is_shared}
use Rattle.sdd_witness.specs.declared.witness.Witness.{Witness}
use Rattle.sdd_shared_values.specs.declared.value_fraction.ValueFraction.{ValueFraction}
use Rattle.sdd_rights.specs.declared.views.Sizes.{Sizes}
use Rattle.sdd_rights.specs.declared.views.View.{View}
use Rattle.sdd_domain_invariant.specs.Fractions.FractionSteps.{LearnsOwned}
use Rattle.sdd_atomics.specs.TableFacts.{TableFacts, gamma_of, sizes_of}
use Rattle.sdd_atomics.specs.DomainSeat.{MovedAlone}
use Rattle.sdd_domain_steps.specs.BetweenCalls.{IsBetweenCalls}
use Rattle.sdd_domain_steps.specs.DomainValues.{sizes_in}
use Rattle.sdd_domain_steps.specs.Items.{HasValue, slots_home}
use Rattle.sdd_domain_steps.specs.LocalState.{LocalState, IsLone, KnowsOwner}
use Rattle.sdd_domain_steps.proofs.SameHome.{IsOn, on_table}
use Rattle.sdd_domain_steps.proofs.InPlace.{owner_by, owner_has, owner_views}
use Rattle.sdd_domain_steps.proofs.LocalLooks.{recalls_to, with_seat}
use Rattle.sdd_domain_steps.proofs.BetweenCalls.{same_recalled}

pub record IsRecalled {J : Type 0} (b : TableFacts) (p : ℕ) (own : Participant) (m : LocalState J) (right : Right) (kind : StandingKind) (w : Witness)
    (read_fraction : ReadFraction) (slot : ℕ) (l t : Seat ValueFraction View) : Type 0 where
  pub on : IsOn b m
  pub home : home_of right ≡ slots_home m
  pub owner : IsOwnerBy (home_of right) (number_of right) (is_shared (kind_of right)) w read_fraction
  pub views : w.views ≡ witness_of_owner slot (is_shared kind) read_fraction.shown
  pub same : t ≡ l
  pub between : IsBetweenCalls b p own t
  pub all : IsLone m → l.me.0.epoch.all ≡ 1
  pub has : w.views ≡ views_of right → HasValue read_fraction.shown right
  pub tells : IsLone m → KnowsOwner (with_seat m l) (number_of right) (is_shared kind) read_fraction.shown

pub is_recalled : {J : Type 0} (limits : Limits) (b : TableFacts) (p : ℕ) (own : Participant) (m : LocalState J) (right : Right) (kind : StandingKind)
    (w : Witness) (read_fraction : ReadFraction) (slot : ℕ) (l t : Seat ValueFraction View) → sizes_of b ≡ sizes_in limits
    → m.home ≡ l.table_id → m.gamma ≡ gamma_of b → m.limits ≡ limits → home_of right ≡ slots_home m → kind_of right ≡ kind
    → (AreSlotsOfTable (home_of right) → IsOwnerBy (home_of right) (number_of right) (is_shared (kind_of right)) w read_fraction) → slot ≡ number_of right
    → ((k : ℕ) (shared : Bool) (value : Gv) → w.views ≡ witness_of_owner k shared value → MovedAlone (LearnsOwned k shared value) l t)
    → IsBetweenCalls b p own l → IsRecalled b p own m right kind w read_fraction slot l t
is_recalled limits b p own m right kind w read_fraction slot l t sizes table gamma limits_are home of_kind by is recalls i =
    let on = on_table limits b l.table_id i.home sizes m table gamma limits_are in
    let views = owner_views b m on right kind home of_kind w read_fraction by slot is in
    let same = same_recalled b p slot (is_shared kind) read_fraction.shown l t (recalls slot (is_shared kind) read_fraction.shown views) in
    let all = i.all ∙ (ap (λ (z : Sizes). z.participants) sizes ∙ ap (λ (x : Limits). x.participants) (sym limits_are)) in record {
      on = on;
      home = home;
      owner = owner_by b m on right kind home of_kind w read_fraction by slot is;
      views = views;
      same = same;
      between = subst (IsBetweenCalls b p own) (sym same) i;
      all = λ lone. all ∙ lone;
      has = owner_has b m on right kind home of_kind w read_fraction by slot is;
      tells = recalls_to m (number_of right) (is_shared kind) read_fraction.shown l t
          (recalls (number_of right) (is_shared kind) read_fraction.shown (owner_views b m on right kind home of_kind w read_fraction by
          (number_of right) refl)) all;
    }
