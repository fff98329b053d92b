-- What a look makes of a participant, as its callers see it
use Rattle.std.proofs.Common.{◌≡◌, ℕ, refl, sym, ap, ◌∙◌, subst}
use mathlib.Core.Logic.{dite}
use native.Mathlib.Decide.{dec_lt}
use base.Stored.{Gv}
use Rattle.atomic_table.specs.Seated.{TableId}
use Rattle.atomic_table.specs.declared.shared.Seat.{Seat}
use Rattle.sdd_shared_values.specs.declared.value_fraction.ValueFraction.{ValueFraction}
use Rattle.sdd_rights.specs.declared.views.View.{View}
use Rattle.sdd_domain_invariant.specs.Sums.{times}
use Rattle.sdd_domain_invariant.specs.Slots.Records.{IsIn}
use Rattle.sdd_domain_invariant.specs.Fractions.FractionSteps.{SeatState, SeesOwned, LearnsOwned}
use Rattle.sdd_domain_invariant.proofs.Slots.Records.{in_head}
use Rattle.std.specs.Prelude.{Bool, [], ◌∷◌}
use Rattle.sdd_rights.specs.declared.right.Right.{Right}
use Rattle.sdd_rights.specs.Units.{GhostName}
use Rattle.sdd_rights.specs.Right.{home_of, AreSlotsOfTable}
use Rattle.sdd_domain_steps.specs.Items.{slots_home}
use Rattle.sdd_domain_steps.specs.LocalState.{LocalState, IsLone, LooksAt, KnowsOwner}
use Rattle.sdd_atomics.specs.DomainSeat.{MovedAlone}

-- a participant with this seat
abbrev pub with_seat : {J : Type 0} → LocalState J → Seat ValueFraction View → LocalState J
with_seat m s = record m {
  home = s.table_id;
  known = s.me.0.epoch.known;
  since = s.me.0.epoch.since;
  sizes = s.me.0.sizes;
  slots = s.me.0.slots;
  shown = s.me.0.fractions.sees;
  filled = s.me.0.fractions.filled;
  words = s.me.0.words;
}

abbrev pub with_view : {J : Type 0} → LocalState J → TableId → View → LocalState J
with_view m id v = record m {
  home = id;
  known = v.epoch.known;
  since = v.epoch.since;
  sizes = v.sizes;
  slots = v.slots;
  shown = v.fractions.sees;
  filled = v.fractions.filled;
  words = v.words;
}

pub looks_at : {J : Type 0} (m : LocalState J) (slot : ℕ) (shared : Bool) (value : Gv) (s u z : Seat ValueFraction View)
    → MovedAlone (SeesOwned slot shared value) s u
    → z ≡ record u { me = (u.me.0, z.me.1) } → LooksAt slot shared value (with_seat m s) (with_seat m z)
looks_at m slot shared value s u z watched is = let w = watched.2 in
    let table : z.table_id ≡ s.table_id = ap (λ (x : Seat ValueFraction View). x.table_id) is ∙ watched.0 in
    let view : z.me.0 ≡ u.me.0 = ap (λ (x : Seat ValueFraction View). x.me.0) is in record {
      seen = λ sees. let same = w.0 sees in (
        (λ d. with_view m (table d) ((view ∙ ap (λ (x : SeatState). x.0) same.0) d)),
        same.1,
      );
      unseen = λ blind. let o = w.1 blind in λ d. with_view m (table d) ((view ∙ ap (λ (x : SeatState). x.0) o.2) d);
    }

-- after a look what is shown is known, and what was known before
module _ {J : Type 0} (slot : ℕ) (shared : Bool) (value : Gv) (old new : LocalState J) (looks : LooksAt slot shared value old new) where
  pub shown_now : IsIn new.shown slot value
  shown_now = dite (dec_lt 0 (times slot old.slots.sees))
      (λ sees. let s = looks.seen sees in subst (λ (m : LocalState J). IsIn m.shown slot value) (sym s.0) s.1)
      (λ blind. subst (λ (m : LocalState J). IsIn m.shown slot value) (sym (looks.unseen blind))
      (in_head (record { slot = slot; shared = shared; value = value }) old.shown slot value refl refl))

-- beside a slot's owner a lone participant knows it
pub recalls_to : {J : Type 0} (m : LocalState J) (slot : ℕ) (shared : Bool) (value : Gv) (s t : Seat ValueFraction View)
    → MovedAlone (LearnsOwned slot shared value) s t
    → s.me.0.epoch.all ≡ m.limits.participants → IsLone m → KnowsOwner (with_seat m s) slot shared value
recalls_to m slot shared value s t recalled all lone = let r = recalled.2.1 (all ∙ lone) in record { newest = r.newest; alive = r.alive; kind = r.kind }

-- an owner of its domain has a seat
pub has_tables : {J : Type 0} (m : LocalState J) (right : Right) → home_of right ≡ slots_home m → AreSlotsOfTable (home_of right)
has_tables m right e = (
  (λ none. let apart : m.home ∷ [] ≡ [] = sym (ap (λ (h : GhostName). h.tables) e) ∙ none in cc),
  ap (λ (h : GhostName). h.cells) e,
)
