-- What is known while the slot of an owner that was taken in is held, once that was let go of, and once its value was moved
use Rattle.sdd_atomics.specs.SeatAtTable.{DomainSeat}
use Rattle.std.proofs.Common.{◌≡◌, ℕ, not, List, [], ◌∷◌, eq-eqb, refl, sym, ap, ◌∙◌, subst, ⊎_elim}
use Rattle.std.specs.Prelude.{Bool, true, false, None, slice_set}
use Rattle.std.proofs.lemmas.List.{set-set}
use mathlib.Core.Bool.{cond}
use base.Stored.{Gv}
use Rattle.atomic_table.specs.declared.shared.Seat.{Seat}
use Rattle.sdd_shared_values.specs.declared.value_fraction.ValueFraction.{ValueFraction}
use Rattle.sdd_rights.specs.declared.views.ShownValue.{ShownValue}
use Rattle.sdd_rights.specs.declared.views.View.{View}
use Rattle.sdd_rights.specs.declared.views.Sizes.{Sizes}
use Rattle.sdd_rights.specs.contracts.views.View.{the_row}
use Rattle.sdd_rights.specs.Views.{owner_of, owner_seat, at_rest}
use Rattle.sdd_rights.specs.declared.read_fraction.ReadFraction.{ReadFraction}
use Rattle.sdd_rights.specs.Owner.{one-shown, witness_of_owner}
use Rattle.sdd_atomics.specs.ReadFractions.{IsReadFractionOf}
use Rattle.sdd_domain_invariant.specs.Codes.{claimed_word, held_word}
use Rattle.sdd_domain_invariant.specs.Epoch.{IsLone, IsOpen}
use Rattle.sdd_domain_invariant.specs.Slots.SlotSteps.{Knew, behind, discarded, first, others, without}
use Rattle.sdd_domain_invariant.specs.Slots.FilledInvariant.{HasRecord}
use Rattle.sdd_domain_invariant.proofs.Slots.FilledInvariant.{has_none}
use Rattle.sdd_domain_invariant.proofs.Slots.KindSteps.{has_first}
use Rattle.sdd_domain_invariant.specs.Slots.Records.{IsIn}
use Rattle.sdd_domain_invariant.proofs.Slots.Records.{in_either, in_none}
use Rattle.sdd_domain_invariant.specs.Fractions.FractionsAtHome.{CarriedFractions, spare}
use Rattle.sdd_domain_invariant.specs.Fractions.FractionSteps.{CarriesAll, parting, departing, drawing, moving, untold, undrawing, dropping, regained, resting, telling}
use Rattle.sdd_atomics.specs.TableFacts.{TableFacts, gamma_of, places_of}
use Rattle.sdd_atomics.specs.DomainSeat.{Knows, Taught, view, epoch, slots}
use Rattle.sdd_atomics.specs.Owner.{IsCutOff}
use Rattle.sdd_domain_steps.specs.Claims.{IsUnmoved}
use Rattle.sdd_domain_steps.specs.InPlace.{IsBare, IsHeldBy, IsLetGoOf, KnewUnique, LooksAround, grasped, held_words, holding, let_go_of, looked_to, with_dropped}
use Rattle.sdd_domain_steps.specs.GoesInPlace.{changed_by}
use Rattle.sdd_domain_steps.specs.LocalState.{unique_words}
use Rattle.sdd_domain_steps.specs.Values.{with_filled}

-- so many places were looked at already
pub looked_same : (k : ℕ) (v : View) → v.slots.looked ≡ k → v ≡ looked_to k v
looked_same k v e = λ d. record v { slots = record v.slots { looked = e d } }

-- the word of a slot that is let go of says the same, whatever it said meanwhile; and so does that of one that is free
words_back : (shared : Bool) (slot : ℕ) (z : Sizes) (ws : List ℕ) → unique_words shared slot z (held_words shared slot z ws) ≡ unique_words shared slot z ws
words_back true slot z ws = set-set ws (behind z slot) held_word (claimed_word true)
words_back false slot z ws = refl

words_freed : (shared : Bool) (slot : ℕ) (z : Sizes) (ws : List ℕ) → slice_set (held_words shared slot z ws) (behind z slot) 0 ≡ slice_set ws (behind z slot) 0
words_freed true slot z ws = set-set ws (behind z slot) held_word 0
words_freed false slot z ws = refl

module _ (slot : ℕ) (shared : Bool) (value : Gv) (v : View) (bare : IsBare v) where
  -- the owner cut off again, it is as it was, and so is the owner
  pub back_at_once : parting (regained v (owner_of slot shared value)) ≡ v
  back_at_once = λ d. record v { fractions = record v.fractions { owns = sym bare.untold d } }

  pub owner_at_once : departing (regained v (owner_of slot shared value)) ≡ owner_of slot shared value
  owner_at_once = λ d. record (owner_seat (slot ∷ [])) {
    fractions = record (at_rest 0) { owns = record { slot = slot; shared = shared; value = value } ∷ bare.untold d };
  }

-- where no collector is being closed, so that it looks at no place
module _ (slot : ℕ) (shared : Bool) (value : Gv) (v : View) (bare : IsBare v) (closes : v.slots.closes ≡ None) where
  -- the hold let go of, and the owner cut off, it is as it was, but for its note of the word
  pub back_again : (k : ℕ) → parting (let_go_of shared slot (holding slot shared value k v)) ≡ record v { words = unique_words shared slot v.sizes v.words }
  back_again k = λ d. record v {
    slots = record v.slots { holds = sym bare.quiet.holds d; looked = sym (bare.quiet.looked closes) d };
    fractions = record v.fractions { owns = sym bare.untold d };
    words = words_back shared slot v.sizes v.words d;
  }

  pub owner_again : (k : ℕ) → departing (let_go_of shared slot (holding slot shared value k v)) ≡ owner_of slot shared value
  owner_again k = owner_at_once slot shared value v bare

  -- another value was moved in
  pub changed_view : (k : ℕ) (now : Gv) → changed_by slot shared now (holding slot shared value k v)
      ≡ record (with_filled slot shared now v) { words = unique_words shared slot v.sizes v.words }
  changed_view k now = λ d. record v {
    slots = record v.slots { owns = sym bare.quiet.owns d; holds = sym bare.quiet.holds d; looked = sym (bare.quiet.looked closes) d };
    fractions = record v.fractions {
      moves = sym bare.rests d;
      owns = sym bare.untold d;
      filled = record { slot = slot; shared = shared; value = now } ∷ v.fractions.filled;
    };
    words = words_back shared slot v.sizes v.words d;
  }

  -- the slot is free
  pub dropped_view : (k : ℕ) → dropping (discarded slot 0 (moving slot (untold (undrawing (holding slot shared value k v))))) ≡ with_dropped slot v
  dropped_view k =
      let none : without slot (slot ∷ v.slots.owns) ≡ v.slots.owns = ap (λ (l : List ℕ). without slot (slot ∷ l)) bare.quiet.owns
      ∙ (ap (λ (c : Bool). cond (not c) (slot ∷ []) []) (eq-eqb slot slot refl) ∙ sym bare.quiet.owns) in
      λ d. record (with_dropped slot v) {
        slots = record v.slots { owns = none d; holds = sym bare.quiet.holds d; looked = sym (bare.quiet.looked closes) d };
        fractions = record (with_dropped slot v).fractions { moves = sym bare.rests d; owns = sym bare.untold d };
        words = words_freed shared slot v.sizes v.words d;
      }

-- another value was moved in, the slot was let go of, and its owner cut off: what stays, and what the owner's seat tells
module _ (slot : ℕ) (shared : Bool) (now : Gv) (v : View) (owns : v.slots.owns ≡ slot ∷ []) where
  abbrev changed : View
  changed = let_go_of shared slot (resting (telling slot shared now (drawing slot (moving slot (untold (undrawing v))))))

  pub changed_parts : parting changed ≡ changed_by slot shared now v
  changed_parts = λ d. record (changed_by slot shared now v) { slots = record (changed_by slot shared now v).slots { owns = ap others owns d } }

  pub changed_leaves : departing changed ≡ owner_of slot shared now
  changed_leaves = λ d. record (owner_seat (ap first owns d)) {
    fractions = record (at_rest 0) { owns = record { slot = slot; shared = shared; value = now } ∷ [] };
  }

-- where one record alone is known it is that of the owner that was taken in
abbrev pub only : ℕ → Bool → Gv → ShownValue
only slot shared value = record { slot = slot; shared = shared; value = value }

-- what it tells of its slot is the owner's value
pub tells_only : (slot : ℕ) (shared : Bool) (value g : Gv) (v : View) → v.fractions.owns ≡ only slot shared value ∷ [] → IsIn v.fractions.owns slot g
    → value ≡ g
tells_only slot shared value g v is there = ⊎_elim (λ (e : (slot ≡ slot) × (value ≡ g)). e.1) (λ (none : IsIn [] slot g). absurd (in_none slot g none))
    (in_either (only slot shared value) [] slot g (subst (λ (l : List ShownValue). IsIn l slot g) is there))

pub only_record : (slot : ℕ) (shared : Bool) (value : Gv) (r : ShownValue) → HasRecord (only slot shared value ∷ []) r → r.shared ≡ shared
only_record slot shared value r told = ⊎_elim (λ (e : only slot shared value ≡ r). sym (ap (λ (x : ShownValue). x.shared) e))
    (λ (none : HasRecord [] r). absurd (has_none r [] refl none)) (has_first (only slot shared value) [] r told)

-- the seat that knows the table, with all fractions in the slot out
pub row_known : (b : TableFacts) (slot : ℕ) (s : Seat ValueFraction View) (xs : CarriedFractions) → Knows b s → (Is : Gv → Type 0)
    → CarriesAll s.me.0.fractions.gamma slot s.me.0.sizes.participants (spare s.me.0.sizes.participants) Is s.me.1 xs
    → CarriesAll (gamma_of b) slot (places_of b) (spare (places_of b)) Is s.me.1 xs
row_known b slot s xs knows Is row = subst (λ (k : ℕ × Sizes). CarriesAll k.0 slot k.1.participants (spare k.1.participants) Is s.me.1 xs)
    (λ d. (knows.1 d, knows.0 d)) row

-- the seat after the owner was taken in, and where its slot is not held, as there are others
module _ (b : TableFacts) (slot : ℕ) (shared : Bool) (value : Gv) (s t h w : Seat ValueFraction View)
    (took : Taught (λ v _ w. w ≡ regained v (owner_of slot shared value)) s 0 t) (stays : Taught (λ v _ w. w ≡ v) t 0 h) (bare : IsBare (view s)) where
  pub taken_view : view h ≡ regained (view s) (owner_of slot shared value)
  taken_view = stays.3 ∙ took.3

  pub unmoved_at_once : Taught (λ v _ x. x ≡ parting v) h 0 w → IsUnmoved s w
  unmoved_at_once parts = record {
    table = parts.0 ∙ (stays.0 ∙ took.0);
    number = parts.1 ∙ (stays.1 ∙ took.1);
    others = parts.2 ∙ (stays.2 ∙ took.2);
    view = parts.3 ∙ (ap parting taken_view ∙ back_at_once slot shared value (view s) bare);
  }

  pub same_at_once : (views : List Gv) → IsCutOff (view h) views → views ≡ witness_of_owner slot shared value
  same_at_once views cut = cut ∙ ap (λ (v : View). the_row.coded.code v ∷ [])
      (ap departing taken_view ∙ owner_at_once slot shared value (view s) bare)

  pub owns_at_once : ((slots h).owns ≡ slot ∷ []) × ((slots h).drawn ≡ slot ∷ [])
  owns_at_once = (
    ap (λ (v : View). v.slots.owns) taken_view ∙ ap (λ (l : List ℕ). slot ∷ l) bare.quiet.owns,
    ap (λ (v : View). v.slots.drawn) taken_view ∙ ap (λ (l : List ℕ). slot ∷ l) bare.quiet.drawn,
  )

-- the seat after the owner was taken in and the slot was held, and after a look at each place
module _ (b : TableFacts) (slot : ℕ) (shared : Bool) (value : Gv) (s t h : Seat ValueFraction View)
    (took : Taught (λ v _ w. w ≡ regained v (owner_of slot shared value)) s 0 t) (grasps : Taught (λ v _ w. w ≡ grasped shared slot v) t 0 h)
    (knew : KnewUnique slot shared (view t)) where
  pub held_view : view h ≡ grasped shared slot (regained (view s) (owner_of slot shared value))
  held_view = grasps.3 ∙ ap (grasped shared slot) took.3

  -- what it knew of the word
  pub knew_unique : KnewUnique slot shared (view s)
  knew_unique several = subst (λ (v : View). Knew slot v (claimed_word true)) took.3 (knew several)

  module _ (n : ℕ) (none_open : Bool) (u : Seat ValueFraction View) (around : LooksAround n none_open h u) where
    pub looked_view : view u ≡ holding slot shared value around.looked.0 (view s)
    looked_view = around.looked.1 ∙ ap (looked_to around.looked.0) held_view

    pub held_by : none_open ≡ true → IsHeldBy slot shared value n s u
    held_by all = record {
      table = around.table ∙ (grasps.0 ∙ took.0);
      number = around.number ∙ (grasps.1 ∙ took.1);
      others = around.others ∙ (grasps.2 ∙ took.2);
      view = looked_view ∙ ap (λ (k : ℕ). holding slot shared value k (view s)) (around.looked.2 all);
      quiet = λ is_open. around.quiet all (ap (λ (v : View). v.epoch.state) held_view ∙ is_open);
      unique = knew_unique;
    }

    module _ (bare : IsBare (view s)) (closes : (slots s).closes ≡ None) (back : Seat ValueFraction View) (lets_go : Taught
        (λ v _ w. w ≡ let_go_of shared slot v) u 0 back) where
      pub back_view : view back ≡ let_go_of shared slot (holding slot shared value around.looked.0 (view s))
      back_view = lets_go.3 ∙ ap (let_go_of shared slot) looked_view

      pub let_go : (w : Seat ValueFraction View) → Taught (λ v _ x. x ≡ parting v) back 0 w → (IsLone (epoch s) → IsOpen (epoch s)) → IsLetGoOf slot shared s w
      let_go w parts is_open = record {
        table = parts.0 ∙ (lets_go.0 ∙ (around.table ∙ (grasps.0 ∙ took.0)));
        number = parts.1 ∙ (lets_go.1 ∙ (around.number ∙ (grasps.1 ∙ took.1)));
        others = parts.2 ∙ (lets_go.2 ∙ (around.others ∙ (grasps.2 ∙ took.2)));
        view = parts.3 ∙ (ap parting back_view ∙ back_again slot shared value (view s) bare closes around.looked.0);
        guarded = is_open;
        unique = knew_unique;
      }

      pub same_owner : (views : List Gv) → IsCutOff (view back) views → views ≡ witness_of_owner slot shared value
      same_owner views cut = cut ∙ ap (λ (v : View). the_row.coded.code v ∷ [])
          (ap departing back_view ∙ owner_again slot shared value (view s) bare closes around.looked.0)

      pub owns_one : ((slots back).owns ≡ slot ∷ []) × ((slots back).drawn ≡ slot ∷ [])
      owns_one = (
        ap (λ (v : View). v.slots.owns) back_view ∙ ap (λ (l : List ℕ). slot ∷ l) bare.quiet.owns,
        ap (λ (v : View). v.slots.drawn) back_view ∙ ap (λ (l : List ℕ). slot ∷ l) bare.quiet.drawn,
      )

-- an owner's read fraction is one whatever it is told to show
pub one_read_fraction : (b : TableFacts) (slot : ℕ) (shared : Bool) (value other : Gv) (views : List Gv) (read_fraction : ReadFraction)
    → views ≡ witness_of_owner slot shared value → IsReadFractionOf (gamma_of b) slot value read_fraction → views ≡ witness_of_owner slot shared other
    → IsReadFractionOf (gamma_of b) slot other read_fraction
one_read_fraction b slot shared value other views read_fraction is of_value told =
    subst (λ (x : Gv). IsReadFractionOf (gamma_of b) slot x read_fraction) (one-shown slot shared value other (sym is ∙ told)) of_value

-- it is one of the same seat's table
pub read_at : (s t : DomainSeat) → t ≡ s → (slot : ℕ) (value : Gv) (read_fraction : ReadFraction)
    → IsReadFractionOf t.me.0.fractions.gamma slot value read_fraction
    → IsReadFractionOf s.me.0.fractions.gamma slot value read_fraction
read_at s t same slot value read_fraction = subst (λ (q : DomainSeat). IsReadFractionOf q.me.0.fractions.gamma slot value read_fraction) same
