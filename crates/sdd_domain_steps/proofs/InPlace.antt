-- A participant whose owner is alone with its item, before and after that was changed or dropped in its place
use Rattle.std.proofs.Common.{◌≡◌, ◌⊎◌, inl, inr, ℕ, ◌-◌, ◌<◌, ◌≤◌, List, [], ◌∷◌, ⊎_elim, sym, ap, ◌∙◌, subst, arith}
use Rattle.std.specs.Prelude.{Bool, true, None, slice_set}
use base.Stored.{Gv}
use mathlib.Core.Logic.{dite}
use native.Mathlib.Decide.{dec_lt}
use Rattle.atomic_table.specs.declared.shared.Seat.{Seat}
use Rattle.sdd_participants.specs.declared.participant.Participant.{Participant}
use Rattle.sdd_rights.specs.declared.read_fraction.ReadFraction.{ReadFraction}
use Rattle.sdd_rights.specs.declared.right.StandingKind.{StandingKind}
use Rattle.sdd_rights.specs.declared.right.Right.{Right}
use Rattle.sdd_rights.specs.Owner.{witness_of_owner}
use Rattle.sdd_rights.specs.RightModel.{same_right}
use Rattle.sdd_rights.specs.Right.{AreSlotsOfTable, IsOwnerBy, home_of, home_of_table, kind_of, number_of, views_of}
use Rattle.sdd_rights.specs.StandingKind.{is_shared}
use Rattle.sdd_rights.specs.Units.{GhostName}
use Rattle.sdd_witness.specs.declared.witness.Witness.{Witness}
use Rattle.sdd_shared_values.specs.declared.value_fraction.ValueFraction.{ValueFraction}
use Rattle.sdd_rights.specs.declared.views.ShownValue.{ShownValue}
use Rattle.sdd_rights.specs.declared.views.View.{View}
use Rattle.sdd_core.specs.declared.refused.Refused.{Refused}
use Rattle.sdd_rights.specs.declared.views.Sizes.{Sizes}
use Rattle.sdd_domain_invariant.specs.Codes.{alive, claimed_word, counted}
use Rattle.sdd_domain_invariant.specs.Epoch.{HasPlace, IsOpen, IsLone as IsLoneAt}
use Rattle.sdd_domain_invariant.specs.Slots.{Holds}
use Rattle.sdd_domain_invariant.specs.Slots.SlotSteps.{Knew, behind}
use Rattle.sdd_domain_invariant.specs.Slots.Records.{IsIn}
use Rattle.sdd_domain_invariant.proofs.Slots.Records.{in_either, in_none}
use Rattle.sdd_atomics.specs.TableFacts.{TableFacts, id_of, gamma_of, places_of, slots_of}
use Rattle.sdd_atomics.specs.DomainSeat.{Knows, epoch, slots, view}
use Rattle.sdd_domain_steps.specs.BetweenCalls.{IsBetweenCalls}
use Rattle.sdd_domain_steps.specs.Claims.{IsUnmoved}
use Rattle.sdd_domain_steps.specs.declared.slots.holding.Hindrance.{Hindrance}
use Rattle.sdd_domain_steps.specs.declared.slots.holding.Hindrance.TheVariants.{Others, Guarded}
use Rattle.sdd_domain_steps.specs.InPlace.{IsBare, IsHeldBy, IsHindered, IsLetGoOf, KnewUnique, refused_by}
use Rattle.sdd_domain_steps.specs.GoesInPlace.{StaysBeside, changed_by}
use Rattle.sdd_domain_steps.specs.Items.{HasValue, slots_home}
use Rattle.sdd_domain_steps.specs.LocalState.{LocalState, IsLone, HasOpenGuard, KnowsUnique, HasOthers, SeesGuard, GoesBeside, unique_words, with_unique, word_of}
use Rattle.sdd_domain_steps.specs.Values.{with_filled}
use Rattle.sdd_domain_steps.proofs.HeldSlots.{changed_view}
use Rattle.sdd_domain_steps.proofs.SameHome.{IsOn}
use Rattle.sdd_domain_steps.proofs.LocalLooks.{has_tables, with_seat, with_view}
use Rattle.sdd_domain_steps.proofs.BetweenCalls.{has_place, between_calls_with}

-- a seat that has not moved is the same
pub unmoved_same : (s t : Seat ValueFraction View) → IsUnmoved s t → t ≡ s
unmoved_same s t e = λ d. record t { table_id = e.table d; id = e.number d; me = (e.view d, e.others d) }

-- an owner of this kind, whose right is to a slot of the participant's domain
module _ {J : Type 0} (b : TableFacts) (m : LocalState J) (on : IsOn b m) (right : Right) (kind : StandingKind) (home : home_of right ≡ slots_home m)
    (of_kind : kind_of right ≡ kind) (w : Witness) (read_fraction : ReadFraction)
    (by : AreSlotsOfTable (home_of right) → IsOwnerBy (home_of right) (number_of right) (is_shared (kind_of right)) w read_fraction)
    (slot : ℕ) (is : slot ≡ number_of right) where
  pub owner_by : IsOwnerBy (home_of right) (number_of right) (is_shared (kind_of right)) w read_fraction
  owner_by = by (has_tables m right home)

  pub owner_views : w.views ≡ witness_of_owner slot (is_shared kind) read_fraction.shown
  owner_views = owner_by.owner ∙ (λ d. witness_of_owner (sym is d) (is_shared (of_kind d)) read_fraction.shown)

  pub owner_table : w.table_id ≡ id_of b
  owner_table = let one : m.home ∷ [] ≡ w.table_id ∷ [] = sym (ap (λ (h : GhostName). h.tables) home) ∙ owner_by.table in let at = on.home in cc

  pub owner_gamma : read_fraction.gamma ≡ gamma_of b
  owner_gamma = sym owner_by.gamma ∙ (ap (λ (h : GhostName). h.name) home ∙ on.gamma)

  pub owner_inside : number_of right < (home_of right).size → slot < slots_of b
  owner_inside low = let size = ap (λ (h : GhostName). h.size) home in let slots = on.slots in omega (arith, low, size, slots, is)

  pub owner_has : w.views ≡ views_of right → HasValue read_fraction.shown right
  owner_has same = sym same ∙ owner_by.owner

  -- a right made anew of the same owner is the same
  pub right_again : (w' : Witness) (size : ℕ) (made : Right) → w'.table_id ≡ id_of b → w'.views ≡ w.views → w.views ≡ views_of right → size ≡ m.limits.slots
      → number_of made ≡ slot → home_of made ≡ home_of_table w'.table_id read_fraction.gamma size → kind_of made ≡ kind → views_of made ≡ w'.views
      → made ≡ right
  right_again w' size made table same views sized number home' kind' views' =
      let homed : home_of made ≡ home_of right = home'
      ∙ ((λ d. home_of_table ((table ∙ sym on.home) d) ((owner_gamma ∙ sym on.gamma) d) (sized d)) ∙ sym home) in
      same_right made right (number ∙ is) homed (kind' ∙ sym of_kind) (views' ∙ (same ∙ views))

  -- also with another unit of the number of its place
  pub right_back : (w' : Witness) (read_fraction' : ReadFraction) (size : ℕ) (made : Right) → w'.table_id ≡ id_of b → read_fraction'.gamma ≡ gamma_of b
      → w'.views ≡ w.views
      → w.views ≡ views_of right → size ≡ m.limits.slots → number_of made ≡ slot → home_of made ≡ home_of_table w'.table_id read_fraction'.gamma size
      → kind_of made ≡ kind → views_of made ≡ w'.views → made ≡ right
  right_back w' read_fraction' size made table gamma same views sized number home' kind' views' = right_again w' size made table same views sized number
      (home' ∙ ap (λ (n : ℕ). home_of_table w'.table_id n size) (gamma ∙ sym owner_gamma)) kind' views'

  -- one of an owner with another value is of the same home
  pub right_anew : (w' : Witness) (read_fraction' : ReadFraction) (size : ℕ) (made : Right) → w'.table_id ≡ id_of b → read_fraction'.gamma ≡ gamma_of b
      → size ≡ m.limits.slots
      → home_of made ≡ home_of_table w'.table_id read_fraction'.gamma size → home_of made ≡ slots_home m
  right_anew w' read_fraction' size made table gamma sized home' =
      home' ∙ (λ d. home_of_table ((table ∙ sym on.home) d) ((gamma ∙ sym on.gamma) d) (sized d))

-- the participant's seat before, and once the owner was taken in and its slot is held
module _ (b : TableFacts) (p : ℕ) (own : Participant) (t : Seat ValueFraction View) (q : IsBetweenCalls b p own t) where
  pub bare : IsBare (view t)
  bare = record { quiet = q.quiet; untold = q.seen.owns; rests = q.rests }

  pub placed : HasPlace (epoch t) × ((epoch t).place < places_of b) × ((epoch t).all ≡ places_of b)
  placed = (has_place b p own t q, subst (λ (k : ℕ). k < places_of b) (sym q.place) q.inside, q.all)

  module _ (slot : ℕ) (shared : Bool) (value : Gv) (h : Seat ValueFraction View) (held : IsHeldBy slot shared value (places_of b) t h) where
    pub held_home : h.table_id ≡ id_of b
    held_home = held.table ∙ q.home

    pub held_knows : Knows b h
    held_knows = (ap (λ (v : View). v.sizes) held.view ∙ q.knows.0, ap (λ (v : View). v.fractions.gamma) held.view ∙ q.knows.1)

    pub held_place : HasPlace (epoch h)
    held_place = subst (λ (k : ℕ). 0 < k) (sym (ap (λ (v : View). v.epoch.state) held.view)) (has_place b p own t q)

    pub held_rests : (view h).fractions.moves ≡ None
    held_rests = ap (λ (v : View). v.fractions.moves) held.view ∙ q.rests

    pub held_owns : Holds (view h) slot × ((slots h).owns ≡ slot ∷ []) × ((slots h).drawn ≡ slot ∷ [])
    held_owns = (
      ap (λ (v : View). v.slots.holds) held.view,
      ap (λ (v : View). v.slots.owns) held.view ∙ ap (λ (l : List ℕ). slot ∷ l) q.quiet.owns,
      ap (λ (v : View). v.slots.drawn) held.view ∙ ap (λ (l : List ℕ). slot ∷ l) q.quiet.drawn,
    )

    pub held_looked : places_of b ≤ (slots h).looked
    held_looked = let e = ap (λ (v : View). v.slots.looked) held.view in omega (arith, e)

    pub held_shut : ¬ (0 < own.guards)
    held_shut some_open = held.quiet (q.opened some_open)

    -- what is shown of it is what its owner told
    pub held_tells : (g : Gv) → IsIn (view h).fractions.owns slot g → value ≡ g
    held_tells g there =
        let r : ShownValue = record { slot = slot; shared = shared; value = value } in
        let owns = ap (λ (v : View). v.fractions.owns) held.view ∙ ap (λ (l : List ShownValue). r ∷ l) q.seen.owns in
        ⊎_elim (λ (e : (slot ≡ slot) × (value ≡ g)). e.1) (λ (none : IsIn [] slot g). absurd (in_none slot g none))
        (in_either r [] slot g (subst (λ (l : List ShownValue). IsIn l slot g) owns there))

    module _ (u : Seat ValueFraction View) (closes : (slots t).closes ≡ None) where
      pub changed_to : (now : Gv) → view u ≡ changed_by slot shared now (view h)
          → view u ≡ record (with_filled slot shared now (view t)) { words = unique_words shared slot t.me.0.sizes t.me.0.words }
      changed_to now e = e ∙ (ap (changed_by slot shared now) held.view ∙ changed_view slot shared value (view t) bare closes (places_of b) now)

    module _ (u : Seat ValueFraction View) where
      pub between_calls_changed : (now : Gv) → u.table_id ≡ t.table_id → u.me.1 ≡ t.me.1
          → view u ≡ record (with_filled slot shared now (view t)) { words = unique_words shared slot t.me.0.sizes t.me.0.words } → IsBetweenCalls b p own u
      between_calls_changed now table others is = between_calls_with b p own t u
          (record { slot = slot; shared = shared; value = now } ∷ t.me.0.fractions.filled)
          t.me.0.fractions.counts (unique_words shared slot t.me.0.sizes t.me.0.words) q table others is

  -- its note of words alone is new
  pub between_calls_noted : (u : Seat ValueFraction View) (words : List ℕ) → u.table_id ≡ t.table_id → u.me.1 ≡ t.me.1
      → view u ≡ record (view t) { words = words }
      → IsBetweenCalls b p own u
  between_calls_noted u words table others is = between_calls_with b p own t u t.me.0.fractions.filled t.me.0.fractions.counts words q table others is

  -- where a lone participant's own place is open, a guard of it is
  pub guard_of : IsOpen (epoch t) → 0 < own.guards
  guard_of is_open = dite (dec_lt 0 own.guards) (λ some_open. some_open) (λ none. absurd (let e = q.closed (omega arith) in omega arith))

-- what became of a participant's own state, where an owner was hindered, or went: it was recalled beside the owner before, and that changed nothing
module _ {J : Type 0} (m : LocalState J) (slot k : ℕ) (is : slot ≡ k) (shared several : Bool) (sorted : shared ≡ several) (l t h : Seat ValueFraction View)
    (same : t ≡ l)
    (is_m : with_seat m l ≡ m) (alone : IsLone m → l.me.0.epoch.all ≡ 1) where
  -- a lone participant knew this word
  pub knew_word : (w : ℕ) → Knew slot t.me.0 w → IsLone m → word_of m k ≡ w
  knew_word w knew lone = ap (λ (x : LocalState J). word_of x k) (sym is_m)
      ∙ sym (subst (λ (z : ℕ × Seat ValueFraction View). Knew z.0 z.1.me.0 w) (λ d. (is d, same d)) knew (alone lone))

  pub knew_unique : KnewUnique slot shared t.me.0 → KnowsUnique m k several
  knew_unique knew lone counted = knew_word (claimed_word true) (knew (sorted ∙ counted)) lone

  -- its note of a word alone is new
  pub noted_at : (words : ℕ → Sizes → List ℕ → List ℕ) → h.table_id ≡ t.table_id → h.me.0 ≡ record t.me.0 { words = words slot t.me.0.sizes t.me.0.words }
      → with_seat m h ≡ record m { words = words k m.sizes m.words }
  noted_at words table view = (λ d. with_view m (table d) (view d))
      ∙ ((λ d. with_view m (same d).table_id (record (same d).me.0 { words = words (is d) (same d).me.0.sizes (same d).me.0.words }))
      ∙ ap (λ (x : LocalState J). record x { words = words k x.sizes x.words }) is_m)

  -- nothing is
  pub unmoved_at : IsUnmoved t h → with_seat m h ≡ m
  unmoved_at e = ap (with_seat m) (unmoved_same t h e ∙ same) ∙ is_m

  module _ (guard : IsOpen (epoch t) → HasOpenGuard m) where
    -- a guard is open
    pub guarded_at : IsLetGoOf slot shared t h → SeesGuard k several m (with_seat m h)
    guarded_at e = record {
      same = noted_at (unique_words shared) e.table e.view ∙ ap (λ (b : Bool). with_unique b k m) sorted;
      unique = knew_unique e.unique;
      guarded = λ lone. guard (e.guarded (ap (λ (x : Seat ValueFraction View). x.me.0.epoch.all) same ∙ alone lone));
    }

    -- what hinders an owner is answered
    pub hindered_at : (what : Hindrance) (why : Refused) → why ≡ refused_by what → IsHindered slot shared what t h
        → ((why ≡ Refused.NotAlone) × HasOthers k several m (with_seat m h)) ⊎ ((why ≡ Refused.GuardOpen) × SeesGuard k several m (with_seat m h))
    hindered_at (Others word) why answered e = inl (
      answered,
      record {
        same = unmoved_at e.0;
        several = sym sorted ∙ e.1.several;
        counted = λ lone. let known = knew_word word e.1.knew lone in
            subst (λ (w : ℕ). (counted w ≡ 1) × (1 < alive w)) (sym known) (e.1.counted, e.1.more);
      },
    )
    hindered_at Guarded why answered e = inr (answered, guarded_at e)

  -- an owner went beside others
  pub gone_beside : StaysBeside slot shared t h → GoesBeside k several m (with_seat m h)
  gone_beside e = record {
    word = e.word;
    leaves = record {
      member = noted_at (λ i z ws. slice_set ws (behind z i) (e.word - 1)) e.gone.table e.gone.view;
      counted = e.counted;
      several = e.more;
      lone = λ lone. knew_word e.word e.gone.knew lone;
    };
    several = sym sorted ∙ e.several;
  }

-- of a seat that was hindered only its note of words is new
pub hindered_view : (slot : ℕ) (shared : Bool) (what : Hindrance) (s h : Seat ValueFraction View) → IsHindered slot shared what s h
    → (words : List ℕ) × (h.table_id ≡ s.table_id) × (h.me.1 ≡ s.me.1) × (h.me.0 ≡ record s.me.0 { words = words })
hindered_view slot shared (Others word) s h e = (s.me.0.words, e.0.table, e.0.others, e.0.view)
hindered_view slot shared Guarded s h e = (unique_words shared slot s.me.0.sizes s.me.0.words, e.table, e.others, e.view)

-- nor of one that came back from its try to go
pub back_view : (slot : ℕ) (shared : Bool) (why : Refused) (s h : Seat ValueFraction View)
    → ((why ≡ Refused.GuardOpen) × IsLetGoOf slot shared s h) ⊎ ((why ≡ Refused.Contended) × IsUnmoved s h × (shared ≡ true) × ¬ (IsLoneAt (epoch s)))
    → (words : List ℕ) × (h.table_id ≡ s.table_id) × (h.me.1 ≡ s.me.1) × (h.me.0 ≡ record s.me.0 { words = words })
back_view slot shared why s h (inl e) = (unique_words shared slot s.me.0.sizes s.me.0.words, e.1.table, e.1.others, e.1.view)
back_view slot shared why s h (inr e) = (s.me.0.words, e.1.table, e.1.others, e.1.view)
