-- What is always true of a state is true after a push: an item is made, and then put into a list; here into a stack
use Rattle.sdd_script_model.proofs.Words.{◌≡◌, ◌≢◌, ◌+◌, inl, inr, ℕ, List, [], ◌∷◌, Bool, true, false, Option, Some, None, is_some, slice_index_or, refl, sym, ap, ◌∙◌, subst, arith, max, if◌then◌else◌, cases_eq, length-set, set-set, Second, Entries, IsEmptyAt, entry_at, Standing, Owned, Shared, IsSharedBy, is_waiting, OwnerOrCell, Claim, owner_of, one, releases, retires, World, IsPlaceOf, standing_at, value_at, held_in, made_as, nulled, owner_given, with_cell, with_standing, IsWhole, ledger-laws, filled-there, IsAmong, CellContents, Apart, AreLinked, Entry, first_slot, is_deleted, left, let_go_first, linked_in, trimmed, list-same, trim-other, trim-values, Number, IsStored, Begins, IsNumber, ScriptState, IsDated, IsListCell, IsSecondCell, in_world, with_item, with_owner, IsSound, named, named_among, IsStack, Pushes, Val, body_of, holdings_of, link_of, list-made, common_steps}
use Rattle.sdd_core.specs.declared.tag.Tag.TheVariants.{None as no_tag}
use Rattle.sdd_script_model.proofs.Lemmas.{keeps-live, AtHome, IsMidway, LeavesSound, finishes, midway-as, moves, owned-apart, shares-one, at-other, at-same, calls-then, given-other, filled-long, null, same-once, apart-free, off, stays-begun, starts, owner-given, inside as inside-list}
use Rattle.sdd_script_model.proofs.CallSound.{made-leaves, made-whole}
use Rattle.sdd_script_model.proofs.StackChains.{IsSingle, IsWith, puts-in, trims}
use Rattle.sdd_script_model.proofs.StackSound.{IsDatedWithin, dated-all, is-single, numbers}
use Rattle.sdd_world_model.specs.OwnerOrCell as holding
use Rattle.sdd_script_text.specs.declared.call.Value.TheVariants as value
use Rattle.sdd_script_model.specs.declared.owner_kind.OwnerKind.TheVariants as ownership

-- ---- one after another

-- what is sound after one act and then another, is so after both
pub leaves-then : {d mid new : ScriptState} → LeavesSound d mid → LeavesSound mid new → IsDated d new → LeavesSound d new
leaves-then a b dated = record {
  line = b.line ∙ a.line;
  places = b.places ∙ a.places;
  sound = b.sound;
  dated = dated;
  calls = calls-then a.calls b.calls;
  home = b.home ∙ a.home;
}

-- ---- a slot that is free is that of no entry, and letting go of entries leaves other slots

free-unlisted : (w : World Val) (k : ℕ) (es : List (Entry Val)) → value_at w k ≡ None → AreLinked link_of w es → IsAmong k es → ⊥
free-unlisted w k [] free linked among = among
free-unlisted w k (e ∷ es) free linked (inl here) =
    let never : None ≡ Some e.value = sym free ∙ ap (λ (i : ℕ). value_at w i) (sym here) ∙ linked.0.there in cc
free-unlisted w k (e ∷ es) free linked (inr there) = free-unlisted w k es free linked.1 there

stands-if : (w u : World Val) (k : ℕ) → standing_at u k ≡ standing_at w k → (b : Bool) → standing_at (if b then u else w) k ≡ standing_at w k
stands-if w u k same true = same
stands-if w u k same false = refl

stands-still : (w : World Val) (p c k : ℕ) (es : List (Entry Val)) → (IsAmong k es → ⊥) → standing_at (trimmed link_of w p c no_tag es) k ≡ standing_at w k
stands-still w p c k [] not = refl
stands-still w p c k (e ∷ es) not =
    let u : World Val = let_go_first w p c no_tag e.slot (link_of e.value) (first_slot es) in
    let v : World Val = with_cell (with_cell w (link_of e.value) (record { held = None; tag = Second })) c (record { held = first_slot es; tag = no_tag }) in
    let first : standing_at u k ≡ standing_at w k = given-other v p e.slot k (standing_at w e.slot) refl (λ same. not (inl (sym same))) in
    stands-if w (trimmed link_of u p c no_tag es) k (stands-still u p c k es (λ more. not (inr more)) ∙ first) (is_deleted e)

-- ---- an item is made that has a number, and then put into a list

module _ (d : ScriptState) (s : IsSound d) (whole : IsWhole d.world) (p : ℕ) (live : IsPlaceOf d.world p) (number k : ℕ) (x : Val)
    (free : IsEmptyAt d.world.cells (link_of x)) (slot : IsEmptyAt d.world.standings k) (body : body_of x ≡ Number number) where
  abbrev owner : OwnerOrCell
  owner = holding.shared k d.world.home.slots

  -- it has one owner, which has a name
  abbrev pub mid : ScriptState
  mid = with_owner (in_world (with_item d k) (made_as (nulled d.world (link_of x)) k x (Shared 1))) owner

  pub made : LeavesSound d mid
  made = made-leaves d s whole ownership.Shared (value.Number number) p k (link_of x) x live free slot body refl

  pub mid-whole : IsWhole mid.world
  mid-whole = made-whole d s whole ownership.Shared (value.Number number) p k (link_of x) x live free slot body refl

  free-value : value_at d.world k ≡ None
  free-value = none-of (value_at d.world k) (filled-there d.world k whole.filled ∙ ap is_some slot.1) where
    none-of : (v : Option Val) → is_some v ≡ false → v ≡ None
    none-of None none = refl
    none-of (Some v) none = absurd (cc)

  -- a list that was there is there, and the slot is that of none of its entries
  pub not-among : (c : ℕ) (es : List (Entry Val)) → Begins d.world c es → IsAmong k es → ⊥
  not-among c es list among = free-unlisted d.world k es free-value list.linked among

  pub list-mid : (c : ℕ) (es : List (Entry Val)) → Begins d.world c es → Begins mid.world c es
  list-mid c es list =
      list-made link_of (nulled d.world (link_of x)) c no_tag k x (Shared 1) es free-value
      (stays-begun (IsListCell d) (IsListCell d) (IsSecondCell d) (IsStored d.bags d.world) d.world s.lists (link_of x) free (λ b y. inl y) (λ b y. y) c es
      list)

  -- a cell that was there is another than its link
  pub link-off : (b : ℕ) (y : CellContents) → entry_at d.world.cells b ≡ Some y → b ≢ link_of x
  link-off b y holds = off (IsListCell d) (IsListCell d) (IsSecondCell d) (IsStored d.bags d.world) d.world s.lists (link_of x) free (λ c z. inl z) (λ c z. z)
      b y holds

  pub link-off_all : (es : List (Entry Val)) → AreLinked link_of d.world es → Apart link_of (link_of x) es
  link-off_all es linked = apart-free (IsListCell d) (IsListCell d) (IsSecondCell d) (IsStored d.bags d.world) d.world s.lists (link_of x) free (λ c z. inl z)
      (λ c z. z) es linked

  pub there-mid : value_at mid.world k ≡ Some x
  there-mid = at-same d.world.values k (Some x) None (omega (arith, slot.0, filled-long d.world.values d.world.standings whole.filled))

  pub clear-mid : entry_at mid.world.cells (link_of x) ≡ Some null
  clear-mid = at-same d.world.cells (link_of x) (Some null) None free.0

  pub stands-once : standing_at mid.world k ≡ Some (Shared 1)
  stands-once = at-same d.world.standings k (Some (Shared 1)) None slot.0

  -- somebody outside owns it, so it is no storage of a bag
  pub not-stored : IsStored mid.bags mid.world k → ⊥
  not-stored =
      owned-apart (starts mid made.sound mid-whole) k
      (omega (arith, owner-given d.owners d.cells d.collectors owner k refl (owner_of k), same-once k))

  pub number-in : IsNumber (body_of x)
  number-in = subst (λ b. IsNumber b) (sym body) tt

  -- what waits didn't begin to by the making
  waits-as : (j : ℕ) → is_waiting (standing_at mid.world j) ≡ is_waiting (standing_at d.world j)
  waits-as j = elim (cases_eq j k) [
    | inl same ↦
        ap (λ (i : ℕ). is_waiting (standing_at mid.world i)) same ∙ ap is_waiting stands-once ∙ sym (ap is_waiting slot.1)
        ∙ ap (λ (i : ℕ). is_waiting (standing_at d.world i)) (sym same)
    | inr far ↦ ap is_waiting (at-other d.world.standings k j (Some (Shared 1)) None far)
  ]

  -- in which these owners have names in the end
  module _ (w : World Val) (dates : List ℕ) (owners : List (Option OwnerOrCell)) where
    abbrev after_put : ScriptState
    after_put = record (in_world (with_item d k) w) { owners = owners; dates = dates }

    pub put-leaves : {outside : Claim → ℕ} → IsMidway mid w outside → ((u : Claim) → named_among owners d.cells d.collectors u ≡ outside u) →
        AtHome d.world.home owners → IsDatedWithin d after_put → LeavesSound d after_put
    put-leaves done same home within =
        let long = done.frames.slots.slots ∙ length-set d.world.standings k (Some (Shared 1)) in
        let dated = dated-all d after_put s.stocked long within in
        let later : IsDated mid after_put = record { dated = λ j. rw (waits-as j) (dated.dated j); long = dated.long } in
        leaves-then made
        (finishes mid w owners mid.cells mid.collectors dates made.sound done
        same (home, made.sound.home.cells, made.sound.home.collectors) later p live) dated

  -- the owner has its name
  module _ (w : World Val) (dates : List ℕ) where
    abbrev pub after_entered : ScriptState
    after_entered = record (with_owner (in_world (with_item d k) w) owner) { dates = dates }

    pub entered-leaves : IsMidway mid w (named mid) → IsDatedWithin d after_entered → LeavesSound d after_entered
    entered-leaves done within = put-leaves w dates mid.owners done (λ u. refl) made.sound.home.owners within

  -- or it is given up
  pub given-up : (u : World Val) → IsMidway mid u (named mid) → IsMidway mid (owner_given u p k (standing_at u k)) (named d)
  given-up u m =
      let live_there = keeps-live m.frames.passes.guards p live in
      let mine = owner-given d.owners d.cells d.collectors owner k refl in
      let stands = ((ledger-laws holdings_of u).tells _ m.ledger).stands k (omega (arith, mine (owner_of k), same-once k)) in
      elim stands [
        | inl owned ↦
            subst (λ (x : Option Standing). IsMidway mid (owner_given u p k x) (named d)) (sym owned.0)
            (midway-as (moves m (retires u p k live_there owned.0) tt (named d) mine (λ y never. absurd never)) (λ y. omega arith))
        | inr several ↦
            subst (λ (x : Option Standing). IsMidway mid (owner_given u p k x) (named d)) (sym several.1)
            (midway-as (moves m (releases u p k several.0 live_there several.1) tt (named d) mine (λ y never. absurd never)) (λ y. omega arith))
      ]

-- ---- a push

module _ (d : ScriptState) (s : IsSound d) (whole : IsWhole d.world) (p c : ℕ) (live : IsPlaceOf d.world p) (n : ℕ) (es : List (Entry Val))
    (is : IsStack d n c es)
    (number k : ℕ) (w : World Val) (pushes : Pushes d.world p c es number k w) (dates : List ℕ) where
  abbrev x : Val
  x = pushes.entry

  abbrev l : ℕ
  l = link_of pushes.entry

  abbrev entered : ScriptState
  entered = mid d s whole p live number k x pushes.free pushes.pushed.free pushes.body

  abbrev pub after_pushed : ScriptState
  after_pushed = after_entered d s whole p live number k x pushes.free pushes.pushed.free pushes.body w dates

  sound-in : LeavesSound d entered
  sound-in = made d s whole p live number k x pushes.free pushes.pushed.free pushes.body

  once : IsSharedBy 1 (standing_at entered.world k)
  once = grind (arith, common_steps)

  -- it has one owner more, which is in hand
  abbrev outside : Claim → ℕ
  outside u = named entered u + one (owner_of k) u

  abbrev twice : World Val
  twice = with_standing entered.world k (Shared 2)

  in-hand : IsMidway entered twice outside
  in-hand =
      shares-one (starts entered sound-in.sound (mid-whole d s whole p live number k x pushes.free pushes.pushed.free pushes.body)) k 1 once
      (not-stored d s whole p live number k x pushes.free pushes.pushed.free pushes.body)

  its : IsSingle entered c
  its = is-single entered sound-in.sound n c is.named

  list-twice : Begins twice c es
  list-twice =
      list-same link_of entered.world twice c no_tag es refl refl
      (list-mid d s whole p live number k x pushes.free pushes.pushed.free pushes.body c es is.list)

  with-it : IsWith entered outside p c its live twice es
  with-it = record { midway = in-hand; list = list-twice; numbers = numbers d s whole p c live n es is }

  -- the deleted ones in front are let go of
  abbrev freed_front : World Val
  freed_front = trimmed link_of twice p c no_tag es

  trimmed-so : IsWith entered outside p c its live freed_front (left es)
  trimmed-so = trims entered outside p c its live twice es with-it

  there : value_at freed_front k ≡ Some x
  there =
      ap (λ (vs : List (Option Val)). slice_index_or vs k None) (trim-values link_of twice p c no_tag es)
      ∙ there-mid d s whole p live number k x pushes.free pushes.pushed.free pushes.body

  clear : entry_at freed_front.cells l ≡ Some null
  clear =
      trim-other link_of twice p c no_tag es l
      (λ same. link-off d s whole p live number k x pushes.free pushes.pushed.free pushes.body c _ is.list.begins (sym same))
      (link-off_all d s whole p live number k x pushes.free pushes.pushed.free pushes.body es is.list.linked)
      ∙ clear-mid d s whole p live number k x pushes.free pushes.pushed.free pushes.body

  stands-twice : standing_at freed_front k ≡ Some (Shared 2)
  stands-twice =
      stands-still twice p c k es (not-among d s whole p live number k x pushes.free pushes.pushed.free pushes.body c es is.list)
      ∙ at-same entered.world.standings k (Some (Shared 2)) None (inside-list entered.world.standings k (ap is_some once.shared))

  -- both its owners are outside, so no cell holds it
  unheld : (b : ℕ) → held_in (entry_at freed_front.cells b) ≡ Some k → ⊥
  unheld b holds =
      let m = trimmed-so.midway in
      let inner = ((ledger-laws holdings_of freed_front).tells _ m.ledger).in_cell b k holds in
      let mine = owner-given d.owners d.cells d.collectors (holding.shared k d.world.home.slots) k refl (owner_of k) in
      let stands = ((ledger-laws holdings_of freed_front).tells _ m.ledger).stands k (omega (arith, inner)) in
      elim stands [
        | inl sole ↦ (let never : Some (Shared 2) ≡ Some Owned = sym stands-twice ∙ sole.0 in absurd (cc))
        | inr several ↦
            (let both : Some (Shared 2) ≡ Some (Shared several.0) = sym stands-twice ∙ several.1 in
            let two : several.0 ≡ 2 = cc in
            absurd (omega (arith, several.2, ap (max 1) two, inner, mine, same-once k)))
      ]

  put : IsMidway entered (linked_in freed_front c no_tag (link_of pushes.entry) k (first_slot (left es))) (named entered)
  put =
      puts-in trimmed-so.midway p c its k x (left es) trimmed-so.list trimmed-so.numbers there clear
      (number-in d s whole p live number k x pushes.free pushes.pushed.free pushes.body) unheld (named entered) (λ u. refl)

  -- two owners at once, or one after the other
  made-twice : twice ≡ made_as (nulled d.world (link_of pushes.entry)) k pushes.entry (Shared 2)
  made-twice =
      ap (λ (ss : Entries Standing). record entered.world { standings = ss }) (set-set d.world.standings k (Some (Shared 1)) (Some (Shared 2)))

  world-is : linked_in freed_front c no_tag (link_of pushes.entry) k (first_slot (left es)) ≡ w
  world-is =
      ap (λ (u : World Val). linked_in (trimmed link_of u p c no_tag es) c no_tag (link_of pushes.entry) k (first_slot (left es))) made-twice
      ∙ sym pushes.pushed.world

  pub pushed-leaves : IsDatedWithin d after_pushed → LeavesSound d after_pushed
  pushed-leaves within =
      entered-leaves d s whole p live number k x pushes.free pushes.pushed.free pushes.body w dates
      (subst (λ (u : World Val). IsMidway entered u (named entered)) world-is put) within
