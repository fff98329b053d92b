-- What a change of a link leaves in hand: it is sound, and it is what the call means
use Rattle.sdd_script.proofs.Words.{restored, ◌≡◌, ◌≢◌, ◌+◌, ℕ, Bool, true, false, List, [], ◌∷◌, Option, None, Some, inl, inr, slice_index_or, slice_set, refl, sym, ap, ◌∙◌, subst, IfSome, IsTrue, option_map, Vec, Tag, Second, entry_at, CellContents, World, standing_at, value_at, IsWhole, Claim, is_out, held_in, AreLinked, Entry, first_slot, left, index_of, PlaceName, ItemName, GuardName, OwnerName, At, Val, link_of, IsLooseEntry, item_in, ScriptState, holding_at, in_world, opening_at, shared_slot, slot_at, Acts, CanPointTo, HasOpen, IsUnderGuard, IsValid, Meets, contained, NamedParticipant, Environment, open_since, owner_holding, AnyOwner, Share, state_of, IsTied, Does, does, goes, still, changing, accounts, owned-out, there-apart, starts, Both, IsAmong, IsBehind, IsFresh, IsLink, IsList, IsReserved, IsSome, LinkChange, MayAppend, apart-item, holding_of, link-apart-from, linked_in, links-apart, mark_tag, may_change, says_deleted, tag_after, trimmed, leaves, sits, under, place-is, named as named-as, map, map-set, with_dates}
use Rattle.sdd_script_model.specs.Sound.{named}
use Rattle.sdd_space.specs.Shared.{Shared}
use Rattle.sdd_core.specs.declared.tag.Tag.TheVariants.{None as no_tag}
use Rattle.sdd_space.specs.Shared.{slot_of}
use Rattle.sdd_script_text.specs.Actions as call
use Rattle.sdd_script_text.specs.declared.answer.Reply.TheVariants as reply
use Rattle.sdd_script_model.specs.declared.link_change.LinkChange.TheVariants.{Mark, Unmark, Delete}
use Rattle.sdd_script_model.specs.Link.{retagged}
use Rattle.sdd_script_model.proofs.DeletedBehind.{behind-named, behind-there, next-leaves}
use Rattle.sdd_script_model.proofs.StackChains.{link-leaves}
use Rattle.sdd_script.proofs.RawActs.{same-state}
use Rattle.sdd_script.proofs.StackActs.{AreDatedNow, AreTold, dated-within}
use Rattle.sdd_script_model.proofs.Appending.{appended-leaves}

-- no line gives both tags
no-both : (how : LinkChange) → tag_after how ≢ Both
no-both Mark same = absurd (cc)
no-both Unmark same = absurd (cc)
no-both Delete same = absurd (cc)

-- and none changes the link of a deleted entry
no-deleted : (how : LinkChange) → may_change how Second ≡ false
no-deleted Mark = refl
no-deleted Unmark = refl
no-deleted Delete = refl

-- who changes a link has a guard open, and can point to its item
pub valid-changing : (d : ScriptState) (n : ℕ) (how : LinkChange) (i : ItemName) → IsValid d n (changing how i) → IsUnderGuard d n × CanPointTo d n i.0
valid-changing d n Mark i valid = valid
valid-changing d n Unmark i valid = valid
valid-changing d n Delete i valid = valid

module _ (h : Environment) (t : IsTied h) (i : ItemName) (name : PlaceName) (v : Val) (cell : CellContents)
    (valid : IsUnderGuard (state_of h) name.0 × CanPointTo (state_of h) name.0 i.0) (shown : value_at h.world (slot_at (state_of h) i.0) ≡ Some v)
    (holds : entry_at h.world.cells (link_of v) ≡ Some cell) where
  abbrev d : ScriptState
  d = state_of h

  is-link : IsLink d i.0 (link_of v) cell
  is-link = record { entry = v; there = shown; link = refl; holds = holds }

  pub acts-link_told : (tag : Tag) → tag ≡ cell.tag → Acts d (At name (call.LinkTag i)) (reply.Tag tag) d
  acts-link_told tag told = still d (At name (call.LinkTag i)) (reply.Tag tag) (valid, ((link_of v, cell, is-link, told), refl))

  meets : (how : LinkChange) (b : Bool) → b ≡ may_change how cell.tag →
      Meets d (At name (changing how i)) (reply.Truth b) (in_world d (retagged h.world (link_of v) cell how b))
  meets Mark b may = (valid, (link_of v, cell, is-link, may, refl))
  meets Unmark b may = (valid, (link_of v, cell, is-link, may, refl))
  meets Delete b may = (valid, (link_of v, cell, is-link, may, refl))

  pub acts-changed : IsWhole h.world → (a : NamedParticipant) → open_since (Some a) ≡ opening_at d.places name.0 →
      (how : LinkChange) (b : Bool) (w : World Val) → b ≡ may_change how cell.tag → w ≡ retagged h.world (link_of v) cell how b →
      Does d (At name (changing how i)) (reply.Truth b) (record h { world = w })
  acts-changed whole a there how true w may world =
      leaves (under name.0 t whole there) refl (ap (in_world d) world)
      (link-leaves d t.sound whole (index_of a.place) (link_of v) cell (sits (under name.0 t whole there)) holds (tag_after how) (slot_at d i.0) v
      (there-apart d t.sound.bags i.0 valid.1.0) shown refl
      (no-both how) (λ same. absurd (let never : true ≡ false = may ∙ ap (may_change how) same ∙ no-deleted how in cc))) (meets how true may)
  acts-changed whole a there how false w may world =
      does d (At name (changing how i)) (reply.Truth false) (goes (ap (in_world d) world) t.sound t.guards)
      (still d (At name (changing how i)) (reply.Truth false) (meets how false may))

-- ---- what is behind an item is told

module _ (h : Environment) (t : IsTied h) (whole : IsWhole h.world) (name : PlaceName) (a : NamedParticipant)
    (there : open_since (Some a) ≡ opening_at (state_of h).places name.0) (i : ItemName) (v : Val)
    (shown : value_at h.world (slot_at (state_of h) i.0) ≡ Some v) (can : CanPointTo (state_of h) name.0 i.0) where
  abbrev p : ℕ
  p = index_of a.place

  pub behind : (u : Tag) × (es : List (Entry Val)) × IsBehind (state_of h) i.0 (link_of v) u es
  behind = behind-there (state_of h) t.sound i.0 v shown can.0

  -- its link is none of a bag's storages
  link-off : IsReserved (state_of h) h.world (link_of v) → ⊥
  link-off = link-apart-from (starts (state_of h) t.sound whole) (slot_at (state_of h) i.0) v shown (there-apart (state_of h) t.sound.bags i.0 can.0)

  abbrev next_one : Option ℕ
  next_one = first_slot (left behind.1)

  -- its item has a name
  pub next-named : (next : Option ℕ) → next ≡ next_one → IfSome next (λ s. IsSome (slice_index_or h.log.names.items s None))
  next-named None is = tt
  next-named (Some s) is = behind-named (state_of h) t.sound (link_of v) behind.0 behind.1 behind.2.list link-off s (sym is)

  pub acts-next : (g : GuardName) (waited : List Bool) (w : World Val) (dates : Vec ℕ) (next : Option ℕ) (item : Option ItemName) →
      HasOpen (state_of h) name.0 g.0 → AreTold h waited →
      ((u : Tag) (es : List (Entry Val)) → IsList link_of h.world (link_of v) u es →
      (next ≡ first_slot (left es)) × (w ≡ trimmed link_of h.world p (link_of v) u es)) →
      item ≡ option_map (item_in h.log.names.items) next → AreDatedNow h w waited dates →
      Does (state_of h) (At name (call.Next i g)) (reply.Pointer item no_tag) (record (with_dates h dates) { world = w })
  acts-next g waited w dates next item opened told did seen now =
      let u : Tag = behind.0 in
      let es : List (Entry Val) = behind.1 in
      let done = did u es behind.2.list in
      let after : World Val = trimmed link_of h.world p (link_of v) u es in
      leaves (under name.0 t whole there) refl
      (ap (λ (x : World Val). record (in_world (state_of h) x) { dates = dates.items }) done.1)
      (next-leaves (state_of h) t.sound whole p (sits (under name.0 t whole there)) i.0 (link_of v) u es behind.2 can.0 dates.items
      (dated-within h t waited told after dates (subst (λ (x : World Val). AreDatedNow h x waited dates) done.1 now))) (
        (opened, can),
        (
          link_of v,
          u,
          es,
          behind.2,
          seen ∙ ap (λ (x : Option ℕ). option_map (item_in h.log.names.items) x) done.0,
          refl,
          ap (λ (q : ℕ). record (in_world (state_of h) (trimmed link_of h.world q (link_of v) u es)) { dates = dates.items })
              (sym (place-is (under name.0 t whole there))),
        ),
      )

-- ---- an owner's entry comes behind an item

-- what is behind a cell is in some cell
behind-held : (w : World Val) (c : ℕ) (es : List (Entry Val)) → held_in (entry_at w.cells c) ≡ first_slot es → AreLinked link_of w es → (k : ℕ) → IsAmong k es →
    (b : ℕ) × (held_in (entry_at w.cells b) ≡ Some k)
behind-held w c [] head linked k among = absurd among
behind-held w c (e ∷ es) head linked k (inl is) = (c, head ∙ ap Some is)
behind-held w c (e ∷ es) head linked k (inr more) = behind-held w (link_of e.value) es (ap held_in linked.0.linked) linked.1 k more

module _ (h : Environment) (t : IsTied h) (whole : IsWhole h.world) (o : ℕ) (x : Shared Val)
    (mine : slice_index_or h.owners.entries.items o None ≡ Some (Share x)) where
  -- its item has an owner outside, so it can't go
  pub its-out : IsTrue (is_out (standing_at h.world (slot_of x)))
  its-out =
      owned-out (state_of h) (accounts (state_of h) t.sound) o (owner_holding (Share x)) (slot_of x) (named-as owner_holding h.owners.entries.items o mine) refl

  -- what is told of it is told of the one that is taken by that name
  pub loose-taken : (y : Shared Val) (k : ℕ) → slice_index_or h.owners.entries.items o None ≡ Some (Share y) →
      IsLooseEntry h.world (slot_of x) × (slot_of x ≢ k) → IsLooseEntry h.world (slot_of y) × (slot_of y ≢ k)
  loose-taken y k taken loose =
      let both : Some (Share x) ≡ Some (Share y) = sym mine ∙ taken in
      let same : x ≡ y = cc in subst (λ (z : Shared Val). IsLooseEntry h.world (slot_of z) × (slot_of z ≢ k)) same loose

  -- where its item isn't loose, or is the one that it would come behind, it may not be put there
  pub may-not : (i : ℕ) → (IsLooseEntry h.world (slot_of x) × (slot_of x ≢ slot_at (state_of h) i) → ⊥) → MayAppend (state_of h) i o → ⊥
  may-not i cannot may =
      let both : Some may.slot ≡ Some (slot_of x) = sym may.owner ∙ ap shared_slot (named-as owner_holding h.owners.entries.items o mine) in
      let same : may.slot ≡ slot_of x = cc in
      cannot (subst (λ (k : ℕ). IsLooseEntry h.world k × (k ≢ slot_at (state_of h) i)) same (may.loose, may.other))

module _ (h : Environment) (t : IsTied h) (whole : IsWhole h.world) (name : PlaceName) (a : NamedParticipant)
    (there : open_since (Some a) ≡ opening_at (state_of h).places name.0) (i : ItemName) (v : Val)
    (shown : value_at h.world (slot_at (state_of h) i.0) ≡ Some v) (can : CanPointTo (state_of h) name.0 i.0) (o : OwnerName) (x : Shared Val)
    (mine : slice_index_or h.owners.entries.items o.0 None ≡ Some (Share x)) (loose : IsLooseEntry h.world (slot_of x))
    (other : slot_of x ≢ slot_at (state_of h) i.0) where
  abbrev k : ℕ
  k = slot_of x

  its-list : (u : Tag) × (es : List (Entry Val)) × IsBehind (state_of h) i.0 (link_of v) u es
  its-list = behind h t whole name a there i v shown can

  abbrev es : List (Entry Val)
  es = its-list.1

  -- the entry's link is no other's
  fresh : IsFresh link_of h.world k loose.entry (link_of v) es
  fresh =
      let outside = λ (u : Claim). named (state_of h) u + contained (state_of h) u in
      record {
        there = loose.there;
        clear = loose.clear;
        far = λ same. other (sym (links-apart h.world outside t.sound.ledger (slot_at (state_of h) i.0) k v loose.entry shown loose.there same));
        apart = apart-item h.world outside t.sound.ledger k loose.entry loose.there es its-list.2.list.linked (λ among.
            let at = behind-held h.world (link_of v) es (ap held_in its-list.2.list.begins) its-list.2.list.linked k among in loose.unheld at.0 at.1);
      }

  pub may-come : (u : Tag) × (fs : List (Entry Val)) × (z : Val) × IsList link_of h.world (link_of v) u fs × IsFresh link_of h.world k z (link_of v) fs
  may-come = (its-list.0, es, loose.entry, its-list.2.list, fresh)

  abbrev cell : CellContents
  cell = record { held = first_slot es; tag = its-list.0 }

  its-link : IsLink (state_of h) i.0 (link_of v) cell
  its-link = record { entry = v; there = shown; link = refl; holds = its-list.2.list.begins }

  entry : holding_at (state_of h).owners o.0 ≡ Some (owner_holding (Share x))
  entry = named-as owner_holding h.owners.entries.items o.0 mine

  owner : shared_slot (holding_at (state_of h).owners o.0) ≡ Some k
  owner = ap shared_slot entry

  module _ (mark : Bool) (g : GuardName) (opened : HasOpen (state_of h) name.0 g.0) where
    valid : IsValid (state_of h) name.0 (call.Append i o mark g)
    valid = (opened, can, record { slot = k; owner = owner; loose = loose; other = other })

    pub acts-appended : (w : World Val) (owners : Vec (Option AnyOwner)) →
        ((c : CellContents) (z : Val) → entry_at h.world.cells (link_of v) ≡ Some c → value_at h.world k ≡ Some z →
        (says_deleted c.tag ≡ false) × (w ≡ linked_in h.world (link_of v) (mark_tag mark) (link_of z) k c.held)) →
        owners.items ≡ slice_set h.owners.entries.items o.0 None →
        Does (state_of h) (At name (call.Append i o mark g)) reply.Done (record h { world = w; owners = record { entries = owners } })
    acts-appended w owners did taken =
        let (undeleted, world) = did cell loose.entry its-list.2.list.begins loose.there in
        let gone = ap (map (option_map owner_holding)) taken ∙ map-set (option_map owner_holding) h.owners.entries.items o.0 None in
        leaves (under name.0 t whole there) refl (cc (world, gone))
        (appended-leaves (state_of h) t.sound whole (index_of a.place) (sits (under name.0 t whole there)) i.0 o.0 mark k (link_of v) cell its-link undeleted
        can.0 owner loose other)
        (valid, (link_of v, cell, k, loose.entry, its-link, undeleted, owner, loose.there, refl))

    -- the item is deleted, and the owner stands under its name again
    pub acts-deleted : (w : World Val) (between after : Vec (Option AnyOwner)) (y : Shared Val) →
        ((c : CellContents) (z : Val) → entry_at h.world.cells (link_of v) ≡ Some c → value_at h.world k ≡ Some z →
        (says_deleted c.tag ≡ true) × (holding_of y ≡ holding_of x) × (w ≡ h.world)) →
        between.items ≡ slice_set h.owners.entries.items o.0 None → after.items ≡ slice_set between.items o.0 (Some (Share y)) →
        Does (state_of h) (At name (call.Append i o mark g)) reply.Deleted (record h { world = w; owners = record { entries = after } })
    acts-deleted w between after y did taken back =
        let (deleted, same, world) = did cell loose.entry its-list.2.list.begins loose.there in
        let as_before = same-state h w after world (restored owner_holding h.owners.entries.items o.0 mine taken back same) in
        does (state_of h) (At name (call.Append i o mark g)) reply.Deleted (goes as_before t.sound t.guards)
        (still (state_of h) (At name (call.Append i o mark g)) reply.Deleted (valid, ((link_of v, cell, its-link, deleted), refl)))
