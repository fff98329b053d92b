-- What a line on a bag gives a participant: what it lets go of waits there, and nothing else of the time changes
use Rattle.sdd_script_model.proofs.Words.{◌≡◌, ◌+◌, inl, inr, ◌<◌, ℕ, List, [], ◌∷◌, length, refl, sym, ap, ◌∙◌, subst, ◌%◌, cases_eq, Shared, World, standing_at, made_as, nulled, owner_given, with_standing, without_cell, Gives, Gives-cell_closed, Gives-owner_given, Gives-range, Gives-retired, Entry, first_slot, left, linked_in, trimmed, cell_in, ClosesBag, EmptiesStorages, AddsStorage, RemovesStorage, RemovesStorages, PutsNumber, TakesNumber, holds_nothing, NumberBag, bag_length, Val, link_of, storage_in}
use Rattle.sdd_core.specs.declared.tag.Tag.TheVariants.{None as no_tag}
use Rattle.sdd_space.specs.Shared.{slot_of}
use Rattle.sdd_script_model.proofs.BagEnds.{values-none}
use Rattle.sdd_script_model.proofs.StackGives.{gives-nothing, gives-removed, gives-then, gives-trimmed}
use Rattle.sdd_world_model.specs.WorldChanges as world_changes

module _ (p : ℕ) where
  gives-as : (v w u : World Val) → w ≡ u → Gives p v u → Gives p v w
  gives-as v w u e g = subst (λ (x : World Val). Gives p v x) (sym e) g

  -- ---- a storage more

  gives-added : (w : World Val) (old : NumberBag) (es : List (Entry Val)) (new : World Val) (fs : List (Entry Val)) → p < length w.time.places →
      AddsStorage storage_in w p old.overflow.stack es new fs → Gives p w new
  gives-added w old es new fs l adds =
      let x = adds.adds.pushes.entry in
      let k = slot_of adds.adds.owner in
      let c = cell_in old.overflow.stack in
      let made : World Val = made_as (nulled (nulled w adds.storage.cell) (link_of x)) k x (Shared 2) in
      let front = gives-trimmed p made c no_tag es l in
      let put : World Val = linked_in (trimmed link_of made p c no_tag es) c no_tag (link_of x) k (first_slot (left es)) in
      let first : Gives p w put = record { slots = front.slots; time = front.time } in
      let given : World Val = owner_given put p k (standing_at put k) in
      let second : Gives p put given = Gives-owner_given put p k (standing_at put k) refl in
      gives-as w new given
      (adds.adds.world ∙ ap (λ (v : World Val). owner_given v p k (standing_at v k)) adds.adds.pushes.list.world)
      (gives-then p l first second)

  pub gives-put : (w : World Val) (number : ℕ) (old bag : NumberBag) (new : World Val) → p < length w.time.places →
      PutsNumber w p number old bag new → Gives p w new
  gives-put w number old bag new l (cells, inl (inside, same)) = gives-nothing p w new (ap (λ (v : World Val). v.time) same)
  gives-put w number old bag new l (cells, inr behind) = elim behind.storages [
    | inl same ↦ gives-nothing p w new (ap (λ (v : World Val). v.time) same)
    | inr more ↦ gives-added w old behind.entries new behind.now l more.1
  ]

  -- ---- a storage less

  gives-without : (w : World Val) (c : ℕ) (es : List (Entry Val)) (new : World Val) (fs : List (Entry Val)) → p < length w.time.places →
      RemovesStorage w p c es new fs → Gives p w new
  gives-without w c es new fs l removes =
      let e = removes.first in
      let raised : World Val = with_standing w e.slot (Shared (removes.taken.owners + 1)) in
      let out = gives-removed p raised c es e fs l in
      let first : Gives p w removes.between =
      gives-as w removes.between _ removes.taken.world (record { slots = out.slots; time = out.time }) in
      gives-as w new _ removes.world (gives-then p l first (Gives-retired removes.between p e.slot))

  pub gives-took : (w : World Val) (number : ℕ) (old bag : NumberBag) (new : World Val) → p < length w.time.places →
      TakesNumber w p number old bag new → Gives p w new
  gives-took w number old bag new l (cells, inl (inside, same)) = gives-nothing p w new (ap (λ (v : World Val). v.time) same)
  gives-took w number old bag new l (cells, inr behind) = elim behind.storages [
    | inl same ↦ gives-nothing p w new (ap (λ (v : World Val). v.time) same.0)
    | inr less ↦ gives-without w (cell_in old.overflow.stack) behind.entries new behind.now l less
  ]

  pub gives-without_all : (es : List (Entry Val)) (w : World Val) (c : ℕ) (new : World Val) → p < length w.time.places →
      RemovesStorages w p c es new → Gives p w new
  gives-without_all [] w c new l same = gives-nothing p w new (ap (λ (v : World Val). v.time) same)
  gives-without_all (e ∷ es) w c new l (between, removes, more) =
      let first = gives-without w c (e ∷ es) between es l removes in
      gives-then p l first (gives-without_all es between c new (Gives-range l first) more)

  gives-emptied_by : (vs : List ℕ) (w : World Val) (c : ℕ) (es : List (Entry Val)) (new : World Val) → p < length w.time.places →
      EmptiesStorages holds_nothing bag_length w p c es vs new → Gives p w new
  gives-emptied_by [] w c es new l (none, same) = gives-nothing p w new (ap (λ (v : World Val). v.time) same)
  gives-emptied_by (v ∷ vs) w c es new l (fs, between, removes, more) = elim (cases_eq (length vs % bag_length) 0) [
    | inl last ↦
        (let first = gives-without w c es between fs l (removes.last last) in
        gives-then p l first (gives-emptied_by vs between c fs new (Gives-range l first) more))
    | inr not ↦
        (let same = removes.others not in
        let here : p < length between.time.places = subst (λ (u : World Val). p < length u.time.places) (sym same.0) l in
        subst (λ (u : World Val). Gives p u new) same.0 (gives-emptied_by vs between c fs new here more))
  ]

  pub gives-bag_closed : (w : World Val) (bag : NumberBag) (es : List (Entry Val)) (new : World Val) → p < length w.time.places →
      ClosesBag holds_nothing bag_length w p bag es new → Gives p w new
  gives-bag_closed w bag es new l closes =
      let c = cell_in bag.overflow.stack in
      let first = gives-emptied_by closes.spilled w c es closes.emptied l closes.storages in
      let bare : World Val = without_cell closes.emptied c in
      let second : Gives p w bare = record { slots = first.slots; time = first.time } in
      let here : p < length bare.time.places = Gives-range l second in
      gives-as w new _
      (closes.world ∙ ap (λ (v : World Val). world_changes.cell_closed v p bag.primary.storage.cell) (values-none bare p closes.held))
      (gives-then p l second (Gives-cell_closed bare p bag.primary.storage.cell here))
