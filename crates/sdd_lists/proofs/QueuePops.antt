-- What a pop of a queue lets go of, and what its second cell holds then
use Rattle.std.proofs.Common.{◌≡◌, ◌≢◌, ◌⊎◌, inl, inr, eq-eqb, ℕ, List, [], ◌∷◌, Bool, true, false, Option, Some, None, refl, sym, ap, ◌∙◌, subst}
use Rattle.std.specs.Prelude.{MatchOption, option_map, if◌then◌else◌}
use Rattle.std.proofs.lemmas.List.{get_or-set_same, get_or-set_other}
use Rattle.sdd_core.specs.declared.tag.Tag.{Tag}
use Rattle.sdd_core.specs.declared.tag.Tag.TheVariants as tag
use Rattle.sdd_world_model.specs.World.{World, standing_at}
use Rattle.sdd_participants.specs.declared.standing.CellContents.{CellContents}
use Rattle.sdd_participants.specs.Slab.{Entries, entry_at}
use Rattle.sdd_space.specs.Shared.{slot_of}
use Rattle.sdd_space.specs.Shared.{Shared}
use Rattle.sdd_world_model.specs.WorldChanges.{nulled, owner_given, spilled, with_cell, without_cell}
use Rattle.sdd_world_model.specs.Slots.{IsSharedBy}
use Rattle.sdd_participants.specs.declared.standing.Standing.{Standing}
use Rattle.sdd_participants.specs.declared.standing.Standing.TheVariants.{Shared as shared_by}
use Rattle.sdd_lists.specs.Ends.{IsAmong}
use Rattle.sdd_lists.specs.Lists.{Apart, Entry, IsList, first_slot, is_deleted, is_deleting, left, removed, trimmed}
use Rattle.sdd_lists.specs.Queue.{IsQueue, IsSecond, QueueCells, cell_emptied, cell_left, held_left, is_at, lets_go_of}
use Rattle.sdd_lists.proofs.Ends.{apart-ends, left-ends, trimmed-list}
use Rattle.sdd_lists.proofs.FirstEntries.{tag_in}
use Rattle.sdd_lists.proofs.GoneEntries.{KeepsGone, gone, gone-by, gone-go, gone-same, gone-then, gone-trimmed, gone-written, let-go-kept, other-tag, second-kept}
use Rattle.sdd_lists.proofs.Lists.{bare, inside, linked-set, list-same}
use Rattle.sdd_lists.proofs.PoppedLists.{apart-first, begins-still, is-deleted, stays-of}
use Rattle.sdd_lists.proofs.PushedLists.{go-other, trim-other}

goes-by : (a rest : Bool) → rest ≡ true → (if a then true else rest) ≡ true
goes-by true rest is = refl
goes-by false rest is = is

module _ {T : Type 0} where
  pub goes-here : (held : Option ℕ) (e : Entry T) (es : List (Entry T)) → is_at held e ≡ true → lets_go_of held (e ∷ es) ≡ true
  goes-here held e es here = rw here refl

  pub goes-on : (held : Option ℕ) (e : Entry T) (es : List (Entry T)) → is_at held e ≡ false → is_deleted e ≡ true →
      lets_go_of held (e ∷ es) ≡ lets_go_of held es
  goes-on held e es not gone = rw not (rw gone refl)

  pub goes-not : (held : Option ℕ) (e : Entry T) (es : List (Entry T)) → is_at held e ≡ false → is_deleted e ≡ false → lets_go_of held (e ∷ es) ≡ false
  goes-not held e es not stays = rw not (rw stays refl)

  goes-more : (k : ℕ) (x : Entry T) (xs : List (Entry T)) (e : Entry T) (rest : List (Entry T)) → IsAmong k xs → (b : Bool) → is_deleted x ≡ b →
      (if b then left xs else x ∷ xs) ≡ e ∷ rest → (left xs ≡ e ∷ rest → (lets_go_of (Some k) xs ≡ true) ⊎ IsAmong k rest) →
      (lets_go_of (Some k) (x ∷ xs) ≡ true) ⊎ IsAmong k rest
  goes-more k x xs e rest there true is same more = elim (more same) [
    | inl goes ↦ inl (rw is (goes-by (is_at (Some k) x) (lets_go_of (Some k) xs) goes))
    | inr among ↦ inr among
  ]
  goes-more k x xs e rest there false is same more = let tails : xs ≡ rest = cc in inr (subst (IsAmong k) tails there)

  -- an entry that was there is let go of, or is there still
  goes-or : (k : ℕ) (es : List (Entry T)) (e : Entry T) (rest : List (Entry T)) → left es ≡ e ∷ rest → IsAmong k es →
      (lets_go_of (Some k) es ≡ true) ⊎ IsAmong k rest
  goes-or k [] e rest same among = absurd among
  goes-or k (x ∷ xs) e rest same (inl here) = inl (goes-here (Some k) x xs (eq-eqb x.slot k here))
  goes-or k (x ∷ xs) e rest same (inr there) = goes-more k x xs e rest there (is_deleted x) refl same (λ more. goes-or k xs e rest more there)

  -- who is given what a cell held changes no cell and no value
  pub spilled-cells : (u : World T) (p : ℕ) (held : Option ℕ) → (spilled u p held).cells ≡ u.cells
  spilled-cells u p None = refl
  spilled-cells u p (Some k) = (bare u p k (standing_at u k)).cells

  pub spilled-values : (u : World T) (p : ℕ) (held : Option ℕ) → (spilled u p held).values ≡ u.values
  spilled-values u p None = refl
  spilled-values u p (Some k) = (bare u p k (standing_at u k)).values

-- an owner that a cell held is given up
pub given-spilled : {T : Type 0} (u v : World T) (p : ℕ) (o : Option (Shared T)) →
    MatchOption o (v ≡ u) (λ owner. (owners : ℕ) × IsSharedBy owners (standing_at u (slot_of owner)) ×
    (v ≡ owner_given u p (slot_of owner) (Some (shared_by owners)))) → v ≡ spilled u p (option_map slot_of o)
given-spilled u v p None same = same
given-spilled u v p (Some owner) same = same.2 ∙ ap (λ (s : Option Standing). owner_given u p (slot_of owner) s) (sym same.1.shared)

module _ {T : Type 0} (link : T → ℕ) where
  none-left : (u : World T) (b : Bool) (es : List (Entry T)) → IsSecond link u (if b then None else None) es
  none-left u true es = tt
  none-left u false es = tt

  some-left : (u : World T) (b : Bool) (k : ℕ) (es : List (Entry T)) → (b ≡ true) ⊎ IsSecond link u (Some k) es →
      IsSecond link u (if b then None else Some k) es
  some-left u true k es either = tt
  some-left u false k es (inl never) = absurd (cc)
  some-left u false k es (inr is) = is

  -- what the second cell holds where a pop let go of the first entry that isn't deleted
  among-left : (w u : World T) (held : Option ℕ) (es : List (Entry T)) (e : Entry T) (rest : List (Entry T)) → left es ≡ e ∷ rest → KeepsGone w u →
      IsSecond link w held es → IsSecond link u (held_left held es) rest
  among-left w u None es e rest same keeps among = none-left u (lets_go_of None es) rest
  among-left w u (Some k) es e rest same keeps (inl among) =
      some-left u (lets_go_of (Some k) es) k rest (elim (goes-or k es e rest same among) [ inl goes ↦ inl goes | inr stays ↦ inr (inl stays) ])
  among-left w u (Some k) es e rest same keeps (inr was) =
      some-left u (lets_go_of (Some k) es) k rest (inr (inr (let-go-kept link w u k keeps was)))

  pub queue-same : (w u : World T) (q : QueueCells) (es : List (Entry T)) (second : Option ℕ) → u.cells ≡ w.cells → u.values ≡ w.values →
      IsQueue link w q es second → IsQueue link u q es second
  queue-same w u q es second cells values queue = record {
    list = list-same link w u q.oldest tag.None es cells values queue.list;
    newest = ap (λ (cs : Entries CellContents). entry_at cs q.newest) cells ∙ queue.newest;
    among = second-kept link w u second es es (gone-same w u cells values) (λ k among. inl among) queue.among;
    two = queue.two;
    apart = queue.apart;
  }

  -- a cell apart may change
  pub list-apart : (w u : World T) (c : ℕ) (t : Tag) (es : List (Entry T)) (n : ℕ) (x : CellContents) → u.cells ≡ (with_cell w n x).cells →
      u.values ≡ w.values → c ≢ n → Apart link n es → IsList link w c t es → IsList link u c t es
  list-apart w u c t es n x cells values far all list = record {
    begins = ap (λ (cs : Entries CellContents). entry_at cs c) cells ∙ get_or-set_other w.cells n c (Some x) None far ∙ list.begins;
    linked = linked-set link w u n (Some x) es cells values all list.linked;
  }

  -- a cell apart may be freed
  pub list-without : (w u : World T) (c : ℕ) (t : Tag) (es : List (Entry T)) (n : ℕ) → u.cells ≡ (without_cell w n).cells → u.values ≡ w.values →
      c ≢ n → Apart link n es → IsList link w c t es → IsList link u c t es
  list-without w u c t es n cells values far all list = record {
    begins = ap (λ (cs : Entries CellContents). entry_at cs c) cells ∙ get_or-set_other w.cells n c None None far ∙ list.begins;
    linked = linked-set link w u n None es cells values all list.linked;
  }

  module _ (w : World T) (p : ℕ) (q : QueueCells) (es : List (Entry T)) (second : Option ℕ) (queue : IsQueue link w q es second) where
    abbrev nothing : CellContents
    nothing = record { held = None; tag = tag.None }

    pub emptied-list : IsList link (cell_emptied w p q.newest second) q.oldest tag.None es
    emptied-list =
        list-apart w (cell_emptied w p q.newest second) q.oldest tag.None es q.newest nothing (spilled-cells (nulled w q.newest) p second)
        (spilled-values (nulled w q.newest) p second) queue.two queue.apart queue.list

    pub emptied-newest : entry_at (cell_emptied w p q.newest second).cells q.newest ≡ Some nothing
    emptied-newest =
        ap (λ (cs : Entries CellContents). entry_at cs q.newest) (spilled-cells (nulled w q.newest) p second)
        ∙ get_or-set_same w.cells q.newest (Some nothing) None (inside w.cells q.newest (record { held = second; tag = tag.None }) queue.newest)

    left-list-by : (b : Bool) → IsList link (if b then cell_emptied w p q.newest second else w) q.oldest tag.None es
    left-list-by true = emptied-list
    left-list-by false = queue.list

    pub left-list : IsList link (cell_left w p q.newest second es) q.oldest tag.None es
    left-list = left-list-by (lets_go_of second es)

    left-newest-by : (b : Bool) → entry_at (if b then cell_emptied w p q.newest second else w).cells q.newest
        ≡ Some (record { held = if b then None else second; tag = tag.None })
    left-newest-by true = emptied-newest
    left-newest-by false = queue.newest

    left-newest : entry_at (cell_left w p q.newest second es).cells q.newest ≡ Some (record { held = held_left second es; tag = tag.None })
    left-newest = left-newest-by (lets_go_of second es)

    emptied-gone : KeepsGone w (cell_emptied w p q.newest second)
    emptied-gone =
        gone-then w (nulled w q.newest) (cell_emptied w p q.newest second)
        (gone-written w q.newest nothing
        (other-tag (entry_at w.cells q.newest) (record { held = second; tag = tag.None }) queue.newest (λ same. absurd (cc))))
        (gone-same (nulled w q.newest) (cell_emptied w p q.newest second) (spilled-cells (nulled w q.newest) p second)
        (spilled-values (nulled w q.newest) p second))

    left-gone : KeepsGone w (cell_left w p q.newest second es)
    left-gone = gone-by w (cell_emptied w p q.newest second) emptied-gone (lets_go_of second es)

    -- what was let go of is so where the first entry that isn't deleted is removed
    removed-gone : (e : Entry T) (rest : List (Entry T)) → left es ≡ e ∷ rest →
        KeepsGone w (removed link (cell_left w p q.newest second es) p q.oldest tag.None es e rest)
    removed-gone e rest same =
        let u : World T = cell_left w p q.newest second es in
        let v : World T = trimmed link u p q.oldest tag.None es in
        let dead : CellContents = record { held = first_slot rest; tag = tag.Second } in
        let list : IsList link v q.oldest tag.None (e ∷ rest) =
        subst (λ (xs : List (Entry T)). IsList link v q.oldest tag.None xs) same (trimmed-list link u p q.oldest tag.None es left-list) in
        let kept : (entry_at v.cells (link e.value) ≡ Some gone) → ⊥ = λ is.
        (let tags : e.tag ≡ tag.Second = ap tag_in (sym list.linked.0.linked ∙ is) in
        let never : true ≡ false = ap is_deleting (sym tags) ∙ stays-of es e rest same in
        absurd (cc)) in
        gone-then w u (removed link u p q.oldest tag.None es e rest) left-gone
        (gone-then u v (removed link u p q.oldest tag.None es e rest) (gone-trimmed link u p q.oldest tag.None es left-list)
        (gone-then v (with_cell v (link e.value) dead) (removed link u p q.oldest tag.None es e rest) (gone-written v (link e.value) dead kept)
        (gone-go (with_cell v (link e.value) dead) p q.oldest e.slot (link e.value) tag.None (first_slot rest) dead
        (apart-first link v p q.oldest tag.None e rest list) (is-deleted link v p q.oldest tag.None e rest list)
        (begins-still link v p q.oldest tag.None e rest list))))

    -- the queue without its first entry that isn't deleted
    pub rest-queue : (e : Entry T) (rest : List (Entry T)) → left es ≡ e ∷ rest → (new : World T) →
        new ≡ removed link (cell_left w p q.newest second es) p q.oldest tag.None es e rest → IsList link new q.oldest tag.None rest →
        IsQueue link new q rest (held_left second es)
    rest-queue e rest same new made list =
        let u : World T = cell_left w p q.newest second es in
        let v : World T = trimmed link u p q.oldest tag.None es in
        let all = apart-ends link q.newest es e rest (left-ends es e rest same) queue.apart in
        let gone : CellContents = record { held = first_slot rest; tag = tag.Second } in
        record {
          list = list;
          newest =
              ap (λ (x : World T). entry_at x.cells q.newest) made
              ∙ go-other link (with_cell v (link e.value) gone) p q.oldest e.slot q.newest (link e.value) tag.None (first_slot rest)
              (λ meet. queue.two (sym meet)) (λ meet. all.0 (sym meet))
              ∙ get_or-set_other v.cells (link e.value) q.newest (Some gone) None (λ meet. all.0 (sym meet))
              ∙ trim-other link u p q.oldest tag.None es q.newest (λ meet. queue.two (sym meet)) queue.apart ∙ left-newest;
          among =
              among-left w new second es e rest same (subst (λ (x : World T). KeepsGone w x) (sym made) (removed-gone e rest same)) queue.among;
          two = queue.two;
          apart = all.1;
        }

    -- the queue whose entries were deleted all
    pub cleared-queue : (new : World T) → new ≡ trimmed link (cell_emptied w p q.newest second) p q.oldest tag.None es →
        IsList link new q.oldest tag.None [] → IsQueue link new q [] None
    cleared-queue new made list = record {
      list = list;
      newest =
          ap (λ (x : World T). entry_at x.cells q.newest) made
          ∙ trim-other link (cell_emptied w p q.newest second) p q.oldest tag.None es q.newest (λ meet. queue.two (sym meet)) queue.apart
          ∙ emptied-newest;
      among = tt;
      two = queue.two;
      apart = tt;
    }
