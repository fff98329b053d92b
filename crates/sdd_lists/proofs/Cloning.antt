-- What a push onto another queue leaves alone
use Rattle.std.proofs.Common.{◌≡◌, ◌≢◌, inl, inr, ℕ, List, [], ◌∷◌, Bool, true, false, Option, Some, None, sym, ap, ◌∙◌, arith, subst, slice_index_or, slice_set}
use Rattle.std.specs.Prelude.{drop, if◌then◌else◌}
use Rattle.std.proofs.lemmas.List.{get_or-set_other, length-set}
use Rattle.sdd_core.specs.declared.tag.Tag.TheVariants as tag
use Rattle.sdd_participants.specs.Slab.{Entries, IsEmptyAt, entry_at}
use Rattle.sdd_participants.specs.declared.standing.CellContents.{CellContents}
use Rattle.sdd_participants.specs.declared.standing.Standing.TheVariants.{Shared as shared_by}
use Rattle.sdd_world_model.specs.World.{World, standing_at, value_at}
use Rattle.sdd_space.specs.Shared.{slot_of}
use Rattle.sdd_world_model.specs.WorldChanges.{made_as, nulled, with_cell}
use Rattle.sdd_lists.specs.declared.linked_entry.LinkedEntry.{LinkedEntry}
use Rattle.sdd_lists.specs.declared.walk.Walk.{Walk}
use Rattle.sdd_lists.specs.Cloning.{AreBeside, IsBeside, IsQueueBeside, IsSecondBeside}
use Rattle.sdd_lists.specs.Ends.{end_of, through_last}
use Rattle.sdd_lists.specs.Entries.{link_of}
use Rattle.sdd_lists.specs.Lists.{Apart, AreLinked, Entry, first_slot, is_deleted, left}
use Rattle.sdd_lists.specs.Queue.{IsQueue, IsSecond, QueueCells, made_newest}
use Rattle.sdd_lists.specs.QueueFilling.{AddsBehind}
use Rattle.sdd_lists.specs.Walk.{StandsBefore}
use Rattle.sdd_lists.proofs.Beside.{beside-still, cell-still, links-still, list-still, standing-still}
use Rattle.sdd_lists.proofs.Ends.{appended-other, apart-last, apart-through, put-values}
use Rattle.sdd_lists.proofs.FreshLinks.{fresh-queue}
use Rattle.sdd_lists.proofs.QueuePops.{spilled-cells, spilled-values}
use Rattle.sdd_lists.proofs.GoneEntries.{KeepsGone, gone, gone-then, gone-written, other-free}
use Rattle.sdd_lists.proofs.Lists.{bare}

-- what a second cell holds is one of these, or was let go of
second-is : {T : Type 0} (w : World (LinkedEntry T)) (o : Option ℕ) (es : List (Entry (LinkedEntry T))) (q : QueueCells)
    (fs : List (Entry (LinkedEntry T))) → IsSecondBeside w o es q fs → IsSecond link_of w o es
second-is w None es q fs was = tt
second-is w (Some k) es q fs (inl among) = inl among
second-is w (Some k) es q fs (inr was) = inr was.0

module _ {T : Type 0} (w new : World (LinkedEntry T)) (p : ℕ) (q : QueueCells) (fs gs : List (Entry (LinkedEntry T))) (second held : Option ℕ) (x : T)
    (adds : AddsBehind w p q fs second x new gs held) (unused : (k : ℕ) → standing_at w k ≡ None → value_at w k ≡ None) where
  abbrev entry : LinkedEntry T
  entry = adds.pushes.entry

  abbrev slot : ℕ
  slot = slot_of adds.owner

  abbrev newest : CellContents
  newest = record { held = Some slot; tag = tag.None }

  abbrev item : World (LinkedEntry T)
  item = made_as (nulled w (link_of entry)) slot entry (shared_by 3)

  abbrev made : World (LinkedEntry T)
  made = made_newest (nulled w (link_of entry)) p q.newest slot entry second

  -- a cell that is beside the queue, and isn't the link of the new entry, is as before
  other : (d : ℕ) → IsBeside d q fs → d ≢ link_of entry → entry_at new.cells d ≡ entry_at w.cells d
  other d beside far =
      ap (λ (y : World (LinkedEntry T)). entry_at y.cells d) adds.world
      ∙ ap (λ (cs : Entries CellContents). entry_at cs d) (bare adds.between p slot (standing_at adds.between slot)).cells
      ∙ ap (λ (y : World (LinkedEntry T)). entry_at y.cells d) adds.pushes.queue.world
      ∙ appended-other link_of made p q.oldest tag.None fs (link_of entry) slot d beside.oldest beside.apart far
      ∙ ap (λ (cs : Entries CellContents). entry_at cs d) (spilled-cells (with_cell item q.newest newest) p second)
      ∙ get_or-set_other item.cells q.newest d (Some newest) None beside.newest
      ∙ get_or-set_other w.cells (link_of entry) d (let cell : CellContents = record { held = None; tag = tag.None } in Some cell) None far

  values-are : new.values ≡ slice_set w.values slot (Some entry)
  values-are =
      ap (λ (y : World (LinkedEntry T)). y.values) adds.world ∙ (bare adds.between p slot (standing_at adds.between slot)).values
      ∙ ap (λ (y : World (LinkedEntry T)). y.values) adds.pushes.queue.world
      ∙ put-values link_of made p (end_of link_of q.oldest tag.None fs) (link_of entry) slot
      ∙ spilled-values (with_cell item q.newest newest) p second

  kept : (j : ℕ) (v : LinkedEntry T) → value_at w j ≡ Some v → value_at new j ≡ Some v
  kept j v there =
      let far : j ≢ slot = λ same.
      let never : Some v ≡ None = sym there ∙ ap (λ (k : ℕ). value_at w k) same ∙ unused slot adds.pushes.queue.free.1 in absurd (cc) in
      ap (λ (vs : List (Option (LinkedEntry T))). slice_index_or vs j None) values-are
      ∙ get_or-set_other w.values slot j (Some entry) None far ∙ there

  grown : (d : ℕ) → IsBeside d q fs → d ≢ link_of entry → IsBeside d q gs
  grown d beside far =
      let last : Entry (LinkedEntry T) = record { slot = slot; value = entry; tag = tag.None } in
      record {
        oldest = beside.oldest;
        newest = beside.newest;
        apart = subst (λ (ys : List (Entry (LinkedEntry T))). Apart link_of d ys) (sym adds.entries)
            (apart-last link_of d (through_last fs) last (apart-through link_of d fs beside.apart) (λ same. far (sym same)));
      }

  second-still : (o : Option ℕ) (es : List (Entry (LinkedEntry T))) → IsSecondBeside w o es q fs → IsSecondBeside new o es q gs
  second-still None es was = tt
  second-still (Some k) es (inl among) = inl among
  second-still (Some k) es (inr (was, beside)) =
      let l : ℕ = link_of entry in
      let none = adds.pushes.link.1 in
      let at : ℕ = link_of was.value in inr (
        record { value = was.value; there = kept k was.value was.there; bare = cell-still w new l q fs gs other kept none grown at gone was.bare beside },
        beside-still w new l q fs gs other kept none grown at gone was.bare beside,
      )

  pub queue-still : (from : QueueCells) (es : List (Entry (LinkedEntry T))) (o : Option ℕ) → IsQueueBeside w from es o q fs → IsQueueBeside new from es o q gs
  queue-still from es o was =
      let l : ℕ = link_of entry in
      let none = adds.pushes.link.1 in
      let first : CellContents = record { held = first_slot es; tag = tag.None } in
      let last : CellContents = record { held = o; tag = tag.None } in
      let stays = second-still o es was.second_one in
      record {
        queue = record {
          list = list-still w new l q fs gs other kept none grown from.oldest tag.None es was.queue.list was.oldest was.links;
          newest = cell-still w new l q fs gs other kept none grown from.newest last was.queue.newest was.newest;
          among = second-is new o es q gs stays;
          two = was.queue.two;
          apart = was.queue.apart;
        };
        oldest = beside-still w new l q fs gs other kept none grown from.oldest first was.queue.list.begins was.oldest;
        newest = beside-still w new l q fs gs other kept none grown from.newest last was.queue.newest was.newest;
        links = links-still w new l q fs gs other kept none grown es was.queue.list.linked was.links;
        second_one = stays;
      }

  pub stands-still : (walk : Walk T) (es : List (Entry (LinkedEntry T))) → StandsBefore w walk es → AreBeside es q fs →
      StandsBefore new walk es × AreBeside es q gs
  stands-still walk es stood beside = standing-still w new (link_of entry) q fs gs other kept adds.pushes.link.1 grown walk es stood beside

module _ {T : Type 0} (q : QueueCells) (fs : List (Entry (LinkedEntry T))) where
  left-by : (e : Entry (LinkedEntry T)) (es : List (Entry (LinkedEntry T))) → AreBeside (e ∷ es) q fs → AreBeside (left es) q fs → (b : Bool) →
      AreBeside (if b then left es else e ∷ es) q fs
  left-by e es all more true = more
  left-by e es all more false = all

  pub beside-left : (es : List (Entry (LinkedEntry T))) → AreBeside es q fs → AreBeside (left es) q fs
  beside-left [] all = tt
  beside-left (e ∷ es) all = left-by e es all (beside-left es all.1) (is_deleted e)

  pub beside-behind : (es : List (Entry (LinkedEntry T))) → AreBeside es q fs → AreBeside (left (drop 1 es)) q fs
  beside-behind [] all = tt
  beside-behind (e ∷ es) all = beside-left es all.1

-- cells that were free are beside each list that is there
module _ {T : Type 0} (w : World (LinkedEntry T)) (q : QueueCells) (oldest : IsEmptyAt w.cells q.oldest) (newest : IsEmptyAt w.cells q.newest) where
  taken-not : (k d : ℕ) (cell : CellContents) → IsEmptyAt w.cells k → entry_at w.cells d ≡ Some cell → d ≢ k
  taken-not k d cell free there = λ same.
      let never : Some cell ≡ None = sym there ∙ ap (λ (j : ℕ). entry_at w.cells j) same ∙ free.1 in absurd (cc)

  pub beside-new : (d : ℕ) (cell : CellContents) → entry_at w.cells d ≡ Some cell → IsBeside {T = T} d q []
  beside-new d cell there = record {
    oldest = taken-not q.oldest d cell oldest there;
    newest = taken-not q.newest d cell newest there;
    apart = tt;
  }

  pub links-new : (es : List (Entry (LinkedEntry T))) → AreLinked link_of w es → AreBeside es q []
  links-new [] linked = tt
  links-new (e ∷ es) linked =
      let cell : CellContents = record { held = first_slot es; tag = e.tag } in
      (beside-new (link_of e.value) cell linked.0.linked, links-new es linked.1)

  -- so they are where these cells hold nothing
  pub copied-beside : q.oldest ≢ q.newest → (from : QueueCells) (es : List (Entry (LinkedEntry T))) (o : Option ℕ) → IsQueue link_of w from es o →
      IsQueueBeside (nulled (nulled w q.oldest) q.newest) from es o q []
  copied-beside two from es o queue =
      let first : CellContents = record { held = first_slot es; tag = tag.None } in
      let last : CellContents = record { held = o; tag = tag.None } in
      let nothing : CellContents = record { held = None; tag = tag.None } in
      let still : IsEmptyAt (nulled w q.oldest).cells q.newest = (
        omega (arith, newest.0, length-set w.cells q.oldest (Some nothing)),
        get_or-set_other w.cells q.oldest q.newest (Some nothing) None (λ same. two (sym same)) ∙ newest.1,
      ) in
      record {
        queue = fresh-queue link_of (nulled w q.oldest) q.newest still from es o (fresh-queue link_of w q.oldest oldest from es o queue);
        oldest = beside-new from.oldest first queue.list.begins;
        newest = beside-new from.newest last queue.newest;
        links = links-new es queue.list.linked;
        second_one = second-new es o queue.among;
      } where
        second-new : (es : List (Entry (LinkedEntry T))) (o : Option ℕ) → IsSecond link_of w o es →
            IsSecondBeside (nulled (nulled w q.oldest) q.newest) o es q []
        second-new es None among = tt
        second-new es (Some k) (inl among) = inl among
        second-new es (Some k) (inr was) =
            let nothing : CellContents = record { held = None; tag = tag.None } in
            let first : KeepsGone w (nulled w q.oldest) =
            gone-written w q.oldest nothing (other-free (entry_at w.cells q.oldest) oldest.1) in
            let free : entry_at (nulled w q.oldest).cells q.newest ≡ None =
            get_or-set_other w.cells q.oldest q.newest (Some nothing) None (λ same. two (sym same)) ∙ newest.1 in
            let both : KeepsGone w (nulled (nulled w q.oldest) q.newest) =
            gone-then w (nulled w q.oldest) (nulled (nulled w q.oldest) q.newest) first
            (gone-written (nulled w q.oldest) q.newest nothing (other-free (entry_at (nulled w q.oldest).cells q.newest) free)) in
            inr (
              record { value = was.value; there = both.values k was.value was.there; bare = both.cells (link_of was.value) was.bare },
              beside-new (link_of was.value) gone was.bare,
            )
