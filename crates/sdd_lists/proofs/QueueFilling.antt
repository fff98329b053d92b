-- What filling a queue makes of it
use Rattle.std.proofs.Common.{◌≡◌, ℕ, List, [], ◌∷◌, ◌++◌, Option, Some, refl, sym, ap, ◌∙◌, append_assoc}
use Rattle.std.specs.Prelude.{map}
use Rattle.std.proofs.lemmas.List.{append-nil, map-append}
use Rattle.sdd_core.specs.declared.tag.Tag.TheVariants as tag
use Rattle.sdd_world_model.specs.World.{World, standing_at}
use Rattle.sdd_world_model.specs.WorldChanges.{owner_given}
use Rattle.sdd_space.specs.Shared.{slot_of}
use Rattle.sdd_space.specs.Shared.{Shared}
use Rattle.sdd_lists.specs.declared.linked_entry.LinkedEntry.{LinkedEntry}
use Rattle.sdd_lists.specs.Ends.{through_last}
use Rattle.sdd_lists.specs.Entries.{link_of, value_of}
use Rattle.sdd_lists.specs.Histories.{values_of}
use Rattle.sdd_lists.specs.Lists.{Entry}
use Rattle.sdd_lists.specs.Queue.{IsQueue, PushesBehind, QueueCells}
use Rattle.sdd_lists.specs.QueueFilling.{AddsBehind, FillsQueue, begins_behind, adds_behind}
use Rattle.sdd_lists.specs.Walk.{shown_of}
use Rattle.sdd_lists.proofs.QueuePops.{queue-same}
use Rattle.sdd_lists.proofs.Lists.{bare}
use Rattle.sdd_lists.proofs.Order.{values-push}

module _ {T : Type 0} where
  pub added-behind : (w between new : World (LinkedEntry T)) (p : ℕ) (q : QueueCells) (es : List (Entry (LinkedEntry T))) (second : Option ℕ) (value : T)
      (owner : Shared (LinkedEntry T)) → PushesBehind w p q es second value owner between →
      new ≡ owner_given between p (slot_of owner) (standing_at between (slot_of owner)) →
      (fs : List (Entry (LinkedEntry T))) × (held : Option ℕ) × AddsBehind w p q es second value new fs held
  added-behind w between new p q es second value owner pushes is =
      let fs : List (Entry (LinkedEntry T)) = through_last es ++ record { slot = slot_of owner; value = pushes.entry; tag = tag.None } ∷ [] in
      let same = bare between p (slot_of owner) (standing_at between (slot_of owner)) in (
        fs,
        Some (slot_of owner),
        record {
          owner = owner;
          between = between;
          pushes = pushes;
          world = is;
          entries = refl;
          newest = refl;
          queue =
              queue-same link_of between new q fs (Some (slot_of owner)) (ap (λ (y : World (LinkedEntry T)). y.cells) is ∙ same.cells)
              (ap (λ (y : World (LinkedEntry T)). y.values) is ∙ same.values) pushes.queue.queue;
        },
      )

  -- the value comes last
  shown-behind : (w new : World (LinkedEntry T)) (p : ℕ) (q : QueueCells) (es fs : List (Entry (LinkedEntry T))) (second held : Option ℕ) (value : T) →
      AddsBehind w p q es second value new fs held → shown_of fs ≡ shown_of es ++ value ∷ []
  shown-behind w new p q es fs second held value add =
      ap (λ (ys : List (Entry (LinkedEntry T))). shown_of ys) add.entries
      ∙ ap (λ (vs : List (LinkedEntry T)). map value_of vs) (values-push (slot_of add.owner) add.pushes.entry es)
      ∙ map-append value_of (values_of es) (add.pushes.entry ∷ [])
      ∙ ap (λ (v : T). shown_of es ++ v ∷ []) add.pushes.value

  pub none-behind : (p : ℕ) (q : QueueCells) (w : World (LinkedEntry T)) (es : List (Entry (LinkedEntry T))) (second : Option ℕ) →
      IsQueue link_of w q es second → FillsQueue p q w es second [] w es second
  none-behind p q w es second queue = record { all = begins_behind; queue = queue; values = sym (append-nil (shown_of es)) }

  pub one-behind : (p : ℕ) (q : QueueCells) (w v new : World (LinkedEntry T)) (es fs gs : List (Entry (LinkedEntry T))) (second held holds : Option ℕ)
      (xs : List T) (x : T) → FillsQueue p q w es second xs v fs held → AddsBehind v p q fs held x new gs holds →
      FillsQueue p q w es second (xs ++ x ∷ []) new gs holds
  one-behind p q w v new es fs gs second held holds xs x fills add = record {
    all = adds_behind xs v new fs gs held holds x fills.all add;
    queue = add.queue;
    values =
        shown-behind v new p q fs gs held holds x add ∙ ap (λ (ys : List T). ys ++ x ∷ []) fills.values
        ∙ append_assoc (shown_of es) xs (x ∷ []);
  }
