-- What filling a queue or stack makes of it
use Rattle.std.proofs.Common.{◌≡◌, ℕ, List, [], ◌∷◌, ◌++◌, Option, Some, refl, sym, ap, ◌∙◌, subst}
use Rattle.std.specs.Iterator.{Yields}
use Rattle.std.proofs.lemmas.List.{reverse-append}
use Rattle.sdd_core.specs.declared.tag.Tag.TheVariants as tag
use Rattle.sdd_world_model.specs.World.{World, standing_at}
use Rattle.sdd_world_model.specs.WorldChanges.{owner_given}
use Rattle.sdd_space.specs.Shared.{slot_of}
use Rattle.sdd_space.specs.Shared.{Shared}
use Rattle.sdd_lists.specs.declared.linked_entry.LinkedEntry.{LinkedEntry}
use Rattle.sdd_lists.specs.Entries.{link_of}
use Rattle.sdd_lists.specs.Filling.{AddsOnto, FillsStack, begins, adds}
use Rattle.sdd_lists.specs.Lists.{Entry, left}
use Rattle.sdd_lists.specs.Stack.{IsStack, PushesOnto}
use Rattle.sdd_lists.specs.Walk.{shown_of}
use Rattle.sdd_lists.proofs.Lists.{bare, list-same}
use Rattle.sdd_lists.proofs.WalkPositions.{shown-left}

-- a further step of an iterator, behind those that it made
pub yields-more : {I A : Type 0} (next : I → Option A → I → Type 0) (start : I) (xs : List A) (i j : I) (x : A) → Yields next start xs i →
    next i (Some x) j → Yields next start (xs ++ x ∷ []) j
yields-more next start [] i j x gave more = (j, subst (λ (u : _). next u (Some x) j) (sym gave) more, refl)
yields-more next start (y ∷ ys) i j x gave more = (gave.0, gave.1, yields-more next gave.0 ys i j x gave.2 more)

module _ {T : Type 0} where
  pub added : (w between new : World (LinkedEntry T)) (p c : ℕ) (es : List (Entry (LinkedEntry T))) (value : T) (owner : Shared (LinkedEntry T)) →
      PushesOnto w p c es value owner between → new ≡ owner_given between p (slot_of owner) (standing_at between (slot_of owner)) →
      (fs : List (Entry (LinkedEntry T))) × AddsOnto w p c es value new fs
  added w between new p c es value owner pushes is =
      let fs : List (Entry (LinkedEntry T)) = record { slot = slot_of owner; value = pushes.entry; tag = tag.None } ∷ left es in
      let same = bare between p (slot_of owner) (standing_at between (slot_of owner)) in (
        fs,
        record {
          owner = owner;
          between = between;
          pushes = pushes;
          world = is;
          entries = refl;
          list =
              list-same link_of between new c tag.None fs (ap (λ (y : World (LinkedEntry T)). y.cells) is ∙ same.cells)
              (ap (λ (y : World (LinkedEntry T)). y.values) is ∙ same.values) pushes.list.list;
        },
      )

  -- the last value comes first
  shown-added : (w new : World (LinkedEntry T)) (p c : ℕ) (es fs : List (Entry (LinkedEntry T))) (value : T) → AddsOnto w p c es value new fs →
      shown_of fs ≡ value ∷ shown_of es
  shown-added w new p c es fs value add =
      ap (λ (ys : List (Entry (LinkedEntry T))). shown_of ys) add.entries
      ∙ ap (λ (v : T). v ∷ shown_of (left es)) add.pushes.value
      ∙ ap (λ (vs : List T). value ∷ vs) (shown-left es)

  pub none-added : (p c : ℕ) (w : World (LinkedEntry T)) (es : List (Entry (LinkedEntry T))) → IsStack w c es → FillsStack p c w es [] w es
  none-added p c w es list = record { all = begins; list = list; values = refl }

  pub one-added : (p c : ℕ) (w v new : World (LinkedEntry T)) (es fs gs : List (Entry (LinkedEntry T))) (xs : List T) (x : T) →
      FillsStack p c w es xs v fs → AddsOnto v p c fs x new gs → FillsStack p c w es (xs ++ x ∷ []) new gs
  one-added p c w v new es fs gs xs x fills add = record {
    all = adds xs v new fs gs x fills.all add;
    list = add.list;
    values =
        shown-added v new p c fs gs x add ∙ ap (λ (ys : List T). x ∷ ys) fills.values
        ∙ ap (λ (ys : List T). ys ++ shown_of es) (sym (reverse-append xs (x ∷ [])));
  }
