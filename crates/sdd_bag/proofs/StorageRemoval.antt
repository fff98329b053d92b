-- The first of a bag's storages is taken away
use Rattle.std.proofs.Common.{◌≡◌, ◌≢◌, ℕ, ◌+◌, ◌^◌, ◌<◌, List, ◌∷◌, Option, Some, None, length, drop, sym, ap, ◌∙◌, subst, arith}
use Rattle.std.proofs.lemmas.List.{get_or-set_same, get_or-set_other, length-set, drop_at}
use Rattle.sdd_bag.specs.KeyedPlaces.{PlaceName}
use Rattle.sdd_bag.specs.Storage.{KeptPlace}
use Rattle.sdd_bag.proofs.InsertedKeys.{map-drop, same-there}
use Rattle.sdd_bag.proofs.Prefixes.{behind-drop}
use Rattle.sdd_core.specs.declared.refused.Refused.{Refused}
use Rattle.sdd_core.specs.declared.tag.Tag.TheVariants as tag
use Rattle.sdd_participants.specs.declared.standing.Standing.{Standing}
use Rattle.sdd_participants.specs.declared.standing.Standing.TheVariants.{Owned, Raw, Shared, Retired, Private}
use Rattle.sdd_world_model.specs.World.{World, standing_at}
use Rattle.sdd_world_model.specs.WorldChanges.{owner_given, with_cell, with_standing}
use Rattle.sdd_space.specs.Shared.{Shared as SharedOwner}
use Rattle.sdd_lists.specs.declared.linked_entry.LinkedEntry.{LinkedEntry}
use Rattle.sdd_lists.specs.Entries.{link_of}
use Rattle.sdd_lists.specs.Lists.{Entry, IsCrowded, IsTaken, first_slot, left}
use Rattle.sdd_lists.specs.Stack.{cell_in}
use Rattle.sdd_lists.proofs.Lists.{bare, inside, list-same}
use Rattle.sdd_bag.specs.Storages.{StorageName}
use Rattle.sdd_bag.specs.Overflow.{AreShelves, LiesOn, OverflowParts, RemovesStorage, places_in, places_on}
use Rattle.sdd_bag.proofs.StackStorages.{plain-left}
use Rattle.sdd_bag.proofs.EntryStandings.{given-other, keeps-shelves, trimmed-plain}

abbrev owners_in : Standing → ℕ
owners_in Owned = 0
owners_in Raw = 0
owners_in (Shared n) = n
owners_in Retired = 0
owners_in (Private c) = 0

as-many : (n m : ℕ) → Some (Shared n) ≡ Some (Shared m) → n ≡ m
as-many n m same = ap owners_in (same-there (Shared n) (Shared m) same)

pub given-there : {I : Type 0} (w new : World I) (p k j : ℕ) → k ≡ j → new ≡ owner_given w p k (standing_at w k)
    → new ≡ owner_given w p j (standing_at w j)
given-there w new p k j same is = is ∙ ap (λ (i : ℕ). owner_given w p i (standing_at w i)) same

module _ {B T : Type 0} (shown : B → Option StorageName) (len : ℕ) (w : World (LinkedEntry B)) (es : List (Entry (LinkedEntry B))) (o : OverflowParts T B)
    (lies : LiesOn shown len w es o) (e : Entry (LinkedEntry B)) (rest : List (Entry (LinkedEntry B))) (first : left es ≡ e ∷ rest) where
  whole : es ≡ e ∷ rest
  whole = sym (plain-left shown len w es lies.shelves) ∙ first

  shelves : AreShelves shown len w (e ∷ rest)
  shelves = subst (λ (fs : List (Entry (LinkedEntry B))). AreShelves shown len w fs) whole lies.shelves

  -- its stack alone owns the first entry, which is not as many as may
  pub not-crowded : (why : Refused) (new : World (LinkedEntry B)) → IsCrowded w e why new → ⊥
  not-crowded why new crowd =
      let many : 2 ^ 62 ≡ 1 = as-many (2 ^ 62) 1 (sym crowd.full.shared ∙ shelves.0.sole) in absurd (omega (arith, many))

  module _ (between new : World (LinkedEntry B)) (p : ℕ) (owner : SharedOwner (LinkedEntry B))
      (taken : IsTaken link_of w p (cell_in o.stack) tag.None es e rest owner between)
      (is : new ≡ owner_given between p e.slot (standing_at between e.slot)) where
    abbrev n : ℕ
    n = taken.owners

    abbrev raised : World (LinkedEntry B)
    raised = with_standing w e.slot (Shared (n + 1))

    abbrev moved : World (LinkedEntry B) → World (LinkedEntry B)
    moved x =
        with_cell (with_cell (with_cell x (link_of e.value) (record { held = first_slot rest; tag = tag.Second }))
        (link_of e.value) (record { held = None; tag = tag.Second })) (cell_in o.stack) (record { held = first_slot rest; tag = tag.None })

    there : e.slot < length w.standings
    there = inside w.standings e.slot (Shared 1) shelves.0.sole

    one : n ≡ 1
    one = as-many n 1 (sym taken.shared.shared ∙ shelves.0.sole)

    twice : standing_at raised e.slot ≡ Some (Shared 2)
    twice =
        get_or-set_same w.standings e.slot (Some (Shared (n + 1))) None there
        ∙ ap (λ (m : ℕ). Some (Shared (m + 1))) one

    between-is : between ≡ with_standing (moved raised) e.slot (Shared 1)
    between-is =
        taken.world
        ∙ ap (λ (x : World (LinkedEntry B)). owner_given (moved x) p e.slot (standing_at x e.slot))
        (trimmed-plain shown len raised p (cell_in o.stack) tag.None w es lies.shelves)
        ∙ ap (λ (s : Option Standing). owner_given (moved raised) p e.slot s) twice

    once : standing_at between e.slot ≡ Some (Shared 1)
    once =
        ap (λ (x : World (LinkedEntry B)). standing_at x e.slot) between-is
        ∙ get_or-set_same (moved raised).standings e.slot (Some (Shared 1)) None
        (omega (arith, length-set w.standings e.slot (Some (Shared (n + 1))), there))

    others : (j : ℕ) → j ≢ e.slot → standing_at new j ≡ standing_at w j
    others j other =
        ap (λ (x : World (LinkedEntry B)). standing_at x j) is
        ∙ given-other between p e.slot (standing_at between e.slot) j other
        ∙ ap (λ (x : World (LinkedEntry B)). standing_at x j) between-is
        ∙ get_or-set_other (moved raised).standings e.slot j (Some (Shared 1)) None other
        ∙ get_or-set_other w.standings e.slot j (Some (Shared (n + 1))) None other

    pub removes : RemovesStorage w p (cell_in o.stack) es new rest
    removes = record {
      first = e;
      entries = whole;
      owner = owner;
      between = between;
      taken = taken;
      world = is ∙ ap (λ (s : Option Standing). owner_given between p e.slot s) once;
    }

    pub lies-removed : LiesOn shown len new rest (record { stack = o.stack; places = drop len o.places })
    lies-removed =
        let same = bare between p e.slot (standing_at between e.slot) in
        record {
          stack =
              list-same link_of between new (cell_in o.stack) tag.None rest (ap (λ (y : World (LinkedEntry B)). y.cells) is ∙ same.cells)
              (ap (λ (y : World (LinkedEntry B)). y.values) is ∙ same.values) taken.list;
          shelves = keeps-shelves shown len w new e.slot rest others shelves.1 shelves.2;
          keys =
              map-drop (λ (q : KeptPlace T). q.name) len o.places
              ∙ ap (λ (ns : List PlaceName). drop len ns) (lies.keys ∙ ap (λ (fs : List (Entry (LinkedEntry B))). places_on shown len fs) whole)
              ∙ drop_at (places_in shown len e) (places_on shown len rest) len shelves.0.long;
          full = behind-drop len o.places lies.full;
        }
