-- Where a walk is, and what it shows
use Rattle.std.specs.Prelude.{ℕ, ◌≡◌, ◌≤◌, List, [], ◌∷◌, MatchOption, Option, IfSome, None, Some, length, map}
use Rattle.sdd_rights.specs.Units as units
use Rattle.sdd_world_model.specs.World.{World}
use Rattle.sdd_space.specs.Shared.{cell_of, cells_home}
use Rattle.sdd_lists.specs.declared.linked_entry.LinkedEntry.{LinkedEntry}
use Rattle.sdd_lists.specs.declared.walk.Walk.{Walk}
use Rattle.sdd_lists.specs.Entries.{link_of, value_of}
use Rattle.sdd_lists.specs.Histories.{values_of}
use Rattle.sdd_lists.specs.Lists.{AreLinked, Entry, left}

module _ {T : Type 0} where
  -- the values of a queue or a stack, in order
  abbrev pub shown_of : List (Entry (LinkedEntry T)) → List T
  shown_of es = map value_of (values_of es)

  -- the value of the first entry, if there is one
  abbrev pub first_shown : List (Entry (LinkedEntry T)) → Option T
  first_shown [] = None
  first_shown (e ∷ es) = Some (value_of e.value)

  -- how many values it shows at most
  abbrev pub steps_left : Walk T → ℕ
  steps_left walk = walk.most

  -- the entry that it shows next, if it does, is of these cells
  abbrev pub IsWalkOf : units.GhostName → Walk T → Type 0
  IsWalkOf home walk = IfSome walk.next (λ f. cells_home f.link.now ≡ home)

  -- it is before these entries, the first of which isn't deleted
  pub record StandsBefore (w : World (LinkedEntry T)) (walk : Walk T) (es : List (Entry (LinkedEntry T))) : Type 0 where
    pub linked : AreLinked link_of w es
    pub front : left es ≡ es
    pub next : MatchOption walk.next (es ≡ []) (λ f. (e : Entry (LinkedEntry T)) × (rest : List (Entry (LinkedEntry T))) × (es ≡ e ∷ rest) ×
        (f.entry.now ≡ e.value) × (cell_of f.link.now ≡ link_of e.value))
    pub few : length es ≤ walk.most

  -- it shows these values, in order, where nothing is called in between that changes them
  abbrev pub ShowsInOrder : World (LinkedEntry T) → Walk T → List T → Type 0
  ShowsInOrder w walk vs = (es : List (Entry (LinkedEntry T))) × StandsBefore w walk es × (vs ≡ shown_of es)
