-- What is appended to a stack, and what that leaves alone
use Rattle.std.proofs.Common.{◌≡◌, ◌≢◌, inl, inr, ℕ, List, [], ◌∷◌, ◌++◌, Option, Some, None, refl, sym, ap, ◌∙◌, append_assoc, subst, slice_index_or, slice_set}
use Rattle.std.specs.Prelude.{map}
use Rattle.std.proofs.lemmas.List.{append-nil, get_or-set_other, map-append}
use Rattle.sdd_core.specs.declared.tag.Tag.TheVariants as tag
use Rattle.sdd_participants.specs.Slab.{Entries, IsEmptyAt, entry_at}
use Rattle.sdd_participants.specs.declared.standing.CellContents.{CellContents}
use Rattle.sdd_participants.specs.declared.standing.Standing.TheVariants.{Shared as shared_by}
use Rattle.sdd_world_model.specs.World.{World, standing_at, value_at}
use Rattle.sdd_world_model.specs.WorldChanges.{made_as, nulled}
use Rattle.sdd_lists.specs.declared.linked_entry.LinkedEntry.{LinkedEntry}
use Rattle.sdd_lists.specs.declared.walk.Walk.{Walk}
use Rattle.sdd_lists.specs.Cloning.{AreBeside, IsBeside}
use Rattle.sdd_lists.specs.Ends.{EndsWith, IsLastOf, appended, end_of, through_last}
use Rattle.sdd_lists.specs.Entries.{link_of, value_of}
use Rattle.sdd_lists.specs.Histories.{values_of}
use Rattle.sdd_lists.specs.Lists.{Apart, Entry, first_slot}
use Rattle.sdd_lists.specs.Stack.{IsStack}
use Rattle.sdd_lists.specs.StackCloning.{AppendsTo, ExtendsStack, IsStackBeside, both, starts, appends}
use Rattle.sdd_lists.specs.Walk.{StandsBefore, shown_of}
use Rattle.sdd_lists.proofs.Beside.{beside-still, links-still, list-still, standing-still}
use Rattle.sdd_lists.proofs.Cloning.{beside-new, links-new}
use Rattle.sdd_lists.proofs.Ends.{appended-other, apart-last, apart-through, put-values}
use Rattle.sdd_lists.proofs.FreshLinks.{fresh-list}
use Rattle.sdd_lists.proofs.Lists.{bare}
use Rattle.sdd_lists.proofs.Order.{values-push}

module _ {T : Type 0} where
  ends-last : (xs : List (Entry T)) (e : Entry T) → EndsWith (xs ++ e ∷ []) e []
  ends-last [] e = inl refl
  ends-last (x ∷ xs) e = inr (ends-last xs e)

  -- what was put at the end is the last entry that isn't deleted
  pub is-last : (xs : List (Entry T)) (k : ℕ) (v : T) → let e : Entry T = record { slot = k; value = v; tag = tag.None } in IsLastOf (xs ++ e ∷ []) e []
  is-last xs k v = record { ends = ends-last xs (record { slot = k; value = v; tag = tag.None }); stays = refl; spent = refl }

module _ {T : Type 0} (w new : World (LinkedEntry T)) (p c : ℕ) (fs gs : List (Entry (LinkedEntry T))) (x : T) (adds : AppendsTo w p c fs x new gs)
    (unused : (k : ℕ) → standing_at w k ≡ None → value_at w k ≡ None) where
  abbrev entry : LinkedEntry T
  entry = adds.entry

  abbrev item : World (LinkedEntry T)
  item = made_as (nulled w (link_of entry)) adds.slot entry (shared_by 2)

  abbrev between : World (LinkedEntry T)
  between = appended link_of item p c tag.None fs (link_of entry) adds.slot

  other : (d : ℕ) → IsBeside d (both c) fs → d ≢ link_of entry → entry_at new.cells d ≡ entry_at w.cells d
  other d beside far =
      ap (λ (y : World (LinkedEntry T)). entry_at y.cells d) adds.last.world
      ∙ ap (λ (cs : Entries CellContents). entry_at cs d) (bare between p adds.slot (standing_at between adds.slot)).cells
      ∙ appended-other link_of item p c tag.None fs (link_of entry) adds.slot d beside.oldest beside.apart far
      ∙ get_or-set_other w.cells (link_of entry) d (let cell : CellContents = record { held = None; tag = tag.None } in Some cell) None far

  values-are : new.values ≡ slice_set w.values adds.slot (Some entry)
  values-are =
      ap (λ (y : World (LinkedEntry T)). y.values) adds.last.world ∙ (bare between p adds.slot (standing_at between adds.slot)).values
      ∙ put-values link_of item p (end_of link_of c tag.None fs) (link_of entry) adds.slot

  kept : (j : ℕ) (v : LinkedEntry T) → value_at w j ≡ Some v → value_at new j ≡ Some v
  kept j v there =
      let far : j ≢ adds.slot = λ same.
      let never : Some v ≡ None = sym there ∙ ap (λ (k : ℕ). value_at w k) same ∙ unused adds.slot adds.last.free.1 in absurd (cc) in
      ap (λ (vs : List (Option (LinkedEntry T))). slice_index_or vs j None) values-are
      ∙ get_or-set_other w.values adds.slot j (Some entry) None far ∙ there

  grown : (d : ℕ) → IsBeside d (both c) fs → d ≢ link_of entry → IsBeside d (both c) gs
  grown d beside far =
      let last : Entry (LinkedEntry T) = record { slot = adds.slot; value = entry; tag = tag.None } in
      record {
        oldest = beside.oldest;
        newest = beside.newest;
        apart = subst (λ (ys : List (Entry (LinkedEntry T))). Apart link_of d ys) (sym adds.entries)
            (apart-last link_of d (through_last fs) last (apart-through link_of d fs beside.apart) (λ same. far (sym same)));
      }

  pub stack-still : (from : ℕ) (es : List (Entry (LinkedEntry T))) → IsStackBeside w from es c fs → IsStackBeside new from es c gs
  stack-still from es was =
      let l : ℕ = link_of entry in
      let none = adds.free.1 in
      let first : CellContents = record { held = first_slot es; tag = tag.None } in
      record {
        list = list-still w new l (both c) fs gs other kept none grown from tag.None es was.list was.begins was.links;
        begins = beside-still w new l (both c) fs gs other kept none grown from first was.list.begins was.begins;
        links = links-still w new l (both c) fs gs other kept none grown es was.list.linked was.links;
      }

  pub walk-still : (walk : Walk T) (es : List (Entry (LinkedEntry T))) → StandsBefore w walk es → AreBeside es (both c) fs →
      StandsBefore new walk es × AreBeside es (both c) gs
  walk-still walk es stood beside = standing-still w new (link_of entry) (both c) fs gs other kept adds.free.1 grown walk es stood beside

  -- the value comes last
  pub shown-appended : shown_of gs ≡ shown_of fs ++ x ∷ []
  shown-appended =
      ap (λ (ys : List (Entry (LinkedEntry T))). shown_of ys) adds.entries
      ∙ ap (λ (vs : List (LinkedEntry T)). map value_of vs) (values-push adds.slot entry fs)
      ∙ map-append value_of (values_of fs) (entry ∷ []) ∙ ap (λ (v : T). shown_of fs ++ v ∷ []) adds.value

  pub stack-appended : IsStack new c gs
  stack-appended = subst (λ (ys : List (Entry (LinkedEntry T))). IsStack new c ys) (sym adds.entries) adds.last.list

module _ {T : Type 0} where
  pub none-appended : (p c : ℕ) (w : World (LinkedEntry T)) (es : List (Entry (LinkedEntry T))) → IsStack w c es → ExtendsStack p c w es [] w es
  none-appended p c w es list = record { all = starts; list = list; values = sym (append-nil (shown_of es)) }

  pub one-appended : (p c : ℕ) (w v new : World (LinkedEntry T)) (es fs gs : List (Entry (LinkedEntry T))) (xs : List T) (x : T) →
      ExtendsStack p c w es xs v fs → AppendsTo v p c fs x new gs → ((k : ℕ) → standing_at v k ≡ None → value_at v k ≡ None) →
      ExtendsStack p c w es (xs ++ x ∷ []) new gs
  one-appended p c w v new es fs gs xs x fills add unused = record {
    all = appends xs v new fs gs x fills.all add;
    list = stack-appended v new p c fs gs x add unused;
    values =
        shown-appended v new p c fs gs x add unused ∙ ap (λ (ys : List T). ys ++ x ∷ []) fills.values
        ∙ append_assoc (shown_of es) xs (x ∷ []);
  }

  -- a stack whose cell was free is beside each that is there
  pub stack-beside : (w : World (LinkedEntry T)) (c : ℕ) → IsEmptyAt w.cells c → (from : ℕ) (es : List (Entry (LinkedEntry T))) → IsStack w from es →
      IsStackBeside (nulled w c) from es c []
  stack-beside w c free from es list =
      let first : CellContents = record { held = first_slot es; tag = tag.None } in
      record {
        list = fresh-list link_of w c free from tag.None es list;
        begins = beside-new w (both c) free free from first list.begins;
        links = links-new w (both c) free free es list.linked;
      }
