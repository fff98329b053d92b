-- What moving an owner out of a link into the cell before it makes of a world
use Rattle.std.proofs.Common.{◌≡◌, ◌≢◌, ℕ, Option, Some, None, sym, ap, ◌∙◌}
use Rattle.std.proofs.lemmas.List.{get_or-set_other}
use Rattle.sdd_core.specs.declared.tag.Tag.{Tag}
use Rattle.sdd_core.specs.declared.tag.Tag.TheVariants as tag
use Rattle.std.specs.Prelude.{MatchOption, option_map}
use Rattle.sdd_space.specs.Shared.{Shared}
use Rattle.sdd_world_model.specs.World.{World, standing_at}
use Rattle.sdd_participants.specs.Slab.{entry_at}
use Rattle.sdd_participants.specs.declared.standing.CellContents.{CellContents}
use Rattle.sdd_participants.specs.declared.standing.Standing.{Standing}
use Rattle.sdd_world_model.specs.Slots.{IsSharedBy}
use Rattle.sdd_world_model.specs.WorldChanges.{held_in}
use Rattle.sdd_space.specs.Shared.{slot_of}
use Rattle.sdd_participants.specs.declared.standing.Standing.TheVariants.{Shared as shared_by}
use Rattle.sdd_world_model.specs.WorldChanges.{owner_given, with_cell}
use Rattle.sdd_lists.specs.Lists.{let_go_first}

abbrev cell_of : Option ℕ → Tag → CellContents
cell_of held t = record { held = held; tag = t }

abbrev tag_in : Option CellContents → Tag
tag_in None = tag.None
tag_in (Some cell) = cell.tag

module _ {T : Type 0} (w u v : World T) (c l : ℕ) (cell : CellContents) (next first : Option ℕ) (t1 t2 : Tag) (apart : c ≢ l)
    (has1 : entry_at w.cells c ≡ Some cell) (has2 : entry_at w.cells l ≡ Some (cell_of next t1)) (to2 : u ≡ with_cell w l (cell_of None tag.Second))
    (has3 : entry_at u.cells c ≡ Some (cell_of first t2)) (to3 : v ≡ with_cell u c (cell_of next cell.tag))
    (k : ℕ) (t was : Tag) (n : Option ℕ) (holds : entry_at w.cells c ≡ Some (cell_of (Some k) t))
    (links : entry_at w.cells l ≡ Some (cell_of n was)) where
  -- what comes out of the cell is what it held before
  pub first-is : first ≡ Some k
  first-is =
      ap held_in (sym has3 ∙ ap (λ (a : World T). entry_at a.cells c) to2
      ∙ get_or-set_other w.cells l c (Some (cell_of None tag.Second)) None apart ∙ holds)

  moved : v ≡ with_cell (with_cell w l (cell_of None tag.Second)) c (cell_of n t)
  moved =
      let tags : cell.tag ≡ t = ap tag_in (sym has1 ∙ holds) in
      let nexts : next ≡ n = ap held_in (sym has2 ∙ links) in
      to3 ∙ ap (λ (a : World T). with_cell a c (cell_of next cell.tag)) to2
      ∙ ap (λ (y : CellContents). with_cell (with_cell w l (cell_of None tag.Second)) c y)
      (ap (λ (o : Option ℕ). cell_of o cell.tag) nexts ∙ ap (λ (y : Tag). cell_of n y) tags)

  -- and then the first one is given up
  pub let-go : (z : World T) (p : ℕ) → z ≡ owner_given v p k (standing_at v k) → z ≡ let_go_first w p c t k l n
  let-go z p gone = gone ∙ ap (λ (a : World T). owner_given a p k (standing_at a k)) moved

-- an owner is given up, if there is one
module _ {T : Type 0} (u v : World T) (p : ℕ) where
  abbrev Given : Option (Shared T) → Type 0
  Given o = MatchOption o (v ≡ u)
      (λ o. (owners : ℕ) × IsSharedBy owners (standing_at u (slot_of o)) × (v ≡ owner_given u p (slot_of o) (Some (shared_by owners))))

  pub given-none : (o : Option (Shared T)) → option_map slot_of o ≡ None → Given o → v ≡ u
  given-none None none same = same
  given-none (Some o) none same = absurd (cc)

  pub given-some : (o : Option (Shared T)) (k : ℕ) → option_map slot_of o ≡ Some k → Given o → v ≡ owner_given u p k (standing_at u k)
  given-some None k is same = absurd (cc)
  given-some (Some o) k is same =
      let name : slot_of o ≡ k = cc in
      same.2 ∙ ap (λ (s : Option Standing). owner_given u p (slot_of o) s) (sym same.1.shared) ∙ ap (λ (j : ℕ). owner_given u p j (standing_at u j)) name
