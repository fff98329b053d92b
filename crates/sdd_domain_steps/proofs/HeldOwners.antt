-- The right of an owner that goes into a cell, or comes out of one
use Rattle.std.proofs.Common.{◌≡◌, inl, inr, ⊎_elim, arith, ◌<◌, ℕ, Bool, List, [], ◌∷◌, None, Some, Option, sym, refl, ap, ◌∙◌, subst}
use Rattle.std.specs.Prelude.{option_map, slice_get, slice_index}
use base.Stored.{Gv}
use Rattle.sdd_atomics.specs.TableFacts.{TableFacts}
use Rattle.sdd_core.specs.declared.tag.Tag.{Tag}
use Rattle.sdd_core.specs.declared.refused.Refused.{Refused}
use Rattle.sdd_core.specs.declared.refused.Refused.TheVariants.{NoCell, Contended}
use Rattle.sdd_rights.specs.declared.right.StandingKind.{StandingKind}
use Rattle.sdd_rights.specs.declared.right.Right.{Right}
use Rattle.sdd_rights.specs.RightModel.{same_right}
use Rattle.sdd_rights.specs.Right.{AreCellsOfTable, IsCellBy, home_of, kind_of, number_of, views_of}
use Rattle.sdd_rights.specs.StandingKind.{is_shared}
use Rattle.sdd_rights.specs.Units.{GhostName}
use Rattle.sdd_rights.specs.Owner.{cell_kind, witness_of_cell, witness_of_owner}
use Rattle.sdd_witness.specs.declared.witness.Witness.{Witness}
use Rattle.atomic_table.specs.Seated.{TableId}
use Rattle.sdd_world_model.specs.Cells.{cell_with, slot_held}
use Rattle.sdd_rights.specs.declared.views.ShownValue.{ShownValue}
use Rattle.sdd_domain_invariant.specs.Codes.{held_slots}
use Rattle.sdd_domain_invariant.proofs.Codes.{held_which}
use Rattle.sdd_domain_steps.specs.declared.cells.values.LooseOwner.{LooseOwner}
use Rattle.sdd_domain_steps.specs.CellWords.{listed}
use Rattle.sdd_domain_steps.specs.SpaceIds.{cells_home}
use Rattle.sdd_rights.specs.declared.views.View.{View}
use Rattle.sdd_domain_invariant.specs.Epoch.{IsLone as IsLoneAt}
use Rattle.sdd_domain_steps.specs.LocalState.{LocalState}
use Rattle.sdd_domain_steps.specs.Cells.{AreLoose, ClaimsNone, IsBoundTo, MissedAll, slots_in, told_of}
use Rattle.sdd_domain_steps.specs.Local.{contents_of, tag_by}

abbrev first_or : {A : Type 0} → A → List A → A
first_or d [] = d
first_or d (x ∷ xs) = x

-- what a list of one, or none, has first
pub listed_first : (o : Option ℕ) (xs : List ℕ) → listed o ≡ xs → slice_get xs 0 ≡ o
listed_first o xs is = ap (λ (ys : List ℕ). slice_get ys 0) (sym is) ∙ of o
  where
    of : (o : Option ℕ) → slice_get (listed o) 0 ≡ o
    of None = refl
    of (Some k) = refl

-- a word names what the first that it names is listed as
pub listed_held : (x : ℕ) → listed (slice_get (held_slots x) 0) ≡ held_slots x
listed_held x = ⊎_elim
    (λ (one : (slot : ℕ) × (held_slots x ≡ slot ∷ [])). ap (λ (ys : List ℕ). listed (slice_get ys 0)) one.1 ∙ sym one.1)
    (λ (none : held_slots x ≡ []). ap (λ (ys : List ℕ). listed (slice_get ys 0)) none ∙ sym none) (held_which x)

abbrev slot_of : Option LooseOwner → Option ℕ
slot_of = option_map (λ (o : LooseOwner). o.slot)

slots_are : (new : Option LooseOwner) → slots_in new ≡ listed (slot_of new)
slots_are None = refl
slots_are (Some o) = refl

-- the slot of an owner's right is the owner's
pub slot_bound : (b : TableFacts) (kind : StandingKind) (held : Option Right) (new : Option LooseOwner) → IsBoundTo b kind held new
    → slot_held held ≡ slot_of new
slot_bound b kind held new is = sym (listed_first (slot_held held) (listed (slot_held held)) refl)
    ∙ (ap (λ (ys : List ℕ). slice_get ys 0) (is.slots ∙ slots_are new) ∙ listed_first (slot_of new) (listed (slot_of new)) refl)

-- so the word that is made for the owner is that of a cell with its right
pub word_bound : (b : TableFacts) (kind : StandingKind) (held : Option Right) (new : Option LooseOwner) (tag : Tag) (word : ℕ) → IsBoundTo b kind held new
    → contents_of word ≡ record { held = slot_of new; tag = tag } → contents_of word ≡ cell_with held tag
word_bound b kind held new tag word is made = made ∙ (λ d. record { held = sym (slot_bound b kind held new is) d; tag = tag })

-- and a cell that has this word holds what came out of it
pub found_bound : (b : TableFacts) (kind : StandingKind) (out : Option Right) (loose : Option LooseOwner) (found : ℕ) (tag : Tag) → IsBoundTo b kind out loose
    → slots_in loose ≡ held_slots found → tag ≡ tag_by (Rattle.std.specs.Prelude.◌%◌ found 4) → contents_of found ≡ cell_with out tag
found_bound b kind out loose found tag is slots tagged =
    λ d. record { held = listed_first (slot_held out) (held_slots found) (is.slots ∙ slots) d; tag = sym tagged d }

-- the right to a cell of this table has a seat, which tells of the cell
pub cell_views : (table : TableId) (right : Right) (kind : StandingKind) (w : Witness) (cell : ℕ) → home_of right ≡ cells_home table → kind_of right ≡ kind
    → (AreCellsOfTable (home_of right) → IsCellBy (home_of right) (number_of right) (cell_kind (is_shared (kind_of right))) w) → cell ≡ number_of right
    → w.views ≡ witness_of_cell cell (cell_kind (is_shared kind))
cell_views table right kind w cell home of_kind by is = (by (
  (λ none. let no : table ∷ [] ≡ [] = sym (ap (λ (h : GhostName). h.tables) home) ∙ none in cc),
  ap (λ (h : GhostName). h.cells) home,
)).right ∙ (λ d. witness_of_cell (sym is d) (cell_kind (is_shared (of_kind d))))

-- a right that was made anew of an owner of the same item, which shows the same, is the same
pub same_bound : (b : TableFacts) (kind : StandingKind) (shared : Bool) (held back : Option Right) (new loose : Option LooseOwner)
    → IsBoundTo b kind held new → IsBoundTo b kind back loose → AreLoose b shared new → AreLoose b shared loose
    → slots_in loose ≡ slots_in new → told_of shared loose ≡ told_of shared new → back ≡ held
same_bound b kind shared None None new loose a c l m slots told = refl
same_bound b kind shared None (Some q) new loose a c l m slots told =
    let no : ◌≡◌ {A = List ℕ} (number_of q ∷ []) [] = c.slots ∙ (slots ∙ sym a.slots) in absurd cc
same_bound b kind shared (Some r) None new loose a c l m slots told =
    let no : ◌≡◌ {A = List ℕ} (number_of r ∷ []) [] = a.slots ∙ (sym slots ∙ sym c.slots) in absurd cc
same_bound b kind shared (Some r) (Some q) None loose a c l m slots told = let no : ◌≡◌ {A = List ℕ} (number_of r ∷ []) [] = a.slots in absurd cc
same_bound b kind shared (Some r) (Some q) (Some o) None a c l m slots told = let no : ◌≡◌ {A = List ℕ} (number_of q ∷ []) [] = c.slots in absurd cc
same_bound b kind shared (Some r) (Some q) (Some o) (Some p) a c l m slots told =
    let first : List ℕ → ℕ = first_or 0 in
    let number : number_of q ≡ number_of r = ap first (c.slots ∙ (slots ∙ sym a.slots)) in
    let shows : p.read_fraction.shown ≡ o.read_fraction.shown
    = ap (λ (rs : List ShownValue). (first_or (record { slot = 0; shared = shared; value = o.read_fraction.shown }) rs).value) told in
    let views_in : Option (List Gv) → List Gv = λ x. elim x [ None ↦ [] | Some y ↦ y ] in
    let mine : views_of r ≡ o.owner.views = ap views_in a.views in let others : views_of q ≡ p.owner.views = ap views_in c.views in
    ap Some (same_right q r number (c.home.0 ∙ sym a.home.0) (c.home.1 ∙ sym a.home.1)
    (others ∙ (m.views ∙ ((λ d. witness_of_owner (ap first slots d) shared (shows d)) ∙ (sym l.views ∙ sym mine)))))

-- why no cell was claimed, as callers see it
pub none_claimed : (J : Type 0) (m : LocalState J) (v : View) (cells : ℕ) (why : Refused) → MissedAll cells why v → v.epoch.all ≡ m.limits.participants
    → cells ≡ m.limits.cells → v.words ≡ m.words → ClaimsNone why m
none_claimed J m v cells why missed all sized words = ⊎_elim
    (λ (a : (why ≡ NoCell) × (IsLoneAt v.epoch → (cell : ℕ) → cell < cells → 0 < slice_index v.words cell)).
    inl (a.0, λ lone cell low. subst (λ (ws : List ℕ). 0 < slice_index ws cell) words (a.1 (all ∙ lone) cell (omega (arith, low, sized)))))
    (λ (b : (why ≡ Contended) × ¬ (IsLoneAt v.epoch)). inr (b.0, λ lone. b.1 (all ∙ lone))) missed
