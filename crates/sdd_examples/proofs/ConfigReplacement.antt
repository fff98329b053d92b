-- What the replacement of a configuration leaves of the new value
use Rattle.std.proofs.Common.{◌≡◌, ◌≢◌, ℕ, ◌-◌, sym, ap, ◌∙◌, subst, Some, None}
use Rattle.sdd_core.specs.declared.tag.Tag.{Tag}
use Rattle.std.specs.Prelude.{is_some}
use Rattle.std.proofs.lemmas.List.{get_or-set_same, get_or-set_other}
use Rattle.sdd_core.specs.declared.tag.Tag.TheVariants.{None as no_tag}
use Rattle.sdd_participants.specs.Slab.{IsEmptyAt, entry_at}
use Rattle.sdd_participants.specs.declared.standing.Standing.TheVariants.{Shared, Retired}
use Rattle.sdd_world_slots.proofs.SlotsKept.{inside-some}
use Rattle.sdd_world_model.specs.World.{World, standing_at, value_at}
use Rattle.sdd_world_model.specs.WorldChanges.{held_in, made_shared, owner_given, with_cell}
use Rattle.sdd_world_model.proofs.Standings.{owner-given}
use Rattle.sdd_examples.specs.Config.{IsSetTo, replaced}

module _ {T : Type 0} (w : World T) (p cell slot owners next : ℕ) (old value : T) (set : IsSetTo w cell slot owners old)
    (empty : IsEmptyAt w.standings next) where
  -- the cell holds the new owner, and the old one is not yet given up
  abbrev filled : World T
  filled = with_cell (made_shared w next value) cell (record { held = Some next; tag = no_tag })

  apart : next ≢ slot
  apart = λ e. let never : None ≡ Some (Shared owners) = sym empty.1 ∙ ap (λ (n : ℕ). standing_at w n) e ∙ set.owned in absurd (cc)

  was : standing_at filled slot ≡ Some (Shared owners)
  was = get_or-set_other w.standings next slot (Some (Shared 1)) None (λ e. apart (sym e)) ∙ set.owned

  -- the cell holds the one owner of the new item
  abbrev Holds : World T → Type 0
  Holds u = (entry_at u.cells cell ≡ Some (record { held = Some next; tag = no_tag })) × (standing_at u next ≡ Some (Shared 1))

  holds : Holds (replaced w p cell slot owners next value)
  holds =
      let held = get_or-set_same w.cells cell (Some (record { held = Some next; tag = no_tag })) None (inside-some w.cells cell (ap is_some set.held)) in
      let one = get_or-set_same w.standings next (Some (Shared 1)) None empty.0 in
      owner-given Holds filled p slot (Some (Shared owners)) was (held, one)
      (λ _. (held, get_or-set_other filled.standings slot next (Some Retired) None apart ∙ one))
      (λ n _ _. (held, get_or-set_other filled.standings slot next (Some (Shared (n - 1))) None apart ∙ one))

  -- a swap and a release after it are the replacement
  pub replaces : (u v x : World T) (held : ℕ) (tag : Tag) → u ≡ made_shared w next value →
      entry_at u.cells cell ≡ Some (record { held = Some held; tag = tag }) → v ≡ with_cell u cell (record { held = Some next; tag = no_tag }) →
      x ≡ owner_given v p held (standing_at v held) → value_at x next ≡ Some value →
      IsSetTo x cell next 1 value × (x ≡ replaced w p cell slot owners next value)
  replaces u v x held tag make there swap gone shown =
      let now : v ≡ filled = swap ∙ ap (λ (a : World T). with_cell a cell (record { held = Some next; tag = no_tag })) make in
      let one : Some held ≡ Some slot = ap held_in (sym there ∙ ap (λ (a : World T). entry_at a.cells cell) make ∙ set.held) in
      let same : held ≡ slot = cc in
      let is : x ≡ replaced w p cell slot owners next value =
      gone ∙ ap (λ (a : World T). owner_given a p held (standing_at a held)) now
      ∙ ap (λ (k : ℕ). owner_given filled p k (standing_at filled k)) same
      ∙ ap (owner_given filled p slot) was in
      let h = subst (λ (a : World T). Holds a) (sym is) holds in
      (record { held = h.0; owned = h.1; shown = shown }, is)
