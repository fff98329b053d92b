-- What an item that is made in a cell is for the participant that makes it
use Rattle.std.proofs.Common.{◌≡◌, ◌⊎◌, inl, inr, ⊎_elim, ℕ, ◌<◌, IsTrue, List, None, Some, set, refl, sym, ap, ◌∙◌, subst, arith, get_or-set_same}
use Rattle.std.specs.Prelude.{Result, Ok, Err, IfErr, IfOk, MatchResult, Option}
use Rattle.std.proofs.lemmas.List.{set-set}
use denote.RattleType.{RattleType}
use Rattle.sdd_core.specs.declared.refused.Refused.{Refused}
use Rattle.sdd_core.specs.declared.refused.Refused.TheVariants.{NoCell, NoSlot, Contended}
use Rattle.sdd_core.specs.declared.tag.Tag.TheVariants as tag
use Rattle.sdd_participants.specs.Slab.{IsEmptyAt, IsFull, entry_at}
use Rattle.sdd_participants.specs.declared.standing.CellContents.{CellContents}
use Rattle.sdd_rights.specs.declared.right.Right.{Right}
use Rattle.sdd_rights.specs.declared.right.StandingKind.{StandingKind}
use Rattle.sdd_rights.specs.StandingKind.{is_shared}
use Rattle.sdd_rights.specs.Right.{number_of}
use Rattle.sdd_shared_values.specs.SharedValues.{showing}
use Rattle.sdd_world_model.specs.Slots.{first_standing}
use Rattle.sdd_rights.specs.declared.views.Sizes.{Sizes}
use Rattle.sdd_world_model.specs.OwnerOrCell.{OwnerOrCell, SpaceId, AreOf}
use Rattle.sdd_world_model.specs.KnownEpochs.{KnowsOn}
use Rattle.sdd_space.specs.Refusals.{IsRefusedBy}
use Rattle.sdd_world_model.specs.World.{World, value_at}
use Rattle.sdd_world_model.specs.WorldChanges.{made_as, with_cell}
use Rattle.sdd_domain_steps.specs.Cells.{AllCellsTaken, MakesInCell, MakesNone, WritesAt}
use Rattle.sdd_domain_core.specs.Laws.{shows_is_value}
use Rattle.sdd_domain_steps.specs.Local.{LocalModel, contents_by, world_of}
use Rattle.sdd_domain_steps.specs.LocalState.{IsLone, IsUsedUp, LocalState, cell_word_of}
use Rattle.sdd_domain_core.specs.Space.{Shows, is_lone, known_of, caller_in, caller_of}
use Rattle.sdd_domain_steps.specs.SpaceIds.{home_in}
use Rattle.sdd_domain_steps.specs.WordsAndValues.{Entries, WordsMatchValues}
use Rattle.sdd_domain_core.proofs.CellWorld.{cells_used_up, found_empty, matched_written, world_by, world_written}
use Rattle.sdd_domain.proofs.FreeSlots.{as_many, not_full}
use Rattle.sdd_domain_core.proofs.MadeItem.{makes_tied, makes_world, used_up}
use Rattle.sdd_domain_core.proofs.Refusals.{IsBack, back_keeps, back_sound, back_tied, back_world}
use Rattle.sdd_domain.proofs.Steps.{IsStep, lone_begun, makes_step, step_then, writes_step}

-- what a cell holds then
abbrev pub fresh_in : ℕ → CellContents
fresh_in slot = record { held = Some slot; tag = tag.None }

-- ---- it was made
module _ {J : Type 0} (R : RattleType) (holds : R.Denot → List OwnerOrCell) (v : LocalModel R.Denot J) (m : LocalState J) (es : Entries R.Denot)
    (kind : StandingKind) (x : R.Denot) (cell slot : ℕ) (did : MakesInCell cell slot (is_shared kind) (showing R x) v.member m)
    (entered : es ≡ set v.entries slot (Some (x, showing R x))) where
  abbrev reserving : LocalModel R.Denot J
  reserving = record { member = did.reserved; entries = v.entries }

  abbrev making : LocalModel R.Denot J
  making = record { member = did.made; entries = es }

  abbrev after : LocalModel R.Denot J
  after = record { member = m; entries = es }

  fills : WritesAt cell (cell_word_of did.made cell) did.word did.made m
  fills = record {
    member = did.filled;
    inside = subst (λ (z : Sizes). cell < z.cells)
        (sym (ap (λ (y : LocalState J). y.sizes) did.makes.member ∙ ap (λ (y : LocalState J). y.sizes) did.reserves.member)) did.reserves.inside;
    lone = λ _. refl;
  }

  pub made_step : AreOf (home_in v.member) (holds x) → IsStep (showing R) holds v after
  made_step at = step_then (showing R) holds v making after (step_then (showing R) holds v reserving making
      (writes_step (showing R) holds v did.reserved cell 0 did.first did.reserves)
      (makes_step R holds reserving did.made es kind x slot did.makes entered
      (subst (λ (h : SpaceId). AreOf h (holds x)) (sym (ap home_in did.reserves.member)) at)))
      (writes_step (showing R) holds making m cell (cell_word_of did.made cell) did.word fills)

  module _ (tied : WordsMatchValues v.member v.entries) (lone : IsLone v.member) where
    lone_reserving : IsLone did.reserved
    lone_reserving = ap (λ (y : LocalState J). y.limits.participants) did.reserves.member ∙ lone

    lone_making : IsLone did.made
    lone_making = ap (λ (y : LocalState J). y.limits.participants) did.makes.member ∙ lone_reserving

    tied_reserving : WordsMatchValues did.reserved v.entries
    tied_reserving = matched_written v cell 0 did.first did.reserved did.reserves tied

    tied_making : WordsMatchValues did.made es
    tied_making = makes_tied R reserving did.made es kind x slot did.makes entered tied_reserving

    world_reserving : world_of reserving ≡ record (world_of v) { cells = set (world_of v).cells cell (contents_by did.first) }
    world_reserving = world_by v cell 0 did.first did.reserved did.reserves (tied lone) (contents_by did.first) refl

    item : IsEmptyAt (world_of reserving).standings slot × (world_of making ≡ made_as (world_of reserving) slot x (first_standing kind))
    item = makes_world R reserving did.made es kind x slot did.makes entered tied_reserving lone_reserving

    pub no_item_before : IsEmptyAt (world_of v).standings slot
    no_item_before = subst (λ (w : World R.Denot). IsEmptyAt w.standings slot) world_reserving item.0

    pub no_cell_before : IsEmptyAt (world_of v).cells cell
    no_cell_before = found_empty v cell 0 did.first did.reserved did.reserves (tied lone) lone refl

    pub made_world : world_of after ≡ with_cell (made_as (world_of v) slot x (first_standing kind)) cell (fresh_in slot)
    made_world = world_written making cell (cell_word_of did.made cell) did.word m fills (tied_making lone_making) did.full
        ∙ ((λ d. with_cell (item.1 d) cell (did.holds d))
        ∙ (ap (λ (w : World R.Denot). with_cell (made_as w slot x (first_standing kind)) cell (fresh_in slot)) world_reserving
        ∙ ap (λ (cells : List (Option CellContents)). record (made_as (world_of v) slot x (first_standing kind)) { cells = cells })
        (set-set (world_of v).cells cell (contents_by did.first) (Some (fresh_in slot)))))

    value_there : value_at (world_of after) slot ≡ Some x
    value_there = ap (λ (w : World R.Denot). value_at w slot) made_world ∙ get_or-set_same (world_of v).values slot (Some x) None
        (let e = as_many v in let l = no_item_before.0 in omega arith)

    pub made_there : entry_at (world_of after).cells cell ≡ Some (fresh_in slot)
    made_there = ap (λ (w : World R.Denot). entry_at w.cells cell) made_world
        ∙ get_or-set_same (world_of v).cells cell (Some (fresh_in slot)) None no_cell_before.0

    pub made_shows : IsTrue (is_lone m) → Shows (showing R) holds after slot x
    made_shows exact = (shows_is_value (showing R) holds after (is_lone m) exact slot x).1 value_there

-- ---- none was
module _ {J : Type 0} (R : RattleType) (holds : R.Denot → List OwnerOrCell) (v : LocalModel R.Denot J) (m : LocalState J) (es : Entries R.Denot)
    (why : Refused) (none : MakesNone why v.member m) (entered : es ≡ v.entries) where
  abbrev still : LocalModel R.Denot J
  still = record { member = m; entries = es }

  is_back : IsBack v m es
  is_back = record {
    only = none.same;
    same = λ lone. none.same ∙ (λ d. record v.member { words = none.words lone d });
    entries = entered;
  }

  pub none_step : IsStep (showing R) holds v still
  none_step = record {
    tied = back_tied v m es is_back;
    sound = λ _ s. back_sound v m es is_back holds s;
    quiet = λ _. record {
      caller = ap caller_in none.same;
      own = ap (λ (y : LocalState J). y.own) none.same;
      known = subst (λ (y : LocalState J). KnowsOn (known_of v) (known_of {T = R.Denot} (record { member = y; entries = es }))) (sym none.same)
          record { told = omega arith; since = refl };
      shown = back_keeps v m es is_back (showing R) holds;
    };
  }

  pub none_world : IsLone v.member → world_of still ≡ world_of v
  none_world lone = back_world v m es is_back lone

  pub none_cause : IsLone v.member → (IsFull (world_of v).standings × (why ≡ NoSlot))
      ⊎ (¬ (IsFull (world_of v).standings) × IsFull (world_of v).cells × (why ≡ NoCell))
  none_cause lone = ⊎_elim (λ (a : (why ≡ NoSlot) × IsUsedUp v.member). inl (used_up v a.1, a.0))
      (λ (b : (why ≡ NoCell) × ¬ (IsUsedUp v.member) × AllCellsTaken v.member).
      inr ((λ full. b.1 (λ slot low free. not_full v slot low free full)), cells_used_up v b.2, b.0)) (none.lone lone)

-- ---- for an answer
module _ {J : Type 0} (R : RattleType) (holds : R.Denot → List OwnerOrCell) (v : LocalModel R.Denot J) (m : LocalState J) (es : Entries R.Denot)
    (kind : StandingKind) (x : R.Denot) where
  abbrev now : LocalModel R.Denot J
  now = record { member = m; entries = es }

  abbrev pub Made : Result Right (R.Denot × Refused) → Type 0
  Made r = MatchResult r (λ cell. (slot : ℕ) × MakesInCell (number_of cell) slot (is_shared kind) (showing R x) v.member m
      × (es ≡ set v.entries slot (Some (x, showing R x)))) (λ e. MakesNone e.1 v.member m × (es ≡ v.entries))

  pub answered_step : (r : Result Right (R.Denot × Refused)) → Made r → AreOf (home_in v.member) (holds x) → IsStep (showing R) holds v now
  answered_step (Ok cell) a at = made_step R holds v m es kind x (number_of cell) a.0 a.1 a.2 at
  answered_step (Err e) a at = none_step R holds v m es e.1 a.0 a.1

  module _ (tied : WordsMatchValues v.member v.entries) (p : LocalModel R.Denot J) (same : v ≡ p) (exact : IsTrue (is_lone p.member)) where
    lone_here : IsLone v.member
    lone_here = lone_begun v p same exact

    pub answered_shown : (r : Result Right (R.Denot × Refused)) → Made r → IsTrue (is_lone m) → IfOk r (λ cell. (slot : ℕ)
        × Shows (showing R) holds now slot x × (entry_at (world_of now).cells (number_of cell) ≡ Some (record { held = Some slot; tag = tag.None })))
    answered_shown (Ok cell) a alone = (
      a.0,
      made_shows R holds v m es kind x (number_of cell) a.0 a.1 a.2 tied lone_here alone,
      made_there R holds v m es kind x (number_of cell) a.0 a.1 a.2 tied lone_here,
    )
    answered_shown (Err e) a alone = tt

    abbrev Exactly : LocalModel R.Denot J → Result Right (R.Denot × Refused) → Type 0
    Exactly q r = MatchResult r (λ cell. (slot : ℕ) × IsEmptyAt (world_of q).standings slot × IsEmptyAt (world_of q).cells (number_of cell)
        × (world_of now ≡ with_cell (made_as (world_of q) slot x (first_standing kind)) (number_of cell) (record { held = Some slot; tag = tag.None })))
        (λ e. (IsFull (world_of q).standings × (e ≡ (x, NoSlot)) ⊎ ¬ (IsFull (world_of q).standings) × IsFull (world_of q).cells × (e ≡ (x, NoCell)))
        × (world_of now ≡ world_of q))

    exactly_there : (r : Result Right (R.Denot × Refused)) → Made r → IfErr r (λ e. e.0 ≡ x) → Exactly v r
    exactly_there (Ok cell) a back = (
      a.0,
      no_item_before R holds v m es kind x (number_of cell) a.0 a.1 a.2 tied lone_here,
      no_cell_before R holds v m es kind x (number_of cell) a.0 a.1 a.2 tied lone_here,
      made_world R holds v m es kind x (number_of cell) a.0 a.1 a.2 tied lone_here,
    )
    exactly_there (Err e) a back = (
      ⊎_elim (λ (n : IsFull (world_of v).standings × (e.1 ≡ NoSlot)). inl (n.0, (λ d. (back d, n.1 d))))
          (λ (n : ¬ (IsFull (world_of v).standings) × IsFull (world_of v).cells × (e.1 ≡ NoCell)). inr (n.0, n.1, (λ d. (back d, n.2 d))))
          (none_cause R holds v m es e.1 a.0 a.1 lone_here),
      none_world R holds v m es e.1 a.0 a.1 lone_here,
    )

    pub answered_exact : (r : Result Right (R.Denot × Refused)) → Made r → IfErr r (λ e. e.0 ≡ x) → Exactly p r
    answered_exact r a back = subst (λ (q : LocalModel R.Denot J). Exactly q r) same (exactly_there r a back)
