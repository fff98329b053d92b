-- What a participant's calls of raw cells answer and leave, as generic code sees it
use Rattle.std.proofs.Common.{◌≡◌, ◌≢◌, ◌⊎◌, inl, inr, ⊎_elim, ℕ, Bool, true, false, IsTrue, List, Some, None, arith, sym, refl, ap, ◌∙◌, subst}
use Rattle.std.specs.Prelude.{Result, Ok, Err, [], IfErr, IsOk, IfOk, MatchBool, MatchResult, Option, if◌then◌else◌, slice_get}
use base.Stored.{Gv}
use Rattle.sdd_core.specs.declared.refused.Refused.{Refused}
use Rattle.sdd_core.specs.declared.refused.Refused.TheVariants.{NoCell, Contended}
use Rattle.sdd_core.specs.declared.tag.Tag.{Tag}
use Rattle.sdd_participants.specs.Slab.{IsEmptyAt, IsFull}
use Rattle.sdd_participants.specs.declared.standing.RawCellContents.{RawCellContents}
use Rattle.sdd_rights.specs.declared.right.RawRight.{RawRight}
use Rattle.sdd_rights.specs.Right.{raw_number_of}
use Rattle.sdd_domain_invariant.specs.Codes.{held_slots}
use Rattle.sdd_space.specs.declared.raw_ptr.RawPtr.{RawPtr}
use Rattle.sdd_space.specs.RawPtr.{pointer_of}
use Rattle.sdd_world_model.specs.OwnerOrCell.{OwnerOrCell}
use Rattle.sdd_world_model.specs.Out.{IsNullCell}
use Rattle.sdd_space.specs.Refusals.{IsContended}
use Rattle.sdd_space.specs.Undisturbed.{Undisturbed}
use Rattle.sdd_world_model.specs.World.{pointer_at}
use Rattle.sdd_world_model.specs.WorldChanges.{pointing, with_pointer, without_cell}
use Rattle.sdd_domain_steps.specs.Cells.{ClaimsNone, FindsPointer, FreesAt, MakesRaw, PointsAt}
use Rattle.sdd_domain_steps.specs.LocalState.{LocalState, IsLone, pointer_word_of}
use Rattle.sdd_domain_steps.specs.Local.{LocalModel, contents_of, pointer_by, world_of}
use Rattle.sdd_domain_core.specs.Sound.{IsSound}
use Rattle.sdd_domain_core.specs.Space.{Shows, is_lone, known_of, caller_of}
use Rattle.sdd_domain_steps.specs.WordsAndValues.{WordsMatchValues}
use Rattle.sdd_domain_core.proofs.CellWorld.{cells_used_up, freed_exact, full_exact}
use Rattle.sdd_domain_core.proofs.GuardCalls.{lone_is}
use Rattle.sdd_domain.proofs.RawCellWorld.{finds_before, found_exact, made_empty, made_exact, made_undisturbed, matched_made, matched_pointed, pointed_exact, pointed_undisturbed, sound_made, sound_pointed}

module _ {T J : Type 0} (v : LocalModel T J) (m : LocalState J) where
  abbrev after : LocalModel T J
  after = record { member = m; entries = v.entries }

  -- nothing else of a participant is another
  abbrev pub Leaves : (T → Gv) → (T → List OwnerOrCell) → LocalModel T J → Type 0
  Leaves shown holds p = Undisturbed caller_of (λ (x : LocalModel T J). x.member.own) known_of (λ (x : LocalModel T J). Shows shown holds x) p after

  -- ---- nothing has changed
  module _ (same : m ≡ v.member) where
    same_world : world_of after ≡ world_of v
    same_world = ap (λ (y : LocalState J). world_of {T = T} (record { member = y; entries = v.entries })) same

    same_sound : (holds : T → List OwnerOrCell) → IsSound holds v → IsSound holds after
    same_sound holds = subst (λ (y : LocalState J). IsSound holds (record { member = y; entries = v.entries })) (sym same)

    same_undisturbed : (p : LocalModel T J) → v ≡ p → (shown : T → Gv) (holds : T → List OwnerOrCell) → Leaves shown holds p
    same_undisturbed p is shown holds = subst (λ (q : LocalModel T J). Leaves shown holds q) is
        (subst (λ (y : LocalState J). Undisturbed caller_of (λ (x : LocalModel T J). x.member.own) known_of (λ (x : LocalModel T J). Shows shown holds x) v
        (record { member = y; entries = v.entries })) (sym same)
        record { caller = refl; own = refl; known = record { told = omega arith; since = refl }; shown = λ _ _ shows. shows })

  -- ---- nothing has changed, or what a raw cell points to
  module _ (cell : ℕ) where
    abbrev pub MayPoint : Type 0
    MayPoint = (m ≡ v.member) ⊎ ((found : RawCellContents) × (now : RawCellContents) × PointsAt cell found now v.member m)

    module _ (may : MayPoint) where
      pub may_sound : (holds : T → List OwnerOrCell) → IsSound holds v → IsSound holds after
      may_sound holds sound = ⊎_elim (λ (same : m ≡ v.member). same_sound same holds sound)
          (λ (p : (found : RawCellContents) × (now : RawCellContents) × PointsAt cell found now v.member m). sound_pointed v cell p.0 p.1 m p.2 holds sound) may

      pub may_undisturbed : (q : LocalModel T J) → v ≡ q → (shown : T → Gv) (holds : T → List OwnerOrCell) → Leaves shown holds q
      may_undisturbed q is shown holds = ⊎_elim (λ (same : m ≡ v.member). same_undisturbed same q is shown holds)
          (λ (p : (found : RawCellContents) × (now : RawCellContents) × PointsAt cell found now v.member m).
          pointed_undisturbed v cell p.0 p.1 m p.2 q is shown holds) may

  -- for answers
  module _ (p : LocalModel T J) (is : v ≡ p) (exact : IsTrue (is_lone p.member)) where
    lone_here : IsLone v.member
    lone_here = lone_is v.member (subst (λ (q : LocalModel T J). IsTrue (is_lone q.member)) (sym is) exact)

    pub same_exact : m ≡ v.member → world_of after ≡ world_of p
    same_exact same = same_world same ∙ ap world_of is

  -- exchanges were lost
  contended : (e : Refused) → e ≡ Contended → ¬ (IsLone v.member) → (p : LocalModel T J) → v ≡ p → IsContended (caller_of p) e
  contended e is_lost several p is = (is_lost, λ one. several (lone_is v.member (subst (λ (q : LocalModel T J). IsTrue (is_lone q.member)) (sym is) one)))

  -- ---- a raw cell was made, or refused
  abbrev pub Made : RawCellContents → Result RawRight Refused → Type 0
  Made pointer r = MatchResult r (λ cell. MakesRaw (raw_number_of cell) pointer v.member m) (λ e. (m ≡ v.member) × ClaimsNone e v.member)

  module _ (pointer : RawCellContents) where
    pub made_sound : (r : Result RawRight Refused) → Made pointer r → (holds : T → List OwnerOrCell) → IsSound holds v → IsSound holds after
    made_sound (Ok cell) a holds sound = sound_made v (raw_number_of cell) pointer m a holds sound
    made_sound (Err e) a holds sound = same_sound a.0 holds sound

    pub made_leaves : (r : Result RawRight Refused) → Made pointer r → (q : LocalModel T J) → v ≡ q → (shown : T → Gv) (holds : T → List OwnerOrCell)
        → Leaves shown holds q
    made_leaves (Ok cell) a q is shown holds = made_undisturbed v (raw_number_of cell) pointer m a q is shown holds
    made_leaves (Err e) a q is shown holds = same_undisturbed a.0 q is shown holds

    pub made_answer : (r : Result RawRight Refused) → Made pointer r → WordsMatchValues v.member v.entries → (p : LocalModel T J) → v ≡ p
        → IsTrue (is_lone p.member) → MatchResult r
        (λ cell. IsEmptyAt (world_of p).cells (raw_number_of cell) × (world_of after ≡ pointing (world_of p) (raw_number_of cell) pointer))
        (λ e. IsFull (world_of p).cells × (e ≡ NoCell) × (world_of after ≡ world_of p))
    made_answer (Ok cell) a tied p is exact = (
      made_empty v (raw_number_of cell) pointer m a tied p is exact,
      made_exact v (raw_number_of cell) pointer m a tied p is exact,
    )
    made_answer (Err e) a tied p is exact = ⊎_elim (λ (none : (e ≡ NoCell) × (IsLone v.member → Rattle.sdd_domain_steps.specs.Cells.AllCellsTaken v.member)). (
      subst (λ (q : LocalModel T J). IsFull (world_of q).cells) is (cells_used_up v (none.1 (lone_here p is exact))),
      none.0,
      same_exact p is exact a.0,
    )) (λ (lost : (e ≡ Contended) × ¬ (IsLone v.member)). absurd (lost.1 (lone_here p is exact))) a.1

  -- ---- a raw cell was exchanged, or what it points to came back
  module _ (cell : ℕ) (current new : RawCellContents) where
    abbrev pub Exchanged : Result Unit RawCellContents → Type 0
    Exchanged r = MatchResult r (λ _. PointsAt cell current new v.member m)
        (λ now. (m ≡ v.member) × (now ≢ current) × FindsPointer cell now v.member)

    pub exchanged_may : (r : Result Unit RawCellContents) → Exchanged r → MayPoint cell
    exchanged_may (Ok u) a = inr (current, new, a)
    exchanged_may (Err now) a = inl a.0

    pub exchanged_exact : (r : Result Unit RawCellContents) → Exchanged r → WordsMatchValues v.member v.entries → (p : LocalModel T J) → v ≡ p
        → IsTrue (is_lone p.member) → MatchResult r
        (λ _. (pointer_at (world_of p) cell ≡ Some current) × (world_of after ≡ with_pointer (world_of p) cell new))
        (λ now. (pointer_at (world_of p) cell ≡ Some now) × (now ≢ current) × (world_of after ≡ world_of p))
    exchanged_exact (Ok u) a tied p is exact = (
      found_exact v cell current (finds_before v cell current new m a) tied p is exact,
      pointed_exact v cell current new m a tied p is exact,
    )
    exchanged_exact (Err now) a tied p is exact = (found_exact v cell now a.2 tied p is exact, a.1, same_exact p is exact a.0)

  -- ---- the condition held of its pointer once, which has another tag, or didn't
  module _ (cell : ℕ) (tag : Tag) where
    abbrev pub Retagged : Result Bool Refused → Type 0
    Retagged r = MatchResult r (λ changed. (found : RawCellContents) × MatchBool changed
        (PointsAt cell found (record found { tag = tag }) v.member m) ((m ≡ v.member) × FindsPointer cell found v.member))
        (λ e. (e ≡ Contended) × (m ≡ v.member) × ¬ (IsLone v.member))

    pub retagged_may : (r : Result Bool Refused) → Retagged r → MayPoint cell
    retagged_may (Ok true) a = inr (a.0, record a.0 { tag = tag }, a.1)
    retagged_may (Ok false) a = inl a.1.0
    retagged_may (Err e) a = inl a.1

    pub retagged_back : (r : Result Bool Refused) → Retagged r → (p : LocalModel T J) → v ≡ p → IfErr r (IsContended (caller_of p))
    retagged_back (Ok changed) a p is = tt
    retagged_back (Err e) a p is = contended e a.0 a.2 p is

    -- what a lone participant asked of
    abbrev pub Asked : (RawPtr T → Bool → Type 0) → Result Bool Refused → Type 0
    Asked post r = IsLone v.member → IfOk r (λ changed. (ptr : RawPtr T) × (pointer_of ptr ≡ pointer_by (pointer_word_of v.member cell)) × post ptr changed)

    pub retagged_exact : (post : RawPtr T → Bool → Type 0) (r : Result Bool Refused) → Retagged r → Asked post r → WordsMatchValues v.member v.entries
        → (p : LocalModel T J) → v ≡ p
        → IsTrue (is_lone p.member) → IsOk r × IfOk r (λ changed. (ptr : RawPtr T) × (pointer_at (world_of p) cell ≡ Some (pointer_of ptr)) × post ptr changed
        × (world_of after ≡ (if changed then with_pointer (world_of p) cell (record (pointer_of ptr) { tag = tag }) else world_of p)))
    retagged_exact post (Ok true) a asked tied p is exact = let lone = lone_here p is exact in let ptr = asked lone in
        let same : a.0 ≡ pointer_of ptr.0 = sym (ptr.1 ∙ a.1.lone lone) in (
          refl,
          (
            ptr.0,
            found_exact v cell a.0 (finds_before v cell a.0 (record a.0 { tag = tag }) m a.1) tied p is exact ∙ ap Some same,
            ptr.2,
            pointed_exact v cell a.0 (record a.0 { tag = tag }) m a.1 tied p is exact
                ∙ ap (λ (q : RawCellContents). with_pointer (world_of p) cell (record q { tag = tag })) same,
          ),
        )
    retagged_exact post (Ok false) a asked tied p is exact = let lone = lone_here p is exact in let ptr = asked lone in
        let same : a.0 ≡ pointer_of ptr.0 = sym (ptr.1 ∙ a.1.1.lone lone) in
        (refl, (ptr.0, found_exact v cell a.0 a.1.1 tied p is exact ∙ ap Some same, ptr.2, same_exact p is exact a.1.0))
    retagged_exact post (Err e) a asked tied p is exact = absurd (a.2 (lone_here p is exact))

  -- ---- a closure was asked once what it points to next
  module _ (cell : ℕ) where
    abbrev pub Updated : Result (Result (RawPtr T) (RawPtr T)) Refused → Type 0
    Updated r = MatchResult r (λ updated. MatchResult updated
        (λ was. (next : RawCellContents) × PointsAt cell (pointer_of was) next v.member m)
        (λ now. (m ≡ v.member) × FindsPointer cell (pointer_of now) v.member))
        (λ e. (e ≡ Contended) × (m ≡ v.member) × ¬ (IsLone v.member))

    pub updated_may : (r : Result (Result (RawPtr T) (RawPtr T)) Refused) → Updated r → MayPoint cell
    updated_may (Ok (Ok was)) a = inr (pointer_of was, a.0, a.1)
    updated_may (Ok (Err now)) a = inl a.0
    updated_may (Err e) a = inl a.1

    pub updated_back : (r : Result (Result (RawPtr T) (RawPtr T)) Refused) → Updated r → (p : LocalModel T J) → v ≡ p → IfErr r (IsContended (caller_of p))
    updated_back (Ok updated) a p is = tt
    updated_back (Err e) a p is = contended e a.0 a.2 p is

    abbrev pub AskedNext : (RawPtr T → Option (RawPtr T) → Type 0) → Result (Result (RawPtr T) (RawPtr T)) Refused → Type 0
    AskedNext post r = IsLone v.member → IfOk r (λ updated. MatchResult updated
        (λ was. (next : RawPtr T) × PointsAt cell (pointer_of was) (pointer_of next) v.member m × post was (Some next))
        (λ now. post now None))

    pub updated_exact : (post : RawPtr T → Option (RawPtr T) → Type 0) (r : Result (Result (RawPtr T) (RawPtr T)) Refused) → Updated r → AskedNext post r
        → WordsMatchValues v.member v.entries
        → (p : LocalModel T J) → v ≡ p → IsTrue (is_lone p.member) → IsOk r × IfOk r (λ updated. MatchResult updated
        (λ was. (next : RawPtr T) × (pointer_at (world_of p) cell ≡ Some (pointer_of was)) × post was (Some next)
        × (world_of after ≡ with_pointer (world_of p) cell (pointer_of next)))
        (λ now. (pointer_at (world_of p) cell ≡ Some (pointer_of now)) × post now None × (world_of after ≡ world_of p)))
    updated_exact post (Ok (Ok was)) a asked tied p is exact = let next = asked (lone_here p is exact) in (
      refl,
      (
        next.0,
        found_exact v cell (pointer_of was) (finds_before v cell (pointer_of was) (pointer_of next.0) m next.1) tied p is exact,
        next.2,
        pointed_exact v cell (pointer_of was) (pointer_of next.0) m next.1 tied p is exact,
      ),
    )
    updated_exact post (Ok (Err now)) a asked tied p is exact =
        (refl, (found_exact v cell (pointer_of now) a.1 tied p is exact, asked (lone_here p is exact), same_exact p is exact a.0))
    updated_exact post (Err e) a asked tied p is exact = absurd (a.2 (lone_here p is exact))

  -- ---- a raw cell was freed
  pub closed_exact : (cell found : ℕ) → FreesAt cell found v.member m → held_slots found ≡ [] → WordsMatchValues v.member v.entries → (p : LocalModel T J)
      → v ≡ p → IsTrue (is_lone p.member) → IsNullCell (world_of p) cell × (world_of after ≡ without_cell (world_of p) cell)
  closed_exact cell found freed bare tied p is exact = (
    (
      contents_of found,
      full_exact v cell found 0 m freed.writes tied p is exact (contents_of found) (freed.full (lone_here p is exact)) refl,
      ap (λ (l : List ℕ). slice_get l 0) bare,
    ),
    freed_exact v cell found m freed tied p is exact,
  )
