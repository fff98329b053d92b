-- What a participant's calls of cells answer and leave, as generic code sees it
use Rattle.std.proofs.Common.{◌≡◌, ⊎_elim, ℕ, ◌<◌, Bool, true, false, IsTrue, List, Some, Option, sym, refl, ap, ◌∙◌, subst}
use Rattle.std.specs.Prelude.{Result, Ok, Err, IfErr, IfOk, IsOk, MatchBool, MatchResult, if◌then◌else◌}
use base.Stored.{Gv}
use Rattle.sdd_core.specs.declared.refused.Refused.{Refused}
use Rattle.sdd_core.specs.declared.refused.Refused.TheVariants.{NoCell, Contended}
use Rattle.sdd_core.specs.declared.tag.Tag.{Tag}
use Rattle.sdd_participants.specs.Slab.{IsEmptyAt, IsFull, entry_at}
use Rattle.sdd_rights.specs.declared.right.Right.{Right}
use Rattle.sdd_rights.specs.Right.{number_of}
use Rattle.sdd_world_model.specs.Cells.{cell_with}
use Rattle.sdd_world_model.specs.OwnerOrCell.{OwnerOrCell}
use Rattle.sdd_space.specs.RawPtr as raw
use Rattle.sdd_space.specs.declared.raw_ptr.RawPtr.{RawPtr}
use Rattle.sdd_world_model.specs.WorldChanges.{with_cell}
use Rattle.sdd_domain_steps.specs.Cells.{AllCellsTaken, ChangesCell, ClaimsNone, FindsAt, WritesAt}
use Rattle.sdd_domain_steps.specs.LocalState.{LocalState, IsLone, cell_word_of}
use Rattle.sdd_domain_steps.specs.Local.{LocalModel, contents_of, world_of}
use Rattle.sdd_domain_core.specs.Space.{is_lone}
use Rattle.sdd_domain_steps.specs.WordsAndValues.{WordsMatchValues}
use Rattle.sdd_domain_core.proofs.CellWorld.{cells_used_up, empty_exact, full_exact, full_exact, written_exact}
use Rattle.sdd_domain.proofs.Pointers.{finds_exact}
use Rattle.sdd_domain.proofs.Steps.{IsStep, lone_begun, same_step, writes_step}

-- a claim by a word that holds this
module _ {T J : Type 0} (v : LocalModel T J) (m : LocalState J) (held : Option Right) (tag : Tag) where
  abbrev pub Claimed : Result Right (Option Right × Refused) → Type 0
  Claimed r = MatchResult r
      (λ cell. (word : ℕ) × (0 < word) × (contents_of word ≡ cell_with held tag) × WritesAt (number_of cell) 0 word v.member m)
      (λ e. (m ≡ v.member) × ClaimsNone e.1 v.member)

  abbrev after : LocalModel T J
  after = record { member = m; entries = v.entries }

  pub claims_step : (shown : T → Gv) (holds : T → List OwnerOrCell) (r : Result Right (Option Right × Refused)) → Claimed r → IsStep shown holds v after
  claims_step shown holds (Ok cell) a = writes_step shown holds v m (number_of cell) 0 a.0 a.3
  claims_step shown holds (Err e) a = same_step shown holds v m a.0

  module _ (p : LocalModel T J) (same : v ≡ p) where
    pub claimed_exact : (r : Result Right (Option Right × Refused)) → Claimed r → IfErr r (λ e. e.0 ≡ held)
        → WordsMatchValues v.member v.entries → IsTrue (is_lone p.member) → MatchResult r
        (λ cell. IsEmptyAt (world_of p).cells (number_of cell) × (world_of after ≡ with_cell (world_of p) (number_of cell) (cell_with held tag)))
        (λ e. IsFull (world_of p).cells × (e ≡ (held, NoCell)) × (world_of after ≡ world_of p))
    claimed_exact (Ok cell) a back tied exact = (
      empty_exact v (number_of cell) 0 a.0 m a.3 tied p same exact refl,
      written_exact v (number_of cell) 0 a.0 m a.3 tied p same exact (cell_with held tag) a.1 a.2,
    )
    claimed_exact (Err e) a back tied exact = let lone = lone_begun v p same exact in
        ⊎_elim (λ (none : (e.1 ≡ NoCell) × (IsLone v.member → AllCellsTaken v.member)). (
          subst (λ (q : LocalModel T J). IsFull (world_of q).cells) same (cells_used_up v (none.1 lone)),
          (λ d. (back d, none.0 d)),
          ap (λ (y : LocalState J). world_of {T = T} (record { member = y; entries = v.entries })) a.0 ∙ ap world_of same,
        )) (λ (lost : (e.1 ≡ Contended) × ¬ (IsLone v.member)). absurd (lost.1 lone)) a.1

-- ---- another tag of a cell
module _ {T J : Type 0} (v : LocalModel T J) (m : LocalState J) (cell : ℕ) (tag : Tag) where
  abbrev pub Retags : Result Bool Refused → Type 0
  Retags r = MatchResult r (λ changed. (word : ℕ) × MatchBool changed
      ((now : ℕ) × (0 < now) × (contents_of now ≡ record (contents_of word) { tag = tag }) × ChangesCell cell word now v.member m)
      ((m ≡ v.member) × FindsAt cell word v.member))
      (λ e. (e ≡ Contended) × (m ≡ v.member) × ¬ (IsLone v.member))

  abbrev retagged : LocalModel T J
  retagged = record { member = m; entries = v.entries }

  pub retags_step : (shown : T → Gv) (holds : T → List OwnerOrCell) (r : Result Bool Refused) → Retags r → IsStep shown holds v retagged
  retags_step shown holds (Ok true) a = writes_step shown holds v m cell a.0 a.1.0 a.1.3.writes
  retags_step shown holds (Ok false) a = same_step shown holds v m a.1.0
  retags_step shown holds (Err e) a = same_step shown holds v m a.1

  -- the condition was asked of what the cell held
  module _ (Met : RawPtr T → Bool → Type 0) where
    abbrev Asked : Result Bool Refused → Type 0
    Asked r = IsLone v.member → IfOk r (λ changed. (ptr : RawPtr T) × (raw.cell_seen ptr ≡ contents_of (cell_word_of v.member cell)) × Met ptr changed)

    pub retags_exact : (r : Result Bool Refused) → Retags r → Asked r → WordsMatchValues v.member v.entries → (p : LocalModel T J) → v ≡ p
        → IsTrue (is_lone p.member) → IsOk r × IfOk r (λ changed. (ptr : RawPtr T) × (entry_at (world_of p).cells cell ≡ Some (raw.cell_seen ptr))
        × Met ptr changed × (world_of retagged ≡ (if changed then with_cell (world_of p) cell (record (raw.cell_seen ptr) { tag = tag }) else world_of p)))
    retags_exact (Ok true) a asked tied p same exact =
        let lone = lone_begun v p same exact in
        let q = asked lone in let is = a.1.3 in
        let seen : contents_of a.0 ≡ raw.cell_seen q.0 = ap contents_of (is.writes.lone lone) ∙ sym q.1 in (
          refl,
          (
            q.0,
            full_exact v cell a.0 a.1.0 m is.writes tied p same exact (raw.cell_seen q.0) (is.full lone) seen,
            q.2,
            written_exact v cell a.0 a.1.0 m is.writes tied p same exact (record (raw.cell_seen q.0) { tag = tag }) a.1.1
                (a.1.2 ∙ (λ d. record (seen d) { tag = tag })),
          ),
        )
    retags_exact (Ok false) a asked tied p same exact =
        let lone = lone_begun v p same exact in
        let q = asked lone in (
          refl,
          (
            q.0,
            finds_exact v cell a.0 a.1.1 tied p same exact (raw.cell_seen q.0) (ap contents_of (a.1.1.found lone) ∙ sym q.1),
            q.2,
            ap (λ (y : LocalState J). world_of {T = T} (record { member = y; entries = v.entries })) a.1.0 ∙ ap world_of same,
          ),
        )
    retags_exact (Err e) a asked tied p same exact = absurd (a.2 (lone_begun v p same exact))
