-- An item is put out as raw, taken back, and seen under a guard meanwhile: these steps keep all parts of the words' rule.
use Rattle.std.proofs.Common.{List, ◌≡◌, ◌≢◌, ◌⊎◌, inl, inr, ℕ, ◌<◌, eqb, get_or, set, sym, refl, ap, ◌∙◌, subst, ⊎_elim, arith}
use mathlib.Core.Logic.{dite}
use lib.ListN.{get_elem?}
use mathlib.Core.Option.{some}
use native.Mathlib.Decide.{ℕ_discrete, dec_lt}
use prog.Atomic.{either}
use Rattle.atomic_table.proofs.Lists.{exchanged}
use Rattle.sdd_rights.specs.declared.views.View.{View}
use Rattle.sdd_domain_invariant.specs.Words.{slot_word}
use Rattle.sdd_domain_invariant.specs.Codes.{codes, counted, shared_base, owned_word, raw_word}
use Rattle.sdd_domain_invariant.specs.Epoch.{HasPlace, IsOpen}
use Rattle.sdd_domain_invariant.specs.Slots.{slot_at, Owns, Holds, Sees}
use Rattle.sdd_domain_invariant.specs.Sums.{times}
use Rattle.sdd_domain_invariant.specs.Epoch.EpochSteps.{Steps}
use Rattle.sdd_domain_invariant.specs.Slots.SlotSteps.{noted, claimed, turned_raw, seeing, TurnsRaw, Regains, SeesRaw, AtSlot}
use Rattle.sdd_domain_invariant.specs.WordInvariant.{Parts}
use Rattle.sdd_domain_invariant.proofs.Codes.{sound, owned_is, raw_is, raw_plain}
use Rattle.sdd_domain_invariant.proofs.Slots.SlotWords.{alone_is}
use Rattle.sdd_domain_invariant.proofs.Collectors.{IsPlain, plain_alive, sees_plain}
use Rattle.sdd_domain_invariant.proofs.Collectors as private
use Rattle.sdd_domain_invariant.proofs.Slots.OwnerSteps as owning
use Rattle.sdd_domain_invariant.proofs.Slots.SeenSlots as seen
use Rattle.sdd_domain_invariant.proofs.Slots.SlotSteps as steps

module _ (id : ℕ) (v : View) (live : HasPlace v.epoch) where
  -- the owner goes that isn't counted, and the item is out as raw
  pub turns_raw : (slot generation : ℕ) → slot < v.sizes.slots → Owns v slot → ¬ (Holds v slot) → raw_word generation < shared_base
      → (ws : List ℕ) (vs : List View) → Parts v.sizes ws vs → get_elem? vs id ≡ some v → counted (slot_at v.sizes ws slot) ≡ 0
      → (w : View) × Parts v.sizes (set ws (slot_word v.sizes slot) (raw_word generation)) (set vs id w)
      × AtSlot TurnsRaw (slot_word v.sizes slot) v (raw_word generation) w
  turns_raw slot g inside mine free low ws vs p at firm = let y : ℕ = raw_word g in let w : View = turned_raw slot y v in let word = raw_is g low in (
    w,
    steps.around id v live ws vs p at slot y w live refl
        (inr (
          plain_alive codes sound (slot_at v.sizes ws slot)
              (let a = (alone_is codes sound v.sizes ws vs p.slots id slot v at mine firm).1 in omega arith),
          raw_plain g low,
        ))
        (refl, refl, refl, refl, refl, refl, refl, refl, refl) (omega arith) (omega arith) (steps.same_epochs id v live ws vs p at)
        (owning.turns_raw codes sound v.sizes ws vs p.slots id v at slot y (noted slot y v) inside mine firm free word.0 word.1 word.2),
    λ other is. ap (λ (k : ℕ). turned_raw k y v) (steps.same_slot id v live slot other is),
  )

  -- an owner of an item that is out as raw
  pub regains : (slot generation : ℕ) → slot < v.sizes.slots → owned_word generation < shared_base → raw_word generation < shared_base
      → Steps (Parts v.sizes) id v (slot_word v.sizes slot) (λ x. either (eqb x (raw_word generation)) (owned_word generation) x)
      (AtSlot (λ slot. Regains slot (raw_word generation) (owned_word generation)) (slot_word v.sizes slot) v)
  regains slot g inside low low' ws vs p at small = let i : ℕ = slot_word v.sizes slot in let x : ℕ = get_or ws i 0 in let old : ℕ = raw_word g in
      let new : ℕ = owned_word g in let w : View = claimed slot new v in let told = steps.knew id v live ws vs p at slot in
      exchanged x old new (λ y. (u : View) × Parts v.sizes (set ws i y) (set vs id u) × AtSlot (λ slot. Regains slot old new) i v x u)
      (λ hit. let raw = raw_is g low' in let own = owned_is g low in (
        w,
        steps.around id v live ws vs p at slot new w live refl
            (inr (subst (IsPlain codes) (sym hit) (raw_plain g low'), plain_alive codes sound new (let o = own.0 in omega arith)))
            (refl, refl, refl, refl, refl, refl, refl, refl, refl) (omega arith) (omega arith) (steps.same_epochs id v live ws vs p at)
            (owning.claims codes sound v.sizes ws vs p.slots id v at slot new (noted slot new v) inside
            (ap codes.alive hit ∙ raw.0) (ap codes.waiting hit ∙ raw.1) own.0),
        λ other is. (
          (λ _. ap (λ (k : ℕ). claimed k new v) (steps.same_slot id v live slot other is)),
          (λ no. absurd (no hit)),
          steps.knew_too id v live slot other is x told,
        ),
      ))
      (λ miss. (
        v,
        steps.unmoved id v live ws vs p at i,
        λ other is. ((λ e. absurd (miss e)), (λ _. refl), steps.knew_too id v live slot other is x told),
      ))

  -- a guard sees it where it is out as raw
  pub sees_raw : (slot generation : ℕ) → IsOpen v.epoch → raw_word generation < shared_base
      → Steps (Parts v.sizes) id v (slot_word v.sizes slot) (λ x. x)
      (AtSlot (λ slot. SeesRaw slot (raw_word generation)) (slot_word v.sizes slot) v)
  sees_raw slot g is_open low ws vs p at small = let i : ℕ = slot_word v.sizes slot in let x : ℕ = get_or ws i 0 in let old : ℕ = raw_word g in
      let w : View = seeing slot v in let told = steps.knew id v live ws vs p at slot in
      let stays : (x ≢ old) ⊎ Sees v slot → (u : View) × Parts v.sizes (set ws i x) (set vs id u) × AtSlot (λ slot. SeesRaw slot old) i v x u
      = λ why. (
        v,
        steps.unmoved id v live ws vs p at i,
        λ other is. let same = steps.same_slot id v live slot other is in (
          (λ hit unseen. ⊎_elim (λ (miss : x ≢ old). absurd (miss hit)) (λ (sees : Sees v slot). absurd (unseen (subst (Sees v) same sees))) why),
          (λ _. refl),
          steps.knew_too id v live slot other is x told,
        ),
      ) in
      dite (ℕ_discrete x old) (λ hit. dite (dec_lt 0 (times slot v.slots.sees)) (λ sees. stays (inr sees))
      (λ unseen. let raw = raw_is g low in (
        w,
        steps.loaded id v live ws vs p at i w refl refl
            (seen.sees_raw codes sound v.sizes ws vs p.slots id v at slot is_open (ap codes.full hit ∙ raw.2) (ap codes.alive hit ∙ raw.0)
            (ap codes.waiting hit ∙ raw.1))
            (private.view_kept codes sound v.sizes ws vs p.collectors id v w at (private.sight_kept v slot)
            (sees_plain codes v.sizes ws v slot (subst (IsPlain codes) (sym hit) (raw_plain g low)))),
        λ other is. let same = steps.same_slot id v live slot other is in (
          (λ _ _. ap (λ (k : ℕ). seeing k v) same),
          (λ why. ⊎_elim (λ (miss : x ≢ old). absurd (miss hit)) (λ (sees : Sees v other). absurd (unseen (subst (Sees v) (sym same) sees))) why),
          steps.knew_too id v live slot other is x told,
        ),
      )))
      (λ miss. stays (inl miss))
