-- The steps on the words of cells' pointers keep all parts of the words' rule: these words own nothing, and so any may be written there.
use Rattle.std.proofs.Common.{◌≡◌, ◌<◌, ℕ, List, eqb, map, get_or, set, sym, refl, ap, ◌∙◌, subst, inl, inr, arith}
use mathlib.Core.Option.{some}
use lib.ListN.{get_elem?}
use prog.Atomic.{either}
use Rattle.atomic_table.proofs.Lists.{set_here, exchanged}
use Rattle.sdd_rights.specs.declared.views.View.{View}
use Rattle.sdd_rights.specs.declared.views.Sizes.{Sizes}
use Rattle.sdd_domain_invariant.specs.Words.{pointer_word}
use Rattle.sdd_domain_invariant.specs.Codes.{codes}
use Rattle.sdd_domain_invariant.specs.Epoch.{HasPlace}
use Rattle.sdd_domain_invariant.specs.Epoch.EpochSteps.{Steps}
use Rattle.sdd_domain_invariant.specs.Cells.CellWordSteps.{pointer_behind, noting_pointer, KnewPointer, LooksAtPointer, SwapsPointer, ExchangesPointer, AtPointer}
use Rattle.sdd_domain_invariant.specs.WordInvariant.{epoch_of, Parts}
use Rattle.sdd_domain_invariant.proofs.Codes.{sound}
use Rattle.sdd_domain_invariant.proofs.Epoch as epochs
use Rattle.sdd_domain_invariant.proofs.Epoch.EpochSteps.{seen_after}
use Rattle.sdd_domain_invariant.proofs.Slots.LoneInvariant.{finds_word, lone_written}
use Rattle.sdd_domain_invariant.proofs.Slots.SlotSteps as steps
use Rattle.sdd_domain_invariant.proofs.Slots.SlotWords.{aside, view_step}
use Rattle.sdd_domain_invariant.proofs.Collectors as private

module _ (id : ℕ) (v : View) (live : HasPlace v.epoch) (cell : ℕ) (inside : cell < v.sizes.cells) where
  abbrev sizes : Sizes
  sizes = v.sizes

  abbrev i : ℕ
  i = pointer_word v.sizes cell

  -- the word tells which cell it is
  module _ (other : ℕ) (is : i ≡ pointer_word sizes other) where
    same_cell : cell ≡ other
    same_cell = omega arith

    knew_too : (x : ℕ) → KnewPointer cell v x → KnewPointer other v x
    knew_too x = subst (λ (k : ℕ). KnewPointer k v x) same_cell

  module _ (ws : List ℕ) (vs : List View) (p : Parts sizes ws vs) (at : get_elem? vs id ≡ some v) where
    knew : KnewPointer cell v (get_or ws i 0)
    knew one = let f = p.epoch.each id v.epoch (steps.at_epoch id v live ws vs p at) in
        finds_word sizes ws vs p.lone id v at (sym (f.all (λ z. omega arith)) ∙ one) live (pointer_behind sizes cell) (omega arith)

    -- the word is y
    written : (y : ℕ) → Parts sizes (set ws i y) (set vs id (noting_pointer cell y v))
    written y = let w : View = noting_pointer cell y v in let s = p.slots in let f = s.each id v at in record {
      epoch = seen_after sizes (set ws i y) vs id w
          (epochs.beside sizes ws (set (map epoch_of vs) id w.epoch) id i y w.epoch (steps.same_epochs id v live ws vs p at)
          (set_here (map epoch_of vs) id w.epoch (epochs.at_length (map epoch_of vs) id v.epoch (steps.at_epoch id v live ws vs p at))) live (
            omega arith,
            inl (omega arith),
          ));
      slots = aside codes sizes ws (set vs id w) i y (inr (omega arith)) (omega arith) (view_step codes sound sizes ws vs s id v at w (λ _. refl) (λ _. refl)
          record { timed = f.timed; guarded = f.guarded; full = f.full; held = f.held }
          (let o = s.two id id v v at at in record { since = o.since; looked = o.looked })
          (λ j u _ e. let o = s.two id j v u at e in let o' = s.two j id u v e at in
          (record { since = o.since; looked = o.looked }, record { since = o'.since; looked = o'.looked })));
      lone = lone_written sizes ws vs p.lone id v at s.long p.epoch live (pointer_behind sizes cell) y w (omega arith) refl;
      collectors = private.word_kept codes sound sizes ws vs p.collectors id v at i y w (omega arith)
          (private.aside_kept v w (refl, refl, refl, refl, refl, refl, refl, refl, refl) (omega arith) (omega arith)) (λ k h. inl (h, refl, refl));
    }

  -- a look
  pub looks_at : Steps (Parts sizes) id v i (λ x. x) (AtPointer LooksAtPointer i v)
  looks_at ws vs p at small = (v, steps.unmoved id v live ws vs p at i, λ other is. (refl, knew_too other is (get_or ws i 0) (knew ws vs p at)))

  -- a swap
  pub swaps : (y : ℕ) → Steps (Parts sizes) id v i (λ _. y) (AtPointer (SwapsPointer y) i v)
  swaps y ws vs p at small = (
    noting_pointer cell y v,
    written ws vs p at y,
    λ other is. (ap (λ (k : ℕ). noting_pointer k y v) (same_cell other is), knew_too other is (get_or ws i 0) (knew ws vs p at)),
  )

  -- an exchange
  pub exchanges : (old y : ℕ) → Steps (Parts sizes) id v i (λ x. either (eqb x old) y x) (AtPointer (ExchangesPointer old y) i v)
  exchanges old y ws vs p at small = let x : ℕ = get_or ws i 0 in let told = knew ws vs p at in
      exchanged x old y (λ z. (u : View) × Parts sizes (set ws i z) (set vs id u) × AtPointer (ExchangesPointer old y) i v x u)
      (λ hit. (
        noting_pointer cell y v,
        written ws vs p at y,
        λ other is. (
          (λ _. ap (λ (k : ℕ). noting_pointer k y v) (same_cell other is)),
          (λ no. absurd (no hit)),
          knew_too other is x told,
        ),
      ))
      (λ miss. (
        v,
        steps.unmoved id v live ws vs p at i,
        λ other is. ((λ e. absurd (miss e)), (λ _. refl), knew_too other is x told),
      ))
