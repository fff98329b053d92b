-- The steps on cells keep all parts of the words' rule.
use Rattle.std.proofs.Common.{List, [], ◌∷◌, ◌≡◌, None, Some, ℕ, ◌+◌, ◌<◌, eqb, map, get_or, set, sym, refl, ap, ◌∙◌, subst, inl, ⊎_elim, arith, get_or-set_other}
use mathlib.Core.Logic.{dite}
use mathlib.Core.Option.{some}
use lib.ListN.{get_elem?}
use native.Mathlib.Decide.{dec_lt}
use prog.Atomic.{either}
use Rattle.atomic_table.proofs.Lists.{set_here, exchanged}
use Rattle.sdd_rights.specs.declared.views.CellsView.{CellsView}
use Rattle.sdd_rights.specs.declared.views.View.{View}
use Rattle.sdd_rights.specs.declared.views.Sizes.{Sizes}
use Rattle.sdd_domain_invariant.specs.Words.{cell_word, slot_word}
use Rattle.sdd_domain_invariant.specs.Codes.{codes, held_slots}
use Rattle.sdd_domain_invariant.specs.Epoch.{HasPlace, IsOpen}
use Rattle.sdd_domain_invariant.specs.Slots.{slot_at, Sees}
use Rattle.sdd_domain_invariant.specs.Sums.{times}
use Rattle.sdd_domain_invariant.specs.Epoch.EpochSteps.{Steps}
use Rattle.sdd_domain_invariant.specs.Slots.SlotSteps.{seeing}
use Rattle.sdd_domain_invariant.specs.Cells.CellWordSteps.{KnewCell, cell_noted, coming, noting, SwapsCell, ExchangesCell, RetagsCell, LooksAtCell, SeesCell, AtCell}
use Rattle.sdd_domain_invariant.specs.WordInvariant.{epoch_of, Parts}
use Rattle.sdd_domain_invariant.proofs.Codes.{sound, held_in, held_which}
use Rattle.sdd_domain_invariant.proofs.Epoch as epochs
use Rattle.sdd_domain_invariant.proofs.Epoch.EpochSteps.{seen_after}
use Rattle.sdd_domain_invariant.proofs.Slots.LoneInvariant.{finds_word, lone_written}
use Rattle.sdd_domain_invariant.proofs.Slots.SeenSlots as seen
use Rattle.sdd_domain_invariant.proofs.Slots.SlotSteps as steps
use Rattle.sdd_domain_invariant.proofs.Slots.SlotWords.{cell_step, named_in}
use Rattle.sdd_domain_invariant.proofs.Collectors.{sees_plain, plain_alive}
use Rattle.sdd_domain_invariant.proofs.Collectors as private
use Rattle.sdd_domain_invariant.proofs.Sums.{is_same}

module _ (id : ℕ) (v : View) (live : HasPlace v.epoch) (cell : ℕ) where
  abbrev sizes : Sizes
  sizes = v.sizes

  abbrev i : ℕ
  i = cell_word cell

  -- the word tells which cell it is
  module _ (other : ℕ) (is : i ≡ cell_word other) where
    same_cell : cell ≡ other
    same_cell = omega arith

    knew_too : (x : ℕ) → KnewCell cell v x → KnewCell other v x
    knew_too x = subst (λ (k : ℕ). KnewCell k v x) same_cell

  module _ (ws : List ℕ) (vs : List View) (p : Parts sizes ws vs) (at : get_elem? vs id ≡ some v) where
    knew : cell < sizes.cells → KnewCell cell v (get_or ws i 0)
    knew inside one = let f = p.epoch.each id v.epoch (steps.at_epoch id v live ws vs p at) in
        finds_word sizes ws vs p.lone id v at (sym (f.all (λ z. omega arith)) ∙ one) live cell (omega arith)

    -- the cell's word is y, and it has these owners and rights: of a slot's owners there are as many as before in the cell and its own
    changed : (inside : cell < sizes.cells) (y : ℕ) (owns : List ℕ) (rights : CellsView)
        → ((j : ℕ) → codes.names j (get_or ws i 0) + times j v.slots.owns ≡ codes.names j y + times j owns) → v.slots.holds ≡ None
        → Parts sizes (set ws i y) (set vs id (record v { slots = record v.slots { owns = owns }; cells = rights; words = cell_noted cell y v }))
    changed inside y owns rights as_many free =
        let w : View = record v { slots = record v.slots { owns = owns }; cells = rights; words = cell_noted cell y v } in
        let s = p.slots in let f = s.each id v at in record {
          epoch = seen_after sizes (set ws i y) vs id w
              (epochs.beside sizes ws (set (map epoch_of vs) id w.epoch) id i y w.epoch (steps.same_epochs id v live ws vs p at)
              (set_here (map epoch_of vs) id w.epoch (epochs.at_length (map epoch_of vs) id v.epoch (steps.at_epoch id v live ws vs p at))) live
              (omega arith, inl (omega arith)));
          slots = cell_step codes sound sizes ws vs s id v at cell y w inside as_many (λ _. refl)
              record {
                timed = f.timed;
                guarded = f.guarded;
                full = λ j sees. ap codes.full (get_or-set_other ws i (slot_word sizes j) y 0 (λ e. omega arith)) ∙ f.full j sees;
                held = λ j h. let c : None ≡ Some j = sym free ∙ h in cc;
              }
              (let o = s.two id id v v at at in record { since = o.since; looked = o.looked })
              (λ j u _ e. let o = s.two id j v u at e in let o' = s.two j id u v e at in
              (record { since = o.since; looked = o.looked }, record { since = o'.since; looked = o'.looked }));
          lone = lone_written sizes ws vs p.lone id v at s.long p.epoch live cell y w (omega arith) refl;
          collectors = private.word_kept codes sound sizes ws vs p.collectors id v at i y w (omega arith)
              (private.aside_kept v w (refl, refl, refl, refl, refl, refl, refl, refl, refl) (omega arith) (omega arith)) (λ k h. inl (h, refl, refl));
        }

    -- what it has goes into the cell, and what the cell held comes
    comes : (inside : cell < sizes.cells) (y : ℕ) (rights : CellsView) → v.slots.owns ≡ held_slots y → v.slots.holds ≡ None
        → Parts sizes (set ws i y) (set vs id (coming cell (get_or ws i 0) y rights v))
    comes inside y rights owns free = let x : ℕ = get_or ws i 0 in changed inside y (held_slots x) rights
        (λ j. let e = held_in y j in let e' = held_in x j in let o = ap (times j) owns in omega arith) free

    -- the cell holds what it held
    stays : (inside : cell < sizes.cells) (y : ℕ) → held_slots y ≡ held_slots (get_or ws i 0) → v.slots.holds ≡ None
        → Parts sizes (set ws i y) (set vs id (noting cell y v))
    stays inside y same free = let x : ℕ = get_or ws i 0 in changed inside y v.slots.owns v.cells
        (λ j. let e = held_in y j in let e' = held_in x j in let o = ap (times j) same in omega arith) free

  -- a swap
  pub swaps : (y : ℕ) (rights : CellsView) → cell < sizes.cells → v.slots.owns ≡ held_slots y → v.slots.holds ≡ None
      → Steps (Parts sizes) id v i (λ _. y) (AtCell (SwapsCell y rights) i v)
  swaps y rights inside owns free ws vs p at small = let x : ℕ = get_or ws i 0 in (
    coming cell x y rights v,
    comes ws vs p at inside y rights owns free,
    λ other is. (ap (λ (k : ℕ). coming k x y rights v) (same_cell other is), knew_too other is x (knew ws vs p at inside)),
  )

  -- an exchange, where the word is old
  pub exchanges : (old y : ℕ) (rights : CellsView) → cell < sizes.cells → v.slots.owns ≡ held_slots y → v.slots.holds ≡ None
      → Steps (Parts sizes) id v i (λ x. either (eqb x old) y x) (AtCell (ExchangesCell old y rights) i v)
  exchanges old y rights inside owns free ws vs p at small = let x : ℕ = get_or ws i 0 in let told = knew ws vs p at inside in
      exchanged x old y (λ z. (u : View) × Parts sizes (set ws i z) (set vs id u) × AtCell (ExchangesCell old y rights) i v x u)
      (λ hit. (
        coming cell x y rights v,
        comes ws vs p at inside y rights owns free,
        λ other is. (
          (λ _. ap (λ (k : ℕ). coming k x y rights v) (same_cell other is)),
          (λ no. absurd (no hit)),
          knew_too other is x told,
        ),
      ))
      (λ miss. (
        v,
        steps.unmoved id v live ws vs p at i,
        λ other is. ((λ e. absurd (miss e)), (λ _. refl), knew_too other is x told),
      ))

  -- an exchange by which the cell holds what it held, where its word is old
  pub retags : (old y : ℕ) → cell < sizes.cells → held_slots y ≡ held_slots old → v.slots.holds ≡ None
      → Steps (Parts sizes) id v i (λ x. either (eqb x old) y x) (AtCell (RetagsCell old y) i v)
  retags old y inside same free ws vs p at small = let x : ℕ = get_or ws i 0 in let told = knew ws vs p at inside in
      exchanged x old y (λ z. (u : View) × Parts sizes (set ws i z) (set vs id u) × AtCell (RetagsCell old y) i v x u)
      (λ hit. (
        noting cell y v,
        stays ws vs p at inside y (same ∙ ap held_slots (sym hit)) free,
        λ other is. (
          (λ _. ap (λ (k : ℕ). noting k y v) (same_cell other is)),
          (λ no. absurd (no hit)),
          knew_too other is x told,
        ),
      ))
      (λ miss. (
        v,
        steps.unmoved id v live ws vs p at i,
        λ other is. ((λ e. absurd (miss e)), (λ _. refl), knew_too other is x told),
      ))

  -- a look
  pub looks_at : cell < sizes.cells → Steps (Parts sizes) id v i (λ x. x) (AtCell LooksAtCell i v)
  looks_at inside ws vs p at small = (v, steps.unmoved id v live ws vs p at i, λ other is. (refl, knew_too other is (get_or ws i 0) (knew ws vs p at inside)))

  -- a look under a guard
  pub sees : cell < sizes.cells → IsOpen v.epoch → Steps (Parts sizes) id v i (λ x. x) (AtCell SeesCell i v)
  sees inside is_open ws vs p at small = let x : ℕ = get_or ws i 0 in let told = knew ws vs p at inside in
      let stays : ((slot : ℕ) → held_slots x ≡ slot ∷ [] → Sees v slot) → (u : View) × Parts sizes (set ws i x) (set vs id u) × AtCell SeesCell i v x u
      = λ seen. (
        v,
        steps.unmoved id v live ws vs p at i,
        λ other is. ((λ slot e no. absurd (no (seen slot e))), (λ _ _ _. refl), (λ _. refl), knew_too other is x told),
      ) in ⊎_elim
      (λ (one : (slot : ℕ) × (held_slots x ≡ slot ∷ [])). let slot = one.0 in
      let same : (k : ℕ) → held_slots x ≡ k ∷ [] → slot ≡ k = λ k e. ap (first_of slot) (sym one.1 ∙ e) in dite (dec_lt 0 (times slot v.slots.sees))
      (λ has. stays (λ k e. subst (Sees v) (same k e) has))
      (λ no. let named = held_in x slot in let t = ap (times slot) one.1 in let one_is = is_same slot slot refl in (
        seeing slot v,
        steps.loaded id v live ws vs p at i (seeing slot v) refl refl
            (seen.loads codes sound sizes ws vs p.slots id v at cell slot inside is_open (omega arith))
            (private.view_kept codes sound sizes ws vs p.collectors id v (seeing slot v) at
            (private.sight_kept v slot) (sees_plain codes sizes ws v slot (plain_alive codes sound (slot_at sizes ws slot)
            (let n = named_in codes sound sizes ws vs p.slots id cell slot v at inside in omega arith)))),
        λ other is. (
          (λ k e _. ap (λ (m : ℕ). seeing m v) (same k e)),
          (λ k e has. absurd (no (subst (Sees v) (sym (same k e)) has))),
          (λ none. absurd (let c : ◌≡◌ {A = List ℕ} (slot ∷ []) [] = sym one.1 ∙ none in cc)),
          knew_too other is x told,
        ),
      )))
      (λ (none : held_slots x ≡ []). stays (λ k e. absurd (let c : ◌≡◌ {A = List ℕ} (k ∷ []) [] = sym e ∙ none in cc))) (held_which x)
    where
      first_of : ℕ → List ℕ → ℕ
      first_of k [] = k
      first_of k (m ∷ ms) = m
