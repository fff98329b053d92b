-- The steps on the words of cells' pointers keep the whole invariant: no other part of it reads them.
use Rattle.std.proofs.Common.{◌≡◌, ◌<◌, ℕ, List, eqb, length, length-set, get_or, set, sym, refl, ap, ◌∙◌, subst, inl, arith}
use Rattle.std.specs.Prelude.{None}
use mathlib.Core.Option.{some}
use mathlib.Core.Logic.{dite}
use native.Mathlib.Decide.{ℕ_discrete}
use lib.ListN.{get_elem?}
use prog.Atomic.{either}
use Rattle.atomic_table.specs.Table.{State, Allows}
use Rattle.atomic_table.proofs.Lists.{exchanged}
use Rattle.sdd_shared_values.specs.declared.value_fraction.ValueFraction.{ValueFraction}
use Rattle.sdd_rights.specs.declared.views.View.{View}
use Rattle.sdd_rights.specs.declared.views.Sizes.{Sizes}
use Rattle.sdd_domain_invariant.specs.Words.{pointer_word}
use Rattle.sdd_domain_invariant.specs.Codes.{valued, pointers_end}
use Rattle.sdd_domain_invariant.specs.Epoch.{HasPlace}
use Rattle.sdd_domain_invariant.specs.Epoch.EpochSteps.{Steps}
use Rattle.sdd_domain_invariant.specs.Cells.CellWordSteps.{pointer_behind, noting_pointer, LooksAtPointer, SwapsPointer, ExchangesPointer, AtPointer}
use Rattle.sdd_domain_invariant.specs.WordInvariant.{Parts}
use Rattle.sdd_domain_invariant.proofs.Raw.PointerWordSteps as words
use Rattle.sdd_domain_invariant.specs.Cells.CellSteps.{FindsPointer, OfPointer}
use Rattle.sdd_domain_invariant.specs.DomainInvariant.{DomainInvariant}
use Rattle.sdd_domain_invariant.specs.Fractions.FractionSteps.{SeatState}
use Rattle.sdd_domain_invariant.proofs.Cells.{SameWords, words_pointed, words_same}
use Rattle.sdd_domain_invariant.proofs.Slots.KindSteps.{same_post}
use Rattle.sdd_domain_invariant.proofs.Slots.KindSteps as kind_steps
use Rattle.sdd_domain_invariant.proofs.Fractions.LastFractions.{stored_kept}
use Rattle.sdd_domain_invariant.proofs.TableSteps.{IsCalm, keeps_ended, lift_calm_whole}
use Rattle.sdd_domain_invariant.proofs.Slots.RecordSteps.{none_moved}

module _ (slots id : ℕ) (me : SeatState) (live : HasPlace me.0.epoch) (rests : me.0.fractions.moves ≡ None) (cell : ℕ) (inside : cell < me.0.sizes.cells) where
  abbrev v : View
  v = me.0

  abbrev γ : ℕ
  γ = me.0.fractions.gamma

  abbrev sizes : Sizes
  sizes = me.0.sizes

  abbrev i : ℕ
  i = pointer_word me.0.sizes cell

  abbrev pub May : (ℕ → ℕ) → (ℕ → SeatState → Type 0) → Type 0
  May = Allows (DomainInvariant γ sizes) slots id me i

  -- it knows this of words behind the places', and all else as before
  abbrev knowing : List ℕ → View
  knowing known = record v { words = known }

  -- all parts stay beside the words, where it has a note of as many
  calm : (f : ℕ → ℕ) (s : State ValueFraction View) → DomainInvariant γ sizes s → get_elem? s.views id ≡ some v → (y : ℕ)
      → SameWords sizes s.words (set s.words i y) → (known : List ℕ) → length known ≡ length v.words → IsCalm γ sizes slots id me i f s y (knowing known)
  calm f s h at y same known long = let w : View = knowing known in record {
    more = λ j p out. out;
    same = λ j _. ap valued (same.slots j);
    mover = h.homes.moving id v at;
    alike = (refl, refl, refl, (λ _. refl), refl);
    counts = refl;
    lives = λ l. l;
    had = λ _ l. inl l;
    stored = stored_kept sizes s.words (set s.words i y) same;
    kinds = let k = h.kinds.each id v at in kind_steps.stays sizes s.words s.views h.kinds h.records.each id v at (set s.words i y) w same
        record {
          long = long ∙ k.long;
          sole = λ j m. absurd (none_moved w j rests m);
          claimed = λ j m. absurd (none_moved w j rests m);
          told = k.told;
        }
        (same_post v w refl refl refl refl (λ l. l) refl refl);
  }

  -- the word is written, or not
  pointed : (s : State ValueFraction View) → DomainInvariant γ sizes s → (y : ℕ) → y < pointers_end → SameWords sizes s.words (set s.words i y)
  pointed s h y small = let l = h.kept.parts.slots.long in words_pointed sizes s.words cell y inside (omega arith) small

  -- a step tells what it tells of the words' parts, and that it found such a word
  abbrev Tells : (ℕ → View → ℕ → View → Type 0) → ℕ → View → Type 0
  Tells R x w = AtPointer R i v x w × (x < pointers_end)

  lift : (R : ℕ → View → ℕ → View → Type 0) (f : ℕ → ℕ) → ((x : ℕ) (w : View) → R cell v x w → w.places ≡ v.places)
      → Steps (Parts sizes) id v i f (AtPointer R i v)
      → ((s : State ValueFraction View) (w : View) → DomainInvariant γ sizes s → get_elem? s.views id ≡ some v → R cell v (get_or s.words i 0) w
      → IsCalm γ sizes slots id me i f s (f (get_or s.words i 0)) w)
      → May f (OfPointer (FindsPointer R) i me)
  lift R f places step stays = lift_calm_whole γ sizes slots id me i f (Tells R) (OfPointer (FindsPointer R) i me)
      (keeps_ended γ sizes slots id me i f (Tells R) (λ r w t. places r w (t.0 cell refl)) (λ s h at p low e was. absurd (omega arith)) (inl live))
      (λ s h at small. let e = step s.words s.views h.kept.parts at small in (e.0, e.1, (e.2, h.kinds.cells.pointers cell inside)))
      (λ x w t other is. (refl, t.0 other is, t.1))
      (λ s w h at t. stays s w h at (t.0 cell refl))

  -- a look
  pub looks_at : May (λ x. x) (OfPointer (FindsPointer LooksAtPointer) i me)
  looks_at = lift LooksAtPointer (λ x. x) (λ x w t. ap (λ (u : View). u.places) t.0) (words.looks_at id v live cell inside)
      (λ s w h at t. let x : ℕ = get_or s.words i 0 in subst (IsCalm γ sizes slots id me i (λ x. x) s x) (sym t.0)
      (calm (λ x. x) s h at x (words_same sizes s.words i) v.words refl))

  module _ (y : ℕ) (small : y < pointers_end) where
    abbrev note : View
    note = noting_pointer cell y v

    note_long : length note.words ≡ length v.words
    note_long = length-set v.words (pointer_behind v.sizes cell) y

    -- a swap
    pub swaps : May (λ _. y) (OfPointer (FindsPointer (SwapsPointer y)) i me)
    swaps = lift (SwapsPointer y) (λ _. y) (λ x w t. ap (λ (u : View). u.places) t.0) (words.swaps id v live cell inside y)
        (λ s w h at t. subst (IsCalm γ sizes slots id me i (λ _. y) s y) (sym t.0) (calm (λ _. y) s h at y (pointed s h y small) note.words note_long))

    -- an exchange
    pub exchanges : (old : ℕ) → May (λ x. either (eqb x old) y x) (OfPointer (FindsPointer (ExchangesPointer old y)) i me)
    exchanges old = let f : ℕ → ℕ = λ x. either (eqb x old) y x in lift (ExchangesPointer old y) f
        (λ x w t. dite (ℕ_discrete x old) (λ e. ap (λ (u : View). u.places) (t.0 e)) (λ ne. ap (λ (u : View). u.places) (t.1 ne)))
        (words.exchanges id v live cell inside old y)
        (λ s w h at t. let x : ℕ = get_or s.words i 0 in exchanged x old y (λ z. IsCalm γ sizes slots id me i f s z w)
        (λ hit. subst (IsCalm γ sizes slots id me i f s y) (sym (t.0 hit)) (calm f s h at y (pointed s h y small) note.words note_long))
        (λ miss. subst (IsCalm γ sizes slots id me i f s x) (sym (t.1 miss)) (calm f s h at x (words_same sizes s.words i) v.words refl)))
