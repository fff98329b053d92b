-- A step that keeps the words' parts, the homes' part, what is known of what slots show and of owners, and the counts is a step of the table.
use Rattle.std.proofs.Common.{◌≡◌, ◌⊎◌, inl, inr, ℕ, ◌^◌, ◌<◌, List, get_or, set, sym, refl, ap, ◌∙◌, subst, ⊎_elim, arith, length-set, eq-eqb, ne_eqb}
use Rattle.std.specs.Prelude.{None}
use mathlib.Core.Bool.{cond}
use mathlib.Core.Option.{some}
use mathlib.Core.Logic.{dite}
use native.Mathlib.Decide.{ℕ_discrete}
use lib.ListN.{get_elem?}
use Rattle.atomic_table.specs.Table.{State, Act, keeps, Valid, carried_after, homes_after, Allows}
use Rattle.sdd_shared_values.specs.ValueFractions.{FractionContent}
use Rattle.sdd_shared_values.specs.declared.value_fraction.ValueFraction.{ValueFraction}
use Rattle.sdd_rights.specs.declared.views.EpochView.{EpochView}
use Rattle.sdd_rights.specs.declared.views.EndedView.{EndedView}
use Rattle.sdd_rights.specs.declared.views.SlotsView.{SlotsView}
use Rattle.sdd_rights.specs.declared.views.FractionsView.{FractionsView}
use Rattle.sdd_rights.specs.declared.views.View.{View}
use Rattle.sdd_rights.specs.declared.views.Sizes.{Sizes}
use Rattle.sdd_domain_invariant.specs.Words.{IsEpochWord, state_word}
use Rattle.sdd_domain_invariant.specs.Epoch.{HasPlace, IsClosed, IsOpen}
use Rattle.sdd_domain_invariant.specs.Epoch.EpochSteps.{Steps, Publishes, Ends}
use Rattle.sdd_domain_invariant.specs.Slots.{waits_in}
use Rattle.sdd_domain_invariant.specs.Slots.SlotSteps.{older, aged as aged_slots, changed, OnEpoch, PublishesAll}
use Rattle.sdd_domain_invariant.specs.WordInvariant.{epoch_of, Parts, WordInvariant}
use Rattle.atomic_table.proofs.Lists.{at_map, set_again, set_else}
use Rattle.sdd_domain_invariant.proofs.Frame.{each_set}
use Rattle.sdd_domain_invariant.proofs.Sums.{total_map}
use Rattle.sdd_domain_invariant.proofs.WordsWithoutFractions.{blind}
use Rattle.sdd_domain_invariant.specs.Epoch.Barred.{AreBarred, AreQuiet}
use Rattle.sdd_domain_invariant.proofs.Epoch.Barred.{Spares, one_spared, all_spared, NoneQuiet, none_quiet, Hushes, one_hushed, all_hushed}
use Rattle.sdd_domain_invariant.specs.Fractions.FractionsAtHome.{FractionsAtHome, full_at, Moves, SeesFrom, FractionIsTaken, IsMover, FractionsInvariant}
use Rattle.sdd_domain_invariant.specs.Fractions.BankInvariant.{banked, BankInvariant}
use Rattle.sdd_domain_invariant.proofs.Banks.{with_deposits}
use Rattle.sdd_domain_invariant.proofs.Banks as banks
use Rattle.sdd_domain_invariant.specs.Slots.KindsInvariant.{KindsInvariant}
use Rattle.sdd_domain_invariant.proofs.Cells.{words_beside, no_change}
use Rattle.sdd_domain_invariant.proofs.Slots.KindSteps.{same_post}
use Rattle.sdd_domain_invariant.proofs.Slots.KindSteps as kind_steps
use Rattle.sdd_domain_invariant.specs.Slots.Records.{AllShowKnown, RecordsInvariant}
use Rattle.sdd_domain_invariant.specs.Counts.{CountsInvariant}
use Rattle.sdd_domain_invariant.specs.Slots.FilledInvariant.{FilledInvariant}
use Rattle.sdd_domain_invariant.specs.DomainInvariant.{DomainInvariant}
use Rattle.sdd_domain_invariant.specs.Fractions.FractionSteps.{SeatState, leaving}
use Rattle.sdd_domain_invariant.proofs.Fractions.FractionsInvariant.{none_out, still_mover, before_slots}
use Rattle.sdd_domain_invariant.proofs.Fractions.FractionsInvariant as part
use Rattle.sdd_domain_invariant.proofs.Counts.{ended_spared, ended_more, as_full, counted, uncounted, uncounted_alone}
use Rattle.sdd_domain_invariant.proofs.Slots.Records.{IsAlike}
use Rattle.sdd_domain_invariant.proofs.Slots.Records as records
use Rattle.sdd_domain_invariant.proofs.Slots.FilledInvariant.{filled_same, filled_alike}
use Rattle.sdd_domain_invariant.specs.Fractions.LastFractions.{LastsInvariant}
use Rattle.sdd_domain_invariant.proofs.Fractions.LastFractions.{NoMoreStored, none_stored, stored_beside, alike_bank, lasts_fewer}
use Rattle.sdd_domain_invariant.proofs.Slots.RecordSteps.{none_told}

-- what a step on the word i makes of the state, where y is in it then: what its participant knows of fractions, and what it takes or gives
pub record Follows (γ : ℕ) (sizes : Sizes) (id i : ℕ) (me : SeatState) (told : ℕ → SeatState → Type 0) (s : State ValueFraction View) (y : ℕ) (w : View) : Type
    0 where
  pub fractions : FractionsView
  pub act : Act ValueFraction
  pub valid : Valid s.homes me.1 act
  pub homes : FractionsInvariant γ sizes (set s.words i y) (set s.views id (record w { fractions = fractions })) (homes_after s.homes me.1 act)
  pub records : RecordsInvariant sizes (set s.views id (record w { fractions = fractions })) (homes_after s.homes me.1 act)
  pub counts : CountsInvariant sizes (set s.words i y) (set s.views id (record w { fractions = fractions }))
  pub filled : FilledInvariant sizes (set s.views id (record w { fractions = fractions }))
  pub bank : BankInvariant γ sizes (set s.words i y) (set s.views id (record w { fractions = fractions }))
  pub lasts : LastsInvariant sizes (set s.words i y) (set s.views id (record w { fractions = fractions })) (homes_after s.homes me.1 act)
  pub kinds : KindsInvariant sizes (set s.words i y) (set s.views id (record w { fractions = fractions }))
  pub tells : told (get_or s.words i 0) (record w { fractions = fractions }, carried_after me.1 act)

module _ (γ : ℕ) (sizes : Sizes) (slots id : ℕ) (me : SeatState) (i : ℕ) (f : ℕ → ℕ) where
  -- the places that have ended stay so, and those that are known of after the step have ended; and the same of quiet slots
  abbrev pub Keeps : (ℕ → View → Type 0) → Type 0
  Keeps then = (s : State ValueFraction View) (w : View) → DomainInvariant γ sizes s → get_elem? s.views id ≡ some me.0 → then (get_or s.words i 0) w
      → Spares sizes s.words i (f (get_or s.words i 0)) × AreBarred sizes (set s.words i (f (get_or s.words i 0))) w
      × (NoneQuiet s.views ⊎ Hushes sizes s.words i (f (get_or s.words i 0))) × AreQuiet sizes (set s.words i (f (get_or s.words i 0))) w

  -- while somebody has a place nobody knows of a quiet slot; and a step on a word before the slots' leaves theirs
  hushes : HasPlace me.0.epoch ⊎ (IsEpochWord sizes i) → (s : State ValueFraction View) → DomainInvariant γ sizes s → get_elem? s.views id ≡ some me.0
      → NoneQuiet s.views ⊎ Hushes sizes s.words i (f (get_or s.words i 0))
  hushes mild s h at = ⊎_elim
      (λ (live : HasPlace me.0.epoch).
      inl (none_quiet sizes s.words s.views h.kept.parts.epoch h.kept.places.ended h.kept.places.quiet id me.0 at live))
      (λ (word : IsEpochWord sizes i). let low = word.1 in inr (λ k is _. absurd (omega arith))) mild

  -- what is known of them stays
  pub keeps_ended : (then : ℕ → View → Type 0) → ((r : ℕ) (w : View) → then r w → w.places ≡ me.0.places)
      → ((s : State ValueFraction View) → DomainInvariant γ sizes s → get_elem? s.views id ≡ some me.0 → Spares sizes s.words i (f (get_or s.words i 0)))
      → HasPlace me.0.epoch ⊎ (IsEpochWord sizes i) → Keeps then
  keeps_ended then places words mild s w h at t = let x : ℕ = get_or s.words i 0 in let y : ℕ = f x in let e = words s h at in
      let q = hushes mild s h at in (
        e,
        one_spared sizes s.words i y me.0 w e (places x w t) (h.kept.places.ended id me.0 at),
        q,
        one_hushed sizes s.words i y s.views id me.0 w at q (places x w t) (h.kept.places.quiet id me.0 at),
      )

  -- a step of the words' parts that rests on the whole rule
  abbrev pub StepsWhole : (ℕ → View → Type 0) → Type 0
  StepsWhole then = (s : State ValueFraction View) → DomainInvariant γ sizes s → get_elem? s.views id ≡ some me.0 → get_or s.words i 0 < 2 ^ 64
      → (w : View) × Parts sizes (set s.words i (f (get_or s.words i 0))) (set s.views id w) × then (get_or s.words i 0) w

  pub lift_whole : (then : ℕ → View → Type 0) (told : ℕ → SeatState → Type 0) → Keeps then → StepsWhole then
      → ((s : State ValueFraction View) (w : View) → DomainInvariant γ sizes s → get_elem? s.views id ≡ some me.0 → then (get_or s.words i 0) w
      → Follows γ sizes id i me told s (f (get_or s.words i 0)) w) → Allows (DomainInvariant γ sizes) slots id me i f told
  lift_whole then told ends step follow s h full at small =
      let e = step s h at small in let w : View = e.0 in let b = follow s w h at e.2 in let y : ℕ = f (get_or s.words i 0) in
      let k = ends s w h at e.2 in (
        record w { fractions = b.fractions },
        b.act,
        b.valid,
        record {
          kept = record {
            parts = blind sizes (set s.words i y) s.views id me.0 w at e.1 b.fractions;
            places = record {
              wide = let l = h.kept.places.wide in omega (arith, length-set s.words i y);
              ended = all_spared sizes s.words i y s.views id (record w { fractions = b.fractions }) k.0 h.kept.places.ended k.1;
              quiet = all_hushed sizes s.words i y s.views id (record w { fractions = b.fractions }) k.2 h.kept.places.quiet k.3;
            };
          };
          homes = b.homes;
          records = b.records;
          counts = b.counts;
          filled = b.filled;
          bank = b.bank;
          lasts = b.lasts;
          kinds = b.kinds;
        },
        b.tells,
      )

  -- one that rests on the words' parts alone
  pub lift_homes : (then : ℕ → View → Type 0) (told : ℕ → SeatState → Type 0) → Keeps then → Steps (Parts sizes) id me.0 i f then
      → ((s : State ValueFraction View) (w : View) → DomainInvariant γ sizes s → get_elem? s.views id ≡ some me.0 → then (get_or s.words i 0) w
      → Follows γ sizes id i me told s (f (get_or s.words i 0)) w) → Allows (DomainInvariant γ sizes) slots id me i f told
  lift_homes then told ends step = lift_whole then told ends (λ s h at small. step s.words s.views h.kept.parts at small)

  -- a step that takes and gives none, and puts no item out as raw, and has a place still if it had one; and had one if it has one, or all words are 0 yet
  pub record IsCalm (s : State ValueFraction View) (y : ℕ) (w : View) : Type 0 where
    pub more : (j p : ℕ) → FractionIsTaken me.0 j p → FractionIsTaken w j p
    pub same : (j : ℕ) → j < sizes.slots → full_at sizes (set s.words i y) j ≡ full_at sizes s.words j
    pub mover : IsMover w
    pub alike : IsAlike me.0 w
    pub counts : w.fractions.counts ≡ me.0.fractions.counts
    pub lives : HasPlace me.0.epoch → HasPlace w.epoch
    pub had : sizes.participants ≡ 1 → HasPlace w.epoch → HasPlace me.0.epoch ⊎ ((j : ℕ) → get_or s.words j 0 ≡ 0)
    pub stored : NoMoreStored sizes s.words (set s.words i y)
    pub kinds : KindsInvariant sizes (set s.words i y) (set s.views id w)

  pub lift_calm_whole : (then : ℕ → View → Type 0) (told : ℕ → SeatState → Type 0) → Keeps then → StepsWhole then
      → ((r : ℕ) (w : View) → then r w → told r (w, me.1))
      → ((s : State ValueFraction View) (w : View) → DomainInvariant γ sizes s → get_elem? s.views id ≡ some me.0 → then (get_or s.words i 0) w
      → IsCalm s (f (get_or s.words i 0)) w) → Allows (DomainInvariant γ sizes) slots id me i f told
  lift_calm_whole then told ends step tells calm = lift_whole then told ends step (λ s w h at t. let y : ℕ = f (get_or s.words i 0) in
      let c = calm s w h at t in record {
        fractions = w.fractions;
        act = keeps;
        valid = tt;
        homes = part.calm γ sizes s.words s.views s.homes h.homes id me.0 at (set s.words i y) w c.more c.same c.mover;
        records = records.calm sizes s.views s.homes h.records id me.0 at w c.alike;
        counts = uncounted sizes s.words s.views h.counts id me.0 at (set s.words i y) w c.counts c.lives
            (as_full sizes s.words (set s.words i y) c.same) (ended_spared sizes s.words i y (ends s w h at t).0 sizes.participants (omega arith));
        filled = filled_alike sizes s.views h.filled id me.0 at w c.alike (λ one live. ⊎_elim (λ (was : HasPlace me.0.epoch). inl was)
            (λ (zeros : (j : ℕ) → get_or s.words j 0 ≡ 0). inr (none_told γ sizes s h zeros)) (c.had one live));
        bank = banks.alike γ sizes s.words s.views h.bank id me.0 at (set s.words i y) w c.alike c.same;
        lasts = lasts_fewer sizes s.words s.views s.homes h.lasts id me.0 at (set s.words i y) w s.homes (λ _ _ _ _ l. l) (alike_bank me.0 w c.alike)
            (ap (λ (t : FractionsView). t.filled) c.alike.0) (λ one live. ⊎_elim (λ (was : HasPlace me.0.epoch). inl was)
            (λ (zeros : (j : ℕ) → get_or s.words j 0 ≡ 0). inr (none_stored sizes s.words zeros)) (c.had one live)) c.stored;
        kinds = c.kinds;
        tells = tells (get_or s.words i 0) w t;
      })

  pub lift_calm : (then : ℕ → View → Type 0) (told : ℕ → SeatState → Type 0) → Keeps then → Steps (Parts sizes) id me.0 i f then
      → ((r : ℕ) (w : View) → then r w → told r (w, me.1))
      → ((s : State ValueFraction View) (w : View) → DomainInvariant γ sizes s → get_elem? s.views id ≡ some me.0 → then (get_or s.words i 0) w
      → IsCalm s (f (get_or s.words i 0)) w) → Allows (DomainInvariant γ sizes) slots id me i f told
  lift_calm then told ends step = lift_calm_whole then told ends (λ s h at small. step s.words s.views h.kept.parts at small)

  -- one of the epoch's part, under which an open guard keeps its place
  pub lift_epoch : (R : EpochView → ℕ → EpochView → Type 0) (told : ℕ → SeatState → Type 0) → IsEpochWord sizes i
      → ((r : ℕ) (e : EpochView) → R me.0.epoch r e → IsOpen me.0.epoch → e.place ≡ me.0.epoch.place)
      → ((r : ℕ) (e : EpochView) → R me.0.epoch r e → HasPlace me.0.epoch → HasPlace e)
      → ((s : State ValueFraction View) → DomainInvariant γ sizes s → (e : EpochView) → R me.0.epoch (get_or s.words i 0) e → sizes.participants ≡ 1 → HasPlace
      e
      → HasPlace me.0.epoch ⊎ ((j : ℕ) → get_or s.words j 0 ≡ 0))
      → ((s : State ValueFraction View) → DomainInvariant γ sizes s → get_elem? s.views id ≡ some me.0 → Spares sizes s.words i (f (get_or s.words i 0)))
      → Steps (Parts sizes) id me.0 i f (OnEpoch R me.0)
      → ((r : ℕ) (w : View) → OnEpoch R me.0 r w → told r (w, me.1)) → Allows (DomainInvariant γ sizes) slots id me i f told
  lift_epoch R told word stays lives had spares step tells = lift_calm (OnEpoch R me.0) told
      (keeps_ended (OnEpoch R me.0) (λ r w t. ap (λ (u : View). u.places) t.1) spares (inr word)) step tells (λ s w h at t.
      let y : ℕ = f (get_or s.words i 0) in let e : EpochView = t.0 in let own = h.kept.parts.slots.each id me.0 at in
      subst (IsCalm s y) (sym t.1) record {
        more = λ j p out. ⊎_elim (λ (m : Moves me.0 j). inl m)
            (λ (o : SeesFrom me.0 j p). inr (o.0, stays (get_or s.words i 0) e t.2 (own.guarded j o.0) ∙ o.1)) out;
        same = λ j _. before_slots sizes s.words i y j word.1;
        mover = still_mover me.0 (record me.0 { epoch = e }) refl (lives (get_or s.words i 0) e t.2) (λ _ o. o) (λ _ o. o) (λ _ o. o)
            (h.homes.moving id me.0 at);
        alike = (refl, refl, refl, (λ _. refl), refl);
        counts = refl;
        lives = lives (get_or s.words i 0) e t.2;
        had = had s h e t.2;
        stored = stored_beside sizes s.words i y word;
        kinds = kind_steps.calm sizes s.words s.views h.kinds h.records.each id me.0 at (set s.words i y) (record me.0 { epoch = e })
            (words_beside sizes s.words i y word) (refl, refl, refl, (λ _. refl), refl) refl refl (λ _ o. o)
            (same_post me.0 (record me.0 { epoch = e }) refl refl refl refl (lives (get_or s.words i 0) e t.2) refl refl);
      })

-- a publish may make each item that waits a change older, and leaves all else of slots
changed_or_not : (v : View) (P : SlotsView → Type 0) → P v.slots → P (aged_slots v.slots) → P (changed v)
changed_or_not v P same aged = let older_slots : SlotsView = aged_slots v.slots in dite (ℕ_discrete v.epoch.count v.epoch.found)
    (λ e. subst P (sym (ap (λ (t : _). cond t v.slots older_slots) (eq-eqb v.epoch.count v.epoch.found e))) same)
    (λ ne. subst P (sym (ap (λ (t : _). cond t v.slots older_slots) (ne_eqb v.epoch.count v.epoch.found ne))) aged)

module _ (γ : ℕ) (sizes : Sizes) (slots : ℕ) where
  -- a publish
  pub lift_publish : (id : ℕ) (me : SeatState) (i y : ℕ) (told : ℕ → SeatState → Type 0) → IsEpochWord sizes i → HasPlace me.0.epoch
      → Steps (Parts sizes) id me.0 i (λ _. y) (λ _. PublishesAll me.0 y)
      → ((e : EpochView) → Publishes me.0.epoch y e → HasPlace e × (e.place ≡ me.0.epoch.place))
      → ((s : State ValueFraction View) → DomainInvariant γ sizes s → get_elem? s.views id ≡ some me.0 → Spares sizes s.words i y)
      → ((w : View) → PublishesAll me.0 y w → told y (w, me.1)) → Allows (DomainInvariant γ sizes) slots id me i (λ _. y) (λ _. told y)
  lift_publish id me i y told word live step stays spares tells = lift_calm γ sizes slots id me i (λ _. y) (λ _. PublishesAll me.0 y) (λ _. told y)
      (keeps_ended γ sizes slots id me i (λ _. y) (λ _. PublishesAll me.0 y) (λ r w t. ap (λ (u : View). u.places) t.1) spares
      (inr word)) step (λ _ w t. tells w t)
      (λ s w h at t. let v : View = me.0 in let e : EpochView = t.0 in
      let calm : SlotsView → Type 0 = λ x. IsCalm γ sizes slots id me i (λ _. y) s y (record v { epoch = e; slots = x }) in
      let same = λ (j : ℕ) (_ : j < sizes.slots). before_slots sizes s.words i y j word.1 in let n : ℕ = sizes.participants in
      let more : (j p : ℕ) → FractionIsTaken v j p → FractionIsTaken (record v { epoch = e }) j p
      = λ j p out. ⊎_elim (λ (m : Moves v j). inl m) (λ (o : SeesFrom v j p). inr (o.0, (stays e t.2).1 ∙ o.1)) out in
      let movers = still_mover v (record v { epoch = e }) refl (λ _. (stays e t.2).0) (λ _ o. o) (λ _ o. o) (λ _ o. o) (h.homes.moving id v at) in
      subst (IsCalm γ sizes slots id me i (λ _. y) s y) (sym t.1) (changed_or_not v calm
      record {
        more = more;
        same = same;
        mover = movers;
        alike = (refl, refl, refl, (λ _. refl), refl);
        counts = refl;
        lives = λ _. (stays e t.2).0;
        had = λ _ _. inl live;
        stored = stored_beside sizes s.words i y word;
        kinds = kind_steps.calm sizes s.words s.views h.kinds h.records.each id v at (set s.words i y) (record v { epoch = e })
            (words_beside sizes s.words i y word) (refl, refl, refl, (λ _. refl), refl) refl refl (λ _ o. o)
            (same_post v (record v { epoch = e }) refl refl refl refl (λ _. (stays e t.2).0) refl refl);
      }
      record {
        more = more;
        same = same;
        mover = still_mover v (record v { epoch = e; slots = aged_slots v.slots }) refl (λ _. (stays e t.2).0) (λ _ o. o)
            (λ j o. let k = total_map (waits_in j) older (λ x. refl) v.slots.waits in omega arith) (λ _ o. o) (h.homes.moving id v at);
        alike = (refl, refl, refl, (λ j. total_map (waits_in j) older (λ x. refl) v.slots.waits), refl);
        counts = refl;
        lives = λ _. (stays e t.2).0;
        had = λ _ _. inl live;
        stored = stored_beside sizes s.words i y word;
        kinds = kind_steps.calm sizes s.words s.views h.kinds h.records.each id v at (set s.words i y)
            (record v { epoch = e; slots = aged_slots v.slots }) (words_beside sizes s.words i y word)
            (refl, refl, refl, (λ j. total_map (waits_in j) older (λ x. refl) v.slots.waits), refl) refl refl (λ _ o. o)
            (same_post v (record v { epoch = e; slots = aged_slots v.slots }) refl refl refl refl (λ _. (stays e t.2).0) refl refl);
      }))

  -- the end of a place, which is counted
  pub lift_end : (id : ℕ) (me : SeatState) (told : SeatState → Type 0) → me.0.epoch.place < sizes.participants → IsClosed me.0.epoch
      → me.0.fractions.moves ≡ None
      → me.0.slots.over ≡ None
      → Steps (Parts sizes) id me.0 (state_word sizes me.0.epoch.place) (λ _. 3) (λ _. OnEpoch (λ u _ e. Ends u 3 e) me.0 3)
      → ((s : State ValueFraction View) → DomainInvariant γ sizes s → get_elem? s.views id ≡ some me.0
      → Spares sizes s.words (state_word sizes me.0.epoch.place) 3)
      → told (leaving me.0, me.1) → Allows (DomainInvariant γ sizes) slots id me (state_word sizes me.0.epoch.place) (λ _. 3) (λ _. told)
  lift_end id me told inside shut rests over step spares tells = let v : View = me.0 in let i : ℕ = state_word sizes v.epoch.place in
      lift_homes γ sizes slots id me i (λ _. 3) (λ _. OnEpoch (λ u _ e. Ends u 3 e) v 3) (λ _. told)
      (keeps_ended γ sizes slots id me i (λ _. 3) (λ _. OnEpoch (λ u _ e. Ends u 3 e) v 3) (λ r w t. ap (λ (u : View). u.places) t.1) spares
      (inr (inr (omega arith), omega arith))) step
      (λ s w h at t. let now : View = leaving v in let fits = h.kept.parts.epoch.each id v.epoch (at_map epoch_of s.views id v at) in
      let was = fits.state (omega arith) in let same = λ (j : ℕ) (_ : j < sizes.slots). before_slots sizes s.words i 3 j (omega arith) in
      let wide = h.kept.parts.epoch.wide in
      let is : w ≡ record v { epoch = Rattle.sdd_domain_invariant.specs.Epoch.EpochSteps.ended v.epoch } = t.1
      ∙ ap (λ (e : EpochView). record v { epoch = e }) t.2 in
      subst (Follows γ sizes id i me (λ _. told) s 3) (sym is) record {
        fractions = now.fractions;
        act = keeps;
        valid = tt;
        homes = part.calm γ sizes s.words s.views s.homes h.homes id v at (set s.words i 3) now (λ j p out. out) same (none_out now rests);
        records = records.calm sizes s.views s.homes h.records id v at now (refl, refl, refl, (λ _. refl), refl);
        counts = counted sizes s.words s.views h.counts id v at (set s.words i 3) now
            (let f = as_full sizes s.words (set s.words i 3) same in omega arith)
            (let more = ended_more sizes s.words v.epoch.place (omega arith) (omega arith) sizes.participants inside in omega arith)
            (λ _ none. absurd (omega arith));
        filled = filled_same sizes s.views h.filled id v at now refl refl refl (λ z. absurd (omega arith));
        bank = banks.alike γ sizes s.words s.views h.bank id v at (set s.words i 3) now (refl, refl, refl, (λ _. refl), refl) same;
        lasts = lasts_fewer sizes s.words s.views s.homes h.lasts id v at (set s.words i 3) now s.homes (λ _ _ _ _ l. l) (λ is. (is, refl)) refl
            (λ _ live. absurd (omega arith)) (stored_beside sizes s.words i 3 (inr (omega arith), omega arith));
        kinds = kind_steps.calm sizes s.words s.views h.kinds h.records.each id v at (set s.words i 3) now (words_beside sizes s.words i 3 (
          inr
              (omega arith),
          omega arith,
        ))
            (refl, refl, refl, (λ _. refl), refl) refl refl (λ _ o. o)
            record { pledges = refl; marks = refl; sizes = refl; cells = refl; place = inr over; records = λ _ r a. a; holds = λ _. refl };
        tells = tells;
      })

-- a step on no word, by which the same places have ended
pub kept_stands : (sizes : Sizes) (s : State ValueFraction View) → WordInvariant sizes s → (id : ℕ) (v : View) → get_elem? s.views id ≡ some v → (w : View)
    → w.places ≡ v.places → Parts sizes s.words (set s.views id w) → (hs : FractionsAtHome)
    → WordInvariant {S = ValueFraction} sizes record { words = s.words; homes = hs; views = set s.views id w }
kept_stands sizes s kept id v at w same parts hs = record {
  parts = parts;
  places = record {
    wide = kept.places.wide;
    ended = each_set (AreBarred sizes s.words) (AreBarred sizes s.words) s.views id w
        (λ p low l. kept.places.ended id v at p low (subst (λ (x : EndedView). p < x.ended) same l)) (λ j u _ e. kept.places.ended j u e);
    quiet = each_set (AreQuiet sizes s.words) (AreQuiet sizes s.words) s.views id w
        (subst (λ (x : EndedView). AreQuiet sizes s.words (record v { places = x })) (sym same) (kept.places.quiet id v at))
        (λ j u _ e. kept.places.quiet j u e);
  };
}

-- and all parts stand
module _ (γ : ℕ) (sizes : Sizes) (id : ℕ) (v : View) (s : State ValueFraction View) (h : DomainInvariant γ sizes s) (at : get_elem? s.views id ≡ some v) where
  pub stands : (w : View) → w.places ≡ v.places → Parts sizes s.words (set s.views id w) → (hs : FractionsAtHome)
      → FractionsInvariant γ sizes s.words (set s.views id w) hs → RecordsInvariant sizes (set s.views id w) hs → CountsInvariant sizes s.words
      (set s.views id w)
      → FilledInvariant sizes (set s.views id w) → BankInvariant γ sizes s.words (set s.views id w) → LastsInvariant sizes s.words (set s.views id w) hs
      → KindsInvariant sizes s.words (set s.views id w) → DomainInvariant γ sizes record { words = s.words; homes = hs; views = set s.views id w }
  stands w same parts hs homes records counts filled bank lasts kinds = record {
    kept = kept_stands sizes s h.kept id v at w same parts hs;
    homes = homes;
    records = records;
    counts = counts;
    filled = filled;
    bank = bank;
    lasts = lasts;
    kinds = kinds;
  }

  -- which changes only what is known of fractions, but for what was made
  pub stands_by : (t : FractionsView) → t.counts ≡ v.fractions.counts → (hs : FractionsAtHome) → FractionsInvariant γ sizes s.words
      (set s.views id (record v { fractions = t })) hs
      → RecordsInvariant sizes (set s.views id (record v { fractions = t })) hs → FilledInvariant sizes (set s.views id (record v { fractions = t }))
      → BankInvariant γ sizes s.words (set s.views id (record v { fractions = t }))
      → LastsInvariant sizes s.words (set s.views id (record v { fractions = t })) hs → KindsInvariant sizes s.words (set s.views id
      (record v { fractions = t }))
      → DomainInvariant γ sizes record { words = s.words; homes = hs; views = set s.views id (record v { fractions = t }) }
  stands_by t same hs homes records filled bank lasts kinds = stands (record v { fractions = t }) refl
      (blind sizes s.words s.views id v v at (subst (Parts sizes s.words) (sym (set_again s.views id v at)) h.kept.parts) t) hs homes records
      (uncounted_alone sizes s.words s.views h.counts id v at (record v { fractions = t }) same refl) filled bank lasts kinds

  -- which changes what the bank has, too
  pub stands_dealt : (w : View) → w.places ≡ v.places → Parts sizes s.words (set s.views id w) → (hs : FractionsAtHome)
      → FractionsInvariant γ sizes s.words (set s.views id w) hs → RecordsInvariant sizes (set s.views id w) hs → CountsInvariant sizes s.words
      (set s.views id w)
      → FilledInvariant sizes (set s.views id w) → KindsInvariant sizes s.words (set s.views id w)
      → (bd : ℕ) (b : View) → get_elem? s.views bd ≡ some b → ¬ (id ≡ bd) → (ls : List FractionContent)
      → AllShowKnown (set s.views id w) (banked (with_deposits ls b)) → BankInvariant γ sizes s.words (set (set s.views id w) bd (with_deposits ls b))
      → LastsInvariant sizes s.words (set (set s.views id w) bd (with_deposits ls b)) hs
      → DomainInvariant γ sizes record { words = s.words; homes = hs; views = set (set s.views id w) bd (with_deposits ls b) }
  stands_dealt w same parts hs lie told made fill kinds bd b there ne ls shown bank lasts = let vs : List View = set s.views id w in
      let b' : View = with_deposits ls b in let now : get_elem? vs bd ≡ some b = set_else s.views id bd w (λ e. ne (sym e)) ∙ there in
      let t = told.each bd b now in let mine = records.mine sizes vs hs told bd b now in record {
        kept = record {
          parts = blind sizes s.words vs bd b b now (subst (Parts sizes s.words) (sym (set_again vs bd b now)) parts) b'.fractions;
          places = record {
            wide = h.kept.places.wide;
            ended = each_set (AreBarred sizes s.words) (AreBarred sizes s.words) vs bd b' (h.kept.places.ended bd b there)
                (λ j u _ e. each_set (AreBarred sizes s.words) (AreBarred sizes s.words) s.views id w
                (λ p low l. h.kept.places.ended id v at p low (subst (λ (x : EndedView). p < x.ended) same l))
                (λ j u _ e. h.kept.places.ended j u e) j u e);
            quiet = each_set (AreQuiet sizes s.words) (AreQuiet sizes s.words) vs bd b' (h.kept.places.quiet bd b there)
                (λ j u _ e. each_set (AreQuiet sizes s.words) (AreQuiet sizes s.words) s.views id w
                (subst (λ (x : EndedView). AreQuiet sizes s.words (record v { places = x })) (sym same) (h.kept.places.quiet id v at))
                (λ j u _ e. h.kept.places.quiet j u e) j u e);
          };
        };
        homes = part.calm γ sizes s.words vs hs lie bd b now s.words b' (λ i p out. out) (λ i _. refl) (lie.moving bd b now);
        records = records.no_more sizes vs hs told bd b now b' (λ _. shown) hs
            record { owns = t.owns; owned = t.owned; sees = t.sees; waits = t.waits; waiting = t.waiting; inside = t.inside }
            mine (λ i p y _ _ l. inl l) (λ i m. m) (λ i a. a);
        counts = uncounted_alone sizes s.words vs made bd b now b' refl refl;
        filled = filled_same sizes vs fill bd b now b' refl refl refl (λ live. live);
        bank = bank;
        lasts = lasts;
        kinds = kind_steps.stays sizes s.words vs kinds told.each bd b now s.words b' (no_change sizes s.words)
            (kind_steps.knows_alike sizes s.words b b' (kinds.each bd b now) refl refl (λ i m. m) (λ i o. o) (λ r a. a) (λ i a. a))
            (same_post b b' refl refl refl refl (λ l. l) refl refl);
      }
