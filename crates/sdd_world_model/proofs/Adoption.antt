-- A close that scans takes over all that is left
use Rattle.std.proofs.Common.{◌≡◌, ◌⊎◌, inl, inr, ℕ, ◌<◌, ◌≤◌, List, [], length, Bool, refl, sym, ap, ◌∙◌, arith, true, false, None, nat_lt, subst}
use Rattle.std.specs.Prelude.{◌+◌, ◌==◌, ◌&&◌, Contains, if◌then◌else◌}
use Rattle.std.specs.List.{list_all}
use Rattle.std.proofs.lemmas.List.{get_or-set_same, get_or_past}
use Rattle.std.proofs.lemmas.Bool.Decides.{nat_tests}
use Rattle.sdd_participants.specs.Waiting.{Waiting, having_seen}
use Rattle.sdd_participants.specs.PlaceStates.{is_ended}
use Rattle.sdd_participants.specs.EpochState.{EpochState, with_place, nobody, is_open, phase_at, passes, last_count, rested}
use Rattle.sdd_participants.specs.EpochState as time
use Rattle.sdd_participants.specs.declared.participant.Participant.{Participant}
use Rattle.sdd_participants.proofs.Adoptions.{adopts, frees-below}
use Rattle.sdd_world_model.specs.World.{World, place_at}
use Rattle.sdd_world_model.specs.WorldInvariant.{IsWhole}
use Rattle.sdd_world_model.specs.Adopting.{AdoptsWhatIsLeft}
use Rattle.sdd_world_model.proofs.WorldInvariant.{below-or-past}
use Rattle.sdd_world_model.proofs.PlacesMatchStates.{nothing-waits}

-- the raise of the count changes no place
raised-same : {X : Type 0} (f : EpochState → X) (u : EpochState) → f (record u { count = u.count + 1 }) ≡ f u → (b : Bool) →
    f (if b then record u { count = u.count + 1 } else u) ≡ f u
raised-same f u e true = e
raised-same f u e false = refl

closed-is : (t : EpochState) (p : ℕ) → nat_lt 1 (time.place_at t p).guards ≡ false → is_open (time.place_at t p) ≡ true →
    ((time.place_at t p).countdown == 0) ≡ true → ((time.place_at t p).found == t.count) ≡ true → (s : EpochState) →
    s ≡ time.raised (record (time.adopted t p) { marked = false }) →
    time.closed t p ≡ with_place s p (rested t.marked (time.place_at s p))
closed-is t p one o c f s e = rw (one, o, c, f, ← e) refl

ended-inside : (t : EpochState) (q : ℕ) → length t.phases ≡ length t.places → is_ended (phase_at t q) ≡ true → (q < length t.places) ⊎ (length t.places ≤ q) →
    q < length t.places
ended-inside t q same e (inl l) = l
ended-inside t q same e (inr past) =
    let none : is_ended (phase_at t q) ≡ false = ap is_ended (get_or_past t.phases q None (omega (arith, past, same))) in absurd (cc)

-- what the adoption moved, where nothing is at the place any more
moved : {A B : Type 0} (ws : List Waiting) (w : Waiting) → ws ≡ [] → Contains ws w ⊎ (A × B) → B
moved ws w none (inl h) = absurd (nothing-waits ws w h none)
moved ws w none (inr h) = h.1

pub adopts-what-is-left : {T : Type 0} (w : World T) → IsWhole w → AdoptsWhatIsLeft w
adopts-what-is-left w i = λ p q scan over.
    let t = w.time in
    let x = place_at w p in
    let u = time.adopted t p in
    let s = time.raised (record u { marked = false }) in
    let a = adopts t p scan.place in
    let raises = nat_lt u.count last_count && list_all (passes u.count) u.places in
    let phases : s.phases ≡ u.phases = raised-same (λ (v : EpochState). v.phases) (record u { marked = false }) refl raises in
    let places : s.places ≡ u.places = raised-same (λ (v : EpochState). v.places) (record u { marked = false }) refl raises in
    let is =
    closed-is t p (rw scan.last refl) (rw scan.last refl) (rw scan.countdown refl) (grind (arith, nat_tests, scan.found)) s refl in
    let free : phase_at u q ≡ None = frees-below t p (length t.places) q (ended-inside t q i.housed.lengths over (below-or-past q (length t.places))) over in
    let bare : (time.place_at u q).bags.waiting ≡ [] = a.bare i.housed.bare q free in
    let inside : p < length s.places = omega (arith, scan.place.0, a.places, ap (λ (ps : List Participant). length ps) places) in
    let here : (time.place_at (time.closed t p) p).bags ≡ (time.place_at u p).bags =
    ap (λ (v : EpochState). (time.place_at v p).bags) is
    ∙ ap (λ (y : Participant). y.bags) (get_or-set_same s.places p (rested t.marked (time.place_at s p)) nobody inside)
    ∙ ap (λ (ps : List Participant). (time.place_at (record s { places = ps }) p).bags) places in (
      ap (λ (v : EpochState). phase_at v q) is ∙ ap (λ xs. phase_at (record s { phases = xs }) q) phases ∙ free,
      λ what seen h. subst (λ b. Contains b.waiting (having_seen 0 what)) (sym here)
          (moved (time.place_at u q).bags.waiting (having_seen seen what) bare (a.waits q (having_seen seen what) h)),
    )
