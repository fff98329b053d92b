-- How many guards are open at each place, after each step of time
use Rattle.std.proofs.Common.{◌≡◌, ◌≢◌, ◌⊎◌, ℕ, ◌+◌, ◌-◌, ◌<◌, ◌==◌, Bool, true, false, if◌then◌else◌, nat_lt, List, [], ◌∷◌, ◌++◌, Some, IsTrue, length, slice_index_or, slice_set, inl, inr, refl, sym, ap, ◌∙◌, subst, eq-eqb, ne_eqb, ltb-false, ltb-true, lt-ltb, arith}
use Rattle.std.proofs.lemmas.Bool.{cases_eq}
use Rattle.std.proofs.lemmas.Grind.{common_steps}
use Rattle.std.proofs.lemmas.List.{length-set, set-set, get_or_past, get_or_push, get_or-set_same, get_or-set_other}
use Rattle.sdd_participants.specs.Slab.{with_entry}
use Rattle.sdd_participants.specs.declared.place_states.PlaceState.TheVariants.{Live}
use Rattle.sdd_participants.specs.declared.participant.Participant.{Participant}
use Rattle.sdd_participants.specs.EpochState as time
use Rattle.sdd_participants.specs.EpochState.{EpochState, IsLive, KeepsPlaces, lives, nobody, newcomer, place_at, with_place, is_open, opened, caught_up}
use Rattle.sdd_world_model.specs.ParticipantChanges.{closed_with}
use Rattle.sdd_world_model.proofs.GuardClosed.{how-closed, own-closed}
use Rattle.sdd_world_model.proofs.WorldInvariant.{one_where}

pub one-if : (a b : ℕ) → a ≡ b → one_where (a == b) ≡ 1
one-if a b e = ap one_where (eq-eqb a b e)

pub none-if : (a b : ℕ) → a ≢ b → one_where (a == b) ≡ 0
none-if a b ne = ap one_where (ne_eqb a b ne)

guards-set : (ps : List Participant) (p q : ℕ) (x : Participant) → p < length ps →
    ((p ≡ q) × ((slice_index_or (slice_set ps p x) q nobody).guards ≡ x.guards) × ((slice_index_or ps p nobody).guards ≡ (slice_index_or ps q nobody).guards))
    ⊎ ((p ≢ q) × ((slice_index_or (slice_set ps p x) q nobody).guards ≡ (slice_index_or ps q nobody).guards))
guards-set ps p q x lt =
    elim (cases_eq p q) [
      | inl e ↦ inl (e, rw (sym e) (ap (λ (y : Participant). y.guards) (get_or-set_same ps p x nobody lt)), rw e refl)
      | inr ne ↦ inr (ne, ap (λ (y : Participant). y.guards) (get_or-set_other ps p q x nobody (λ e. ne (sym e))))
    ]

-- the place of p alone was written, and it has one more guard
pub record Opens (p : ℕ) (t new : EpochState) : Type 0 where
  pub own : Participant
  pub is : new ≡ with_place t p own
  pub more : own.guards ≡ (place_at t p).guards + 1

pub how-opened : (t : EpochState) (p : ℕ) → p < length t.places → Opens p t (opened t p)
how-opened t p lt = by (is_open (place_at t p)) where
  u : EpochState
  u = time.nested_at t p

  rotated : Participant
  rotated = time.rotated u.count (place_at u p)

  settled : Participant
  settled = time.settled (place_at (time.rotated_at u p) p)

  nested : Opens p t u
  nested = record { own = time.nested (place_at t p); is = refl; more = refl }

  caught : (b : Bool) → Opens p t (if b then time.settled_at (time.rotated_at u p) p else u)
  caught false = nested
  caught true = record {
    own = settled;
    is = ap (λ ps. record t { places = ps }) (ap (λ ps. slice_set ps p settled) (set-set t.places p (time.nested (place_at t p)) rotated)
        ∙ set-set t.places p rotated settled);
    more = ap (λ (x : Participant). x.guards)
        (get_or-set_same u.places p rotated nobody (omega (arith, lt, length-set t.places p (time.nested (place_at t p)))))
        ∙ ap (λ (x : Participant). x.guards) (get_or-set_same t.places p (time.nested (place_at t p)) nobody lt);
  }

  by : (b : Bool) → Opens p t (if b then u else caught_up u p)
  by true = nested
  by false = caught (time.finds_another u p)

pub guards-opened : (t : EpochState) (p q : ℕ) → IsLive t p → (place_at (opened t p) q).guards ≡ (place_at t q).guards + one_where (p == q)
guards-opened t p q live =
    let o = how-opened t p live.0 in
    let here : (place_at (opened t p) q).guards ≡ (place_at (with_place t p o.own) q).guards = ap (λ (u : EpochState). (place_at u q).guards) o.is in
    elim (guards-set t.places p q o.own live.0) [
      | inl h ↦ omega (arith, here, o.more, h.1, h.2, one-if p q h.0)
      | inr h ↦ omega (arith, here, h.1, none-if p q h.0)
    ]

-- one guard of p fewer
pub guards-closed : (t : EpochState) (p q : ℕ) → IsLive t p → 0 < (place_at t p).guards →
    (place_at (time.closed t p) q).guards + one_where (p == q) ≡ (place_at t q).guards
guards-closed t p q live some =
    elim (cases_eq p q) [
      | inl e ↦ rw (sym e) (
          let own = own-closed t p live in
          let here : (place_at (time.closed t p) p).guards ≡ (closed_with own.marked (time.adopting own.left (place_at t p))).guards =
          ap (λ x. x.guards) own.own in
          omega (arith, here, fewer own.marked (time.adopting own.left (place_at t p)) some, one-if p p refl)
          )
      | inr ne ↦ omega (arith, (how-closed t p live).guards q (λ e. ne (sym e)), none-if p q ne)
    ] where
      fewer : (marked : Bool) (x : Participant) → 0 < x.guards → (closed_with marked x).guards + 1 ≡ x.guards
      fewer marked x some = by (nat_lt 1 x.guards) refl where
        by : (b : Bool) → nat_lt 1 x.guards ≡ b → (if b then record x { guards = x.guards - 1 }
            else (if is_open x then record x { guards = 0; countdown = time.counted_down marked x.countdown } else x)).guards + 1 ≡ x.guards
        by true e = omega (arith, some)
        by false e = rw (lt-ltb 0 x.guards some) (let few = ltb-false 1 x.guards e in omega (arith, few, some))

-- a newcomer has none, as its place had before
pub guards-registered : (t : EpochState) (p q : ℕ) → (place_at t p).guards ≡ 0 → (place_at (time.registered t p) q).guards ≡ (place_at t q).guards
guards-registered t p q none = by (nat_lt p (length t.places)) refl where
  new : Participant
  new = newcomer t.room

  by : (b : Bool) → nat_lt p (length t.places) ≡ b → (place_at (if b then record t { places = slice_set t.places p new; phases = with_entry t.phases p Live }
      else record t { places = t.places ++ new ∷ []; phases = t.phases ++ Some Live ∷ [] }) q).guards ≡ (place_at t q).guards
  by true e =
      elim (guards-set t.places p q new (ltb-true p (length t.places) e)) [
        | inl h ↦ omega (arith, h.1, h.2, none)
        | inr h ↦ h.1
      ]
  by false e =
      elim (cases_eq q (length t.places)) [
        | inl is ↦
            let last : slice_index_or (t.places ++ new ∷ []) q nobody ≡ new = get_or_push t.places new nobody q (sym is) in
            let past : slice_index_or t.places q nobody ≡ nobody = get_or_past t.places q nobody (omega (arith, is)) in
            ap (λ (x : Participant). x.guards) last ∙ sym (ap (λ (x : Participant). x.guards) past)
        | inr ne ↦
            let same : slice_index_or (t.places ++ new ∷ []) q nobody ≡ slice_index_or t.places q nobody = grind (arith, common_steps) in
            ap (λ (x : Participant). x.guards) same
      ]

-- who is live there is live after a close
pub still-live : (t u : EpochState) (q : ℕ) → KeepsPlaces t u → IsLive t q → IsLive u q
still-live t u q k live = (omega (arith, live.0, k.places), subst (λ (bs : List Bool). IsTrue (slice_index_or bs q false)) (sym k.lives) live.1)
