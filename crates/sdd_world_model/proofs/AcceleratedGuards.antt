-- What an accelerated guard leaves
use Rattle.std.proofs.Common.{◌≡◌, ◌≢◌, ◌++◌, IsTrue, subst, slice_index_or, ◌⊎◌, inl, inr, ℕ, ◌+◌, ◌<◌, ◌≤◌, List, [], ◌∷◌, length, Bool, true, false, nat_lt, refl, sym, ap, ◌∙◌, arith, Some, None, Option}
use Rattle.sdd_participants.specs.declared.waiting.LimboEntry.{LimboEntry}
use Rattle.sdd_participants.specs.declared.waiting.LimboEntry.TheVariants.{Item, Job}
use Rattle.std.specs.Prelude.{◌^◌, is_some}
use Rattle.sdd_participants.specs.EpochState.{EpochState, due_next, newcomer, nobody, is_open, with_place}
use Rattle.sdd_participants.specs.EpochState as time
use Rattle.sdd_participants.specs.declared.standing.Standing.TheVariants.{Owned, Retired}
use Rattle.sdd_world_model.specs.World.{World, AnyGuardOpen, IsPlaceOf, place_at, standing_at}
use Rattle.sdd_world_model.specs.WorldChanges.{made, retired, registered, freed, taken_out, waiting_value, reclaimed, all_reclaimed, opened, closed, accelerated}
use Rattle.sdd_world_model.specs.WorldChanges as steps
use Rattle.sdd_world_model.specs.OwnerOrCell.{OwnerOrCell}
use Rattle.sdd_world_model.specs.ReclaimBound.{accelerated_guard}
use Rattle.sdd_participants.specs.Slab.{IsEmptyAt}
use Rattle.sdd_world_model.specs.AcceleratedGuards.{HavePassed, ItemsPass, GuardsPass}
use Rattle.sdd_world_model.specs.Out.{is_out}
use Rattle.sdd_world_model.proofs.Out.{out-laws}
use Rattle.sdd_world_model.proofs.ParticipantChanges.{Gives-all_reclaimed}
use Rattle.sdd_world_model.proofs.GuardOpened.{how, Nests, IsChange, keeps-given_all, in_before}
use Rattle.sdd_world_model.proofs.AnyGuardOpen.{whichever, open-inside}
use Rattle.sdd_world_model.proofs.AcceleratedReclaim.{all-closed, not-guarded, still-closed, still-lives, still-place, ready-live}
use Rattle.std.proofs.lemmas.Bool.Decides.{nat_tests}
use Rattle.sdd_world_model.proofs.PlacesMatchStates.{each-place}
use Rattle.std.proofs.Math.ListN.{get_or-append}
use Rattle.sdd_world_model.proofs.WorldInvariant.{one_where, set-taken, below-or-past, append-last}
use Rattle.sdd_participants.proofs.Adoptions.{keeps-closed, same-or-not}
use Rattle.std.proofs.lemmas.List.{length-set, get_or-set_same, get_or-set_other}
use Rattle.sdd_participants.specs.declared.participant.Participant.{Participant}
use Rattle.sdd_participants.specs.declared.tally.Tally.{Tally}

module _ {T : Type 0} (holds : T → List OwnerOrCell) (p made in_place : ℕ) where
  -- so many items were made, and dropped in place
  abbrev Made : World T → Type 0
  Made w = (w.tally.made ≡ made) × (w.tally.in_place ≡ in_place)

  made-out : (w : World T) (k : ℕ) (v : Option T) → Made w → Made (taken_out holds w p k v)
  made-out w k None h = h
  made-out w k (Some v) h = keeps-given_all p Made (λ u j is g. g) (λ u c g. g) (λ u j n m is g. g) (freed w k) (holds v) h

  made-reclaimed : (w : World T) (x : LimboEntry) → Made w → Made (reclaimed holds w p x)
  made-reclaimed w (Item k) h = made-out w k (waiting_value w k (standing_at w k)) h
  made-reclaimed w (Job n) h = h

  made-all : (xs : List LimboEntry) (w : World T) → Made w → Made (all_reclaimed holds w p xs)
  made-all [] w h = h
  made-all (x ∷ xs) w h = made-all xs (reclaimed holds w p x) (made-reclaimed w x h)

  made-opened : (w : World T) → Made w → Nests holds w p ⊎ IsChange holds w p → Made (opened holds w p)
  made-opened w h (inl n) = (ap (λ (u : World T). u.tally.made) n.nests ∙ h.0, ap (λ (u : World T). u.tally.in_place) n.nests ∙ h.1)
  made-opened w h (inr c) =
      let end = made-all (due_next (place_at (steps.nested w p) p)) (steps.rotated (steps.nested w p) p) h in
      (ap (λ (u : World T). u.tally.made) c.change ∙ end.0, ap (λ (u : World T). u.tally.in_place) c.change ∙ end.1)

module _ {T : Type 0} (holds : T → List OwnerOrCell) where
  pub nesting-opened : (w : World T) (p : ℕ) → p < length w.time.places → Nests holds w p ⊎ IsChange holds w p
      → (opened holds w p).time.nesting ≡ w.time.nesting
  nesting-opened w p l (inl n) = ap (λ (u : World T). u.time.nesting) n.nests
  nesting-opened w p l (inr c) =
      let g = Gives-all_reclaimed holds (steps.rotated (steps.nested w p) p) p (due_next (place_at (steps.nested w p) p)) (in_before holds w p l) in
      ap (λ (u : World T). u.time.nesting) c.change ∙ ap (λ (t : EpochState). t.nesting) g.time

  pub guards-pass : (w : World T) → GuardsPass holds w
  guards-pass w = λ p l quiet.
      let shut = all-closed w quiet in
      let laws = out-laws holds w in
      let m = made-opened holds p w.tally.made w.tally.in_place w (refl, refl) (how holds w p l.0) in
      let ready = (accelerated (opened holds w p) p).time in
      record {
        quiet = not-guarded (accelerated_guard holds w p) (still-closed holds w p l shut);
        place = still-place holds w p l shut;
        live = still-lives holds w p l shut;
        nesting = (keeps-closed ready p (ready-live holds w p l shut)).nesting ∙ nesting-opened w p l.0 (how holds w p l.0);
        as_many_made = m.0;
        as_many_in_place = m.1;
        no_more_out = laws.opening p l.0;
        as_much_out = λ plain. laws.opening_plain plain p l.0;
      }

open-last : (x : Participant) (room : ℕ) → (x ≡ newcomer room) ⊎ (x ≡ nobody) → IsTrue (is_open x) → (b : Bool) → IsTrue b
open-last x room (inl e) o b = let never : false ≡ true = rw e at o in absurd (cc)
open-last x room (inr e) o b = let never : false ≡ true = rw e at o in absurd (cc)

-- a newcomer has no guard open
open-before : (t : EpochState) (p q : ℕ) → (b : Bool) → nat_lt p (length t.places) ≡ b → (q < length t.places) ⊎ (length t.places ≤ q) →
    IsTrue (is_open (time.place_at (time.registered t p) q)) → IsTrue (is_open (time.place_at t q))
open-before t p q true e where_q o =
    let l : p < length t.places = grind (arith, nat_tests, e) in
    let new : EpochState = with_place t p (newcomer t.room) in
    let there : IsTrue (is_open (time.place_at new q)) = rw e at o in
    each-place t p (newcomer t.room) (λ r y. IsTrue (is_open y) → IsTrue (is_open (time.place_at t r))) l (λ h. absurd (cc)) (λ r h. h) q there
open-before t p q false e (inl l) o =
    let there : IsTrue (is_open (slice_index_or (t.places ++ newcomer t.room ∷ []) q nobody)) = rw e at o in
    subst (λ (z : Participant). IsTrue (is_open z)) (get_or-append t.places (newcomer t.room ∷ []) nobody q l) there
open-before t p q false e (inr past) o =
    let there : IsTrue (is_open (slice_index_or (t.places ++ newcomer t.room ∷ []) q nobody)) = rw e at o in
    open-last (slice_index_or (t.places ++ newcomer t.room ∷ []) q nobody) t.room (append-last t.places (newcomer t.room) q past) there
    (is_open (time.place_at t q))

module _ {T : Type 0} where
  still-open : (w : World T) (p k q : ℕ) → p < length w.time.places → IsTrue (is_open (place_at (retired w p k) q)) → (q ≡ p) ⊎ (q ≢ p) →
      IsTrue (is_open (place_at w q))
  still-open w p k q l o (inl e) =
      let x : Participant = time.awaiting (Item k) (place_at w p) in
      let here : place_at (retired w p k) p ≡ x = get_or-set_same w.time.places p x nobody l in
      subst (λ (m : ℕ). IsTrue (is_open (place_at w m))) (sym e)
      (subst (λ (z : Participant). IsTrue (is_open z)) here (subst (λ (m : ℕ). IsTrue (is_open (place_at (retired w p k) m))) e o))
  still-open w p k q l o (inr apart) =
      subst (λ (z : Participant). IsTrue (is_open z)) (get_or-set_other w.time.places p q (time.awaiting (Item k) (place_at w p)) nobody apart) o

  retired-guards : (w : World T) (p k : ℕ) → p < length w.time.places → AnyGuardOpen (retired w p k) → AnyGuardOpen w
  retired-guards w p k l (q, x, inside, here, o) =
      let there : IsTrue (is_open (place_at (retired w p k) q)) =
      subst (λ (z : Participant). IsTrue (is_open z)) (sym here ∙ whichever (retired w p k).time.places q x nobody inside) o in
      open-inside w.time.places q (below-or-past q (length w.time.places)) (still-open w p k q l there (same-or-not q p))

  pub registered-guards : (w : World T) (p : ℕ) → AnyGuardOpen (registered w p) → AnyGuardOpen w
  registered-guards w p (q, x, inside, here, o) =
      let there : IsTrue (is_open (place_at (registered w p) q)) =
      subst (λ (z : Participant). IsTrue (is_open z)) (sym here ∙ whichever (registered w p).time.places q x nobody inside) o in
      let past = below-or-past q (length w.time.places) in
      open-inside w.time.places q past (open-before w.time p q (nat_lt p (length w.time.places)) refl past there)

  item-passes : (w : World T) (p k : ℕ) (value : T) → IsPlaceOf w p → IsEmptyAt w.standings k → w.tally.made + 1 < 2 ^ 128 →
      HavePassed 1 w (retired (made w k value) p k)
  item-passes w p k value l free room =
      let u = made w k value in
      let laws = out-laws (λ (v : T). []) in
      let owned : standing_at u k ≡ Some Owned = get_or-set_same w.standings k (Some Owned) None free.0 in
      let inside : k < length u.standings = omega (arith, length-set w.standings k (Some Owned), free.0) in
      let none : one_where (is_some (standing_at w k)) ≡ 0 = rw free.1 refl in
      let one : one_where (is_some (standing_at u k)) ≡ 1 = rw owned refl in
      record {
        quiet = λ q h. q (retired-guards u p k l.0 h);
        as_much_out = omega (arith, (laws w).making k value free, (laws u).retiring p k (ap is_out owned));
        taken = omega (arith, set-taken w k (Some Owned) free.0, set-taken u k (Some Retired) inside, none, one);
        slots = length-set u.standings k (Some Retired) ∙ length-set w.standings k (Some Owned);
        places = length-set w.time.places p (time.awaiting (Item k) (place_at w p));
        live = refl;
        nesting = refl;
        count = refl;
        made = omega (arith, room);
        in_place = refl;
      }

pub items-pass : (T : Type 0) → ItemsPass T
items-pass T =
    record {
      one = item-passes;
      more = λ u v w m n a b. record {
        quiet = λ q. b.quiet (a.quiet q);
        as_much_out = b.as_much_out ∙ a.as_much_out;
        taken = omega (arith, a.taken, b.taken);
        slots = b.slots ∙ a.slots;
        places = b.places ∙ a.places;
        live = b.live ∙ a.live;
        nesting = b.nesting ∙ a.nesting;
        count = b.count ∙ a.count;
        made = omega (arith, a.made, b.made);
        in_place = b.in_place ∙ a.in_place;
      };
    }

-- a tally is its three numbers
pub tally_is : (t : Tally) (made reclaimed in_place : ℕ) → t.made ≡ made → t.reclaimed ≡ reclaimed → t.in_place ≡ in_place →
    t ≡ record { made = made; reclaimed = reclaimed; in_place = in_place }
tally_is t m r i a b c =
    ap (λ (n : ℕ). record t { made = n }) a
    ∙ ap (λ (n : ℕ). record t { made = m; reclaimed = n }) b
    ∙ ap (λ (n : ℕ). record t { made = m; reclaimed = r; in_place = n }) c
