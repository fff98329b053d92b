-- What a line on a stack gives a participant: what it lets go of waits there, and nothing else of the time changes
use Rattle.sdd_script_model.proofs.Words.{◌≡◌, ◌+◌, ◌<◌, ◌++◌, ℕ, List, [], ◌∷◌, Bool, true, false, Option, length, refl, sym, ap, ◌∙◌, subst, if◌then◌else◌, get_or-set_same, set-set, Tag, Second, EpochState, nobody, with_place, Participant, Shared, Item, all_awaiting, World, place_at, standing_at, made_as, nulled, with_cell, with_standing, Gives, Gives-owner_given, Gives-range, Entry, emptied, first_slot, is_deleted, let_go_first, removed, trimmed, Pushes, Takes, stack_closed, Val, link_of, common_steps, arith}
use Rattle.sdd_core.specs.declared.tag.Tag.TheVariants.{None as no_tag}
use Rattle.sdd_participants.specs.EpochState as time

awaiting-append : (ks js : List ℕ) (x : Participant) → all_awaiting (ks ++ js) x ≡ all_awaiting js (all_awaiting ks x)
awaiting-append [] js x = refl
awaiting-append (k ∷ ks) js x = awaiting-append ks js (time.awaiting (Item k) x)

module _ (p : ℕ) where
  -- nothing
  pub gives-nothing : (v w : World Val) → w.time ≡ v.time → Gives p v w
  gives-nothing v w e = grind (arith, common_steps)

  -- one after another
  pub gives-then : {u v w : World Val} → p < length u.time.places → Gives p u v → Gives p v w → Gives p u w
  gives-then {u} {v} {w} l a b =
      let here : place_at v p ≡ all_awaiting a.slots (place_at u p) =
      ap (λ (t : EpochState). time.place_at t p) a.time ∙ get_or-set_same u.time.places p (all_awaiting a.slots (place_at u p)) nobody l in
      record {
        slots = a.slots ++ b.slots;
        time =
            b.time
            ∙ ap (λ (x : Participant). with_place v.time p (all_awaiting b.slots x)) here
            ∙ ap (λ (x : Participant). with_place v.time p x) (sym (awaiting-append a.slots b.slots (place_at u p)))
            ∙ ap (λ (t : EpochState). with_place t p (all_awaiting (a.slots ++ b.slots) (place_at u p))) a.time
            ∙ ap (λ (ps : List Participant). record u.time { places = ps })
            (set-set u.time.places p (all_awaiting a.slots (place_at u p)) (all_awaiting (a.slots ++ b.slots) (place_at u p)));
      }

  gives-let_go : (w : World Val) (c : ℕ) (t : Tag) (k l : ℕ) (next : Option ℕ) → Gives p w (let_go_first w p c t k l next)
  gives-let_go w c t k l next =
      let u : World Val = with_cell (with_cell w l (record { held = Option.None; tag = Second })) c (record { held = next; tag = t }) in
      let g = Gives-owner_given u p k (standing_at u k) refl in
      record { slots = g.slots; time = g.time }

  gives-if : (w u : World Val) → Gives p w u → (b : Bool) → Gives p w (if b then u else w)
  gives-if w u g true = g
  gives-if w u g false = gives-nothing w w refl

  pub gives-trimmed : (w : World Val) (c : ℕ) (t : Tag) (es : List (Entry Val)) → p < length w.time.places → Gives p w (trimmed link_of w p c t es)
  gives-trimmed w c t [] l = gives-nothing w w refl
  gives-trimmed w c t (e ∷ es) l =
      let u : World Val = let_go_first w p c t e.slot (link_of e.value) (first_slot es) in
      let first = gives-let_go w c t e.slot (link_of e.value) (first_slot es) in
      gives-if w (trimmed link_of u p c t es) (gives-then l first (gives-trimmed u c t es (Gives-range l first))) (is_deleted e)

  pub gives-emptied : (w : World Val) (c : ℕ) (t : Tag) (es : List (Entry Val)) → p < length w.time.places → Gives p w (emptied link_of w p c t es)
  gives-emptied w c t [] l = gives-nothing w w refl
  gives-emptied w c t (e ∷ es) l =
      let u : World Val = let_go_first w p c t e.slot (link_of e.value) (first_slot es) in
      let first = gives-let_go w c t e.slot (link_of e.value) (first_slot es) in
      gives-then l first (gives-emptied u c t es (Gives-range l first))

  pub gives-pushed : (w : World Val) (c : ℕ) (es : List (Entry Val)) (number k : ℕ) (new : World Val) → p < length w.time.places →
      Pushes w p c es number k new → Gives p w new
  gives-pushed w c es number k new l pushes =
      let x = pushes.entry in
      let made : World Val = made_as (nulled w (link_of x)) k x (Shared 2) in
      let g = gives-trimmed made c no_tag es l in
      subst (λ (u : World Val). Gives p w u) (sym pushes.pushed.world) (record { slots = g.slots; time = g.time })

  -- the first that isn't deleted, with those before it
  pub gives-removed : (w : World Val) (c : ℕ) (es : List (Entry Val)) (e : Entry Val) (rest : List (Entry Val)) → p < length w.time.places →
      Gives p w (removed link_of w p c no_tag es e rest)
  gives-removed w c es e rest l =
      let freed = gives-trimmed w c no_tag es l in
      let deleted : World Val = with_cell (trimmed link_of w p c no_tag es) (link_of e.value) (record { held = first_slot rest; tag = Second }) in
      let last = gives-let_go deleted c no_tag e.slot (link_of e.value) (first_slot rest) in
      gives-then {u = w} {v = deleted} l (record { slots = freed.slots; time = freed.time }) (record { slots = last.slots; time = last.time })

  pub gives-taken : (w : World Val) (c : ℕ) (es : List (Entry Val)) (e : Entry Val) (new : World Val) → p < length w.time.places →
      Takes w p c es e new → Gives p w new
  gives-taken w c es e new l takes =
      let g = gives-removed (with_standing w e.slot (Shared (takes.owners + 1))) c es e takes.rest l in
      subst (λ (v : World Val). Gives p w v) (sym takes.world) (record { slots = g.slots; time = g.time })

  pub gives-closed : (w : World Val) (c : ℕ) (es : List (Entry Val)) → p < length w.time.places → Gives p w (stack_closed w p c es)
  gives-closed w c es l = let g = gives-emptied w c no_tag es l in record { slots = g.slots; time = g.time }
