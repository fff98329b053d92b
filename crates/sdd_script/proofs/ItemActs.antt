-- What the making of an item leaves in hand, and what an item shows: it is sound, and it is what the call means
use Rattle.sdd_script.proofs.Words.{Refused, ◌≡◌, ℕ, List, [], ◌∷◌, ◌++◌, Option, Some, None, is_some, map, length, slice_index_or, slice_set, refl, sym, ap, ◌∙◌, subst, option_map, Vec, length-map, map-set, map_push, IsEmptyAt, nulled, World, value_at, index_of, PlaceName, GuardName, OwnerName, ItemName, At, Value, Of, Body, Val, body_of, link_of, OwnerKind, AnyOwner, NamedParticipant, Environment, ScriptState, holding_at, slot_at, slot_of, in_world, with_owner, Acts, Meets, HasOpen, IsThereToPut, CanPointTo, told_of, BecomesBody, owner_holding, state_of, making, holding_first, Does, Here, attends, leaves, sits, still, IsPutIn, Makes, RefusesItem, arith, common_steps, link_home, made-leaves, made_as, named as named-as, owners_left, put_in, standing_first}
use Rattle.sdd_script_text.specs.Actions as call
use Rattle.sdd_script_text.specs.declared.call.Value.TheVariants.{Number}
use Rattle.sdd_script_text.specs.declared.answer.Reply.TheVariants as reply
use Rattle.sdd_script_model.specs.declared.val.Body.TheVariants as body
use Rattle.sdd_script_model.specs.ScriptState.{with_item}

module _ {h : Environment} (name : PlaceName) {a : NamedParticipant} (at : Here h name.0 a) where
  abbrev d : ScriptState
  d = state_of h

  abbrev n : ℕ
  n = name.0

  abbrev p : ℕ
  p = index_of a.place

  -- what an owner or an item shows
  pub acts-read : (o : OwnerName) (x : AnyOwner) (k : ℕ) (v : Val) → slice_index_or h.owners.entries.items o.0 None ≡ Some x →
      slot_of (Some (owner_holding x)) ≡ Some k → value_at h.world k ≡ Some v →
      Acts d (At name (call.Read o)) (told_of h.log.names.items (body_of v)) d
  acts-read o x k v mine slot shown = still d (At name (call.Read o)) (told_of h.log.names.items (body_of v)) (by (body_of v) refl) where
    its : slot_of (holding_at d.owners o.0) ≡ Some k
    its = ap slot_of (named-as owner_holding h.owners.entries.items o.0 mine) ∙ slot

    by : (b : Body) → body_of v ≡ b → Meets d (At name (call.Read o)) (told_of h.log.names.items b) d
    by (body.Number m) e = ((attends at, ap is_some its), ((k, its, (v, shown, ap (told_of h.log.names.items) (sym e))), refl))
    by other e = ((attends at, ap is_some its), ((k, its, (v, shown, ap (told_of h.log.names.items) (sym e))), refl))

  pub acts-looked : (i : ItemName) (g : GuardName) (v : Val) → HasOpen d n g.0 → CanPointTo d n i.0 →
      value_at h.world (slot_at d i.0) ≡ Some v → Acts d (At name (call.Look i g)) (told_of h.log.names.items (body_of v)) d
  acts-looked i g v valid can shown = still d (At name (call.Look i g)) (told_of h.log.names.items (body_of v)) (by (body_of v) refl) where
    by : (b : Body) → body_of v ≡ b → Meets d (At name (call.Look i g)) (told_of h.log.names.items b) d
    by (body.Number m) e = ((valid, can), ((v, shown, ap (told_of h.log.names.items) (sym e)), refl))
    by other e = ((valid, can), ((v, shown, ap (told_of h.log.names.items) (sym e)), refl))

  -- ---- items

  -- what becomes the body of an item is what the line puts in
  put-is : (value : Value) (b : Body) (between : List (Option AnyOwner)) → BecomesBody h.owners.entries.items value between b →
      IsPutIn d value b × IsThereToPut d value × (map (option_map owner_holding) between ≡ owners_left d.owners value)
  put-is (Number m) b between becomes = (becomes.0, tt, ap (map (option_map owner_holding)) becomes.1)
  put-is (Of o) b between (x, entry, is_body, taken) = (
    (owner_holding x, named-as owner_holding h.owners.entries.items o.0 entry, grind (arith, common_steps), is_body),
    (let named = named-as owner_holding h.owners.entries.items o.0 entry in grind (arith, named)),
    ap (map (option_map owner_holding)) taken ∙ map-set (option_map owner_holding) h.owners.entries.items o.0 None,
  )

  module _ (value : Value) (k c : ℕ) (v : Val) where
    abbrev new_world : OwnerKind → World Val
    new_world own = made_as (nulled h.world c) k v (standing_first own)

    made-meets : (own : OwnerKind) (o : OwnerName) (i : ItemName) → IsThereToPut d value → Makes d value (standing_first own) k (new_world own) →
        o.0 ≡ length d.owners → i.0 ≡ length d.slots → Meets d (At name (making own value)) (reply.Item o i)
        (with_owner (in_world (with_item (put_in d value) k) (new_world own)) (holding_first own k h.world.home.slots))
    made-meets own o i h h2 h3 h4 = grind (arith, common_steps)

    pub acts-made : (own : OwnerKind) (w : World Val) (between owners : Vec (Option AnyOwner)) (slots : Vec ℕ) (names : Vec (Option ℕ)) (x : AnyOwner)
        (b : Body) (o : OwnerName) (i : ItemName) → BecomesBody h.owners.entries.items value between.items b → body_of v ≡ b →
        IsEmptyAt h.world.cells c → IsEmptyAt h.world.standings k → link_of v ≡ c → link_home v ≡ h.world.home.cells →
        w ≡ new_world own → owner_holding x ≡ holding_first own k h.world.home.slots →
        owners.items ≡ between.items ++ Some x ∷ [] → slots.items ≡ h.log.slots.items ++ k ∷ [] →
        names.items ≡ slice_set h.log.names.items k (Some (length h.log.slots.items)) → o.0 ≡ length h.owners.entries.items → i.0 ≡ length h.log.slots.items →
        Does d (At name (making own value)) (reply.Item o i)
        (record h { world = w; owners = record { entries = owners }; log = record h.log { slots = slots; names = names } })
    acts-made own w between owners slots names x b o i becomes is_body cell slot link home world holding pushed longer written named item =
        let put = put-is value b between.items becomes in
        let body_put : IsPutIn d value (body_of v) = subst (IsPutIn d value) (sym is_body) put.0 in
        let more_owners : map (option_map owner_holding) owners.items ≡ owners_left d.owners value ++ Some (holding_first own k h.world.home.slots) ∷ [] =
        ap (map (option_map owner_holding)) pushed ∙ map_push (option_map owner_holding) between.items (Some x)
        ∙ ap (λ hs. hs ++ Some (owner_holding x) ∷ []) put.2 ∙ ap (λ z. owners_left d.owners value ++ Some z ∷ []) holding in
        leaves at refl (cc (world, more_owners, longer, written))
        (made-leaves d at.tied.sound at.whole own value p k c v (sits at) cell slot body_put link)
        (made-meets own o i put.1
        (record { cell = c; entry = v; free_cell = cell; free_slot = slot; body = body_put; link = link; home = home; made = refl })
        (named ∙ sym (length-map h.owners.entries.items (option_map owner_holding))) item)

  pub refused-meets : (own : OwnerKind) (value : Value) (refused : Refused) → IsThereToPut d value → RefusesItem h.world refused →
      Meets d (At name (making own value)) (reply.Refused refused) d
  refused-meets own value refused h h2 = grind (arith, common_steps)
