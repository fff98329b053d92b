-- The close of a collector by a lone participant, for its world: what waits for the collector comes out of the bags, is reclaimed, and the cell is free
use Rattle.std.proofs.Common.{◌≡◌, ℕ, ◌/◌, ◌<◌, ◌==◌, Bool, true, false, List, Some, None, length, map, not, suc, sym, refl, ap, ◌∙◌, ne_eqb, arith}
use Rattle.std.specs.Prelude.{Option, replicate, option_map, if◌then◌else◌}
use Rattle.std.proofs.lemmas.List.{get_or-map, get_or_past, append-nil, length-map}
use mathlib.Core.Logic.{dite}
use native.Mathlib.Decide.{dec_lt}
use Rattle.sdd_participants.specs.Collecting.{is_private_to, chosen_of, rest_of, without, chosen_among, time_without}
use Rattle.sdd_participants.specs.Slab.{entry_at}
use Rattle.sdd_participants.specs.Waiting.{Waiting}
use Rattle.sdd_participants.specs.declared.participant.Participant.{Participant}
use Rattle.sdd_participants.specs.declared.standing.Standing.TheVariants.{Owned, Raw, Shared, Retired, Private}
use Rattle.sdd_participants.specs.declared.waiting.LimboEntry.{LimboEntry}
use Rattle.sdd_participants.specs.declared.waiting.LimboEntry.TheVariants.{Item, Job}
use Rattle.sdd_domain_invariant.specs.Codes.{alive, counted, waiting, waits_for as word_waits_for}
use Rattle.sdd_domain_invariant.proofs.Codes.{waits_privately}
use Rattle.sdd_world_model.specs.World.{World, standing_at}
use Rattle.sdd_world_model.specs.Collecting.{is_for, waiting_for}
use Rattle.sdd_domain_core.specs.Collectors.{takes_for, waits_for}
use Rattle.sdd_domain_steps.specs.Local.{LocalModel, owner_standing, standing_by, standing_in, world_of}
use Rattle.sdd_domain_steps.specs.LocalState.{word_of}
use Rattle.sdd_domain_steps.specs.PrivateTable.{standings_of}
use Rattle.sdd_domain_steps.proofs.KeptLists.{filter_alike}
use Rattle.sdd_domain_core.proofs.Listings.{listing_at, listing_past}
use Rattle.sdd_domain_core.proofs.Words.{stands_private}

-- ---- how a slot stands by its word that waits for no collector, or for another one
owner_public : (c : ℕ) (word : ℕ) (b : Bool) → is_private_to c (Some (if b then Shared (alive word) else Owned)) ≡ false
owner_public c word true = refl
owner_public c word false = refl

by_tests : (c : ℕ) (word : ℕ) (free waits raw named : Bool) → (named ≡ true → (word / 16 == c) ≡ false)
    → is_private_to c (if free then None else (if waits then Some Retired else (if raw then Some Raw
    else Some (if named then Private (word / 16) else owner_standing word)))) ≡ false
by_tests c word true waits raw named other = refl
by_tests c word false true raw named other = refl
by_tests c word false false true named other = refl
by_tests c word false false false true other = other refl
by_tests c word false false false false other = owner_public c word (counted word == 1)

-- it isn't private to this one
not_private : (c word : ℕ) → word_waits_for c word ≡ 0 → is_private_to c (standing_by word) ≡ false
not_private c word none = by_tests c word (word == 0) (waiting word == 1) (word == 2) (word_waits_for (word / 16) word == 1)
    (λ named. ne_eqb (word / 16) c (λ same. let one : word_waits_for (word / 16) word ≡ 1 = grind arith in
    let here = ap (λ (k : ℕ). word_waits_for k word) same in absurd (omega arith)))

-- a slot's word and what its participant has of it in its table agree
pub record IsTabled (word : ℕ) (kept : Option ℕ) : Type 0 where
  pub named : (k : ℕ) → kept ≡ Some k → 0 < word_waits_for k word
  pub none : (k : ℕ) → kept ≡ None → word_waits_for k word ≡ 0

alike_by : (c word : ℕ) (kept : Option ℕ) → IsTabled word kept → is_private_to c (option_map Private kept) ≡ is_private_to c (standing_by word)
alike_by c word None t = sym (not_private c word (t.none c refl))
alike_by c word (Some k) t = let w = waits_privately k word (t.named k refl) in let small = w.0 in let is = w.1 in
    sym (ap (λ (x : ℕ). is_private_to c (standing_by x)) w.1 ∙ ap (is_private_to c) (stands_private k (omega arith)))

module _ {T J : Type 0} (v : LocalModel T J) (c : ℕ) where
  abbrev world : World T
  world = world_of v

  module _ (tabled : (slot : ℕ) → slot < v.member.limits.slots → IsTabled (word_of v.member slot) (entry_at v.member.collectors slot))
      (wide : length v.member.collectors ≡ v.member.limits.slots) where
    kept_at : (i : ℕ) → entry_at (standings_of v.member.collectors) i ≡ option_map Private (entry_at v.member.collectors i)
    kept_at i = dite (dec_lt i (length v.member.collectors))
        (λ low. get_or-map (option_map Private) v.member.collectors i None None low)
        (λ far. get_or_past (standings_of v.member.collectors) i None (omega (arith, length-map v.member.collectors (option_map Private)))
        ∙ sym (ap (option_map Private) (get_or_past v.member.collectors i None (omega arith))))

    -- its table says of each slot what its world says
    slot_alike : (i : ℕ) → is_private_to c (entry_at (standings_of v.member.collectors) i) ≡ is_private_to c (standing_at world i)
    slot_alike i = ap (is_private_to c) (kept_at i) ∙ dite (dec_lt i v.member.limits.slots)
        (λ low. alike_by c (word_of v.member i) (entry_at v.member.collectors i) (tabled i low)
        ∙ sym (ap (is_private_to c) (listing_at v.member.limits.slots (standing_in v) i None low)))
        (λ far. ap (λ (o : Option ℕ). is_private_to c (option_map Private o)) (get_or_past v.member.collectors i None (omega arith))
        ∙ sym (ap (is_private_to c) (listing_past v.member.limits.slots (standing_in v) i None (omega arith))))

    pub waits_alike : (x : LimboEntry) → waits_for v.member c x ≡ is_for world c x
    waits_alike (Item i) = slot_alike i
    waits_alike (Job j) = refl

    pub rest_alike : (ws : List Waiting) → rest_of (waits_for v.member c) ws ≡ rest_of (is_for world c) ws
    rest_alike ws = filter_alike (λ (w : Waiting). not (waits_for v.member c w.what)) (λ (w : Waiting). not (is_for world c w.what)) ws
        (λ k w at. ap not (waits_alike w.what))

    pub chosen_alike : (ws : List Waiting) → chosen_of (waits_for v.member c) ws ≡ chosen_of (is_for world c) ws
    chosen_alike ws = filter_alike (waits_for v.member c) (is_for world c) (map (λ (w : Waiting). w.what) ws) (λ k x at. waits_alike x)

    -- what comes out of its bags is what waits for the collector anywhere: it has the only bags
    pub taken_alike : v.member.place ≡ 0 → (takes_for c v.member).due ≡ waiting_for world c
    taken_alike first = chosen_alike v.member.own.bags.waiting ∙ (sym (append-nil (chosen_of (is_for world c) v.member.own.bags.waiting))
        ∙ ap (λ (n : ℕ). chosen_among (is_for world c) (replicate (suc n) v.member.own)) (sym first))

    -- and its world is one in which nothing waits for it
    pub world_taken : v.member.place ≡ 0
        → world_of (record v { member = takes_for c v.member }) ≡ record world { time = time_without (is_for world c) world.time }
    world_taken first = let own : Participant = without (waits_for v.member c) v.member.own in
        let same : own ≡ without (is_for world c) v.member.own
        = ap (λ (ws : List Waiting). record v.member.own { bags = record v.member.own.bags { waiting = ws } }) (rest_alike v.member.own.bags.waiting) in
        λ d. record (world_of (record v { member = takes_for c v.member })) {
          time = record world.time {
            places = (ap (λ (n : ℕ). replicate (suc n) own) first
                ∙ (ap (λ (p : Participant). replicate 1 p) same
                ∙ sym (ap (λ (n : ℕ). map (without (is_for world c)) (replicate (suc n) v.member.own)) first))) d;
          };
        }
