-- What an opening of a lone participant does to its world before anything is reclaimed, and that all is tied after it
use Rattle.std.proofs.Common.{◌≡◌, ◌≢◌, ℕ, ◌<◌, ◌==◌, false, List, [], ◌∷◌, map, sym, refl, ap, ◌∙◌, subst, eq-eqb, ne_eqb, arith}
use Rattle.std.specs.Prelude.{if◌then◌else◌}
use mathlib.Core.Logic.{dite}
use native.Mathlib.Decide.{ℕ_discrete}
use Rattle.sdd_participants.specs.EpochState.{due_next}
use Rattle.sdd_participants.specs.EpochState as time
use Rattle.sdd_domain_invariant.specs.Slots.SlotSteps.{older, older_private, aged as aged_slots}
use Rattle.sdd_domain_invariant.proofs.Sums.{total_map}
use Rattle.sdd_world_model.specs.WorldChanges.{nested, rotated}
use Rattle.sdd_domain_steps.specs.LocalState.{LocalState, IsLone, IsEntered}
use Rattle.sdd_domain_steps.specs.InBags.{AreInBags, known_waiting, private_for}
use Rattle.sdd_domain_steps.specs.WordsAndValues.{AreTied}
use Rattle.sdd_domain_steps.specs.Local.{LocalModel}
use Rattle.sdd_domain_steps.proofs.Arrivals.{same_items}
use Rattle.sdd_domain_steps.proofs.InBags.{all_older}
use Rattle.sdd_domain_core.proofs.LoneCalls.{alone}

module _ {T J : Type 0} (p : LocalModel T J) (tied : AreTied p.member p.entries) (settled : p.member.due ≡ []) where
  module _ (count : ℕ) (m : LocalState J) (one : IsLone p.member) (is : IsEntered count p.member m) where
    found : count ≡ p.member.known
    found = (is.lone one).0

    abbrev same_member : LocalState J
    same_member = record p.member { own = time.nested p.member.own; since = p.member.known; due = [] }

    abbrev changed_member : LocalState J
    changed_member = record p.member {
      own = time.nested (time.rotated p.member.known p.member.own);
      since = p.member.known;
      slots = aged_slots p.member.slots;
      due = due_next p.member.own;
    }

    hit : p.member.own.found ≡ p.member.known → (p.member.own.found == count) ≡ Rattle.std.proofs.Common.true
    hit e = eq-eqb p.member.own.found count (e ∙ sym found)

    miss : p.member.own.found ≢ p.member.known → (p.member.own.found == count) ≡ false
    miss ne = ne_eqb p.member.own.found count (λ e. ne (e ∙ found))

    pub is_same_member : p.member.own.found ≡ p.member.known → m ≡ same_member
    is_same_member e = let b = hit e in let since = (is.lone one).1 in is.member ∙ (λ d. record p.member {
      own = time.nested (if b d then p.member.own else time.rotated count p.member.own);
      known = since d;
      since = since d;
      slots = record p.member.slots {
        waits = if b d then p.member.slots.waits else map older p.member.slots.waits;
        privates = if b d then p.member.slots.privates else map older_private p.member.slots.privates;
      };
      due = if b d then [] else due_next p.member.own;
    })

    pub is_changed_member : p.member.own.found ≢ p.member.known → m ≡ changed_member
    is_changed_member ne = let b = miss ne in let since = (is.lone one).1 in is.member ∙ (λ d. record p.member {
      own = time.nested (if b d then p.member.own else time.rotated (found d) p.member.own);
      known = since d;
      since = since d;
      slots = record p.member.slots {
        waits = if b d then p.member.slots.waits else map older p.member.slots.waits;
        privates = if b d then p.member.slots.privates else map older_private p.member.slots.privates;
      };
      due = if b d then [] else due_next p.member.own;
    })

    -- one guard more is open, and where another count is found what waits has seen one change more
    pub enters_same : p.member.own.found ≡ p.member.known → alone (record p { member = m }) ≡ nested (alone p) 0
    enters_same e = ap (λ (x : LocalState J). alone (record p { member = x })) (is_same_member e)

    pub enters_changed : p.member.own.found ≢ p.member.known → alone (record p { member = m }) ≡ rotated (nested (alone p) 0) 0
    enters_changed ne = ap (λ (x : LocalState J). alone (record p { member = x })) (is_changed_member ne)

    tied_same : p.member.own.found ≡ p.member.known → AreTied same_member p.entries
    tied_same e = record {
      place = tied.place;
      slots = tied.slots;
      long = tied.long;
      places = tied.places;
      all_cells = tied.all_cells;
      wide = tied.wide;
      table = tied.table;
      jobs = tied.jobs;
      plain = tied.plain;
      waits = tied.waits;
      privates = tied.privates;
      kept = tied.kept;
      bags = subst (AreInBags p.member.limits.slots (known_waiting p.member.slots) p.member.own.bags.waiting) settled tied.bags;
      now = λ _. sym e;
    }

    tied_changed : AreTied changed_member p.entries
    tied_changed = record {
      place = tied.place;
      slots = tied.slots;
      long = tied.long;
      places = tied.places;
      all_cells = tied.all_cells;
      wide = tied.wide;
      table = tied.table;
      jobs = tied.jobs;
      plain = tied.plain;
      waits = λ i l. same_items i p.member.slots.waits ∙ tied.waits i l;
      privates = λ i l c. total_map (private_for c i) older_private (λ x. refl) p.member.slots.privates ∙ tied.privates i l c;
      kept = tied.kept;
      bags = all_older p.member.limits.slots (known_waiting p.member.slots) p.member.own.bags.waiting p.member.due tied.bags settled;
      now = λ _. refl;
    }

    pub tied_enters : AreTied m p.entries
    tied_enters = dite (ℕ_discrete p.member.own.found p.member.known)
        (λ e. subst (λ (x : LocalState J). AreTied x p.entries) (sym (is_same_member e)) (tied_same e))
        (λ ne. subst (λ (x : LocalState J). AreTied x p.entries) (sym (is_changed_member ne)) tied_changed)
