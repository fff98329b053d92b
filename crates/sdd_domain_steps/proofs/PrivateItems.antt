-- What a participant knows once it has let go of a private item that a close had claimed, and once it has emptied one
use Rattle.std.proofs.Common.{◌≡◌, ◌≢◌, ◌⊎◌, ℕ, suc, List, [], ◌∷◌, map, drop, eqb, eq-eqb, not, sym, refl, ap, ◌∙◌, subst, ⊎_elim, inl, inr, arith}
use Rattle.std.specs.Prelude.{◌<◌, Bool, true, false, None, MatchBool, slice_set, if◌then◌else◌}
use Rattle.std.proofs.lemmas.List.{set-set}
use mathlib.Core.Bool.{cond}
use base.Stored.{Gv}
use Rattle.atomic_table.proofs.Lists.{at_map}
use Rattle.atomic_table.specs.declared.shared.Seat.{Seat}
use Rattle.sdd_shared_values.specs.declared.value_fraction.ValueFraction.{ValueFraction}
use Rattle.sdd_shared_values.specs.SharedValues.{IsNoValueCode}
use Rattle.sdd_rights.specs.declared.views.PrivateItem.{PrivateItem}
use Rattle.sdd_rights.specs.declared.views.View.{View}
use Rattle.sdd_rights.specs.declared.views.Sizes.{Sizes}
use Rattle.sdd_domain_invariant.specs.Codes.{private_word, emptying_word, emptied_word, free_word, left_word}
use Rattle.sdd_domain_invariant.specs.Collectors.CollectorWordSteps.{WaitsFor, no_collector, orphan, orphaned, found_emptied, without_private, empties_now, emptied_now, finds_left, empty_given_back, own_given_back}
use Rattle.sdd_domain_invariant.specs.Slots.SlotSteps.{Knew, behind, noted}
use Rattle.sdd_domain_invariant.specs.Epoch.{IsLone}
use Rattle.sdd_domain_invariant.specs.Fractions.FractionsAtHome.{CarriedFractions}
use Rattle.sdd_domain_invariant.specs.Fractions.FractionSteps.{SeatState, CarriesAll, giving, moving, with_gone}
use Rattle.sdd_domain_invariant.specs.Collectors.CollectorSteps.{LeavesOneToClose, ReclaimsOne, EmptiesOwnOne, EmptiedOne, GivesOneEmptyBack, GivesOneOwnBack}
use Rattle.sdd_atomics.specs.TableFacts.{TableFacts, gamma_of, places_of}
use Rattle.sdd_atomics.specs.DomainSeat.{Knows, Moved}
use Rattle.sdd_domain_steps.specs.Values.{WasFilled}
use Rattle.sdd_domain_steps.proofs.MovedValues.{rest_out}
use Rattle.sdd_domain_steps.specs.PrivateItems.{IsLost, FindsEmptied, GivesUpLost, NotesOf, LetsGoOf, EmptiesOwn, EmptiesAnothers, without_kept}

-- ---- what a close has claimed waits for no collector
orphan_here : (b : Bool) (x : PrivateItem) → (if b then record x { collector = no_collector } else x).item ≡ x.item
orphan_here true x = refl
orphan_here false x = refl

orphan_item : (slot : ℕ) (x : PrivateItem) → (orphan slot x).item ≡ x.item
orphan_item slot x = orphan_here (eqb x.item.slot slot) x

kept_of_one : (b : Bool) (x : PrivateItem) (A B : List PrivateItem) → A ≡ B
    → cond (not b) ((if b then record x { collector = no_collector } else x) ∷ A) A ≡ cond (not b) (x ∷ B) B
kept_of_one true x A B e = e
kept_of_one false x A B e = ap (λ (l : List PrivateItem). x ∷ l) e

-- and the items of other slots are as they were
pub without_orphan : (slot : ℕ) (xs : List PrivateItem) → without_private slot (map (orphan slot) xs) ≡ without_private slot xs
without_orphan slot [] = refl
without_orphan slot (x ∷ xs) = let A : List PrivateItem = without_private slot (map (orphan slot) xs) in
    ap (λ (k : ℕ). cond (not (eqb k slot)) (orphan slot x ∷ A) A) (ap (λ (t : _). t.slot) (orphan_item slot x))
    ∙ kept_of_one (eqb x.item.slot slot) x A (without_private slot xs) (without_orphan slot xs)

now_orphan : (collector slot : ℕ) (v : View) → WaitsFor collector v slot → WaitsFor no_collector (orphaned slot v) slot
now_orphan collector slot v has = let x : PrivateItem = has.0 in (
  orphan slot x,
  (has.1.0, at_map (orphan slot) v.slots.privates has.1.0 x has.1.1),
  ap (λ (t : _). t.slot) (orphan_item slot x) ∙ has.2,
  ap (λ (b : Bool). (if b then record x { collector = no_collector } else x).collector) (eq-eqb x.item.slot slot has.2),
)

-- ---- a close has it still, or is done with it
pub still_lost : (slot found : ℕ) (v : View) → IsLost slot found v → found ≡ emptying_word → (v.slots.emptied ≡ []) × WaitsFor no_collector v slot
still_lost slot found v lost is = ⊎_elim (λ (l : (found ≡ emptied_word) × (v.slots.emptied ≡ slot ∷ [])). absurd (let e = l.0 in omega arith))
    (λ (l : (found ≡ emptying_word) × (v.slots.emptied ≡ []) × WaitsFor no_collector v slot). (l.1, l.2)) lost

module _ (slot r : ℕ) (s t : Seat ValueFraction View) (none : s.me.0.slots.emptied ≡ []) (fits : r < private_word no_collector)
    (tried : Moved (LeavesOneToClose no_collector slot) s r t) where
  pub left_or_emptied : MatchBool (eqb r emptying_word) (GivesUpLost slot s t) (FindsEmptied slot s t)
  left_or_emptied = let P : ℕ → Type 0 = λ k. MatchBool (eqb k emptying_word) (GivesUpLost slot s t) (FindsEmptied slot s t) in
      let c = tried.2.0 in let v : View = s.me.0 in ⊎_elim (λ (e : r ≡ private_word no_collector). absurd (omega arith))
      (λ (k : (r ≡ emptied_word) ⊎ (r ≡ emptying_word)). ⊎_elim
      (λ (e : r ≡ emptied_word). subst P (sym e) (record {
        table = tried.0;
        number = tried.1;
        others = tried.2.1;
        view = c.1 e ∙ (λ d. record v { slots = record v.slots { emptied = slot ∷ none d } });
      }))
      (λ (e : r ≡ emptying_word). subst P (sym e) (record {
        words = noted slot left_word v;
        seat = record {
          table = tried.0;
          number = tried.1;
          others = tried.2.1;
          view = c.0 e ∙ (λ d. record v {
            slots = record v.slots { privates = without_private slot v.slots.privates; emptied = none d };
            words = noted slot left_word v;
          });
        };
        notes = inr refl;
      })) k) c.3

-- the seat before and after a try to claim an item that waits for a collector, where a close had claimed it
pub record MissesOne (collector slot x : ℕ) (s t : Seat ValueFraction View) : Type 0 where
  pub table : t.table_id ≡ s.table_id
  pub number : t.id ≡ s.id
  pub others : t.me.1 ≡ s.me.1
  pub miss : x ≢ private_word collector
  pub done : x ≡ emptied_word → t.me.0 ≡ found_emptied slot s.me.0
  pub busy : x ≡ emptying_word → t.me.0 ≡ orphaned slot s.me.0
  pub which : (x ≡ private_word collector) ⊎ ((x ≡ emptied_word) ⊎ (x ≡ emptying_word))
  pub knew : Knew slot s.me.0 x

module _ (collector slot x : ℕ) (s t : Seat ValueFraction View) (m : MissesOne collector slot x s t) where
  by_word : (P : Type 0) → (x ≡ emptied_word → t.me.0 ≡ found_emptied slot s.me.0 → P)
      → (x ≡ emptying_word → t.me.0 ≡ orphaned slot s.me.0 → P) → P
  by_word P one two = ⊎_elim (λ (e : x ≡ private_word collector). absurd (m.miss e))
      (λ (k : (x ≡ emptied_word) ⊎ (x ≡ emptying_word)). ⊎_elim (λ (e : x ≡ emptied_word). one e (m.done e))
      (λ (e : x ≡ emptying_word). two e (m.busy e)) k) m.which

  pub lost : s.me.0.slots.emptied ≡ [] → WaitsFor collector s.me.0 slot → IsLost slot x t.me.0
  lost none has = by_word (IsLost slot x t.me.0)
      (λ is e. inl (is, ap (λ (u : View). u.slots.emptied) e ∙ ap (λ (l : List ℕ). slot ∷ l) none))
      (λ is e. inr (
        is,
        ap (λ (u : View). u.slots.emptied) e ∙ none,
        subst (λ (u : View). WaitsFor no_collector u slot) (sym e) (now_orphan collector slot s.me.0 has),
      ))

  abbrev given_up : View → List ℕ → View
  given_up u words = record u { slots = record u.slots { privates = without_private slot u.slots.privates; emptied = [] }; words = words }

  view_gone : s.me.0.slots.emptied ≡ [] → (words : List ℕ) → given_up t.me.0 words ≡ record (without_kept slot s.me.0) { words = words }
  view_gone none words = let v : View = s.me.0 in by_word (given_up t.me.0 words ≡ record (without_kept slot v) { words = words })
      (λ _ e. ap (λ (u : View). given_up u words) e ∙ (λ d. record v {
        slots = record v.slots { privates = without_private slot v.slots.privates; emptied = sym none d };
        words = words;
      }))
      (λ _ e. ap (λ (u : View). given_up u words) e ∙ (λ d. record v {
        slots = record v.slots { privates = without_orphan slot v.slots.privates d; emptied = sym none d };
        words = words;
      }))

  -- and it was let go of
  pub lets_go : (u : Seat ValueFraction View) → s.me.0.slots.emptied ≡ [] → GivesUpLost slot t u → LetsGoOf collector slot s u
  lets_go u none gone = record {
    words = gone.words;
    seat = record {
      table = gone.seat.table ∙ m.table;
      number = gone.seat.number ∙ m.number;
      others = gone.seat.others ∙ m.others;
      view = gone.seat.view ∙ view_gone none gone.words;
    };
    notes = let P : View → Type 0 = λ v. NotesOf slot left_word v gone.words in
        by_word (P s.me.0) (λ _ e. subst P e gone.notes) (λ _ e. subst P e gone.notes);
    word = x;
    knew = m.knew;
    claimed = m.miss;
  }

-- so it is where the bag claims one, and where a close of its own does
module _ (collector slot x k : ℕ) (s t : Seat ValueFraction View) (is : k ≡ private_word collector) (other : x ≢ k) where
  miss_of : x ≢ private_word collector
  miss_of = λ e. other (e ∙ sym is)

  pub reclaim_missed : Moved (ReclaimsOne collector slot) s x t → MissesOne collector slot x s t
  reclaim_missed m = let c = m.2.1 in let e = m.2.4 miss_of in record {
    table = m.0;
    number = m.1;
    others = m.2.2;
    miss = miss_of;
    done = λ is. e ∙ c.1 is;
    busy = λ is. e ∙ c.2 is;
    which = c.3;
    knew = c.4;
  }

  pub own_missed : Moved (EmptiesOwnOne collector slot) s x t → MissesOne collector slot x s t
  own_missed m = let c = m.2.0 in record {
    table = m.0;
    number = m.1;
    others = m.2.1;
    miss = miss_of;
    done = c.1;
    busy = c.2;
    which = c.3;
    knew = c.4;
  }

-- ---- it empties one, whose value was moved out
module _ (b : TableFacts) (slot : ℕ) (s t u : Seat ValueFraction View) (knows : Knows b s) (rests : s.me.0.fractions.moves ≡ None)
    (idle : s.me.0.slots.empties ≡ None) (claimed : t.me.0 ≡ empties_now slot emptying_word s.me.0) (same : t.me.1 ≡ s.me.1)
    (home : (u.table_id ≡ t.table_id) × (u.id ≡ t.id)) (moved : u.me.0 ≡ moving slot t.me.0)
    (row : CarriesAll (gamma_of b) slot (places_of b) 0 IsNoValueCode t.me.1 u.me.1) where
  pub view_moved : u.me.0 ≡ moving slot (empties_now slot emptying_word s.me.0)
  view_moved = moved ∙ ap (moving slot) claimed

  -- all fractions in it have gone home
  rest_home : (ys : CarriedFractions) → ys ≡ drop (suc u.me.0.sizes.participants) u.me.1 → ys ≡ s.me.1
  rest_home ys e = rest_out (gamma_of b) slot (places_of b) u.me.0.sizes.participants 0 IsNoValueCode t.me.1 u.me.1 ys
      (ap (λ (v : View). v.sizes.participants) view_moved ∙ ap (λ (z : Sizes). z.participants) knows.0) row e ∙ same

  filled_before : (value : Gv) → (IsLone t.me.0.epoch → WasFilled slot value t.me.0) → IsLone s.me.0.epoch → WasFilled slot value s.me.0
  filled_before value filled one = subst (WasFilled slot value) claimed (filled (subst (λ (v : View). IsLone v.epoch) (sym claimed) one))

  module _ (table : t.table_id ≡ s.table_id) (number : t.id ≡ s.id) where
    -- one of its own bag, whose slot it gave back
    pub own_emptied : (value : Gv) (w : Seat ValueFraction View) → (IsLone t.me.0.epoch → WasFilled slot value t.me.0)
        → Moved (GivesOneOwnBack slot) u (free_word 0) w → EmptiesOwn slot value s w
    own_emptied value w filled back = let v : View = s.me.0 in record {
      seat = record {
        table = back.0 ∙ (home.0 ∙ table);
        number = back.1 ∙ (home.1 ∙ number);
        others = rest_home w.me.1 back.2.1;
        view = back.2.0 ∙ (ap (λ (a : View). giving (own_given_back slot (free_word 0) a)) view_moved ∙ (λ d. record (with_gone v) {
          slots = record v.slots { privates = without_private slot v.slots.privates; empties = sym idle d };
          fractions = record (with_gone v).fractions { moves = sym rests d };
          words = set-set v.words (behind v.sizes slot) emptying_word (free_word 0) d;
        }));
      };
      lone = filled_before value filled;
    }

    -- one of another's bag, which gives the slot back, or has let go of it
    module _ (collector r : ℕ) (f : Seat ValueFraction View) (knew : Knew slot s.me.0 (private_word collector)) (done : Moved (EmptiedOne slot) u r f) where
      pub another_emptied : r ≢ left_word → EmptiesAnothers collector slot s f
      another_emptied ne = let v : View = s.me.0 in ⊎_elim (λ (e : r ≡ emptying_word). let gave = done.2.0 e in record {
        words = slice_set (noted slot emptying_word v) (behind v.sizes slot) emptied_word;
        seat = record {
          table = done.0 ∙ (home.0 ∙ table);
          number = done.1 ∙ (home.1 ∙ number);
          others = rest_home f.me.1 gave.1;
          view = gave.0 ∙ (ap (λ (a : View). giving (emptied_now slot emptied_word a)) view_moved ∙ (λ d. record (with_gone v) {
            slots = record v.slots { empties = sym idle d };
            fractions = record (with_gone v).fractions { moves = sym rests d };
            words = slice_set (noted slot emptying_word v) (behind v.sizes slot) emptied_word;
          }));
        };
        notes = inr (set-set v.words (behind v.sizes slot) emptying_word emptied_word);
        knew = knew;
      }) (λ (e : r ≡ left_word). absurd (ne e)) done.2.2

      pub another_left : (w : Seat ValueFraction View) → s.me.0.slots.left ≡ false → r ≡ left_word → Moved (GivesOneEmptyBack slot) f (free_word 0) w
          → EmptiesAnothers collector slot s w
      another_left w none e back = let v : View = s.me.0 in let found = done.2.1 e in
          let seen : f.me.0 ≡ finds_left u.me.0 = ap (λ (m : SeatState). m.0) found in record {
            words = slice_set (noted slot emptying_word v) (behind v.sizes slot) (free_word 0);
            seat = record {
              table = back.0 ∙ (done.0 ∙ (home.0 ∙ table));
              number = back.1 ∙ (done.1 ∙ (home.1 ∙ number));
              others = rest_home w.me.1 (back.2.1 ∙ ap (λ (m : SeatState). drop (suc m.0.sizes.participants) m.1) found);
              view = back.2.0 ∙ (ap (λ (a : View). giving (empty_given_back slot (free_word 0) a)) (seen ∙ ap finds_left view_moved)
                  ∙ (λ d. record (with_gone v) {
                    slots = record v.slots { empties = sym idle d; left = sym none d };
                    fractions = record (with_gone v).fractions { moves = sym rests d };
                    words = slice_set (noted slot emptying_word v) (behind v.sizes slot) (free_word 0);
                  }));
            };
            notes = inl (set-set v.words (behind v.sizes slot) emptying_word (free_word 0));
            knew = knew;
          }
