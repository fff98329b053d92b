-- What is in the bags and what is due, beside what is known to wait, over each step on what waits
use Rattle.std.proofs.Common.{◌≡◌, ◌≢◌, ℕ, suc, ◌+◌, ◌<◌, ◌≤◌, ◌==◌, not, List, [], ◌∷◌, ◌++◌, Option, Some, None, map, filter, length, sym, refl, ap, ◌∙◌, subst, eq-eqb, ne_eqb, arith}
use Rattle.std.proofs.lemmas.Bool.{true≢false}
use Rattle.std.proofs.lemmas.List.{length-map}
use mathlib.Core.Bool.{Bool, true, false, cond}
use mathlib.Core.Option.{some}
use mathlib.Core.Logic.{dite}
use native.Mathlib.Decide.{ℕ_discrete, dec_lt}
use lib.ListN.{get_elem?}
use Rattle.std.specs.Prelude.{◌||◌}
use Rattle.sdd_participants.specs.Collecting.{chosen_of, rest_of}
use Rattle.sdd_participants.specs.declared.waiting.LimboEntry.{LimboEntry}
use Rattle.sdd_participants.specs.declared.waiting.LimboEntry.TheVariants.{Item}
use Rattle.sdd_participants.specs.Waiting.{Waiting, aged, left, having_seen}
use Rattle.sdd_participants.specs.Waiting.{due as due_of}
use Rattle.sdd_rights.specs.declared.views.PrivateItem.{PrivateItem}
use Rattle.sdd_rights.specs.declared.views.WaitingItem.{WaitingItem}
use Rattle.sdd_domain_invariant.specs.Collectors.{private_in}
use Rattle.sdd_domain_invariant.specs.Collectors.CollectorWordSteps.{for_collector, without_private}
use Rattle.sdd_domain_invariant.specs.Slots.{waits_in}
use Rattle.sdd_domain_invariant.specs.Slots.SlotSteps.{older, older_private, without_item}
use Rattle.sdd_domain_invariant.specs.Sums.{total, times}
use Rattle.sdd_domain_invariant.proofs.Sums.{is_same, is_other, total_has, total_map, total_snoc, total_some}
use Rattle.sdd_domain_invariant.proofs.Slots.WaitingCounts.{few}
use Rattle.sdd_domain_steps.specs.InBags.{Kept, Plainly, Privately, AreInBags, KnownWaiting, item_of, plain_of, private_of, is_closed, is_out, kept_in, out_of}
use Rattle.sdd_domain_steps.specs.WaitingItems.{what_of, number_in, waiting_of, is_ripe}
use Rattle.sdd_domain_steps.proofs.KeptLists.{total_fewer, total_le, some_part, total_of_one, filter_alike, filter_mapped, same_snoc, same_filter, same_map, plain_snoc, private_snoc, items_snoc, older_kept, plain_older, private_older, items_older, left_kept, plain_left, private_left, items_left, counts, for_it, kept_for, items_for, plain_for, private_for, for_none, kept_plainly, items_plainly, private_plainly, plain_plainly}
use Rattle.sdd_domain_steps.proofs.Reclaims.{aged_alike, left_alike, due_alike, all_left, due_by, kept_has, none_passes, first_is_due, first_goes, item_inside, what_item}
use Rattle.sdd_domain_steps.proofs.DueItems.{fewer, filter_past, filter_snoc, map_snoc}

-- where nothing waits at all
pub nothing_known : (n : ℕ) (closes : Option ℕ) → AreInBags n (record { plain = []; private = []; closes = closes }) [] []
nothing_known n closes = record {
  all = [];
  plain = λ f. refl;
  private = λ f. refl;
  bags = refl;
  due = refl;
  items = λ i high. refl;
  once = λ i. omega arith;
}

pub nothing_there : (n : ℕ) (known : KnownWaiting) (waiting : List Waiting) (taken : List LimboEntry) → known.plain ≡ [] → known.private ≡ [] → waiting ≡ []
    → taken ≡ [] → AreInBags n known waiting taken
nothing_there n known waiting taken plain private bags due = subst (λ (z : KnownWaiting × List Waiting × List LimboEntry). AreInBags n z.0 z.1 z.2)
    (λ d. (record { plain = sym plain d; private = sym private d; closes = known.closes }, sym bags d, sym due d)) (nothing_known n known.closes)

-- where no private item of a slot waits none is taken out
pub none_private : (slot : ℕ) (xs : List PrivateItem) → total (private_in slot) xs ≡ 0 → without_private slot xs ≡ xs
none_private slot [] e = refl
none_private slot (x ∷ xs) e = let r = none_private slot xs (omega arith) in
    let ne : x.item.slot ≢ slot = λ same. let i = is_same slot x.item.slot same in omega arith in
    ap (λ (b : Bool). cond (not b) (x ∷ without_private slot xs) (without_private slot xs)) (ne_eqb x.item.slot slot ne)
    ∙ ap (λ (l : List PrivateItem). x ∷ l) r

pub none_plain : (slot : ℕ) (xs : List WaitingItem) → total (waits_in slot) xs ≡ 0 → without_item slot xs ≡ xs
none_plain slot [] e = refl
none_plain slot (x ∷ xs) e = let r = none_plain slot xs (omega arith) in
    let ne : x.slot ≢ slot = λ same. let i = is_same slot x.slot same in omega arith in
    ap (λ (b : Bool). cond (not b) (x ∷ without_item slot xs) (without_item slot xs)) (ne_eqb x.slot slot ne) ∙ ap (λ (l : List WaitingItem). x ∷ l) r

-- the last one goes, as it is of the slot
pub without_last : (slot : ℕ) (xs : List WaitingItem) (x : WaitingItem) → x.slot ≡ slot → without_item slot (xs ++ x ∷ []) ≡ without_item slot xs
without_last slot xs x here = filter_past (λ (y : WaitingItem). not (y.slot == slot)) x (ap not (eq-eqb x.slot slot here)) xs

times_map : (i : ℕ) (xs : List WaitingItem) → times i (map (λ (x : WaitingItem). x.slot) xs) ≡ total (waits_in i) xs
times_map i [] = refl
times_map i (x ∷ xs) = let r = times_map i xs in omega arith

-- ---- tests
or_false : (a b : Bool) → (a || b) ≡ false → (a ≡ false) × (b ≡ false)
or_false false b e = (refl, e)
or_false true b e = absurd (true≢false e)

or_none : (a b : Bool) → b ≡ false → (a || b) ≡ a
or_none true b e = refl
or_none false b e = e

abbrev mark : Bool → ℕ
mark b = cond b 1 0

none_one : (b : Bool) → mark b ≡ 0 → b ≡ false
none_one true z = absurd (omega arith)
none_one false z = refl

-- 1 where two tests say something else
abbrev differs : Bool → Bool → ℕ
differs true b = cond b 0 1
differs false b = cond b 1 0

differs_none : (a b : Bool) → differs a b ≡ 0 → a ≡ b
differs_none true true z = refl
differs_none true false z = absurd (omega arith)
differs_none false true z = absurd (omega arith)
differs_none false false z = refl

self_alike : (a : Bool) → differs a a ≡ 0
self_alike true = refl
self_alike false = refl

same_tests : (a b : Bool) → a ≡ b → differs a b ≡ 0
same_tests a b e = ap (differs a) (sym e) ∙ self_alike a

closed_is : (closes : Option ℕ) (c : ℕ) → is_closed closes c ≡ true → closes ≡ Some c
closed_is None c e = absurd (true≢false (sym e))
closed_is (Some k) c e = dite (ℕ_discrete c k) (λ same. ap Some (sym same)) (λ ne. absurd (true≢false (sym e ∙ ne_eqb c k ne)))

-- ---- sums over what is kept
abbrev of_kept : (WaitingItem → ℕ) → (PrivateItem → ℕ) → Kept → ℕ
of_kept f g (Plainly x) = f x
of_kept f g (Privately x) = g x

split : (f : WaitingItem → ℕ) (g : PrivateItem → ℕ) (all : List Kept) → total (of_kept f g) all ≡ total f (plain_of all) + total g (private_of all)
split f g [] = refl
split f g (Plainly x ∷ xs) = let r = split f g xs in omega arith
split f g (Privately x ∷ xs) = let r = split f g xs in omega arith

module _ {X : Type 0} (f : X → ℕ) where
  all_nothing : (xs : List X) → ((k : ℕ) (x : X) → get_elem? xs k ≡ some x → f x ≡ 0) → total f xs ≡ 0
  all_nothing [] none = refl
  all_nothing (x ∷ xs) none = let a = none 0 x refl in let r = all_nothing xs (λ k. none (suc k)) in omega arith

  each_nothing : (xs : List X) → total f xs ≡ 0 → (k : ℕ) (x : X) → get_elem? xs k ≡ some x → f x ≡ 0
  each_nothing xs z k x at = let h = total_has f xs k x at in omega arith

no_plain : (xs : List WaitingItem) → total (λ (x : WaitingItem). 0) xs ≡ 0
no_plain xs = all_nothing (λ (x : WaitingItem). 0) xs (λ k x at. refl)

-- ---- what is due
-- 1 for an item of the slot that has seen three changes
abbrev ripe_in : ℕ → WaitingItem → ℕ
ripe_in i x = cond (is_ripe x) (waits_in i x) 0

-- 1 for a private item of the slot that has, or whose collector is being closed
abbrev out_in : Option ℕ → ℕ → PrivateItem → ℕ
out_in closes i x = cond (is_closed closes x.collector || is_ripe x.item) (private_in i x) 0

both_parts : (b : Bool) (k : ℕ) → 0 < cond b k 0 → (b ≡ true) × (0 < k)
both_parts true k more = (refl, more)
both_parts false k more = absurd (omega arith)

old_enough : (x : WaitingItem) → is_ripe x ≡ true → 3 ≤ x.changes
old_enough x is = grind arith

same_slot : (i : ℕ) (x : WaitingItem) → 0 < waits_in i x → x.slot ≡ i
same_slot i x more = dite (ℕ_discrete x.slot i) (λ e. e) (λ ne. absurd (let o = is_other i x.slot ne in omega arith))

ripe_of : (i : ℕ) (x : WaitingItem) → 0 < ripe_in i x → (x.slot ≡ i) × (3 ≤ x.changes)
ripe_of i x more = let b = both_parts (is_ripe x) (waits_in i x) more in (same_slot i x b.1, old_enough x b.0)

one_out : (closes : Option ℕ) (i : ℕ) (x : Kept) → is_out closes x ≡ true → (item_of x).slot ≡ i → of_kept (ripe_in i) (out_in closes i) x ≡ 1
one_out closes i (Plainly x) is same = ap (λ (b : Bool). cond b (waits_in i x) 0) is ∙ is_same i x.slot same
one_out closes i (Privately x) is same = ap (λ (b : Bool). cond b (private_in i x) 0) is ∙ is_same i x.item.slot same

not_ripe : (closes : Option ℕ) (x : Kept) → is_out closes x ≡ false → is_ripe (item_of x) ≡ false
not_ripe closes (Plainly x) e = e
not_ripe closes (Privately x) e = (or_false (is_closed closes x.collector) (is_ripe x.item) e).1

-- what isn't due is so after one change more only if it has seen three then
ripens : (closes : Option ℕ) (x : Kept) → is_out closes x ≡ false → is_out closes (older_kept x) ≡ is_ripe (item_of (older_kept x))
ripens closes (Plainly x) e = refl
ripens closes (Privately x) e = ap (λ (b : Bool). b || is_ripe (older x.item)) (or_false (is_closed closes x.collector) (is_ripe x.item) e).0

-- and once no collector is being closed it still isn't
still_none : (closes : Option ℕ) (x : Kept) → is_out closes x ≡ false → is_out closes x ≡ is_out None x
still_none closes (Plainly x) e = refl
still_none closes (Privately x) e = e ∙ sym (or_false (is_closed closes x.collector) (is_ripe x.item) e).1

module _ (closes : Option ℕ) (q : Bool → Bool) where
  abbrev tested : Kept → Bool
  tested x = q (is_out closes x)

  older_by : (all : List Kept) → ((k : ℕ) (x : Kept) → get_elem? all k ≡ some x → is_out closes x ≡ false)
      → map item_of (filter tested (map older_kept all)) ≡ filter (λ (x : WaitingItem). q (is_ripe x)) (map older (map item_of all))
  older_by all none = ap (map item_of) (filter_mapped older_kept tested all
      ∙ (ap (map older_kept) (filter_alike (λ (x : Kept). tested (older_kept x)) (λ (x : Kept). q (is_ripe (item_of (older_kept x)))) all
      (λ k x at. ap q (ripens closes x (none k x at))))
      ∙ sym (filter_mapped older_kept (λ (x : Kept). q (is_ripe (item_of x))) all)))
      ∙ (items_left (λ (x : WaitingItem). q (is_ripe x)) (map older_kept all)
      ∙ ap (filter (λ (x : WaitingItem). q (is_ripe x))) (items_older all))

  -- what changes no item, and not whether it is due
  alike_under : (g : Kept → Kept) → ((l : List Kept) → map item_of (map g l) ≡ map item_of l) → (all : List Kept)
      → ((k : ℕ) (x : Kept) → get_elem? all k ≡ some x → is_out closes (g x) ≡ is_out closes x)
      → map item_of (filter tested (map g all)) ≡ map item_of (filter tested all)
  alike_under g items all each = ap (map item_of) (filter_mapped g tested all) ∙ (items (filter (λ (x : Kept). tested (g x)) all)
      ∙ ap (map item_of) (filter_alike (λ (x : Kept). tested (g x)) tested all (λ k x at. ap q (each k x at))))

-- ---- an item that waits privately, or no more so, is due as before where its collector isn't being closed
stays_plainly : (slot : ℕ) (closes : Option ℕ) (x : PrivateItem) (b : Bool) → cond b (mark (is_closed closes x.collector)) 0 ≡ 0
    → is_out closes (for_none slot b x) ≡ is_out closes (Privately x)
stays_plainly slot closes x false z = refl
stays_plainly slot closes x true z = ap (λ (b : Bool). b || is_ripe x.item) (sym (none_one (is_closed closes x.collector) z))

abbrev closed_at : ℕ → Option ℕ → PrivateItem → ℕ
closed_at slot closes x = cond (x.item.slot == slot) (mark (is_closed closes x.collector)) 0

plainly_alike : (slot : ℕ) (closes : Option ℕ) (x : Kept) → of_kept (λ (x : WaitingItem). 0) (closed_at slot closes) x ≡ 0
    → is_out closes (kept_plainly slot x) ≡ is_out closes x
plainly_alike slot closes (Plainly x) z = refl
plainly_alike slot closes (Privately x) z = stays_plainly slot closes x (x.item.slot == slot) z

module _ (slot collector : ℕ) (closes : Option ℕ) (shut : is_closed closes collector ≡ false) where
  stays_private : (b : Bool) (x : WaitingItem) → is_out closes (for_it slot collector b x) ≡ is_ripe x
  stays_private true x = ap (λ (b : Bool). b || is_ripe x) shut
  stays_private false x = refl

  privately_alike : (x : Kept) → is_out closes (kept_for slot collector x) ≡ is_out closes x
  privately_alike (Plainly x) = stays_private (x.slot == slot) x
  privately_alike (Privately x) = refl

unmapped : {A B : Type 0} (f : A → B) (xs : List A) → map f xs ≡ [] → xs ≡ []
unmapped f [] is = refl
unmapped f (x ∷ xs) is = absurd (cc)

map_what : (n : ℕ) (xs : List WaitingItem) → map (λ (w : Waiting). w.what) (map (waiting_of n) xs) ≡ map (what_of n) xs
map_what n [] = refl
map_what n (x ∷ xs) = ap (λ (l : List LimboEntry). what_of n x ∷ l) (map_what n xs)

module _ (n : ℕ) (known : KnownWaiting) (waiting : List Waiting) (taken : List LimboEntry) (t : AreInBags n known waiting taken) where
  abbrev items : List WaitingItem
  items = map item_of t.all

  abbrev is_due : Kept → Bool
  is_due = is_out known.closes

  abbrev is_kept : Kept → Bool
  is_kept x = not (is_out known.closes x)

  -- a private item's slot is one of the slots
  pub private_low : (k : ℕ) (x : PrivateItem) → get_elem? known.private k ≡ some x → x.item.slot < n
  private_low k x at = let here = total_has (private_in x.item.slot) known.private k x at in let one = is_same x.item.slot x.item.slot refl in
      dite (dec_lt x.item.slot n) (λ low. low) (λ high. let z = t.items x.item.slot (omega arith) in absurd (omega arith))

  -- of each slot as many are known as there are
  pub known_in : (i : ℕ) → total (waits_in i) (map item_of t.all) ≡ total (waits_in i) known.plain + total (private_in i) known.private
  known_in i = let c = counts (waits_in i) t.all in let a = t.plain (waits_in i) in let b = t.private (private_in i) in omega arith

  -- one at most
  pub known_once : (i : ℕ) → total (waits_in i) known.plain + total (private_in i) known.private ≤ 1
  known_once i = let a = known_in i in let b = t.once i in omega arith

  -- ---- one more waits, for no collector, the newest of all
  pub one_more : (y : WaitingItem) (w : LimboEntry) → is_ripe y ≡ false → what_of n y ≡ w → total (waits_in y.slot) known.plain ≡ 0
      → total (private_in y.slot) known.private ≡ 0
      → AreInBags n (record known { plain = known.plain ++ y ∷ [] }) (waiting ++ having_seen y.changes w ∷ []) taken
  one_more y w young is none_plain none_private = record {
    all = t.all ++ Plainly y ∷ [];
    plain = λ f. same_snoc known.plain (plain_of t.all) y t.plain f ∙ ap (total f) (sym (plain_snoc t.all y));
    private = λ f. t.private f ∙ ap (total f) (sym (private_snoc t.all y));
    bags = ap (λ (l : List Waiting). l ++ having_seen y.changes w ∷ []) t.bags ∙ sym (ap (λ (l : List Kept). map (waiting_of n) (map item_of l))
        (filter_snoc is_kept (Plainly y) (ap not young) t.all) ∙ (ap (map (waiting_of n)) (map_snoc item_of (Plainly y) (filter is_kept t.all))
        ∙ (map_snoc (waiting_of n) y (kept_in known.closes t.all)
        ∙ ap (λ (v : LimboEntry). map (waiting_of n) (kept_in known.closes t.all) ++ having_seen y.changes v ∷ []) is)));
    due = t.due ∙ ap (λ (l : List Kept). map (what_of n) (map item_of l)) (sym (filter_past is_due (Plainly y) young t.all));
    items = t.items;
    once = λ i. let s = ap (total (waits_in i)) (items_snoc t.all y) in let a = total_snoc (waits_in i) items y in let k = known_in i in let o = t.once i in
        dite (ℕ_discrete y.slot i)
        (λ e. let one = is_same i y.slot e in let p = ap (λ (j : ℕ). total (waits_in j) known.plain) e in
        let q = ap (λ (j : ℕ). total (private_in j) known.private) e in omega arith)
        (λ ne. let none = is_other i y.slot ne in omega arith);
  }

  -- ---- all have seen one change more, where nothing was due: then what has seen three is
  pub all_older : taken ≡ [] → AreInBags n (record known { plain = map older known.plain; private = map older_private known.private })
      (left (aged waiting)) (due_of (aged waiting))
  all_older none = let each = none_passes n is_due t.all (sym t.due ∙ none) in
      let all : filter is_kept t.all ≡ t.all = all_left n is_due t.all (sym t.due ∙ none) in
      let bags : aged waiting ≡ map (waiting_of n) (map older items)
      = ap aged (t.bags ∙ ap (λ (l : List Kept). map (waiting_of n) (map item_of l)) all) ∙ aged_alike n items in record {
        all = map older_kept t.all;
        plain = λ f. same_map older known.plain (plain_of t.all) t.plain f ∙ ap (total f) (sym (plain_older t.all));
        private = λ f. same_map older_private known.private (private_of t.all) t.private f ∙ ap (total f) (sym (private_older t.all));
        bags = ap left bags ∙ (left_alike n (map older items) ∙ ap (map (waiting_of n)) (sym (older_by known.closes not t.all each)));
        due = ap due_of bags ∙ (due_alike n (map older items) ∙ ap (map (what_of n)) (sym (older_by known.closes (λ b. b) t.all each)));
        items = λ i high. total_map (private_in i) older_private (λ x. refl) known.private ∙ t.items i high;
        once = λ i. let s = ap (total (waits_in i)) (items_older t.all) in let m = total_map (waits_in i) older (λ x. refl) items in let o = t.once i in
            omega arith;
      }

  -- ---- what is due first
  module _ (w : LimboEntry) (rest : List LimboEntry) (first : taken ≡ w ∷ rest) where
    abbrev number : ℕ
    number = number_in n w

    due_first : due_by n is_due t.all ≡ w ∷ rest
    due_first = sym t.due ∙ first

    -- waits once
    pub first_once : total (waits_in (number_in n w)) (map item_of t.all) ≡ 1
    first_once = let one = first_is_due n is_due w rest t.all due_first in let here = kept_has number t.all one.0 one.1 one.2 one.3 in
        let o = t.once number in omega arith

    first_due : 0 < total (ripe_in (number_in n w)) known.plain + total (out_in known.closes (number_in n w)) known.private
    first_due = let one = first_is_due n is_due w rest t.all due_first in let f = ripe_in number in let g = out_in known.closes number in
        let here = total_has (of_kept f g) t.all one.0 one.1 one.2 in let is = one_out known.closes number one.1 one.4 one.3 in
        let s = split f g t.all in let a = t.plain f in let b = t.private g in omega arith

    -- and where it isn't private it has seen three changes as what is known
    pub first_plain : total (private_in (number_in n w)) known.private ≡ 0
        → (k : ℕ) × (x : WaitingItem) × (get_elem? known.plain k ≡ some x) × (x.slot ≡ number_in n w) × (3 ≤ x.changes)
    first_plain none = let r = first_due in
        let more = total_le (out_in known.closes number) (private_in number)
        (λ x. some_part (is_closed known.closes x.collector || is_ripe x.item) (private_in number x)) known.private in
        let one = total_some (ripe_in number) known.plain (omega arith) in let is = ripe_of number one.1 one.3 in (one.0, one.1, one.2, is.0, is.1)

    -- and is one that is known, with its place
    pub first_inside : (most : ℕ) → ((i : ℕ) → 0 < total (waits_in i) known.plain → i < most) → n ≤ most → number_in n w < most
    first_inside most inside low = let o = first_once in let k = known_in number in dite (dec_lt 0 (total (waits_in number) known.plain))
        (λ some_wait. inside number some_wait)
        (λ none. dite (dec_lt number n) (λ near. omega arith) (λ far. let z = t.items number (omega arith) in absurd (omega arith)))

    -- it goes, and nothing else
    pub first_out : AreInBags n (record known {
      plain = without_item (number_in n w) known.plain;
      private = without_private
          (number_in n w) known.private;
    }) waiting rest
    first_out = let goes = first_goes n is_due w rest t.all due_first first_once in let p : WaitingItem → Bool = (λ x. not (x.slot == number)) in
        let out : map item_of (left_kept p t.all) ≡ without_item number items = items_left p t.all in record {
          all = left_kept p t.all;
          plain = λ f. same_filter p known.plain (plain_of t.all) t.plain f ∙ ap (total f) (sym (plain_left p t.all));
          private = λ f. same_filter (λ (x : PrivateItem). p x.item) known.private (private_of t.all) t.private f ∙ ap (total f) (sym (private_left p t.all));
          bags = t.bags ∙ ap (λ (l : List Kept). map (waiting_of n) (map item_of l)) (sym goes.1);
          due = sym goes.0;
          items = λ i high. let m = total_fewer (λ (x : PrivateItem). p x.item) (private_in i) known.private in let z = t.items i high in omega arith;
          once = λ i. let s = ap (total (waits_in i)) out in let m = total_fewer p (waits_in i) items in let o = t.once i in omega arith;
        }

    -- the same where it is known to wait for no collector
    pub first_plain_out : total (waits_in (number_in n w)) known.plain ≡ 1
        → AreInBags n (record known { plain = without_item (number_in n w) known.plain }) waiting rest
    first_plain_out one = let o = known_once number in let none : total (private_in number) known.private ≡ 0 = omega arith in
        subst (λ (l : List PrivateItem). AreInBags n (record known { plain = without_item (number_in n w) known.plain; private = l }) waiting rest)
        (none_private number known.private none) first_out

    -- and where it does so privately
    pub first_private_out : 0 < total (private_in (number_in n w)) known.private
        → AreInBags n (record known { private = without_private (number_in n w) known.private }) waiting rest
    first_private_out some_private = let o = known_once number in let none : total (waits_in number) known.plain ≡ 0 = omega arith in
        subst (λ (l : List WaitingItem). AreInBags n (record known { plain = l; private = without_private (number_in n w) known.private }) waiting rest)
        (none_plain number known.plain none) first_out

  -- the slot of an item that is due first is one of the slots
  pub first_slot : (slot : ℕ) (rest : List LimboEntry) → taken ≡ Item slot ∷ rest → slot < n
  first_slot slot rest first = item_inside n slot rest (out_of known.closes t.all) (sym t.due ∙ first)

  -- a job isn't private
  pub job_plain : (place : ℕ) → total (private_in (n + place)) known.private ≡ 0
  job_plain place = t.items (n + place) (omega arith)

  -- ---- a private item waits for no collector any more, where it is in the bags or due: not for one that is being closed
  module _ (k : ℕ) (x : PrivateItem) (at : get_elem? known.private k ≡ some x) (shut : is_closed known.closes x.collector ≡ false) where
    abbrev its_slot : ℕ
    its_slot = x.item.slot

    none_closed : total (closed_at x.item.slot known.closes) known.private ≡ 0
    none_closed = let o = known_once its_slot in total_of_one (private_in its_slot) (closed_at its_slot known.closes) known.private k x at (omega arith)
        (is_same its_slot its_slot refl) (λ y none. ap (λ (c : Bool). cond c (mark (is_closed known.closes y.collector)) 0)
        (ne_eqb y.item.slot its_slot (λ same. let s = is_same its_slot y.item.slot same in omega arith)))
        ∙ (ap (λ (c : Bool). cond c (mark (is_closed known.closes x.collector)) 0) (eq-eqb its_slot its_slot refl) ∙ ap mark shut)

    due_as_before : (j : ℕ) (y : Kept) → get_elem? t.all j ≡ some y → is_out known.closes (kept_plainly x.item.slot y) ≡ is_out known.closes y
    due_as_before j y here = let g = closed_at its_slot known.closes in plainly_alike its_slot known.closes y
        (each_nothing (of_kept (λ (z : WaitingItem). 0) g) t.all (let s = split (λ (z : WaitingItem). 0) g t.all in let a = no_plain (plain_of t.all) in
        let b = t.private g in let z = none_closed in omega arith) j y here)

    pub turned_plain : AreInBags n (record known { plain = known.plain ++ x.item ∷ []; private = without_private x.item.slot known.private }) waiting taken
    turned_plain = let slot : ℕ = x.item.slot in record {
      all = map (kept_plainly slot) t.all;
      plain = λ f. let h : PrivateItem → ℕ = (λ p. cond (p.item.slot == slot) (f p.item) 0) in
          let a = total_snoc f known.plain x.item in let b = plain_plainly slot f t.all in let c = t.plain f in let d = t.private h in
          let o = known_once slot in
          let one = total_of_one (private_in slot) h known.private k x at (omega arith) (is_same slot slot refl)
          (λ y none. ap (λ (c : Bool). cond c (f y.item) 0)
          (ne_eqb y.item.slot slot (λ same. let s = is_same slot y.item.slot same in omega arith))) in
          let e = ap (λ (c : Bool). cond c (f x.item) 0) (eq-eqb slot slot refl) in omega arith;
      private = λ f. same_filter (λ (p : PrivateItem). not (p.item.slot == slot)) known.private (private_of t.all) t.private f
          ∙ ap (total f) (sym (private_plainly slot t.all));
      bags = t.bags ∙ ap (map (waiting_of n)) (sym (alike_under known.closes not (kept_plainly slot) (items_plainly slot) t.all due_as_before));
      due = t.due ∙ ap (map (what_of n)) (sym (alike_under known.closes (λ b. b) (kept_plainly slot) (items_plainly slot) t.all due_as_before));
      items = λ i high. let m = total_fewer (λ (p : PrivateItem). not (p.item.slot == slot)) (private_in i) known.private in let z = t.items i high in
          omega arith;
      once = λ i. let s = ap (total (waits_in i)) (items_plainly slot t.all) in let o = t.once i in omega arith;
    }

  -- ---- an item waits for a collector from now on, where it is in the bags or due: for one that isn't being closed
  pub turned_private : (collector k : ℕ) (x : WaitingItem) → get_elem? known.plain k ≡ some x → x.slot < n → is_closed known.closes collector ≡ false
      → AreInBags n (record known { plain = without_item x.slot known.plain; private = known.private ++ for_collector collector x ∷ [] }) waiting taken
  turned_private collector k x at low shut = let slot : ℕ = x.slot in let alike = privately_alike slot collector known.closes shut in record {
    all = map (kept_for slot collector) t.all;
    plain = λ f. same_filter (λ (p : WaitingItem). not (p.slot == slot)) known.plain (plain_of t.all) t.plain f
        ∙ ap (total f) (sym (plain_for slot collector t.all));
    private = λ f. let h : WaitingItem → ℕ = (λ p. cond (p.slot == slot) (f (for_collector collector p)) 0) in
        let a = total_snoc f known.private (for_collector collector x) in let b = private_for slot collector f t.all in let c = t.private f in
        let d = t.plain h in let o = known_once slot in
        let one = total_of_one (waits_in slot) h known.plain k x at (omega arith) (is_same slot slot refl)
        (λ y none. ap (λ (c : Bool). cond c (f (for_collector collector y)) 0)
        (ne_eqb y.slot slot (λ same. let s = is_same slot y.slot same in omega arith))) in
        let e = ap (λ (c : Bool). cond c (f (for_collector collector x)) 0) (eq-eqb slot slot refl) in omega arith;
    bags = t.bags ∙ ap (map (waiting_of n)) (sym (alike_under known.closes not (kept_for slot collector) (items_for slot collector) t.all
        (λ j y here. alike y)));
    due = t.due
        ∙ ap (map (what_of n)) (sym (alike_under known.closes (λ b. b) (kept_for slot collector) (items_for slot collector) t.all (λ j y here. alike y)));
    items = λ i high. let a = total_snoc (private_in i) known.private (for_collector collector x) in let z = t.items i high in
        let o = is_other i slot (λ e. omega arith) in omega arith;
    once = λ i. let s = ap (total (waits_in i)) (items_for slot collector t.all) in let o = t.once i in omega arith;
  }

  -- ---- what is chosen goes, from the bags and from what is due
  module _ (chosen : LimboEntry → Bool) where
    abbrev stays : WaitingItem → Bool
    stays x = not (chosen (what_of n x))

    -- ---- a collector is being closed from now on: the private items for it are due, where nothing was due, if it is these that are chosen
    module _ (c : ℕ) (none : taken ≡ []) (plainly : (k : ℕ) (x : WaitingItem) → get_elem? known.plain k ≡ some x → chosen (what_of n x) ≡ false)
        (privately : (k : ℕ) (x : PrivateItem) → get_elem? known.private k ≡ some x → chosen (Item x.item.slot) ≡ (x.collector == c)) where
      abbrev wrong_plain : WaitingItem → ℕ
      wrong_plain x = mark (chosen (what_of n x))

      abbrev wrong_private : PrivateItem → ℕ
      wrong_private x = differs (chosen (what_of n x.item)) (x.collector == c)

      none_wrong : total (of_kept wrong_plain wrong_private) t.all ≡ 0
      none_wrong = let s = split wrong_plain wrong_private t.all in let a = t.plain wrong_plain in let b = t.private wrong_private in
          let f = all_nothing wrong_plain known.plain (λ k x at. ap mark (plainly k x at)) in
          let g = all_nothing wrong_private known.private (λ k x at. same_tests (chosen (what_of n x.item)) (x.collector == c)
          (ap chosen (what_item n x.item (private_low k x at)) ∙ privately k x at)) in omega arith

      right_choice : (x : Kept) → of_kept wrong_plain wrong_private x ≡ 0 → is_ripe (item_of x) ≡ false → chosen (what_of n (item_of x)) ≡ is_out (Some c) x
      right_choice (Plainly x) z young = none_one (chosen (what_of n x)) z ∙ sym young
      right_choice (Privately x) z young = differs_none (chosen (what_of n x.item)) (x.collector == c) z
          ∙ sym (or_none (x.collector == c) (is_ripe x.item) young)

      chosen_each : (k : ℕ) (x : Kept) → get_elem? t.all k ≡ some x → chosen (what_of n (item_of x)) ≡ is_out (Some c) x
      chosen_each k x at = right_choice x (each_nothing (of_kept wrong_plain wrong_private) t.all none_wrong k x at)
          (not_ripe known.closes x (none_passes n is_due t.all (sym t.due ∙ none) k x at))

      all_waits : waiting ≡ map (waiting_of n) (map item_of t.all)
      all_waits = t.bags ∙ ap (λ (l : List Kept). map (waiting_of n) (map item_of l)) (all_left n is_due t.all (sym t.due ∙ none))

      pub begins_close : AreInBags n (record known { closes = Some c }) (rest_of chosen waiting) (chosen_of chosen waiting)
      begins_close = record {
        all = t.all;
        plain = t.plain;
        private = t.private;
        bags = ap (rest_of chosen) all_waits ∙ (filter_mapped (waiting_of n) (λ (w : Waiting). not (chosen w.what)) items
            ∙ ap (map (waiting_of n)) (sym (items_left stays t.all) ∙ ap (map item_of)
            (filter_alike (λ (x : Kept). stays (item_of x)) (λ (x : Kept). not (is_out (Some c) x)) t.all (λ k x at. ap not (chosen_each k x at)))));
        due = ap (chosen_of chosen) all_waits ∙ (ap (filter chosen) (map_what n items) ∙ (filter_mapped (what_of n) chosen items
            ∙ ap (map (what_of n)) (sym (items_left (λ (x : WaitingItem). chosen (what_of n x)) t.all) ∙ ap (map item_of)
            (filter_alike (λ (x : Kept). chosen (what_of n (item_of x))) (is_out (Some c)) t.all chosen_each))));
        items = t.items;
        once = t.once;
      }

  -- ---- none is being closed from now on, where nothing is due
  pub ends_close : taken ≡ [] → AreInBags n (record known { closes = None }) waiting taken
  ends_close none = let each = none_passes n is_due t.all (sym t.due ∙ none) in record {
    all = t.all;
    plain = t.plain;
    private = t.private;
    bags = t.bags ∙ ap (λ (l : List Kept). map (waiting_of n) (map item_of l))
        (filter_alike is_kept (λ (x : Kept). not (is_out None x)) t.all (λ k x at. ap not (still_none known.closes x (each k x at))));
    due = t.due ∙ ap (λ (l : List Kept). map (what_of n) (map item_of l))
        (filter_alike is_due (is_out None) t.all (λ k x at. still_none known.closes x (each k x at)));
    items = t.items;
    once = t.once;
  }

  -- ---- no more wait than may
  pub room_enough : (most : ℕ) → n ≤ most → ((i : ℕ) → 0 < total (waits_in i) known.plain → i < most) → length waiting ≤ most
  room_enough most low inside = let many = few most (map (λ (x : WaitingItem). x.slot) items)
      (λ i. let m = times_map i items in let o = t.once i in omega arith)
      (λ i high. let m = times_map i items in let k = known_in i in let z = t.items i (omega arith) in
      dite (dec_lt 0 (total (waits_in i) known.plain)) (λ some_wait. absurd (let f = inside i some_wait in omega arith)) (λ no. omega arith)) in
      let long = length-map items (λ (x : WaitingItem). x.slot) in let less = fewer is_kept t.all in
      let all = length-map t.all item_of in let kept = length-map (filter is_kept t.all) item_of in
      let bags = ap length t.bags ∙ length-map (kept_in known.closes t.all) (waiting_of n) in omega arith

  -- ---- fewer wait than may, where nothing of some slot or place does
  pub room_left : (most slot : ℕ) → n ≤ most → ((i : ℕ) → 0 < total (waits_in i) known.plain → i < most) → slot < most
      → total (waits_in slot) known.plain ≡ 0 → total (private_in slot) known.private ≡ 0 → length waiting < most
  room_left most slot low inside near none_waits none_private = let l : List ℕ = slot ∷ map (λ (x : WaitingItem). x.slot) items in
      let many = few most l
      (λ i. let m = times_map i items in let k = known_in i in let o = t.once i in dite (ℕ_discrete slot i)
      (λ e. let one = is_same i slot e in let p = ap (λ (j : ℕ). total (waits_in j) known.plain) e in
      let q = ap (λ (j : ℕ). total (private_in j) known.private) e in omega arith)
      (λ ne. let none = is_other i slot ne in omega arith))
      (λ i high. let m = times_map i items in let k = known_in i in let z = t.items i (omega arith) in let none = is_other i slot (λ e. omega arith) in
      dite (dec_lt 0 (total (waits_in i) known.plain)) (λ some_wait. absurd (let f = inside i some_wait in omega arith)) (λ no. omega arith)) in
      let long = length-map items (λ (x : WaitingItem). x.slot) in let less = fewer is_kept t.all in
      let all = length-map t.all item_of in let kept = length-map (filter is_kept t.all) item_of in
      let bags = ap length t.bags ∙ length-map (kept_in known.closes t.all) (waiting_of n) in omega arith

  -- ---- where nothing is due and nothing is in the bags, nothing waits
  pub nothing_waits : taken ≡ [] → waiting ≡ [] → (i : ℕ) → (total (waits_in i) known.plain ≡ 0) × (total (private_in i) known.private ≡ 0)
  nothing_waits none_due none_left i = let all : filter is_kept t.all ≡ t.all = all_left n is_due t.all (sym t.due ∙ none_due) in
      let none : t.all ≡ [] = sym all ∙ unmapped item_of (filter is_kept t.all)
      (unmapped (waiting_of n) (kept_in known.closes t.all) (sym t.bags ∙ none_left)) in
      let k = known_in i in let z = ap (λ (l : List Kept). total (waits_in i) (map item_of l)) none in (omega arith, omega arith)
