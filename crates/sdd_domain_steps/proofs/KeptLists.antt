-- Lists of what waits, plainly and privately, and sums over them
use Rattle.std.proofs.Common.{◌≡◌, ℕ, suc, ◌+◌, ◌≤◌, ◌==◌, not, List, [], ◌∷◌, ◌++◌, map, filter, sym, refl, ap, ◌∙◌, arith}
use mathlib.Core.Bool.{Bool, true, false, cond}
use mathlib.Core.Option.{some}
use lib.ListN.{get_elem?}
use Rattle.sdd_rights.specs.declared.views.PrivateItem.{PrivateItem}
use Rattle.sdd_rights.specs.declared.views.WaitingItem.{WaitingItem}
use Rattle.sdd_domain_invariant.specs.Collectors.CollectorWordSteps.{for_collector, without_private}
use Rattle.sdd_domain_invariant.specs.Slots.SlotSteps.{older, older_private, without_item}
use Rattle.sdd_domain_invariant.specs.Sums.{total}
use Rattle.sdd_domain_invariant.proofs.Sums.{total_only, total_snoc, total_two}
use Rattle.sdd_domain_steps.specs.InBags.{Kept, Plainly, Privately, AreSame, item_of, plain_of, private_of}

-- ---- sums
pub some_part : (b : Bool) (k : ℕ) → cond b k 0 ≤ k
some_part true k = omega arith
some_part false k = omega arith

module _ {X : Type 0} where
  part : (b : Bool) (f : X → ℕ) (x : X) (ys : List X) → total f (cond b (x ∷ ys) ys) ≡ cond b (f x) 0 + total f ys
  part true f x ys = refl
  part false f x ys = omega arith

  pub total_filter : (p : X → Bool) (f : X → ℕ) (xs : List X) → total f (filter p xs) ≡ total (λ (x : X). cond (p x) (f x) 0) xs
  total_filter p f [] = refl
  total_filter p f (x ∷ xs) = part (p x) f x (filter p xs) ∙ ap (λ (k : ℕ). cond (p x) (f x) 0 + k) (total_filter p f xs)

  pub total_of_map : {Y : Type 0} (g : X → Y) (f : Y → ℕ) (xs : List X) → total f (map g xs) ≡ total (λ (x : X). f (g x)) xs
  total_of_map g f [] = refl
  total_of_map g f (x ∷ xs) = ap (λ (k : ℕ). f (g x) + k) (total_of_map g f xs)

  pub total_le : (f g : X → ℕ) → ((x : X) → f x ≤ g x) → (xs : List X) → total f xs ≤ total g xs
  total_le f g less [] = omega arith
  total_le f g less (x ∷ xs) = let a = less x in let r = total_le f g less xs in omega arith

  pub total_fewer : (p : X → Bool) (f : X → ℕ) (xs : List X) → total f (filter p xs) ≤ total f xs
  total_fewer p f xs = let a = total_filter p f xs in let b = total_le (λ (x : X). cond (p x) (f x) 0) f (λ x. some_part (p x) (f x)) xs in omega arith

  -- where one of them alone counts for w, and what counts for nothing there does so for g, the sum of g is that of the one
  pub total_of_one : (w g : X → ℕ) (xs : List X) (k : ℕ) (x : X) → get_elem? xs k ≡ some x → total w xs ≤ 1 → w x ≡ 1
      → ((y : X) → w y ≡ 0 → g y ≡ 0) → total g xs ≡ g x
  total_of_one w g xs k x at few one none = total_only g xs k x at
      (λ j u apart e. let t = total_two w xs j k u x apart e at in none u (omega arith))

  pub same_snoc : (xs ys : List X) (x : X) → AreSame xs ys → AreSame (xs ++ x ∷ []) (ys ++ x ∷ [])
  same_snoc xs ys x same f = let a = total_snoc f xs x in let b = total_snoc f ys x in let s = same f in omega arith

  pub same_filter : (p : X → Bool) (xs ys : List X) → AreSame xs ys → AreSame (filter p xs) (filter p ys)
  same_filter p xs ys same f = total_filter p f xs ∙ (same (λ (x : X). cond (p x) (f x) 0) ∙ sym (total_filter p f ys))

  pub same_map : {Y : Type 0} (g : X → Y) (xs ys : List X) → AreSame xs ys → AreSame (map g xs) (map g ys)
  same_map g xs ys same f = total_of_map g f xs ∙ (same (λ (x : X). f (g x)) ∙ sym (total_of_map g f ys))

-- ---- two tests
module _ {X : Type 0} where
  swap : (b c : Bool) (p q : X → Bool) (x : X) (us : List X) → p x ≡ b → q x ≡ c
      → filter p (cond c (x ∷ us) us) ≡ cond b (cond c (x ∷ filter p us) (filter p us)) (filter p us)
  swap b true p q x us at_p at_q = ap (λ (e : Bool). cond e (x ∷ filter p us) (filter p us)) at_p
  swap true false p q x us at_p at_q = refl
  swap false false p q x us at_p at_q = refl

  turn : (b c : Bool) (x : X) (us : List X) → cond b (cond c (x ∷ us) us) us ≡ cond c (cond b (x ∷ us) us) us
  turn true true x us = refl
  turn true false x us = refl
  turn false true x us = refl
  turn false false x us = refl

  -- are as well tried the other way round
  pub filter_both : (p q : X → Bool) (xs : List X) → filter p (filter q xs) ≡ filter q (filter p xs)
  filter_both p q [] = refl
  filter_both p q (x ∷ xs) = swap (p x) (q x) p q x (filter q xs) refl refl
      ∙ (ap (λ (l : List X). cond (p x) (cond (q x) (x ∷ l) l) l) (filter_both p q xs)
      ∙ (turn (p x) (q x) x (filter q (filter p xs)) ∙ sym (swap (q x) (p x) q p x (filter p xs) refl refl)))

  map_where : {Y : Type 0} (g : X → Y) (b : Bool) (x : X) (us : List X) → map g (cond b (x ∷ us) us) ≡ cond b (g x ∷ map g us) (map g us)
  map_where g true x us = refl
  map_where g false x us = refl

  pub filter_mapped : {Y : Type 0} (g : X → Y) (p : Y → Bool) (xs : List X) → filter p (map g xs) ≡ map g (filter (λ (x : X). p (g x)) xs)
  filter_mapped g p [] = refl
  filter_mapped g p (x ∷ xs) = ap (λ (l : List _). cond (p (g x)) (g x ∷ l) l) (filter_mapped g p xs)
      ∙ sym (map_where g (p (g x)) x (filter (λ (x : X). p (g x)) xs))

  -- what two tests say alike of each element
  pub filter_alike : (p q : X → Bool) (xs : List X) → ((k : ℕ) (x : X) → get_elem? xs k ≡ some x → p x ≡ q x) → filter p xs ≡ filter q xs
  filter_alike p q [] same = refl
  filter_alike p q (x ∷ xs) same = λ d. cond (same 0 x refl d) (x ∷ filter_alike p q xs (λ k. same (suc k)) d) (filter_alike p q xs (λ k. same (suc k)) d)

  pub filter_true : (xs : List X) → filter (λ (x : X). true) xs ≡ xs
  filter_true [] = refl
  filter_true (x ∷ xs) = ap (λ (l : List X). x ∷ l) (filter_true xs)

-- ---- one more waits, for no collector
pub plain_snoc : (all : List Kept) (x : WaitingItem) → plain_of (all ++ Plainly x ∷ []) ≡ plain_of all ++ x ∷ []
plain_snoc [] x = refl
plain_snoc (Plainly y ∷ ys) x = ap (λ (l : List WaitingItem). y ∷ l) (plain_snoc ys x)
plain_snoc (Privately y ∷ ys) x = plain_snoc ys x

pub private_snoc : (all : List Kept) (x : WaitingItem) → private_of (all ++ Plainly x ∷ []) ≡ private_of all
private_snoc [] x = refl
private_snoc (Plainly y ∷ ys) x = private_snoc ys x
private_snoc (Privately y ∷ ys) x = ap (λ (l : List PrivateItem). y ∷ l) (private_snoc ys x)

pub items_snoc : (all : List Kept) (x : WaitingItem) → map item_of (all ++ Plainly x ∷ []) ≡ map item_of all ++ x ∷ []
items_snoc [] x = refl
items_snoc (y ∷ ys) x = ap (λ (l : List WaitingItem). item_of y ∷ l) (items_snoc ys x)

-- ---- all have seen one change more
abbrev pub older_kept : Kept → Kept
older_kept (Plainly x) = Plainly (older x)
older_kept (Privately x) = Privately (older_private x)

pub plain_older : (all : List Kept) → plain_of (map older_kept all) ≡ map older (plain_of all)
plain_older [] = refl
plain_older (Plainly x ∷ xs) = ap (λ (l : List WaitingItem). older x ∷ l) (plain_older xs)
plain_older (Privately x ∷ xs) = plain_older xs

pub private_older : (all : List Kept) → private_of (map older_kept all) ≡ map older_private (private_of all)
private_older [] = refl
private_older (Plainly x ∷ xs) = private_older xs
private_older (Privately x ∷ xs) = ap (λ (l : List PrivateItem). older_private x ∷ l) (private_older xs)

pub items_older : (all : List Kept) → map item_of (map older_kept all) ≡ map older (map item_of all)
items_older [] = refl
items_older (Plainly x ∷ xs) = ap (λ (l : List WaitingItem). older x ∷ l) (items_older xs)
items_older (Privately x ∷ xs) = ap (λ (l : List WaitingItem). older x.item ∷ l) (items_older xs)

-- ---- some of it is left
module _ (p : WaitingItem → Bool) where
  abbrev pub left_kept : List Kept → List Kept
  left_kept = filter (λ (x : Kept). p (item_of x))

  plain_first : (b : Bool) (x : WaitingItem) (l : List Kept) → plain_of (cond b (Plainly x ∷ l) l) ≡ cond b (x ∷ plain_of l) (plain_of l)
  plain_first true x l = refl
  plain_first false x l = refl

  plain_past : (b : Bool) (x : PrivateItem) (l : List Kept) → plain_of (cond b (Privately x ∷ l) l) ≡ plain_of l
  plain_past true x l = refl
  plain_past false x l = refl

  private_first : (b : Bool) (x : PrivateItem) (l : List Kept) → private_of (cond b (Privately x ∷ l) l) ≡ cond b (x ∷ private_of l) (private_of l)
  private_first true x l = refl
  private_first false x l = refl

  private_past : (b : Bool) (x : WaitingItem) (l : List Kept) → private_of (cond b (Plainly x ∷ l) l) ≡ private_of l
  private_past true x l = refl
  private_past false x l = refl

  item_first : (b : Bool) (x : Kept) (l : List Kept) → map item_of (cond b (x ∷ l) l) ≡ cond b (item_of x ∷ map item_of l) (map item_of l)
  item_first true x l = refl
  item_first false x l = refl

  pub plain_left : (all : List Kept) → plain_of (left_kept all) ≡ filter p (plain_of all)
  plain_left [] = refl
  plain_left (Plainly x ∷ xs) = plain_first (p x) x (left_kept xs) ∙ ap (λ (l : List WaitingItem). cond (p x) (x ∷ l) l) (plain_left xs)
  plain_left (Privately x ∷ xs) = plain_past (p x.item) x (left_kept xs) ∙ plain_left xs

  pub private_left : (all : List Kept) → private_of (left_kept all) ≡ filter (λ (x : PrivateItem). p x.item) (private_of all)
  private_left [] = refl
  private_left (Plainly x ∷ xs) = private_past (p x) x (left_kept xs) ∙ private_left xs
  private_left (Privately x ∷ xs) = private_first (p x.item) x (left_kept xs)
      ∙ ap (λ (l : List PrivateItem). cond (p x.item) (x ∷ l) l) (private_left xs)

  pub items_left : (all : List Kept) → map item_of (left_kept all) ≡ filter p (map item_of all)
  items_left [] = refl
  items_left (x ∷ xs) = item_first (p (item_of x)) x (left_kept xs)
      ∙ ap (λ (l : List WaitingItem). cond (p (item_of x)) (item_of x ∷ l) l) (items_left xs)

-- ---- each counts in one of the two lists
pub counts : (g : WaitingItem → ℕ) (all : List Kept)
    → total g (map item_of all) ≡ total g (plain_of all) + total (λ (x : PrivateItem). g x.item) (private_of all)
counts g [] = refl
counts g (Plainly x ∷ xs) = let r = counts g xs in omega arith
counts g (Privately x ∷ xs) = let r = counts g xs in omega arith

-- ---- the plain item of a slot waits for a collector
module _ (slot collector : ℕ) where
  abbrev pub for_it : Bool → WaitingItem → Kept
  for_it b x = cond b (Privately (for_collector collector x)) (Plainly x)

  abbrev pub kept_for : Kept → Kept
  kept_for (Plainly x) = for_it (x.slot == slot) x
  kept_for (Privately x) = Privately x

  for_item : (b : Bool) (x : WaitingItem) → item_of (for_it b x) ≡ x
  for_item true x = refl
  for_item false x = refl

  for_plain : (b : Bool) (x : WaitingItem) (l : List Kept) → plain_of (for_it b x ∷ l) ≡ cond (not b) (x ∷ plain_of l) (plain_of l)
  for_plain true x l = refl
  for_plain false x l = refl

  for_private : (b : Bool) (x : WaitingItem) (f : PrivateItem → ℕ) (l : List Kept)
      → total f (private_of (for_it b x ∷ l)) ≡ cond b (f (for_collector collector x)) 0 + total f (private_of l)
  for_private true x f l = refl
  for_private false x f l = omega arith

  pub items_for : (all : List Kept) → map item_of (map kept_for all) ≡ map item_of all
  items_for [] = refl
  items_for (Plainly x ∷ xs) = (λ d. for_item (x.slot == slot) x d ∷ items_for xs d)
  items_for (Privately x ∷ xs) = ap (λ (l : List WaitingItem). x.item ∷ l) (items_for xs)

  pub plain_for : (all : List Kept) → plain_of (map kept_for all) ≡ without_item slot (plain_of all)
  plain_for [] = refl
  plain_for (Plainly x ∷ xs) = for_plain (x.slot == slot) x (map kept_for xs)
      ∙ ap (λ (l : List WaitingItem). cond (not (x.slot == slot)) (x ∷ l) l) (plain_for xs)
  plain_for (Privately x ∷ xs) = plain_for xs

  pub private_for : (f : PrivateItem → ℕ) (all : List Kept) → total f (private_of (map kept_for all))
      ≡ total f (private_of all) + total (λ (x : WaitingItem). cond (x.slot == slot) (f (for_collector collector x)) 0) (plain_of all)
  private_for f [] = refl
  private_for f (Plainly x ∷ xs) = let a = for_private (x.slot == slot) x f (map kept_for xs) in let r = private_for f xs in omega arith
  private_for f (Privately x ∷ xs) = let r = private_for f xs in omega arith

-- ---- the private item of a slot waits for no collector any more
module _ (slot : ℕ) where
  abbrev pub for_none : Bool → PrivateItem → Kept
  for_none b x = cond b (Plainly x.item) (Privately x)

  abbrev pub kept_plainly : Kept → Kept
  kept_plainly (Plainly x) = Plainly x
  kept_plainly (Privately x) = for_none (x.item.slot == slot) x

  none_item : (b : Bool) (x : PrivateItem) → item_of (for_none b x) ≡ x.item
  none_item true x = refl
  none_item false x = refl

  none_private : (b : Bool) (x : PrivateItem) (l : List Kept) → private_of (for_none b x ∷ l) ≡ cond (not b) (x ∷ private_of l) (private_of l)
  none_private true x l = refl
  none_private false x l = refl

  none_plain : (b : Bool) (x : PrivateItem) (f : WaitingItem → ℕ) (l : List Kept)
      → total f (plain_of (for_none b x ∷ l)) ≡ cond b (f x.item) 0 + total f (plain_of l)
  none_plain true x f l = refl
  none_plain false x f l = omega arith

  pub items_plainly : (all : List Kept) → map item_of (map kept_plainly all) ≡ map item_of all
  items_plainly [] = refl
  items_plainly (Plainly x ∷ xs) = ap (λ (l : List WaitingItem). x ∷ l) (items_plainly xs)
  items_plainly (Privately x ∷ xs) = (λ d. none_item (x.item.slot == slot) x d ∷ items_plainly xs d)

  pub private_plainly : (all : List Kept) → private_of (map kept_plainly all) ≡ without_private slot (private_of all)
  private_plainly [] = refl
  private_plainly (Plainly x ∷ xs) = private_plainly xs
  private_plainly (Privately x ∷ xs) = none_private (x.item.slot == slot) x (map kept_plainly xs)
      ∙ ap (λ (l : List PrivateItem). cond (not (x.item.slot == slot)) (x ∷ l) l) (private_plainly xs)

  pub plain_plainly : (f : WaitingItem → ℕ) (all : List Kept) → total f (plain_of (map kept_plainly all))
      ≡ total f (plain_of all) + total (λ (x : PrivateItem). cond (x.item.slot == slot) (f x.item) 0) (private_of all)
  plain_plainly f [] = refl
  plain_plainly f (Plainly x ∷ xs) = let r = plain_plainly f xs in omega arith
  plain_plainly f (Privately x ∷ xs) = let a = none_plain (x.item.slot == slot) x f (map kept_plainly xs) in let r = plain_plainly f xs in omega arith
