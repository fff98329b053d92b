-- What is in front of a list
use Rattle.std.proofs.Common.{◌≡◌, ◌≢◌, ℕ, ◌+◌, ◌≤◌, List, [], ◌∷◌, length, Bool, true, false, Option, Some, None, refl, sym, ap, ◌∙◌, arith, subst}
use Rattle.std.specs.Prelude.{if◌then◌else◌}
use Rattle.sdd_core.specs.declared.tag.Tag.{Tag}
use Rattle.sdd_core.specs.declared.tag.Tag.TheVariants as tag
use Rattle.sdd_space.specs.declared.ptr.Ptr.{Ptr}
use Rattle.sdd_world_model.specs.World.{World, value_at}
use Rattle.sdd_participants.specs.declared.standing.CellContents.{CellContents}
use Rattle.sdd_space.specs.Ptr.{PtrIsShown, slot_named, shown_by}
use Rattle.sdd_participants.specs.Slab.{entry_at}
use Rattle.sdd_world_model.specs.WorldChanges.{held_in}
use Rattle.sdd_lists.specs.Lists.{Entry, content, is_deleting, is_deleted, first_slot, left, let_go_first, AreLinked, IsList, trimmed}
use Rattle.sdd_lists.specs.Queue.{is_at, lets_go_of}
use Rattle.sdd_lists.proofs.Lists.{apart, behind}

abbrev pub tag_in : Option CellContents → Tag
tag_in None = tag.None
tag_in (Some cell) = cell.tag

pub none-of : {T : Type 0} (es : List (Entry T)) → length es ≤ 0 → es ≡ []
none-of [] few = refl
none-of (e ∷ es) few = absurd (omega (arith, few))

pub empty-of : {T : Type 0} (es : List (Entry T)) → first_slot es ≡ None → es ≡ []
empty-of [] none = refl
empty-of (e ∷ es) none = absurd (cc)

-- a tag that doesn't delete
pub undeleting : (t : Tag) → t ≢ tag.Second → is_deleting t ≡ false
undeleting tag.None other = refl
undeleting tag.First other = refl
undeleting tag.Second other = absurd (other refl)
undeleting tag.Both other = refl

module _ {T : Type 0} (link : T → ℕ) (w : World T) (p c : ℕ) (t : Tag) where
  pub null-front : (now : List (Entry T)) (seen : CellContents) → IsList link w c t now → entry_at w.cells c ≡ Some seen → seen.held ≡ None →
      (first_slot (left now) ≡ None) × IsList link w c t (left now) × (w ≡ trimmed link w p c t now)
  null-front [] seen list there none = (refl, list, refl)
  null-front (e ∷ es) seen list there none =
      let never : Some e.slot ≡ None = ap held_in (sym list.begins ∙ there) ∙ none in absurd (cc)

  -- the value in front is the first entry's
  value-is : (e : Entry T) (es : List (Entry T)) (seen : CellContents) (k : ℕ) (v : T) → IsList link w c t (e ∷ es) → entry_at w.cells c ≡ Some seen →
      seen.held ≡ Some k → value_at w k ≡ Some v → (e.slot ≡ k) × (e.value ≡ v)
  value-is e es seen k v list there held value =
      let names : Some e.slot ≡ Some k = ap held_in (sym list.begins ∙ there) ∙ held in
      let slot : e.slot ≡ k = cc in
      let values : Some e.value ≡ Some v = sym list.linked.0.there ∙ ap (λ (j : ℕ). value_at w j) slot ∙ value in
      (slot, cc)

  pub kept-front : (now : List (Entry T)) (seen : CellContents) (k : ℕ) (v : T) (next : Option ℕ) (s : Tag) → IsList link w c t now →
      entry_at w.cells c ≡ Some seen → seen.held ≡ Some k → value_at w k ≡ Some v →
      entry_at w.cells (link v) ≡ Some (record { held = next; tag = s }) → s ≢ tag.Second →
      (Some k ≡ first_slot (left now)) × IsList link w c t (left now) × (w ≡ trimmed link w p c t now)
  kept-front [] seen k v next s list there held value linked other =
      let never : None ≡ Some k = ap held_in (sym list.begins ∙ there) ∙ held in absurd (cc)
  kept-front (e ∷ es) seen k v next s list there held value linked other =
      let is = value-is e es seen k v list there held value in
      let tags : e.tag ≡ s =
      ap tag_in (sym list.linked.0.linked ∙ ap (λ (x : T). entry_at w.cells (link x)) is.1 ∙ linked) in
      let stays : is_deleted e ≡ false = ap is_deleting tags ∙ undeleting s other in
      let name : Some e.slot ≡ Some k = ap (λ (j : ℕ). Some j) is.0 in
      rw stays (sym name, list, refl)

  pub gone-front : (now : List (Entry T)) (seen : CellContents) (k : ℕ) (v : T) (next : Option ℕ) → IsList link w c t now →
      entry_at w.cells c ≡ Some seen → seen.held ≡ Some k → value_at w k ≡ Some v →
      entry_at w.cells (link v) ≡ Some (record { held = next; tag = tag.Second }) →
      (c ≢ link v) × (entry_at w.cells c ≡ Some (record { held = Some k; tag = t })) ×
      ((u : World T) → u ≡ let_go_first w p c t k (link v) next → (rest : List (Entry T)) × IsList link u c t rest × (left rest ≡ left now) ×
      (trimmed link u p c t rest ≡ trimmed link w p c t now) × (length now ≡ length rest + 1))
  gone-front [] seen k v next list there held value linked =
      let never : None ≡ Some k = ap held_in (sym list.begins ∙ there) ∙ held in absurd (cc)
  gone-front (e ∷ es) seen k v next list there held value linked =
      let is = value-is e es seen k v list there held value in
      let at_link = sym list.linked.0.linked ∙ ap (λ (x : T). entry_at w.cells (link x)) is.1 ∙ linked in
      let tags : e.tag ≡ tag.Second = ap tag_in at_link in
      let nexts : first_slot es ≡ next = ap held_in at_link in
      let goes : is_deleted e ≡ true = ap is_deleting tags in
      let first : CellContents = record { held = Some e.slot; tag = t } in
      let ring = apart link w c first (e ∷ es) (e ∷ es) list.begins refl list.linked list.linked (omega arith) in (
        (λ same. ring.0 (ap link is.1 ∙ sym same)),
        list.begins ∙ ap (λ (j : ℕ). Some (record { held = Some j; tag = t })) is.0,
        (λ u made.
            let from_e : u ≡ let_go_first w p c t e.slot (link e.value) (first_slot es) =
            made ∙ ap (λ (j : ℕ). let_go_first w p c t j (link v) next) (sym is.0)
            ∙ ap (λ (x : T). let_go_first w p c t e.slot (link x) next) (sym is.1)
            ∙ ap (λ (n : Option ℕ). let_go_first w p c t e.slot (link e.value) n) (sym nexts) in (
              es,
              subst (λ (x : World T). IsList link x c t es) (sym from_e) (behind link w p c t e es list),
              rw goes refl,
              rw goes (ap (λ (x : World T). trimmed link x p c t es) from_e),
              omega arith,
            )),
      )

  -- where none is left that was not looked at, all were let go of
  pub spent : (now es : List (Entry T)) (x : World T) → IsList link w c t now → left now ≡ left es → trimmed link w p c t now ≡ x → length now ≤ 0 →
      (first_slot (left es) ≡ None) × IsList link w c t (left es) × (w ≡ x)
  spent [] es x list same is few = (ap first_slot (sym same), subst (λ (xs : List (Entry T)). IsList link w c t xs) same list, is)
  spent (e ∷ now) es x list same is few = absurd (omega (arith, few))

  pub none-there : (now : List (Entry T)) (cell : CellContents) → IsList link w c t now → length now ≤ 0 → entry_at w.cells c ≡ Some cell → cell.held ≡ None
  none-there [] cell list few there = ap held_in (sym there ∙ list.begins)
  none-there (e ∷ now) cell list few there = absurd (omega (arith, few))

-- the entry in front of what is linked
module _ {T : Type 0} (link : T → ℕ) (w : World T) where
  pub front-none : (es : List (Entry T)) (held : Option ℕ) → held ≡ first_slot es → held ≡ None → es ≡ []
  front-none [] held is none = refl
  front-none (e ∷ es) held is none = let never : Some e.slot ≡ None = sym is ∙ none in absurd (cc)

  pub front-some : (es : List (Entry T)) (held : Option ℕ) (k : ℕ) (v : T) → AreLinked link w es → held ≡ first_slot es → held ≡ Some k →
      value_at w k ≡ Some v → (e : Entry T) × (rest : List (Entry T)) × (es ≡ e ∷ rest) × (k ≡ e.slot) × (v ≡ e.value)
  front-some [] held k v linked is some value = let never : None ≡ Some k = sym is ∙ some in absurd (cc)
  front-some (e ∷ es) held k v linked is some value =
      let names : Some e.slot ≡ Some k = sym is ∙ some in
      let slot : e.slot ≡ k = cc in
      let values : Some e.value ≡ Some v = sym linked.0.there ∙ ap (λ (j : ℕ). value_at w j) slot ∙ value in
      (e, es, refl, sym slot, cc)

  -- its link tells whether it is deleted
  tag-is : (e : Entry T) (rest : List (Entry T)) (next : Option ℕ) (t : Tag) → AreLinked link w (e ∷ rest) →
      entry_at w.cells (link e.value) ≡ Some (record { held = next; tag = t }) → e.tag ≡ t
  tag-is e rest next t linked there = ap tag_in (sym linked.0.linked ∙ there)

  pub left-gone : (e : Entry T) (rest : List (Entry T)) (next : Option ℕ) → AreLinked link w (e ∷ rest) →
      entry_at w.cells (link e.value) ≡ Some (record { held = next; tag = tag.Second }) → left (e ∷ rest) ≡ left rest
  left-gone e rest next linked there =
      let goes : is_deleted e ≡ true = ap is_deleting (tag-is e rest next tag.Second linked there) in rw goes refl

  pub left-stays : (e : Entry T) (rest : List (Entry T)) (next : Option ℕ) (t : Tag) → AreLinked link w (e ∷ rest) →
      entry_at w.cells (link e.value) ≡ Some (record { held = next; tag = t }) → t ≢ tag.Second → left (e ∷ rest) ≡ e ∷ rest
  left-stays e rest next t linked there other =
      let stays : is_deleted e ≡ false = ap is_deleting (tag-is e rest next t linked there) ∙ undeleting t other in rw stays refl

-- a pointer that is null names no slot, and another one names its own
names-none-by : (b : Bool) (k : ℕ) → (¬ ((if b then Some k else None) ≡ None) → ⊥) → (if b then Some k else None) ≡ None
names-none-by true k is = absurd (is (λ e. absurd (cc)))
names-none-by false k is = refl

names-some-by : (b : Bool) (k : ℕ) → ¬ ((if b then Some k else None) ≡ None) → (if b then Some k else None) ≡ Some k
names-some-by true k is = refl
names-some-by false k is = absurd (is refl)

pub names-none : {T : Type 0} (p : Ptr T) → (¬ (slot_named p ≡ None) → ⊥) → slot_named p ≡ None
names-none p is = names-none-by p.named p.slot is

pub names-some : {T : Type 0} (p : Ptr T) → ¬ (slot_named p ≡ None) → slot_named p ≡ Some p.slot
names-some p is = names-some-by p.named p.slot is

-- a slot that a pointer names shows the pointer's value
pub shows-it : {T : Type 0} (shows : ℕ → T → Type 0) (p : Ptr T) (v : T) → slot_named p ≡ Some p.slot → shown_by p ≡ Some v →
    PtrIsShown shows p → shows p.slot v
shows-it shows p v names is shown =
    let full = shown.full p.slot names in
    let values : Some full.0 ≡ Some v = sym full.1 ∙ is in
    let value : full.0 ≡ v = cc in
    subst (λ (x : _). shows p.slot x) value full.2

-- a pointer that names the same, and shows the same
pub shown-as : {T : Type 0} (shows : ℕ → T → Type 0) (p q : Ptr T) → slot_named q ≡ slot_named p → shown_by q ≡ shown_by p → PtrIsShown shows p →
    PtrIsShown shows q
shown-as shows p q slots shown is = record {
  full = λ k names. let full = is.full k (sym slots ∙ names) in (full.0, shown ∙ full.1, full.2);
  null = λ names. shown ∙ is.null (sym slots ∙ names);
}

abbrev pub one_for : Bool → ℕ
one_for deleted = if deleted then 0 else 1

module _ {T : Type 0} where
  counted-by : (e : Entry T) (es : List (Entry T)) (b : Bool) → is_deleted e ≡ b → length (content (e ∷ es)) ≡ one_for b + length (content es)
  counted-by e es true is = rw is (omega arith)
  counted-by e es false is = rw is (omega arith)

  -- an entry counts for one where it isn't deleted
  pub counted : (e : Entry T) (es : List (Entry T)) → length (content (e ∷ es)) ≡ one_for (is_deleted e) + length (content es)
  counted e es = counted-by e es (is_deleted e) refl

-- of a list whose first entry has a tag that doesn't delete
module _ {T : Type 0} (link : T → ℕ) (w u : World T) (c : ℕ) (t : Tag) (e : Entry T) (rest : List (Entry T)) (list : IsList link w c t (e ∷ rest)) where
  pub head-stays : (l : ℕ) → l ≡ link e.value → u ≡ w → (cell : CellContents) → entry_at u.cells l ≡ Some cell → (s : Tag) → s ≡ cell.tag →
      s ≢ tag.Second → is_deleted e ≡ false
  head-stays l cell_is same cell there s seen other =
      let tags : e.tag ≡ s =
      ap tag_in (sym list.linked.0.linked ∙ ap (λ (k : ℕ). entry_at w.cells k) (sym cell_is) ∙ ap (λ (y : World T). entry_at y.cells l) (sym same) ∙ there)
      ∙ sym seen in
      ap is_deleting tags ∙ undeleting s other

goes-by : (b d more : Bool) → d ≡ false → b ≡ (if b then true else (if d then more else false))
goes-by true d more stays = refl
goes-by false d more stays = sym (ap (λ (x : Bool). if x then more else false) stays)

-- what is left of a list whose first entry isn't deleted, and whether a pop lets go of what a cell holds
module _ {T : Type 0} where
  pub left-head : (es : List (Entry T)) (e : Entry T) (rest : List (Entry T)) → es ≡ e ∷ rest → is_deleted e ≡ false → left es ≡ e ∷ rest
  left-head es e rest is stays = ap left is ∙ ap (λ (b : Bool). if b then left rest else e ∷ rest) stays

  pub goes-head : (held : Option ℕ) (e : Entry T) (rest : List (Entry T)) → is_deleted e ≡ false → is_at held e ≡ lets_go_of held (e ∷ rest)
  goes-head held e rest stays = goes-by (is_at held e) (is_deleted e) (lets_go_of held rest) stays
