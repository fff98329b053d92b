-- What an iterator gives, and where it is then
use Rattle.std.proofs.Common.{◌≡◌, ◌≤◌, ℕ, ◌-◌, List, [], ◌∷◌, ◌++◌, length, Bool, true, false, Option, Some, None, refl, sym, ap, ◌∙◌, arith, subst}
use Rattle.std.specs.Prelude.{IfSome, drop, map, option_copied, slice_get, if◌then◌else◌}
use Rattle.std.specs.Borrow.{Bor}
use Rattle.std.proofs.iter.runs.Sources.{lists}
use Rattle.std.specs.Iterator.{AlwaysYields, Yields}
use Rattle.std.specs.Iterator.Runs.{EachRunFrom, ItemsMapTo, YieldsRun}
use Rattle.sdd_core.specs.declared.tag.Tag.{Tag}
use Rattle.sdd_participants.specs.Slab.{entry_at}
use Rattle.sdd_participants.specs.declared.standing.CellContents.{CellContents}
use Rattle.sdd_space.specs.CallerId.{CallerId, IsExact}
use Rattle.sdd_rights.specs.Right.{number_of}
use Rattle.sdd_rights.specs.declared.right.Right.{Right}
use Rattle.sdd_world_model.specs.Cells.{slot_held}
use Rattle.sdd_world_model.specs.OwnerOrCell.{SpaceId, OwnerOrCell, AreOf}
use Rattle.sdd_world_model.specs.World.{World, value_at}
use Rattle.sdd_world_model.specs.WorldChanges.{held_in}
use Rattle.sdd_space.proofs.Composed.{rest-of}
use Rattle.sdd_lists.specs.declared.iter.Iter.{Iter}
use Rattle.sdd_lists.specs.declared.linked_entry.LinkedEntry.{LinkedEntry}
use Rattle.sdd_lists.specs.Entries.{holdings_of, link_home_of, link_of, link_part, value_of}
use Rattle.sdd_lists.specs.Iter.{GivesInOrder, GoesInOrder, IsBefore}
use Rattle.sdd_lists.specs.Lists.{AreLinked, Entry, IsList, first_slot, is_deleted, is_deleting, left}
use Rattle.sdd_lists.specs.Walk.{first_shown, shown_of}
use Rattle.sdd_lists.proofs.Order.{values-gone}
use Rattle.sdd_lists.proofs.WalkPositions.{shown-first, shown-left}

module _ {T : Type 0} (holds : T → List OwnerOrCell) (home : SpaceId) where
  -- the link of an entry of a home is of that home
  pub link-home : (e : LinkedEntry T) → AreOf home (holdings_of holds e) → link_home_of e ≡ home.cells
  link-home e are = let parts : AreOf home (link_part e) = rest-of home (holds (value_of e)) (link_part e) are in parts.0

-- what is found in one borrow of a space by one cell's number is found in the other by the other
module _ {T S : Type 0} (world : S → World (LinkedEntry T)) (s t : Bor S) (same : s ≡ t) (c l : ℕ) (cell : c ≡ l) where
  pub slot-at : (o : Option ℕ) → o ≡ held_in (entry_at (world s.now).cells c) → o ≡ held_in (entry_at (world t.now).cells l)
  slot-at o is =
      is ∙ ap (λ (x : Bor S). held_in (entry_at (world x.now).cells c)) same ∙ ap (λ (k : ℕ). held_in (entry_at (world t.now).cells k)) cell

  pub tag-at : (tag : Tag) → IfSome (entry_at (world s.now).cells c) (λ held. held.tag ≡ tag) →
      IfSome (entry_at (world t.now).cells l) (λ held. held.tag ≡ tag)
  tag-at tag is =
      subst (λ (k : ℕ). IfSome (entry_at (world t.now).cells k) (λ held. held.tag ≡ tag)) cell
      (subst (λ (x : Bor S). IfSome (entry_at (world x.now).cells c) (λ held. held.tag ≡ tag)) same is)

-- what the holder of an owner leads to
module _ {T : Type 0} (w : World (LinkedEntry T)) (owner : Right) (v : LinkedEntry T) (there : value_at w (number_of owner) ≡ Some v) where
  pub record IsAhead (es : List (Entry (LinkedEntry T))) : Type 0 where
    pub first : Entry (LinkedEntry T)
    pub rest : List (Entry (LinkedEntry T))
    pub is : es ≡ first ∷ rest
    pub value : first.value ≡ v
    pub linked : AreLinked link_of w rest
    pub cell : entry_at w.cells (link_of v) ≡ Some (record { held = first_slot rest; tag = first.tag })

  pub ahead : (o : Option Right) → o ≡ Some owner → (es : List (Entry (LinkedEntry T))) → AreLinked link_of w es → slot_held o ≡ first_slot es → IsAhead es
  ahead o at [] linked holds = let never : Some (number_of owner) ≡ None = sym (ap slot_held at) ∙ holds in absurd (cc)
  ahead o at (e ∷ es) linked holds =
      let here : Some (number_of owner) ≡ Some e.slot = sym (ap slot_held at) ∙ holds in
      let number : e.slot ≡ number_of owner = cc in
      let same : Some e.value ≡ Some v = sym linked.0.there ∙ ap (λ (k : ℕ). value_at w k) number ∙ there in
      let value : e.value ≡ v = cc in
      record {
        first = e;
        rest = es;
        is = refl;
        value = value;
        linked = linked.1;
        cell = subst (λ (x : LinkedEntry T). entry_at w.cells (link_of x) ≡ Some (record { held = first_slot es; tag = e.tag })) value linked.0.linked;
      }

  module _ (tag : Tag) (tagged : IfSome (entry_at w.cells (link_of v)) (λ held. held.tag ≡ tag)) (es : List (Entry (LinkedEntry T))) (a : IsAhead es) where
    tag-is : a.first.tag ≡ tag
    tag-is = subst (λ (o : Option CellContents). IfSome o (λ held. held.tag ≡ tag)) a.cell tagged

    pub passed : is_deleting tag ≡ true → left es ≡ left a.rest
    passed deleted =
        let gone : is_deleted a.first ≡ true = subst (λ (t : Tag). is_deleting t ≡ true) (sym tag-is) deleted in
        ap (λ (xs : List (Entry (LinkedEntry T))). left xs) a.is ∙ ap (λ (b : Bool). if b then left a.rest else a.first ∷ a.rest) gone

    pub stays : is_deleting tag ≡ false → left es ≡ es
    stays kept =
        let still : is_deleted a.first ≡ false = subst (λ (t : Tag). is_deleting t ≡ false) (sym tag-is) kept in
        ap (λ (xs : List (Entry (LinkedEntry T))). left xs) a.is ∙ ap (λ (b : Bool). if b then left a.rest else a.first ∷ a.rest) still ∙ sym a.is

    -- what is shown of these is what is shown of the others
    pub shown-passed : is_deleting tag ≡ true → shown_of es ≡ shown_of a.rest
    shown-passed deleted =
        let gone : is_deleted a.first ≡ true = subst (λ (t : Tag). is_deleting t ≡ true) (sym tag-is) deleted in
        ap (λ (xs : List (Entry (LinkedEntry T))). shown_of xs) a.is ∙ ap (λ (xs : List (LinkedEntry T)). map value_of xs) (values-gone a.first a.rest gone)

pub none-ahead : {T : Type 0} (o : Option Right) → o ≡ None → (es : List (Entry (LinkedEntry T))) → slot_held o ≡ first_slot es → es ≡ []
none-ahead o none [] holds = refl
none-ahead o none (e ∷ es) holds = let never : None ≡ Some e.slot = sym (ap slot_held none) ∙ holds in absurd (cc)

pub none-left : {T : Type 0} (es : List (Entry (LinkedEntry T))) → length es ≤ 0 → es ≡ []
none-left [] few = refl
none-left (e ∷ es) few = absurd (omega (arith, few))

module _ {T S : Type 0} (w : World (LinkedEntry T)) where
  pub gives-all : (it : Iter T S) (c : ℕ) (t : Tag) (es : List (Entry (LinkedEntry T))) → IsList link_of w c t es →
      slot_held it.next.now ≡ held_in (entry_at w.cells c) → length es ≤ it.most → it.reach ≡ it.most → GivesInOrder w it (shown_of es)
  gives-all it c t es list next few reach = record {
    entries = es;
    before = record { linked = list.linked; next = next ∙ ap held_in list.begins; few = few; within = omega (arith, few, reach) };
    values = refl;
  }

  -- the first of these is given, which isn't deleted, and the iterator is before the others then
  pub given-first : (after : Iter T S) (es : List (Entry (LinkedEntry T))) → left es ≡ es → (given : Option (Bor T)) → option_copied given ≡ first_shown es →
      IsBefore w after (drop 1 es) → (vs : List T) → vs ≡ shown_of es → (option_copied given ≡ slice_get vs 0) × GivesInOrder w after (drop 1 vs)
  given-first after [] kept given first before vs values = (
    first ∙ sym (ap (λ (xs : List T). slice_get xs 0) values),
    record { entries = []; before = before; values = ap (drop 1) values },
  )
  given-first after (e ∷ es) kept given first before vs values =
      let all : vs ≡ value_of e.value ∷ shown_of es =
      values ∙ shown-first e es kept ∙ ap (λ (xs : List T). value_of e.value ∷ xs) (shown-left es) in (
        first ∙ sym (ap (λ (xs : List T). slice_get xs 0) all),
        record { entries = es; before = before; values = ap (drop 1) all },
      )

module _ {T S : Type 0} (caller : S → CallerId) (world : S → World (LinkedEntry T)) where
  -- whatever calls give, it is these values in order, and then nothing more
  yields-all : (vs : List T) (it : Iter T S) → IsExact (caller it.space.now) → GivesInOrder (world it.space.now) it vs →
      AlwaysYields (GoesInOrder caller world) (λ v. v.now) it vs
  yields-all [] it exact gives = λ x after step. let never : Some x.now ≡ None = (step.gives exact [] gives).0 in absurd (cc)
  yields-all (v ∷ vs) it exact gives = (
    λ after step. let never : None ≡ Some v = (step.gives exact (v ∷ vs) gives).0 in absurd (cc),
    λ x after step.
        let next = step.gives exact (v ∷ vs) gives in
        let first : Some x.now ≡ Some v = next.0 in (
          (let value : x.now ≡ v = cc in value),
          yields-all vs after (subst (λ (y : Bor S). IsExact (caller y.now)) (sym step.space) exact)
              (subst (λ (y : Bor S). GivesInOrder (world y.now) after vs) (sym step.space) next.1),
        ),
  )

module _ {T S : Type 0} (caller : S → CallerId) (world : S → World (LinkedEntry T)) where
  -- the same where it looks at this space
  pub always : (s : S) (it : Iter T S) (vs : List T) → it.space.now ≡ s → IsExact (caller s) → GivesInOrder (world s) it vs →
      AlwaysYields (GoesInOrder caller world) (λ v. v.now) it vs
  always s it vs is exact gives = yields-all caller world vs it (subst (λ (x : S). IsExact (caller x)) (sym is) exact)
      (subst (λ (x : S). GivesInOrder (world x) it vs) (sym is) gives)

-- a run from where calls always yield these values reads them, in order
module _ {S A B : Type 0} (steps : S → Option A → S → Type 0) (v : A → B) where
  record IsAlong (xs : List A) (t : S) (ys : List B) : Type 0 where
    more : List B
    all : ys ≡ map v xs ++ more
    always : AlwaysYields steps v t more

  along : (xs : List A) (s t : S) (ys : List B) → AlwaysYields steps v s ys → Yields steps s xs t → IsAlong xs t ys
  along [] s t ys always led = record { more = ys; all = refl; always = subst (λ (x : S). AlwaysYields steps v x ys) led always }
  along (x ∷ xs) s t [] always led = absurd (always x led.0 led.1)
  along (x ∷ xs) s t (y ∷ ys) always led =
      let first = always.1 x led.0 led.1 in
      let rest = along xs led.0 t ys first.1 led.2 in
      record { more = rest.more; all = ap (λ (z : B). z ∷ ys) (sym first.0) ∙ ap (λ (zs : List B). v x ∷ zs) rest.all; always = rest.always }

  ended : (t u : S) (more : List B) → AlwaysYields steps v t more → steps t None u → length more ≡ 0
  ended t u [] always none = refl
  ended t u (y ∷ more) always none = absurd (always.0 u none)

  pub reads : (s : S) (ys : List B) → AlwaysYields steps v s ys → EachRunFrom steps s (λ p. ItemsMapTo p v ys)
  unfolding YieldsRun
  reads s ys always p _ from =
      let gave = p.gave in
      let led = along p.items p.from gave.0.0 ys (subst (λ (x : S). AlwaysYields steps v x ys) (sym from) always) gave.0.1 in
      lists p v ys led.more (λ whole. let stop = gave.0.2 whole in ended gave.0.0 stop.0 led.more led.always stop.1) led.all
