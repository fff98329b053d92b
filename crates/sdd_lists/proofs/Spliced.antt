-- What it makes of a list that from one of its entries on it is another one
use Rattle.std.proofs.Common.{◌≡◌, ◌≢◌, ◌⊎◌, inl, inr, eq-eqb, ne_eqb, ℕ, List, [], ◌∷◌, length, true, false, Option, Some, None, refl, sym, ap, ◌∙◌, arith, subst, slice_index_or}
use Rattle.std.specs.Prelude.{◌==◌}
use Rattle.sdd_core.specs.declared.tag.Tag.{Tag}
use Rattle.sdd_core.specs.declared.tag.Tag.TheVariants as tag
use Rattle.sdd_world_model.specs.World.{World}
use Rattle.sdd_participants.specs.declared.standing.CellContents.{CellContents}
use Rattle.sdd_participants.specs.Slab.{entry_at}
use Rattle.sdd_lists.specs.Behind.{spliced}
use Rattle.sdd_lists.specs.Ends.{EndsWith, IsAmong}
use Rattle.sdd_lists.specs.Lists.{Apart, AreLinked, Entry, IsList, first_slot}
use Rattle.sdd_lists.specs.Queue.{IsLetGo, IsQueue, QueueCells}
use Rattle.sdd_lists.proofs.Ends.{apart-ends, linked-ends, shorter}
use Rattle.sdd_lists.proofs.GoneEntries.{KeepsGone, second-kept}
use Rattle.sdd_lists.proofs.Lists.{apart, as-long}

module _ {T : Type 0} (link : T → ℕ) (w new : World T) (e : Entry T) (rest : List (Entry T)) (f : Entry T) (others : List (Entry T))
    (slot : f.slot ≡ e.slot) (values : new.values ≡ w.values)
    (same : (d : ℕ) → d ≢ link e.value → Apart link d rest → entry_at new.cells d ≡ entry_at w.cells d)
    (tail : AreLinked link new (f ∷ others)) where
  other-slot : (x : Entry T) (xs : List (Entry T)) → AreLinked link w (x ∷ xs) → EndsWith xs e rest → (x.slot == e.slot) ≡ false
  other-slot x xs linked at = ne_eqb x.slot e.slot (λ meet.
      let long : length (x ∷ xs) ≡ length (e ∷ rest) =
      as-long link w (x ∷ xs) (e ∷ rest) linked (linked-ends link w xs e rest at linked.1) (ap (λ (k : ℕ). Some k) meet) in
      absurd (omega (arith, long, shorter xs e rest at)))

  same-slot : (x : Entry T) (xs : List (Entry T)) → x ∷ xs ≡ e ∷ rest → (x.slot == e.slot) ≡ true
  same-slot x xs is = let heads : x ≡ e = cc in eq-eqb x.slot e.slot (ap (λ (y : Entry T). y.slot) heads)

  pub spliced-list : (c : ℕ) (t : Tag) (es : List (Entry T)) → IsList link w c t es → EndsWith es e rest →
      IsList link new c t (spliced e.slot (f ∷ others) es)
  spliced-list c t [] list at = absurd at
  spliced-list c t (x ∷ xs) list (inl is) =
      let first : CellContents = record { held = Some x.slot; tag = t } in
      let ring = apart link w c first (x ∷ xs) (x ∷ xs) list.begins refl list.linked list.linked (omega arith) in
      let far : Apart link c (e ∷ rest) = subst (λ (ys : List (Entry T)). Apart link c ys) is ring in
      let begins : entry_at w.cells c ≡ Some (record { held = Some e.slot; tag = t }) =
      subst (λ (ys : List (Entry T)). entry_at w.cells c ≡ Some (record { held = first_slot ys; tag = t })) is list.begins in
      let changed : IsList link new c t (f ∷ others) = record {
        begins =
            same c (λ meet. far.0 (sym meet)) far.1 ∙ begins
            ∙ ap (λ (k : ℕ). let cell : CellContents = record { held = Some k; tag = t } in Some cell) (sym slot);
        linked = tail;
      } in
      rw (same-slot x xs is) changed
  spliced-list c t (x ∷ xs) list (inr at) =
      let inner : IsList link w (link x.value) x.tag xs = record { begins = list.linked.0.linked; linked = list.linked.1 } in
      let first : CellContents = record { held = Some x.slot; tag = t } in
      let ring = apart link w c first (x ∷ xs) (x ∷ xs) list.begins refl list.linked list.linked (omega arith) in
      let far = apart-ends link c xs e rest at ring.1 in
      let more = spliced-list (link x.value) x.tag xs inner at in
      let changed : IsList link new c t (x ∷ spliced e.slot (f ∷ others) xs) = record {
        begins = same c (λ meet. far.0 (sym meet)) far.1 ∙ list.begins;
        linked = (
          record {
            there = ap (λ (vs : List (Option T)). slice_index_or vs x.slot None) values ∙ list.linked.0.there;
            linked = more.begins;
            plain = list.linked.0.plain;
          },
          more.linked,
        );
      } in
      rw (other-slot x xs list.linked at) changed

  -- an entry is there still, or what became of those that others came for
  pub among-spliced : (k : ℕ) (es : List (Entry T)) → AreLinked link w es → EndsWith es e rest →
      (IsAmong k (e ∷ rest) → IsAmong k (f ∷ others) ⊎ IsLetGo link new k) → IsAmong k es →
      IsAmong k (spliced e.slot (f ∷ others) es) ⊎ IsLetGo link new k
  among-spliced k [] linked at keeps among = absurd at
  among-spliced k (x ∷ xs) linked (inl is) keeps among =
      let kept = keeps (subst (λ (ys : List (Entry T)). IsAmong k ys) is among) in rw (same-slot x xs is) kept
  among-spliced k (x ∷ xs) linked (inr at) keeps (inl here) =
      let kept : IsAmong k (x ∷ spliced e.slot (f ∷ others) xs) ⊎ IsLetGo link new k = inl (inl here) in rw (other-slot x xs linked at) kept
  among-spliced k (x ∷ xs) linked (inr at) keeps (inr there) =
      let kept : IsAmong k (x ∷ spliced e.slot (f ∷ others) xs) ⊎ IsLetGo link new k =
      elim (among-spliced k xs linked.1 at keeps there) [ inl more ↦ inl (inr more) | inr gone ↦ inr gone ] in
      rw (other-slot x xs linked at) kept

  pub apart-spliced : (l : ℕ) (es : List (Entry T)) → AreLinked link w es → EndsWith es e rest → Apart link l (f ∷ others) → Apart link l es →
      Apart link l (spliced e.slot (f ∷ others) es)
  apart-spliced l [] linked at new_ones all = absurd at
  apart-spliced l (x ∷ xs) linked (inl is) new_ones all = rw (same-slot x xs is) new_ones
  apart-spliced l (x ∷ xs) linked (inr at) new_ones all =
      let kept : Apart link l (x ∷ spliced e.slot (f ∷ others) xs) = (all.0, apart-spliced l xs linked.1 at new_ones all.1) in
      rw (other-slot x xs linked at) kept

  pub spliced-queue : (q : QueueCells) (es : List (Entry T)) (second : Option ℕ) → IsQueue link w q es second → EndsWith es e rest →
      ((k : ℕ) → IsAmong k (e ∷ rest) → IsAmong k (f ∷ others) ⊎ IsLetGo link new k) → KeepsGone w new → Apart link q.newest (f ∷ others) →
      entry_at new.cells q.newest ≡ entry_at w.cells q.newest → IsQueue link new q (spliced e.slot (f ∷ others) es) second
  spliced-queue q es second queue at keeps gone new_ones stays = record {
    list = spliced-list q.oldest tag.None es queue.list at;
    newest = stays ∙ queue.newest;
    among =
        second-kept link w new second es (spliced e.slot (f ∷ others) es) gone
        (λ k among. among-spliced k es queue.list.linked at (keeps k) among) queue.among;
    two = queue.two;
    apart = apart-spliced q.newest es queue.list.linked at new_ones queue.apart;
  }
