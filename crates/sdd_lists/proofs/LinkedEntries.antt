-- What it makes of lists that an entry comes behind another one
use Rattle.std.proofs.Common.{◌≡◌, ◌≢◌, ◌⊎◌, inl, inr, ℕ, ◌+◌, List, ◌∷◌, Option, Some, None, Result, Ok, Err, refl, sym, ap, ◌∙◌, subst, slice_index_or}
use Rattle.std.specs.Prelude.{MatchResult}
use Rattle.std.proofs.lemmas.List.{get_or-set_other}
use Rattle.sdd_core.specs.declared.refused.Refused.{Refused}
use Rattle.sdd_core.specs.declared.tag.Tag.{Tag}
use Rattle.sdd_core.specs.declared.tag.Tag.TheVariants as tag
use Rattle.sdd_world_model.specs.World.{World}
use Rattle.sdd_participants.specs.declared.standing.CellContents.{CellContents}
use Rattle.sdd_participants.specs.Slab.{entry_at}
use Rattle.sdd_participants.specs.declared.standing.Standing.TheVariants.{Shared as shared_by}
use Rattle.sdd_world_model.specs.WorldChanges.{with_cell, with_standing}
use Rattle.sdd_space.specs.Shared.{Shared}
use Rattle.sdd_lists.specs.Behind.{IsFresh, IsLinkedBehind, Reaches, entry_made, spliced}
use Rattle.sdd_lists.specs.Ends.{EndsWith, IsAmong}
use Rattle.sdd_lists.specs.Lists.{Apart, AreLinked, Entry, IsList, first_slot, left, linked_in, trimmed}
use Rattle.sdd_lists.specs.Queue.{IsLetGo, IsQueue, QueueCells}
use Rattle.sdd_lists.proofs.Ends.{apart-ends, linked-ends, list-ends}
use Rattle.sdd_lists.proofs.GoneEntries.{KeepsGone, gone-trimmed, gone-written, other-tag, second-kept, trimmed-or}
use Rattle.sdd_lists.proofs.QueuePops.{list-apart, queue-same}
use Rattle.sdd_lists.proofs.Lists.{list-same}
use Rattle.sdd_lists.proofs.PushedLists.{apart-left, pushed-as, trim-other, trim-values}
use Rattle.sdd_lists.proofs.Spliced.{spliced-list, spliced-queue}

module _ {T : Type 0} (link : T → ℕ) (w : World T) (c : ℕ) (t to : Tag) (es : List (Entry T)) (k : ℕ) (v : T)
    (list : IsList link w c t es) (fresh : IsFresh link w k v c es) (kept : t ≢ tag.Second) where
  abbrev pub linked : World T
  linked = linked_in w c to (link v) k (first_slot es)

  abbrev half : World T
  half = with_cell w (link v) (record { held = first_slot es; tag = tag.None })

  pub made-list : IsList link linked c to (entry_made k v ∷ es)
  made-list = pushed-as link w c t to es k v list fresh.there fresh.clear fresh.far fresh.apart

  module _ (e : Entry T) (link_is : link e.value ≡ c) (plain : to ≢ tag.Both) where
    abbrev retagged : Entry T
    retagged = record e { tag = to }

    same : (d : ℕ) → d ≢ link e.value → Apart link d es → entry_at linked.cells d ≡ entry_at half.cells d
    same d far all =
        get_or-set_other half.cells c d (let cell : CellContents = record { held = Some k; tag = to } in Some cell) None (λ meet. far (meet ∙ sym link_is))

    tail : AreLinked link w (e ∷ es) → AreLinked link linked (retagged ∷ entry_made k v ∷ es)
    tail before = (
      record {
        there = before.0.there;
        linked = ap (λ (d : ℕ). entry_at linked.cells d) link_is ∙ made-list.begins;
        plain = plain;
      },
      made-list.linked,
    )

    first-half : (d : ℕ) (u : Tag) (xs : List (Entry T)) → IsList link w d u xs → IsFresh link w k v d xs → IsList link half d u xs
    first-half d u xs before clear =
        list-apart link w half d u xs (link v) (record { held = first_slot es; tag = tag.None }) refl refl clear.far clear.apart before

    pub around : (d : ℕ) (u : Tag) (xs : List (Entry T)) → IsList link w d u xs → EndsWith xs e es → IsFresh link w k v d xs →
        IsList link linked d u (spliced e.slot (retagged ∷ entry_made k v ∷ es) xs)
    around d u xs before at clear =
        spliced-list link half linked e es retagged (entry_made k v ∷ es) refl refl same (tail (linked-ends link w xs e es at before.linked)) d u xs
        (first-half d u xs before clear) at

    keeps : (j : ℕ) → IsAmong j (e ∷ es) → IsAmong j (retagged ∷ entry_made k v ∷ es) ⊎ IsLetGo link linked j
    keeps j (inl here) = inl (inl here)
    keeps j (inr there) = inl (inr (inr there))

    -- neither cell that is written is the link of an entry that was let go of
    half-gone : KeepsGone w half
    half-gone =
        gone-written w (link v) (record { held = first_slot es; tag = tag.None })
        (other-tag (entry_at w.cells (link v)) (record { held = None; tag = tag.None }) fresh.clear (λ same. absurd (cc)))

    linked-gone : KeepsGone half linked
    linked-gone =
        let still : entry_at half.cells c ≡ Some (record { held = first_slot es; tag = t }) =
        get_or-set_other w.cells (link v) c (let cell : CellContents = record { held = first_slot es; tag = tag.None } in Some cell) None fresh.far
        ∙ list.begins in
        gone-written half c (record { held = Some k; tag = to })
        (other-tag (entry_at half.cells c) (record { held = first_slot es; tag = t }) still kept)

    pub queue : (q : QueueCells) (xs : List (Entry T)) (second : Option ℕ) → IsQueue link w q xs second → EndsWith xs e es →
        IsFresh link w k v q.oldest xs → q.newest ≢ link v → IsQueue link linked q (spliced e.slot (retagged ∷ entry_made k v ∷ es) xs) second
    queue q xs second before at clear other =
        let next : CellContents = record { held = first_slot es; tag = tag.None } in
        let far = apart-ends link q.newest xs e es at before.apart in
        let in_half : IsQueue link half q xs second = record {
          list = first-half q.oldest tag.None xs before.list clear;
          newest = get_or-set_other w.cells (link v) q.newest (Some next) None other ∙ before.newest;
          among = second-kept link w half second xs xs half-gone (λ j among. inl among) before.among;
          two = before.two;
          apart = before.apart;
        } in
        spliced-queue link half linked e es retagged (entry_made k v ∷ es) refl refl same (tail (linked-ends link w xs e es at before.list.linked)) q xs second
        in_half at keeps linked-gone (far.0, ((λ meet. other (sym meet)), far.1)) (same q.newest (λ meet. far.0 (sym meet)) far.1)

  pub linked-behind : (new : World T) → new ≡ linked → IsLinkedBehind link w c to es k v new
  linked-behind new is = subst (λ (x : World T). IsLinkedBehind link w c to es k v x) (sym is) (record {
    world = refl;
    list = made-list;
    around = λ d u xs e before at link_is plain clear. around e link_is plain d u xs before at clear;
    queue = λ q xs second e before at link_is plain clear other. queue e link_is plain q xs second before at clear other;
  })

-- what a trim of what is behind an entry makes of a list that the entry is in
module _ {T : Type 0} (link : T → ℕ) (w : World T) (p : ℕ) (e : Entry T) (rest : List (Entry T)) where
  abbrev pub cut : World T
  cut = trimmed link w p (link e.value) e.tag rest

  pub tail-cut : (es : List (Entry T)) → AreLinked link w es → EndsWith es e rest → IsList link cut (link e.value) e.tag (left rest) →
      AreLinked link cut (e ∷ left rest)
  tail-cut es linked at after =
      let before = linked-ends link w es e rest at linked in
      let values = trim-values link w p (link e.value) e.tag rest in (
        record {
          there = ap (λ (vs : List (Option T)). slice_index_or vs e.slot None) values ∙ before.0.there;
          linked = after.begins;
          plain = before.0.plain;
        },
        after.linked,
      )

  pub trimmed-around : (c : ℕ) (t : Tag) (es : List (Entry T)) → IsList link w c t es → EndsWith es e rest → IsList link cut (link e.value) e.tag (left rest) →
      IsList link cut c t (spliced e.slot (e ∷ left rest) es)
  trimmed-around c t es list at after =
      spliced-list link w cut e rest e (left rest) refl (trim-values link w p (link e.value) e.tag rest)
      (trim-other link w p (link e.value) e.tag rest) (tail-cut es list.linked at after) c t es list at

  -- and of a queue
  pub trimmed-queue : (q : QueueCells) (es : List (Entry T)) (second : Option ℕ) → IsQueue link w q es second → EndsWith es e rest →
      IsList link cut (link e.value) e.tag (left rest) → IsQueue link cut q (spliced e.slot (e ∷ left rest) es) second
  trimmed-queue q es second queue at after =
      let far = apart-ends link q.newest es e rest at queue.apart in
      let behind = list-ends link w es e rest at queue.list.linked in
      spliced-queue link w cut e rest e (left rest) refl (trim-values link w p (link e.value) e.tag rest) (trim-other link w p (link e.value) e.tag rest)
      (tail-cut es queue.list.linked at after) q es second queue at
      (λ k among. elim among [
        | inl here ↦ inl (inl here)
        | inr there ↦ elim (trimmed-or link w p (link e.value) e.tag rest behind k there) [ inl more ↦ inl (inr more) | inr gone ↦ inr gone ]
      ])
      (gone-trimmed link w p (link e.value) e.tag rest behind) (far.0, apart-left link q.newest rest far.1)
      (trim-other link w p (link e.value) e.tag rest q.newest (λ meet. far.0 (sym meet)) far.1)

-- and what a call makes of both that answers an owner of the entry behind
module _ {T : Type 0} (link : T → ℕ) (w new : World T) (p : ℕ) (e : Entry T) (rest : List (Entry T)) where
  pub reached-around : (r : Result (Option (Shared T)) Refused) → Reaches link w p (link e.value) e.tag rest r new → (c : ℕ) (t : Tag)
      (es : List (Entry T)) → IsList link w c t es → EndsWith es e rest →
      MatchResult r (λ _. IsList link new c t (spliced e.slot (e ∷ left rest) es)) (λ _. IsList link new c t es)
  reached-around (Ok None) reached c t es list at =
      let after = subst (λ (xs : List (Entry T)). IsList link new (link e.value) e.tag xs) (sym reached.none) reached.list in
      subst (λ (y : World T). IsList link y c t (spliced e.slot (e ∷ left rest) es)) (sym reached.world)
      (trimmed-around link w p e rest c t es list at
      (subst (λ (y : World T). IsList link y (link e.value) e.tag (left rest)) reached.world after))
  reached-around (Ok (Some owner)) (x, xs, is, reached) c t es list at =
      let kept : World T = with_standing w x.slot (shared_by (reached.owners + 1)) in
      let after = subst (λ (ys : List (Entry T)). IsList link new (link e.value) e.tag ys) (sym is) reached.list in
      subst (λ (y : World T). IsList link y c t (spliced e.slot (e ∷ left rest) es)) (sym reached.world)
      (trimmed-around link kept p e rest c t es (list-same link w kept c t es refl refl list) at
      (subst (λ (y : World T). IsList link y (link e.value) e.tag (left rest)) reached.world after))
  reached-around (Err why) (x, xs, is, crowded) c t es list at = subst (λ (y : World T). IsList link y c t es) (sym crowded.same) list

  pub reached-queue : (r : Result (Option (Shared T)) Refused) → Reaches link w p (link e.value) e.tag rest r new → (q : QueueCells)
      (es : List (Entry T)) (second : Option ℕ) → IsQueue link w q es second → EndsWith es e rest →
      MatchResult r (λ _. IsQueue link new q (spliced e.slot (e ∷ left rest) es) second)
      (λ _. IsQueue link new q es second)
  reached-queue (Ok None) reached q es second queue at =
      let after = subst (λ (xs : List (Entry T)). IsList link new (link e.value) e.tag xs) (sym reached.none) reached.list in
      subst (λ (y : World T). IsQueue link y q (spliced e.slot (e ∷ left rest) es) second) (sym reached.world)
      (trimmed-queue link w p e rest q es second queue at
      (subst (λ (y : World T). IsList link y (link e.value) e.tag (left rest)) reached.world after))
  reached-queue (Ok (Some owner)) (x, xs, is, reached) q es second queue at =
      let kept : World T = with_standing w x.slot (shared_by (reached.owners + 1)) in
      let after = subst (λ (ys : List (Entry T)). IsList link new (link e.value) e.tag ys) (sym is) reached.list in
      subst (λ (y : World T). IsQueue link y q (spliced e.slot (e ∷ left rest) es) second) (sym reached.world)
      (trimmed-queue link kept p e rest q es second (queue-same link w kept q es second refl refl queue) at
      (subst (λ (y : World T). IsList link y (link e.value) e.tag (left rest)) reached.world after))
  reached-queue (Err why) (x, xs, is, crowded) q es second queue at = subst (λ (y : World T). IsQueue link y q es second) (sym crowded.same) queue
