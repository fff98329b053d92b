-- What another tag of a link makes of a list
use Rattle.std.proofs.Common.{◌≡◌, ◌≢◌, inl, inr, eq-eqb, ne_eqb, ℕ, List, [], ◌∷◌, length, Bool, true, false, Option, Some, None, refl, sym, ap, ◌∙◌, arith, subst}
use Rattle.std.specs.Prelude.{◌==◌, IfOk, Result, Ok, Err, if◌then◌else◌}
use Rattle.std.proofs.lemmas.List.{get_or-set_same, get_or-set_other}
use Rattle.sdd_core.specs.declared.tag.Tag.{Tag}
use Rattle.sdd_core.specs.declared.tag.Tag.TheVariants as tag
use Rattle.sdd_core.specs.declared.refused.Refused.{Refused}
use Rattle.sdd_world_model.specs.World.{World}
use Rattle.sdd_participants.specs.declared.standing.CellContents.{CellContents}
use Rattle.sdd_participants.specs.Slab.{entry_at}
use Rattle.sdd_world_model.specs.WorldChanges.{with_cell}
use Rattle.sdd_lists.specs.Ends.{EndsWith, IsAmong}
use Rattle.sdd_lists.specs.Lists.{Apart, AreLinked, Entry, IsList, first_slot}
use Rattle.sdd_lists.specs.Marks.{retagged}
use Rattle.sdd_lists.specs.Queue.{IsQueue, QueueCells}
use Rattle.sdd_lists.proofs.Ends.{apart-ends, linked-ends, shorter}
use Rattle.sdd_lists.proofs.GoneEntries.{gone-written, other-tag, second-kept}
use Rattle.sdd_lists.proofs.Lists.{apart, as-long, inside, linked-set}

module _ {T : Type 0} where
  among-by : (k : ℕ) (x : Entry T) (xs ys : List (Entry T)) (t : Tag) → IsAmong k (x ∷ xs) → (IsAmong k xs → IsAmong k ys) → (b : Bool) →
      IsAmong k (if b then record x { tag = t } ∷ xs else x ∷ ys)
  among-by k x xs ys t among more true = among
  among-by k x xs ys t (inl here) more false = inl here
  among-by k x xs ys t (inr there) more false = inr (more there)

  among-retagged : (j k : ℕ) (t : Tag) (es : List (Entry T)) → IsAmong k es → IsAmong k (retagged j t es)
  among-retagged j k t [] among = among
  among-retagged j k t (x ∷ xs) among = among-by k x xs (retagged j t xs) t among (among-retagged j k t xs) (x.slot == j)

module _ {T : Type 0} (link : T → ℕ) where
  apart-by : (l : ℕ) (x : Entry T) (xs ys : List (Entry T)) (t : Tag) → Apart link l (x ∷ xs) → Apart link l ys → (b : Bool) →
      Apart link l (if b then record x { tag = t } ∷ xs else x ∷ ys)
  apart-by l x xs ys t all more true = all
  apart-by l x xs ys t all more false = (all.0, more)

  apart-retagged : (l k : ℕ) (t : Tag) (es : List (Entry T)) → Apart link l es → Apart link l (retagged k t es)
  apart-retagged l k t [] all = tt
  apart-retagged l k t (x ∷ xs) all = apart-by l x xs (retagged k t xs) t all (apart-retagged l k t xs all.1) (x.slot == k)

  module _ (w : World T) (e : Entry T) (rest : List (Entry T)) (to : Tag) (plain : to ≢ tag.Both) where
    abbrev changed : CellContents
    changed = record { held = first_slot rest; tag = to }

    abbrev pub new : World T
    new = with_cell w (link e.value) changed

    here-list : (c : ℕ) (t : Tag) → IsList link w c t (e ∷ rest) → IsList link new c t (record e { tag = to } ∷ rest)
    here-list c t list =
        let first : CellContents = record { held = Some e.slot; tag = t } in
        let ring = apart link w c first (e ∷ rest) (e ∷ rest) list.begins refl list.linked list.linked (omega arith) in
        let behind : CellContents = record { held = first_slot rest; tag = e.tag } in
        let far = apart link w (link e.value) behind rest rest list.linked.0.linked refl list.linked.1 list.linked.1 (omega arith) in
        record {
          begins = get_or-set_other w.cells (link e.value) c (Some changed) None (λ same. ring.0 (sym same)) ∙ list.begins;
          linked = (
            record {
              there = list.linked.0.there;
              linked = get_or-set_same w.cells (link e.value) (Some changed) None (inside w.cells (link e.value) behind list.linked.0.linked);
              plain = plain;
            },
            linked-set link w new (link e.value) (Some changed) rest refl refl far list.linked.1,
          );
        }

    list-by : (c : ℕ) (t : Tag) (x : Entry T) (xs ys : List (Entry T)) → IsList link w c t (x ∷ xs) → c ≢ link e.value →
        IsList link new (link x.value) x.tag ys → IsList link new c t (x ∷ ys)
    list-by c t x xs ys list far more = record {
      begins = get_or-set_other w.cells (link e.value) c (Some changed) None far ∙ list.begins;
      linked = (record { there = list.linked.0.there; linked = more.begins; plain = list.linked.0.plain }, more.linked);
    }

    -- an entry's tag is another one, and the list is else as it was
    pub retagged-list : (c : ℕ) (t : Tag) (es : List (Entry T)) → IsList link w c t es → EndsWith es e rest → IsList link new c t (retagged e.slot to es)
    retagged-list c t [] list at = absurd at
    retagged-list c t (x ∷ xs) list (inl same) =
        let heads : x ≡ e = cc in
        let slots : (x.slot == e.slot) ≡ true = eq-eqb x.slot e.slot (ap (λ (y : Entry T). y.slot) heads) in
        let ends : rest ≡ xs = cc in
        let is : record e { tag = to } ∷ rest ≡ record x { tag = to } ∷ xs =
        ap (λ (y : Entry T). record y { tag = to } ∷ rest) (sym heads) ∙ ap (λ (ys : List (Entry T)). record x { tag = to } ∷ ys) ends in
        rw slots (subst (λ (ys : List (Entry T)). IsList link new c t ys) is
        (here-list c t (subst (λ (ys : List (Entry T)). IsList link w c t ys) same list)))
    retagged-list c t (x ∷ xs) list (inr at) =
        let inner : IsList link w (link x.value) x.tag xs = record { begins = list.linked.0.linked; linked = list.linked.1 } in
        let first : CellContents = record { held = Some x.slot; tag = t } in
        let ring = apart link w c first (x ∷ xs) (x ∷ xs) list.begins refl list.linked list.linked (omega arith) in
        let far = (apart-ends link c xs e rest at ring.1).0 in
        let other : x.slot ≢ e.slot = λ same.
        let long : length (x ∷ xs) ≡ length (e ∷ rest) =
        as-long link w (x ∷ xs) (e ∷ rest) list.linked (linked-ends link w xs e rest at list.linked.1) (ap (λ (k : ℕ). Some k) same) in
        absurd (omega (arith, long, shorter xs e rest at)) in
        let slots : (x.slot == e.slot) ≡ false = ne_eqb x.slot e.slot other in
        rw slots (list-by c t x xs (retagged e.slot to xs) list (λ same. far (sym same)) (retagged-list (link x.value) x.tag xs inner at))

    -- and so of a queue
    pub retagged-queue : e.tag ≢ tag.Second → (q : QueueCells) (es : List (Entry T)) (second : Option ℕ) → IsQueue link w q es second →
        EndsWith es e rest → IsQueue link new q (retagged e.slot to es) second
    retagged-queue kept q es second queue at = record {
      list = retagged-list q.oldest tag.None es queue.list at;
      newest =
          get_or-set_other w.cells (link e.value) q.newest (Some changed) None
          (λ same. (apart-ends link q.newest es e rest at queue.apart).0 (sym same))
          ∙ queue.newest;
      among =
          second-kept link w new second es (retagged e.slot to es)
          (gone-written w (link e.value) changed
          (other-tag (entry_at w.cells (link e.value)) (record { held = first_slot rest; tag = e.tag })
          (linked-ends link w es e rest at queue.list.linked).0.linked kept))
          (λ k among. inl (among-retagged e.slot k to es among)) queue.among;
      two = queue.two;
      apart = apart-retagged q.newest e.slot to es queue.apart;
    }

  -- what a call on the link of an entry of a list made, by what it says of the cell
  module _ (w new : World T) (v : T) (e : Entry T) (rest : List (Entry T)) (to : Tag) (plain : to ≢ tag.Both) (says : Tag → Bool) (b : Bool)
      (cell : CellContents) (there : entry_at w.cells (link v) ≡ Some cell) (told : b ≡ says cell.tag)
      (made : new ≡ (if b then with_cell w (link v) (record cell { tag = to }) else w)) (is : e.value ≡ v) where
    cell-is : AreLinked link w (e ∷ rest) → cell ≡ record { held = first_slot rest; tag = e.tag }
    cell-is linked =
        let same : Some cell ≡ Some (record { held = first_slot rest; tag = e.tag }) =
        sym there ∙ ap (λ (x : T). entry_at w.cells (link x)) (sym is) ∙ linked.0.linked in
        cc

    pub told-of : (es : List (Entry T)) → AreLinked link w es → EndsWith es e rest → b ≡ says e.tag
    told-of es linked at =
        told ∙ ap (λ (x : CellContents). says x.tag) (cell-is (linked-ends link w es e rest at linked))

    made-so : AreLinked link w (e ∷ rest) → new ≡ (if b then with_cell w (link e.value) (record { held = first_slot rest; tag = to }) else w)
    made-so linked =
        made ∙ ap (λ (x : CellContents). if b then with_cell w (link v) (record x { tag = to }) else w) (cell-is linked)
        ∙ ap (λ (x : T). if b then with_cell w (link x) (record { held = first_slot rest; tag = to }) else w) (sym is)

    list-of-by : (c : ℕ) (t : Tag) (es : List (Entry T)) → IsList link w c t es → EndsWith es e rest → (y : Bool) →
        IsList link (if y then with_cell w (link e.value) (record { held = first_slot rest; tag = to }) else w) c t
        (if y then retagged e.slot to es else es)
    list-of-by c t es list at true = retagged-list w e rest to plain c t es list at
    list-of-by c t es list at false = list

    pub list-of : (c : ℕ) (t : Tag) (es : List (Entry T)) → IsList link w c t es → EndsWith es e rest →
        IsList link new c t (if b then retagged e.slot to es else es)
    list-of c t es list at =
        subst (λ (x : World T). IsList link x c t (if b then retagged e.slot to es else es)) (sym (made-so (linked-ends link w es e rest at list.linked)))
        (list-of-by c t es list at b)

    queue-of-by : (q : QueueCells) (es : List (Entry T)) (second : Option ℕ) → IsQueue link w q es second → EndsWith es e rest → (y : Bool) →
        (y ≡ true → e.tag ≢ tag.Second) → IsQueue link (if y then with_cell w (link e.value) (record { held = first_slot rest; tag = to }) else w) q
        (if y then retagged e.slot to es else es) second
    queue-of-by q es second queue at true kept = retagged-queue w e rest to plain (kept refl) q es second queue at
    queue-of-by q es second queue at false kept = queue

    pub queue-of : ((x : Tag) → says x ≡ true → x ≢ tag.Second) → (q : QueueCells) (es : List (Entry T)) (second : Option ℕ) →
        IsQueue link w q es second → EndsWith es e rest →
        IsQueue link new q (if b then retagged e.slot to es else es) second
    queue-of keeps q es second queue at =
        subst (λ (x : World T). IsQueue link x q (if b then retagged e.slot to es else es) second)
        (sym (made-so (linked-ends link w es e rest at queue.list.linked)))
        (queue-of-by q es second queue at b (λ is. keeps e.tag (sym (told-of es queue.list.linked at) ∙ is)))

  -- the same of what the call answered
  module _ (w new : World T) (k : ℕ) (v : T) (k_is : k ≡ link v) (to : Tag) (plain : to ≢ tag.Both) (says : Tag → Bool) where
    abbrev pub Retags : Result Bool Refused → Type 0
    Retags r = IfOk r (λ b. (cell : CellContents) × (entry_at w.cells k ≡ Some cell) × (b ≡ says cell.tag) ×
        (new ≡ (if b then with_cell w k (record cell { tag = to }) else w)))

    there-of : (cell : CellContents) → entry_at w.cells k ≡ Some cell → entry_at w.cells (link v) ≡ Some cell
    there-of cell there = ap (λ (j : ℕ). entry_at w.cells j) (sym k_is) ∙ there

    made-of : (b : Bool) (cell : CellContents) → new ≡ (if b then with_cell w k (record cell { tag = to }) else w) →
        new ≡ (if b then with_cell w (link v) (record cell { tag = to }) else w)
    made-of b cell made = made ∙ ap (λ (j : ℕ). if b then with_cell w j (record cell { tag = to }) else w) k_is

    pub exact-by : (r : Result Bool Refused) → Retags r → IfOk r (λ b. (cell : CellContents) × (entry_at w.cells (link v) ≡ Some cell) ×
        (b ≡ says cell.tag) × (new ≡ (if b then with_cell w (link v) (record cell { tag = to }) else w)))
    exact-by (Ok b) is = (is.0, there-of is.0 is.1, is.2, made-of b is.0 is.3)
    exact-by (Err why) is = is

    pub list-by-answer : (c : ℕ) (t : Tag) (es : List (Entry T)) → IsList link w c t es → (e : Entry T) (rest : List (Entry T)) → EndsWith es e rest →
        e.value ≡ v → (r : Result Bool Refused) → Retags r →
        IfOk r (λ b. (b ≡ says e.tag) × IsList link new c t (if b then retagged e.slot to es else es))
    list-by-answer c t es list e rest at same (Ok b) is = (
      told-of w new v e rest to plain says b is.0 (there-of is.0 is.1) is.2 (made-of b is.0 is.3) same es list.linked at,
      list-of w new v e rest to plain says b is.0 (there-of is.0 is.1) is.2 (made-of b is.0 is.3) same c t es list at,
    )
    list-by-answer c t es list e rest at same (Err why) is = is

    pub queue-by-answer : ((x : Tag) → says x ≡ true → x ≢ tag.Second) → (q : QueueCells) (es : List (Entry T)) (second : Option ℕ) →
        IsQueue link w q es second → (e : Entry T) (rest : List (Entry T)) → EndsWith es e rest → e.value ≡ v → (r : Result Bool Refused) → Retags r →
        IfOk r (λ b. IsQueue link new q (if b then retagged e.slot to es else es) second)
    queue-by-answer keeps q es second queue e rest at same (Ok b) is =
        queue-of w new v e rest to plain says b is.0 (there-of is.0 is.1) is.2 (made-of b is.0 is.3) same keeps q es second queue at
    queue-by-answer keeps q es second queue e rest at same (Err why) is = is
