-- All entries of a stack go to a new one, and what the script's state is then
use Rattle.sdd_script_model.proofs.Words.{◌≡◌, ◌≢◌, ◌⊎◌, ◌+◌, inl, inr, ℕ, List, [], Option, Some, None, is_some, length, slice_set, refl, sym, ap, ◌∙◌, subst, arith, cases_eq, get_or_push, length-set, Tag, IsEmptyAt, entry_at, CellContents, OwnerOrCell, Claim, IsLedger, one, right_to, changes_cell, makes_cell, World, IsPlaceOf, value_at, held_in, nulled, IsWhole, once_if, IsAmong, Entry, IsList, first_slot, IsSecond, KeepsGone, gone-then, gone-written, other-free, other-tag, second-kept, IsStored, AreNumbers, Begins, HasLists, ScriptState, IsListCell, IsSecondCell, in_world, shared_cell, with_stack, IsSound, contained, named, IsStack, Val, holdings_of, link_of, poured, linked-set, common_steps}
use Rattle.sdd_core.specs.declared.tag.Tag.TheVariants.{None as no_tag}
use Rattle.sdd_script_model.proofs.Lemmas.{LeavesSound, at_home-given, list-apart-from, own-midway, leaves-with, same-line, stack-given, dated-same, at-other, at-same, null, AreOwn, apart-own, link-apart, link-inside, loose-as, same-list, apart-free, list-beside, off, third, starts}
use Rattle.sdd_script_model.proofs.StackChains.{IsBetween, between, goes-on}
use Rattle.sdd_script_model.proofs.StackSound.{begun-old, begun-or, is-single}
use Rattle.sdd_world_model.specs.OwnerOrCell as holding

-- ---- of the list in a cell all is in another then, which was free

module _ (begins more : ℕ → Type 0) (seconds : (c b : ℕ) → Type 0) (stored : ℕ → Type 0) (v : World Val) (outside : Claim →
    ℕ) (ledger : IsLedger holdings_of outside v)
    (own : AreOwn begins seconds outside) (had : HasLists begins seconds stored v) (c : ℕ) (its : begins c) (single : (b : ℕ) → seconds c b → ⊥)
    (es : List (Entry Val)) (list : Begins v c es) (k : ℕ) (free : IsEmptyAt v.cells k)
    (new : (b : ℕ) → more b → begins b ⊎ (b ≡ k)) (was : (b : ℕ) → begins b → more b) (there : more k) where
  abbrev now : CellContents
  now = record { held = first_slot es; tag = no_tag }

  abbrev w : World Val
  w = poured v c k es

  away : (b : ℕ) (y : CellContents) → entry_at v.cells b ≡ Some y → b ≢ k
  away b y holds = off begins more seconds stored v had k free new was b y holds

  stays-so : (b : ℕ) → b ≢ c → (t : Tag) (gs : List (Entry Val)) → IsList link_of v b t gs → IsList link_of w b t gs
  stays-so b far t gs at =
      list-beside v w c k null now refl refl b t gs far (away b _ at.begins) (apart-own v outside ledger c (own.first c its) gs at.linked)
      (apart-free begins more seconds stored v had k free new was gs at.linked) at

  stays : (b : ℕ) → b ≢ c → (gs : List (Entry Val)) → Begins v b gs → Begins w b gs
  stays b far gs at = stays-so b far no_tag gs at

  empty : Begins w c []
  empty = grind (arith, common_steps)

  all : Begins w k es
  all = record {
    begins = at-same (slice_set v.cells c (Some null)) k (Some now) None (omega (arith, free.0, length-set v.cells c (Some null)));
    linked = linked-set link_of (nulled v c) w k (Some now) es refl refl (apart-free begins more seconds stored v had k free new was es list.linked)
        (linked-set link_of v (nulled v c) c (Some null) es refl refl (apart-own v outside ledger c (own.first c its) es list.linked) list.linked);
  }

  lists-now : (b : ℕ) → begins b ⊎ (b ≡ k) → (b ≡ c) ⊎ (b ≢ c) → (gs : List (Entry Val)) × Begins w b gs × AreNumbers gs
  lists-now b (inl x) (inl same) = ([], subst (λ (i : ℕ). Begins w i []) (sym same) empty, tt)
  lists-now b (inl x) (inr far) = let first = had.lists b x in (first.0, stays b far first.0 first.1, first.2)
  lists-now b (inr same) other =
      let first = had.lists c its in (
        es,
        subst (λ (i : ℕ). Begins w i es) (sym same) all,
        subst (λ (gs : List (Entry Val)). AreNumbers gs) (same-list v c first.0 es first.1 list) first.2,
      )

  -- in which list an entry was
  pub record Was (b s : ℕ) : Type 0 where
    pub cell : ℕ
    pub begun : begins cell
    pub entries : List (Entry Val)
    pub at : Begins v cell entries
    pub among : IsAmong s entries
    pub now_at : ((cell ≡ c) × (b ≡ k)) ⊎ ((cell ≡ b) × (b ≢ c))

  had-entry : (b s : ℕ) (gs : List (Entry Val)) → begins b ⊎ (b ≡ k) → (b ≡ c) ⊎ (b ≢ c) → Begins w b gs → IsAmong s gs → Was b s
  had-entry b s gs (inl x) (inl same) at among =
      absurd (subst (λ (fs : List (Entry Val)). IsAmong s fs) (same-list w c gs [] (subst (λ (i : ℕ). Begins w i gs) same at) empty) among)
  had-entry b s gs (inl x) (inr far) at among =
      let first = had.lists b x in
      let same = same-list w b gs first.0 at (stays b far first.0 first.1) in record {
        cell = b;
        begun = x;
        entries = first.0;
        at = first.1;
        among = subst (λ (fs : List (Entry Val)). IsAmong s fs) same among;
        now_at = inr (refl, far);
      }
  had-entry b s gs (inr same) other at among = record {
    cell = c;
    begun = its;
    entries = es;
    at = list;
    among = subst (λ (fs : List (Entry Val)). IsAmong s fs) (same-list w k gs es (subst (λ (i : ℕ). Begins w i gs) same at) all) among;
    now_at = inl (refl, same);
  }

  where-at : (a b : ℕ) (i j : ℕ) → i ≡ j → ((i ≡ c) × (a ≡ k)) ⊎ ((i ≡ a) × (a ≢ c)) → ((j ≡ c) × (b ≡ k)) ⊎ ((j ≡ b) × (b ≢ c)) → a ≡ b
  where-at a b i j h h2 h3 = grind (arith, common_steps)

  -- a link is a cell that was there
  link-far : (s : ℕ) (z : Val) → value_at v s ≡ Some z → link_of z ≢ k
  link-far s z at same =
      let none : once_if (is_some (entry_at v.cells (link_of z))) ≡ 0 =
      ap (λ (i : ℕ). once_if (is_some (entry_at v.cells i))) same ∙ ap (λ (y : Option CellContents). once_if (is_some y)) free.1 in
      omega (arith, none, ledger (right_to (link_of z)), link-inside v outside ledger s z at)

  -- what was let go of by a queue stays so
  keeps-gone : KeepsGone v w
  keeps-gone =
      let room : entry_at (nulled v c).cells k ≡ None =
      at-other v.cells c k (Some null) None (λ same. away c _ list.begins (sym same)) ∙ free.1 in
      gone-then v (nulled v c) w (gone-written v c null (other-tag (entry_at v.cells c) now list.begins (λ same. absurd (cc))))
      (gone-written (nulled v c) k now (other-free (entry_at (nulled v c).cells k) room))

  pub has-poured : HasLists more seconds stored w
  has-poured = record {
    lists = λ b x. lists-now b (new b x) (cases_eq b c);
    apart = λ a b s fs gs x y one two at also.
        (let first = had-entry a s fs (new a x) (cases_eq a c) one at in
        let second = had-entry b s gs (new b y) (cases_eq b c) two also in
        where-at a b first.cell second.cell
        (had.apart first.cell second.cell s first.entries second.entries first.begun second.begun first.at second.at first.among second.among)
        first.now_at second.now_at);
    linked = λ s z e not. elim (had.linked s z e not) [
      | inl none ↦
          inl (ap held_in (third v w c k null now refl refl (link_of z) (λ same. link-apart v outside ledger c s z (own.first c its) e (sym same))
          (link-far s z e)) ∙ none)
      | inr (inr loose) ↦
          inr (inr (loose-as loose
          (stays-so (link_of z) (λ same. link-apart v outside ledger c s z (own.first c its) e (sym same)) loose.tag loose.entries loose.list)
          (λ j among at.
          (let first = had-entry at.cell j at.entries (new at.cell at.begun) (cases_eq at.cell c) at.list at.among in
          record { cell = first.cell; entries = first.entries; begun = first.begun; list = first.at; among = first.among }))))
      | inr (inl at) ↦ elim (cases_eq at.cell c) [
        | inl same ↦
            inr (inl (record {
              cell = k;
              entries = es;
              begun = there;
              list = all;
              among = subst (λ (fs : List (Entry Val)). IsAmong s fs)
                  (same-list v c at.entries es (subst (λ (i : ℕ). Begins v i at.entries) same at.list) list) at.among;
            }))
        | inr far ↦
            inr (inl (record {
              cell = at.cell;
              entries = at.entries;
              begun = was at.cell at.begun;
              list = stays at.cell far at.entries at.list;
              among = at.among;
            }))
      ]
    ];
    second = λ a b y.
        (let at = had.second a b y in
        let far : a ≢ c = λ same. single b (subst (λ (i : ℕ). seconds i b) same y) in (
          was a at.0,
          (λ gs begun.
              let first = had.lists a at.0 in
              let held = at.1 first.0 first.1 in
              record {
                second = held.second;
                holds = third v w c k null now refl refl b (λ same. own.two c a b its y (sym same)) (away b _ held.holds) ∙ held.holds;
                among = subst (λ (fs : List (Entry Val)). IsSecond link_of w held.second fs) (same-list w a first.0 gs (stays a far first.0 first.1) begun)
                    (second-kept link_of v w held.second first.0 first.0 keeps-gone (λ s among. inl among) held.among);
              }),
        ));
  }

-- ---- the line

module _ (d : ScriptState) (s : IsSound d) (whole : IsWhole d.world) (p c k : ℕ) (live : IsPlaceOf d.world p) (n : ℕ)
    (es : List (Entry Val)) (is : IsStack d n c es) (free : IsEmptyAt d.world.cells k) where
  abbrev new_cell : OwnerOrCell
  new_cell = holding.atomic_shared k d.world.home.cells

  abbrev pub after_poured : ScriptState
  after_poured = in_world (with_stack d k) (poured d.world c k es)

  abbrev first_held : CellContents
  first_held = record { held = first_slot es; tag = no_tag }

  away-k : k ≢ c
  away-k same = absurd (let never : None ≡ Some first_held = sym free.1 ∙ ap (λ (i : ℕ). entry_at d.world.cells i) same ∙ is.list.begins in cc)

  -- the first entry's owner is taken out of the cell, and goes into the new one
  out : IsBetween d (poured d.world c k es) (λ u. named d u + one (right_to k) u)
  out =
      let taken = goes-on (between (starts d s whole)) (changes_cell d.world c (record { held = first_slot es; tag = no_tag }) null is.list.begins) tt
      (list-apart-from (starts d s whole) c (inr (n, is.named))) (named d) (λ u. omega arith) in
      let room : IsEmptyAt (nulled d.world c).cells k =
      (omega (arith, free.0, length-set d.world.cells c (Some null)), at-other d.world.cells c k (Some null) None away-k ∙ free.1) in
      goes-on taken (makes_cell (nulled d.world c) k (record { held = first_slot es; tag = no_tag }) room) tt tt (named d) (λ u. omega arith)

  pub poured-leaves : LeavesSound d after_poured
  poured-leaves =
      let start = starts d s whole in
      let its = is-single d s n c is.named in
      let there : IsListCell after_poured k =
      inr (length d.stacks, ap shared_cell (get_or_push d.stacks (Some new_cell) None (length d.stacks) refl)) in
      leaves-with d after_poured s (same-line d) (dated-same d after_poured refl refl) p live out.frames (refl, refl, refl) out.bags
      (λ u. omega (arith, out.ledger u, stack-given d.stacks new_cell k refl u))
      (has-poured (IsListCell d) (IsListCell after_poured) (IsSecondCell d) (IsStored d.bags d.world) d.world (λ u. named d u + contained d u) start.ledger
      (own-midway start) s.lists c its.begins its.single es is.list k free (begun-or d s whole p k live) (begun-old d s whole p k live) there) out.spare
      (s.home.owners, s.home.cells, s.home.collectors, s.home.queues, s.home.newest, at_home-given d.world.home d.stacks new_cell refl s.home.stacks)
