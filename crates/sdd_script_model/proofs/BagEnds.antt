-- What is always true of a state is true after a bag begins, and after one is closed
use Rattle.sdd_script_model.proofs.Words.{◌≡◌, ◌≢◌, ◌+◌, ◌≤◌, inl, inr, ℕ, List, [], ◌∷◌, ◌++◌, Option, Some, None, IsSome, is_some, true, length, slice_index_or, refl, sym, ap, ◌∙◌, subst, arith, ◌%◌, cases_eq, append-nil, IsEmptyAt, entry_at, is_waiting, Claim, right_to, one, closes_cell, makes_cell, spends_cell, World, IsPlaceOf, standing_at, value_at, cell_closed, held_in, nulled, without_cell, IsWhole, ledger-laws, IsAmong, Apart, Entry, first_slot, spilled-cells, spilled-values, let_go_first, ClosesBag, EmptiesStorages, AreShelves, AreBags, IsStored, StandsOn, holds_nothing, HasLists, NumberBag, ScriptState, IsListCell, IsSecondCell, bag_at, bag_length, in_world, name_at, without_bag, IsCalled, IsSound, contained, named, Val, holdings_of, link_of, storage_in, values_given, BeginsBag, with_bag, common_steps}
use Rattle.sdd_core.specs.declared.tag.Tag.TheVariants.{None as no_tag}
use Rattle.sdd_script_model.proofs.Lemmas.{keeps-live, IsMidway, LeavesSound, among-apart, link-apart-from, list-apart-from, list-right, moves, second-apart-from, second-right, leaves-so, same-line, dated-same, at-end, at-other, at-pushed, layered-less, null, same-once, apart-item, apart-own, has-stored, link-apart, links-apart, among-or, KeepsSlots, KeepsStored, slots-cell_closed, slots-same, slots-then, stocked-as, IsReserved, bags-still, off-held, stored-on, starts, inside as inside-list}
use Rattle.sdd_script_model.proofs.BagChains.{IsInHand, bag-given, bag-less, begins-in_hand, goes-many, has-apart, let_go_many, many-bare, many-other, many-values, many-waits, own_of, removes-one, shelves-behind, stack_of}
use Rattle.sdd_script_model.proofs.BagNumbersSound.{join-others, others-were, split}
use Rattle.sdd_script_model.proofs.StackChains.{IsBetween, between-as, goes-on}
use Rattle.sdd_script_model.proofs.StackSound.{IsDatedWithin, dated-all}
use Rattle.sdd_bag.specs.Bag as bag_specs
use Rattle.sdd_lists.specs.Lists as lists_specs

-- ---- an empty bag

module _ (d : ScriptState) (s : IsSound d) (whole : IsWhole d.world) (p : ℕ) (live : IsPlaceOf d.world p) (bag : NumberBag) (w : World Val)
    (begins : BeginsBag d.world bag w) where
  abbrev pub after_bag : ScriptState
  after_bag = in_world (with_bag d bag) w

  abbrev one_cell : World Val
  one_cell = nulled d.world (own_of bag)

  abbrev two_cells : World Val
  two_cells = nulled one_cell (stack_of bag)

  first : IsMidway d one_cell (λ u. named d u + one (right_to (own_of bag)) u)
  first = moves (starts d s whole) (makes_cell d.world (own_of bag) null begins.own) tt (named d) (λ u. omega arith) (λ u never. absurd never)

  second-free : IsEmptyAt one_cell.cells (stack_of bag)
  second-free = grind (arith, common_steps)

  both : IsMidway d two_cells (λ u. named d u + one (right_to (own_of bag)) u + one (right_to (stack_of bag)) u)
  both =
      moves first (makes_cell one_cell (stack_of bag) null second-free) tt (λ u. named d u + one (right_to (own_of bag)) u) (λ u. omega arith)
      (λ u never. absurd never)

  m : IsMidway d w (λ u. named d u + one (right_to (own_of bag)) u + one (right_to (stack_of bag)) u)
  m = subst (λ (v : World Val). IsMidway d v (λ u. named d u + one (right_to (own_of bag)) u + one (right_to (stack_of bag)) u)) (sym begins.world) both

  old-name : (n : ℕ) (b : NumberBag) → bag_at d.bags n ≡ Some b → bag_at after_bag.bags n ≡ Some b
  old-name n b is =
      at-pushed d.bags (Some bag) None n (λ same. omega (arith, same, inside-list d.bags n (ap is_some is))) ∙ is

  stored-now : KeepsStored d after_bag
  stored-now j x =
      let y = stored-on d.bags d.world w m.bags j x in
      record {
        entries = y.entries;
        storages = record {
          name = y.storages.name;
          bag = y.storages.bag;
          is = old-name y.storages.name y.storages.bag y.storages.is;
          stands = y.storages.stands;
        };
        among = y.among;
      }

  -- it has no other storage
  none-there : (es : List (Entry Val)) → StandsOn w bag es → es ≡ []
  none-there es stands = grind (arith, common_steps)

  bags-now : AreBags after_bag
  bags-now n b at = elim (cases_eq n (length d.bags)) [
    | inl same ↦
        (let both_are : Some bag ≡ Some b =
        sym (at-end d.bags (Some bag) None) ∙ ap (λ (i : ℕ). bag_at after_bag.bags i) (sym same) ∙ at in
        let is : bag ≡ b = cc in
        record {
          bag = subst (λ (x : NumberBag). bag_specs.IsBag storage_in bag_length w x) is begins.whole;
          home = subst (λ (x : NumberBag). bag_specs.IsOfCells w.home.cells x) is (rw m.frames.slots.home begins.home);
          unnamed = λ es stands j among.
              absurd (subst (λ (fs : List (Entry Val)). IsAmong j fs)
              (none-there es (subst (λ (x : NumberBag). StandsOn w x es) (sym is) stands)) among);
        })
    | inr far ↦
        (let was =
        bags-still d (in_world d w) s.bags refl m.bags m.frames.slots.home (λ j x. refl) n b (sym (at-pushed d.bags (Some bag) None n far) ∙ at) in
        record { bag = was.bag; home = was.home; unnamed = was.unnamed })
  ]

  pub bag_begun-leaves : LeavesSound d after_bag
  bag_begun-leaves =
      let standings : w.standings ≡ d.world.standings = ap (λ (v : World Val). v.standings) begins.world in
      let dated = dated-same d after_bag refl standings in
      leaves-so d after_bag s (same-line d) dated p live m.frames.passes m.frames.slots.home
      (stocked-as d after_bag s.stocked refl refl dated.long m.frames.slots stored-now) (λ u. omega (arith, m.ledger u, bag-given d.bags bag u))
      (has-stored stored-now m.lists) bags-now m.spare (layered-less d after_bag s.layered m.frames.values refl) (assumption s.home)
      (omega (arith, m.frames.slots.made, s.made))

-- ---- a bag is closed

-- a number gives up nothing
pub values-none : (w : World Val) (p : ℕ) (vs : List ℕ) → values_given holds_nothing w p vs ≡ w
values-none w p [] = refl
values-none w p (v ∷ vs) = values-none w p vs

-- so what goes are its storages, one after another
pub empties-all : (vs : List ℕ) (w : World Val) (p c : ℕ) (es : List (Entry Val)) (new : World Val) → AreShelves storage_in bag_length w es →
    EmptiesStorages holds_nothing bag_length w p c es vs new → new ≡ let_go_many w p c es []
empties-all [] w p c es new are (none, same) =
    same ∙ ap (λ (xs : List (Entry Val)). let_go_many w p c xs []) (sym none)
empties-all (v ∷ vs) w p c es new are (fs, between, removes, more) = elim (cases_eq (length vs % bag_length) 0) [
  | inl last ↦
      (let out = removes-one w p c es between fs are (removes.last last) in
      let e : Entry Val = out.0 in
      let shelves_e : AreShelves storage_in bag_length w (e ∷ fs) = subst (λ (xs : List (Entry Val)). AreShelves storage_in bag_length w xs) out.1 are in
      let here : AreShelves storage_in bag_length between fs =
      subst (λ (u : World Val). AreShelves storage_in bag_length u fs) (sym out.2) (shelves-behind p c w e fs shelves_e) in
      empties-all vs between p c fs new here more
      ∙ ap (λ (u : World Val). let_go_many u p c fs []) out.2
      ∙ ap (λ (xs : List (Entry Val)). let_go_many (let_go_first w p c no_tag e.slot (link_of e.value) (first_slot xs)) p c fs []) (sym (append-nil fs))
      ∙ ap (λ (xs : List (Entry Val)). let_go_many w p c xs []) (sym out.1))
  | inr not ↦
      (let same = removes.others not in
      empties-all vs between p c fs new
      (subst (λ (u : World Val). AreShelves storage_in bag_length u fs) (sym same.0)
      (subst (λ (xs : List (Entry Val)). AreShelves storage_in bag_length w xs) (sym same.1) are)) more
      ∙ ap (λ (u : World Val). let_go_many u p c fs []) same.0 ∙ ap (λ (xs : List (Entry Val)). let_go_many w p c xs []) same.1)
]

module _ (d : ScriptState) (s : IsSound d) (whole : IsWhole d.world) (p n : ℕ) (live : IsPlaceOf d.world p) (bag : NumberBag)
    (is : bag_at d.bags n ≡ Some bag) (es : List (Entry Val)) (stood : StandsOn d.world bag es) (w : World Val)
    (closes : ClosesBag holds_nothing bag_length d.world p bag es w) where
  abbrev c : ℕ
  c = stack_of bag

  abbrev own : ℕ
  own = own_of bag

  abbrev rest : ScriptState
  rest = without_bag d n

  abbrev drained : World Val
  drained = let_go_many d.world p c es []

  abbrev bare_world : World Val
  bare_world = without_cell drained c

  abbrev ended : World Val
  ended = cell_closed bare_world p own

  pub world-is : w ≡ ended
  world-is =
      closes.world
      ∙ ap (λ (v : World Val). cell_closed (values_given holds_nothing (without_cell v c) p closes.held) p own)
      (empties-all closes.spilled d.world p c es closes.emptied stood.shelves closes.storages)
      ∙ ap (λ (v : World Val). cell_closed v p own) (values-none bare_world p closes.held)

  in-hand : IsInHand d n own c drained []
  in-hand =
      goes-many d n own c p live es [] d.world
      (begins-in_hand d s whole n bag is (es ++ []) (subst (λ (xs : List (Entry Val)). StandsOn d.world bag xs) (sym (append-nil es)) stood))

  -- its cells are spent
  one-left : IsBetween rest bare_world (λ u. named d u + one (right_to own) u)
  one-left =
      between-as
      (goes-on in-hand.between (spends_cell drained c null in-hand.list.begins) tt tt (λ u. named d u + one (right_to own) u) (λ u. omega arith))
      (λ u. omega arith)

  b : IsBetween rest ended (named d)
  b =
      between-as
      (goes-on one-left (closes_cell bare_world p own (keeps-live one-left.frames.passes.guards p live)) tt tt (named d) (λ u. omega arith))
      (λ u. omega arith)

  abbrev total : Claim → ℕ
  total u = named d u + contained d u

  start : IsMidway d d.world (named d)
  start = starts d s whole

  abbrev its_cells : ℕ → Type 0
  its_cells i = (i ≢ c) × (i ≢ own) × Apart link_of i es

  -- another cell
  cell-still : (i : ℕ) → its_cells i → entry_at ended.cells i ≡ entry_at d.world.cells i
  cell-still i far =
      ap (λ cs. entry_at cs i) (spilled-cells (without_cell bare_world own) p (held_in (entry_at bare_world.cells own)))
      ∙ at-other bare_world.cells own i None None far.1
      ∙ at-other drained.cells c i None None far.0
      ∙ many-other p c es [] d.world i far.0 far.2

  stack-kept : (i : ℕ) → (IsReserved d d.world i → ⊥) → i ≢ c
  stack-kept i off same =
      off (inl (record { entries = es; storages = record { name = n; bag = bag; is = is; stands = stood }; cell = inl (sym same) }))

  own-once : 1 ≤ contained d (right_to own)
  own-once = omega (arith, bag-less d s whole n bag is (right_to own), same-once own)

  -- a queue's or a stack's is not its own
  own-far : (i : ℕ) → 1 ≤ contained rest (right_to i) → i ≢ own
  own-far i mine same =
      let both : 1 ≤ contained rest (right_to own) = subst (λ (j : ℕ). 1 ≤ contained rest (right_to j)) same mine in
      let alone = ((ledger-laws holdings_of d.world).tells total s.ledger).alone own (omega (arith, own-once)) in
      omega (arith, alone.1, bag-less d s whole n bag is (right_to own), same-once own, both)

  right-far : (i : ℕ) → 1 ≤ contained rest (right_to i) → (IsReserved d d.world i → ⊥) → its_cells i
  right-far i mine off = (
    stack-kept i off,
    own-far i mine,
    apart-own d.world total s.ledger i (omega (arith, mine, bag-less d s whole n bag is (right_to i))) es stood.stack.linked,
  )

  its-stored : (j : ℕ) → IsAmong j es → IsStored d.bags d.world j
  its-stored j among = record { entries = es; storages = record { name = n; bag = bag; is = is; stands = stood }; among = among }

  link-far : (j : ℕ) (x : Val) → value_at d.world j ≡ Some x → (IsStored d.bags d.world j → ⊥) → its_cells (link_of x)
  link-far j x there not = (
    stack-kept (link_of x) (link-apart-from start j x there not),
    (λ same. link-apart d.world total s.ledger own j x (omega (arith, own-once)) there (sym same)),
    apart-item d.world total s.ledger j x there es stood.stack.linked (λ among. not (its-stored j among)),
  )

  values-same : ended.values ≡ d.world.values
  values-same =
      spilled-values (without_cell bare_world own) p (held_in (entry_at bare_world.cells own)) ∙ many-values p c es [] d.world

  value-was : (j : ℕ) (x : Val) → value_at ended j ≡ Some x → value_at d.world j ≡ Some x
  value-was j x at = ap (λ (vs : List (Option Val)). slice_index_or vs j None) (sym values-same) ∙ at

  -- the link of one of its storages is none of its cells either, and holds nothing
  gone-bare : (j : ℕ) (x : Val) → IsAmong j es → value_at d.world j ≡ Some x → held_in (entry_at ended.cells (link_of x)) ≡ None
  gone-bare j x among there =
      let far_c : link_of x ≢ c =
      λ same. link-apart d.world total s.ledger c j x
      (omega (arith, bag-less d s whole n bag is (right_to c), same-once c)) there (sym same) in
      let far_own : link_of x ≢ own = λ same. link-apart d.world total s.ledger own j x (omega (arith, own-once)) there (sym same) in
      ap (λ cs. held_in (entry_at cs (link_of x))) (spilled-cells (without_cell bare_world own) p (held_in (entry_at bare_world.cells own)))
      ∙ ap held_in (at-other bare_world.cells own (link_of x) None None far_own)
      ∙ ap held_in (at-other drained.cells c (link_of x) None None far_c)
      ∙ many-bare p c es [] d.world
      (subst (λ (xs : List (Entry Val)). lists_specs.IsList link_of d.world c no_tag xs) (sym (append-nil es)) stood.stack)
      (subst (λ (xs : List (Entry Val)). AreShelves storage_in bag_length d.world xs) (sym (append-nil es)) stood.shelves) j x among there
      (links-apart d.world total s.ledger)

  -- ---- the line

  module _ (dates : List ℕ) where
    abbrev pub after_closed : ScriptState
    after_closed = record (in_world (without_bag d n) w) { dates = dates }

    abbrev last : ScriptState
    last = record (in_world (without_bag d n) ended) { dates = dates }

    lists-now : HasLists (IsListCell d) (IsSecondCell d) (IsStored rest.bags ended) ended
    lists-now =
        has-apart (IsListCell d) (IsSecondCell d) (IsStored d.bags d.world) (IsStored rest.bags ended) d.world ended s.lists
        (λ i y. cell-still i (right-far i (list-right rest i y) (list-apart-from start i y)))
        (λ i k y. cell-still k (right-far k (second-right rest i k y) (second-apart-from start i k y)))
        (λ j x there not. cell-still (link_of x) (link-far j x there not))
        (λ j x there. ap (λ (vs : List (Option Val)). slice_index_or vs j None) values-same ∙ there)
        (λ j at. among-apart start at.cell j no_tag at.entries (list-apart-from start at.cell at.begun) at.list at.among)
        (λ j y there off loose i among. among-apart start (link_of y) i loose.tag loose.entries (link-apart-from start j y there off) loose.list among)
        (λ i k j y holds. off-held d d.world (named d) s.ledger start.bags k j (λ kept. second-apart-from start i k y (inl kept)) holds)
        (λ j x at not_now. elim (among-or j es) [
          | inl among ↦ inl (gone-bare j x among (value-was j x at))
          | inr not ↦
              inr (
                value-was j x at,
                (λ stored. elim (split d n bag is es stood j stored) [
                  | inl other ↦ not_now (join-others d n bag is ended b.bags j other)
                  | inr its_own ↦ not its_own
                ]),
              )
        ])

    ended-waits : (j : ℕ) → IsAmong j es → IsSome (standing_at ended j) → is_waiting (standing_at ended j) ≡ true
    ended-waits j among some =
        let slots : KeepsSlots drained ended = slots-then (slots-same drained bare_world refl refl refl) (slots-cell_closed bare_world p own) in
        slots.waits j
        (ap is_waiting (many-waits p c es [] d.world
        (subst (λ (xs : List (Entry Val)). AreShelves storage_in bag_length d.world xs) (sym (append-nil es)) stood.shelves) j among)) some

    called : (j : ℕ) → IsSome (standing_at ended j) → (x : Option ℕ) → name_at d j ≡ x → IsCalled d j x → IsCalled last j (name_at d j)
    called j some None e (inl waits) = rw e (inl (b.frames.slots.waits j waits some))
    called j some None e (inr stored) = rw e (elim (split d n bag is es stood j stored) [
      | inl other ↦ inr (join-others d n bag is ended b.bags j other)
      | inr its_own ↦ inl (ended-waits j its_own some)
    ])
    called j some (Some i) e (lt, slot) = rw e (lt, slot)

    pub bag_closed-leaves : IsDatedWithin d after_closed → LeavesSound d after_closed
    bag_closed-leaves within =
        subst (λ (v : World Val). LeavesSound d (record (in_world (without_bag d n) v) { dates = dates })) (sym world-is)
        (let here : IsDatedWithin d last =
        subst (λ (v : World Val). IsDatedWithin d (record (in_world (without_bag d n) v) { dates = dates })) world-is within in
        let dated = dated-all d last s.stocked b.frames.slots.slots here in
        leaves-so d last s (same-line d) dated p live b.frames.passes b.frames.slots.home
        (record {
          named = λ j some. called j some (name_at d j) refl (s.stocked.named j (b.frames.slots.taken j some));
          names = s.stocked.names ∙ sym b.frames.slots.slots;
          dates = dated.long ∙ s.stocked.dates ∙ sym b.frames.slots.slots;
          few = s.stocked.few;
        })
        (λ u. omega (arith, b.ledger u)) lists-now (bags-still rest last (others-were d n bag is s.bags) refl b.bags b.frames.slots.home (λ j x. refl)) b.spare
        (layered-less d last s.layered b.frames.values refl) (assumption s.home) (omega (arith, b.frames.slots.made, s.made)))
