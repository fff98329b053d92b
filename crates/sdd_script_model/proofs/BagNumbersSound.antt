-- What is always true of a state is true after a bag begins or ends, and after numbers come into it and go
use Rattle.sdd_script_model.proofs.Words.{◌≡◌, ◌≢◌, ◌⊎◌, ◌+◌, ◌≤◌, inl, inr, ℕ, List, [], ◌∷◌, ◌++◌, Option, Some, None, IsSome, is_some, length, slice_index_or, slice_set, refl, sym, ap, ◌∙◌, subst, arith, ◌*◌, ◌^◌, not, cases_eq, entry_at, is_waiting, Claim, right_to, one, IsLedger, World, IsPlaceOf, standing_at, value_at, held_in, IsWhole, IsAmong, Apart, Entry, HasSameCells, IsBag, AreBags, AreSpare, HasStorages, IsStored, StandsOn, HasLists, NumberBag, ScriptState, IsDated, IsListCell, IsSecondCell, bag_at, bag_length, name_at, with_bag_at, without_bag, number_in, HoldsOnlyOlder, IsCalled, IsSound, SlotsHaveNames, contained, named, Val, holdings_of, link_of, storage_in, home_in, IsOfCells, common_steps}
use Rattle.sdd_core.specs.declared.tag.Tag.TheVariants.{None as no_tag}
use Rattle.sdd_script_model.proofs.Lemmas.{Passes, IsMidway, LeavesSound, among-apart, link-apart-from, list-apart-from, list-right, second-apart-from, second-right, leaves-so, same-line, at-other, at-same, layered-less, apart-item, apart-own, has-stored, links-apart, same-list, among-or, BagsStay, IsReserved, bags-still, off-held, stored-on, starts, inside as inside-list}
use Rattle.sdd_script_model.proofs.BagChains.{IsInHand, bag-less, begins-in_hand, goes-many, has-apart, let_go_many, many-bare, many-other, many-values, many-waits, own_of, stack_of}
use Rattle.sdd_script_model.proofs.StackSound.{IsDatedWithin, dated-all}
use Rattle.sdd_script_model.specs.Bags as bags_specs

-- ---- which storages there are

pub apart-front : (i : ℕ) (gone rest : List (Entry Val)) → Apart link_of i (gone ++ rest) → Apart link_of i gone
apart-front i [] rest all = tt
apart-front i (e ∷ gone) rest all = (all.0, apart-front i gone rest all.1)

among-both : (j : ℕ) (gone rest : List (Entry Val)) → IsAmong j (gone ++ rest) → IsAmong j gone ⊎ IsAmong j rest
among-both j [] rest among = inr among
among-both j (e ∷ gone) rest (inl here) = inl (inl here)
among-both j (e ∷ gone) rest (inr there) = elim (among-both j gone rest there) [ inl first ↦ inl (inr first) | inr last ↦ inr last ]

among-behind_front : (j : ℕ) (gone rest : List (Entry Val)) → IsAmong j rest → IsAmong j (gone ++ rest)
among-behind_front j [] rest among = among
among-behind_front j (e ∷ gone) rest among = inr (among-behind_front j gone rest among)

module _ (d : ScriptState) (n : ℕ) (old : NumberBag) (is : bag_at d.bags n ≡ Some old) where
  abbrev pub others : ScriptState
  others = without_bag d n

  -- a storage is one of the bag's, or of another one
  pub split : (es : List (Entry Val)) → StandsOn d.world old es → (j : ℕ) → IsStored d.bags d.world j → IsStored others.bags d.world j ⊎ IsAmong j es
  split es stands j x = elim (cases_eq x.storages.name n) [
    | inl same ↦
        (let both : Some old ≡ Some x.storages.bag = sym is ∙ ap (λ (i : ℕ). bag_at d.bags i) (sym same) ∙ x.storages.is in
        let bag : old ≡ x.storages.bag = cc in
        let here : StandsOn d.world old x.entries = subst (λ (b : NumberBag). StandsOn d.world b x.entries) (sym bag) x.storages.stands in
        let one_list = same-list d.world (stack_of old) x.entries es here.stack stands.stack in
        inr (subst (λ (fs : List (Entry Val)). IsAmong j fs) one_list x.among))
    | inr far ↦
        inl (record {
          entries = x.entries;
          storages = record {
            name = x.storages.name;
            bag = x.storages.bag;
            is = at-other d.bags n x.storages.name None None far ∙ x.storages.is;
            stands = x.storages.stands;
          };
          among = x.among;
        })
  ]

  there-it : IsSome (bag_at d.bags n)
  there-it = ap is_some is

  -- what another bag is, is no bag's that is spent
  not-spent : (m : ℕ) (b : NumberBag) → bag_at others.bags m ≡ Some b → m ≢ n
  not-spent m b at same = grind (arith, common_steps)

  pub others-were : AreBags d → AreBags others
  others-were are m b at =
      let far = not-spent m b at in
      let was = are m b (sym (at-other d.bags n m None None far) ∙ at) in
      record { bag = was.bag; home = was.home; unnamed = was.unnamed }

  module _ (w : World Val) (stay : BagsStay others.bags d.world w) where
    -- without the bag
    pub join-others : (j : ℕ) → IsStored others.bags d.world j → IsStored others.bags w j
    join-others j x = stored-on others.bags d.world w stay j x

    -- or with another one in its place
    module _ (bag : NumberBag) (fs : List (Entry Val)) (stands : StandsOn w bag fs) where
      abbrev now_bags : List (Option NumberBag)
      now_bags = slice_set d.bags n (Some bag)

      its-name : bag_at now_bags n ≡ Some bag
      its-name = at-same d.bags n (Some bag) None (inside-list d.bags n there-it)

      pub join : (j : ℕ) → IsStored others.bags d.world j ⊎ IsAmong j fs → IsStored now_bags w j
      join j (inr among) = record { entries = fs; storages = record { name = n; bag = bag; is = its-name; stands = stands }; among = among }
      join j (inl other) =
          let x = join-others j other in
          let far = not-spent x.storages.name x.storages.bag x.storages.is in
          record {
            entries = x.entries;
            storages = record {
              name = x.storages.name;
              bag = x.storages.bag;
              is = at-other d.bags n x.storages.name (Some bag) None far ∙ sym (at-other d.bags n x.storages.name None None far) ∙ x.storages.is;
              stands = x.storages.stands;
            };
            among = x.among;
          }

      -- all bags are there
      pub join-bags : (names : List (Option ℕ)) → AreBags (record d { world = w; bags = others.bags; names = names }) →
          IsBag storage_in bag_length w bag → IsOfCells w.home.cells bag →
          ((j : ℕ) → IsAmong j fs → slice_index_or names j None ≡ None) → AreBags (record d { world = w; bags = now_bags; names = names })
      join-bags names are whole_bag home unnamed m b at = elim (cases_eq m n) [
        | inl same ↦
            (let both : Some bag ≡ Some b = sym its-name ∙ ap (λ (i : ℕ). bag_at now_bags i) (sym same) ∙ at in
            let one_bag : bag ≡ b = cc in
            subst (λ (x : NumberBag). IsKeptNow names x) one_bag (record {
              bag = whole_bag;
              home = home;
              unnamed = λ es here j among.
                  unnamed j (subst (λ (gs : List (Entry Val)). IsAmong j gs) (same-list w (stack_of bag) es fs here.stack stands.stack) among);
            }))
        | inr far ↦
            (let was = are m b (at-other d.bags n m None None far ∙ sym (at-other d.bags n m (Some bag) None far) ∙ at) in
            record { bag = was.bag; home = was.home; unnamed = was.unnamed })
      ] where
        IsKeptNow : List (Option ℕ) → NumberBag → Type 0
        IsKeptNow ns x = bags_specs.IsKeptBag (record d { world = w; bags = now_bags; names = ns }) x

-- ---- the bag of this name is another one, in the same world

module _ (d : ScriptState) (s : IsSound d) (whole : IsWhole d.world) (p n : ℕ) (live : IsPlaceOf d.world p) (old bag : NumberBag)
    (is : bag_at d.bags n ≡ Some old) (cells : HasSameCells old bag) where
  its-home : IsOfCells d.world.home.cells bag
  its-home =
      let was = (s.bags n old is).home in
      record { primary = ap (λ x. x.home) cells.storage ∙ was.primary; overflow = ap home_in cells.stack ∙ was.overflow }

  -- as many rights
  pub as-many : (u : Claim) → contained (with_bag_at d n bag) u
      ≡ contained (others d n old is) u + one (right_to (own_of old)) u + one (right_to (stack_of old)) u
  as-many u = grind (arith, common_steps)

  -- ---- the world goes on so, and the other storages are on these entries
  module _ (w : World Val) (fs : List (Entry Val)) (names : List (Option ℕ)) (dates : List ℕ) where
    abbrev pub after : ScriptState
    after = record d { world = w; bags = slice_set d.bags n (Some bag); names = names; dates = dates }

    -- what a line on a bag has to show
    pub record Shows : Type 0 where
      pub stay : BagsStay (others d n old is).bags d.world w
      pub stands : StandsOn w bag fs
      pub its : IsBag storage_in bag_length w bag
      pub passes : Passes d.world w
      pub stocked : SlotsHaveNames after
      pub ledger : IsLedger holdings_of (λ u. named d u + contained after u) w
      pub lists : HasLists (IsListCell d) (IsSecondCell d) (IsStored after.bags w) w
      pub spare : AreSpare w
      pub layered : HoldsOnlyOlder after
      pub home : w.home ≡ d.world.home
      -- the items of other bags' storages have no name, and those of its own have none
      pub still : (j : ℕ) → IsStored (others d n old is).bags d.world j → slice_index_or names j None ≡ name_at d j
      pub unnamed : (j : ℕ) → IsAmong j fs → slice_index_or names j None ≡ None
      pub made : w.tally.made ≤ length d.slots + d.moment * 2 ^ 32

    pub shows-sound : Shows → IsDated d after → LeavesSound d after
    shows-sound f dated =
        let are = bags-still (others d n old is) (record d { world = w; bags = (others d n old is).bags; names = names }) (others-were d n old is s.bags) refl
        f.stay f.home f.still in
        leaves-so d after s (same-line d) dated p live f.passes f.home f.stocked f.ledger f.lists
        (all-bags (join-bags d n old is w f.stay bag fs f.stands names are f.its (rw f.home its-home) f.unnamed)) f.spare f.layered (assumption s.home)
        f.made where
          all-bags : AreBags (record d { world = w; bags = slice_set d.bags n (Some bag); names = names }) → AreBags after
          all-bags are m b at = (let was = are m b at in record { bag = was.bag; home = was.home; unnamed = was.unnamed })

  -- ---- in the same world: its storages have other numbers

  module _ (es : List (Entry Val)) (stood : StandsOn d.world old es) (stands : StandsOn d.world bag es) (its : IsBag storage_in bag_length d.world bag)
      (names : List (Option ℕ)) (kept : (j : ℕ) → slice_index_or names j None ≡ name_at d j) (long : length names ≡ length d.names) (dates : List ℕ) where
    none-stay : BagsStay (others d n old is).bags d.world d.world
    none-stay m b fs at here = here

    abbrev pub renumbered : ScriptState
    renumbered = after d.world es names dates

    stored-now : (j : ℕ) → IsStored d.bags d.world j → IsStored renumbered.bags d.world j
    stored-now j x = join d n old is d.world none-stay bag es stands j (split d n old is es stood j x)

    named-now : (j : ℕ) → IsSome (standing_at d.world j) → (x : Option ℕ) → name_at d j ≡ x → IsCalled d j x →
        IsCalled renumbered j (slice_index_or names j None)
    named-now j some None e (inl waits) = rw (kept j, e) (inl waits)
    named-now j some None e (inr at) = rw (kept j, e) (inr (stored-now j at))
    named-now j some (Some i) e (lt, its_slot) = rw (kept j, e) (lt, its_slot)

    pub renumbered-leaves : IsDated d renumbered → LeavesSound d renumbered
    renumbered-leaves dated =
        let start = starts d s whole in
        shows-sound d.world es names dates (record {
          stay = none-stay;
          stands = stands;
          its = its;
          passes = start.frames.passes;
          stocked = record {
            named = λ j some. named-now j some (name_at d j) refl (s.stocked.named j some);
            names = long ∙ s.stocked.names;
            dates = dated.long ∙ s.stocked.dates;
            few = omega (arith, long, s.stocked.few);
          };
          ledger = λ u. omega (arith, s.ledger u, bag-less d s whole n old is u, as-many u);
          lists = has-stored stored-now s.lists;
          spare = s.spare;
          layered = λ j k some. omega (arith, s.layered j k some, ap number_in (kept j), ap number_in (kept k));
          home = refl;
          still = λ j x. kept j;
          unnamed = λ j among. kept j ∙ (s.bags n old is).unnamed es stood j among;
          made = s.made;
        }) dated

  -- ---- storages of it are let go of

  module _ (gone rest : List (Entry Val)) (stood : StandsOn d.world old (gone ++ rest)) where
    abbrev pub w_gone : World Val
    w_gone = let_go_many d.world p (stack_of old) gone rest

    in-hand : IsInHand d n (own_of old) (stack_of old) w_gone rest
    in-hand =
        goes-many d n (own_of old) (stack_of old) p live gone rest d.world
        (begins-in_hand d s whole n old is (gone ++ rest) stood)

    start : IsMidway d d.world (named d)
    start = starts d s whole

    abbrev total : Claim → ℕ
    total u = named d u + contained d u

    its-storages : HasStorages d.bags d.world (gone ++ rest)
    its-storages = record { name = n; bag = old; is = is; stands = stood }

    its-stored : (j : ℕ) → IsAmong j (gone ++ rest) → IsStored d.bags d.world j
    its-stored j among = record { entries = gone ++ rest; storages = its-storages; among = among }

    -- a cell that is none of them
    cell-still : (i : ℕ) → (IsReserved d d.world i → ⊥) → Apart link_of i (gone ++ rest) → entry_at w_gone.cells i ≡ entry_at d.world.cells i
    unfolding its-storages
    cell-still i off apart =
        many-other p (stack_of old) gone rest d.world i
        (λ same. off (inl (record { entries = gone ++ rest; storages = its-storages; cell = inl (sym same) }))) (apart-front i gone rest apart)

    right-still : (i : ℕ) → 1 ≤ contained d (right_to i) → (IsReserved d d.world i → ⊥) → entry_at w_gone.cells i ≡ entry_at d.world.cells i
    right-still i mine off =
        cell-still i off (apart-own d.world total s.ledger i (omega (arith, mine)) (gone ++ rest) stood.stack.linked)

    alone : (a b : ℕ) (x y : Val) → value_at d.world a ≡ Some x → value_at d.world b ≡ Some y → link_of x ≡ link_of y → a ≡ b
    alone = links-apart d.world total s.ledger

    values-same : w_gone.values ≡ d.world.values
    values-same = many-values p (stack_of old) gone rest d.world

    value-was : (j : ℕ) (x : Val) → value_at w_gone j ≡ Some x → value_at d.world j ≡ Some x
    value-was j x at = ap (λ (vs : List (Option Val)). slice_index_or vs j None) (sym values-same) ∙ at

    -- ---- of which it keeps the rest
    module _ (stands : StandsOn w_gone bag rest) (its : IsBag storage_in bag_length w_gone bag) (dates : List ℕ) where
      abbrev pub after_gone : ScriptState
      after_gone = after w_gone rest d.names dates

      stored-rest : (j : ℕ) → IsStored (others d n old is).bags d.world j ⊎ IsAmong j rest → IsStored after_gone.bags w_gone j
      stored-rest = join d n old is w_gone in-hand.between.bags bag rest stands

      were : (j : ℕ) (x : Val) → value_at w_gone j ≡ Some x → (IsStored after_gone.bags w_gone j → ⊥) →
          (held_in (entry_at w_gone.cells (link_of x)) ≡ None) ⊎ ((value_at d.world j ≡ Some x) × (IsStored d.bags d.world j → ⊥))
      were j x at not_now = elim (among-or j gone) [
        | inl among ↦ inl (many-bare p (stack_of old) gone rest d.world stood.stack stood.shelves j x among (value-was j x at) alone)
        | inr not ↦
            inr (
              value-was j x at,
              (λ stored. elim (split d n old is (gone ++ rest) stood j stored) [
                | inl other ↦ not_now (stored-rest j (inl other))
                | inr its_own ↦ elim (among-both j gone rest its_own) [
                  | inl first ↦ not first
                  | inr last ↦ not_now (stored-rest j (inr last))
                ]
              ]),
            )
      ]

      lists-gone : HasLists (IsListCell d) (IsSecondCell d) (IsStored after_gone.bags w_gone) w_gone
      lists-gone =
          has-apart (IsListCell d) (IsSecondCell d) (IsStored d.bags d.world) (IsStored after_gone.bags w_gone) d.world w_gone s.lists
          (λ i x. right-still i (list-right d i x) (list-apart-from start i x))
          (λ i b y. right-still b (second-right d i b y) (second-apart-from start i b y))
          (λ j x there not. cell-still (link_of x) (link-apart-from start j x there not)
          (apart-item d.world total s.ledger j x there (gone ++ rest) stood.stack.linked (λ among. not (its-stored j among))))
          (λ j x there. ap (λ (vs : List (Option Val)). slice_index_or vs j None) values-same ∙ there)
          (λ j at. among-apart start at.cell j no_tag at.entries (list-apart-from start at.cell at.begun) at.list at.among)
          (λ j y there off loose i among. among-apart start (link_of y) i loose.tag loose.entries (link-apart-from start j y there off) loose.list among)
          (λ i b j y holds. off-held d d.world (named d) s.ledger start.bags b j (λ kept. second-apart-from start i b y (inl kept)) holds)
          were

      named-gone : (j : ℕ) → IsSome (standing_at w_gone j) → (x : Option ℕ) → name_at d j ≡ x → IsCalled d j x → IsCalled after_gone j (name_at d j)
      named-gone j some None e (inl waits) = rw e (inl (in-hand.between.frames.slots.waits j waits some))
      named-gone j some None e (inr stored) = rw e (elim (split d n old is (gone ++ rest) stood j stored) [
        | inl other ↦ inr (stored-rest j (inl other))
        | inr its_own ↦ elim (among-both j gone rest its_own) [
          | inl first ↦ inl (ap is_waiting (many-waits p (stack_of old) gone rest d.world stood.shelves j first))
          | inr last ↦ inr (stored-rest j (inr last))
        ]
      ])
      named-gone j some (Some i) e (lt, its_slot) = rw e (lt, its_slot)

      pub gone-leaves : IsDatedWithin d after_gone → LeavesSound d after_gone
      gone-leaves within =
          let b = in-hand.between in
          let dated = dated-all d after_gone s.stocked b.frames.slots.slots within in
          shows-sound w_gone rest d.names dates (record {
            stay = b.bags;
            stands = stands;
            its = its;
            passes = b.frames.passes;
            stocked = record {
              named = λ j some. named-gone j some (name_at d j) refl (s.stocked.named j (b.frames.slots.taken j some));
              names = s.stocked.names ∙ sym b.frames.slots.slots;
              dates = dated.long ∙ s.stocked.dates ∙ sym b.frames.slots.slots;
              few = s.stocked.few;
            };
            ledger = λ u. omega (arith, b.ledger u, as-many u);
            lists = lists-gone;
            spare = b.spare;
            layered = layered-less d after_gone s.layered b.frames.values refl;
            home = b.frames.slots.home;
            still = λ j x. refl;
            unnamed = λ j among. (s.bags n old is).unnamed (gone ++ rest) stood j (among-behind_front j gone rest among);
            made = omega (arith, b.frames.slots.made, s.made);
          }) dated
