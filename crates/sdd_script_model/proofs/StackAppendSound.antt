-- What is always true of a state is true after a number is put behind a stack's entries, which the stack alone owns
use Rattle.sdd_script_model.proofs.Words.{◌≡◌, ◌≢◌, ◌⊎◌, ◌+◌, inl, inr, ℕ, List, [], ◌∷◌, ◌++◌, Option, Some, None, slice_index_or, refl, sym, ap, ◌∙◌, subst, arith, max, cases_eq, set-set, Tag, Entries, entry_at, Standing, Owned, Shared, Claim, owner_of, one, shares, World, IsPlaceOf, standing_at, value_at, held_in, owner_given, with_standing, IsWhole, ledger-laws, IsAmong, appended, end_of, through_last, Apart, Entry, IsList, among-last, appended-other, put-values, KeepsGone, gone-appended, gone-same, gone-then, let-go-kept, bare, list-same, IsStored, AreNumbers, Begins, HasLists, IsListed, IsLoose, Appends, IsStack, ScriptState, IsListCell, IsSecondCell, IsSound, contained, named, Val, holdings_of, link_of}
use Rattle.sdd_core.specs.declared.tag.Tag.TheVariants.{None as no_tag}
use Rattle.sdd_script_model.proofs.Lemmas.{IsMidway, are-own, stacked-right, same-once, AreOwn, StaysGone, apart-item, apart-own, has-changed, held-by, link-apart, links-apart, loose-as, same-list, among-or, off-link, off-other, starts, owner-given}
use Rattle.sdd_script_model.proofs.QueueEnds.{among-before, among-either, among-through, dropped, numbers-last, numbers-through, put-last}
use Rattle.sdd_script_model.proofs.QueuePushSound.{linked-where}
use Rattle.sdd_script_model.proofs.StackChains.{IsBetween, IsSingle, between, goes-on, midway}
use Rattle.sdd_script_model.proofs.StackSound.{is-single, numbers}
use Rattle.sdd_script_model.proofs.StackPushSound.{clear-mid, given-up, link-off, link-off_all, list-mid, made, mid, mid-whole, number-in, stands-once, there-mid, not-stored}
use Rattle.sdd_world_model.specs.OwnerOrCell as holding

module _ (d : ScriptState) (s : IsSound d) (whole : IsWhole d.world) (p c : ℕ) (live : IsPlaceOf d.world p) (n : ℕ) (es : List (Entry Val))
    (is : IsStack d n c es)
    (number k : ℕ) (w : World Val) (puts : Appends d.world p c es number k w) where
  abbrev x : Val
  x = puts.entry

  abbrev l : ℕ
  l = link_of puts.entry

  -- ---- the item is made

  abbrev entered : ScriptState
  entered = mid d s whole p live number k x puts.free puts.appended.free puts.body

  abbrev v : World Val
  v = entered.world

  sound-in : IsSound entered
  sound-in = (made d s whole p live number k x puts.free puts.appended.free puts.body).sound

  list-in : Begins v c es
  list-in = list-mid d s whole p live number k x puts.free puts.appended.free puts.body c es is.list

  there-in : value_at v k ≡ Some x
  there-in = there-mid d s whole p live number k x puts.free puts.appended.free puts.body

  off-first : c ≢ l
  off-first = link-off d s whole p live number k x puts.free puts.appended.free puts.body c _ is.list.begins

  off-links : Apart link_of l es
  off-links = link-off_all d s whole p live number k x puts.free puts.appended.free puts.body es is.list.linked

  once-in : standing_at v k ≡ Some (Shared 1)
  once-in = stands-once d s whole p live number k x puts.free puts.appended.free puts.body

  -- its one owner has a name, so no cell holds it
  unheld : (b : ℕ) → held_in (entry_at v.cells b) ≡ Some k → ⊥
  unheld b holds =
      let inner = ((ledger-laws holdings_of v).tells _ sound-in.ledger).in_cell b k holds in
      let mine = owner-given d.owners d.cells d.collectors (holding.shared k d.world.home.slots) k refl (owner_of k) in
      let stands = ((ledger-laws holdings_of v).tells _ sound-in.ledger).stands k (omega (arith, inner)) in
      elim stands [
        | inl sole ↦ (let never : Some (Shared 1) ≡ Some Owned = sym once-in ∙ sole.0 in absurd (cc))
        | inr several ↦
            (let both : Some (Shared 1) ≡ Some (Shared several.0) = sym once-in ∙ several.1 in
            let one_only : several.0 ≡ 1 = cc in
            absurd (omega (arith, several.2, ap (max 1) one_only, inner, mine, same-once k)))
      ]

  -- and so it is an entry of none
  nowhere : (b : ℕ) (t : Tag) (gs : List (Entry Val)) → IsList link_of v b t gs → IsAmong k gs → ⊥
  nowhere b t gs list among =
      let by = held-by v (λ u. named entered u + contained entered u) sound-in.ledger b k gs (ap held_in list.begins) list.linked among in unheld by.0 by.1

  unlisted : IsListed (IsListCell entered) v k → ⊥
  unlisted at = nowhere at.cell no_tag at.entries at.list at.among

  its : IsSingle entered c
  its = is-single entered sound-in n c is.named

  -- ---- one owner more is made, and goes to the end of the list

  abbrev twice : World Val
  twice = with_standing v k (Shared 2)

  no-storage : IsStored entered.bags entered.world k → ⊥
  no-storage = not-stored d s whole p live number k x puts.free puts.appended.free puts.body

  with-two : IsBetween entered twice (λ u. named entered u + one (owner_of k) u)
  with-two =
      goes-on (between (starts entered sound-in (mid-whole d s whole p live number k x puts.free puts.appended.free puts.body)))
      (shares v k 1 (record { shared = once-in; some = omega arith; most = omega arith })) tt no-storage (named entered) (λ u. omega arith)

  list-twice : Begins twice c es
  list-twice = list-same link_of v twice c no_tag es refl refl list-in

  abbrev last : World Val
  last = appended link_of twice p c no_tag es l k

  with-last : IsBetween entered last (named entered)
  with-last =
      put-last p k x live (named entered) twice with-two c no_tag
      (off-other entered twice _ with-two.ledger with-two.bags c (omega (arith, stacked-right entered.stacks n c is.named)))
      (off-link entered twice _ with-two.ledger with-two.bags k x there-in no-storage) es list-twice
      (clear-mid d s whole p live number k x puts.free puts.appended.free puts.body) off-first off-links

  -- two owners at once, or one after the other
  last-is : w ≡ owner_given last p k (standing_at last k)
  last-is =
      puts.appended.world
      ∙ ap (λ (u : World Val). let y : World Val = appended link_of u p c no_tag es l k in owner_given y p k (standing_at y k))
      (ap (λ (ss : Entries Standing). record v { standings = ss }) (sym (set-set d.world.standings k (Some (Shared 1)) (Some (Shared 2)))))

  -- ---- the lists

  abbrev pub now : List (Entry Val)
  now = through_last es ++ record { slot = k; value = x; tag = no_tag } ∷ []

  list-now : Begins last c now
  list-now =
      let given = bare last p k (standing_at last k) in
      list-same link_of w last c no_tag now (sym (ap (λ (u : World Val). u.cells) last-is ∙ given.cells))
      (sym (ap (λ (u : World Val). u.values) last-is ∙ given.values)) puts.appended.list

  abbrev all : Claim → ℕ
  all u = named entered u + contained entered u

  own : AreOwn (IsListCell entered) (IsSecondCell entered) all
  own = are-own entered v all all sound-in.ledger (λ u. omega arith) (λ u. omega arith)

  had : HasLists (IsListCell entered) (IsSecondCell entered) (IsStored entered.bags entered.world) v
  had = sound-in.lists

  values-same : last.values ≡ v.values
  values-same = put-values link_of twice p (end_of link_of c no_tag es) l k

  cell-still : (i : ℕ) → i ≢ c → Apart link_of i es → i ≢ l → entry_at last.cells i ≡ entry_at v.cells i
  cell-still i a b e = appended-other link_of twice p c no_tag es l k i a b e

  -- the link of an item that is neither the new one nor in this list
  link-still : (j : ℕ) (z : Val) → value_at v j ≡ Some z → (IsAmong j es → ⊥) → j ≢ k → entry_at last.cells (link_of z) ≡ entry_at v.cells (link_of z)
  link-still j z at not far =
      cell-still (link_of z) (λ same. link-apart v all sound-in.ledger c j z (own.first c its.begins) at (sym same))
      (apart-item v all sound-in.ledger j z at es list-in.linked not) (λ same. far (links-apart v all sound-in.ledger j k z x at there-in same))

  forward : (b : ℕ) → IsListCell entered b → b ≢ c → (gs : List (Entry Val)) → Begins v b gs → Begins last b gs
  forward b y far gs list = record {
    begins =
        cell-still b far (apart-own v all sound-in.ledger b (own.first b y) es list-in.linked)
        (link-apart v all sound-in.ledger b k x (own.first b y) there-in) ∙ list.begins;
    linked = linked-where v last values-same gs list.linked
        (λ j z among at. link-still j z at (λ also. far (had.apart b c j gs es y its.begins list list-in among also))
        (λ same. unlisted (record { cell = b; entries = gs; begun = y; list = list; among = subst (λ (i : ℕ). IsAmong i gs) same among })));
  }

  stays : (a b : ℕ) → IsSecondCell entered a b → entry_at last.cells b ≡ entry_at v.cells b
  stays a b y =
      cell-still b (λ same. own.two c a b its.begins y (sym same)) (apart-own v all sound-in.ledger b (own.second a b y) es list-in.linked)
      (link-apart v all sound-in.ledger b k x (own.second a b y) there-in)

  -- what was let go of by a queue stays so
  keeps-gone : KeepsGone v last
  keeps-gone =
      gone-then v twice last (gone-same v twice refl refl)
      (gone-appended link_of twice p c no_tag es l k (inl (λ same. absurd (cc))) list-twice
      (clear-mid d s whole p live number k x puts.free puts.appended.free puts.body) off-first off-links)

  stays-gone : StaysGone (IsSecondCell entered) v last
  stays-gone a b j y holds was = let-go-kept link_of v last j keeps-gone was

  from : (j : ℕ) → IsAmong j now → IsAmong j es ⊎ (IsListed (IsListCell entered) v j → ⊥)
  from j among = elim (among-either j (through_last es) _ among) [
    | inl through ↦ inl (among-through j es through)
    | inr same ↦ inr (λ at. unlisted (subst (λ (i : ℕ). IsListed (IsListCell entered) v i) (sym same) at))
  ]

  -- what is in a list was in one, or is the new item
  abbrev IsListedBy : ℕ → Type 0
  IsListedBy j = IsListed (IsListCell entered) v j ⊎ IsAmong j now

  -- the item is in no chain elsewhere, and no entry of the list is
  loose-still : (j : ℕ) (z : Val) → value_at v j ≡ Some z → (IsAmong j es → ⊥) → j ≢ k → IsLoose (IsListCell entered) v (link_of z) →
      ((i : ℕ) → IsListed (IsListCell entered) last i → IsListedBy i) → IsLoose (IsListCell entered) last (link_of z)
  loose-still j z was not far loose listed =
      let in_it : (i : ℕ) → IsAmong i es → IsListed (IsListCell entered) v i =
      λ i among. record { cell = c; entries = es; begun = its.begins; list = list-in; among = among } in
      let not_it = nowhere (link_of z) loose.tag loose.entries loose.list in
      loose-as loose (record {
        begins = link-still j z was not far ∙ loose.list.begins;
        linked = linked-where v last values-same loose.entries loose.list.linked
            (λ i y among at. link-still i y at (λ also. loose.free i among (in_it i also))
            (λ same. not_it (subst (λ (m : ℕ). IsAmong m loose.entries) same among)));
      }) (λ i among at. elim (listed i at) [
        | inl was_in ↦ was_in
        | inr is_in ↦ elim (among-either i (through_last es) _ is_in) [
          | inl through ↦ in_it i (among-through i es through)
          | inr same ↦ absurd (not_it (subst (λ (m : ℕ). IsAmong m loose.entries) (sym same) among))
        ]
      ])

  links : (j : ℕ) (z : Val) → value_at last j ≡ Some z → (IsStored entered.bags entered.world j → ⊥) →
      ((i : ℕ) → IsListed (IsListCell entered) last i → IsListedBy i) → (held_in (entry_at last.cells (link_of z)) ≡ None)
      ⊎ (IsAmong j now
      ⊎ (((at : IsListed (IsListCell entered) v j) × (at.cell ≢ c)) ⊎ IsLoose (IsListCell entered) last (link_of z)))
  links j z e kept listed =
      let was : value_at v j ≡ Some z = ap (λ (vs : List (Option Val)). slice_index_or vs j None) (sym values-same) ∙ e in
      elim (cases_eq j k) [
        | inl same ↦ inr (inl (among-last j (through_last es) (record { slot = k; value = x; tag = no_tag }) (sym same)))
        | inr far ↦ elim (among-or j es) [
          | inl among ↦
              elim (dropped p k x twice c no_tag es list-twice off-links j z among was) [
                | inl stay ↦ inr (inl (among-before j (through_last es) (record { slot = k; value = x; tag = no_tag }) stay))
                | inr none ↦ inl none
              ]
          | inr not ↦ elim (had.linked j z was kept) [
            | inl none ↦ inl (ap held_in (link-still j z was not far) ∙ none)
            | inr (inr loose) ↦ inr (inr (inr (loose-still j z was not far loose listed)))
            | inr (inl at) ↦ elim (cases_eq at.cell c) [
              | inl same ↦
                  absurd (not (subst (λ (fs : List (Entry Val)). IsAmong j fs)
                  (same-list v c at.entries es (subst (λ (i : ℕ). Begins v i at.entries) same at.list) list-in) at.among))
              | inr off ↦ inr (inr (inl (at, off)))
            ]
          ]
        ]
      ]

  numbers-now : AreNumbers now
  numbers-now =
      numbers-last (through_last es) (record { slot = k; value = x; tag = no_tag })
      (numbers-through es (numbers entered sound-in (mid-whole d s whole p live number k x puts.free puts.appended.free puts.body) p c live n es
      (record { named = is.named; list = list-in })))
      (number-in d s whole p live number k x puts.free puts.appended.free puts.body)

  lists-now : HasLists (IsListCell entered) (IsSecondCell entered) (IsStored entered.bags entered.world) last
  lists-now =
      has-changed (IsListCell entered) (IsSecondCell entered) (IsStored entered.bags entered.world) v last had c its.begins stays stays-gone es now list-in
      list-now numbers-now
      (λ b y. absurd (its.single b y)) forward from links

  -- ---- the other owner is given up

  pub appended-midway : IsMidway entered w (named d)
  appended-midway =
      subst (λ (u : World Val). IsMidway entered u (named d)) (sym last-is)
      (given-up d s whole p live number k x puts.free puts.appended.free puts.body last (midway with-last lists-now))
