-- What is always true of a state is true after a push onto a queue: an item is made, and then put behind the last entry
use Rattle.sdd_script_model.proofs.Words.{◌≡◌, ◌≢◌, ◌⊎◌, ◌+◌, ◌<◌, inl, inr, ℕ, List, [], ◌∷◌, ◌++◌, Option, Some, None, is_some, length, slice_index_or, slice_set, refl, sym, ap, ◌∙◌, subst, arith, max, cases_eq, set-set, Tag, Entries, entry_at, CellContents, Standing, Owned, Shared, Claim, owner_of, right_to, one, changes_cell, shares, World, IsPlaceOf, standing_at, value_at, held_in, made_as, nulled, spilled, with_cell, with_standing, IsWhole, ledger-laws, IsAmong, appended, end_of, through_last, Apart, AreLinked, Entry, IsList, IsSecond, QueueCells, among-last, appended-other, put-values, list-apart, spilled-cells, spilled-values, KeepsGone, gone-appended, gone-same, gone-then, gone-written, let-go-kept, other-tag, list-same, IsStored, AreNumbers, Begins, HasLists, IsListed, IsLoose, Enqueues, IsNamedQueue, ScriptState, IsListCell, IsSecondCell, IsSound, contained, named, Val, holdings_of, link_of}
use Rattle.sdd_core.specs.declared.tag.Tag.TheVariants.{None as no_tag}
use Rattle.sdd_script_model.proofs.Lemmas.{IsMidway, LeavesSound, are-own, stacked-right, stacked-twice, at-other, at-same, null, same-once, StaysGone, AreOwn, apart-item, apart-own, has-changed, held-by, link-apart, links-apart, loose-as, same-list, among-or, off-link, off-other, owner-given, inside as inside-list}
use Rattle.sdd_script_model.proofs.QueueEnds.{among-before, among-either, among-through, dropped, numbers-last, numbers-through, put-last}
use Rattle.sdd_script_model.proofs.QueueSound.{bare, bare-lists, bare-was, first-single, in-hand, its-numbers, second-back}
use Rattle.sdd_script_model.proofs.StackChains.{IsBetween, IsSingle, between, goes-on, midway, spills-between}
use Rattle.sdd_script_model.proofs.StackSound.{IsDatedWithin}
use Rattle.sdd_script_model.proofs.StackPushSound.{after_entered, clear-mid, entered-leaves, link-off, link-off_all, list-mid, made, mid, mid-whole, number-in, stands-once, there-mid, not-stored}
use Rattle.sdd_world_model.specs.OwnerOrCell as holding

-- entries stay linked where their links stay as they are
pub linked-where : (v w : World Val) → w.values ≡ v.values → (gs : List (Entry Val)) → AreLinked link_of v gs →
    ((j : ℕ) (z : Val) → IsAmong j gs → value_at v j ≡ Some z → entry_at w.cells (link_of z) ≡ entry_at v.cells (link_of z)) → AreLinked link_of w gs
linked-where v w values [] linked still = tt
linked-where v w values (g ∷ gs) linked still = (
  record {
    there = ap (λ (vs : List (Option Val)). slice_index_or vs g.slot None) values ∙ linked.0.there;
    linked = still g.slot g.value (inl refl) linked.0.there ∙ linked.0.linked;
    plain = linked.0.plain;
  },
  linked-where v w values gs linked.1 (λ j z among at. still j z (inr among) at),
)

module _ (d : ScriptState) (s : IsSound d) (whole : IsWhole d.world) (p : ℕ) (live : IsPlaceOf d.world p) (n : ℕ) (q : QueueCells) (es : List (Entry Val))
    (second : Option ℕ) (is : IsNamedQueue d n q es second) (number k : ℕ) (w : World Val) (puts : Enqueues d.world p q es second number k w) (dates : List ℕ)
  where
    abbrev x : Val
    x = puts.entry

    abbrev l : ℕ
    l = link_of puts.entry

    -- ---- the item is made

    abbrev entered : ScriptState
    entered = mid d s whole p live number k x puts.free puts.pushed.free puts.body

    abbrev v : World Val
    v = entered.world

    abbrev pub after_enqueued : ScriptState
    after_enqueued = after_entered d s whole p live number k x puts.free puts.pushed.free puts.body w dates

    sound-in : IsSound entered
    sound-in = (made d s whole p live number k x puts.free puts.pushed.free puts.body).sound

    whole-in : IsWhole entered.world
    whole-in = mid-whole d s whole p live number k x puts.free puts.pushed.free puts.body

    list-in : Begins v q.oldest es
    list-in = list-mid d s whole p live number k x puts.free puts.pushed.free puts.body q.oldest es is.queue.list

    there-in : value_at v k ≡ Some x
    there-in = there-mid d s whole p live number k x puts.free puts.pushed.free puts.body

    off-first : q.oldest ≢ l
    off-first = link-off d s whole p live number k x puts.free puts.pushed.free puts.body q.oldest _ is.queue.list.begins

    off-second : q.newest ≢ l
    off-second = link-off d s whole p live number k x puts.free puts.pushed.free puts.body q.newest _ is.queue.newest

    off-links : Apart link_of l es
    off-links = link-off_all d s whole p live number k x puts.free puts.pushed.free puts.body es is.queue.list.linked

    once-in : standing_at v k ≡ Some (Shared 1)
    once-in = stands-once d s whole p live number k x puts.free puts.pushed.free puts.body

    inside-in : k < length v.standings
    inside-in = inside-list v.standings k (ap is_some once-in)

    -- its one owner has a name, so no cell holds it
    unheld : (b : ℕ) → held_in (entry_at v.cells b) ≡ Some k → ⊥
    unheld b holds =
        let inner = ((ledger-laws holdings_of v).tells _ sound-in.ledger).in_cell b k holds in
        let mine = owner-given d.owners d.cells d.collectors (holding.shared k d.world.home.slots) k refl (owner_of k) in
        let stands = ((ledger-laws holdings_of v).tells _ sound-in.ledger).stands k (omega (arith, inner)) in
        elim stands [
          | inl sole ↦ (let never : Some (Shared 1) ≡ Some Owned = sym once-in ∙ sole.0 in absurd (cc))
          | inr several ↦
              (let both : Some (Shared 1) ≡ Some (Shared several.0) = sym once-in ∙ several.1 in
              let one_only : several.0 ≡ 1 = cc in
              absurd (omega (arith, several.2, ap (max 1) one_only, inner, mine, same-once k)))
        ]

    -- and so it is an entry of none
    nowhere : (b : ℕ) (t : Tag) (gs : List (Entry Val)) → IsList link_of v b t gs → IsAmong k gs → ⊥
    nowhere b t gs list among =
        let by = held-by v (λ u. named entered u + contained entered u) sound-in.ledger b k gs (ap held_in list.begins) list.linked among in
        unheld by.0 by.1

    unlisted : IsListed (IsListCell entered) v k → ⊥
    unlisted at = nowhere at.cell no_tag at.entries at.list at.among

    -- ---- the queue's second cell is in hand

    abbrev without_second : ScriptState
    without_second = bare entered n q is.newest

    abbrev rest : Claim → ℕ
    rest u = named entered u + one (right_to q.newest) u

    its : IsSingle without_second q.oldest
    its = first-single entered n q is.newest sound-in is.oldest

    second-in : entry_at v.cells q.newest ≡ Some (record { held = second; tag = no_tag })
    second-in = at-other d.world.cells l q.newest (Some null) None off-second ∙ is.queue.newest

    -- two owners more are made
    abbrev twice : World Val
    twice = with_standing v k (Shared 2)

    abbrev thrice : World Val
    thrice = with_standing twice k (Shared 3)

    no-storage : IsStored entered.bags entered.world k → ⊥
    no-storage = not-stored d s whole p live number k x puts.free puts.pushed.free puts.body

    with-two : IsBetween without_second twice (λ u. rest u + one (owner_of k) u)
    with-two =
        goes-on (between (in-hand entered sound-in whole-in n q is.oldest is.newest))
        (shares v k 1 (record { shared = once-in; some = omega arith; most = omega arith })) tt no-storage rest (λ u. omega arith)

    stands-two : standing_at twice k ≡ Some (Shared 2)
    stands-two = at-same v.standings k (Some (Shared 2)) None inside-in

    with-three : IsBetween without_second thrice (λ u. rest u + one (owner_of k) u + one (owner_of k) u)
    with-three =
        goes-on with-two (shares twice k 2 (record { shared = stands-two; some = omega arith; most = omega arith })) tt no-storage
        (λ u. rest u + one (owner_of k) u)
        (λ u. omega arith)

    -- one goes into the second cell, which gives what it held
    abbrev newest : CellContents
    newest = record { held = Some k; tag = no_tag }

    abbrev held_second : CellContents
    held_second = record { held = second; tag = no_tag }

    abbrev fronted : World Val
    fronted = with_cell thrice q.newest newest

    abbrev spent : World Val
    spent = spilled fronted p second

    with-newest : IsBetween without_second spent (λ u. rest u + one (owner_of k) u)
    with-newest =
        spills-between p live second
        (goes-on with-three (changes_cell thrice q.newest (record { held = second; tag = no_tag }) newest second-in) tt
        (off-other without_second thrice _ with-three.ledger with-three.bags q.newest (omega (arith, same-once q.newest)))
        (λ u. rest u + one (owner_of k) u) (λ u. omega arith))

    list-spent : Begins spent q.oldest es
    list-spent =
        list-same link_of fronted spent q.oldest no_tag es (spilled-cells fronted p second) (spilled-values fronted p second)
        (list-apart link_of thrice fronted q.oldest no_tag es q.newest newest refl refl is.queue.two is.queue.apart
        (list-same link_of v thrice q.oldest no_tag es refl refl list-in))

    values-spent : spent.values ≡ v.values
    values-spent = spilled-values fronted p second

    spent-other : (i : ℕ) → i ≢ q.newest → entry_at spent.cells i ≡ entry_at v.cells i
    spent-other i far =
        ap (λ (cs : Entries CellContents). entry_at cs i) (spilled-cells fronted p second) ∙ at-other v.cells q.newest i (Some newest) None far

    clear-spent : entry_at spent.cells l ≡ Some null
    clear-spent =
        spent-other l (λ same. off-second (sym same)) ∙ clear-mid d s whole p live number k x puts.free puts.pushed.free puts.body

    -- the other goes to the end of the list
    abbrev last : World Val
    last = appended link_of spent p q.oldest no_tag es l k

    with-last : IsBetween without_second last rest
    with-last =
        put-last p k x live rest spent with-newest q.oldest no_tag
        (off-other without_second spent _ with-newest.ledger with-newest.bags q.oldest (omega (arith, stacked-right entered.queues n q.oldest is.oldest)))
        (off-link without_second spent _ with-newest.ledger with-newest.bags k x
        (ap (λ (vs : List (Option Val)). slice_index_or vs k None) values-spent ∙ there-in) no-storage)
        es list-spent clear-spent off-first off-links

    -- three owners at once, or one after the other
    thrice-is : thrice ≡ made_as (nulled d.world l) k puts.entry (Shared 3)
    thrice-is =
        ap (λ (ss : Entries Standing). record v { standings = ss })
        (set-set (slice_set d.world.standings k (Some (Shared 1))) k (Some (Shared 2)) (Some (Shared 3))
        ∙ set-set d.world.standings k (Some (Shared 1)) (Some (Shared 3)))

    last-is : last ≡ w
    last-is =
        ap (λ (u : World Val). appended link_of (spilled (with_cell u q.newest newest) p second) p q.oldest no_tag es l k) thrice-is ∙ sym puts.pushed.world

    -- ---- the lists

    abbrev now : List (Entry Val)
    now = through_last es ++ record { slot = k; value = x; tag = no_tag } ∷ []

    abbrev all : Claim → ℕ
    all u = named entered u + contained entered u

    own : AreOwn (IsListCell entered) (IsSecondCell entered) all
    own = are-own entered v all all sound-in.ledger (λ u. omega arith) (λ u. omega arith)

    pair : IsSecondCell entered q.oldest q.newest
    pair = (n, is.oldest, is.newest)

    had : HasLists (IsListCell without_second) (IsSecondCell without_second) (IsStored without_second.bags without_second.world) v
    had = bare-lists entered sound-in whole-in n q is.oldest is.newest

    values-same : w.values ≡ v.values
    values-same =
        ap (λ (u : World Val). u.values) (sym last-is) ∙ put-values link_of spent p (end_of link_of q.oldest no_tag es) l k ∙ values-spent

    cell-still : (i : ℕ) → i ≢ q.oldest → Apart link_of i es → i ≢ l → i ≢ q.newest → entry_at w.cells i ≡ entry_at v.cells i
    cell-still i a b c e =
        ap (λ (u : World Val). entry_at u.cells i) (sym last-is) ∙ appended-other link_of spent p q.oldest no_tag es l k i a b c ∙ spent-other i e

    -- the link of an item that is neither the new one nor in this list
    link-still : (j : ℕ) (z : Val) → value_at v j ≡ Some z → (IsAmong j es → ⊥) → j ≢ k → entry_at w.cells (link_of z) ≡ entry_at v.cells (link_of z)
    link-still j z at not far =
        cell-still (link_of z) (λ same. link-apart v all sound-in.ledger q.oldest j z (own.first q.oldest its.begins) at (sym same))
        (apart-item v all sound-in.ledger j z at es list-in.linked not) (λ same. far (links-apart v all sound-in.ledger j k z x at there-in same))
        (λ same. link-apart v all sound-in.ledger q.newest j z (own.second q.oldest q.newest pair) at (sym same))

    forward : (b : ℕ) → IsListCell without_second b → b ≢ q.oldest → (gs : List (Entry Val)) → Begins v b gs → Begins w b gs
    forward b y far gs list = record {
      begins =
          cell-still b far (apart-own v all sound-in.ledger b (own.first b y) es list-in.linked)
          (link-apart v all sound-in.ledger b k x (own.first b y) there-in) (own.two b q.oldest q.newest y pair) ∙ list.begins;
      linked = linked-where v w values-same gs list.linked
          (λ j z among at. link-still j z at (λ also. far (had.apart b q.oldest j gs es y its.begins list list-in among also))
          (λ same. unlisted (record { cell = b; entries = gs; begun = y; list = list; among = subst (λ (i : ℕ). IsAmong i gs) same among })));
    }

    stays : (a b : ℕ) → IsSecondCell without_second a b → entry_at w.cells b ≡ entry_at v.cells b
    stays a b y =
        let was = bare-was entered n q is.newest a b y in
        let still : IsSecondCell entered a b = (was.0, was.2, was.3) in
        cell-still b (λ same. own.two q.oldest a b its.begins still (sym same)) (apart-own v all sound-in.ledger b (own.second a b still) es list-in.linked)
        (link-apart v all sound-in.ledger b k x (own.second a b still) there-in)
        (λ same.
        (let both = stacked-twice d.newest was.0 n b was.1 was.3 (is.newest ∙ ap (λ (i : ℕ). Some i) (sym same)) in
        let alone = ((ledger-laws holdings_of v).tells all sound-in.ledger).alone b (own.second a b still) in
        omega (arith, both, alone.1)))

    -- what was let go of by a queue stays so
    keeps-gone : KeepsGone v w
    keeps-gone =
        let first : KeepsGone thrice fronted =
        gone-written thrice q.newest newest (other-tag (entry_at v.cells q.newest) held_second second-in (λ same. absurd (cc))) in
        let second_gone : KeepsGone v spent =
        gone-then v thrice spent (gone-same v thrice refl refl)
        (gone-then thrice fronted spent first (gone-same fronted spent (spilled-cells fronted p second) (spilled-values fronted p second))) in
        subst (λ (u : World Val). KeepsGone v u) last-is (gone-then v spent last second_gone
        (gone-appended link_of spent p q.oldest no_tag es l k (inl (λ same. absurd (cc))) list-spent clear-spent off-first off-links))

    stays-gone : StaysGone (IsSecondCell without_second) v w
    stays-gone a b s y holds was = let-go-kept link_of v w s keeps-gone was

    from : (j : ℕ) → IsAmong j now → IsAmong j es ⊎ (IsListed (IsListCell without_second) v j → ⊥)
    from j among = elim (among-either j (through_last es) _ among) [
      | inl through ↦ inl (among-through j es through)
      | inr same ↦ inr (λ at. unlisted (subst (λ (i : ℕ). IsListed (IsListCell entered) v i) (sym same) at))
    ]

    was-value : (j : ℕ) (z : Val) → value_at w j ≡ Some z → value_at v j ≡ Some z
    was-value j z at = ap (λ (vs : List (Option Val)). slice_index_or vs j None) (sym values-same) ∙ at

    -- what is in a list was in one, or is the new item
    abbrev IsListedBy : ℕ → Type 0
    IsListedBy j = IsListed (IsListCell without_second) v j ⊎ IsAmong j now

    -- the item is in no chain elsewhere, and no entry of the list is
    loose-still : (j : ℕ) (z : Val) → value_at v j ≡ Some z → (IsAmong j es → ⊥) → j ≢ k → IsLoose (IsListCell without_second) v (link_of z) →
        ((i : ℕ) → IsListed (IsListCell without_second) w i → IsListedBy i) → IsLoose (IsListCell without_second) w (link_of z)
    loose-still j z was not far loose listed =
        let in_it : (i : ℕ) → IsAmong i es → IsListed (IsListCell without_second) v i =
        λ i among. record { cell = q.oldest; entries = es; begun = its.begins; list = list-in; among = among } in
        let not_it = nowhere (link_of z) loose.tag loose.entries loose.list in
        loose-as loose (record {
          begins = link-still j z was not far ∙ loose.list.begins;
          linked = linked-where v w values-same loose.entries loose.list.linked
              (λ i y among at. link-still i y at (λ also. loose.free i among (in_it i also))
              (λ same. not_it (subst (λ (m : ℕ). IsAmong m loose.entries) same among)));
        }) (λ i among at. elim (listed i at) [
          | inl was_in ↦ was_in
          | inr is_in ↦ elim (among-either i (through_last es) _ is_in) [
            | inl through ↦ in_it i (among-through i es through)
            | inr same ↦ absurd (not_it (subst (λ (m : ℕ). IsAmong m loose.entries) (sym same) among))
          ]
        ])

    links : (j : ℕ) (z : Val) → value_at w j ≡ Some z → (IsStored entered.bags entered.world j → ⊥) →
        ((i : ℕ) → IsListed (IsListCell without_second) w i → IsListedBy i) → (held_in (entry_at w.cells (link_of z)) ≡ None)
        ⊎ (IsAmong j now
        ⊎ (((at : IsListed (IsListCell without_second) v j) × (at.cell ≢ q.oldest)) ⊎ IsLoose (IsListCell without_second) w (link_of z)))
    links j z e kept listed =
        let was = was-value j z e in
        elim (cases_eq j k) [
          | inl same ↦ inr (inl (among-last j (through_last es) (record { slot = k; value = x; tag = no_tag }) (sym same)))
          | inr far ↦ elim (among-or j es) [
            | inl among ↦
                elim (dropped p k x spent q.oldest no_tag es list-spent off-links j z among
                (ap (λ (vs : List (Option Val)). slice_index_or vs j None) values-spent ∙ was)) [
                  | inl stay ↦ inr (inl (among-before j (through_last es) (record { slot = k; value = x; tag = no_tag }) stay))
                  | inr none ↦ inl (ap (λ (u : World Val). held_in (entry_at u.cells (link_of z))) (sym last-is) ∙ none)
                ]
            | inr not ↦ elim (had.linked j z was kept) [
              | inl none ↦ inl (ap held_in (link-still j z was not far) ∙ none)
              | inr (inr loose) ↦ inr (inr (inr (loose-still j z was not far loose listed)))
              | inr (inl at) ↦ elim (cases_eq at.cell q.oldest) [
                | inl same ↦
                    absurd (not (subst (λ (fs : List (Entry Val)). IsAmong j fs)
                    (same-list v q.oldest at.entries es (subst (λ (i : ℕ). Begins v i at.entries) same at.list) list-in) at.among))
                | inr off ↦ inr (inr (inl (at, off)))
              ]
            ]
          ]
        ]

    numbers-now : AreNumbers now
    numbers-now =
        numbers-last (through_last es) (record { slot = k; value = x; tag = no_tag })
        (numbers-through es (its-numbers entered sound-in whole-in n q is.oldest is.newest es list-in))
        (number-in d s whole p live number k x puts.free puts.pushed.free puts.body)

    lists-now : HasLists (IsListCell without_second) (IsSecondCell without_second) (IsStored without_second.bags without_second.world) w
    lists-now =
        has-changed (IsListCell without_second) (IsSecondCell without_second) (IsStored without_second.bags without_second.world) v w had q.oldest its.begins
        stays stays-gone es now list-in
        puts.pushed.queue.list numbers-now (λ b y. absurd (its.single b y)) forward from links

    -- ---- the second cell is put back

    pub done : IsMidway entered w (named entered)
    done =
        second-back entered sound-in whole-in n q is.oldest is.newest
        (midway (subst (λ (u : World Val). IsBetween without_second u rest) last-is with-last) lists-now)
        (λ fs list. record {
          second = Some k;
          holds = puts.pushed.queue.newest;
          among = subst (λ (gs : List (Entry Val)). IsSecond link_of w (Some k) gs) (same-list w q.oldest now fs puts.pushed.queue.list list)
              puts.pushed.queue.among;
        })

    pub enqueued-leaves : IsDatedWithin d after_enqueued → LeavesSound d after_enqueued
    enqueued-leaves within = entered-leaves d s whole p live number k x puts.free puts.pushed.free puts.body w dates done within
