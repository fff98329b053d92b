use Rattle.std.proofs.Common.{rules, ◌≡◌, inl, inr, ◌<◌, ◌^◌, ℕ, Option, Some, None, true, false, length, ap, ◌∙◌, sym, subst, refl, arith}
use Rattle.std.proofs.lemmas.List.{get_or-set_same}
use Rattle.sdd_core.specs.declared.tag.Tag.TheVariants.{None as no_tag}
use Rattle.sdd_participants.specs.Slab.{IsEmptyAt, IsFull}
use Rattle.sdd_participants.specs.declared.standing.CellContents.{CellContents}
use Rattle.sdd_space.specs.CallerId.{CallerId, IsExact, IsSeated}
use Rattle.sdd_space.specs.Shared.{cell_of}
use Rattle.sdd_world_model.specs.World.{World}
use Rattle.sdd_world_model.specs.WorldChanges.{cell_closed, held_in, nulled, spilled, without_cell}
use Rattle.sdd_lists.specs.Filling.{AddsOnto}
use Rattle.sdd_lists.specs.Stack.{cell_in}
use Rattle.sdd_lists.proofs.FreshLinks.{freed-again, only-one}
use Rattle.sdd_lists.proofs.MoreWaiting.{grows-not, grows-spilled}
use Rattle.sdd_lists.proofs.Refusals.{full-of}
use Rattle.sdd_bag.specs.Storages.{StorageName}
use Rattle.sdd_bag.specs.Overflow.{LiesOn, RefusesStorage}
use Rattle.sdd_bag.proofs.EntryStandings.{few-kept, lies-beside}
use Rattle.sdd_bag.proofs.Unmoved.{full-one, moves-on, still}
use Rattle.sdd_bag.proofs.bag.Bag.add_storage.Goals as goal

pub push_storage-requires : goal.push_storage-requires
push_storage-requires g c =
    let shown = g.B.Shelf.shown in let len = g.row.ARRAY_LEN in let w = g.S.Caller.world c.args.s.now in
    let l : ℕ = cell_of c.in-Ok.cell in let e = c.requires.exact in let o = c.args.self.now.overflow in let es = c.requires.lies.0 in
    let at0 = c.has_slot-free.ensures.undisturbed.caller in let at1 = c.in-Ok.ensures.undisturbed.caller ∙ at0 in
    let same = (c.has_slot-free.ensures.exact e).1 in
    let made = c.in-Ok.ensures.exact (subst (λ (s : CallerId). IsExact s) (sym at0) e) in
    let free : IsEmptyAt w.cells l = subst (λ (x : World _). IsEmptyAt x.cells l) same made.0 in
    let world1 : g.S.Caller.world c.null.new.s ≡ nulled w l = made.1 ∙ ap (λ (x : World _). nulled x l) same in
    let here = subst (λ (x : World _). LiesOn shown len x es o) (sym world1) (lies-beside shown len w l es o free c.requires.lies.1) in
    let many = c.values_fit_slots.ensures.many e ∙ sym (c.slots.ensures.exact e) in
    let few : length o.places < 2 ^ 80 =
    few-kept shown len w es o c.slots.result c.self.invariant.1 many (omega (arith, c.slots.type_inv)) c.requires.lies.1 in
    let cells = ap (λ (s : CallerId). s.home.cells) at1 in (
      search rules,
      (
        subst (λ (s : CallerId). IsSeated s) (sym at1) c.requires.seated,
        (
          c.requires.home ∙ sym cells,
          (
            c.in-Ok.ensures.home ∙ ap (λ (s : CallerId). s.home.cells) (at0 ∙ sym at1),
            (
              c.requires.reader ∙ ap (λ (s : CallerId). s.reader) (sym at1),
              (subst (λ (s : CallerId). IsExact s) (sym at1) e, ((es, here), (c.requires.full, few))),
            ),
          ),
        ),
      ),
    )

pub returns-then-not-free-clause-refused : goal.returns-then-not-free-clause-refused
returns-then-not-free-clause-refused g c =
    let seen = c.has_slot-free.ensures.exact c.requires.exact in
    let no : c.has_slot-free.result ≡ false = c.if-not-free.true in
    let full : IsFull (g.S.Caller.world c.args.s.now).standings =
    full-of _ (λ not. let yes : c.has_slot-free.result ≡ true = seen.0.1 not in let never : false ≡ true = sym no ∙ yes in absurd (cc)) in
    (seen.1, inl (full, refl))

pub returns-in-Err-clause-unmoved : goal.returns-in-Err-clause-unmoved
returns-in-Err-clause-unmoved g c =
    let caller = g.S.Caller.caller in let known = g.S.Caller.known in let shows = g.S.Shows.shows in let own = g.S.Caller.own in
    moves-on caller known shows c.args.s.now c.has_slot-free.new.self c.null.new.s
    (still caller known shows own c.args.s.now c.has_slot-free.new.self c.has_slot-free.ensures.undisturbed)
    (still caller known shows own c.has_slot-free.new.self c.null.new.s c.in-Err.ensures.undisturbed)

pub returns-in-Err-clause-refused : goal.returns-in-Err-clause-refused
returns-in-Err-clause-refused g c =
    let seen = c.has_slot-free.ensures.exact c.requires.exact in
    let yes : c.has_slot-free.result ≡ true = c.if-not-free.false in
    let ex0 = subst (λ (s : CallerId). IsExact s) (sym c.has_slot-free.ensures.undisturbed.caller) c.requires.exact in
    let not = c.in-Err.ensures.exact ex0 in
    let full : IsFull (g.S.Caller.world c.args.s.now).cells = subst (λ (x : World _). IsFull x.cells) seen.1 not.0 in
    (not.2 ∙ seen.1, inr (seen.0.0 yes, full-one (g.S.Caller.world c.args.s.now).cells full, not.1))

pub returns-in-Ok-push_storage-clause-unmoved : goal.returns-in-Ok-push_storage-clause-unmoved
returns-in-Ok-push_storage-clause-unmoved g c =
    let caller = g.S.Caller.caller in let known = g.S.Caller.known in let shows = g.S.Shows.shows in let own = g.S.Caller.own in
    moves-on caller known shows c.args.s.now c.null.new.s c.push_storage.new.s
    (moves-on caller known shows c.args.s.now c.has_slot-free.new.self c.null.new.s
    (still caller known shows own c.args.s.now c.has_slot-free.new.self c.has_slot-free.ensures.undisturbed)
    (still caller known shows own c.has_slot-free.new.self c.null.new.s c.in-Ok.ensures.undisturbed)) c.in-Ok-push_storage.ensures.unmoved

pub returns-in-Ok-push_storage-clause-own : goal.returns-in-Ok-push_storage-clause-own
returns-in-Ok-push_storage-clause-own g c = λ start grown.
    c.in-Ok-push_storage.ensures.own start
    (grows-not (g.S.Caller.own c.args.s.now) _ (c.in-Ok.ensures.undisturbed.own ∙ c.has_slot-free.ensures.undisturbed.own) start grown)

pub returns-in-Ok-push_storage-clause-list : goal.returns-in-Ok-push_storage-clause-list
returns-in-Ok-push_storage-clause-list g c = λ es lies.
    let shown = g.B.Shelf.shown in let len = g.row.ARRAY_LEN in let w = g.S.Caller.world c.args.s.now in
    let l : ℕ = cell_of c.in-Ok.cell in let new = g.S.Caller.world c.push_storage.new.s in let stack = c.args.self.now.overflow.stack in
    let at0 = c.has_slot-free.ensures.undisturbed.caller in let at1 = c.in-Ok.ensures.undisturbed.caller ∙ at0 in
    let same = (c.has_slot-free.ensures.exact c.requires.exact).1 in let p = (g.S.Caller.caller c.args.s.now).place in
    let made = c.in-Ok.ensures.exact (subst (λ (s : CallerId). IsExact s) (sym at0) c.requires.exact) in
    let free : IsEmptyAt w.cells l = subst (λ (x : World _). IsEmptyAt x.cells l) same made.0 in
    let world1 : g.S.Caller.world c.null.new.s ≡ nulled w l = made.1 ∙ ap (λ (x : World _). nulled x l) same in
    let here = subst (λ (x : World _). LiesOn shown len x es c.args.self.now.overflow) (sym world1)
    (lies-beside shown len w l es c.args.self.now.overflow free lies) in
    let got = c.in-Ok-push_storage.ensures.list es here in
    let shelf = got.0 in let storage : StorageName = got.1 in let own : storage.cell ≡ l = got.3 in let fs = got.5 in (
      fs,
      record {
        storage = storage;
        free = subst (λ (k : ℕ). IsEmptyAt w.cells k) (sym own) free;
        home = got.4 ∙ c.in-Ok.ensures.home ∙ ap (λ (s : CallerId). s.home.cells) at0 ∙ sym c.requires.home;
        shelf = shelf;
        shows = got.2;
        adds = subst (λ (k : ℕ). AddsOnto (nulled w k) p (cell_in stack) es shelf new fs) (sym own)
            (subst (λ (x : World _). AddsOnto x p (cell_in stack) es shelf new fs) world1
            (subst (λ (s : CallerId). AddsOnto (g.S.Caller.world c.null.new.s) s.place (cell_in stack) es shelf new fs) at1 got.6));
      },
      got.7,
    )

pub returns-in-Err-push_storage-clause-unmoved : goal.returns-in-Err-push_storage-clause-unmoved
returns-in-Err-push_storage-clause-unmoved g c =
    let caller = g.S.Caller.caller in let known = g.S.Caller.known in let shows = g.S.Shows.shows in let own = g.S.Caller.own in
    moves-on caller known shows c.args.s.now c.push_storage.new.s c.close.new.s
    (moves-on caller known shows c.args.s.now c.null.new.s c.push_storage.new.s
    (moves-on caller known shows c.args.s.now c.has_slot-free.new.self c.null.new.s
    (still caller known shows own c.args.s.now c.has_slot-free.new.self c.has_slot-free.ensures.undisturbed)
    (still caller known shows own c.has_slot-free.new.self c.null.new.s c.in-Ok.ensures.undisturbed)) c.in-Err-push_storage.ensures.unmoved)
    c.close.ensures.unmoved

pub returns-in-Err-push_storage-clause-own : goal.returns-in-Err-push_storage-clause-own
returns-in-Err-push_storage-clause-own g c = λ start grown.
    grows-spilled _ _ c.close.ensures.own start
    (c.in-Err-push_storage.ensures.own start
    (grows-not (g.S.Caller.own c.args.s.now) _ (c.in-Ok.ensures.undisturbed.own ∙ c.has_slot-free.ensures.undisturbed.own) start grown))

pub returns-in-Err-push_storage-clause-refused : goal.returns-in-Err-push_storage-clause-refused
returns-in-Err-push_storage-clause-refused g c =
    let w = g.S.Caller.world c.args.s.now in let l : ℕ = cell_of c.in-Ok.cell in let e = c.requires.exact in
    let seen = c.has_slot-free.ensures.exact e in
    let yes : c.has_slot-free.result ≡ true = c.if-not-free.false in
    let at0 = c.has_slot-free.ensures.undisturbed.caller in let at1 = c.in-Ok.ensures.undisturbed.caller ∙ at0 in
    let at2 = c.in-Err-push_storage.ensures.unmoved.caller ∙ at1 in
    let made = c.in-Ok.ensures.exact (subst (λ (s : CallerId). IsExact s) (sym at0) e) in
    let free : IsEmptyAt w.cells l = subst (λ (x : World _). IsEmptyAt x.cells l) seen.1 made.0 in
    let world1 : g.S.Caller.world c.null.new.s ≡ nulled w l = made.1 ∙ ap (λ (x : World _). nulled x l) seen.1 in
    let not = c.in-Err-push_storage.ensures.refused in
    let closed = c.close.ensures.exact (subst (λ (s : CallerId). IsExact s) (sym at2) e) in
    let place = (g.S.Caller.caller c.push_storage.new.s).place in
    let nothing : CellContents = record { held = None; tag = no_tag } in (
      closed ∙ ap (λ (y : World _). cell_closed y place (cell_of c.in-Err-push_storage.cell)) (not.0 ∙ world1)
          ∙ ap (λ (k : ℕ). cell_closed (nulled w l) place k) c.in-Err-push_storage.ensures.back.0
          ∙ ap (λ (x : Option CellContents). spilled (without_cell (nulled w l) l) place (held_in x)) (get_or-set_same w.cells l (Some nothing) None free.0)
          ∙ freed-again w l free,
      elim not.1 as (λ z. RefusesStorage w c.in-Err-push_storage.refused) [
        | inl full ↦ absurd (seen.0.0 yes (subst (λ (x : World _). IsFull x.standings) world1 full.0))
        | inr full ↦
            let filled : IsFull (nulled w l).cells = subst (λ (x : World _). IsFull x.cells) world1 full.1 in
            inr (
              seen.0.0 yes,
              (λ a b one other. only-one w.cells l nothing filled a one ∙ sym (only-one w.cells l nothing filled b other)),
              full.2,
            )
      ],
    )
