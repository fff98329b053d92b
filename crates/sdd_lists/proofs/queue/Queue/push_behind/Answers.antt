use Rattle.std.proofs.Common.{◌≡◌, inl, inr, ℕ, ◌∙◌, ap, sym, refl, true, false, Some, None, subst}
use Rattle.sdd_world_model.specs.World.{World}
use Rattle.sdd_space.specs.CallerId.{CallerId, IsExact}
use Rattle.sdd_space.specs.Shared.{slot_of}
use Rattle.sdd_world_model.specs.WorldChanges.{nulled}
use Rattle.sdd_core.specs.declared.tag.Tag.TheVariants.{None as no_tag}
use Rattle.sdd_participants.specs.Slab.{IsEmptyAt, IsFull, entry_at}
use Rattle.sdd_world_model.specs.OwnerOrCell.{AreOf}
use Rattle.sdd_space.specs.Refusals.{IsRefusedBy}
use Rattle.sdd_core.specs.declared.refused.Refused.TheVariants.{NoSlot}
use Rattle.sdd_lists.specs.Entries.{holdings_of, link_of, value_of}
use Rattle.sdd_lists.specs.Queue.{IsEnqueued, IsQueue, QueueCells, cells_in}
use Rattle.sdd_lists.proofs.EntryHoldings.{entry-held}
use Rattle.sdd_lists.proofs.FreshLinks.{fresh-apart, fresh-clear, fresh-far, fresh-newest, fresh-queue}
use Rattle.sdd_lists.proofs.MoreWaiting.{grows-not, grows-spilled}
use Rattle.sdd_lists.proofs.Refusals.{full-of, no-cell-or}
use Rattle.sdd_lists.proofs.queue.Queue.push_behind.Goals as goal

-- the entry's link is a cell that was free, so it is in no list
pub returns-in-Ok-push_last-clause-list : goal.returns-in-Ok-push_last-clause-list
returns-in-Ok-push_last-clause-list g c = λ e es second queue last.
    let w = g.S.Caller.world c.args.s.now in
    let q : QueueCells = cells_in c.args.self.now in
    let entry = c.in-Ok.entry in
    let l : ℕ = link_of entry in
    let at0 = c.has_slot-free.ensures.undisturbed.caller in
    let ex0 : IsExact (g.S.Caller.caller c.has_slot-free.new.self) = subst (λ (s : CallerId). IsExact s) (sym at0) e in
    let same = (c.has_slot-free.ensures.exact e).1 in
    let at1 = c.in-Ok.ensures.undisturbed.caller ∙ at0 in
    let ex1 : IsExact (g.S.Caller.caller c.new.new.s) = subst (λ (s : CallerId). IsExact s) (sym at1) e in
    let made = c.in-Ok.ensures.exact ex0 in
    let free : IsEmptyAt w.cells l = subst (λ (x : World _). IsEmptyAt x.cells l) same made.0 in
    let world_u : g.S.Caller.world c.new.new.s ≡ nulled w l = made.1 ∙ ap (λ (x : World _). nulled x l) same in
    let here = subst (λ (x : World _). IsQueue link_of x q es second) (sym world_u) (fresh-queue link_of w l free q es second queue) in
    let clear : entry_at (g.S.Caller.world c.new.new.s).cells l ≡ Some (record { held = None; tag = no_tag }) =
    ap (λ (x : World _). entry_at x.cells l) world_u ∙ fresh-clear link_of w l free in
    let new = g.S.Caller.world c.push_last.new.s in
    let slot = slot_of c.in-Ok-push_last.owner in
    let pushed = c.in-Ok-push_last.ensures.exact ex1 es second here last clear (fresh-far link_of w l free q.oldest no_tag es queue.list)
    (fresh-newest link_of w l free q es second queue) (fresh-apart link_of w l free es queue.list.linked) in record {
      entry = entry;
      value = c.in-Ok.ensures.value;
      link = free;
      queue = subst (λ (x : World _). IsEnqueued link_of x (g.S.Caller.caller c.args.s.now).place q es second slot entry new) world_u
          (subst (λ (s : CallerId). IsEnqueued link_of (g.S.Caller.world c.new.new.s) s.place q es second slot entry new) at1 pushed);
    }

pub returns-then-not-free-clause-refused : goal.returns-then-not-free-clause-refused
returns-then-not-free-clause-refused g c = λ e.
    let seen = c.has_slot-free.ensures.exact e in
    let no : c.has_slot-free.result ≡ false = c.if-not-free.true in
    let full : IsFull (g.S.Caller.world c.args.s.now).standings =
    full-of _ (λ not. let yes : c.has_slot-free.result ≡ true = seen.0.1 not in let never : false ≡ true = sym no ∙ yes in absurd (cc)) in
    (seen.1, inl (full, refl))

pub returns-in-Err-clause-refused : goal.returns-in-Err-clause-refused
returns-in-Err-clause-refused g c = λ e.
    let seen = c.has_slot-free.ensures.exact e in
    let ex0 : IsExact (g.S.Caller.caller c.has_slot-free.new.self) = subst (λ (s : CallerId). IsExact s) (sym c.has_slot-free.ensures.undisturbed.caller) e in
    let yes : c.has_slot-free.result ≡ true = c.if-not-free.false in
    let not = c.in-Err.ensures.exact ex0 in
    (not.2 ∙ seen.1, inr (seen.0.0 yes, subst (λ (x : World _). IsFull x.cells) seen.1 not.0, ap (λ b. b.1) not.1))

pub returns-in-Err-push_last-clause-refused : goal.returns-in-Err-push_last-clause-refused
returns-in-Err-push_last-clause-refused g c = λ e.
    let w = g.S.Caller.world c.args.s.now in
    let seen = c.has_slot-free.ensures.exact e in
    let at0 = c.has_slot-free.ensures.undisturbed.caller in
    let ex0 : IsExact (g.S.Caller.caller c.has_slot-free.new.self) = subst (λ (s : CallerId). IsExact s) (sym at0) e in
    let at1 = c.in-Ok.ensures.undisturbed.caller ∙ at0 in
    let made = c.in-Ok.ensures.exact ex0 in
    let same : g.S.Caller.world c.new.new.s ≡ nulled w (link_of c.in-Ok.entry) = made.1 ∙ ap (λ (x : World _). nulled x (link_of c.in-Ok.entry)) seen.1 in
    let full = (c.in-Err-push_last.ensures.refused (subst (λ (s : CallerId). IsExact s) (sym at1) e)).0 in
    let yes : c.has_slot-free.result ≡ true = c.if-not-free.false in
    absurd (seen.0.0 yes (subst (λ (x : World _). IsFull x.standings) same full))

pub returns-in-Err-push_last-clause-back : goal.returns-in-Err-push_last-clause-back
returns-in-Err-push_last-clause-back g c =
    let at1 = c.in-Ok.ensures.undisturbed.caller ∙ c.has_slot-free.ensures.undisturbed.caller in (
      c.close.ensures.value ∙ ap value_of c.in-Err-push_last.ensures.back.0 ∙ c.in-Ok.ensures.value,
      no-cell-or (g.S.Caller.caller c.args.s.now) c.in-Err-push_last.refused
          (subst (λ (s : CallerId). IsRefusedBy s NoSlot c.in-Err-push_last.refused) at1 c.in-Err-push_last.ensures.back.1),
    )

pub returns-in-Ok-push_last-clause-own : goal.returns-in-Ok-push_last-clause-own
returns-in-Ok-push_last-clause-own g c = λ start grown.
    c.in-Ok-push_last.ensures.own start
    (grows-not (g.S.Caller.own c.args.s.now) _ (c.in-Ok.ensures.undisturbed.own ∙ c.has_slot-free.ensures.undisturbed.own) start grown)

pub returns-in-Err-push_last-clause-own : goal.returns-in-Err-push_last-clause-own
returns-in-Err-push_last-clause-own g c = λ start grown.
    grows-spilled _ _ c.close.ensures.own start
    (c.in-Err-push_last.ensures.own start
    (grows-not (g.S.Caller.own c.args.s.now) _ (c.in-Ok.ensures.undisturbed.own ∙ c.has_slot-free.ensures.undisturbed.own) start grown))

pub push_last-requires-clause-value : goal.push_last-requires-clause-value
push_last-requires-clause-value g c =
    let at1 = c.in-Ok.ensures.undisturbed.caller ∙ c.has_slot-free.ensures.undisturbed.caller in
    let held = entry-held g.T.Item.holds (g.S.Caller.caller c.args.s.now).home c.in-Ok.entry c.args.value c.in-Ok.ensures.value c.requires.value
    (c.in-Ok.ensures.home ∙ ap (λ (s : CallerId). s.home.cells) c.has_slot-free.ensures.undisturbed.caller) in
    subst (λ (s : CallerId). AreOf s.home (holdings_of g.T.Item.holds c.in-Ok.entry)) (sym at1) held
