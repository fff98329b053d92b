use Rattle.std.proofs.Common.{◌≡◌, length, length-append, arith, ap, sym}
use Rattle.std.proofs.lemmas.List.{append_assoc}
use Rattle.std.specs.Prelude.{filter}
use Rattle.sdd_participants.specs.Bags.{Bags, waiting_of}
use Rattle.sdd_participants.specs.Collecting.{is_kept_for}
use Rattle.sdd_participants.proofs.Collecting.{chosen-waiting, filter-within, length-waiting, rest-waiting}
use Rattle.sdd_participants.proofs.bags.Bags.take_for.Goals as goal

pub pick-requires-2 : goal.pick-requires-2
pick-requires-2 g c =
    let chosen = is_kept_for c.args.collector (g.S.StandingLookup.standings c.args.standings.now) in
    let own = c.self.inside in
    let all : length c.args.self.now.waiting ≡ length (waiting_of own.next.items own.previous.items own.current.items) =
    ap (λ (b : Bags). length b.waiting) (sym c.self.view_is) in
    let picked = ap length c.pick.ensures.picked in
    let both = length-append c.args.bag.now.items (filter chosen own.next.items) in
    omega (
      arith,
      c.requires,
      all,
      length-waiting own.next.items own.previous.items own.current.items,
      picked,
      both,
      filter-within chosen own.next.items,
      c.pick.ensures.reserved.0,
    )

pub pick-requires-3 : goal.pick-requires-3
pick-requires-3 g c =
    let chosen = is_kept_for c.args.collector (g.S.StandingLookup.standings c.args.standings.now) in
    let own = c.self.inside in
    let all : length c.args.self.now.waiting ≡ length (waiting_of own.next.items own.previous.items own.current.items) =
    ap (λ (b : Bags). length b.waiting) (sym c.self.view_is) in
    let picked = ap length c.pick.ensures.picked in
    let both = length-append c.args.bag.now.items (filter chosen own.next.items) in
    let picked_2 = ap length c.pick-2.ensures.picked in
    let both_2 = length-append c.pick.new.to.items (filter chosen own.previous.items) in
    omega (
      arith,
      c.requires,
      all,
      length-waiting own.next.items own.previous.items own.current.items,
      picked,
      both,
      filter-within chosen own.next.items,
      picked_2,
      both_2,
      filter-within chosen own.previous.items,
      c.pick.ensures.reserved.0,
      c.pick-2.ensures.reserved.0,
    )

pub returns-clause-left : goal.returns-clause-left
returns-clause-left g c =
    let chosen = is_kept_for c.args.collector (g.S.StandingLookup.standings c.args.standings.now) in
    let own = c.self.inside in
    rw (← c.self.view_is, c.pick-3.ensures.left, c.pick-2.ensures.left, c.pick.ensures.left)
    (ap (λ w. record { waiting = w; room = own.room }) (sym (rest-waiting chosen own.next.items own.previous.items own.current.items)))

pub returns-clause-taken : goal.returns-clause-taken
returns-clause-taken g c =
    let chosen = is_kept_for c.args.collector (g.S.StandingLookup.standings c.args.standings.now) in
    let own = c.self.inside in
    rw (
      ← c.self.view_is,
      c.pick-3.ensures.picked,
      c.pick-2.ensures.picked,
      c.pick.ensures.picked,
      chosen-waiting chosen own.next.items own.previous.items own.current.items,
    )
    (simp (append_assoc))
