use Rattle.std.proofs.Common.{refl, ◌≡◌, false, true}
use Rattle.sdd_bag.proofs.Cursors.{begins}
use Rattle.sdd_bag.proofs.bag.Bag.iter_mut.Goals as goal

pub returns-then-is_guarded : goal.returns-then-is_guarded
returns-then-is_guarded g c =
    ((refl, (λ w. tt), refl), record { rests = tt; begun = ((c.if-is_guarded.ensures.exact c.requires.exact).0 refl, refl); bag = tt; space = tt; given = tt })

pub returns : goal.returns
returns g c =
    let shelves = c.shelves-shelves.ensures in (
      (refl, (λ w. refl), tt),
      record {
        rests = tt;
        begun = (
          (λ guarded. let never : false ≡ true = (c.if-is_guarded.ensures.exact c.requires.exact).1 guarded in absurd (cc)),
          begins g.B.Shelf.shown g.S.Caller.caller g.S.Caller.world c.args.self c.shelves-shelves.result c.new.result c.args.s.now shelves.space
              c.requires.exact shelves.home c.requires.bag c.lies_in_order.ensures shelves.list,
        );
        bag = (refl, refl);
        space = shelves.space;
        given = refl;
      },
    )
