use Rattle.std.proofs.Common.{◌≡◌, ℕ, true, false, is_some, refl, ap, ◌∙◌, sym, subst}
use Rattle.sdd_bag.specs.Bag.{overflow_of}
use Rattle.sdd_bag.specs.Changing.{ChangesEach}
use Rattle.sdd_bag.specs.Overflow.{KeepsPlaces, OverflowParts, spilled_in}
use Rattle.sdd_bag.specs.Primary.{PrimaryParts, held_by}
use Rattle.sdd_bag.specs.Storage.{value_at}
use Rattle.sdd_bag.proofs.Lent.{lies-lent}
use Rattle.sdd_bag.proofs.bag.Bag.for_each_mut.Goals as goal

pub returns-then-is_guarded-clause-lent : goal.returns-then-is_guarded-clause-lent
returns-then-is_guarded-clause-lent g c = ((c.if-is_guarded.ensures.exact c.requires.exact).0 refl, refl, refl)

pub returns-clause-list : goal.returns-clause-list
returns-clause-list g c = λ es lies.
    let Parts : Type 0 = OverflowParts g.row.T.Denot g.row.B.Denot in let inside = c.lend_inside-change.ensures in let new = c.lend_behind.new.self in
    lies-lent g.B.Shelf.shown g.row.ARRAY_LEN (g.S.Caller.world c.args.s.now) es c.args.self.now.overflow new.overflow
    (subst (λ (o : Parts). KeepsPlaces o new.overflow) inside.overflow c.lend_behind.ensures.keeps.overflow)
    (λ k. c.lend_behind.ensures.same k ∙ ap (λ (o : Parts). is_some (value_at o.places k)) inside.overflow) lies

pub returns-clause-bag : goal.returns-clause-bag
returns-clause-bag g c =
    let Parts : Type 0 = OverflowParts g.row.T.Denot g.row.B.Denot in let was = c.requires.bag in
    let same : (k : ℕ) → is_some (value_at c.lend_behind.new.self.overflow.places k) ≡ is_some (value_at c.args.self.now.overflow.places k) =
    λ k. c.lend_behind.ensures.same k ∙ ap (λ (o : Parts). is_some (value_at o.places k)) c.lend_inside-change.ensures.overflow in
    record {
      entries = was.entries;
      lies = returns-clause-list g c was.entries was.lies;
      used = λ none. was.used (λ k near. sym (same k) ∙ none k near);
    }

pub returns-clause-lent : goal.returns-clause-lent
returns-clause-lent g c =
    let Parts : Type 0 = OverflowParts g.row.T.Denot g.row.B.Denot in let inside = c.lend_inside-change in let behind = c.lend_behind in
    let calls = g.F.FnMut in (
      (λ guarded. let never : false ≡ true = (c.if-is_guarded.ensures.exact c.requires.exact).1 guarded in absurd (cc)),
      record {
        between = inside.result;
        inside =
            subst (λ (p : PrimaryParts g.row.T.Denot). ChangesEach calls c.args.change (held_by c.args.self.now.primary) (held_by p) inside.result)
            (sym behind.ensures.keeps.primary) inside.ensures.changed;
        last = behind.result;
        behind =
            subst (λ (o : Parts). ChangesEach calls inside.result (spilled_in o) (overflow_of behind.new.self) behind.result)
            inside.ensures.overflow behind.ensures.changed;
      },
    )
