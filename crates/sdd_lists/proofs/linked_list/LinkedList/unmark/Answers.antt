use Rattle.std.proofs.Common.{◌≡◌, ◌≢◌, true, false, sym, ap, ◌∙◌}
use Rattle.sdd_core.specs.declared.tag.Tag.{Tag}
use Rattle.sdd_core.specs.declared.tag.Tag.TheVariants as tag
use Rattle.sdd_space.specs.Shared.{cell_of}
use Rattle.sdd_lists.specs.Marks.{says_marked}
use Rattle.sdd_lists.proofs.MarkedEntries.{exact-by, list-by-answer, queue-by-answer}
use Rattle.sdd_lists.proofs.linked_list.LinkedList.unmark.Goals as goal

plain : tag.None ≢ tag.Both
plain = λ same. absurd (cc)

keeps : (x : Tag) → says_marked x ≡ true → x ≢ tag.Second
keeps x is same = let never : false ≡ true = ap says_marked (sym same) ∙ is in absurd (cc)

pub returns-clause-exact : goal.returns-clause-exact
returns-clause-exact g c = λ e.
    let got = c.unmark_link.ensures.exact e in (
      got.0,
      exact-by g.Self.LinkedList.link (g.S.Caller.world c.args.s.now) (g.S.Caller.world c.unmark_link.new.s) (cell_of c.link_ref.result.now)
          c.args.self.now c.link_ref.ensures.link tag.None plain says_marked c.unmark_link.result got.1,
    )

pub returns-clause-list : goal.returns-clause-list
returns-clause-list g c = λ e cell t es list x rest at is.
    let w = g.S.Caller.world c.args.s.now in
    let new = g.S.Caller.world c.unmark_link.new.s in
    list-by-answer g.Self.LinkedList.link w new (cell_of c.link_ref.result.now) c.args.self.now c.link_ref.ensures.link
    tag.None plain says_marked cell t es list x rest at is c.unmark_link.result (c.unmark_link.ensures.exact e).1

pub returns-clause-queue : goal.returns-clause-queue
returns-clause-queue g c = λ e q es second queue x rest at is.
    let w = g.S.Caller.world c.args.s.now in
    let new = g.S.Caller.world c.unmark_link.new.s in
    queue-by-answer g.Self.LinkedList.link w new (cell_of c.link_ref.result.now) c.args.self.now c.link_ref.ensures.link
    tag.None plain says_marked keeps q es second queue x rest at is c.unmark_link.result (c.unmark_link.ensures.exact e).1
