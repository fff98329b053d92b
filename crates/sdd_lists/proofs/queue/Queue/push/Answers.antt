use Rattle.std.proofs.Common.{◌≡◌, ◌⊎◌, ◌++◌, ◌∷◌, [], Option, None, Some, false, sym, ap, refl, ◌∙◌, subst}
use Rattle.std.specs.Prelude.{IfErr, IfOk, MatchOption, MatchResult, is_some}
use Rattle.sdd_world_model.specs.World.{World}
use Rattle.sdd_space.specs.CallerId.{CallerId, IsExact}
use Rattle.sdd_core.specs.declared.refused.Refused.TheVariants.{NoCell, NoSlot}
use Rattle.sdd_core.specs.declared.tag.Tag.TheVariants.{None as no_tag}
use Rattle.sdd_participants.specs.Slab.{IsFull}
use Rattle.sdd_lists.specs.Entries.{link_of}
use Rattle.sdd_lists.specs.Ends.{is_spent}
use Rattle.sdd_lists.specs.Lists.{first_slot}
use Rattle.sdd_lists.specs.Queue.{IsQueue, PushesBehind, QueueCells, cells_in}
use Rattle.sdd_lists.specs.Values.{QueueHas}
use Rattle.sdd_lists.proofs.Values.{pushed-answer}
use Rattle.sdd_lists.proofs.queue.Queue.push.Goals as goal

-- what is said where there is none says anything of what isn't there
none-so : {A : Type 0} (P P' : Type 0) (Q R : A → Type 0) (o : Option A) → (P → P') → is_some o ≡ false → MatchOption o P Q → MatchOption o P' R
none-so P P' Q R None so none found = so found
none-so P P' Q R (Some x) so none found = absurd (cc)

pub returns-then-is_some-clause-values : goal.returns-then-is_some-clause-values
returns-then-is_some-clause-values g c = λ e vs has.
    let queue = c.args.self.now in
    let new = g.S.Caller.world c.push_behind_last.new.s in
    let at1 = c.first_in-first.ensures.undisturbed.caller in
    let ex1 = subst (λ (s : CallerId). IsExact s) (sym at1) e in
    let same = c.first_in-first.ensures.world e in
    let here = subst (λ (y : World _). QueueHas y queue vs) (sym same) has in
    subst (λ (y : World _). MatchResult c.push_behind_last.result (λ _. QueueHas new queue (vs ++ c.args.value ∷ [])) (λ _. new ≡ y)) same
    (c.push_behind_last.ensures.values ex1 vs here)

pub returns-clause-list : goal.returns-clause-list
returns-clause-list g c = λ e es second queue.
    let q : QueueCells = cells_in c.args.self.now in
    let new = g.S.Caller.world c.push_behind.new.s in
    let at1 = c.first_in-first.ensures.undisturbed.caller in
    let ex1 = subst (λ (s : CallerId). IsExact s) (sym at1) e in
    let same = c.first_in-first.ensures.world e in
    let here = subst (λ (y : World _). IsQueue link_of y q es second) (sym same) queue in
    let none : is_some c.first_in-first.result ≡ false = sym c.is_some.ensures ∙ c.if-is_some.false in
    let found = c.first_in-first.ensures.exact e es queue.list.linked (record { held = first_slot es; tag = no_tag }) queue.list.begins refl in
    let last = none-so _ _ _ _ c.first_in-first.result (λ empty. ap is_spent empty) none found in
    subst (λ (y : World _). IfOk c.push_behind.result (λ owner. PushesBehind y (g.S.Caller.caller c.args.s.now).place q es second c.args.value owner new)) same
    (subst (λ (s : CallerId). IfOk c.push_behind.result
    (λ owner. PushesBehind (g.S.Caller.world c.first_in-first.new.s) s.place q es second c.args.value owner new)) at1
    (c.push_behind.ensures.list ex1 es second here last))

pub returns-clause-refused : goal.returns-clause-refused
returns-clause-refused g c = λ e es second queue.
    let new = g.S.Caller.world c.push_behind.new.s in
    let at1 = c.first_in-first.ensures.undisturbed.caller in
    let ex1 = subst (λ (s : CallerId). IsExact s) (sym at1) e in
    subst (λ (y : World _). IfErr c.push_behind.result (λ back. (new ≡ y) ×
    (IsFull y.standings × (back.1 ≡ NoSlot) ⊎ ¬ (IsFull y.standings) × IsFull y.cells × (back.1 ≡ NoCell)))) (c.first_in-first.ensures.world e)
    (c.push_behind.ensures.refused ex1)

pub returns-clause-values : goal.returns-clause-values
returns-clause-values g c = λ e vs has.
    let w = g.S.Caller.world c.args.s.now in
    pushed-answer w (g.S.Caller.world c.push_behind.new.s) (g.S.Caller.caller c.args.s.now).place c.args.self.now vs has c.args.value
    (λ back. IsFull w.standings × (back.1 ≡ NoSlot) ⊎ ¬ (IsFull w.standings) × IsFull w.cells × (back.1 ≡ NoCell)) c.push_behind.result
    (returns-clause-list g c e has.0 has.1 has.2) (returns-clause-refused g c e has.0 has.1 has.2)
