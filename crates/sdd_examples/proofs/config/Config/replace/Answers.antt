use Rattle.std.proofs.Common.{ℕ}
use Rattle.sdd_space.specs.CallerId.{IsExact}
use Rattle.sdd_space.specs.Shared.{slot_of}
use Rattle.sdd_examples.specs.Config.{cell_of}
use Rattle.sdd_examples.proofs.ConfigReplacement.{replaces}
use Rattle.sdd_examples.proofs.config.Config.replace.Goals as goal

pub returns-clause-exact : goal.returns-clause-exact
returns-clause-exact g c = λ exact slot owners old set.
    let caller = g.S.Caller.caller in let world = g.S.Caller.world in
    let next : ℕ = slot_of c.in_ok-next.next in
    let make = c.in_ok-next.ensures in let swap = c.swap-before.ensures in let release = c.release.ensures in
    let made = make.exact exact in
    let law = c.shared_is_shown.ensures in
    let first : IsExact (caller c.new.new.s) = rw make.undisturbed.caller exact in
    let same : IsExact (caller c.shared_is_shown.new.s) = rw law.same first in
    let swapped = rw (c.in-Some.is, law.same) at (swap.exact same) in
    let second : IsExact (caller c.swap-before.new.s) = rw swap.undisturbed.caller same in
    let gone = rw (swap.undisturbed.caller, law.same, make.undisturbed.caller) at (release.released second) in
    let third : IsExact (caller c.release.new.s) = rw release.unmoved.caller second in
    let put : g.S.Shows.shows c.shared_is_shown.new.s next c.args.value = rw law.same ((law.shown first c.args.value).0 make.shown) in
    let shown = (g.met.S.Caller.shows_is_value c.release.new.s third next c.args.value).0
    (release.unmoved.shown next c.args.value (swap.undisturbed.shown next c.args.value put)) in
    let done =
    replaces (world c.args.s.now) (caller c.args.s.now).place (cell_of c.args.self.now) slot owners next old c.args.value set made.0
    (world c.new.new.s) (world c.swap-before.new.s) (world c.release.new.s) (slot_of c.in-Some.owner) c.swap-before.result.1
    made.1 swapped.0 swapped.1 gone.world shown in
    (next, made.0, done.0, done.1)
