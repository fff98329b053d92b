use Rattle.std.proofs.Common.{rules, ◌≡◌, ◌∙◌, refl}
use Rattle.sdd_examples.proofs.config.reads_old_and_new.Goals as goal

pub returns : goal.returns
returns c = record {
  read = λ slot owners value set.
      let same : c.at-2.result.world.now ≡ c.args.world.now = search rules in
      let after : c.at-3.result.world.now ≡ c.replace.new.s.world.now = search rules in
      let loaded = c.read-loaded.ensures.set refl slot owners value (rw c.at.ensures.world set) in
      let done = c.in_ok-replace.ensures.exact refl slot owners value (rw same set) in
      let again = c.read.ensures.set refl done.0 1 c.args.next (rw after done.2) in
      (c.copied-old.ensures ∙ loaded, c.copied-still.ensures ∙ loaded, c.copied-new.ensures ∙ again);
}
