use Rattle.sdd_examples.proofs.programs.pass_a_value.Goals as goal

pub returns : goal.returns
returns g c = let item = c.make_and_retire.ensures in rw item.2 (c.items_pass.ensures.one _ _ item.0 c.args.value c.requires.place item.1 c.requires.few)
