use Rattle.sdd_examples.proofs.programs.pass_a_number.Goals as goal

pub returns : goal.returns
returns c = let item = c.make_read_and_retire.ensures in rw item.2 (c.items_pass.ensures.one _ _ item.0 7 c.requires.place item.1 c.requires.few)
