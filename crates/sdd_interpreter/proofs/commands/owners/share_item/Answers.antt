use Rattle.sdd_interpreter.proofs.commands.owners.share_item.Goals as goal

pub returns-clause-owner : goal.returns-clause-owner
returns-clause-owner c = (rw c.ptr_at-ptr.ensures.world at (c.at.ensures.done c.args.slot c.ptr_at-ptr.ensures.slot)).0

pub returns-clause-shared : goal.returns-clause-shared
returns-clause-shared c = (rw c.ptr_at-ptr.ensures.world at (c.at.ensures.done c.args.slot c.ptr_at-ptr.ensures.slot)).1
