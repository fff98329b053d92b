use Rattle.std.proofs.Common.{ℕ, [], ◌∷◌, sym, ap, ◌∙◌}
use Rattle.sdd_domain_steps.proofs.CellWords.{named}
use Rattle.sdd_domain_steps.proofs.cells.values.put_down.Goals as goal

pub part_with-requires-clause-inside : goal.part_with-requires-clause-inside
part_with-requires-clause-inside c = let slot : ℕ = c.in_ok-slot.slot in let one = named c.args.word slot (sym c.requires.named ∙ c.in_ok-slot.was) in
    (c.requires.held.1.one slot one).1

pub part_with-requires-clause-quiet : goal.part_with-requires-clause-quiet
part_with-requires-clause-quiet c = let slot : ℕ = c.in_ok-slot.slot in let one = named c.args.word slot (sym c.requires.named ∙ c.in_ok-slot.was) in
    (c.requires.held.1.owns ∙ one, c.requires.quiet.0, c.requires.quiet.1)

pub part_with-requires-clause-told : goal.part_with-requires-clause-told
part_with-requires-clause-told c = let slot : ℕ = c.in_ok-slot.slot in let one = named c.args.word slot (sym c.requires.named ∙ c.in_ok-slot.was) in
    let told = c.requires.held.1.one slot one in (c.requires.held.0, told.0, told.2, told.3)

pub returns-clause-slots : goal.returns-clause-slots
returns-clause-slots c = let slot : ℕ = c.in_ok-slot.slot in
    ap (λ (k : ℕ). k ∷ []) c.part_with.ensures.slot ∙ sym (named c.args.word slot (sym c.requires.named ∙ c.in_ok-slot.was))

pub returns-clause-owner : goal.returns-clause-owner
returns-clause-owner c = λ shared has. let slot : ℕ = c.in_ok-slot.slot in let one = named c.args.word slot (sym c.requires.named ∙ c.in_ok-slot.was) in
    let told = has.one slot one in let own = c.part_with.ensures.owner shared told.0 told.3 in (
      own.0,
      (λ d. record { slot = c.part_with.ensures.slot d; shared = shared; value = own.1 d } ∷ []) ∙ sym told.3,
    )
