use Rattle.std.proofs.Common.{◌≡◌, ◌∙◌, ap, sym, ℕ, Option, Some, None, slice_set, unwrap_or}
use Rattle.std.proofs.lemmas.List.{set-set, set-get_or}
use Rattle.sdd_participants.specs.Slab.{Entries}
use Rattle.sdd_participants.specs.declared.standing.Standing.{Standing}
use Rattle.sdd_participants.specs.declared.standing.Standing.TheVariants.{Owned, Raw}
use Rattle.sdd_space.specs.Owned.{slot_of}
use Rattle.sdd_world_model.specs.WorldChanges.{with_standing}
use Rattle.sdd_world_model.specs.World.{World, standing_at}
use Rattle.sdd_space.proofs.laws.comes_back.Goals as goal

-- raw and back is as it was
back : {T : Type 0} (w : World T) (k : ℕ) → standing_at w k ≡ Some Owned → with_standing (with_standing w k Raw) k Owned ≡ w
back w k is =
    ap (λ (ss : Entries Standing). record w { standings = ss })
    (set-set w.standings k (Some Raw) (Some Owned) ∙ ap (λ (s : Option Standing). slice_set w.standings k s) (sym is) ∙ set-get_or w.standings k None)

pub returns-clause-world : goal.returns-clause-world
returns-clause-world g c =
    let w = g.S.Caller.world c.args.s.now in
    let slot : ℕ = slot_of c.args.owner in
    let here : slot_of c.in-Some.owner ≡ slot =
    ap (λ (o : Option ℕ). unwrap_or o 0) (sym c.in-Some.ensures.slot ∙ c.into_raw-ptr.ensures.slot) in
    let out = c.into_raw-ptr.ensures.exact c.requires.exact in
    let there = (c.in-Some.ensures.exact (rw c.into_raw-ptr.ensures.undisturbed.caller c.requires.exact)).1 in
    there
    ∙ ap (λ (k : ℕ). with_standing (g.S.Caller.world c.into_raw-ptr.new.s) k Owned) here
    ∙ ap (λ (u : World _). with_standing u slot Owned) out
    ∙ back w slot (c.into_raw-ptr.ensures.owned c.requires.exact)
