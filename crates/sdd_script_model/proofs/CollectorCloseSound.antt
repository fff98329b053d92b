-- What is always true of a state is true after a collector is closed, where no guard is open
use Rattle.sdd_script_model.proofs.Words.{◌≡◌, ℕ, List, [], Some, None, slice_set, refl, sym, ap, ◌∙◌, subst, lt-ltb, arith, Contains, IsPermutation, IsNonDecreasingBy, entry_at, Item, collector_closed, waiting_for, right_to, closes_collector, held_in, IsWhole, AnyGuardOpen, IsPlaceOf, place_at, ItemName, PlaceName, At, holdings_of, ScriptState, OpenSince, holding_at, collector_of, in_world, opening_at, slot_at, NamesWhatGoes, NamesWhatRuns, names_in, IsSound, named_among, IsNullCell, common_steps, CollectorName}
use Rattle.sdd_world_model.proofs.AnyGuardOpen.{guarded}
use Rattle.sdd_script_model.specs.ScriptState.{without_collector}
use Rattle.sdd_script_model.proofs.Lemmas.{LeavesSound, at_home-spent, finishes, moves, collector-spent, some-holding, tells, same-once, some-entry, starts}
use Rattle.sdd_script_model.proofs.CallSound.{open-guard}
use Rattle.sdd_script_model.proofs.StackSound.{IsDatedWithin, dated-all}
use Rattle.sdd_script_model.proofs.WaitingFor.{names-waiting, slots_for}
use Rattle.sdd_script_text.specs.Actions as call
use Rattle.sdd_script_text.specs.declared.answer.Reply.TheVariants as reply

-- ---- a collector is closed

module _ (d : ScriptState) (s : IsSound d) (whole : IsWhole d.world) (p c n : ℕ) (live : IsPlaceOf d.world p)
    (named : collector_of (holding_at d.collectors n) ≡ Some c) (bare : held_in (entry_at d.world.cells c) ≡ None)
    (quiet : AnyGuardOpen d.world → ⊥) (new_dates : List ℕ) where
  abbrev pub after_uncollected : ScriptState
  after_uncollected = record (in_world (without_collector d n) (collector_closed holdings_of d.world p c)) { dates = new_dates }

  -- its cell holds nothing
  null-cell : IsNullCell d.world c
  null-cell =
      let h = some-holding collector_of refl (holding_at d.collectors n) c named in
      let spent = collector-spent d.owners d.cells d.collectors n c h.0 h.1 h.2 (right_to c) in
      let there = some-entry (entry_at d.world.cells c) ((tells d s).alone c (omega (arith, spent, same-once c))).0 in
      (there.0, there.1, ap held_in (sym there.1) ∙ bare)

  pub uncollected-leaves : IsDatedWithin d after_uncollected → LeavesSound d after_uncollected
  uncollected-leaves within =
      let left = slice_set d.collectors n None in
      let h = some-holding collector_of refl (holding_at d.collectors n) c named in
      let m = moves (starts d s whole) (closes_collector d.world p c live quiet null-cell) tt (named_among d.owners d.cells left)
      (collector-spent d.owners d.cells d.collectors n c h.0 h.1 h.2) (λ u never. absurd never) in
      finishes d after_uncollected.world d.owners d.cells left new_dates s m
      (λ u. omega arith) (s.home.owners, s.home.cells, at_home-spent d.world.home d.collectors n s.home.collectors)
      (dated-all d after_uncollected s.stocked m.frames.slots.slots within) p live

-- ---- what the close of a collector answers

module _ (d : ScriptState) (s : IsSound d) (whole : IsWhole d.world) (c : ℕ) (name : PlaceName) (k : CollectorName)
    (named : collector_of (holding_at d.collectors k.0) ≡ Some c) (quiet : AnyGuardOpen d.world → ⊥) where
  -- no guard has a name
  pub no-guard : (g : ℕ) (y : OpenSince) → opening_at d.guards g ≡ Some y → ⊥
  no-guard g y e = quiet (guarded d.world y.place (lt-ltb 0 (place_at d.world y.place).guards (open-guard d s g y e)))

  -- the names found, and sorted
  pub goes-uncollected : (found sorted : List ItemName) → found ≡ names_in d.names (slots_for d s.stocked whole c) → IsPermutation found sorted →
      IsNonDecreasingBy (λ (i : ItemName). i.0) sorted → NamesWhatGoes d (At name (call.CloseCollector k)) reply.Done sorted
  goes-uncollected found sorted is moved up =
      let all = names-waiting d s.stocked whole c found sorted is moved up in
      record {
        ascending = all.0;
        exactly = λ i. (
          (λ there. let was = (all.1 i).0 there in (was.0, (c, named, was.1))),
          (λ h. let same : h.1.0 ≡ c = this h.1.0 h.1.1 in (all.1 i).1 (h.0, subst (λ x. Contains (waiting_for d.world x) (Item (slot_at d i.0))) same h.1.2)),
        );
        unguarded = λ i there g y e. absurd (no-guard g y e);
      } where
        this : (x : ℕ) → collector_of (holding_at d.collectors k.0) ≡ Some x → x ≡ c
        this x e = let both : Some x ≡ Some c = sym e ∙ named in cc

  -- and no job runs
  pub runs-uncollected : NamesWhatRuns d (At name (call.CloseCollector k)) reply.Done []
  runs-uncollected = grind (arith, common_steps)
