-- The close of a collector, beside what a lone participant moved into slots: how it begins, and what it is for its world
use Rattle.std.proofs.Common.{◌≡◌, ℕ, ◌<◌, ◌==◌, List, [], Some, None, map, false, sym, refl, ap, ◌∙◌, subst, arith}
use Rattle.std.proofs.lemmas.List.Elements.{filter_passes}
use mathlib.Core.Option.{some}
use mathlib.Core.Logic.{dite}
use native.Mathlib.Decide.{dec_lt}
use lib.ListN.{get_elem?}
use Rattle.sdd_participants.specs.Collecting.{time_without}
use Rattle.sdd_participants.specs.Slab.{entry_at}
use Rattle.sdd_participants.specs.Waiting.{Waiting}
use Rattle.sdd_participants.specs.declared.waiting.LimboEntry.TheVariants.{Item}
use Rattle.sdd_rights.specs.declared.views.PrivateItem.{PrivateItem}
use Rattle.sdd_rights.specs.declared.views.WaitingItem.{WaitingItem}
use Rattle.sdd_domain_invariant.specs.Codes.{waits_for as word_waits_for}
use Rattle.sdd_domain_invariant.specs.Slots.{waits_in}
use Rattle.sdd_domain_invariant.proofs.Sums.{is_same, total_has}
use Rattle.sdd_world_model.specs.Collecting.{is_for, waiting_for}
use Rattle.sdd_world_model.specs.OwnerOrCell.{OwnerOrCell}
use Rattle.sdd_world_model.specs.WorldChanges.{all_reclaimed}
use Rattle.sdd_domain_core.specs.Collectors.{AllWaitFor, BeginsClose, takes_for, waits_for, ends_close as no_more}
use Rattle.sdd_domain_steps.specs.InBags.{KnownWaiting, TellsCollectors, known_waiting}
use Rattle.sdd_domain_steps.specs.Local.{LocalModel, world_of}
use Rattle.sdd_domain_steps.specs.LocalState.{LocalState, word_of}
use Rattle.sdd_domain_steps.specs.WaitingItems.{what_of}
use Rattle.sdd_domain_steps.specs.WordsAndValues.{AreTied}
use Rattle.sdd_domain_core.proofs.LoneCollectorClose.{IsTabled, taken_alike, world_taken}
use Rattle.sdd_domain_steps.proofs.InBags.{begins_close, ends_close, known_once}
use Rattle.sdd_domain_steps.proofs.PrivateTables.{choice_plain, choice_private}

module _ {T J : Type 0} (v : LocalModel T J) (c : ℕ) (t : AreTied v.member v.entries)
    (told : TellsCollectors v.member.limits.slots v.member.collectors v.member.slots.privates) where
  abbrev known : KnownWaiting
  known = known_waiting v.member.slots

  -- the table tells what the words tell
  tabled : (slot : ℕ) → slot < v.member.limits.slots → IsTabled (word_of v.member slot) (entry_at v.member.collectors slot)
  tabled slot low = record {
    named = λ k is. let more = (told.waits slot k).0 is in let same = t.privates slot low k in omega arith;
    none = λ k is. dite (dec_lt 0 (word_waits_for k (word_of v.member slot)))
        (λ more. let same = t.privates slot low k in let there = (told.waits slot k).1 (omega arith) in absurd (let e : None ≡ Some k = sym is ∙ there in cc))
        (λ none. omega arith);
  }

  plainly : (k : ℕ) (x : WaitingItem) → get_elem? v.member.slots.waits k ≡ some x → waits_for v.member c (what_of v.member.limits.slots x) ≡ false
  plainly k x at = let once = known_once v.member.limits.slots known v.member.own.bags.waiting v.member.due t.bags x.slot in
      let one = is_same x.slot x.slot refl in let has = total_has (waits_in x.slot) v.member.slots.waits k x at in
      choice_plain v.member.limits.slots v.member.collectors v.member.slots.privates told c x (omega arith)

  privately : (k : ℕ) (x : PrivateItem) → get_elem? v.member.slots.privates k ≡ some x → waits_for v.member c (Item x.item.slot) ≡ (x.collector == c)
  privately k x at = choice_private v.member.limits.slots v.member.collectors v.member.slots.privates told c k x at

  module _ (m : LocalState J) (begins : BeginsClose c v.member m) (none : v.member.due ≡ []) where
    abbrev looked : ℕ
    looked = m.slots.looked

    abbrev begun : LocalState J
    begun = takes_for c (record v.member { slots = record v.member.slots { closes = Some c; looked = looked } })

    tied_begun : AreTied begun v.entries
    tied_begun = record {
      place = t.place;
      slots = t.slots;
      places = t.places;
      all_cells = t.all_cells;
      long = t.long;
      wide = t.wide;
      plain = t.plain;
      waits = t.waits;
      privates = t.privates;
      kept = t.kept;
      table = t.table;
      jobs = t.jobs;
      bags = begins_close v.member.limits.slots known v.member.own.bags.waiting v.member.due t.bags (waits_for v.member c) c none plainly privately;
      now = t.now;
    }

    -- it stands so from then on
    pub tied_closing : AreTied m v.entries
    tied_closing = subst (λ (y : LocalState J). AreTied y v.entries) (sym begins.member) tied_begun

    -- what it empties then is what waits for the collector in its world
    pub world_closing : (holds : T → List OwnerOrCell) → all_reclaimed holds (world_of (record { member = m; entries = v.entries })) m.place m.due
        ≡ all_reclaimed holds (record (world_of v) { time = time_without (is_for (world_of v) c) (world_of v).time }) v.member.place (waiting_for
        (world_of v) c)
    world_closing holds = ap (λ (y : LocalState J). all_reclaimed holds (world_of (record { member = y; entries = v.entries })) y.place y.due) begins.member
        ∙ (λ d. all_reclaimed holds (world_taken v c tabled told.long t.place d) v.member.place (taken_alike v c tabled told.long t.place d))

-- what was taken out of the bags for a collector waits for it
pub all_taken : {J : Type 0} (c : ℕ) (old m : LocalState J) → BeginsClose c old m → AllWaitFor m c m.due
all_taken c old m begins = subst (λ (y : LocalState _). AllWaitFor y c y.due) (sym begins.member)
    (filter_passes (waits_for old c) (map (λ (w : Waiting). w.what) old.own.bags.waiting))

-- once it closes none any more, it stands as before, where nothing is due
pub tied_ended : {T J : Type 0} (v : LocalModel T J) → AreTied v.member v.entries → v.member.due ≡ [] → AreTied (no_more v.member) v.entries
tied_ended v t none = record {
  place = t.place;
  slots = t.slots;
  places = t.places;
  all_cells = t.all_cells;
  long = t.long;
  wide = t.wide;
  plain = t.plain;
  waits = t.waits;
  privates = t.privates;
  kept = t.kept;
  table = t.table;
  jobs = t.jobs;
  bags = ends_close v.member.limits.slots (known_waiting v.member.slots) v.member.own.bags.waiting v.member.due t.bags none;
  now = t.now;
}
