-- The rule of a domain's words: a record of its parts
use Rattle.std.specs.Prelude.{◌≡◌, ℕ, ◌<◌, List, [], map, length}
use mathlib.Core.Option.{some}
use lib.ListN.{get_elem?}
use Rattle.atomic_table.specs.Table.{State}
use Rattle.sdd_rights.specs.declared.views.EpochView.{EpochView}
use Rattle.sdd_rights.specs.declared.views.SlotsView.{SlotsView}
use Rattle.sdd_rights.specs.declared.views.View.{View}
use Rattle.sdd_rights.specs.declared.views.Sizes.{Sizes}
use Rattle.sdd_domain_invariant.specs.Words.{mark_word}
use Rattle.sdd_domain_invariant.specs.Codes.{codes}
use Rattle.sdd_domain_invariant.specs.Epoch.{EpochInvariant}
use Rattle.sdd_domain_invariant.specs.Slots.{SlotsInvariant, LoneInvariant}
use Rattle.sdd_domain_invariant.specs.Collectors.{CollectorsInvariant}
use Rattle.sdd_rights.specs.Views.{nobody, none_ended, bare, no_rights, at_rest, no_pledges}
use Rattle.sdd_domain_invariant.specs.Slots.SlotSteps.{blank}
use Rattle.sdd_domain_invariant.specs.Epoch.Barred.{AreBarred, AreQuiet}

abbrev pub epoch_of : View → EpochView
epoch_of v = v.epoch

abbrev pub with_epoch : View → EpochView → View
with_epoch v w = record v { epoch = w }

abbrev pub with_both : View → EpochView → SlotsView → View
with_both v w s = record v { epoch = w; slots = s }

-- a seat that knows nothing, but how many of each there are and which ghost map
abbrev pub idle : Sizes → ℕ → View
idle sizes gamma = record {
  sizes = sizes;
  epoch = nobody sizes.participants;
  places = none_ended;
  slots = bare;
  cells = no_rights;
  fractions = at_rest gamma;
  pledges = no_pledges;
  words = blank sizes;
  plain = [];
}

-- the parts that speak of words and of what each participant knows
pub record Parts (sizes : Sizes) (ws : List ℕ) (vs : List View) : Type 0 where
  pub epoch : EpochInvariant sizes ws (map epoch_of vs)
  pub slots : SlotsInvariant codes sizes ws vs
  pub lone : LoneInvariant sizes ws vs
  pub collectors : CollectorsInvariant codes sizes ws vs

module _ {S : Type 0} (sizes : Sizes) (s : State S View) where
  -- what ended places left, and the mark: the word is there; a place that has ended stays so, and a slot that is quiet then
  pub record PlacesPart : Type 0 where
    pub wide : mark_word < length s.words
    pub ended : (j : ℕ) (v : View) → get_elem? s.views j ≡ some v → AreBarred sizes s.words v
    pub quiet : (j : ℕ) (v : View) → get_elem? s.views j ≡ some v → AreQuiet sizes s.words v

  pub record WordInvariant : Type 0 where
    pub parts : Parts sizes s.words s.views
    pub places : PlacesPart
