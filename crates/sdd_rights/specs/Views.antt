-- What seats know at first, and what that of an owner knows
use Rattle.std.specs.Prelude.{ℕ, Bool, false, List, [], ◌∷◌, None}
use base.Stored.{Gv}
use Rattle.sdd_rights.specs.declared.views.EpochView.{EpochView}
use Rattle.sdd_rights.specs.declared.views.SlotsView.{SlotsView}
use Rattle.sdd_rights.specs.declared.views.EndedView.{EndedView}
use Rattle.sdd_rights.specs.declared.views.CellKind.{CellKind}
use Rattle.sdd_rights.specs.declared.views.CellsView.{CellsView}
use Rattle.sdd_rights.specs.declared.views.CountsView.{CountsView}
use Rattle.sdd_rights.specs.declared.views.FractionsView.{FractionsView}
use Rattle.sdd_rights.specs.declared.views.PledgesView.{PledgesView}
use Rattle.sdd_rights.specs.declared.views.View.{View}
use Rattle.sdd_rights.specs.declared.views.Sizes.{Sizes}

-- it has no place, of n
abbrev pub nobody : ℕ → EpochView
nobody n = record { all = n; place = 0; state = 0; count = 0; since = 0; known = 0; found = 0; scans = 0; looked = 0; ended = 0; adopts = None }

-- it knows of no place that is barred
abbrev pub none_ended : EndedView
none_ended = record { ended = 0; quiet = 0 }

-- it owns nothing, sees nothing, and no item waits with it
abbrev pub bare : SlotsView
bare = record {
  owns = [];
  drawn = [];
  sees = [];
  waits = [];
  privates = [];
  emptied = [];
  holds = None;
  closes = None;
  looked = 0;
  empties = None;
  left = false;
  over = None;
}

-- it owns these, each with its unit, and that is all
abbrev pub owning_only : List ℕ → SlotsView
owning_only owns = record bare { owns = owns; drawn = owns }

-- it has the right to no cell
abbrev pub no_rights : CellsView
no_rights = record { rights = [] }

-- nothing was made
abbrev pub no_counts : CountsView
no_counts = record { made = 0; gone = 0; in_place = 0; over = 0; registered = 0 }

-- it moves no value and knows of none, and the values' places are of this ghost map
abbrev pub at_rest : ℕ → FractionsView
at_rest gamma = record {
  gamma = gamma;
  links = 0;
  moves = None;
  bank = false;
  founds = false;
  banked = [];
  owns = [];
  sees = [];
  waits = [];
  filled = [];
  counts = no_counts;
}

-- it has nothing pledged
abbrev pub no_pledges : PledgesView
no_pledges = record { ledger = false; founds = false; own = []; booked = [] }

abbrev pub no_sizes : Sizes
no_sizes = record { participants = 0; slots = 0; jobs = 0; cells = 0 }

-- a seat that knows its owners alone
abbrev pub owner_seat : List ℕ → View
owner_seat owns = record {
  sizes = no_sizes;
  epoch = nobody 0;
  places = none_ended;
  slots = owning_only owns;
  cells = no_rights;
  fractions = at_rest 0;
  pledges = no_pledges;
  words = [];
  plain = [];
}

-- the seat of the owner of a slot, which shows this; it may be one of several
abbrev pub owner_of : ℕ → Bool → Gv → View
owner_of slot shared value = record (owner_seat (slot ∷ [])) {
  fractions = record (at_rest 0) { owns = record { slot = slot; shared = shared; value = value } ∷ [] };
}

-- the seat of the right to a cell of this kind
abbrev pub right_to : ℕ → CellKind → View
right_to cell kind = record (owner_seat []) { cells = record { rights = record { cell = cell; kind = kind } ∷ [] } }
