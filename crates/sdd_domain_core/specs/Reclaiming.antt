-- What a participant reclaims at an opening, and what that gives up
use Rattle.std.specs.Prelude.{[], Bool, true, false}
use Rattle.sdd_participants.specs.EpochState.{nobody}
use Rattle.sdd_participants.specs.Tally.{no_items, one_in_place}
use Rattle.sdd_domain_steps.specs.LocalState.{LocalState}
use Rattle.sdd_domain_steps.specs.Local.{LocalModel}

-- what a retirement leaves as it is
abbrev pub kept_by : {J : Type 0} → LocalState J → LocalState J
kept_by m = record m { own = nobody; known = 0; slots = record m.slots { waits = [] }; words = [] }

abbrev pub kept_of : {T J : Type 0} → LocalModel T J → LocalModel T J
kept_of p = record p { member = kept_by p.member }

-- what reclaiming leaves as it is
abbrev pub rest_of : {T J : Type 0} → LocalModel T J → LocalModel T J
rest_of p = record p {
  member = record (kept_by p.member) {
    tally = no_items;
    slots = record p.member.slots { waits = []; privates = [] };
    due = [];
    jobs = [];
    collectors = [];
  };
}

-- it counts one item more that was dropped in its place
abbrev pub counted_in_place : {T J : Type 0} → LocalModel T J → LocalModel T J
counted_in_place p = record p { member = record p.member { tally = one_in_place p.member.tally } }

-- where that is so
abbrev pub counted_where : {T J : Type 0} → Bool → LocalModel T J → LocalModel T J
counted_where true p = counted_in_place p
counted_where false p = p
