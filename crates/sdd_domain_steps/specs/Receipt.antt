-- What a participant leaves that has ended
use Rattle.std.specs.Prelude.{◌≡◌, ℕ, zero, suc, ◌+◌, ◌-◌, ◌^◌, ◌<◌, ◌≤◌, min, Bool, false, List, [], ◌∷◌, length, map, sum}
use Rattle.sdd_rights.specs.Units as seat
use base.Stored.{Gv}
use Rattle.sdd_rights.specs.declared.views.CountsView.{CountsView}
use Rattle.sdd_atomics.specs.Counts.{witness_of_counts}
use Rattle.sdd_participants.specs.declared.tally.Tally.{Tally}

-- where its domain's slots are numbered, the tally, and whether something waits still
pub record Receipt : Type 0 where
  pub home : seat.GhostName
  pub tally : Tally
  pub waits : Bool

-- a number no longer grows at 2^128 - 1
abbrev pub most_counted : ℕ
most_counted = 2 ^ 128 - 1

abbrev pub capped : ℕ → ℕ
capped n = min n most_counted

-- what is known of so many places that have ended is what the tally tells: of what has gone, what was dropped in its place, and what wasn't
pub record IsTallied (places : ℕ) (tally : Tally) (counts : CountsView) : Type 0 where
  pub over : counts.over ≡ places
  pub made : tally.made ≡ capped counts.made
  pub few : counts.in_place ≤ counts.gone
  pub reclaimed : tally.reclaimed ≡ capped (counts.gone - counts.in_place)
  pub in_place : tally.in_place ≡ capped counts.in_place

-- what its witness knows: the counts of a place that has ended
abbrev pub HasLeft : List Gv → Tally → Type 0
HasLeft views tally = (counts : CountsView) × (views ≡ witness_of_counts counts) × IsTallied 1 tally counts

-- unless it was no longer counted, what was made was reclaimed, or dropped in its place
abbrev pub AddsUp : Tally → Type 0
AddsUp t = t.made < most_counted → t.made ≡ t.reclaimed + t.in_place

-- so many items more were reclaimed
abbrev pub with_reclaimed : ℕ → Tally → Tally
with_reclaimed zero t = t
with_reclaimed (suc n) t = record t { reclaimed = capped (t.reclaimed + suc n) }

-- all of them together
abbrev pub sum_of : List Receipt → Tally
sum_of rs = record {
  made = capped (sum (map (λ (r : Receipt). r.tally.made) rs));
  reclaimed = capped (sum (map (λ (r : Receipt). r.tally.reclaimed) rs));
  in_place = capped (sum (map (λ (r : Receipt). r.tally.in_place) rs));
}

abbrev pub made_in : Receipt → ℕ
made_in r = r.tally.made

abbrev pub reclaimed_in : Receipt → ℕ
reclaimed_in r = r.tally.reclaimed

abbrev pub in_place_in : Receipt → ℕ
in_place_in r = r.tally.in_place

-- the counts of these receipts together: as many places, and what the tallies tell, as far as they count
pub record HasTaken (rs : List Receipt) (counts : CountsView) : Type 0 where
  pub over : counts.over ≡ length rs
  pub made : sum (map made_in rs) < most_counted → counts.made ≡ sum (map made_in rs)
  pub few : counts.in_place ≤ counts.gone
  pub reclaimed : counts.gone < most_counted → counts.gone - counts.in_place ≡ sum (map reclaimed_in rs)
  pub in_place : counts.gone < most_counted → counts.in_place ≡ sum (map in_place_in rs)

-- a receipt whose participant has reclaimed so many items more; where nothing waited it is the same
pub record IsSettled (items : ℕ) (old new : Receipt) : Type 0 where
  pub home : new.home ≡ old.home
  pub tally : new.tally ≡ with_reclaimed items old.tally
  pub over : old.waits ≡ false → new ≡ old

-- the same receipts, whose participants have reclaimed so many items more together
abbrev pub AreSettled : ℕ → List Receipt → List Receipt → Type 0
AreSettled items [] [] = items ≡ 0
AreSettled items [] (new ∷ news) = ⊥
AreSettled items (old ∷ olds) [] = ⊥
AreSettled items (old ∷ olds) (new ∷ news) = (own : ℕ) × (own ≤ items) × IsSettled own old new × AreSettled (items - own) olds news
