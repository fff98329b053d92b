-- Values of a domain's items: what an owner shows is one value, what was moved into a slot last, and an owner that goes
use Rattle.std.specs.Prelude.{◌≡◌, ℕ, ◌-◌, ◌<◌, Bool, true, false, ◌∷◌}
use Rattle.std.proofs.Common.{sym, ap, ◌∙◌}
use base.Stored.{Gv, gnil, gnum, gcons}
use denote.RattleType.{RattleType}
use Rattle.sdd_rights.specs.declared.views.View.{View}
use Rattle.sdd_domain_invariant.specs.Codes.{alive, counted, claimed_word, retired_word}
use Rattle.sdd_domain_invariant.specs.Slots.SlotSteps.{Knew, Retires, one_less}
use Rattle.sdd_domain_invariant.specs.Fractions.FractionSteps.{SeatState, IsNewest, undrawing, remembering, untold}
use Rattle.sdd_shared_values.specs.SharedValues.{showing}
use Rattle.sdd_rights.specs.declared.right.Right.{Right}
use Rattle.sdd_rights.specs.Owner.{one-shown}
use Rattle.sdd_rights.specs.StandingKind.{is_shared}
use Rattle.sdd_rights.specs.Right.{number_of, kind_of}
use Rattle.sdd_domain_steps.specs.Items.{HasValue}

abbrev rest_of : Gv → Gv
rest_of gnil = gnil
rest_of (gnum n) = gnil
rest_of (gcons a b) = b

-- a value is known by what it shows
pub one_showing : (R : RattleType) (u v : R.Denot) → showing R u ≡ showing R v → u ≡ v
one_showing R u v e = R.coded.inj u v (ap rest_of e)

pub one_value : (R : RattleType) (right : Right) (u v : R.Denot) → HasValue (showing R u) right → HasValue (showing R v) right → u ≡ v
one_value R right u v a b = one_showing R u v (one-shown (number_of right) (is_shared (kind_of right)) (showing R u) (showing R v) (sym a ∙ b))

-- it moved this into a slot last, for an owner that may be one of several
abbrev pub with_filled : ℕ → Bool → Gv → View → View
with_filled slot shared value v =
    record v { fractions = record v.fractions { filled = record { slot = slot; shared = shared; value = value } ∷ v.fractions.filled } }

-- what it moved into the slot last shows this
abbrev pub WasFilled : ℕ → Gv → View → Type 0
WasFilled slot value v = (shared : Bool) × IsNewest slot shared value v

-- the item of a slot whose last owner goes waits from now on, and what that knew is remembered; its unit is in the bank
abbrev pub LetsWait : ℕ → SeatState → ℕ → SeatState → Type 0
LetsWait slot me y me' = (v : View) × Retires slot (undrawing me.0) y v × (me'.0 ≡ remembering v) × (me'.1 ≡ me.1)

-- other owners of it stay, which are counted
pub record LeavesOthers (slot : ℕ) (me me' : SeatState) : Type 0 where
  pub word : ℕ
  pub counted : counted word ≡ 1
  pub several : 1 < alive word
  pub seat : me' ≡ (untold (one_less slot (word - 1) (undrawing me.0)), me.1)
  pub knew : Knew slot me.0 word

-- an owner goes, which is one of several or not, as the last one or beside others
abbrev pub LetsOneGo : ℕ → Bool → Bool → SeatState → SeatState → Type 0
LetsOneGo slot shared true me me' = LetsWait slot me (retired_word shared) me' × (shared ≡ true → Knew slot me.0 (claimed_word true))
LetsOneGo slot shared false me me' = LeavesOthers slot me me'
