-- The memory of a plot, and of the values that is founded on it
use Rattle.std.specs.Prelude.{◌≡◌, ℕ}
use denote.RawPtr.{Ptr}
use Rattle.sdd_values.specs.declared.uninit_block.Freeable.{Freeable}
use Rattle.sdd_shared_values.specs.declared.vacant_values.VacantValues.{VacantValues}
use Rattle.sdd_shared_values.specs.declared.shared_values.SharedValues.{SharedValues}

-- this is the right to free the memory of so many places from there on, which came from that allocator
pub record Frees {T A : Type 0} (ptr : Ptr) (count : ℕ) (alloc : A) (hold : Freeable T A) : Type 0 where
  pub place : hold.ptr ≡ ptr
  pub size : hold.len ≡ count
  pub from : hold.alloc ≡ alloc

-- the right to free the memory of the plot
abbrev pub IsHoldOf : {T A : Type 0} → VacantValues T → A → Freeable T A → Type 0
IsHoldOf plot alloc hold = Frees plot.ptr plot.size alloc hold

-- the right to free the memory of the values
abbrev pub IsHoldOfValues : {T F A : Type 0} → SharedValues T F → A → Freeable T A → Type 0
IsHoldOfValues values alloc hold = Frees values.ptr values.size alloc hold

-- the values's places are those of the plot
pub record IsOn {T F : Type 0} (plot : VacantValues T) (values : SharedValues T F) : Type 0 where
  pub place : values.ptr ≡ plot.ptr
  pub gamma : values.gamma ≡ plot.gamma
  pub size : values.size ≡ plot.size
