-- What a `GhostKeys` and a `Fraction` own: entries under one name, a key for each number.
use Rattle.std.specs.Prelude.{ℕ, ◌^◌, ◌≤◌, Bool, List, [], ◌∷◌}
use Rattle.std.specs.Coded.{coded_bool}
use base.Fraction.{full_share}
use base.FractionLaws.{Counts}
use base.Stored.{Gv, gnil, Coded, coded×, coded_ℕ, coded_list, coded_via}
use base.Fml.{Lft, Share, Fml, fsep, fex, flft}
use types.Keyed.{entry, entries_from}
use denote.Sharing.{one, beside}
use Rattle.atomic_table.specs.Seated.{TableId, table_id_coded, halved, itself}

abbrev pub gv_coded : Coded Gv
gv_coded = itself

-- which ghost map, and for how many numbers it is meant; or, for the slots of a domain, the ghost map of their places, how many there are, and whose they
-- are: the
-- domain's table, which is in the list then; or the same, without a ghost map, for its cells
pub record GhostName : Type 0 where
  pub name : ℕ
  pub size : ℕ
  pub tables : List TableId
  pub cells : Bool

abbrev pub home_coded : Coded GhostName
home_coded = coded_via (coded× coded_ℕ (coded× coded_ℕ (coded× (coded_list table_id_coded) coded_bool)))
    (λ (h : GhostName). (h.name, (h.size, (h.tables, h.cells))))
    (λ x y e i. record { name = (e i).0; size = (e i).1.0; tables = (e i).1.1.0; cells = (e i).1.1.1 })

-- a share of the number i of the ghost map γ, at the ghost value g
abbrev pub share_of : ℕ → ℕ → Gv → Share → Fml
share_of γ i g q = entry halved γ i (q, g)

-- the share is k units of the 2 ^ 63 that are the whole
abbrev pub IsCount : Share → ℕ → Type 0
IsCount q k = (Counts 63 q k) × (k ≤ 2 ^ 63)

-- k units of the number i
abbrev pub units : ℕ → ℕ → Gv → ℕ → Fml
units γ i g k = fex Share (λ q. fex (IsCount q k) (λ _. share_of γ i g q))

abbrev pub keys_own : ℕ → ℕ → Fml
keys_own γ n = entries_from halved γ n (λ _. (full_share, gnil))

abbrev pub told_coded : {K : Type 0} → Coded K → Coded (ℕ × (K × Gv))
told_coded c = coded× coded_ℕ (coded× c itself)

abbrev pub told : {K : Type 0} → Coded K → ℕ → K → Gv → Gv
told c a kind shown = (told_coded c).code (a, (kind, shown))

-- k units in 2 ^ 63 of the token of the lifetime
abbrev pub tokens : ℕ → ℕ → Fml
tokens a k = fex Share (λ e. fex (Counts 63 e k) (λ _. flft (a ∷ []) e))

abbrev pub fraction_owns : {K : Type 0} → Coded K → ℕ → ℕ → ℕ → ℕ → K → Gv → Fml
fraction_owns c γ i k a kind shown = fsep (units γ i (told c a kind shown) k) (tokens a k)

abbrev pub fraction_shares : {K : Type 0} → Coded K → ℕ → ℕ → ℕ → K → Gv → Lft → Fml
fraction_shares c γ i a kind shown = beside (one (share_of γ i (told c a kind shown))) (one (λ q. flft (a ∷ []) q))
