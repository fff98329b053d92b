-- What a fraction and a section own.
use Rattle.std.specs.Prelude.{ℕ, Option, None, Some, List, [], ◌∷◌}
use base.FractionLaws.{Counts}
use base.Stored.{Gv, Coded, coded×, coded_ℕ, coded_list, coded_via}
use base.Fml.{Lft, Share, Fml, ftrue, fsep, fex, flent, flft}
use denote.Sharing.{one}
use Rattle.sdd_rights.specs.Units.{units, tokens, gv_coded}
pub use Rattle.sdd_rights.specs.ReadFraction.{agreed_on}
use Rattle.sdd_values.specs.Block.{fraction_coded, IsFreeFor, lasts_in}

-- what a fraction is: units of a number of a ghost map, the lifetime that they agree on, what they show, and the section that they are lent to, if any
pub record FractionContent : Type 0 where
  pub gamma : ℕ
  pub number : ℕ
  pub lifetime : ℕ
  pub shown : Gv
  pub units : ℕ
  pub lent : Option ℕ

abbrev pub content_coded : Coded FractionContent
content_coded = coded_via (coded× coded_ℕ (coded× coded_ℕ (coded× coded_ℕ (coded× gv_coded (coded× coded_ℕ fraction_coded)))))
    (λ (h : FractionContent). (h.gamma, (h.number, (h.lifetime, (h.shown, (h.units, h.lent))))))
    (λ x y e i. record { gamma = (e i).0; number = (e i).1.0; lifetime = (e i).1.1.0; shown = (e i).1.1.1.0; units = (e i).1.1.1.1.0; lent = (e i).1.1.1.1.1 })

abbrev pub contents_coded : Coded (List FractionContent)
contents_coded = coded_list content_coded

-- n units of the number i of the ghost map γ, with as many of the lifetime's token
abbrev pub part : ℕ → ℕ → ℕ → Gv → ℕ → Fml
part γ i a g n = fsep (units γ i (agreed_on a g) n) (tokens a n)

-- what comes back when the section t has ended
abbrev pub owed : ℕ → ℕ → ℕ → Fml
owed t a n = fex Share (λ e. fex (Counts 63 e n) (λ _. flent (t ∷ []) (flft (a ∷ []) e)))

abbrev pub lent_out : ℕ → ℕ → ℕ → Fml
lent_out t a n = fsep (lasts_in t a) (owed t a n)

-- the tokens, or what stands for them while they are lent
abbrev pub tokens_of : Option ℕ → ℕ → ℕ → Fml
tokens_of None a n = tokens a n
tokens_of (Some t) a n = lent_out t a n

abbrev pub holding : FractionContent → Fml
holding h = fsep (units h.gamma h.number (agreed_on h.lifetime h.shown) h.units) (tokens_of h.lent h.lifetime h.units)

abbrev pub holdings : List FractionContent → Fml
holdings [] = ftrue
holdings (h ∷ hs) = fsep (holding h) (holdings hs)

-- once a section has ended: what was lent to it is lent no more
abbrev pub unlent : FractionContent → FractionContent
unlent h = record h { lent = None }

abbrev pub settled : List FractionContent → List FractionContent
settled [] = []
settled (h ∷ hs) = unlent h ∷ settled hs

-- none is lent to another section than t
abbrev pub AllFreeFor : ℕ → List FractionContent → Type 0
AllFreeFor t [] = Unit {0}
AllFreeFor t (h ∷ hs) = IsFreeFor t h.lent × AllFreeFor t hs

-- what a `&` to a section has: while that lasts, so does the section
abbrev pub section_shares : ℕ → Lft → Fml
section_shares t = one (λ q. flft (t ∷ []) q)
