-- What the last fractions of slots show, after one step
use Rattle.std.proofs.Common.{◌≡◌, ◌≢◌, ◌⊎◌, inl, inr, ℕ, suc, ◌<◌, ◌≤◌, Bool, true, false, List, [], ◌∷◌, ◌++◌, map, length, get_or, set, sym, refl, ap, ◌∙◌, subst, ⊎_elim, arith, eq-eqb, get_or-set_other, get_or-set_same}
use Rattle.std.specs.Prelude.{Some}
use mathlib.Core.Option.{some}
use mathlib.Core.Logic.{dite}
use native.Mathlib.Decide.{ℕ_discrete}
use lib.ListN.{get_elem?}
use lib.Seq.{set-get_or}
use prog.Atomic.{either}
use base.Stored.{Gv}
use Rattle.atomic_table.specs.Table.{homes_after}
use Rattle.sdd_shared_values.specs.ValueFractions.{FractionContent}
use Rattle.sdd_shared_values.specs.Bank.{IsPart, IsJoined, Leaves, Comes}
use Rattle.sdd_shared_values.specs.Deposits.{units_at, AreDeposits}
use Rattle.sdd_shared_values.specs.declared.value_fraction.ValueFraction.{ValueFraction}
use Rattle.sdd_rights.specs.declared.views.FractionsView.{FractionsView}
use Rattle.sdd_rights.specs.declared.views.View.{View}
use Rattle.sdd_rights.specs.declared.views.Sizes.{Sizes}
use Rattle.sdd_domain_invariant.specs.Words.{IsEpochWord, slot_word, cell_word}
use Rattle.sdd_domain_invariant.specs.Codes.{codes, alive, waiting, full, valued, counted, names, raw_word}
use Rattle.sdd_domain_invariant.specs.Epoch.{HasPlace}
use Rattle.sdd_domain_invariant.specs.Slots.{slot_at}
use Rattle.sdd_domain_invariant.proofs.Codes.{sound}
use Rattle.sdd_domain_invariant.proofs.Collectors.{IsPlain, plain_alive, plain_waiting}
use Rattle.sdd_domain_invariant.proofs.Frame.{each_set, each_snoc}
use Rattle.sdd_domain_invariant.proofs.Sums.{total_two}
use Rattle.sdd_domain_invariant.specs.Fractions.FractionsAtHome.{FractionsAtHome, CarriedFractions, LiesAt, share, Has}
use Rattle.sdd_domain_invariant.specs.Slots.FilledInvariant.{newest}
use Rattle.sdd_domain_invariant.specs.Fractions.BankInvariant.{one_where, offices, deposited, banked, IsBank, BankInvariant}
use Rattle.sdd_domain_invariant.specs.Cells.CellsInvariant.{IsInCell}
use Rattle.sdd_domain_invariant.specs.Fractions.LastFractions.{ShowOnly, IsRaw, IsStored, HidesItem, IsHidden, LastIs, ShowsLast, KnowsStored, KnowsHidden, LastsInvariant}
use Rattle.sdd_domain_invariant.proofs.Cells.{SameCells, SameWords, cells_beside, cells_slot, in_cell_before}
use Rattle.sdd_domain_invariant.proofs.Banks.{with_deposits, banked_then}
use Rattle.sdd_domain_invariant.proofs.Slots.Records.{IsAlike}
use Rattle.sdd_domain_invariant.proofs.Fractions.SlotFractions.{Given, given_lies}

-- ---- deposits
module _ (i : ℕ) (g : Gv) where
  -- where there are no units of the slot there is no deposit of it
  pub none_shown : (γ : ℕ) (ls : List FractionContent) → AreDeposits γ ls → units_at i ls ≡ 0 → ShowOnly i g ls
  none_shown γ [] are none = tt
  none_shown γ (h ∷ hs) are none = (
    λ e. let u = ap (λ (b : _). either b h.units 0) (eq-eqb h.number i e) in let some_units = are.2 in absurd (omega arith),
    none_shown γ hs are.4 (omega arith),
  )

  -- one goes out, or a part of one
  pub shown_leaves : (ls : List FractionContent) (l : FractionContent) (rest : List FractionContent) → Leaves ls l rest → ShowOnly i g ls
      → ShowOnly i g rest × (l.number ≡ i → l.shown ≡ g)
  shown_leaves [] l rest goes show = absurd goes
  shown_leaves (h ∷ hs) l rest goes show = ⊎_elim
      (λ (a : (l ≡ h) × (rest ≡ hs)). (
        subst (ShowOnly i g) (sym a.1) show.1,
        λ e. ap (λ (c : FractionContent). c.shown) a.0 ∙ show.0 (ap (λ (c : FractionContent). c.number) (sym a.0) ∙ e),
      ))
      (λ (r : ((h' : FractionContent) × IsPart h l h' × (rest ≡ h' ∷ hs)) ⊎ ((hs' : List FractionContent) × Leaves hs l hs' × (rest ≡ h ∷ hs'))). ⊎_elim
      (λ (b : (h' : FractionContent) × IsPart h l h' × (rest ≡ h' ∷ hs)). let same = b.1.same in let stays = b.1.stays in (
        subst (ShowOnly i g) (sym b.2)
            ((λ e. ap (λ (c : FractionContent). c.shown) stays ∙ show.0 (ap (λ (c : FractionContent). c.number) (sym stays) ∙ e)), show.1),
        λ e. ap (λ (c : FractionContent). c.shown) same ∙ show.0 (ap (λ (c : FractionContent). c.number) (sym same) ∙ e),
      ))
      (λ (d : (hs' : List FractionContent) × Leaves hs l hs' × (rest ≡ h ∷ hs')). let t = shown_leaves hs l d.0 d.1 show.1 in
      (subst (ShowOnly i g) (sym d.2) (show.0, t.0), t.1)) r) goes

  -- one comes that shows it too, if it is of the slot
  pub shown_comes : (ls : List FractionContent) (l : FractionContent) (more : List FractionContent) → Comes ls l more → ShowOnly i g ls
      → (l.number ≡ i → l.shown ≡ g) → ShowOnly i g more
  shown_comes [] l more comes show mine = subst (ShowOnly i g) (sym comes) (mine, tt)
  shown_comes (h ∷ hs) l more comes show mine = ⊎_elim
      (λ (a : more ≡ l ∷ h ∷ hs). subst (ShowOnly i g) (sym a) (mine, show))
      (λ (r : ((h' : FractionContent) × IsJoined h l h' × (more ≡ h' ∷ hs)) ⊎ ((hs' : List FractionContent) × Comes hs l hs' × (more ≡ h ∷ hs'))). ⊎_elim
      (λ (b : (h' : FractionContent) × IsJoined h l h' × (more ≡ h' ∷ hs)). let sum = b.1.sum in subst (ShowOnly i g) (sym b.2)
      ((λ e. ap (λ (c : FractionContent). c.shown) sum ∙ show.0 (ap (λ (c : FractionContent). c.number) (sym sum) ∙ e)), show.1))
      (λ (d : (hs' : List FractionContent) × Comes hs l hs' × (more ≡ h ∷ hs')). subst (ShowOnly i g) (sym d.2)
      (show.0, shown_comes hs l d.0 d.1 show.1 mine)) r) comes

-- ---- the part
-- the item of the slot is neither stored nor hidden
abbrev pub IsUnstored : Sizes → List ℕ → ℕ → Type 0
IsUnstored sizes ws i = ((shared : Bool) → ¬ (IsStored sizes ws i shared)) × ¬ (IsHidden sizes ws i)

-- if it is stored then, or hidden, it was so before
abbrev pub StaysStored : Sizes → List ℕ → List ℕ → ℕ → Type 0
StaysStored sizes ws ws' i = ((shared : Bool) → IsStored sizes ws' i shared → IsStored sizes ws i shared) × (IsHidden sizes ws' i → IsHidden sizes ws i)

-- no item is stored or hidden
abbrev pub NoneStored : Sizes → List ℕ → Type 0
NoneStored sizes ws = (i : ℕ) → i < sizes.slots → IsUnstored sizes ws i

-- what is stored then or hidden was so before
abbrev pub NoMoreStored : Sizes → List ℕ → List ℕ → Type 0
NoMoreStored sizes ws ws' = (i : ℕ) → i < sizes.slots → StaysStored sizes ws ws' i

-- it knows what each item shows that is stored, or hidden
abbrev KnowsOf : Sizes → List ℕ → FractionsAtHome → View → Type 0
KnowsOf sizes ws hs v = KnowsStored sizes ws hs v × KnowsHidden sizes ws hs v

-- a word hides nothing where its item is neither private nor emptied
pub plain_shows : (x : ℕ) → IsPlain codes x → ¬ (HidesItem x)
plain_shows x plain hides = let some = hides.0 in let a = plain.0 in let b = plain.1 in absurd (omega arith)

-- or where it has an owner
pub owned_shows : (x : ℕ) → 0 < alive x → ¬ (HidesItem x)
owned_shows x lives = plain_shows x (plain_alive codes sound x lives)

-- or where it waits for no collector
pub waiting_shows : (x : ℕ) → 0 < waiting x → ¬ (HidesItem x)
waiting_shows x waits = plain_shows x (plain_waiting codes sound x waits)

-- or where it has no value
pub empty_shows : (x : ℕ) → valued x ≡ 0 → ¬ (HidesItem x)
empty_shows x empty hides = let one = hides.1 in absurd (omega arith)

module _ (sizes : Sizes) (ws : List ℕ) where
  -- while all words are 0 none is
  pub none_stored : ((j : ℕ) → get_or ws j 0 ≡ 0) → NoneStored sizes ws
  none_stored zeros i low = let z = zeros (slot_word sizes i) in (
    λ shared is. ⊎_elim
        (λ (a : IsRaw sizes ws i × (shared ≡ false)). let r = a.0 in absurd (omega arith))
        (λ (b : IsInCell sizes ws i × (counted (slot_at sizes ws i) ≡ one_where shared)). let c = b.0 in let n = c.2 in
        let e = ap (names i) (zeros (cell_word c.0)) ∙ sound.null i in absurd (omega arith)) is,
    empty_shows (slot_at sizes ws i) (sound.empty (slot_at sizes ws i) (ap full z ∙ sound.free.2)),
  )

  -- where words of cells stay, and the slot's word is raw only if it was, and counts its owners in cells as before
  pub stored_by : (ws' : List ℕ) → SameCells sizes ws ws' → (i : ℕ) (shared : Bool) → (IsRaw sizes ws' i → IsRaw sizes ws i)
      → (IsInCell sizes ws i → counted (slot_at sizes ws' i) ≡ counted (slot_at sizes ws i)) → IsStored sizes ws' i shared → IsStored sizes ws i shared
  stored_by ws' same i shared raw kind is = ⊎_elim
      (λ (a : IsRaw sizes ws' i × (shared ≡ false)). inl (raw a.0, a.1))
      (λ (b : IsInCell sizes ws' i × (counted (slot_at sizes ws' i) ≡ one_where shared)). let c = in_cell_before sizes ws ws' same i b.0 in
      inr (c, sym (kind c) ∙ b.1)) is

  -- where the slot's word stays too
  stored_still : (ws' : List ℕ) → SameCells sizes ws ws' → (i : ℕ) → slot_at sizes ws' i ≡ slot_at sizes ws i → StaysStored sizes ws ws' i
  stored_still ws' same i e = (λ shared. stored_by ws' same i shared (λ is. sym e ∙ is) (λ _. ap counted e), subst HidesItem e)

  pub stored_kept : (ws' : List ℕ) → SameWords sizes ws ws' → NoMoreStored sizes ws ws'
  stored_kept ws' same i near = stored_still ws' same.cells i (same.slots i)

  -- a word of the count, the lock or a place changes
  pub stored_beside : (j y : ℕ) → IsEpochWord sizes j → NoMoreStored sizes ws (set ws j y)
  stored_beside j y word i near = let low = word.1 in stored_still (set ws j y) (cells_beside sizes ws j y word) i
      (get_or-set_other ws j (slot_word sizes i) y 0 (λ e. omega arith))

  -- a word past the slots' changes
  pub stored_past : (other y : ℕ) → sizes.slots ≤ other → NoMoreStored sizes ws (set ws (slot_word sizes other) y)
  stored_past other y past i near = stored_still (set ws (slot_word sizes other) y) (cells_slot sizes ws other y) i
      (get_or-set_other ws (slot_word sizes other) (slot_word sizes i) y 0 (λ e. omega arith))

  -- no word changes
  pub stored_as_is : NoMoreStored sizes ws ws
  stored_as_is i near = (λ _ is. is, λ is. is)

  -- a word is looked at
  pub stored_same : (j : ℕ) → NoMoreStored sizes ws (set ws j (get_or ws j 0))
  stored_same j = subst (NoMoreStored sizes ws) (sym (set-get_or ws j 0)) stored_as_is

  -- a slot's word changes: another item is stored as before
  pub stored_other : (slot y : ℕ) → (i : ℕ) → i < sizes.slots → i ≢ slot → StaysStored sizes ws (set ws (slot_word sizes slot) y) i
  stored_other slot y i near ne = stored_still (set ws (slot_word sizes slot) y) (cells_slot sizes ws slot y) i
      (get_or-set_other ws (slot_word sizes slot) (slot_word sizes i) y 0 (λ e. ne (omega arith)))

  -- and no more are hidden, where its own is only if it was
  pub hidden_set : (slot y : ℕ) → slot_word sizes slot < length ws → (HidesItem y → HidesItem (slot_at sizes ws slot)) → (i : ℕ) → i < sizes.slots
      → IsHidden sizes (set ws (slot_word sizes slot) y) i → IsHidden sizes ws i
  hidden_set slot y low hid i near is = dite (ℕ_discrete i slot)
      (λ e. subst (IsHidden sizes ws) (sym e)
      (hid (subst HidesItem (get_or-set_same ws (slot_word sizes slot) y 0 low) (subst (IsHidden sizes (set ws (slot_word sizes slot) y)) e is))))
      (λ ne. (stored_other slot y i near ne).1 is)

  module _ (slot y : ℕ) (low : slot_word sizes slot < length ws) (ne : y ≢ raw_word 0) where
    abbrev after : List ℕ
    after = set ws (slot_word sizes slot) y

    here : slot_at sizes after slot ≡ y
    here = get_or-set_same ws (slot_word sizes slot) y 0 low

    -- its own isn't out as raw; and isn't stored where no cell holds an owner of it, nor hidden where its word hides nothing
    pub not_stored : ¬ (HidesItem y) → ¬ (IsInCell sizes ws slot) → IsUnstored sizes after slot
    not_stored shows free = (
      λ shared is. ⊎_elim (λ (a : IsRaw sizes after slot × (shared ≡ false)). ne (sym here ∙ a.0))
          (λ (b : IsInCell sizes after slot × (counted (slot_at sizes after slot) ≡ one_where shared)).
          free (in_cell_before sizes ws after (cells_slot sizes ws slot y) slot b.0)) is,
      λ is. shows (subst HidesItem here is),
    )

    -- so no more are, where its owners in cells are counted as before, and it is hidden only if it was
    pub stored_hid : (HidesItem y → HidesItem (slot_at sizes ws slot)) → (IsInCell sizes ws slot → counted y ≡ counted (slot_at sizes ws slot))
        → NoMoreStored sizes ws after
    stored_hid hid kind i near = dite (ℕ_discrete i slot)
        (λ e. subst (StaysStored sizes ws after) (sym e) (
          λ shared. stored_by after (cells_slot sizes ws slot y) slot shared (λ raw. absurd (ne (sym here ∙ raw))) (λ c. ap counted here ∙ kind c),
          λ is. hid (subst HidesItem here is),
        ))
        (λ apart. stored_other slot y i near apart)

    -- as where its word hides nothing
    pub stored_set : ¬ (HidesItem y) → (IsInCell sizes ws slot → counted y ≡ counted (slot_at sizes ws slot)) → NoMoreStored sizes ws after
    stored_set shows = stored_hid (λ hides. absurd (shows hides))

-- the one is the bank's only if the other is, and has the same then
abbrev pub KeepsBank : View → View → Type 0
KeepsBank v w = IsBank w → IsBank v × (banked w ≡ banked v)

-- one that isn't the bank's
pub no_bank : (v w : View) → w.fractions.bank ≡ false → KeepsBank v w
no_bank v w none is = let e : false ≡ true = sym none ∙ is in absurd cc

-- two aren't the bank's
pub one_bank : (γ : ℕ) (sizes : Sizes) (ws : List ℕ) (vs : List View) → BankInvariant γ sizes ws vs → (j k : ℕ) (v w : View) → j ≢ k
    → get_elem? vs j ≡ some v → get_elem? vs k ≡ some w → IsBank v → ¬ (IsBank w)
one_bank γ sizes ws vs p j k v w apart e e' is is' = let two = total_two offices vs j k v w apart e e' in let a = ap one_where is in
    let b = ap one_where is' in let few = p.single in omega arith

-- one that knows the same of fractions
pub alike_bank : (v w : View) → IsAlike v w → KeepsBank v w
alike_bank v w same is = (
  ap (λ (s : FractionsView). s.bank) (sym same.0) ∙ is,
  ap (λ (s : FractionsView). map (deposited s.gamma) s.banked) same.0,
)

-- one that moved in the same last
knows_alike : (sizes : Sizes) (ws : List ℕ) (hs : FractionsAtHome) (v w : View) → w.fractions.filled ≡ v.fractions.filled → KnowsOf sizes ws hs v
    → KnowsOf sizes ws hs w
knows_alike sizes ws hs v w same old = (
  λ i shared z low is l. ap (newest i) same ∙ old.0 i shared z low is l,
  λ i z low is l. let k = old.1 i z low is l in (k.0, ap (newest i) same ∙ k.1),
)

module _ (sizes : Sizes) (ws : List ℕ) (vs : List View) (hs : FractionsAtHome) (part : LastsInvariant sizes ws vs hs) where
  abbrev n : ℕ
  n = sizes.participants

  -- what each participant knew
  knew : n ≡ 1 → (j : ℕ) (u : View) → get_elem? vs j ≡ some u → HasPlace u.epoch → KnowsOf sizes ws hs u
  knew one j u e live = (part.stored one j u e live, part.hidden one j u e live)

  -- a new seat without a place; if it is the bank's it has nothing yet
  pub lasts_more : (t : View) → (IsBank t → banked t ≡ []) → ¬ (HasPlace t.epoch) → LastsInvariant sizes ws (vs ++ t ∷ []) hs
  lasts_more t empty none = record {
    alike = part.alike;
    banks = each_snoc (λ u. IsBank u → ShowsLast sizes hs u) vs t part.banks (λ is i z low last. subst (ShowOnly i z.content.shown) (sym (empty is)) tt);
    stored = λ one. each_snoc (λ u. HasPlace u.epoch → KnowsStored sizes ws hs u) vs t (part.stored one) (λ live. absurd (none live));
    hidden = λ one. each_snoc (λ u. HasPlace u.epoch → KnowsHidden sizes ws hs u) vs t (part.hidden one) (λ live. absurd (none live));
  }

  module _ (id : ℕ) (v : View) (at : get_elem? vs id ≡ some v) where
    -- what lies at home lay there, or isn't a last one and shows what that does; and it moved in what it had
    pub lasts_kept : (ws' : List ℕ) (w : View) (hs' : FractionsAtHome)
        → ((i p : ℕ) (y : ValueFraction) → i < sizes.slots → p ≤ n → LiesAt n hs' i p y
        → LiesAt n hs i p y ⊎ ((p ≢ n) × ((z : ValueFraction) → LastIs sizes hs i z → y.content.shown ≡ z.content.shown)))
        → KeepsBank v w → w.fractions.filled ≡ v.fractions.filled → (n ≡ 1 → HasPlace w.epoch → HasPlace v.epoch ⊎ NoneStored sizes ws)
        → NoMoreStored sizes ws ws' → LastsInvariant sizes ws' (set vs id w) hs'
    lasts_kept ws' w hs' lies bank filled had raws =
        let last : (i : ℕ) (z : ValueFraction) → i < sizes.slots → LastIs sizes hs' i z → LastIs sizes hs i z
        = λ i z low l. ⊎_elim (λ (a : LastIs sizes hs i z). a)
        (λ (b : (n ≢ n) × ((y : ValueFraction) → LastIs sizes hs i y → z.content.shown ≡ y.content.shown)). absurd (b.0 refl)) (lies i n z low
        (omega arith) l) in
        let still : (u : View) → KnowsOf sizes ws hs u → KnowsOf sizes ws' hs' u = λ u old. (
          (λ i shared z low is l. old.0 i shared z low ((raws i low).0 shared is) (last i z low l)),
          (λ i z low is l. old.1 i z low ((raws i low).1 is) (last i z low l)),
        ) in
        let none_still : (u : View) → NoneStored sizes ws → KnowsOf sizes ws' hs' u = λ u none. (
          (λ i shared z low is l. absurd ((none i low).0 shared ((raws i low).0 shared is))),
          (λ i z low is l. absurd ((none i low).1 ((raws i low).1 is))),
        ) in
        let knows = λ (one : n ≡ 1). each_set (λ u. HasPlace u.epoch → KnowsOf sizes ws' hs' u) (λ u. HasPlace u.epoch → KnowsOf sizes ws' hs' u) vs id w
        (λ live. ⊎_elim (λ (was : HasPlace v.epoch). knows_alike sizes ws' hs' v w filled (still v (knew one id v at was)))
        (λ (none : NoneStored sizes ws). none_still w none) (had one live))
        (λ j u _ e live. still u (knew one j u e live)) in
        record {
          alike = λ i p y z low near l lz. ⊎_elim (λ (a : LiesAt n hs i p y). part.alike i p y z low near a (last i z low lz))
              (λ (b : (p ≢ n) × ((z : ValueFraction) → LastIs sizes hs i z → y.content.shown ≡ z.content.shown)). b.1 z (last i z low lz))
              (lies i p y low near l);
          banks = each_set (λ u. IsBank u → ShowsLast sizes hs' u)
              (λ u. IsBank u → ShowsLast sizes hs' u) vs id w
              (λ is i z low l. let b = bank is in subst (ShowOnly i z.content.shown) (sym b.1) (part.banks id v at b.0 i z low (last i z low l)))
              (λ j u _ e is i z low l. part.banks j u e is i z low (last i z low l));
          stored = λ one j u e live. (knows one j u e live).0;
          hidden = λ one j u e live. (knows one j u e live).1;
        }

    -- what lies at home lay there
    pub lasts_fewer : (ws' : List ℕ) (w : View) (hs' : FractionsAtHome)
        → ((i p : ℕ) (y : ValueFraction) → p ≤ n → LiesAt n hs' i p y → LiesAt n hs i p y)
        → KeepsBank v w → w.fractions.filled ≡ v.fractions.filled → (n ≡ 1 → HasPlace w.epoch → HasPlace v.epoch ⊎ NoneStored sizes ws)
        → NoMoreStored sizes ws ws' → LastsInvariant sizes ws' (set vs id w) hs'
    lasts_fewer ws' w hs' lies = lasts_kept ws' w hs' (λ i p y _ near l. inl (lies i p y near l))

    -- all fractions of a slot come home, of which the bank has nothing, and which isn't out as raw
    pub lasts_given : (γ slot o : ℕ) (Is : Gv → Type 0) (rest xs : CarriedFractions) (g : Given γ n slot o Is hs rest xs (suc n)) →
        ((a b : Gv) → Is a → Is b → a ≡ b)
        → (ws' : List ℕ) (w : View) → ((j : ℕ) (b : View) → get_elem? vs j ≡ some b → IsBank b → (c : Gv) → ShowOnly slot c (banked b)) → KeepsBank v w
        → ((i : ℕ) → i ≢ slot → newest i w.fractions.filled ≡ newest i v.fractions.filled) → (HasPlace w.epoch → HasPlace v.epoch)
        → IsUnstored sizes ws' slot
        → ((i : ℕ) → i < sizes.slots → i ≢ slot → StaysStored sizes ws ws' i)
        → LastsInvariant sizes ws' (set vs id w) (homes_after hs xs g.act)
    lasts_given γ slot o Is rest xs g single ws' w nothing bank filled had free raws =
        let hs' : FractionsAtHome = homes_after hs xs g.act in
        let which = λ (i p : ℕ) (y : ValueFraction) (near : p ≤ n) (l : LiesAt n hs' i p y). given_lies γ n slot o Is hs rest xs g i p y near l in
        let show : (u u' : View) → IsBank u → banked u' ≡ banked u
        → ShowsLast sizes hs u → ((c : Gv) → ShowOnly slot c (banked u)) → ShowsLast sizes hs' u'
        = λ u u' is same old none i z low l. subst (ShowOnly i z.content.shown) (sym same) (⊎_elim
        (λ (a : (i ≡ slot) × Has γ slot (share n o n) Is z). subst (λ (k : ℕ). ShowOnly k z.content.shown (banked u)) (sym a.0) (none z.content.shown))
        (λ (b : (i ≢ slot) × LiesAt n hs i n z). old i z low b.1) (which i n z (omega arith) l)) in
        let now_of : (u u' : View) → ((i : ℕ) → i ≢ slot → newest i u'.fractions.filled ≡ newest i u.fractions.filled)
        → KnowsOf sizes ws hs u → KnowsOf sizes ws' hs' u'
        = λ u u' same old. (
          (λ i shared z low is l. ⊎_elim
              (λ (a : (i ≡ slot) × Has γ slot (share n o n) Is z). absurd (free.0 shared (subst (λ (k : ℕ). IsStored sizes ws' k shared) a.0 is)))
              (λ (b : (i ≢ slot) × LiesAt n hs i n z). same i b.0 ∙ old.0 i shared z low ((raws i low b.0).0 shared is) b.1) (which i n z (omega arith) l)),
          (λ i z low is l. ⊎_elim
              (λ (a : (i ≡ slot) × Has γ slot (share n o n) Is z). absurd (free.1 (subst (IsHidden sizes ws') a.0 is)))
              (λ (b : (i ≢ slot) × LiesAt n hs i n z). let k = old.1 i z low ((raws i low b.0).1 is) b.1 in (k.0, same i b.0 ∙ k.1))
              (which i n z (omega arith) l)),
        ) in
        let knows = λ (one : n ≡ 1). each_set (λ u. HasPlace u.epoch → KnowsOf sizes ws' hs' u) (λ u. HasPlace u.epoch → KnowsOf sizes ws' hs' u) vs id w
        (λ live. now_of v w filled (knew one id v at (had live)))
        (λ j u _ e live. now_of u u (λ _ _. refl) (knew one j u e live)) in record {
          alike = λ i p y z low near l lz. ⊎_elim
              (λ (a : (i ≡ slot) × Has γ slot (share n o p) Is y). ⊎_elim
              (λ (b : (i ≡ slot) × Has γ slot (share n o n) Is z). single y.content.shown z.content.shown a.1.1 b.1.1)
              (λ (b : (i ≢ slot) × LiesAt n hs i n z). absurd (b.0 a.0)) (which i n z (omega arith) lz))
              (λ (a : (i ≢ slot) × LiesAt n hs i p y). ⊎_elim
              (λ (b : (i ≡ slot) × Has γ slot (share n o n) Is z). absurd (a.0 b.0))
              (λ (b : (i ≢ slot) × LiesAt n hs i n z). part.alike i p y z low near a.1 b.1) (which i n z (omega arith) lz)) (which i p y near l);
          banks = each_set (λ u. IsBank u → ShowsLast sizes hs' u)
              (λ u. IsBank u → ShowsLast sizes hs' u) vs id w
              (λ is. let b = bank is in show v w b.0 b.1 (part.banks id v at b.0) (nothing id v at b.0))
              (λ j u _ e is. show u u is refl (part.banks j u e is) (nothing j u e is));
          stored = λ one j u e live. (knows one j u e live).0;
          hidden = λ one j u e live. (knows one j u e live).1;
        }

    -- every participant knows what an item shows, as where there is one
    abbrev pub AllKnow : ℕ → Bool → Type 0
    AllKnow i shared = n ≡ 1 → (j : ℕ) (u : View) → get_elem? vs j ≡ some u → HasPlace u.epoch → (z : ValueFraction) → LastIs sizes hs i z
        → newest i u.fractions.filled ≡ Some (record { slot = i; shared = shared; value = z.content.shown })

    -- items are stored or hidden that were so before, or of which it is known what they show
    pub lasts_out : (ws' : List ℕ) (w : View) → KeepsBank v w → w.fractions.filled ≡ v.fractions.filled → (HasPlace w.epoch → HasPlace v.epoch)
        → ((i : ℕ) (shared : Bool) → i < sizes.slots → IsStored sizes ws' i shared → IsStored sizes ws i shared ⊎ AllKnow i shared)
        → ((i : ℕ) → i < sizes.slots → IsHidden sizes ws' i → IsHidden sizes ws i ⊎ ((shared : Bool) × AllKnow i shared))
        → LastsInvariant sizes ws' (set vs id w) hs
    lasts_out ws' w bank filled had stored hidden =
        let now : (j : ℕ) (u u' : View) → get_elem? vs j ≡ some u → n ≡ 1 → HasPlace u.epoch → u'.fractions.filled ≡ u.fractions.filled
        → KnowsOf sizes ws' hs u'
        = λ j u u' e one live same. knows_alike sizes ws' hs u u' same (
          (λ i shared z low is l. ⊎_elim
              (λ (old : IsStored sizes ws i shared). part.stored one j u e live i shared z low old l) (λ (all : AllKnow i shared). all one j u e live z l)
              (stored i shared low is)),
          (λ i z low is l. ⊎_elim (λ (old : IsHidden sizes ws i). part.hidden one j u e live i z low old l)
              (λ (all : (shared : Bool) × AllKnow i shared). (all.0, all.1 one j u e live z l)) (hidden i low is)),
        ) in
        let knows = λ (one : n ≡ 1). each_set (λ u. HasPlace u.epoch → KnowsOf sizes ws' hs u) (λ u. HasPlace u.epoch → KnowsOf sizes ws' hs u) vs id w
        (λ live. now id v w at one (had live) filled) (λ j u _ e live. now j u u e one live refl) in record {
          alike = part.alike;
          banks = each_set (λ u. IsBank u → ShowsLast sizes hs u) (λ u. IsBank u → ShowsLast sizes hs u) vs id w
              (λ is i z low l. let b = bank is in subst (ShowOnly i z.content.shown) (sym b.1) (part.banks id v at b.0 i z low l))
              (λ j u _ e. part.banks j u e);
          stored = λ one j u e live. (knows one j u e live).0;
          hidden = λ one j u e live. (knows one j u e live).1;
        }

  -- what the bank has is other than before
  pub lasts_dealt : (γ bd : ℕ) (b : View) → get_elem? vs bd ≡ some b → IsBank b → (ls : List FractionContent) → b.fractions.gamma ≡ γ → AreDeposits γ ls
      → ((i : ℕ) (z : ValueFraction) → i < sizes.slots → LastIs sizes hs i z → ShowOnly i z.content.shown (banked b) → ShowOnly i z.content.shown ls)
      → LastsInvariant sizes ws (set vs bd (with_deposits ls b)) hs
  lasts_dealt γ bd b there is ls gamma are shown = record {
    alike = part.alike;
    banks = each_set (λ u. IsBank u → ShowsLast sizes hs u) (λ u. IsBank u → ShowsLast sizes hs u) vs bd (with_deposits ls b)
        (λ _ i z low l. subst (ShowOnly i z.content.shown) (sym (banked_then γ ls b gamma are)) (shown i z low l (part.banks bd b there is i z low l)))
        (λ j u _ e. part.banks j u e);
    stored = λ one. each_set (λ u. HasPlace u.epoch → KnowsStored sizes ws hs u)
        (λ u. HasPlace u.epoch → KnowsStored sizes ws hs u) vs bd (with_deposits ls b)
        (λ live. part.stored one bd b there live) (λ j u _ e. part.stored one j u e);
    hidden = λ one. each_set (λ u. HasPlace u.epoch → KnowsHidden sizes ws hs u)
        (λ u. HasPlace u.epoch → KnowsHidden sizes ws hs u) vs bd (with_deposits ls b)
        (λ live. part.hidden one bd b there live) (λ j u _ e. part.hidden one j u e);
  }
