-- What a clone of a queue or a stack of numbers is
use Rattle.sdd_interpreter.proofs.Words.{◌≡◌, ◌≤◌, inl, inr, ℕ, length, append_assoc, arith, List, [], ◌∷◌, ◌++◌, None, Option, Some, refl, sym, ap, ◌∙◌, subst, Err, length-append, length-map, Refused, entry_at, CellContents, OwnerOrCell, SpaceId, PtrIsShown, shown_by, slot_named, Ptr, World, value_at, held_in, nulled, AreLinked, Entry, first_slot, queue_closed, shown_of, Body, entry_slots, AreNumbers, IsNumber, RefusesEntry, stack_closed, Val, body_of, holdings_of, link_holding, link_of, owner_in, AllZip, AreAllNumbers, AreOf, ClonesStack, ExtendsStack, FillsQueue, MakesQueueOf, MakesStackOf, QueueCells, append-nil, cell_seen, link_home}
use Rattle.sdd_lists.specs.Cloning.{ClonesQueue, RefusesClone}
use Rattle.sdd_script_model.proofs.CopySound.{shown-numbers}
use Rattle.sdd_interpreter.proofs.ShownEntries.{points-first}
use Rattle.sdd_interpreter.specs.Copies.{QueueIsCopied, StackIsCopied}

abbrev pub IsCloneOf : Body → Body → Type 0
IsCloneOf b other = IsNumber b × (other ≡ b)

clones-same : (xs ys : List Body) → AllZip IsCloneOf xs ys → ys ≡ xs
clones-same [] [] all = refl
clones-same [] (y ∷ ys) never = absurd never
clones-same (x ∷ xs) [] never = absurd never
clones-same (x ∷ xs) (y ∷ ys) all =
    ap (λ (z : Body). z ∷ ys) all.0.1 ∙ ap (λ (zs : List Body). x ∷ zs) (clones-same xs ys all.1)

behind-number : (xs : List Body) (x : Body) (ys : List Body) → AreAllNumbers (xs ++ x ∷ ys) → IsNumber x
behind-number [] x ys all = all.0
behind-number (z ∷ xs) x ys all = behind-number xs x ys all.1

-- the next value is a number, so that it is refused where it finds no place alone
refuses-entry : (w : World Val) (u : Body) (why : Refused) → IsNumber u → RefusesClone IsCloneOf (λ b. IsNumber b) w u why → RefusesEntry w why
refuses-entry w u why number (inl (inl (full, is))) = subst (λ (r : Refused). RefusesEntry w r) (sym is) full
refuses-entry w u why number (inl (inr (some, full, is))) = subst (λ (r : Refused). RefusesEntry w r) (sym is) (some, full)
refuses-entry w u why number (inr (some, more, is, never)) = absurd (never number)

module _ (p : ℕ) (w new : World Val) (es : List (Entry Val)) where
  makes-queue : (from q : QueueCells) (second : Option ℕ) (others : List Body) (m : ClonesQueue IsCloneOf (λ b. IsNumber b) p w from q es second others new) →
      MakesQueueOf w p m.first q m.entries m.held new
  makes-queue from q second others m = record {
    oldest = m.oldest;
    newest = m.newest;
    two = m.two;
    fills = subst (λ (vs : List Body). FillsQueue p q (nulled (nulled w q.oldest) q.newest) [] None vs new m.entries m.held)
        (clones-same m.first m.clones m.are) m.fills;
  }

  pub queue-cloned : (from q : QueueCells) (second : Option ℕ) → ClonesQueue IsCloneOf (λ b. IsNumber b) p w from q es second [] new →
      (fs : List (Entry Val)) × (held : Option ℕ) × MakesQueueOf w p (shown_of es) q fs held new
  queue-cloned from q second m = (
    m.entries,
    m.held,
    subst (λ (vs : List Body). MakesQueueOf w p vs q m.entries m.held new) (sym (m.parts ∙ append-nil m.first)) (makes-queue from q second [] m),
  )

  pub queue-uncloned : (from q : QueueCells) (second : Option ℕ) (next : Body) (others : List Body) (why : Refused) (last : World Val) → AreNumbers es →
      (m : ClonesQueue IsCloneOf (λ b. IsNumber b) p w from q es second (next ∷ others) new) → RefusesClone IsCloneOf (λ b. IsNumber b) new next why →
      last ≡ queue_closed link_of new p q m.entries m.held → QueueIsCopied p w es (Err why) last
  queue-uncloned from q second next others why last numbers m refuses closed =
      let number = behind-number m.first next others (subst (λ (vs : List Body). AreAllNumbers vs) m.parts (shown-numbers es numbers)) in
      inr (
        q,
        m.entries,
        m.held,
        new,
        m.first,
        next,
        others,
        m.parts,
        makes-queue from q second (next ∷ others) m,
        refuses-entry new next why number refuses,
        closed,
      )

  makes-stack : (from c : ℕ) (others : List Body) (m : ClonesStack IsCloneOf (λ b. IsNumber b) p w from c es others new) →
      MakesStackOf w p m.first c m.entries new
  makes-stack from c others m = record {
    free = m.free;
    fills = subst (λ (vs : List Body). ExtendsStack p c (nulled w c) [] vs new m.entries) (clones-same m.first m.clones m.are) m.fills;
  }

  pub stack-cloned : (from c : ℕ) → ClonesStack IsCloneOf (λ b. IsNumber b) p w from c es [] new →
      (fs : List (Entry Val)) × MakesStackOf w p (shown_of es) c fs new
  stack-cloned from c m = (
    m.entries,
    subst (λ (vs : List Body). MakesStackOf w p vs c m.entries new) (sym (m.parts ∙ append-nil m.first)) (makes-stack from c [] m),
  )

  pub stack-uncloned : (from c : ℕ) (next : Body) (others : List Body) (why : Refused) (last : World Val) → AreNumbers es →
      (m : ClonesStack IsCloneOf (λ b. IsNumber b) p w from c es (next ∷ others) new) → RefusesClone IsCloneOf (λ b. IsNumber b) new next why →
      last ≡ stack_closed new p c m.entries → StackIsCopied p w es (Err why) last
  stack-uncloned from c next others why last numbers m refuses closed =
      let number = behind-number m.first next others (subst (λ (vs : List Body). AreAllNumbers vs) m.parts (shown-numbers es numbers)) in
      inr (c, m.entries, new, m.first, next, others, m.parts, makes-stack from c (next ∷ others) m, refuses-entry new next why number refuses, closed)

-- ---- the slots of entries, one after another

-- the link of a value whose parts are of a home is
pub link-at-home : (home : SpaceId) (v : Val) → AreOf home (holdings_of v) → link_home v ≡ home.cells
link-at-home home v all = by (owner_in (body_of v)) all where
  by : (hs : List OwnerOrCell) → AreOf home (hs ++ link_holding v ∷ []) → link_home v ≡ home.cells
  by [] all = all.0
  by (h ∷ hs) all = by hs all.1

-- the pointer to the next entry leads to the one behind it
pub next-slot : (w : World Val) (shows : ℕ → Val → Type 0) → ((k : ℕ) (v : Val) → shows k v → value_at w k ≡ Some v) → (ptr next : Ptr Val) →
    PtrIsShown shows ptr → (slot : ℕ) → slot_named ptr ≡ Some slot → (entry : Val) → shown_by ptr ≡ Some entry →
    entry_at w.cells (link_of entry) ≡ Some (cell_seen next) → (es rest : List (Entry Val)) (found : List ℕ) → AreLinked link_of w rest →
    slot_named ptr ≡ first_slot rest → entry_slots es ≡ found ++ entry_slots rest →
    (more : List (Entry Val)) × AreLinked link_of w more × (slot_named next ≡ first_slot more) × (entry_slots es ≡ (found ++ slot ∷ []) ++ entry_slots more)
next-slot w shows value ptr next shown slot named entry is cell es [] found linked first slots =
    absurd (let never : None ≡ Some slot = sym first ∙ named in cc)
next-slot w shows value ptr next shown slot named entry is cell es (e ∷ rest) found linked first slots =
    let both : Some e.slot ≡ Some slot = sym first ∙ named in
    let same : e.slot ≡ slot = cc in
    let its : Some entry ≡ Some e.value = sym is ∙ points-first w shows value ptr shown (e ∷ rest) linked first in
    let this : entry ≡ e.value = cc in
    let held : Some (cell_seen next) ≡ Some (record { held = first_slot rest; tag = e.tag }) =
    sym cell ∙ ap (λ (v : Val). entry_at w.cells (link_of v)) this ∙ linked.0.linked in (
      rest,
      linked.1,
      ap (λ (x : Option CellContents). held_in x) held,
      slots ∙ ap (λ (k : ℕ). found ++ k ∷ entry_slots rest) same ∙ sym (append_assoc found (slot ∷ []) (entry_slots rest)),
    )

pub none-left : (es rest : List (Entry Val)) (found : List ℕ) (most : ℕ) → length es ≤ most → length found ≡ most →
    entry_slots es ≡ found ++ entry_slots rest → found ≡ entry_slots es
none-left es [] found most few long slots = sym (slots ∙ append-nil found)
none-left es (e ∷ rest) found most few long slots =
    absurd (omega (
      arith,
      few,
      long,
      ap (λ (xs : List ℕ). length xs) slots,
      length-append found (entry_slots (e ∷ rest)),
      length-map es (λ (x : Entry Val). x.slot),
    ))
