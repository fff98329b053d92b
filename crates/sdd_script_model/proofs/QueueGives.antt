-- What a line on a queue gives a participant: what it lets go of waits there, and nothing else of the time changes
use Rattle.sdd_script_model.proofs.Words.{◌+◌, ◌<◌, ℕ, List, Bool, true, false, Option, Some, None, length, refl, sym, subst, if◌then◌else◌, Shared, World, standing_at, made_as, nulled, spilled, with_cell, with_standing, without_cell, Gives, Gives-owner_given, Gives-range, End, end_of, Entry, QueueCells, cell_emptied, cell_left, lets_go_of, queue_closed, DrainsQueue, Enqueues, TakesOldest, Val, link_of, IsEnqueued}
use Rattle.sdd_core.specs.declared.tag.Tag.TheVariants.{None as no_tag}
use Rattle.sdd_script_model.proofs.StackGives.{gives-emptied, gives-nothing, gives-removed, gives-then, gives-trimmed}

module _ (p : ℕ) where
  -- what a cell held
  pub gives-spilled : (w : World Val) (held : Option ℕ) → Gives p w (spilled w p held)
  gives-spilled w None = gives-nothing p w w refl
  gives-spilled w (Some k) = Gives-owner_given w p k (standing_at w k) refl

  gives-cell : (w : World Val) (c : ℕ) (held : Option ℕ) → Gives p w (cell_emptied w p c held)
  gives-cell w c held = let g = gives-spilled (nulled w c) held in record { slots = g.slots; time = g.time }

  left-by : (w : World Val) (c : ℕ) (held : Option ℕ) (b : Bool) → Gives p w (if b then cell_emptied w p c held else w)
  left-by w c held true = gives-cell w c held
  left-by w c held false = gives-nothing p w w refl

  -- an entry behind the others
  pub gives-behind : (w : World Val) (q : QueueCells) (es : List (Entry Val)) (second : Option ℕ) (x : Val) (k : ℕ) (new : World Val) →
      p < length w.time.places → IsEnqueued link_of (nulled w (link_of x)) p q es second k x new → Gives p w new
  gives-behind w q es second x k new l pushed =
      let fronted : World Val = with_cell (made_as (nulled w (link_of x)) k x (Shared 3)) q.newest (record { held = Some k; tag = no_tag }) in
      let spent : World Val = spilled fronted p second in
      let given = gives-spilled fronted second in
      let first : Gives p w spent = record { slots = given.slots; time = given.time } in
      let at : End Val = end_of link_of q.oldest no_tag es in
      let rest = gives-trimmed p spent at.cell at.tag at.behind (Gives-range l first) in
      subst (λ (u : World Val). Gives p w u) (sym pushed.world)
      (gives-then p {u = w} {v = spent} l first (record { slots = rest.slots; time = rest.time }))

  pub gives-enqueued : (w : World Val) (q : QueueCells) (es : List (Entry Val)) (second : Option ℕ) (number k : ℕ) (new : World Val) →
      p < length w.time.places → Enqueues w p q es second number k new → Gives p w new
  gives-enqueued w q es second number k new l puts = gives-behind w q es second puts.entry k new l puts.pushed

  pub gives-dequeued : (w : World Val) (q : QueueCells) (es : List (Entry Val)) (second : Option ℕ) (e : Entry Val) (new : World Val) →
      p < length w.time.places → TakesOldest w p q es second e new → Gives p w new
  gives-dequeued w q es second e new l takes =
      let shared : World Val = with_standing w e.slot (Shared (takes.owners + 1)) in
      let left_so : World Val = cell_left shared p q.newest second es in
      let given = left-by shared q.newest second (lets_go_of second es) in
      let first : Gives p w left_so = record { slots = given.slots; time = given.time } in
      subst (λ (u : World Val). Gives p w u) (sym takes.world)
      (gives-then p {u = w} {v = left_so} l first (gives-removed p left_so q.oldest es e takes.rest (Gives-range l first)))

  pub gives-queue_drained : (w : World Val) (q : QueueCells) (es : List (Entry Val)) (second : Option ℕ) (new : World Val) →
      p < length w.time.places → DrainsQueue w p q es second new → Gives p w new
  gives-queue_drained w q es second new l drains =
      let emptied_so : World Val = cell_emptied w p q.newest second in
      let first = gives-cell w q.newest second in
      subst (λ (u : World Val). Gives p w u) (sym drains.world)
      (gives-then p {u = w} {v = emptied_so} l first (gives-trimmed p emptied_so q.oldest no_tag es (Gives-range l first)))

  pub gives-queue_closed : (w : World Val) (q : QueueCells) (es : List (Entry Val)) (second : Option ℕ) → p < length w.time.places →
      Gives p w (queue_closed link_of w p q es second)
  gives-queue_closed w q es second l =
      let freed : World Val = spilled (without_cell w q.newest) p second in
      let given = gives-spilled (without_cell w q.newest) second in
      let first : Gives p w freed = record { slots = given.slots; time = given.time } in
      let rest = gives-emptied p freed q.oldest no_tag es (Gives-range l first) in
      gives-then p {u = w} {v = freed} l first (record { slots = rest.slots; time = rest.time })
