-- What a line that copies a queue or a stack gives a participant: what it lets go of waits there, and nothing else of the time changes
use Rattle.sdd_script_model.proofs.Words.{◌<◌, ℕ, List, Option, length, refl, sym, subst, Shared as shared_by, World, standing_at, made_as, nulled, owner_given, Gives, Gives-owner_given, Gives-range, End, appended, end_of, Entry, QueueCells, queue_closed, AddsAllBehind, AddsBehind, adds_behind, begins_behind, AppendsAll, AppendsTo, appends, starts, Body, MakesQueueOf, MakesStackOf, stack_closed, Val, link_of}
use Rattle.sdd_core.specs.declared.tag.Tag.TheVariants.{None as no_tag}
use Rattle.sdd_space.specs.Shared.{slot_of}
use Rattle.sdd_script_model.proofs.QueueGives.{gives-behind, gives-queue_closed}
use Rattle.sdd_script_model.proofs.StackGives.{gives-closed, gives-nothing, gives-then, gives-trimmed}

module _ (p : ℕ) where
  -- an owner is given up
  gives-one-up : (u w : World Val) (k : ℕ) → p < length u.time.places → Gives p u w → Gives p u (owner_given w p k (standing_at w k))
  gives-one-up u w k l g = gives-then p {u = u} {v = w} l g (Gives-owner_given w p k (standing_at w k) refl)

  gives-added : (w new : World Val) (q : QueueCells) (es fs : List (Entry Val)) (second held : Option ℕ) (x : Body) → p < length w.time.places →
      AddsBehind w p q es second x new fs held → Gives p w new
  gives-added w new q es fs second held x l adds =
      subst (λ (u : World Val). Gives p w u) (sym adds.world)
      (gives-one-up w adds.between (slot_of adds.owner) l
      (gives-behind p w q es second adds.pushes.entry (slot_of adds.owner) adds.between l adds.pushes.queue))

  gives-all-added : {w : World Val} {q : QueueCells} {es : List (Entry Val)} {second : Option ℕ} {xs : List Body} {new : World Val} {fs : List (Entry Val)}
      {held : Option ℕ} → p < length w.time.places → AddsAllBehind p q w es second xs new fs held → Gives p w new
  gives-all-added {w} l begins_behind = gives-nothing p w w refl
  gives-all-added {w} {q} l (adds_behind ys v new gs hs was holds x before adds) =
      let first = gives-all-added l before in
      gives-then p {u = w} {v = v} l first (gives-added v new q gs hs was holds x (Gives-range l first) adds)

  pub gives-queue_made : (w : World Val) (values : List Body) (q : QueueCells) (fs : List (Entry Val)) (held : Option ℕ) (new : World Val) →
      p < length w.time.places → MakesQueueOf w p values q fs held new → Gives p w new
  gives-queue_made w values q fs held new l makes =
      let g = gives-all-added l makes.fills.all in record { slots = g.slots; time = g.time }

  pub gives-queue_refused : (w : World Val) (values : List Body) (q : QueueCells) (fs : List (Entry Val)) (held : Option ℕ) (new : World Val) →
      p < length w.time.places → MakesQueueOf w p values q fs held new → Gives p w (queue_closed link_of new p q fs held)
  gives-queue_refused w values q fs held new l makes =
      let g = gives-queue_made w values q fs held new l makes in
      gives-then p {u = w} {v = new} l g (gives-queue_closed p new q fs held (Gives-range l g))

  gives-appended : (w new : World Val) (c : ℕ) (es fs : List (Entry Val)) (x : Body) → p < length w.time.places → AppendsTo w p c es x new fs → Gives p w new
  gives-appended w new c es fs x l adds =
      let u : World Val = made_as (nulled w (link_of adds.entry)) adds.slot adds.entry (shared_by 2) in
      let at : End Val = end_of link_of c no_tag es in
      let g = gives-trimmed p u at.cell at.tag at.behind l in
      let last : World Val = appended link_of u p c no_tag es (link_of adds.entry) adds.slot in
      subst (λ (v : World Val). Gives p w v) (sym adds.last.world)
      (gives-one-up w last adds.slot l (record { slots = g.slots; time = g.time }))

  gives-all-appended : {w : World Val} {c : ℕ} {es : List (Entry Val)} {xs : List Body} {new : World Val} {fs : List (Entry Val)} →
      p < length w.time.places → AppendsAll p c w es xs new fs → Gives p w new
  gives-all-appended {w} l starts = gives-nothing p w w refl
  gives-all-appended {w} {c} l (appends ys v new gs hs x before adds) =
      let first = gives-all-appended l before in
      gives-then p {u = w} {v = v} l first (gives-appended v new c gs hs x (Gives-range l first) adds)

  pub gives-stack_made : (w : World Val) (values : List Body) (c : ℕ) (fs : List (Entry Val)) (new : World Val) → p < length w.time.places →
      MakesStackOf w p values c fs new → Gives p w new
  gives-stack_made w values c fs new l makes = let g = gives-all-appended l makes.fills.all in record { slots = g.slots; time = g.time }

  pub gives-stack_refused : (w : World Val) (values : List Body) (c : ℕ) (fs : List (Entry Val)) (new : World Val) → p < length w.time.places →
      MakesStackOf w p values c fs new → Gives p w (stack_closed new p c fs)
  gives-stack_refused w values c fs new l makes =
      let g = gives-stack_made w values c fs new l makes in
      gives-then p {u = w} {v = new} l g (gives-closed p new c fs (Gives-range l g))
