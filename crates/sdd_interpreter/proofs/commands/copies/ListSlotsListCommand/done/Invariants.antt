use Rattle.sdd_interpreter.proofs.Words.{◌≡◌, ◌≤◌, ◌++◌, ℕ, List, Option, length, vec_capacity, PtrIsShown, slot_named, AreLinked, Entry, first_slot, entry_slots, Val, link_of, HasEntries, ArePlain}
use Rattle.sdd_interpreter.proofs.commands.copies.ListSlotsListCommand.done.Given as goal

-- the slots so far are those of the first entries, and the pointer is to the next
abbrev pub invariant-loop : goal.invariant-loop
invariant-loop g l = record {
  caller : g.S.Caller.caller l.s ≡ g.S.Caller.caller l.fn.s;
  world : g.S.Caller.world l.s ≡ g.S.Caller.world l.fn.s;
  shown : PtrIsShown (g.S.Shows.shows l.s) l.next;
  room : l.most ≤ vec_capacity l.slots;
  long : length l.slots.items ≡ l.counter;
  found : (es : List (Entry Val)) (second : Option ℕ) → HasEntries (g.S.Caller.world l.fn.s) l.fn.self.list es second → ArePlain es →
      (rest : List (Entry Val)) × AreLinked link_of (g.S.Caller.world l.fn.s) rest × (slot_named l.next ≡ first_slot rest)
      × (entry_slots es ≡ l.slots.items ++ entry_slots rest);
}
