-- What each line that is told of a container's entries means
use Rattle.sdd_script.proofs.Words.{◌≡◌, ℕ, List, Option, Some, None, length, map, slice_index_or, refl, ap, inl, inr, subst, ◌∙◌, reader_at, ReaderId, reader_of, Entry, first_value, left, cells_in, cell_in, shown_of, GuardName, ListName, PlaceName, At, Reply, IsContainer, AreNumbers, Acts, HasOpen, IsListName, Val, Number, list_cell, GuardsIn, IsTied, state_of, NamedGuard, AnyList, Environment, still, no-queue, queue-home, no-stack, stack-home, same-list, IsListCell, HasEntries, IsGuardIn, IsListOf, IsOfNumbers, NamesNone, StandsFor, TellsNumber, content}
use Rattle.sdd_script_text.specs.declared.name.ListName.TheVariants as list
use Rattle.sdd_script_text.specs.Actions as call
use Rattle.sdd_script_text.specs.declared.answer.Reply.TheVariants as reply
use Rattle.sdd_interpreter.specs.declared.holding.AnyList.TheVariants as any
use Rattle.sdd_script.proofs.QueueActs.{is-queue, queue-entries}
use Rattle.sdd_script.proofs.StackActs.{is-stack, stack-entries}

-- the name stands for this container
abbrev pub Names : Environment → ListName → AnyList → Type 0
Names h l x = StandsFor h.lists.queues.entries.items h.lists.stacks.entries.items l x

pub no-list : (h : Environment) (l : ListName) → NamesNone h.lists.queues.entries.items h.lists.stacks.entries.items l → ¬ (IsListName (state_of h) l)
no-list h (list.Queue q) none = no-queue h q.0 none
no-list h (list.Stack s) none = no-stack h s.0 none

-- a guard in hand is its participant's
pub reader-is : (h : Environment) → IsTied h → (g : ℕ) (held : NamedGuard) (p : ℕ) → slice_index_or h.guards.entries.items g None ≡ Some held →
    held.place ≡ p → reader_of held.guard ≡ reader_at h.world p
reader-is h t g held p here own =
    let its : IsGuardIn h.world.home.readers (state_of h).places held = subst (GuardsIn h.world.home.readers (state_of h).places) here (t.guards g) in
    its.reader ∙ ap (λ (n : ℕ). let id : ReaderId = record { home = h.world.home.readers; number = n } in id) own

module _ (h : Environment) (t : IsTied h) where
  -- the container has these entries, which are numbers
  pub record Holds (l : ListName) (x : AnyList) : Type 0 where
    pub entries : List (Entry Val)
    pub second : Option ℕ
    pub is : IsContainer (state_of h) l (list_cell x) entries
    pub has : HasEntries h.world x entries second
    pub numbers : AreNumbers entries

  unfoldable pub entries-of : (l : ListName) (x : AnyList) → Names h l x → Holds l x
  entries-of (list.Queue q) (any.Queue x) mine =
      let found = queue-entries h t q.0 x.now mine in
      let first = t.sound.lists.lists (cells_in x.now).oldest (inl (q.0, found.2.oldest)) in
      record {
        entries = found.0;
        second = found.1;
        is = (cells_in x.now, found.1, found.2, refl);
        has = found.2.queue;
        numbers = subst AreNumbers (same-list h.world (cells_in x.now).oldest first.0 found.0 first.1 found.2.queue.list) first.2;
      }
  entries-of (list.Stack s) (any.Stack x) mine =
      let found = stack-entries h t s.0 x.now mine in
      let first = t.sound.lists.lists (cell_in x.now) (inr (s.0, found.1.named)) in
      record {
        entries = found.0;
        second = None;
        is = found.1;
        has = found.1.list;
        numbers = subst AreNumbers (same-list h.world (cell_in x.now) first.0 found.0 first.1 found.1.list) first.2;
      }
  entries-of l x never = absurd never

  -- it begins in a list's cell
  pub list-begins : (l : ListName) (x : AnyList) → Names h l x → IsListCell (state_of h) (list_cell x)
  list-begins (list.Queue q) (any.Queue x) mine = inl (q.0, (queue-entries h t q.0 x.now mine).2.oldest)
  list-begins (list.Stack s) (any.Stack x) mine = inr (s.0, (stack-entries h t s.0 x.now mine).1.named)
  list-begins l x never = absurd never

  pub of-numbers : (l : ListName) (x : AnyList) → Names h l x → IsOfNumbers h.world x
  of-numbers l x mine = let its = entries-of l x mine in (its.entries, its.second, its.has, its.numbers)

  pub list-home : (l : ListName) (x : AnyList) → Names h l x → IsListOf h.world.home.cells x
  list-home (list.Queue q) (any.Queue x) mine = queue-home h q.0 x.now mine t
  list-home (list.Stack s) (any.Stack x) mine = stack-home h t s.0 x.now mine
  list-home l x never = absurd never

  pub is-list : (l : ListName) (x : AnyList) → Names h l x → IsListName (state_of h) l
  is-list (list.Queue q) (any.Queue x) mine = is-queue h q.0 x.now mine
  is-list (list.Stack s) (any.Stack x) mine = is-stack h s.0 x.now mine
  is-list l x never = absurd never

  module _ (name : PlaceName) (g : GuardName) (valid : HasOpen (state_of h) name.0 g.0) (l : ListName) (x : AnyList) (mine : Names h l x) where
    pub acts-peeked : (given : Reply) → ((es : List (Entry Val)) (second : Option ℕ) → HasEntries h.world x es second →
        TellsNumber given (first_value (left es))) →
        Acts (state_of h) (At name (call.Peek l g)) given (state_of h)
    acts-peeked reply.Nothing tells =
        let its = entries-of l x mine in
        still (state_of h) (At name (call.Peek l g)) reply.Nothing
        ((valid, is-list l x mine), ((list_cell x, its.entries, its.is, tells its.entries its.second its.has), refl))
    acts-peeked (reply.Value m) tells =
        let its = entries-of l x mine in
        still (state_of h) (At name (call.Peek l g)) (reply.Value m)
        ((valid, is-list l x mine), ((list_cell x, its.entries, its.is, tells its.entries its.second its.has), refl))
    acts-peeked other tells = let its = entries-of l x mine in absurd (tells its.entries its.second its.has)

    pub acts-counted : (m : ℕ) → ((es : List (Entry Val)) (second : Option ℕ) → HasEntries h.world x es second → m ≡ length (content es)) →
        Acts (state_of h) (At name (call.Len l g)) (reply.Value m) (state_of h)
    acts-counted m counts =
        let its = entries-of l x mine in
        still (state_of h) (At name (call.Len l g)) (reply.Value m)
        ((valid, is-list l x mine), ((list_cell x, its.entries, its.is, counts its.entries its.second its.has), refl))

    pub acts-listed : (ns : List ℕ) → ((es : List (Entry Val)) (second : Option ℕ) → HasEntries h.world x es second → shown_of es ≡ map Number ns) →
        Acts (state_of h) (At name (call.List l g)) (reply.Numbers ns) (state_of h)
    acts-listed ns lists =
        let its = entries-of l x mine in
        still (state_of h) (At name (call.List l g)) (reply.Numbers ns)
        ((valid, is-list l x mine), ((list_cell x, its.entries, its.is, lists its.entries its.second its.has), refl))
