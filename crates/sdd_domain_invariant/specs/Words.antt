-- Where the words of a domain are
use Rattle.std.specs.Prelude.{◌⊎◌, ◌<◌, ◌≤◌, ℕ, ◌+◌, ◌*◌}
use Rattle.sdd_rights.specs.declared.views.Sizes.{Sizes}

-- How far apart those words stand that different participants write: a processor keeps words by lines of 8, which it fetches
-- by pairs, and who writes one takes the whole from all others that read there. So each participant writes in lines of its own.
abbrev pub line : ℕ
line = 16

abbrev pub global_word : ℕ
global_word = 0

abbrev pub lock_word : ℕ
lock_word = line

-- the ended mark
abbrev pub mark_word : ℕ
mark_word = line + 1

-- cells come first, so that each one's word is where it is however many of each there are: who loads from a cell adds nothing
abbrev pub first_cell : ℕ
first_cell = 2 * line

abbrev pub cell_word : ℕ → ℕ
cell_word cell = first_cell + cell

-- where a cell for raw pointers has its pointer, beside its mark: pointers come behind all cells
abbrev pub pointer_word : Sizes → ℕ → ℕ
pointer_word sizes cell = cell_word (sizes.cells + cell)

-- behind the words of cells
abbrev pub after_cells : Sizes → ℕ
after_cells sizes = cell_word (2 * sizes.cells)

-- behind the words of n places, the first of which stand in a line that no cell's word is in
abbrev pub after_places : Sizes → ℕ → ℕ
after_places sizes n = after_cells sizes + line * n + line

-- the state of a place: 0 free, 1 closed, 2 open, 3 ended
abbrev pub state_word : Sizes → ℕ → ℕ
state_word sizes place = after_places sizes place

abbrev pub count_word : Sizes → ℕ → ℕ
count_word sizes place = after_places sizes place + 1

abbrev pub first_slot : Sizes → ℕ
first_slot sizes = after_places sizes sizes.participants

-- a word of a cell or a slot, or of a job
abbrev pub IsBeside : Sizes → ℕ → Type 0
IsBeside sizes word = (first_cell ≤ word) × ((word < after_cells sizes) ⊎ (first_slot sizes ≤ word))

-- a word of the count, the lock or a place: it is neither a cell's nor a slot's
abbrev pub IsEpochWord : Sizes → ℕ → Type 0
IsEpochWord sizes word = ((word < first_cell) ⊎ (after_cells sizes ≤ word)) × (word < first_slot sizes)

abbrev pub slot_word : Sizes → ℕ → ℕ
slot_word sizes slot = first_slot sizes + slot

-- the place of a job is a slot without a value: its number comes after those of the slots
abbrev pub job_slot : Sizes → ℕ → ℕ
job_slot sizes job = sizes.slots + job

-- behind all others: a word past the last one reads 0, so that a number past the last job's place is that of a free slot
abbrev pub job_word : Sizes → ℕ → ℕ
job_word sizes job = slot_word sizes (job_slot sizes job)

-- how much may wait: an item for each slot, and a job for each place of one
abbrev pub most_waiting : Sizes → ℕ
most_waiting sizes = sizes.slots + sizes.jobs

-- where the word of a slot is among those of cells and slots, as if these stood one behind the other
abbrev pub behind : Sizes → ℕ → ℕ
behind sizes slot = 2 * sizes.cells + slot

-- how many of these there are, with those of jobs
abbrev pub words_behind : Sizes → ℕ
words_behind sizes = behind sizes (most_waiting sizes)

-- and in all
abbrev pub all_words : Sizes → ℕ
all_words sizes = first_slot sizes + most_waiting sizes
