-- Slots: their words, owners and records, after each step
pub mod SlotWords
pub mod OwnerSteps
pub mod SeenSlots
pub mod SlotEpochs
pub mod LoneInvariant
pub mod HeldSlots
pub mod SlotSeats
pub mod WaitingCounts
pub mod SlotSteps
pub mod Records
pub mod FilledInvariant
pub mod RecordSteps
pub mod KindSteps
pub mod OwnerUpgrade
pub mod ClonedOwners
