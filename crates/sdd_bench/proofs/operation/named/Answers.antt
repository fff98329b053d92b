use Rattle.sdd_bench.specs.declared.operation.Guarding.TheVariants.{Outermost, Nested, Accelerated}
use Rattle.sdd_bench.specs.declared.operation.CellWork.TheVariants.{Loads as CellLoads, Exchanges, Reads as ConfigReads, Publishes, MostlyReads}
use Rattle.sdd_bench.specs.declared.operation.Task.TheVariants.{Guards, Items, HalfFull, Looks, Reads, Gets, Jobs, Raws, Changes, Shares, Loads, Swaps, OfCell}
use Rattle.sdd_bench.specs.declared.operation.Listing.TheVariants.{Iter, Queue, Stack, Walk}
use Rattle.sdd_bench.specs.declared.operation.Bagging.TheVariants.{Inside, Behind, All}
use Rattle.sdd_bench.specs.declared.operation.Operation.TheVariants.{World, Local, Beside, Places, Item, Job, Read, Look, Load, Share, Raw, Swap, Listed, Bagged}
use Rattle.sdd_bench.proofs.operation.named.Goals as goal

-- Each name was compared with the word, in the order of the code
pub returns-in_default : goal.returns-in_default
returns-in_default c (World Outermost) is = c.in_default.not-text is
returns-in_default c (World Nested) is = c.in_default.not-text-2 is
returns-in_default c (World Accelerated) is = c.in_default.not-text-3 is
returns-in_default c Item is = c.in_default.not-text-4 is
returns-in_default c Job is = c.in_default.not-text-5 is
returns-in_default c Read is = c.in_default.not-text-6 is
returns-in_default c Look is = c.in_default.not-text-7 is
returns-in_default c Load is = c.in_default.not-text-8 is
returns-in_default c Share is = c.in_default.not-text-9 is
returns-in_default c Raw is = c.in_default.not-text-10 is
returns-in_default c Swap is = c.in_default.not-text-11 is
returns-in_default c (Local (Guards Outermost)) is = c.in_default.not-text-12 is
returns-in_default c (Local (Guards Nested)) is = c.in_default.not-text-13 is
returns-in_default c (Local (Guards Accelerated)) is = c.in_default.not-text-14 is
returns-in_default c (Local Items) is = c.in_default.not-text-15 is
returns-in_default c (Local HalfFull) is = c.in_default.not-text-16 is
returns-in_default c (Local Looks) is = c.in_default.not-text-17 is
returns-in_default c (Local Reads) is = c.in_default.not-text-18 is
returns-in_default c (Local Gets) is = c.in_default.not-text-19 is
returns-in_default c (Local Jobs) is = c.in_default.not-text-20 is
returns-in_default c (Local Raws) is = c.in_default.not-text-21 is
returns-in_default c (Local Changes) is = c.in_default.not-text-22 is
returns-in_default c (Local Shares) is = c.in_default.not-text-23 is
returns-in_default c (Local Loads) is = c.in_default.not-text-24 is
returns-in_default c (Local Swaps) is = c.in_default.not-text-25 is
returns-in_default c (Local (OfCell CellLoads)) is = c.in_default.not-text-26 is
returns-in_default c (Local (OfCell Exchanges)) is = c.in_default.not-text-27 is
returns-in_default c (Local (OfCell ConfigReads)) is = c.in_default.not-text-28 is
returns-in_default c (Local (OfCell Publishes)) is = c.in_default.not-text-29 is
returns-in_default c (Local (OfCell MostlyReads)) is = c.in_default.not-text-30 is
returns-in_default c (Beside (Guards Outermost)) is = c.in_default.not-text-31 is
returns-in_default c (Beside (Guards Nested)) is = c.in_default.not-text-32 is
returns-in_default c (Beside (Guards Accelerated)) is = c.in_default.not-text-33 is
returns-in_default c (Beside Items) is = c.in_default.not-text-34 is
returns-in_default c (Beside HalfFull) is = c.in_default.not-text-35 is
returns-in_default c (Beside Looks) is = c.in_default.not-text-36 is
returns-in_default c (Beside Reads) is = c.in_default.not-text-37 is
returns-in_default c (Beside Gets) is = c.in_default.not-text-38 is
returns-in_default c (Beside Jobs) is = c.in_default.not-text-39 is
returns-in_default c (Beside Raws) is = c.in_default.not-text-40 is
returns-in_default c (Beside Changes) is = c.in_default.not-text-41 is
returns-in_default c (Beside Shares) is = c.in_default.not-text-42 is
returns-in_default c (Beside Loads) is = c.in_default.not-text-43 is
returns-in_default c (Beside Swaps) is = c.in_default.not-text-44 is
returns-in_default c (Beside (OfCell CellLoads)) is = c.in_default.not-text-45 is
returns-in_default c (Beside (OfCell Exchanges)) is = c.in_default.not-text-46 is
returns-in_default c (Beside (OfCell ConfigReads)) is = c.in_default.not-text-47 is
returns-in_default c (Beside (OfCell Publishes)) is = c.in_default.not-text-48 is
returns-in_default c (Beside (OfCell MostlyReads)) is = c.in_default.not-text-49 is
returns-in_default c Places is = c.in_default.not-text-50 is
returns-in_default c (Listed Queue) is = c.in_default.not-text-51 is
returns-in_default c (Listed Stack) is = c.in_default.not-text-52 is
returns-in_default c (Listed Walk) is = c.in_default.not-text-53 is
returns-in_default c (Listed Iter) is = c.in_default.not-text-54 is
returns-in_default c (Bagged Inside) is = c.in_default.not-text-55 is
returns-in_default c (Bagged Behind) is = c.in_default.not-text-56 is
returns-in_default c (Bagged All) is = c.in_default.not-text-57 is
