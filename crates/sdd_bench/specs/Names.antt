-- The names of the operations
use Rattle.std.specs.Prelude.{ℕ, List, codes}
use Rattle.sdd_bench.specs.declared.threads.Timed.{Timed}
use Rattle.sdd_bench.specs.declared.threads.Timed.TheVariants.{Guard, Nested as NestedGuard, Accelerate, MakeAndRetire, CloneOwn, CloneCommon, Load as TimedLoad, SwapAndRetire, Configuration}
use Rattle.sdd_bench.specs.declared.operation.Guarding.TheVariants.{Outermost, Nested, Accelerated}
use Rattle.sdd_bench.specs.declared.operation.CellWork.TheVariants.{Loads as CellLoads, Exchanges, Reads as ConfigReads, Publishes, MostlyReads}
use Rattle.sdd_bench.specs.declared.operation.Task.TheVariants.{Guards, Items, HalfFull, Looks, Reads, Gets, Jobs, Raws, Changes, Shares, Loads, Swaps, OfCell}
use Rattle.sdd_bench.specs.declared.operation.Listing.TheVariants.{Iter, Queue, Stack, Walk}
use Rattle.sdd_bench.specs.declared.operation.Bagging.TheVariants.{Inside, Behind, All as AllOfBag}
use Rattle.sdd_bench.specs.declared.operation.Operation.{Operation}
use Rattle.sdd_bench.specs.declared.operation.Operation.TheVariants.{World, Local, Beside, Places, Item, Job, Read, Look, Load, Share, Raw, Swap, Listed, Bagged}

abbrev pub name_of : Operation → List ℕ
name_of (World Outermost) = codes "world-outermost"
name_of (World Nested) = codes "world-nested"
name_of (World Accelerated) = codes "world-accelerated"
name_of (Local (Guards Outermost)) = codes "local-outermost"
name_of (Local (Guards Nested)) = codes "local-nested"
name_of (Local (Guards Accelerated)) = codes "local-accelerated"
name_of (Local Items) = codes "local-item"
name_of (Local HalfFull) = codes "local-half-full"
name_of (Local Looks) = codes "local-look"
name_of (Local Reads) = codes "local-read"
name_of (Local Gets) = codes "local-get"
name_of (Local Jobs) = codes "local-job"
name_of (Local Raws) = codes "local-raw"
name_of (Local Changes) = codes "local-change"
name_of (Local Shares) = codes "local-share"
name_of (Local Loads) = codes "local-load"
name_of (Local Swaps) = codes "local-swap"
name_of (Local (OfCell CellLoads)) = codes "local-shared-load"
name_of (Local (OfCell Exchanges)) = codes "local-exchange"
name_of (Local (OfCell ConfigReads)) = codes "local-config-read"
name_of (Local (OfCell Publishes)) = codes "local-publish"
name_of (Local (OfCell MostlyReads)) = codes "local-config"
name_of (Beside (Guards Outermost)) = codes "beside-outermost"
name_of (Beside (Guards Nested)) = codes "beside-nested"
name_of (Beside (Guards Accelerated)) = codes "beside-accelerated"
name_of (Beside Items) = codes "beside-item"
name_of (Beside HalfFull) = codes "beside-half-full"
name_of (Beside Looks) = codes "beside-look"
name_of (Beside Reads) = codes "beside-read"
name_of (Beside Gets) = codes "beside-get"
name_of (Beside Jobs) = codes "beside-job"
name_of (Beside Raws) = codes "beside-raw"
name_of (Beside Changes) = codes "beside-change"
name_of (Beside Shares) = codes "beside-share"
name_of (Beside Loads) = codes "beside-load"
name_of (Beside Swaps) = codes "beside-swap"
name_of (Beside (OfCell CellLoads)) = codes "beside-shared-load"
name_of (Beside (OfCell Exchanges)) = codes "beside-exchange"
name_of (Beside (OfCell ConfigReads)) = codes "beside-config-read"
name_of (Beside (OfCell Publishes)) = codes "beside-publish"
name_of (Beside (OfCell MostlyReads)) = codes "beside-config"
name_of Places = codes "domain-places"
name_of Item = codes "world-item"
name_of Job = codes "world-job"
name_of Read = codes "world-read"
name_of Look = codes "world-look"
name_of Load = codes "world-load"
name_of Share = codes "world-share"
name_of Raw = codes "world-raw"
name_of Swap = codes "world-swap"
name_of (Listed Queue) = codes "world-queue"
name_of (Listed Stack) = codes "world-stack"
name_of (Listed Walk) = codes "world-walk"
name_of (Listed Iter) = codes "world-iter"
name_of (Bagged Inside) = codes "world-bag"
name_of (Bagged Behind) = codes "world-bag-behind"
name_of (Bagged AllOfBag) = codes "world-bag-all"

-- The names of what is timed
abbrev pub name_of_timed : Timed → List ℕ
name_of_timed Guard = codes "guard"
name_of_timed NestedGuard = codes "nested"
name_of_timed Accelerate = codes "accelerate"
name_of_timed MakeAndRetire = codes "make-and-retire"
name_of_timed CloneOwn = codes "clone-own"
name_of_timed CloneCommon = codes "clone-common"
name_of_timed TimedLoad = codes "load"
name_of_timed SwapAndRetire = codes "swap-and-retire"
name_of_timed Configuration = codes "configuration"
