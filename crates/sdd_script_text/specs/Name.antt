-- The texts of names and of tags
use Rattle.std.specs.Prelude.{ℕ, List, ◌++◌, codes}
use Rattle.std.specs.Fmt.{decimal}
use Rattle.sdd_core.specs.declared.tag.Tag.{Tag}
use Rattle.sdd_core.specs.declared.tag.Tag.TheVariants.{None, First, Second, Both}
use Rattle.sdd_script_text.specs.declared.name.PlaceName.{PlaceName}
use Rattle.sdd_script_text.specs.declared.name.GuardName.{GuardName}
use Rattle.sdd_script_text.specs.declared.name.OwnerName.{OwnerName}
use Rattle.sdd_script_text.specs.declared.name.ItemName.{ItemName}
use Rattle.sdd_script_text.specs.declared.name.CellName.{CellName}
use Rattle.sdd_script_text.specs.declared.name.CollectorName.{CollectorName}
use Rattle.sdd_script_text.specs.declared.name.QueueName.{QueueName}
use Rattle.sdd_script_text.specs.declared.name.StackName.{StackName}
use Rattle.sdd_script_text.specs.declared.name.BagName.{BagName}
use Rattle.sdd_script_text.specs.declared.name.JobName.{JobName}

abbrev pub place : PlaceName → List ℕ
place name = codes "p" ++ decimal name.0

abbrev pub guard : GuardName → List ℕ
guard name = codes "g" ++ decimal name.0

abbrev pub owner : OwnerName → List ℕ
owner name = codes "o" ++ decimal name.0

abbrev pub item : ItemName → List ℕ
item name = codes "i" ++ decimal name.0

abbrev pub cell : CellName → List ℕ
cell name = codes "c" ++ decimal name.0

abbrev pub collector : CollectorName → List ℕ
collector name = codes "k" ++ decimal name.0

abbrev pub queue : QueueName → List ℕ
queue name = codes "q" ++ decimal name.0

abbrev pub stack : StackName → List ℕ
stack name = codes "s" ++ decimal name.0

abbrev pub bag : BagName → List ℕ
bag name = codes "b" ++ decimal name.0

abbrev pub job : JobName → List ℕ
job name = codes "j" ++ decimal name.0

abbrev pub tag : Tag → List ℕ
tag None = codes "None"
tag First = codes "First"
tag Second = codes "Second"
tag Both = codes "Both"
