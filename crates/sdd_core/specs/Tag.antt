-- Tags and their numbers
use Rattle.std.specs.Prelude.{ℕ, ◌==◌, if◌then◌else◌, Result, Ok, Err}
use Rattle.sdd_core.specs.declared.tag.Tag.{Tag}
use Rattle.sdd_core.specs.declared.tag.Tag.TheVariants.{None, First, Second, Both}

abbrev pub number_of : Tag → ℕ
number_of None = 0
number_of First = 1
number_of Second = 2
number_of Both = 3

-- the tag with this number, or else the number
abbrev pub tag_numbered : ℕ → Result Tag ℕ
tag_numbered number =
    if number == 0 then Ok None
    else if number == 1 then Ok First
    else if number == 2 then Ok Second
    else if number == 3 then Ok Both
    else Err number
