-- Marks and deletions of entries
use Rattle.std.specs.Prelude.{ℕ, ◌==◌, Bool, true, false, List, [], ◌∷◌, if◌then◌else◌}
use Rattle.sdd_core.specs.declared.tag.Tag.{Tag}
use Rattle.sdd_core.specs.declared.tag.Tag.TheVariants as tag
use Rattle.sdd_lists.specs.declared.link.Link.{Link}
use Rattle.sdd_lists.specs.Lists.{Entry}

-- the tag of the link of an entry that is neither marked nor deleted, of one that is marked, and of one that is deleted
abbrev pub says_clear : Tag → Bool
says_clear tag.None = true
says_clear tag.First = false
says_clear tag.Second = false
says_clear tag.Both = false

abbrev pub says_marked : Tag → Bool
says_marked tag.None = false
says_marked tag.First = true
says_marked tag.Second = false
says_marked tag.Both = false

abbrev pub says_deleted : Tag → Bool
says_deleted tag.None = false
says_deleted tag.First = false
says_deleted tag.Second = true
says_deleted tag.Both = true

module _ {T : Type 0} where
  -- the entry in slot k has this tag
  abbrev pub retagged : ℕ → Tag → List (Entry T) → List (Entry T)
  retagged k t [] = []
  retagged k t (e ∷ es) = if e.slot == k then record e { tag = t } ∷ es else e ∷ retagged k t es

  -- the entry that a link is of
  abbrev pub entry_of : Link T → T
  entry_of link = link.entry.now
