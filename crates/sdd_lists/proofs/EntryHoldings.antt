-- What an entry holds is what its value holds, and its link
use Rattle.std.proofs.Common.{◌≡◌, List, [], ◌∷◌, ◌++◌}
use Rattle.sdd_world_model.specs.OwnerOrCell.{SpaceId, OwnerOrCell, AreOf}
use Rattle.sdd_lists.specs.declared.linked_entry.LinkedEntry.{LinkedEntry}
use Rattle.sdd_lists.specs.Entries.{holdings_of, link_home_of, link_part, value_of}

both-of : (home : SpaceId) (hs js : List OwnerOrCell) → AreOf home hs → AreOf home js → AreOf home (hs ++ js)
both-of home [] js a b = b
both-of home (h ∷ hs) js a b = (a.0, both-of home hs js a.1 b)

module _ {T : Type 0} (holds : T → List OwnerOrCell) (home : SpaceId) (e : LinkedEntry T) where
  pub entry-held : (value : T) → value_of e ≡ value → AreOf home (holds value) → link_home_of e ≡ home.cells → AreOf home (holdings_of holds e)
  entry-held value is are link =
      let own : AreOf home (holds (value_of e)) = rw is are in
      both-of home (holds (value_of e)) (link_part e) own (link, tt)
