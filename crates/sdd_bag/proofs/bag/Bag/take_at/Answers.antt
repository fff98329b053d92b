use Rattle.std.proofs.Common.{rules, ◌≡◌, ◌+◌, ◌<◌, ℕ, List, Option, Some, MatchOption, ap, ◌∙◌, sym, subst}
use Rattle.sdd_bag.specs.declared.behind.Behind.{Behind}
use Rattle.sdd_bag.specs.Bag.{BagParts}
use Rattle.sdd_bag.specs.Lent.{AreEmptyFrom, TakesOut}
use Rattle.sdd_bag.specs.Spots.{HasFirst, StandsIn, places_of, start_of}
use Rattle.sdd_bag.specs.Storage.{KeptPlace, names_of}
use Rattle.sdd_bag.specs.Storages.{StorageName}
use Rattle.sdd_bag.proofs.InsertedKeys.{same-there}
use Rattle.sdd_bag.proofs.Spots.{keys-asked, out-of}
use Rattle.sdd_bag.proofs.bag.Bag.take_at.Goals as goal

pub take_out-requires-in-Some : goal.take_out-requires-in-Some
take_out-requires-in-Some g c =
    let T = g.row.T.Denot in let B = g.row.B.Denot in let shown = g.B.Shelf.shown in let len = g.row.ARRAY_LEN in let bag = c.args.self.now in
    let places : (s : StorageName) (t : StorageName) → s ≡ t → s.places ≡ t.places = λ s t e. ap (λ (u : StorageName). u.places) e in
    let asked = keys-asked shown len c.in-Some.behind bag c.self.inside.keys c.places-first.result.now c.places-here.result.now
    (sym (ap (λ (b : BagParts T B). b.overflow.places) c.self.view_is))
    (subst (λ (b : Option (Behind B)). StandsIn shown len b bag) c.in-Some.is c.requires.stands)
    (subst (λ (b : Option (Behind B)). HasFirst len b bag) c.in-Some.is c.requires.first)
    (λ s is. c.places-first.ensures ∙ places c.storage_on.result.now s (same-there c.storage_on.result.now s (c.storage_on.ensures ∙ is)))
    (λ s is. c.places-here.ensures
    ∙ places c.storage_on-in-Some.result.now s (same-there c.storage_on-in-Some.result.now s (c.storage_on-in-Some.ensures ∙ is))) in
    (search rules, (search rules, (asked.start_is, (asked.front, asked.array))))

pub returns-in-None-clause-names : goal.returns-in-None-clause-names
returns-in-None-clause-names g c =
    let T = g.row.T.Denot in let B = g.row.B.Denot in
    let new : BagParts T B =
    record { primary = c.take_out.new.self; overflow = record { stack = c.self.inside.stack; places = c.self.inside.keys } } in
    subst (λ (b : Option (Behind B)). names_of (places_of b new) ≡ names_of (places_of b c.args.self.now)) (sym c.in-None.is)
    (c.take_out.ensures.names ∙ ap (λ (b : BagParts T B). names_of b.primary.places) c.self.view_is)

pub returns-in-Some-clause-out : goal.returns-in-Some-clause-out
returns-in-Some-clause-out g c =
    let T = g.row.T.Denot in let B = g.row.B.Denot in let Places : Type 0 = List (KeptPlace T) in let len = g.row.ARRAY_LEN in let at = c.args.at in
    let old = c.args.self.now in let keys : Places = c.take_out-in-Some.new.self in let r = c.take_out-in-Some.result in let start = c.in-Some.behind.start in
    let new : BagParts T B =
    record { primary = c.self.inside.primary; overflow = record { stack = c.self.inside.stack; places = keys } } in
    subst (λ (b : Option (Behind B)). MatchOption r ((new ≡ old) × AreEmptyFrom len (start_of b) at (places_of b old))
    (λ (p : T × ℕ). (at < len) × TakesOut len p.1 (start_of b + at) p.0 (places_of b old) (places_of b new))) (sym c.in-Some.is)
    (out-of (Some c.in-Some.behind) len at old new r
    (ap (λ (b : BagParts T B). record b { overflow = record b.overflow { places = keys } }) c.self.view_is)
    (subst (λ (ps : Places). MatchOption r ((keys ≡ ps) × AreEmptyFrom len start at ps)
    (λ (p : T × ℕ). (at < len) × TakesOut len p.1 (start + at) p.0 ps keys))
    (ap (λ (b : BagParts T B). b.overflow.places) c.self.view_is) c.take_out-in-Some.ensures.out))
