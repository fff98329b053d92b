-- What a slot's word tells of an item's owners
use Rattle.std.proofs.Common.{List, Option, None, Some, ◌≡◌, ◌⊎◌, inl, inr, ℕ, ◌+◌, ◌<◌, ◌≤◌, ⊎_elim, sym, ap, ◌∙◌, subst, arith}
use Rattle.std.specs.Prelude.{Ok, IfSome, [], ◌∷◌}
use base.Stored.{Gv}
use Rattle.atomic_table.specs.declared.shared.Seat.{Seat}
use Rattle.sdd_atomics.specs.TableFacts.{TableFacts}
use Rattle.sdd_shared_values.specs.declared.value_fraction.ValueFraction.{ValueFraction}
use Rattle.sdd_rights.specs.declared.views.View.{View}
use Rattle.sdd_domain_invariant.specs.Slots.SlotSteps.{noted}
use Rattle.sdd_domain_steps.specs.declared.cells.values.LooseOwner.{LooseOwner}
use Rattle.sdd_rights.specs.declared.right.Right.{Right}
use Rattle.sdd_rights.specs.declared.right.StandingKind.TheVariants as kinds
use Rattle.sdd_rights.specs.StandingKind.{is_shared}
use Rattle.sdd_rights.specs.Owner.{witness_of_owner}
use Rattle.sdd_rights.specs.Right.{number_of, views_of}
use Rattle.sdd_rights.specs.declared.views.ShownValue.{ShownValue}
use Rattle.sdd_domain_invariant.specs.Epoch.{IsLone}
use Rattle.sdd_domain_invariant.specs.Slots.FilledInvariant.{newest}
use Rattle.sdd_domain_invariant.specs.Slots.Records.{IsIn}
use Rattle.sdd_domain_steps.specs.Cells.{IsBoundTo, IsWith, table_home}
use Rattle.sdd_domain_steps.specs.Items.{IsRightTo, slots_home}
use Rattle.sdd_domain_steps.specs.LocalState.{LocalState, IsLone as IsAlone}
use Rattle.sdd_domain_steps.specs.SeenOwners.{Ends, ShowsTo}
use Rattle.sdd_domain_invariant.specs.Codes.{alive, counted, most_owners, shared_base}
use Rattle.sdd_domain_invariant.proofs.Codes.{counted_is, counts_or_not, none_left, some_left}

-- it has none any more, or they aren't counted
pub none_counts : (x : ℕ) → x ≤ shared_base → (counted x ≡ 0) ⊎ (alive x ≡ 0)
none_counts x low = ⊎_elim
    (λ (one : counted x ≡ 1). let e : x ≡ shared_base = (let h = counted_is x one in omega arith) in inr (ap alive e ∙ none_left.0))
    (λ (none : counted x ≡ 0). inl none) (counts_or_not x)

-- it has some, and fewer than may be
pub some_count : (x : ℕ) → shared_base < x → x < shared_base + most_owners → (counted x ≡ 1) × (0 < alive x) × (alive x < most_owners)
some_count x more few = let s = some_left x more in let a = s.0 in (s.3, (omega arith), (omega arith))

-- it has as many as may be
pub most_count : (x : ℕ) → shared_base + most_owners ≤ x → (counted x ≡ 1) × (most_owners ≤ alive x)
most_count x many = let s = some_left x (omega arith) in let a = s.0 in (s.3, (omega arith))

-- whether an owner came or not, what is known of words alone may be other
pub ends_with : (b : TableFacts) (slot : ℕ) (came : Option LooseOwner) (s s' : Seat ValueFraction View) → Ends b slot (Ok came) s s'
    → (words : List ℕ) × IsWith (record s.me.0 { words = words }) s s'
ends_with b slot None s s' e = (s.me.0.words, e.0)
ends_with b slot (Some o) s s' e = (noted slot (e.word + 1) s.me.0, e.after)

-- ---- the right of the owner that came
some_is : {A : Type 0} (x y : A) → Some x ≡ Some y → x ≡ y
some_is x y e = cc

head_is : (x y : ℕ) → x ∷ [] ≡ y ∷ [] → x ≡ y
head_is x y e = cc

module _ {J : Type 0} (m : LocalState J) (slot : ℕ) (b : TableFacts) (s s' : Seat ValueFraction View) (home : table_home b ≡ slots_home m)
    (seen : m.shown ≡ s.me.0.fractions.sees) (filled : m.filled ≡ s.me.0.fractions.filled) (alone : IsAlone m → IsLone s.me.0.epoch) where
  pub came_right : (held : Option Right) (loose : Option LooseOwner) → Ends b slot (Ok loose) s s' → IsBoundTo b kinds.Shared held loose
      → IfSome held (λ right. (value : Gv) × IsRightTo m kinds.Shared value right × ShowsTo m slot value)
  came_right None loose e bound = tt
  came_right (Some right) None e bound = let never = bound.views in absurd (cc)
  came_right (Some right) (Some o) e bound = let value : Gv = o.read_fraction.shown in (
    value,
    record {
      home = bound.home.0 ∙ home;
      kind = bound.home.1;
      value = some_is (views_of right) o.owner.views bound.views ∙ (e.loose.views
          ∙ (λ d. witness_of_owner (sym (head_is (number_of right) o.slot bound.slots) d) (is_shared (sym bound.home.1 d)) value));
    },
    record {
      seen = λ g is. e.shows.seen g (subst (λ (rs : List ShownValue). IsIn rs slot g) seen is);
      newest = λ lone. ap (newest slot) filled ∙ e.shows.newest (alone lone);
    },
  )
