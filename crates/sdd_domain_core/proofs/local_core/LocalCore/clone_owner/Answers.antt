use Rattle.std.proofs.Common.{ℕ, ◌+◌, ◌<◌, List, refl, sym, ap, ◌∙◌, subst, arith, rules}
use Rattle.std.specs.Prelude.{true, slice_set}
use base.Stored.{Gv}
use Rattle.atomic_table.specs.declared.shared.Seat.{Seat}
use Rattle.sdd_atomics.specs.TableFacts.{facts_of}
use Rattle.sdd_rights.specs.declared.right.StandingKind.TheVariants as StandingKind
use Rattle.sdd_rights.specs.Owner.{witness_of_owner}
use Rattle.sdd_rights.specs.Right.{number_of}
use Rattle.sdd_rights.specs.declared.read_fraction.ReadFraction.{ReadFraction}
use Rattle.sdd_shared_values.specs.SharedValues.{IsValueCode}
use Rattle.sdd_shared_values.specs.ValueFractions.{FractionContent}
use Rattle.sdd_shared_values.specs.declared.value_fraction.ValueFraction.{ValueFraction}
use Rattle.sdd_rights.specs.declared.views.View.{View}
use Rattle.sdd_domain_invariant.specs.Slots.SlotSteps.{behind, noted}
use Rattle.sdd_domain_steps.specs.Items.{slots_home}
use Rattle.sdd_domain_steps.specs.LocalState.{AddsAt, HasMost, IsLone, KnowsOwner, LocalState}
use Rattle.sdd_domain_core.proofs.ClonedOwner.{counts_most, counts_fewer, full_view, full_same, came_place, came_rests, came_told, came_free, unit_is, drawn_view, drawn_owns, drawn_rests, left_view, other_shows, other_read_fraction}
use Rattle.sdd_domain_steps.proofs.InPlace.{bare, knew_word, noted_at, owner_table, placed, right_anew}
use Rattle.sdd_domain_steps.proofs.LocalLooks.{has_tables, with_seat}
use Rattle.sdd_domain_core.proofs.Recalled.{IsRecalled, is_recalled}
use Rattle.sdd_domain_core.proofs.KeptBetweenCalls.{noted_on}
use Rattle.sdd_domain_core.proofs.local_core.LocalCore.clone_owner.Given.{Over}
use Rattle.sdd_domain_core.proofs.local_core.LocalCore.clone_owner.Goals.{After-recall}
use Rattle.sdd_domain_core.proofs.local_core.LocalCore.clone_owner.Goals as goal

-- the owner was recalled
recalled : (g : Over) (c : After-recall g) → (read_fraction : ReadFraction) × IsRecalled (facts_of c.self.inside.domain.now.table) c.self.inside.place
    c.self.inside.own
    (c.self.view_is 0) c.args.right.now StandingKind.Shared c.witness-owner.result.now read_fraction c.number-slot.result c.self.inside.seat c.recall.new.seat
recalled g c = let l = c.self.inside in let m : LocalState _ = c.self.view_is 0 in let right = c.args.right.now in
    let home = c.requires.home ∙ sym (ap slots_home c.self.view_is) in let found = c.witness-owner.ensures.owner (has_tables m right home) in (
      found.0,
      is_recalled l.domain.now.limits (facts_of l.domain.now.table) l.place l.own m right StandingKind.Shared c.witness-owner.result.now found.0
          c.number-slot.result
          l.seat c.recall.new.seat l.domain.now.limited.1 refl refl refl home c.requires.kind (λ _. found.1) c.number-slot.ensures c.recall.ensures
          c.self.invariant.0,
    )

pub add_owner-requires : goal.add_owner-requires
add_owner-requires g c =
    let l = c.self.inside in let b = (facts_of l.domain.now.table) in let m : LocalState _ = c.self.view_is 0 in let right = c.args.right.now in
    let e = recalled g (goal.at.add_owner-requires g c).After-recall in let read_fraction = e.0 in let known = e.1 in let q = known.between in
    let w = c.witness-owner.result.now in let value : Gv = read_fraction.shown in let slot : ℕ = c.number-slot.result in let is = c.number-slot.ensures in
    let t = c.recall.new.seat in let kind = c.requires.kind in record {
      ready = record {
        place = (placed b l.place l.own t q).0;
        rests = q.rests;
      };
      inside = search rules;
      none = (q.quiet.owns, q.quiet.drawn, q.seen.owns);
      free = (q.quiet.over, q.pledges);
      owner = (
        owner_table b m known.on right StandingKind.Shared known.home kind w read_fraction (λ _. known.owner) slot is
            ∙ sym q.home,
        (value, known.views),
      );
    }

pub invariant_of-self : goal.invariant_of-self
invariant_of-self g c =
    let l = c.self.inside in let b = (facts_of l.domain.now.table) in let e = recalled g (goal.at.invariant_of-self g c).After-recall in
    let read_fraction = e.0 in
    let known = e.1 in let same = known.same in let value : Gv = read_fraction.shown in let slot : ℕ = c.number-slot.result in let t = c.recall.new.seat in
    let a = c.add_owner.new.seat in let n : ℕ = c.add_owner.result in let adds = c.add_owner.ensures value known.views in
    let many = counts_most n adds.2.several c.if-add_owner-ge-MOST_SHARED.true in let u = a in let full = full_view b slot value t a n adds many in
    let words : List ℕ = noted slot full.0 t.me.0 in
    noted_on b l.place l.own l.section.lifetime l.due l.known.slots l.jobs l.privates.entries l.tally l.seat c.self.invariant t known.same u words adds.0
    full.2 full.1

pub returns-then-add_owner-ge-MOST_SHARED : goal.returns-then-add_owner-ge-MOST_SHARED
returns-then-add_owner-ge-MOST_SHARED g c =
    let l = c.self.inside in let b = (facts_of l.domain.now.table) in let m : LocalState _ = c.self.view_is 0 in let right = c.args.right.now in
    let e = recalled g (goal.at.returns-then-add_owner-ge-MOST_SHARED g c).After-recall in let read_fraction = e.0 in let known = e.1 in
    let same = known.same in
    let k : ℕ = number_of right in let value : Gv = read_fraction.shown in let slot : ℕ = c.number-slot.result in let is = c.number-slot.ensures in
    let t = c.recall.new.seat in record {
      came =
          let a = c.add_owner.new.seat in let n : ℕ = c.add_owner.result in let adds = c.add_owner.ensures value known.views in
          let many = counts_most n adds.2.several c.if-add_owner-ge-MOST_SHARED.true in
          let full = full_view b slot value t a n adds many in (
            n,
            (
              refl,
              subst (λ (x : LocalState _). HasMost k n x (with_seat m a)) c.self.view_is record {
                member = (
                  full.0,
                  noted_at m slot k is true true refl l.seat t a same refl known.all (λ i z ws. slice_set ws
                      (behind z i) full.0) adds.0 full.1,
                );
                counted = adds.2.several;
                many = many;
                lone = λ lone. (
                  knew_word m slot k is true true refl l.seat t a same refl known.all n adds.2.knew lone,
                  ap (with_seat m) (full_same b slot value t a n adds many (ap (λ (y : Seat ValueFraction View). y.me.0.epoch.all) same ∙ known.all lone)
                      ∙ same),
                );
              },
            ),
          );
      recalled = subst (λ (x : LocalState _). IsLone x → (value : Gv) × KnowsOwner x (number_of right) true value) c.self.view_is
          (λ lone. (value, known.tells lone));
    }

pub draw_unit-requires : goal.draw_unit-requires
draw_unit-requires g c =
    let l = c.self.inside in let b = (facts_of l.domain.now.table) in let e = recalled g (goal.at.draw_unit-requires g c).After-recall in
    let read_fraction = e.0 in
    let known = e.1 in let q = known.between in let value : Gv = read_fraction.shown in let slot : ℕ = c.number-slot.result in let t = c.recall.new.seat in
    let a = c.add_owner.new.seat in let n : ℕ = c.add_owner.result in let adds = c.add_owner.ensures value known.views in
    let few = counts_fewer n adds.2.several (let small = c.if-add_owner-ge-MOST_SHARED.false in omega arith) in let none = bare b l.place l.own t q in record {
      ready = record {
        place = came_place b slot value t a n adds few none (placed b l.place l.own t q).0;
        rests = came_rests b slot value t a n adds few none;
      };
      inside = search rules;
      own = let free = came_free b slot value t a n adds few none in ((true, value, came_told b slot value t a n adds few none), free.0, free.1);
    }

pub into_read_fraction-read_fraction-requires : goal.into_read_fraction-read_fraction-requires
into_read_fraction-read_fraction-requires g c =
    let l = c.self.inside in let b = (facts_of l.domain.now.table) in let e = recalled g (goal.at.into_read_fraction-read_fraction-requires g c).After-recall in
    let read_fraction = e.0 in
    let known = e.1 in let q = known.between in let value : Gv = read_fraction.shown in let slot : ℕ = c.number-slot.result in let t = c.recall.new.seat in
    let a = c.add_owner.new.seat in let n : ℕ = c.add_owner.result in let adds = c.add_owner.ensures value known.views in
    let few = counts_fewer n adds.2.several (let small = c.if-add_owner-ge-MOST_SHARED.false in omega arith) in let none = bare b l.place l.own t q in
    let is = unit_is b slot value t a n adds few none c.draw_unit.result.content c.draw_unit.new.seat c.draw_unit.ensures q.knows in record {
      full = subst IsValueCode (sym (ap (λ (x : FractionContent). x.shown) is)) read_fraction.full;
      one = ap (λ (x : FractionContent). x.units) is;
      free = ap (λ (x : FractionContent). x.lent) is;
    }

pub cut-other-requires : goal.cut-other-requires
cut-other-requires g c =
    let l = c.self.inside in let b = (facts_of l.domain.now.table) in let e = recalled g (goal.at.cut-other-requires g c).After-recall in
    let read_fraction = e.0 in
    let known = e.1 in let q = known.between in let value : Gv = read_fraction.shown in let slot : ℕ = c.number-slot.result in let t = c.recall.new.seat in
    let a = c.add_owner.new.seat in let n : ℕ = c.add_owner.result in let adds = c.add_owner.ensures value known.views in
    let few = counts_fewer n adds.2.several (let small = c.if-add_owner-ge-MOST_SHARED.false in omega arith) in let none = bare b l.place l.own t q in
    let v = drawn_view b slot value t a n adds few none c.draw_unit.result.content c.draw_unit.new.seat c.draw_unit.ensures q.knows in record {
      ready = record {
        place = subst (λ (j : ℕ). 0 < j) (sym (ap (λ (x : View). x.epoch.state) v)) (placed b l.place l.own t q).0;
        rests = drawn_rests b slot value t a n adds few none c.draw_unit.result.content c.draw_unit.new.seat c.draw_unit.ensures q.knows;
      };
      one =
          let one = drawn_owns b slot value t a n adds few none c.draw_unit.result.content c.draw_unit.new.seat c.draw_unit.ensures q.knows in
          (slot, one.0, one.1);
      free = ap (λ (x : View). x.slots.holds) v ∙ q.quiet.holds;
    }

pub of_witness-requires : goal.of_witness-requires
of_witness-requires g c =
    let l = c.self.inside in let b = (facts_of l.domain.now.table) in let e = recalled g (goal.at.of_witness-requires g c).After-recall in
    let read_fraction = e.0 in
    let known = e.1 in let q = known.between in let value : Gv = read_fraction.shown in let slot : ℕ = c.number-slot.result in let t = c.recall.new.seat in
    let a = c.add_owner.new.seat in let n : ℕ = c.add_owner.result in let adds = c.add_owner.ensures value known.views in
    let few = counts_fewer n adds.2.several (let small = c.if-add_owner-ge-MOST_SHARED.false in omega arith) in let none = bare b l.place l.own t q in
    let made = other_read_fraction b slot value t a n adds few none c.draw_unit.result.content c.draw_unit.new.seat c.draw_unit.ensures q.knows
    c.into_read_fraction-read_fraction.result
    c.into_read_fraction-read_fraction.ensures in record {
      owner = other_shows b slot value t a n adds few none c.draw_unit.result.content c.draw_unit.new.seat c.draw_unit.ensures q.knows
          c.cut-other.result.views c.cut-other.ensures.owner.1 ∙ ap (witness_of_owner slot true) (sym made.shows);
      place = made.unit.number_is;
      inside = search rules;
      kind = search rules;
    }

pub invariant_of-self-2 : goal.invariant_of-self-2
invariant_of-self-2 g c =
    let l = c.self.inside in let b = (facts_of l.domain.now.table) in let e = recalled g (goal.at.invariant_of-self-2 g c).After-recall in
    let read_fraction = e.0 in
    let known = e.1 in let same = known.same in let q = known.between in let value : Gv = read_fraction.shown in let slot : ℕ = c.number-slot.result in
    let t = c.recall.new.seat in let a = c.add_owner.new.seat in let n : ℕ = c.add_owner.result in let adds = c.add_owner.ensures value known.views in
    let few = counts_fewer n adds.2.several (let small = c.if-add_owner-ge-MOST_SHARED.false in omega arith) in let none = bare b l.place l.own t q in
    let u = c.cut-other.new.seat in
    let left = left_view b slot value t a n adds few none c.draw_unit.result.content c.draw_unit.new.seat c.draw_unit.ensures q.knows u
    c.cut-other.ensures.participant in
    let words : List ℕ = noted slot (n + 1) t.me.0 in
    noted_on b l.place l.own l.section.lifetime l.due l.known.slots l.jobs l.privates.entries l.tally l.seat c.self.invariant t known.same u words left.0
    left.1 left.2

pub returns : goal.returns
returns g c =
    let l = c.self.inside in let b = (facts_of l.domain.now.table) in let m : LocalState _ = c.self.view_is 0 in let right = c.args.right.now in
    let e = recalled g (goal.at.returns g c).After-recall in let read_fraction = e.0 in let known = e.1 in let same = known.same in let q = known.between in
    let k : ℕ = number_of right in let w = c.witness-owner.result.now in let value : Gv = read_fraction.shown in let slot : ℕ = c.number-slot.result in
    let is = c.number-slot.ensures in let t = c.recall.new.seat in let kind = c.requires.kind in record {
      came =
          let a = c.add_owner.new.seat in let n : ℕ = c.add_owner.result in let adds = c.add_owner.ensures value known.views in
          let few = counts_fewer n adds.2.several (let small = c.if-add_owner-ge-MOST_SHARED.false in omega arith) in let none = bare b l.place l.own t q in
          let u = c.cut-other.new.seat in
          let left = left_view b slot value t a n adds few none c.draw_unit.result.content c.draw_unit.new.seat c.draw_unit.ensures q.knows u
          c.cut-other.ensures.participant in
          let made = c.of_witness.ensures in
          let unit = other_read_fraction b slot value t a n adds few none c.draw_unit.result.content c.draw_unit.new.seat c.draw_unit.ensures q.knows
          c.into_read_fraction-read_fraction.result
          c.into_read_fraction-read_fraction.ensures in (
            n,
            (
              subst (λ (x : LocalState _). AddsAt k n x (with_seat m u)) c.self.view_is record {
                member = noted_at m slot k is true true refl l.seat t u same refl known.all (λ i z ws. slice_set ws (behind z i) (n + 1)) left.0 left.2;
                counted = adds.2.several;
                left = adds.2.left;
                few = few;
                lone = λ lone. knew_word m slot k is true true refl l.seat t u same refl known.all n adds.2.knew lone;
              },
              record {
                slot = made.number ∙ is;
                home = right_anew b m known.on right StandingKind.Shared known.home kind w read_fraction (λ _. known.owner) slot is c.cut-other.result
                    c.into_read_fraction-read_fraction.result
                    l.domain.now.limits.slots c.of_witness.result (c.cut-other.ensures.owner.0 ∙ (c.draw_unit.ensures.0 ∙ (adds.0
                    ∙ q.home))) unit.unit.gamma_is refl made.home ∙ sym known.home;
                kind = made.kind ∙ sym kind;
                views = made.views ∙ (other_shows b slot value t a n adds few none c.draw_unit.result.content c.draw_unit.new.seat c.draw_unit.ensures q.knows
                    c.cut-other.result.views c.cut-other.ensures.owner.1
                    ∙ (sym known.views ∙ c.witness-owner.ensures.views));
              },
            ),
          );
      recalled = subst (λ (x : LocalState _). IsLone x → (value : Gv) × KnowsOwner x (number_of right) true value) c.self.view_is
          (λ lone. (value, known.tells lone));
    }
