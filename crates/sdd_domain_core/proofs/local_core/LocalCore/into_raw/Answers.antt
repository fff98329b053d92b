use lib.ListN.{get_elem?}
use Rattle.sdd_rights.specs.Units.{GhostName}
use Rattle.std.proofs.Common.{◌≡◌, ℕ, ◌<◌, List, [], ◌∷◌, refl, sym, ap, ◌∙◌, subst, rules, false}
use Rattle.std.specs.Prelude.{Bool, false}
use base.Stored.{Gv}
use Rattle.atomic_table.specs.declared.shared.Seat.{Seat}
use Rattle.sdd_atomics.specs.TableFacts.{facts_of}
use Rattle.sdd_rights.specs.Owner.{witness_of_owner}
use Rattle.sdd_rights.specs.StandingKind.{is_shared}
use Rattle.sdd_rights.specs.Right.{number_of}
use Rattle.sdd_rights.specs.declared.views.View.{View}
use Rattle.sdd_rights.specs.declared.views.Sizes.{Sizes}
use Rattle.sdd_rights.specs.Views.{owner_of}
use Rattle.sdd_shared_values.specs.declared.value_fraction.ValueFraction.{ValueFraction}
use Rattle.sdd_domain_invariant.specs.Slots.FilledInvariant.{HasRecord}
use Rattle.sdd_domain_invariant.specs.Fractions.FractionSteps.{regained}
use Rattle.sdd_atomics.specs.DomainSeat.{Taught, Moved}
use Rattle.sdd_domain_steps.specs.RawItems.{PutsOut, put_out}
use Rattle.sdd_domain_steps.specs.BetweenCalls.{AreLentTo, AgreesWithView}
use Rattle.sdd_domain_steps.specs.InBags.{known_waiting}
use Rattle.sdd_domain_steps.specs.Receipt.{IsTallied}
use Rattle.sdd_domain_steps.specs.LocalState.{LocalState, IsLone, KnowsOwner}
use Rattle.sdd_domain_steps.proofs.LocalLooks.{with_view, recalls_to, has_tables}
use Rattle.sdd_domain_steps.proofs.BetweenCalls.{has_place, same_recalled}
use Rattle.sdd_domain_core.proofs.RawCore.{put_home, put_view, put_others, between_calls_out}
use Rattle.sdd_domain_core.proofs.local_core.LocalCore.into_raw.Goals as goal

pub take_in-requires : goal.take_in-requires
take_in-requires g c =
    let l = c.self.inside in let table = (facts_of l.domain.now.table) in let q = c.self.invariant.0 in let slot : ℕ = number_of c.args.right in
    let by = c.into_owner-owner.ensures.owner (has_tables c.args.self.now c.args.right c.requires.home) in let shown : Gv = c.into_owner-owner.result.1.shown in
    let views = by.owner ∙ ap (λ (b : Bool). witness_of_owner slot b shown) (ap is_shared c.requires.kind) in
    let recalled = c.recall.ensures slot false shown views in let same = same_recalled table l.place slot false shown l.seat c.recall.new.seat recalled in
    record {
      rests = ap (λ (x : Seat ValueFraction View). x.me.0.fractions.moves) same ∙ q.rests;
      owner =
          let tables = by.table in let mine = ap (λ (h : GhostName). h.tables) c.requires.home in
          let there = ap (λ (m : LocalState _). m.home) c.self.view_is in
          let same_table : c.into_owner-owner.result.0.table_id ≡ l.seat.table_id = cc in
          (same_table ∙ sym (ap (λ (x : Seat ValueFraction View). x.table_id) same), (slot, false, shown, views));
    }

pub put_out-requires : goal.put_out-requires
put_out-requires g c =
    let l = c.self.inside in let table = (facts_of l.domain.now.table) in let q = c.self.invariant.0 in let slot : ℕ = number_of c.args.right in
    let by = c.into_owner-owner.ensures.owner (has_tables c.args.self.now c.args.right c.requires.home) in let shown : Gv = c.into_owner-owner.result.1.shown in
    let views = by.owner ∙ ap (λ (b : Bool). witness_of_owner slot b shown) (ap is_shared c.requires.kind) in
    let recalled = c.recall.ensures slot false shown views in let same = same_recalled table l.place slot false shown l.seat c.recall.new.seat recalled in
    let took = subst (λ (x : Seat ValueFraction View). Taught (λ v _ w. w ≡ regained v (owner_of slot false shown)) x 0 c.take_in.new.seat) same
    (c.take_in.ensures slot false shown views) in record {
      ready = record {
        place = subst (λ (k : ℕ). 0 < k) (sym (ap (λ (v : View). v.epoch.state) took.3)) (has_place table l.place l.own l.seat q);
        rests = ap (λ (v : View). v.fractions.moves) took.3 ∙ q.rests;
      };
      inside = search rules;
      own =
          let none = ap (λ (v : View). v.slots.holds) took.3 ∙ q.quiet.holds in (
            ap (λ (v : View). v.slots.owns) took.3 ∙ (ap (λ (is : List ℕ). slot ∷ is) q.quiet.owns ∙ ap (λ (k : ℕ). k ∷ []) (sym c.number-slot.ensures)),
            (λ held. cc),
            ap (λ (v : View). v.slots.drawn) took.3 ∙ (ap (λ (is : List ℕ). slot ∷ is) q.quiet.drawn ∙ ap (λ (k : ℕ). k ∷ []) (sym c.number-slot.ensures)),
          );
      told = subst (λ (k : ℕ). (value : Gv) × HasRecord c.take_in.new.seat.me.0.fractions.owns (record { slot = k; shared = false; value = value }))
          (sym c.number-slot.ensures) (shown, (0, ap (λ (v : View). get_elem? v.fractions.owns 0) took.3));
      unit = search rules;
      shows = (
        0,
        record { slot = slot; shared = false; value = shown },
        ap (λ (v : View). get_elem? v.fractions.owns 0) took.3,
        sym c.number-slot.ensures,
        refl,
      );
    }

pub invariant_of-self : goal.invariant_of-self
invariant_of-self g c = let l = c.self.inside in let table = (facts_of l.domain.now.table) in let q = c.self.invariant.0 in
    let slot : ℕ = number_of c.args.right in
    let by = c.into_owner-owner.ensures.owner (has_tables c.args.self.now c.args.right c.requires.home) in let shown : Gv = c.into_owner-owner.result.1.shown in
    let views = by.owner ∙ ap (λ (b : Bool). witness_of_owner slot b shown) (ap is_shared c.requires.kind) in
    let recalled = c.recall.ensures slot false shown views in
    let same = same_recalled table l.place slot false shown l.seat c.recall.new.seat recalled in
    let took = subst (λ (x : Seat ValueFraction View). Taught (λ v _ w. w ≡ regained v (owner_of slot false shown)) x 0 c.take_in.new.seat) same
    (c.take_in.ensures slot false shown views) in
    let put = subst (λ (k : ℕ). Moved (PutsOut k) c.take_in.new.seat 2 c.put_out.new.seat) c.number-slot.ensures c.put_out.ensures in
    let i = c.self.invariant in let is = put_view table l.place l.own slot shown l.seat c.take_in.new.seat c.put_out.new.seat q took put in (
      between_calls_out table l.place l.own slot shown l.seat c.take_in.new.seat c.put_out.new.seat q took put,
      i.1,
      i.2,
      subst (AreLentTo l.section.lifetime) (sym (put_others table l.place l.own slot shown l.seat c.take_in.new.seat c.put_out.new.seat q took put)) i.3,
      subst (AgreesWithView table l.own l.due l.known.slots l.jobs l.privates.entries) (sym (ap (λ (v : View). known_waiting v.slots) is)) i.4,
      subst (IsTallied 0 l.tally) (sym (ap (λ (v : View). v.fractions.counts) is)) i.5,
    )

pub returns : goal.returns
returns g c =
    let l = c.self.inside in let table = (facts_of l.domain.now.table) in let q = c.self.invariant.0 in let slot : ℕ = number_of c.args.right in
    let by = c.into_owner-owner.ensures.owner (has_tables c.args.self.now c.args.right c.requires.home) in let shown : Gv = c.into_owner-owner.result.1.shown in
    let views = by.owner ∙ ap (λ (b : Bool). witness_of_owner slot b shown) (ap is_shared c.requires.kind) in
    let recalled = c.recall.ensures slot false shown views in let same = same_recalled table l.place slot false shown l.seat c.recall.new.seat recalled in
    record {
      slot = search rules;
      out =
          let took = subst (λ (x : Seat ValueFraction View). Taught (λ v _ w. w ≡ regained v (owner_of slot false shown)) x 0 c.take_in.new.seat) same
          (c.take_in.ensures slot false shown views) in
          let put = subst (λ (k : ℕ). Moved (PutsOut k) c.take_in.new.seat 2 c.put_out.new.seat) c.number-slot.ensures c.put_out.ensures in
          let old : LocalState _ = c.self.view_is 0 in
          let home = put_home table l.place l.own slot shown l.seat c.take_in.new.seat c.put_out.new.seat q took put in
          let is = put_view table l.place l.own slot shown l.seat c.take_in.new.seat c.put_out.new.seat q took put in
          (λ d. with_view old (home d) (is d)) ∙ ap (put_out slot) c.self.view_is;
      recalled = subst (λ (m : LocalState _). IsLone m → (value : Gv) × KnowsOwner m slot false value) c.self.view_is (λ lone. (
        shown,
        recalls_to (c.self.view_is 0) slot false shown l.seat c.recall.new.seat recalled
            (q.all ∙ ap (λ (z : Sizes). z.participants) l.domain.now.limited.1) lone,
      ));
    }
