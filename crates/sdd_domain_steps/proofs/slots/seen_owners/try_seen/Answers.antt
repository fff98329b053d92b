use Rattle.sdd_atomics.specs.TableFacts.{TableFacts}
use Rattle.sdd_atomics.proofs.Sitting.{viewed_facts}
use Rattle.std.proofs.Common.{◌≡◌, ℕ, ◌∷◌, [], List, ◌⊎◌, ◌+◌, true, sym, ap, ◌∙◌, subst, arith, rules, refl}
use base.Stored.{Gv}
use Rattle.sdd_rights.specs.declared.views.View.{View}
use Rattle.sdd_rights.specs.declared.views.EpochView.{EpochView}
use Rattle.sdd_rights.specs.declared.views.ShownValue.{ShownValue}
use Rattle.sdd_domain_invariant.specs.Codes.{alive, counted}
use Rattle.std.specs.Prelude.{None, slice_index}
use Rattle.sdd_domain_invariant.specs.Epoch.{HasPlace, IsLone}
use Rattle.sdd_domain_invariant.specs.Slots.SlotSteps.{behind, noted, one_more}
use Rattle.sdd_domain_invariant.specs.Fractions.FractionSteps.{SeatState, IsStill, ShowsSeen, owning_more}
use Rattle.sdd_domain_steps.specs.Cells.{holding, IsLoose}
use Rattle.sdd_domain_steps.proofs.SeenOwners.{most_count, none_counts, some_count}
use Rattle.sdd_domain_steps.proofs.slots.seen_owners.try_seen.Goals as goal

pub returns-then-word-eq-HELD : goal.returns-then-word-eq-HELD
returns-then-word-eq-HELD c = let k = c.look-word.ensures in (
  record { table = k.0; number = k.1; others = k.2; view = k.3.0 },
  λ lone. sym (k.3.1 lone) ∙ c.if-word-eq-HELD.true,
)

pub returns-then-word-le-NO_OWNER : goal.returns-then-word-le-NO_OWNER
returns-then-word-le-NO_OWNER c = let k = c.look-word.ensures in (
  record { table = k.0; number = k.1; others = k.2; view = k.3.0 },
  λ lone. subst (λ (x : ℕ). (counted x ≡ 0) ⊎ (alive x ≡ 0)) (k.3.1 lone) (none_counts c.look-word.result (let l = c.if-word-le-NO_OWNER.true in omega arith)),
)

pub returns-then-word-ge-MOST_SHARED : goal.returns-then-word-ge-MOST_SHARED
returns-then-word-ge-MOST_SHARED c = let k = c.look-word.ensures in (
  record { table = k.0; number = k.1; others = k.2; view = k.3.0 },
  λ lone. let most = most_count c.look-word.result (let l = c.if-word-ge-MOST_SHARED.true in omega arith) in
      (ap counted (sym (k.3.1 lone)) ∙ most.0, (let e = ap alive (k.3.1 lone) in let m = most.1 in omega arith)),
)

pub add_seen-requires-clause-still : goal.add_seen-requires-clause-still
add_seen-requires-clause-still c = subst (IsStill c.args.slot) (sym c.look-word.ensures.3.0) c.requires.still

pub add_seen-requires-clause-several : goal.add_seen-requires-clause-several
add_seen-requires-clause-several c =
    some_count c.look-word.result (let l = c.if-word-le-NO_OWNER.false in omega arith) (let l = c.if-word-ge-MOST_SHARED.false in omega arith)

pub returns-then-add_seen-word : goal.returns-then-add_seen-word
returns-then-add_seen-word c =
    let k = c.look-word.ensures in let slot : ℕ = c.args.slot in let e = c.add_seen.ensures in let miss = e.2.1 c.if-add_seen-word.true in (
      record {
        table = e.0 ∙ k.0;
        number = e.1 ∙ k.1;
        others = ap (λ (m : SeatState). m.1) miss ∙ k.2;
        view = ap (λ (m : SeatState). m.0) miss ∙ k.3.0;
      },
      λ lone. absurd (c.if-add_seen-word.true (e.2.2 (subst (λ (v : View). IsLone v.epoch) (sym k.3.0) lone)
          ∙ (ap (λ (v : View). slice_index v.words (behind v.sizes slot)) k.3.0 ∙ sym (k.3.1 lone)))),
    )

pub part_with-requires : goal.part_with-requires
part_with-requires c =
    let s = c.args.seat.now in let k = c.look-word.ensures in let word : ℕ = c.look-word.result in let slot : ℕ = c.args.slot in let e = c.add_seen.ensures in
    let hit = e.2.0 c.if-add_seen-word.false in let value : Gv = hit.0 in
    let is : c.add_seen.new.seat.me.0 ≡ owning_more slot value (one_more slot (word + 1) None s.me.0)
    = ap (λ (m : SeatState). m.0) hit.2 ∙ ap (λ (v : View). owning_more slot value (one_more slot (word + 1) None v)) k.3.0 in record {
      ready = record {
        place = subst (λ (x : EpochView). HasPlace x) (sym (ap (λ (v : View). v.epoch) is)) c.requires.place;
        rests = ap (λ (v : View). v.fractions.moves) is ∙ c.requires.bare.rests;
      };
      inside = search rules;
      quiet =
          let q = c.requires.bare.quiet in (
            ap (λ (v : View). v.slots.owns) is ∙ ap (λ (l : List ℕ). slot ∷ l) q.owns,
            ap (λ (v : View). v.slots.drawn) is ∙ q.drawn,
            ap (λ (v : View). v.slots.holds) is ∙ q.holds,
          );
      told = (
        true,
        value,
        hit.1.code,
        ap (λ (v : View). v.fractions.owns) is ∙ ap (λ (l : List ShownValue). record { slot = slot; shared = true; value = value } ∷ l) c.requires.bare.untold,
      );
    }

pub returns : goal.returns
returns c = let s = c.args.seat.now in let k = c.look-word.ensures in let word : ℕ = c.look-word.result in let slot : ℕ = c.args.slot in
    let e = c.add_seen.ensures in let hit = e.2.0 c.if-add_seen-word.false in let value : Gv = hit.0 in
    let is : c.add_seen.new.seat.me.0 ≡ owning_more slot value (one_more slot (word + 1) None s.me.0)
    = ap (λ (m : SeatState). m.0) hit.2 ∙ ap (λ (v : View). owning_more slot value (one_more slot (word + 1) None v)) k.3.0 in
    let told = ap (λ (v : View). v.fractions.owns) is
    ∙ ap (λ (l : List ShownValue). record { slot = slot; shared = true; value = value } ∷ l) c.requires.bare.untold in
    let own = c.part_with.ensures.owner true value told in let put = c.part_with.ensures.put in let v : View = s.me.0 in let bare = c.requires.bare in
    let several = some_count word (let l = c.if-word-le-NO_OWNER.false in omega arith) (let l = c.if-word-ge-MOST_SHARED.false in omega arith) in record {
      word = word;
      counted = several.0;
      left = several.1;
      few = several.2;
      after = record {
        table = put.table ∙ (e.0 ∙ k.0);
        number = put.number ∙ (e.1 ∙ k.1);
        others = put.others ∙ (ap (λ (m : SeatState). m.1) hit.2 ∙ k.2);
        view = put.view ∙ (ap (holding [] []) is ∙ (λ d. record v {
          slots = record v.slots { owns = sym bare.quiet.owns d; over = sym bare.quiet.over d };
          fractions = record v.fractions { owns = sym bare.untold d };
          words = noted slot (word + 1) v;
        }));
      };
      knew = k.3.1;
      loose = subst (λ (t : TableFacts). IsLoose t true c.part_with.result) (viewed_facts s c.add_seen.new.seat _ (e.0 ∙ k.0) is (refl, refl)) own.0;
      of_slot = c.part_with.ensures.slot;
      shows = subst (λ (t : Gv × View). ShowsSeen slot t.0 t.1) (λ d. (sym own.1 d, k.3.0 d)) hit.1;
    }
