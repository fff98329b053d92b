-- What a participant's guards see grows, and what is known of cells and owners meanwhile stays
use Rattle.std.proofs.Common.{◌≡◌, ◌⊎◌, inl, inr, ⊎_elim, ℕ, ◌<◌, ◌≤◌, Some, true, false, sym, refl, ap, ◌∙◌, subst, arith}
use Rattle.std.specs.Prelude.{Bool}
use mathlib.Core.Logic.{dite}
use native.Mathlib.Decide.{dec_lt}
use base.Stored.{Gv}
use Rattle.sdd_core.specs.declared.refused.Refused.{Refused}
use Rattle.sdd_core.specs.declared.refused.Refused.TheVariants.{TooManyOwners, Contended}
use Rattle.sdd_rights.specs.declared.views.ShownValue.{ShownValue}
use Rattle.sdd_domain_invariant.specs.Codes.{alive, counted, held_word, most_owners}
use Rattle.sdd_domain_invariant.specs.Sums.{times}
use Rattle.sdd_domain_invariant.proofs.Codes.{only_held}
use Rattle.sdd_domain_invariant.specs.Fractions.BankInvariant.{one_where}
use Rattle.sdd_domain_invariant.specs.Slots.Records.{IsIn}
use Rattle.sdd_domain_invariant.proofs.Slots.Records.{in_head, in_tail}
use Rattle.sdd_domain_steps.specs.SeenSlots.{IsOnce}
use Rattle.sdd_domain_steps.specs.LocalState.{LocalState, IsLone, KnowsOwner, LooksAt, cell_word_of, word_of}
use Rattle.sdd_domain_steps.specs.Local.{contents_of}
use Rattle.sdd_domain_steps.specs.Cells.{CopiesNone, FindsAt, IsOwnedThere, SeesMore}

of_several : (b : Bool) → one_where b ≡ 1 → b ≡ true
of_several true e = refl
of_several false e = absurd (omega arith)

module _ {J : Type 0} where
  pub same_sees : (a b : LocalState J) → b ≡ a → SeesMore a b
  same_sees a b same = record {
    member = same ∙ (λ d. record a { slots = (sym same d).slots; shown = (sym same d).shown });
    waits = ap (λ (m : LocalState J). m.slots.waits) same;
    privates = ap (λ (m : LocalState J). m.slots.privates) same;
    closes = ap (λ (m : LocalState J). m.slots.closes) same;
    keeps = λ slot value. subst (λ (m : LocalState J). IsIn m.shown slot value) (sym same);
    once = inl same;
  }

  pub sees_then : (a b c : LocalState J) → SeesMore a b → SeesMore b c → SeesMore a c
  sees_then a b c first second = record {
    member = second.member ∙ ap (λ (m : LocalState J). record m { slots = c.slots; shown = c.shown }) first.member;
    waits = second.waits ∙ first.waits;
    privates = second.privates ∙ first.privates;
    closes = second.closes ∙ first.closes;
    keeps = λ slot value is. second.keeps slot value (first.keeps slot value is);
    once = ⊎_elim (λ (same : c ≡ b). ⊎_elim (λ (still : b ≡ a). inl (same ∙ still)) (λ (one : IsOnce b.shown).
        inr (subst (λ (m : LocalState J). IsOnce m.shown) (sym same) one)) first.once) (λ (one : IsOnce c.shown). inr one) second.once;
  }

  -- a look
  module _ (a b : LocalState J) (slot : ℕ) (shared : Bool) (value : Gv) (looks : LooksAt slot shared value a b) (once : IsOnce b.shown) where
    pub looks_more : SeesMore a b × IsIn b.shown slot value
    looks_more = dite (dec_lt 0 (times slot a.slots.sees))
        (λ sees. let s = looks.seen sees in (same_sees a b s.0, subst (λ (m : LocalState J). IsIn m.shown slot value) (sym s.0) s.1))
        (λ blind. let is = looks.unseen blind in let r : ShownValue = record { slot = slot; shared = shared; value = value } in (
          record {
            member = is ∙ (λ d. record a { slots = (sym is d).slots; shown = (sym is d).shown });
            waits = ap (λ (m : LocalState J). m.slots.waits) is;
            privates = ap (λ (m : LocalState J). m.slots.privates) is;
            closes = ap (λ (m : LocalState J). m.slots.closes) is;
            keeps = λ i g there. subst (λ (m : LocalState J). IsIn m.shown i g) (sym is) (in_tail r a.shown i g there);
            once = inr once;
          },
          subst (λ (m : LocalState J). IsIn m.shown slot value) (sym is) (in_head r a.shown slot value refl refl),
        ))

  module _ (a b : LocalState J) (more : SeesMore a b) where
    -- of an owner that a cell of shared owners holds
    pub knows_more : (slot : ℕ) (shared : Bool) (value : Gv) → KnowsOwner a slot shared value → IsOwnedThere slot true a → KnowsOwner b slot true value
    knows_more slot shared value knows owned = let is : shared ≡ true = of_several shared (sym knows.kind ∙ owned.kind) in
        let told = subst (λ (s : Bool). KnowsOwner a slot s value) is knows in
        subst (λ (m : LocalState J). KnowsOwner m slot true value) (sym more.member) record { newest = told.newest; alive = told.alive; kind = told.kind }

    pub finds_before : (cell word : ℕ) → FindsAt cell word b → FindsAt cell word a
    finds_before cell word f = record {
      inside = subst (λ (m : LocalState J). cell < m.sizes.cells) more.member f.inside;
      found = λ lone. f.found (subst IsLone (sym more.member) lone) ∙ ap (λ (m : LocalState J). cell_word_of m cell) more.member;
      full = λ lone. f.full (subst IsLone (sym more.member) lone);
    }

    pub word_before : (slot : ℕ) → word_of b slot ≡ word_of a slot
    word_before slot = ap (λ (m : LocalState J). word_of m slot) more.member

    pub lone_after : IsLone a → IsLone b
    lone_after lone = subst IsLone (sym more.member) lone

  -- no owner came of what a cell of shared owners was found to hold
  module _ (a b c d : LocalState J) (cell word slot : ℕ) (first : SeesMore a b) (second : SeesMore b c) (same : d ≡ c) (finds : FindsAt cell word b)
      (held : (contents_of word).held ≡ Some slot) (owned : IsLone b → IsOwnedThere slot true b) where
    abbrev more : SeesMore a c
    more = sees_then a b c first second

    there : IsLone a → (counted (word_of c slot) ≡ 1) × (0 < alive (word_of c slot))
    there lone = let o = owned (lone_after a b first lone) in
        (ap counted (word_before b c second slot) ∙ o.kind, subst (λ (w : ℕ). 0 < alive w) (sym (word_before b c second slot)) o.alive)

    -- so that for a lone participant one always comes, but where there are too many
    pub not_gone : (IsLone c → (counted (word_of c slot) ≡ 0) ⊎ (alive (word_of c slot) ≡ 0)) → ¬ (IsLone a)
    not_gone gone lone = let t = there lone in ⊎_elim (λ (e : counted (word_of c slot) ≡ 0). let k = t.0 in absurd (omega arith))
        (λ (e : alive (word_of c slot) ≡ 0). let k = t.1 in absurd (omega arith)) (gone (lone_after a c more lone))

    pub copies_none : (why : Refused)
        → ((why ≡ TooManyOwners) × (IsLone c → (counted (word_of c slot) ≡ 1) × (most_owners ≤ alive (word_of c slot))))
        ⊎ ((why ≡ Contended) × (IsLone c → word_of c slot ≡ held_word)) → CopiesNone cell why a d
    copies_none why cause = record {
      sees = sees_then a c d more (same_sees c d same);
      cause = ⊎_elim
          (λ (m : (why ≡ TooManyOwners) × (IsLone c → (counted (word_of c slot) ≡ 1) × (most_owners ≤ alive (word_of c slot)))). inl (
            m.0,
            λ lone.
                let most = m.1 (lone_after a c more lone) in let w = word_before a c more slot in (
                  slot,
                  ap (λ (x : ℕ). (contents_of x).held) (sym ((finds_before a b first cell word finds).found lone)) ∙ held,
                  ap counted (sym w) ∙ most.0,
                  (let e = ap alive w in let k = most.1 in omega arith),
                ),
          ))
          (λ (h : (why ≡ Contended) × (IsLone c → word_of c slot ≡ held_word)). inr (
            h.0,
            λ lone.
                let e = ap counted (h.1 (lone_after a c more lone)) in let k = (there lone).0 in let z = only_held.2 in absurd (omega arith),
          )) cause;
    }
