-- What one owner more of the item in a slot is for a lone participant's world, whether the item has one or not
use Rattle.std.proofs.Common.{List, ◌≡◌, ◌≢◌, ◌⊎◌, inl, inr, ⊎_elim, ℕ, ◌+◌, ◌^◌, ◌<◌, ◌≤◌, Bool, true, false, IsTrue, Some, None, sym, refl, ap, ◌∙◌, subst, arith, ne_eqb}
use Rattle.std.specs.Prelude.{Option, Result, Ok, Err, MatchOption, MatchResult, IfErr, IfOk, IfSome, slice_index_or}
use mathlib.Core.Logic.{dite}
use native.Mathlib.Decide.{ℕ_discrete, dec_lt}
use base.Stored.{Gv}
use denote.RattleType.{RattleType}
use Rattle.sdd_core.specs.declared.refused.Refused.{Refused}
use Rattle.sdd_core.specs.declared.refused.Refused.TheVariants.{TooManyOwners, Contended}
use Rattle.sdd_participants.specs.declared.standing.Standing.TheVariants.{Shared}
use Rattle.sdd_rights.specs.Right.{number_of}
use Rattle.sdd_rights.specs.declared.right.Right.{Right}
use Rattle.sdd_rights.specs.declared.right.StandingKind.TheVariants as kinds
use Rattle.sdd_shared_values.specs.SharedValues.{showing}
use Rattle.sdd_world_model.specs.Slots.{IsSharedBy, owners_of}
use Rattle.sdd_domain_invariant.specs.Codes.{alive, counted, held_word, most_owners, shared_base, waiting}
use Rattle.sdd_domain_invariant.proofs.Codes.{none_left, owned_is, shared, waiting_is}
use Rattle.sdd_world_model.specs.OwnerOrCell.{OwnerOrCell}
use Rattle.sdd_space.specs.Refusals.{IsRefusedBy}
use Rattle.sdd_space.specs.Undisturbed.{Undisturbed}
use Rattle.sdd_world_model.specs.World.{standing_at}
use Rattle.sdd_world_model.specs.WorldChanges.{with_standing}
use Rattle.sdd_domain_steps.specs.Items.{HasValue, IsRightTo, IsSameOwner}
use Rattle.sdd_domain_core.specs.Laws.{same_value}
use Rattle.sdd_domain_steps.specs.Local.{LocalModel, standing_by, standing_in, world_of}
use Rattle.sdd_domain_steps.specs.LocalState.{AddsAt, IsLone, KnowsOwner, LocalState, word_of}
use Rattle.sdd_domain_steps.specs.SeenOwners.{HasNoOwner, KnowsStill, OwnsNoMore, ShowsTo}
use Rattle.sdd_domain_core.specs.Sound.{IsSound}
use Rattle.sdd_domain_core.specs.Space.{ShowsBy, Shows, is_lone, known_of, caller_of}
use Rattle.sdd_domain_steps.specs.WordsAndValues.{WordsMatchValues, is_plain_word}
use Rattle.sdd_domain.proofs.AddedOwner.{answered_exact, answered_sound, answered_tied, answered_undisturbed}
use Rattle.sdd_domain_core.proofs.GuardCalls.{lone_is}
use Rattle.sdd_domain_core.proofs.Listings.{listing_at, listing_past}
use Rattle.sdd_domain_core.proofs.OwnerLooks.{entry, has_value}
use Rattle.sdd_domain_core.proofs.Refusals.{back_keeps, back_same, back_sound, back_tied, back_world, words_undisturbed}
use Rattle.sdd_domain_core.proofs.Words.{counts_of, plain_by, stands_owned, stands_private, stands_raw, stands_retired}

-- ---- how a slot stands by its word
-- whose owners aren't counted, or that has none
no_owner : (x : ℕ) → IsTrue (is_plain_word x) → (counted x ≡ 0) ⊎ (alive x ≡ 0) → owners_of (standing_by x) ≡ None
no_owner x plain none = plain_by x plain
    (λ e. ap (λ (w : ℕ). owners_of (standing_by w)) e)
    (λ e. let o = owned_is 0 (omega arith) in let one = o.0 in
    ap (λ (w : ℕ). owners_of (standing_by w)) e ∙ ap owners_of (stands_owned 1 false (omega arith) o.2))
    (λ e. ap (λ (w : ℕ). owners_of (standing_by w)) e ∙ ap owners_of (stands_retired 4 (waiting_is 0 (omega arith)).1))
    (λ e. ap (λ (w : ℕ). owners_of (standing_by w)) e ∙ ap owners_of stands_raw)
    (λ few. let s = shared x few.0 in let low = few.0 in let left = s.0 in let counts = s.3 in
    let base : x ≡ shared_base = ⊎_elim (λ (a : counted x ≡ 0). absurd (omega arith)) (λ (a : alive x ≡ 0). omega arith) none in
    ap owners_of (stands_retired x (ap waiting base ∙ none_left.1)))
    (λ k e low. ap (λ (w : ℕ). owners_of (standing_by w)) e ∙ ap owners_of (stands_private k (omega arith)))

-- that has as many as may be
many_owners : (x : ℕ) → IsTrue (is_plain_word x) → counted x ≡ 1 → most_owners ≤ alive x → standing_by x ≡ Some (Shared (2 ^ 62))
many_owners x plain several many = let c = counts_of x plain several in let low = c.0 in let high = c.1 in let left = c.2 in
    let most : alive x ≡ 2 ^ 62 = omega arith in stands_owned x true (omega arith) several ∙ ap (λ (n : ℕ). Some (Shared n)) most

-- that is held
never_held : (x : ℕ) → IsTrue (is_plain_word x) → x ≢ held_word
never_held x plain held = plain_by x plain (λ e. absurd (omega arith)) (λ e. absurd (omega arith)) (λ e. absurd (omega arith)) (λ e. absurd (omega arith))
    (λ few. let low = few.0 in absurd (omega arith)) (λ k e low. absurd (omega arith))

same_owner : (right : Right) → IsSameOwner right right
same_owner right = record { slot = refl; home = refl; kind = refl; views = refl }

module _ {T J : Type 0} (v : LocalModel T J) (m : LocalState J) (slot : ℕ) (tied : WordsMatchValues v.member v.entries) where
  abbrev later : LocalModel T J
  later = record { member = m; entries = v.entries }

  abbrev pub Came : Option Right → Type 0
  Came o = MatchOption o ((m ≡ v.member) × HasNoOwner v.member slot)
      (λ right. (number_of right ≡ slot) × ((word : ℕ) × AddsAt slot word v.member m))

  abbrev pub Answers : Result (Option Right) Refused → Type 0
  Answers r = MatchResult r Came (λ e. (m ≡ v.member) × OwnsNoMore v.member slot e)

  abbrev pub IsRight : Right → Type 0
  IsRight right = (value : Gv) × IsRightTo v.member kinds.Shared value right × ShowsTo v.member slot value

  abbrev pub Rights : Result (Option Right) Refused → Type 0
  Rights r = IfOk r (λ o. IfSome o IsRight)

  -- it knows the item of which an owner came
  knows_it : (right : Right) → Came (Some right) → (k : IsRight right) → IsLone v.member → KnowsOwner v.member slot true k.0
  knows_it right a k lone = let adds = a.1.1 in let is = adds.lone lone in
      record { newest = k.2.newest lone; alive = subst (λ (x : ℕ). 0 < alive x) (sym is) adds.left; kind = ap counted is ∙ adds.counted }

  recalled : (right : Right) → Came (Some right) → IsRight right → IsLone v.member → (g : Gv) × KnowsOwner v.member slot true g
  recalled right a k lone = (k.0, knows_it right a k lone)

  -- ---- for an answer
  pub upgraded_tied : (r : Result (Option Right) Refused) → Answers r → Rights r → WordsMatchValues m v.entries
  upgraded_tied (Ok None) a k = back_tied v m v.entries (back_same v m v.entries a.0 refl) tied
  upgraded_tied (Ok (Some right)) a k = answered_tied v m slot tied (recalled right a k) right (Ok right) (a.1.0, (a.1.1, same_owner right))
  upgraded_tied (Err e) a k = back_tied v m v.entries (back_same v m v.entries a.0 refl) tied

  pub upgraded_sound : (holds : T → List OwnerOrCell) (r : Result (Option Right) Refused) → Answers r → Rights r → IsSound holds v → IsSound holds later
  upgraded_sound holds (Ok None) a k sound = back_sound v m v.entries (back_same v m v.entries a.0 refl) holds sound
  upgraded_sound holds (Ok (Some right)) a k sound =
      answered_sound v m slot tied (recalled right a k) right holds (Ok right) (a.1.0, (a.1.1, same_owner right)) sound
  upgraded_sound holds (Err e) a k sound = back_sound v m v.entries (back_same v m v.entries a.0 refl) holds sound

  -- how the slot stands
  stands_by : slot < v.member.limits.slots → standing_at (world_of v) slot ≡ standing_by (word_of v.member slot)
  stands_by low = listing_at v.member.limits.slots (standing_in v) slot None low

  none_stands : HasNoOwner v.member slot → IsLone v.member → owners_of (standing_at (world_of v) slot) ≡ None
  none_stands none lone = dite (dec_lt slot v.member.limits.slots)
      (λ low. ap owners_of (stands_by low) ∙ no_owner (word_of v.member slot) ((tied lone).plain slot low) (none lone low))
      (λ far. ap owners_of (listing_past v.member.limits.slots (standing_in v) slot None (omega arith)))

  abbrev Exactly : LocalModel T J → Result (Option Right) Refused → Type 0
  Exactly q r = MatchResult r
      (λ o. MatchOption o
      ((owners_of (standing_at (world_of q) slot) ≡ None) × (world_of later ≡ world_of q))
      (λ _. (owners : ℕ) × IsSharedBy owners (standing_at (world_of q) slot) × (owners < 2 ^ 62) ×
      (world_of later ≡ with_standing (world_of q) slot (Shared (owners + 1)))))
      (λ e. IsSharedBy (2 ^ 62) (standing_at (world_of q) slot) × (e ≡ TooManyOwners) × (world_of later ≡ world_of q))

  exactly : IsTrue (is_lone v.member) → (r : Result (Option Right) Refused) → Answers r → Rights r → Exactly v r
  exactly exact (Ok None) a k = let lone = lone_is v.member exact in
      (none_stands a.1 lone, back_world v m v.entries (back_same v m v.entries a.0 refl) lone)
  exactly exact (Ok (Some right)) a k =
      let e = answered_exact v m slot tied (recalled right a k) right v refl (Ok right) (a.1.0, (a.1.1, same_owner right)) exact in
      (e.0, e.1, e.2.0, e.2.1)
  exactly exact (Err why) a k = let lone = lone_is v.member exact in let plain = (tied lone).plain slot a.1.0 in
      let same = back_world v m v.entries (back_same v m v.entries a.0 refl) lone in ⊎_elim
      (λ (many : (why ≡ TooManyOwners) × (IsLone v.member → (counted (word_of v.member slot) ≡ 1) × (most_owners ≤ alive (word_of v.member slot)))).
      let full = many.1 lone in (
        record {
          shared = stands_by a.1.0 ∙ many_owners (word_of v.member slot) plain full.0 full.1;
          some = omega arith;
          most = omega arith;
        },
        many.0,
        same,
      ))
      (λ (lost : (why ≡ Contended) × (IsLone v.member → word_of v.member slot ≡ held_word)). absurd (never_held (word_of v.member slot) plain (lost.1 lone)))
      a.1.1

  module _ (p : LocalModel T J) (same : v ≡ p) where
    pub upgraded_undisturbed : (shown : T → Gv) (holds : T → List OwnerOrCell) (r : Result (Option Right) Refused) → Answers r → Rights r
        → Undisturbed caller_of (λ (q : LocalModel T J). q.member.own) known_of (λ (q : LocalModel T J). Shows shown holds q) p later
    upgraded_undisturbed shown holds (Ok None) a k = let back = back_same v m v.entries a.0 refl in
        words_undisturbed v m back.only shown holds p same (back_keeps v m v.entries back shown holds)
    upgraded_undisturbed shown holds (Ok (Some right)) a k =
        answered_undisturbed v m slot tied (recalled right a k) right p same shown holds (Ok right) (a.1.0, (a.1.1, same_owner right))
    upgraded_undisturbed shown holds (Err e) a k = let back = back_same v m v.entries a.0 refl in
        words_undisturbed v m back.only shown holds p same (back_keeps v m v.entries back shown holds)

    pub upgraded_exact : (r : Result (Option Right) Refused) → Answers r → Rights r → IsTrue (is_lone p.member) → Exactly p r
    upgraded_exact r a k exact = subst (λ (q : LocalModel T J). Exactly q r) same
        (exactly (subst (λ (q : LocalModel T J). IsTrue (is_lone q.member)) (sym same) exact) r a k)

    -- a lone participant's slot isn't held by another
    pub upgraded_back : (r : Result (Option Right) Refused) → Answers r → IfErr r (IsRefusedBy (caller_of p) TooManyOwners)
    upgraded_back (Ok o) a = tt
    upgraded_back (Err why) a = ⊎_elim
        (λ (many : (why ≡ TooManyOwners) × (IsLone v.member → (counted (word_of v.member slot) ≡ 1) × (most_owners ≤ alive (word_of v.member slot)))).
        inl many.0)
        (λ (lost : (why ≡ Contended) × (IsLone v.member → word_of v.member slot ≡ held_word)). inr (
          lost.0,
          λ exact. let lone = lone_is v.member (subst (λ (q : LocalModel T J). IsTrue (is_lone q.member)) (sym same) exact) in
              never_held (word_of v.member slot) ((tied lone).plain slot a.1.0) (lost.1 lone),
        ))
        a.1.1

-- what a guard sees, or a lone participant knows, is what the owner tells that came
module _ {J : Type 0} (R : RattleType) (v : LocalModel R.Denot J) (m : LocalState J) (slot : ℕ) (tied : WordsMatchValues v.member v.entries)
    (holds : R.Denot → List OwnerOrCell) (p : LocalModel R.Denot J) (same : v ≡ p) where
  -- where others take part a guard sees the slot
  pub still_known : (¬ (IsLone p.member) → (u : R.Denot) × Shows (showing R) holds p slot u) → KnowsStill v.member slot
  still_known seen = dite (ℕ_discrete v.member.limits.participants 1) (λ lone. inr lone)
      (λ several. let s = seen (subst (λ (q : LocalModel R.Denot J). ¬ (IsLone q.member)) same several) in inl (
        showing R s.0,
        (subst (λ (b : Bool). ShowsBy b (showing R) holds v slot s.0) (ne_eqb v.member.limits.participants 1 several)
            (subst (λ (q : LocalModel R.Denot J). Shows (showing R) holds q slot s.0) (sym same) s.1)).known,
      ))

  module _ (codes : (place : ℕ) (y : R.Denot) (g : Gv) → slice_index_or v.entries place None ≡ Some (y, g) → g ≡ showing R y) where
    value_by : (right : Right) → Came v m slot tied (Some right) → (k : IsRight v m slot tied right) → (u : R.Denot) → (b : Bool)
        → (IsTrue b → IsLone v.member) → ShowsBy b (showing R) holds v slot u → k.0 ≡ showing R u
    value_by right a k u true lone h = let l = lone refl in let knows = knows_it v m slot tied right a k l in
        let e = entry v (tied l) slot true k.0 knows in
        let is : e.0.0 ≡ u = same_value e.0.0 u (sym (has_value v (tied l) slot true k.0 knows) ∙ h) in
        sym e.2 ∙ (codes slot e.0.0 e.0.1 e.1 ∙ ap (showing R) is)
    value_by right a k u false lone h = k.2.seen (showing R u) h.known

    pub upgraded_value : (r : Result (Option Right) Refused) → Answers v m slot tied r → Rights v m slot tied r
        → IfOk r (λ o. IfSome o (λ right. (u : R.Denot) → Shows (showing R) holds p slot u → HasValue (showing R u) right))
    upgraded_value (Ok None) a k = tt
    upgraded_value (Ok (Some right)) a k = λ u shows. subst (λ (g : Gv). HasValue g right)
        (value_by right a k u (is_lone v.member) (λ exact. lone_is v.member exact)
        (subst (λ (q : LocalModel R.Denot J). Shows (showing R) holds q slot u) (sym same) shows)) k.1.value
    upgraded_value (Err e) a k = tt
