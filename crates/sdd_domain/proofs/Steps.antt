-- Steps that leave a participant sound and undisturbed: several in a row are one
use Rattle.std.proofs.Common.{◌≡◌, ⊎_elim, ℕ, Bool, true, false, IsTrue, List, Some, set, refl, sym, ap, ◌∙◌, subst, arith}
use base.Stored.{Gv}
use denote.RattleType.{RattleType}
use Rattle.sdd_shared_values.specs.SharedValues.{showing}
use Rattle.sdd_rights.specs.declared.right.StandingKind.{StandingKind}
use Rattle.sdd_rights.specs.StandingKind.{is_shared}
use Rattle.sdd_rights.specs.declared.views.WaitingItem.{WaitingItem}
use Rattle.sdd_domain_invariant.specs.Slots.{waits_in}
use Rattle.sdd_domain_invariant.specs.Sums.{total}
use Rattle.sdd_domain_invariant.specs.Slots.Records.{IsIn}
use Rattle.sdd_world_model.specs.OwnerOrCell.{OwnerOrCell, AreOf}
use Rattle.sdd_world_model.specs.KnownEpochs.{KnowsOn}
use Rattle.sdd_space.specs.Ptr.{KeepsShown}
use Rattle.sdd_space.specs.Undisturbed.{Undisturbed}
use Rattle.sdd_world_model.specs.World.{World, value_at}
use Rattle.sdd_domain_steps.specs.Cells.{SeesMore, WritesAt}
use Rattle.sdd_domain_steps.specs.InBags.{AreInBags, KnownWaiting, private_for}
use Rattle.sdd_domain_steps.specs.Local.{LocalModel, world_of}
use Rattle.sdd_domain_steps.specs.LocalState.{AddsAt, IsLone, KnowsOwner, LocalState, MakesAt}
use Rattle.sdd_domain_steps.specs.SeenSlots.{IsOnce}
use Rattle.sdd_domain_core.specs.Sound.{IsSound}
use Rattle.sdd_domain_core.specs.Space.{ShowsBy, Shows, is_lone, known_of, caller_in, caller_of}
use Rattle.sdd_domain_steps.specs.SpaceIds.{home_in}
use Rattle.sdd_domain_steps.specs.WordsAndValues.{AreTied, Entries, WordsMatchValues}
use Rattle.sdd_domain.proofs.AddedOwner.{added_keeps, added_only, added_sound, added_tied}
use Rattle.sdd_domain_core.proofs.CellWorld.{matched_written, sound_written, written_undisturbed}
use Rattle.sdd_domain_core.proofs.GuardCalls.{lone_is}
use Rattle.sdd_domain_core.proofs.MadeItem.{makes_keeps, makes_tied}
use Rattle.sdd_domain_core.proofs.Refusals.{words_undisturbed}
use Rattle.sdd_domain_core.proofs.Sound.{sound_makes, sound_step}

-- a participant is lone by what it began with
pub lone_begun : {T J : Type 0} (v p : LocalModel T J) → v ≡ p → IsTrue (is_lone p.member) → IsLone v.member
lone_begun v p same exact = lone_is v.member (subst (λ (q : LocalModel _ _). IsTrue (is_lone q.member)) (sym same) exact)

-- ---- its guards see more
module _ {T J : Type 0} (v : LocalModel T J) (m : LocalState J) (more : SeesMore v.member m) where
  abbrev sighted : LocalState J
  sighted = record v.member { slots = m.slots; shown = m.shown }

  abbrev after : LocalModel T J
  after = record { member = m; entries = v.entries }

  pub sees_world : world_of after ≡ world_of v
  sees_world = ap (λ (y : LocalState J). world_of (record { member = y; entries = v.entries })) more.member

  tied_sighted : AreTied v.member v.entries → AreTied sighted v.entries
  tied_sighted t = record {
    place = t.place;
    slots = t.slots;
    places = t.places;
    all_cells = t.all_cells;
    long = t.long;
    wide = t.wide;
    plain = t.plain;
    waits = λ i l. ap (λ (ws : List WaitingItem). total (waits_in i) ws) more.waits ∙ t.waits i l;
    privates = λ i l c. ap (total (private_for c i)) more.privates ∙ t.privates i l c;
    kept = t.kept;
    table = t.table;
    jobs = t.jobs;
    bags = subst (λ (k : KnownWaiting). AreInBags v.member.limits.slots k v.member.own.bags.waiting v.member.due)
        (λ d. record { plain = sym more.waits d; private = sym more.privates d; closes = sym more.closes d }) t.bags;
    now = t.now;
  }

  pub sees_tied : WordsMatchValues v.member v.entries → WordsMatchValues m v.entries
  sees_tied tied one = subst (λ (y : LocalState J). AreTied y v.entries) (sym more.member)
      (tied_sighted (tied (sym (ap (λ (y : LocalState J). y.limits.participants) more.member) ∙ one)))

  sees_by : (shown : T → Gv) (holds : T → List OwnerOrCell) (b : Bool) (i : ℕ) (u : T) → ShowsBy b shown holds v i u → ShowsBy b shown holds after i u
  sees_by shown holds true i u h = ap (λ (w : World T). value_at w i) sees_world ∙ h
  sees_by shown holds false i u h = let there = more.keeps i (shown u) h.known in record {
    known = there;
    only = λ g other. ⊎_elim (λ (same : m ≡ v.member). h.only g (subst (λ (y : LocalState J). IsIn y.shown i g) same other))
        (λ (once : IsOnce m.shown). once i g (shown u) other there) more.once;
    home = subst (λ (y : LocalState J). AreOf (home_in y) (holds u)) (sym more.member) h.home;
  }

  sees_keeps : (shown : T → Gv) (holds : T → List OwnerOrCell) → KeepsShown (Shows shown holds v) (Shows shown holds after)
  sees_keeps shown holds i u h = subst (λ (b : Bool). ShowsBy b shown holds after i u) (ap is_lone (sym more.member))
      (sees_by shown holds (is_lone v.member) i u h)

  sees_known : KnowsOn (known_of v) (known_of after)
  sees_known = subst (λ (y : LocalState J). KnowsOn (known_of v) (known_of {T = T} (record { member = y; entries = v.entries }))) (sym more.member)
      record { told = omega arith; since = refl }

-- ---- a step
module _ {T J : Type 0} (shown : T → Gv) (holds : T → List OwnerOrCell) where
  abbrev Leaves : LocalModel T J → LocalModel T J → Type 0
  Leaves = Undisturbed caller_of (λ (q : LocalModel T J). q.member.own) known_of (λ (q : LocalModel T J). Shows shown holds q)

  pub record IsStep (v w : LocalModel T J) : Type 0 where
    pub tied : WordsMatchValues v.member v.entries → WordsMatchValues w.member w.entries
    pub sound : WordsMatchValues v.member v.entries → IsSound holds v → IsSound holds w
    pub quiet : WordsMatchValues v.member v.entries → Leaves v w

  pub step_then : (u v w : LocalModel T J) → IsStep u v → IsStep v w → IsStep u w
  step_then u v w first second = record {
    tied = λ t. second.tied (first.tied t);
    sound = λ t s. second.sound (first.tied t) (first.sound t s);
    quiet = λ t. let a = first.quiet t in let b = second.quiet (first.tied t) in record {
      caller = b.caller ∙ a.caller;
      own = b.own ∙ a.own;
      known = record { told = (let x = a.known.told in let y = b.known.told in omega arith); since = b.known.since ∙ a.known.since };
      shown = λ i u h. b.shown i u (a.shown i u h);
    };
  }

  pub no_step : (v w : LocalModel T J) → w ≡ v → IsStep v w
  no_step v w same = subst (λ (q : LocalModel T J). IsStep v q) (sym same) record {
    tied = λ t. t;
    sound = λ _ s. s;
    quiet = λ _. record { caller = refl; own = refl; known = record { told = omega arith; since = refl }; shown = λ i u h. h };
  }

  -- what a call leaves, where this is the participant that it began with
  pub step_leaves : (v w p : LocalModel T J) → v ≡ p → IsStep v w → WordsMatchValues v.member v.entries → Leaves p w
  step_leaves v w p same step tied = subst (λ (q : LocalModel T J). Leaves q w) same (step.quiet tied)

  -- ---- each of them
  module _ (v : LocalModel T J) (m : LocalState J) where
    abbrev now : LocalModel T J
    now = record { member = m; entries = v.entries }

    -- nothing has changed
    pub same_step : m ≡ v.member → IsStep v now
    same_step same = no_step v now (λ d. record v { member = same d })

    -- the word of a cell was written
    pub writes_step : (cell found word : ℕ) → WritesAt cell found word v.member m → IsStep v now
    writes_step cell found word is = record {
      tied = matched_written v cell found word m is;
      sound = λ _ s. sound_written v cell found word m is holds s;
      quiet = λ _. written_undisturbed v cell found word m is v refl shown holds;
    }

    -- its guards see more
    pub sees_step : SeesMore v.member m → IsStep v now
    sees_step more = record {
      tied = sees_tied v m more;
      sound = λ _ s. sound_step holds v m s (λ w _. w) (λ w _ _ whole. whole) (ap (λ (y : LocalState J). y.due) more.member)
          more.closes (ap home_in more.member)
          (λ _. sees_world v m more);
      quiet = λ _. record {
        caller = ap caller_in more.member;
        own = ap (λ (y : LocalState J). y.own) more.member;
        known = sees_known v m more;
        shown = sees_keeps v m more shown holds;
      };
    }

    -- an owner came beside another
    pub adds_step : (slot word : ℕ) → AddsAt slot word v.member m → (IsLone v.member → (g : Gv) × KnowsOwner v.member slot true g) → IsStep v now
    adds_step slot word is recalled = record {
      tied = λ t. added_tied v m slot t recalled word is;
      sound = λ t s. added_sound v m slot t recalled word is holds s;
      quiet = λ t. words_undisturbed v m (added_only v m slot t recalled word is) shown holds v refl (added_keeps v m slot t recalled word is shown holds);
    }

-- an item was made
module _ {J : Type 0} (R : RattleType) (holds : R.Denot → List OwnerOrCell) (v : LocalModel R.Denot J) (m : LocalState J) (es : Entries R.Denot)
    (kind : StandingKind) (x : R.Denot) (slot : ℕ) (makes : MakesAt slot (is_shared kind) (showing R x) v.member m)
    (entered : es ≡ set v.entries slot (Some (x, showing R x))) (at : AreOf (home_in v.member) (holds x)) where
  pub makes_step : IsStep (showing R) holds v (record { member = m; entries = es })
  makes_step = record {
    tied = makes_tied R v m es kind x slot makes entered;
    sound = λ t s. sound_makes R holds v m es kind x slot makes entered at t s;
    quiet = λ t. record {
      caller = ap caller_in makes.member;
      own = ap (λ (y : LocalState J). y.own) makes.member;
      known = subst (λ (y : LocalState J). KnowsOn (known_of v) (known_of {T = R.Denot} (record { member = y; entries = es }))) (sym makes.member)
          record { told = omega arith; since = refl };
      shown = makes_keeps R v m es kind x slot makes entered holds t;
    };
  }
