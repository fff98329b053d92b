-- A participant that was refused: no more than words that it knows may be others, and those of a lone one are what they were
use Rattle.std.proofs.Common.{◌≡◌, ℕ, Bool, true, false, IsTrue, List, None, slice_index_or, sym, refl, ap, ◌∙◌, subst, arith}
use base.Stored.{Gv}
use Rattle.sdd_world_model.specs.KnownEpochs.{KnowsOn}
use Rattle.sdd_world_model.specs.OwnerOrCell.{OwnerOrCell, AreOf}
use Rattle.sdd_space.specs.Ptr.{KeepsShown}
use Rattle.sdd_space.specs.Undisturbed.{Undisturbed}
use Rattle.sdd_world_model.specs.World.{value_at}
use Rattle.sdd_world_model.specs.WorldInvariant.{IsWhole}
use Rattle.sdd_domain_steps.specs.Local.{LocalModel, world_of}
use Rattle.sdd_domain_steps.specs.LocalState.{IsLone, KnowsUnique, LocalState, with_unique}
use Rattle.sdd_domain_core.specs.Sound.{IsSound}
use Rattle.sdd_domain_core.specs.Space.{ShowsBy, Shows, is_lone, caller_in, caller_of, known_of}
use Rattle.sdd_domain_core.specs.Space as space
use Rattle.sdd_domain_steps.specs.SpaceIds.{home_in}
use Rattle.sdd_domain_steps.specs.WordsAndValues.{AreTied, Entries, WordsMatchValues}
use Rattle.sdd_domain_core.proofs.GuardCalls.{lone_is}
use Rattle.sdd_domain_core.proofs.OwnerLooks.{unique_only, unique_still}

pub record IsBack {T J : Type 0} (v : LocalModel T J) (m : LocalState J) (es : Entries T) : Type 0 where
  pub only : m ≡ record v.member { words = m.words }
  pub same : IsLone v.member → m ≡ v.member
  pub entries : es ≡ v.entries

-- words were written, and nothing else
pub words_only : {J : Type 0} (m old : LocalState J) (words : List ℕ) → m ≡ record old { words = words } → m ≡ record old { words = m.words }
words_only m old words is = is ∙ (λ d. record old { words = (sym is d).words })

-- all is as it was
pub back_same : {T J : Type 0} (v : LocalModel T J) (m : LocalState J) (es : Entries T) → m ≡ v.member → es ≡ v.entries → IsBack v m es
back_same v m es is entries = record { only = words_only m v.member v.member.words is; same = λ _. is; entries = entries }

-- a slot's word was written by its only owner
pub back_unique : {T J : Type 0} (v : LocalModel T J) (m : LocalState J) (es : Entries T) (k : ℕ) (several : Bool) → m ≡ with_unique several k v.member
    → KnowsUnique v.member k several → es ≡ v.entries → IsBack v m es
back_unique v m es k several is unique entries = record {
  only = words_only m v.member (with_unique several k v.member).words (is ∙ unique_only v.member k several);
  same = λ lone. is ∙ unique_still v.member k several (unique lone);
  entries = entries;
}

module _ {T J : Type 0} (v : LocalModel T J) (m : LocalState J) (es : Entries T) (is : IsBack v m es) where
  abbrev later : LocalModel T J
  later = record { member = m; entries = es }

  is_same : IsLone v.member → later ≡ v
  is_same lone = λ d. record { member = is.same lone d; entries = is.entries d }

  lone_before : IsLone m → IsLone v.member
  lone_before one = sym (ap (λ (y : LocalState J). y.limits.participants) is.only) ∙ one

  -- the invariants, its world, and what is shown
  pub back_tied : WordsMatchValues v.member v.entries → WordsMatchValues m es
  back_tied tied one = let lone = lone_before one in subst (λ (q : LocalModel T J). AreTied q.member q.entries) (sym (is_same lone)) (tied lone)

  pub back_world : IsLone v.member → world_of later ≡ world_of v
  back_world lone = ap world_of (is_same lone)

  pub back_sound : (holds : T → List OwnerOrCell) → IsSound holds v → IsSound holds later
  back_sound holds sound = record {
    settled = ap (λ (y : LocalState J). y.due) is.only ∙ sound.settled;
    closes = ap (λ (y : LocalState J). y.slots.closes) is.only ∙ sound.closes;
    home = λ place value g there. subst (λ h. AreOf h (holds value)) (sym (ap home_in is.only))
        (sound.home place value g (ap (λ (l : Entries T). slice_index_or l place None) (sym is.entries) ∙ there));
    whole = λ one. let lone = lone_before one in subst (λ (w : _). IsWhole w) (sym (back_world lone)) (sound.whole lone);
  }

  keeps_by : (shown : T → Gv) (holds : T → List OwnerOrCell) (b : Bool) → (IsTrue b → IsLone v.member) → (i : ℕ) (u : T) → ShowsBy b shown holds v i u
      → ShowsBy b shown holds later i u
  keeps_by shown holds true lone i u h = ap (λ (q : LocalModel T J). value_at (world_of q) i) (is_same (lone refl)) ∙ h
  keeps_by shown holds false lone i u h = subst (λ (y : LocalState J). space.SeesValue shown holds y i u) (sym is.only) h

  pub back_keeps : (shown : T → Gv) (holds : T → List OwnerOrCell) → KeepsShown (Shows shown holds v) (Shows shown holds later)
  back_keeps shown holds i u h = subst (λ (b : Bool). ShowsBy b shown holds later i u) (ap is_lone (sym is.only))
      (keeps_by shown holds (is_lone v.member) (λ exact. lone_is v.member exact) i u h)

-- where nothing but words is other, and what is shown is kept, the participant is undisturbed
module _ {T J : Type 0} (v : LocalModel T J) (m : LocalState J) (is : m ≡ record v.member { words = m.words }) (shown : T → Gv) (holds : T → List OwnerOrCell)
    (p : LocalModel T J) (same : v ≡ p) where
  abbrev now : LocalModel T J
  now = record { member = m; entries = v.entries }

  knows_still : KnowsOn (known_of v) (known_of v)
  knows_still = record { told = omega arith; since = refl }

  pub words_undisturbed : KeepsShown (Shows shown holds v) (Shows shown holds now)
      → Undisturbed caller_of (λ (q : LocalModel T J). q.member.own) known_of (λ (q : LocalModel T J). Shows shown holds q) p now
  words_undisturbed kept = subst (λ (q : LocalModel T J). Undisturbed caller_of (λ (q : LocalModel T J). q.member.own) known_of
      (λ (q : LocalModel T J). Shows shown holds q) q now) same record {
        caller = ap caller_in is;
        own = ap (λ (y : LocalState J). y.own) is;
        known = subst (λ (y : LocalState J). KnowsOn (known_of v) (known_of (record { member = y; entries = v.entries }))) (sym is) knows_still;
        shown = kept;
      }
