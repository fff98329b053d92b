-- What several calls in a row leave alone, and cells that are taken one after another
use Rattle.std.proofs.Common.{◌≡◌, ◌≢◌, ℕ, None, Some, false, true, sym, ap, ◌∙◌, arith}
use Rattle.std.specs.Prelude.{is_some}
use Rattle.std.proofs.lemmas.List.{get_or-set_same, get_or-set_other, length-set}
use Rattle.sdd_core.specs.declared.tag.Tag.TheVariants as tag
use Rattle.sdd_participants.specs.Slab.{Entries, IsEmptyAt, IsFull, entry_at}
use Rattle.sdd_participants.specs.declared.participant.Participant.{Participant}
use Rattle.sdd_space.specs.CallerId.{CallerId}
use Rattle.sdd_world_model.specs.KnownEpochs.{KnownEpochs}
use Rattle.sdd_space.specs.Undisturbed.{Undisturbed, Unmoved}
use Rattle.sdd_world_model.specs.World.{World}
use Rattle.sdd_world_model.specs.WorldChanges.{nulled}
use Rattle.sdd_lists.specs.Queue.{HasOneAtMost}
use Rattle.sdd_lists.proofs.MoreWaiting.{knows-on}

module _ {S T : Type 0} (caller : S → CallerId) (known : S → KnownEpochs) (shows : S → ℕ → T → Type 0) where
  pub moves-on : (a b c : S) → Unmoved caller known shows a b → Unmoved caller known shows b c → Unmoved caller known shows a c
  moves-on a b c p q = record {
    caller = q.caller ∙ p.caller;
    known = knows-on p.known q.known;
    shown = λ k v there. q.shown k v (p.shown k v there);
  }

  pub still : (own : S → Participant) (a b : S) → Undisturbed caller own known shows a b → Unmoved caller known shows a b
  still own a b u = record { caller = u.caller; known = u.known; shown = u.shown }

pub full-one : {E : Type 0} (t : Entries E) → IsFull t → HasOneAtMost t
full-one t full c d free other =
    let never : false ≡ true = sym (ap is_some free.1) ∙ full c None free.0 in absurd (cc)

module _ {T : Type 0} (w : World T) (a b : ℕ) (first : IsEmptyAt w.cells a) (then : IsEmptyAt (nulled w a).cells b) where
  pub apart : a ≢ b
  apart same =
      let there : entry_at (nulled w a).cells a ≡ Some (record { held = None; tag = tag.None }) =
      get_or-set_same w.cells a (Some (record { held = None; tag = tag.None })) None first.0 in
      let none : entry_at (nulled w a).cells a ≡ None = ap (λ (k : ℕ). entry_at (nulled w a).cells k) same ∙ then.1 in
      let never : false ≡ true = ap is_some (sym none ∙ there) in
      absurd (cc)

  pub free-before : IsEmptyAt w.cells b
  free-before = (
    omega (arith, then.0, length-set w.cells a (Some (record { held = None; tag = tag.None }))),
    sym (get_or-set_other w.cells a b (Some (record { held = None; tag = tag.None })) None (λ e. apart (sym e))) ∙ then.1,
  )
