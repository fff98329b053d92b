-- No part of the words' rule reads what is known of fractions and of ended places; so seats begin, come, and are cut and joined, whatever that is.
use Rattle.std.proofs.Common.{◌≡◌, ℕ, zero, suc, ◌+◌, ◌<◌, List, [], ◌∷◌, ◌++◌, map, length, get_or, set, sym, refl, ap, ◌∙◌, subst, ⊎_elim, arith}
use mathlib.Core.Option.{some, some-injective, some-ne-none}
use mathlib.Core.List.{map-append}
use lib.ListN.{get_elem?}
use lib.Seq.{map-set}
use Rattle.atomic_table.specs.Table.{Enters, Splits, Joins, opening}
use Rattle.atomic_table.proofs.Lists.{at_map, at_snoc, set_again, set_else, set_here}
use Rattle.sdd_rights.specs.declared.views.EpochView.{EpochView}
use Rattle.sdd_rights.specs.declared.views.EndedView.{EndedView}
use Rattle.sdd_rights.specs.declared.views.FractionsView.{FractionsView}
use Rattle.sdd_rights.specs.declared.views.CellsView.{CellsView}
use Rattle.sdd_rights.specs.declared.views.PledgesView.{PledgesView}
use Rattle.sdd_rights.specs.declared.views.View.{View}
use Rattle.sdd_rights.specs.declared.views.Sizes.{Sizes}
use Rattle.sdd_domain_invariant.specs.Codes.{codes}
use Rattle.sdd_domain_invariant.specs.Words.{slot_word, all_words}
use Rattle.sdd_domain_invariant.specs.Sums.{is, times}
use Rattle.sdd_domain_invariant.specs.Slots.SlotSteps.{first, others, parted, joined}
use Rattle.sdd_domain_invariant.proofs.Sums.{total_append}
use Rattle.std.specs.Prelude.{Some, None}
use Rattle.sdd_domain_invariant.specs.Epoch.{HasPlace, EpochInvariant}
use Rattle.sdd_domain_invariant.specs.Slots.{Holds, LoneInvariant}
use Rattle.sdd_rights.specs.Views.{nobody, owner_seat}
use Rattle.sdd_domain_invariant.specs.WordInvariant.{epoch_of, idle, Parts, WordInvariant}
use Rattle.sdd_domain_invariant.specs.Epoch.Barred.{AreBarred, AreQuiet}
use Rattle.sdd_domain_invariant.proofs.Frame.{Each, each_set, each_snoc}
use Rattle.sdd_domain_invariant.proofs.Codes.{sound}
use Rattle.sdd_domain_invariant.proofs.Epoch.{seated}
use Rattle.sdd_domain_invariant.proofs.Epoch as epochs
use Rattle.sdd_domain_invariant.proofs.Slots.SlotWords.{view_step}
use Rattle.sdd_domain_invariant.proofs.Slots.SlotSeats.{with_owners, sits, starts}
use Rattle.sdd_domain_invariant.proofs.Slots.SlotSeats as seats
use Rattle.sdd_domain_invariant.proofs.Slots.LoneInvariant.{lone_same}
use Rattle.sdd_domain_invariant.proofs.Collectors.{view_aside, more, starts as nothing}

-- a step that leaves what is known of the epoch
pub same_epochs : (vs : List View) (id : ℕ) (v w : View) → get_elem? vs id ≡ some v → w.epoch ≡ v.epoch → map epoch_of (set vs id w) ≡ map epoch_of vs
same_epochs vs id v w at same = map-set epoch_of vs id w
    ∙ (ap (set (map epoch_of vs) id) same ∙ set_again (map epoch_of vs) id v.epoch (at_map epoch_of vs id v at))

set_twice : {X : Type 0} (l : List X) (i : ℕ) (a b : X) → set (set l i a) i b ≡ set l i b
set_twice [] i a b = refl
set_twice (x ∷ xs) zero a b = refl
set_twice (x ∷ xs) (suc i) a b = ap (λ (l : List _). x ∷ l) (set_twice xs i a b)

-- no part reads what is known of fractions, and which owners have their units
pub blind_units : (sizes : Sizes) (ws : List ℕ) (vs : List View) (id : ℕ) (u v : View) → get_elem? vs id ≡ some u → Parts sizes ws (set vs id v)
    → (t : FractionsView) (units : List ℕ) → Parts sizes ws (set vs id (record v { fractions = t; slots = record v.slots { drawn = units } }))
blind_units sizes ws vs id u v was p t units = let us : List View = set vs id v in
    let w : View = record v { fractions = t; slots = record v.slots { drawn = units } } in
    let at : get_elem? us id ≡ some v = set_here vs id v (epochs.at_length vs id u was) in let f = p.slots.each id v at in
    subst (Parts sizes ws) (set_twice vs id v w) record {
      epoch = subst (λ (l : List EpochView). EpochInvariant sizes ws l) (sym (same_epochs us id v w at refl)) p.epoch;
      slots = view_step codes sound sizes ws us p.slots id v at w (λ _. refl) (λ _. refl)
          record { timed = f.timed; guarded = f.guarded; full = f.full; held = f.held }
          (let x = p.slots.two id id v v at at in record { since = x.since; looked = x.looked })
          (λ j x apart e. let a = p.slots.two id j v x at e in let b = p.slots.two j id x v e at in
          (record { since = a.since; looked = a.looked }, record { since = b.since; looked = b.looked }));
      lone = lone_same sizes ws us p.lone id v at w refl (λ z. z);
      collectors = view_aside codes sound sizes ws us p.collectors id v w at (refl, refl, refl, refl, refl, refl, refl, refl, refl) (omega arith) (omega arith);
    }

pub blind : (sizes : Sizes) (ws : List ℕ) (vs : List View) (id : ℕ) (u v : View) → get_elem? vs id ≡ some u → Parts sizes ws (set vs id v)
    → (t : FractionsView) → Parts sizes ws (set vs id (record v { fractions = t }))
blind sizes ws vs id u v was p t = blind_units sizes ws vs id u v was p t v.slots.drawn

-- nor of ended places
pub blind_places : (sizes : Sizes) (ws : List ℕ) (vs : List View) (id : ℕ) (v : View) → get_elem? vs id ≡ some v → Parts sizes ws vs
    → (t : EndedView) → Parts sizes ws (set vs id (record v { places = t }))
blind_places sizes ws vs id v at p t = let w : View = record v { places = t } in let f = p.slots.each id v at in record {
  epoch = subst (λ (l : List EpochView). EpochInvariant sizes ws l) (sym (same_epochs vs id v w at refl)) p.epoch;
  slots = view_step codes sound sizes ws vs p.slots id v at w (λ _. refl) (λ _. refl)
      record { timed = f.timed; guarded = f.guarded; full = f.full; held = f.held }
      (let x = p.slots.two id id v v at at in record { since = x.since; looked = x.looked })
      (λ j x apart e. let a = p.slots.two id j v x at e in let b = p.slots.two j id x v e at in
      (record { since = a.since; looked = a.looked }, record { since = b.since; looked = b.looked }));
  lone = lone_same sizes ws vs p.lone id v at w refl (λ z. z);
  collectors = view_aside codes sound sizes ws vs p.collectors id v w at (refl, refl, refl, refl, refl, refl, refl, refl, refl) (omega arith) (omega arith);
}

-- nor of what is pledged, nor of rights to cells
pub blind_seats : (sizes : Sizes) (ws : List ℕ) (vs : List View) (id : ℕ) (v : View) → get_elem? vs id ≡ some v → Parts sizes ws vs
    → (t : PledgesView) (c : CellsView) → Parts sizes ws (set vs id (record v { pledges = t; cells = c }))
blind_seats sizes ws vs id v at p t c = let w : View = record v { pledges = t; cells = c } in let f = p.slots.each id v at in record {
  epoch = subst (λ (l : List EpochView). EpochInvariant sizes ws l) (sym (same_epochs vs id v w at refl)) p.epoch;
  slots = view_step codes sound sizes ws vs p.slots id v at w (λ _. refl) (λ _. refl)
      record { timed = f.timed; guarded = f.guarded; full = f.full; held = f.held }
      (let x = p.slots.two id id v v at at in record { since = x.since; looked = x.looked })
      (λ j x apart e. let a = p.slots.two id j v x at e in let b = p.slots.two j id x v e at in
      (record { since = a.since; looked = a.looked }, record { since = b.since; looked = b.looked }));
  lone = lone_same sizes ws vs p.lone id v at w refl (λ z. z);
  collectors = view_aside codes sound sizes ws vs p.collectors id v w at (refl, refl, refl, refl, refl, refl, refl, refl, refl) (omega arith) (omega arith);
}

-- one seat more, which has no place
snoc_lone : (sizes : Sizes) (ws : List ℕ) (vs : List View) (t : View) → ¬ (HasPlace t.epoch) → LoneInvariant sizes ws vs → LoneInvariant sizes ws (vs ++ t ∷ [])
snoc_lone sizes ws vs t none l = record {
  knows = λ one j u e z. ⊎_elim (λ (a : get_elem? vs j ≡ some u). l.knows one j u a z)
      (λ (a : t ≡ u). absurd (none (subst (λ (x : View). HasPlace x.epoch) (sym a) z))) (at_snoc vs t u j e);
}

-- the words and what is known of ended places stay
moved : (F : View → Type 0) (vs : List View) (id : ℕ) (v w : View) → get_elem? vs id ≡ some v → Each F vs → (F v → F w) → Each F (set vs id w)
moved F vs id v w at old same = each_set F F vs id w (same (old id v at)) (λ j u _ e. old j u e)

module _ {S : Type 0} (sizes : Sizes) where
  -- a new seat, which knows nothing
  pub enters : (gamma slots i : ℕ) (told : ℕ → View → Type 0) → ((r : ℕ) → told r (idle sizes gamma)) → Enters (WordInvariant {S = S} sizes) slots i told
  enters gamma slots i told tells s k _ small = let n : ℕ = sizes.participants in let w : View = idle sizes gamma in (
    w,
    record {
      parts = record {
        epoch = subst (λ (l : List EpochView). EpochInvariant sizes s.words l) (sym (map-append epoch_of s.views (w ∷ [])))
            (seated sizes n (λ _. refl) s.words (map epoch_of s.views) k.parts.epoch);
        slots = sits codes sizes s.words s.views k.parts.slots w refl;
        lone = snoc_lone sizes s.words s.views w (λ z. absurd (omega arith)) k.parts.lone;
        collectors = more codes sound sizes s.words s.views k.parts.collectors w
            record { privates = refl; emptied = refl; empties = refl; closes = refl; sees = refl };
      };
      places = record {
        wide = k.places.wide;
        ended = each_snoc (AreBarred sizes s.words) s.views w k.places.ended (λ p _ l. absurd (omega arith));
        quiet = each_snoc (AreQuiet sizes s.words) s.views w k.places.quiet (λ i l. absurd (omega arith));
      };
    },
    tells (get_or s.words i 0),
  )

  -- the table at the start
  pub begins : (gamma : ℕ) (t : FractionsView) (q : PledgesView) (ws : List ℕ) (xs : List S) → length ws ≡ all_words sizes → ((i : ℕ) → get_or ws i 0 ≡ 0)
      → WordInvariant sizes (opening ws xs (record (idle sizes gamma) { fractions = t; pledges = q }))
  begins gamma t q ws xs long none = let w : View = record (idle sizes gamma) { fractions = t; pledges = q } in record {
    parts = record {
      epoch = epochs.begins sizes ws (omega arith) none;
      slots = starts codes sound sizes ws w long none refl;
      lone = record { knows = λ one j v e z. let e' = ap (λ (x : View). x.epoch.state) (only w j v e) in absurd (omega arith) };
      collectors = more codes sound sizes ws [] (nothing codes sound sizes ws (λ i. none (slot_word sizes i))) w
          record { privates = refl; emptied = refl; empties = refl; closes = refl; sees = refl };
    };
    places = record {
      wide = omega arith;
      ended = λ j v e p _ l. let e' = ap (λ (x : View). x.places.ended) (only w j v e) in absurd (omega arith);
      quiet = λ j v e i l. let e' = ap (λ (x : View). x.places.quiet) (only w j v e) in absurd (omega arith);
    };
  }
    where
      only : (t : View) (j : ℕ) (v : View) → get_elem? (t ∷ []) j ≡ some v → t ≡ v
      only t zero v e = some-injective _ _ e
      only t (suc j) v e = absurd (some-ne-none v (sym e))

  -- owners are cut off as a seat, but for the one of a slot that is held
  pub cuts : (id : ℕ) (v : View) (os units os' : List ℕ) (mine theirs : FractionsView)
      → ((i : ℕ) → times i v.slots.owns ≡ times i os + times i os')
      → ((i : ℕ) → Holds v i → 0 < times i os) → Splits (WordInvariant {S = S} sizes) id v
      (with_owners v os units mine) (record (owner_seat os') { fractions = theirs })
  cuts id v os units os' mine theirs parts held s k at = let n : ℕ = sizes.participants in
      let w : View = with_owners v os units mine in let t : View = record (owner_seat os') { fractions = theirs } in
      let vs : List View = set s.views id w in record {
        parts = record {
          epoch = subst (λ (l : List EpochView). EpochInvariant sizes s.words l)
              (sym (map-append epoch_of vs (t ∷ []) ∙ ap (λ (l : List EpochView). l ++ nobody 0 ∷ []) (same_epochs s.views id v w at refl)))
              (seated sizes 0 (λ z. absurd (z refl)) s.words (map epoch_of s.views) k.parts.epoch);
          slots = seats.cuts codes sizes s.words s.views k.parts.slots id v at os units mine t os' refl parts held;
          lone = snoc_lone sizes s.words vs t (λ z. absurd (omega arith)) (lone_same sizes s.words s.views k.parts.lone id v at w refl (λ z. z));
          collectors = more codes sound sizes s.words vs
              (view_aside codes sound sizes s.words s.views k.parts.collectors id v w at
              (refl, refl, refl, refl, refl, refl, refl, refl, refl) (omega arith) (omega arith)) t
              record { privates = refl; emptied = refl; empties = refl; closes = refl; sees = refl };
        };
        places = record {
          wide = k.places.wide;
          ended = each_snoc (AreBarred sizes s.words) vs t (moved (AreBarred sizes s.words) s.views id v w at k.places.ended (λ e. e))
              (λ p _ l. absurd (omega arith));
          quiet = each_snoc (AreQuiet sizes s.words) vs t (moved (AreQuiet sizes s.words) s.views id v w at k.places.quiet (λ q. q))
              (λ i l. absurd (omega arith));
        };
      }

  -- and taken in again
  pub takes_in : (id : ℕ) (v : View) (other : ℕ) (os units os' : List ℕ) (mine theirs : FractionsView)
      → ((i : ℕ) → times i os ≡ times i v.slots.owns + times i os')
      → Joins (WordInvariant {S = S} sizes) id v other (record (owner_seat os') { fractions = theirs })
      (with_owners v os units mine) (owner_seat [])
  takes_in id v other os units os' mine theirs parts s k at apart there = let n : ℕ = sizes.participants in
      let w : View = with_owners v os units mine in let t : View = record (owner_seat os') { fractions = theirs } in
      let t' : View = owner_seat [] in let vs : List View = set s.views id w in
      let was : get_elem? s.views other ≡ some t = sym (set_else s.views id other w apart) ∙ there in record {
        parts = record {
          epoch = subst (λ (l : List EpochView). EpochInvariant sizes s.words l)
              (sym (same_epochs vs other t t' there refl ∙ same_epochs s.views id v w at refl)) k.parts.epoch;
          slots = seats.takes_in codes sizes s.words s.views k.parts.slots id v at os units mine other t t' os' refl refl parts apart was;
          lone = lone_same sizes s.words vs (lone_same sizes s.words s.views k.parts.lone id v at w refl (λ z. z)) other t there t' refl (λ z. z);
          collectors = view_aside codes sound sizes s.words vs
              (view_aside codes sound sizes s.words s.views k.parts.collectors id v w at
              (refl, refl, refl, refl, refl, refl, refl, refl, refl) (omega arith) (omega arith)) other t t' there
              (refl, refl, refl, refl, refl, refl, refl, refl, refl) (omega arith) (omega arith);
        };
        places = record {
          wide = k.places.wide;
          ended = moved (AreBarred sizes s.words) vs other t t' there (moved (AreBarred sizes s.words) s.views id v w at k.places.ended (λ e. e)) (λ e. e);
          quiet = moved (AreQuiet sizes s.words) vs other t t' there (moved (AreQuiet sizes s.words) s.views id v w at k.places.quiet (λ q. q)) (λ q. q);
        };
      }

  -- the only owner of the first slot goes to a seat of its own, where none is held
  pub parts_owner : (id : ℕ) (v : View) (mine theirs : FractionsView) → v.slots.holds ≡ None → Splits (WordInvariant {S = S} sizes) id v
      (record (parted v) { fractions = mine }) (record (owner_seat (first v.slots.owns)) { fractions = theirs })
  parts_owner id v mine theirs free = cuts id v (others v.slots.owns) (others v.slots.drawn) (first v.slots.owns) mine theirs
      (λ i. both i v.slots.owns) (λ i h. let c : None ≡ Some i = sym free ∙ h in cc)
    where
      both : (i : ℕ) (os : List ℕ) → times i os ≡ times i (others os) + times i (first os)
      both i [] = refl
      both i (x ∷ xs) = omega arith

  -- and comes back
  pub joins_owners : (id : ℕ) (v : View) (other : ℕ) (os : List ℕ) (mine theirs : FractionsView)
      → Joins (WordInvariant {S = S} sizes) id v other (record (owner_seat os) { fractions = theirs })
      (record (joined v (owner_seat os)) { fractions = mine }) (owner_seat [])
  joins_owners id v other os mine theirs = takes_in id v other (os ++ v.slots.owns) (os ++ v.slots.drawn) os mine theirs
      (λ i. let e = total_append (is i) os v.slots.owns in omega arith)
