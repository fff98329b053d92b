-- A `&` to a place is made of a borrow of it, whatever its value. Assumes `Logic`.
use Rattle.std.proofs.Common.{◌≡◌, ℕ, zero, ◌+◌, List, [], ◌∷◌, sym, subst}
use mathlib.Core.Bool.{Bool, true}
use seplogic.Ra.Ura.{Ura}
use mir.Syntax.{Ty}
use mir.Val.{Val}
use base.Fraction.{full_share}
use base.Stored.{gnum}
use base.Logic.{SProp, ent, sep, wand, ex, all_e, upd_i, apply∗, id⊢}
use base.Fml.{Lft, Share, Incl, Fml, ftrue, fsep, fseps, fwand, fupd, fdead, fauth, fbor, flft, finv, Incl-refl}
use base.Before.{before}
use ghost.Rules.{Toks, span}
use types.Logic.{Logic, sem, lfts}
use types.Kit.{‵, raw, ◌⊛◌, some, later, ◌$◌, ◌∵◌, !, qed, by, move, keep, drop, use0, use1, use2, split, fsplit, fjoin, fpick, fpack, pick, show, assume, suffices, await, updating, now, done}
use types.Tokens.{bor_open, obor_alter, name_new}
use types.Na.{before-Incl}
use denote.RattleType.{RattleType, Denots}
use denote.Laws.{Lawful}
use denote.Memory.{part_of, part_at, cell_at}
use denote.RawPtr.{block_ptr}
use denote.Sharing.{ends, always}
use denote.SharingLaws.{some_shr_laws, beside_shr_laws, ends_shr_laws, always_shr_laws}
use denote.Param.{layout}
use denote.Param.Laws.{Laws}
use denote.Struct.Struct.{Struct}
use denote.Struct.Members.{Member, row_of, rows_of, parts_at}
use denote.Struct.Parts.{PartsBack, Struct-parts, shape_of}
use denote.Struct.Lending.{Law}
use Rattle.core.proofs.cell.Borrows.{by_one}
use Rattle.sdd_bag.specs.KeyedPlaces.{PlaceName, Loan, start, content, state, rule, kept, place_shares}
use Rattle.sdd_bag.specs.contracts.keyed_place.KeyedPlace as C
use Rattle.sdd_bag.proofs.keyed_place.KeyedPlace.TheLaw.Statement.{statement}

module _ {M : Type 1} {𝓤 : Ura M} (𝓛 : Logic 𝓤) (m : Member) (d : PlaceName) (L : Lawful 𝓛 (row_of m)) (b o : ℕ) (κ : Lft) where
  open 𝓛 use {H, A}

  abbrev Pr : Type 2
  Pr = SProp 𝓤

  abbrev ◌⊢◌ : Pr → Pr → Type 1
  P ⊢ Q = ent 𝓤 P Q

  abbrev ◌∗◌ : Pr → Pr → Pr
  P ∗ Q = sep 𝓤 P Q

  abbrev ◌-∗◌ : Pr → Pr → Pr
  P -∗ Q = wand 𝓤 P Q

  abbrev ⟦◌⟧ : Fml → Pr
  ⟦ P ⟧ = sem 𝓛 P

  infix 26 ◌⊢◌
  infixr 35 ◌∗◌
  infixr 30 ◌-∗◌
  abbrev R : RattleType
  R = row_of m

  abbrev ks : List Member
  ks = m ∷ []

  abbrev Data : RattleType
  Data = Struct (shape_of [] ks)

  abbrev P : Fml
  P = part_at (C.the_written R) full_share d b o

  abbrev Fields : R.Denot → Fml
  Fields x = part_at Data full_share (x, tt) b o

  abbrev At : R.Denot → Fml
  At x = part_at R full_share x b (o + start R)

  abbrev Named : R.Denot → Fml
  Named x = fauth d.value (R.coded.code x)

  abbrev In : Fml
  In = content R d b o

  apart : ⟦ P ⟧ ⊢ ex 𝓤 (λ (x : R.Denot). ⟦ Fields x ⟧ ∗ ⟦ Named x ⟧)
  unfolding part_of
  apart = qed 𝓛 (‵ P ∷ []) ∵ fpick ! (λ vs. fsplit ! $ move ! (1 ∷ []) $ fpick ! (λ x. fsplit ! $ move ! (2 ∷ 0 ∷ []) $ fjoin ! $
      fpack ! (List Val) (λ us. fsep (cell_at full_share Data.mir us b o) (Data.own_val (x, tt) us)) vs $
      show ! (λ (y : R.Denot). ⟦ Fields y ⟧ ∗ ⟦ Named y ⟧) x $ done !))

  whole : (x : R.Denot) → ⟦ Fields x ⟧ ∗ ⟦ Named x ⟧ ⊢ ⟦ P ⟧
  unfolding part_of
  whole x = qed 𝓛 (‵ (Fields x) ∷ ‵ (Named x) ∷ []) ∵ fpick ! (λ vs. fsplit ! $ move ! (1 ∷ 2 ∷ []) $ fjoin ! $
      fpack ! R.Denot (λ y. fsep (Data.own_val (y, tt) vs) (Named y)) x $ move ! (1 ∷ 0 ∷ []) $ fjoin ! $
      fpack ! (List Val) (λ us. fsep (cell_at full_share Data.mir us b o) ((C.the_written R).own_val d us)) vs $ done !)

  way_back : PartsBack 𝓛 full_share [] ks b o ⊢ ⟦ fwand (fsep (fdead κ) (fseps (In ∷ []))) (fupd P) ⟧
  unfolding fseps
  way_back = qed 𝓛 (raw (PartsBack 𝓛 full_share [] ks b o) ∷ []) ∵ assume ! (‵ (fsep (fdead κ) (fseps (In ∷ [])))) $
      suffices ! ⟦ P ⟧ (upd_i 𝓤 ⟦ P ⟧) $ fsplit ! $ drop ! $ fsplit ! $ fpick ! (λ x. fsplit ! $ move ! (0 ∷ 2 ∷ []) $ fjoin ! $ move ! (2 ∷ []) $
      use1 𝓛 (raw (⟦ parts_at full_share ks zero (x, tt) b o ⟧ -∗ ⟦ Fields x ⟧))
      (all_e 𝓤 (λ (a : Denots (rows_of ks)). ⟦ parts_at full_share ks zero a b o ⟧ -∗ ⟦ part_at Data full_share a b o ⟧) (x, tt)) $
      move ! (1 ∷ 0 ∷ []) $ use2 𝓛 (‵ (Fields x)) (apply∗ 𝓤 ⟦ parts_at full_share ks zero (x, tt) b o ⟧ ⟦ Fields x ⟧) $ by ! (whole x))

  cut : (q : Share) → A.bor κ P ∗ A.lft κ q ⊢ H.⇛ (A.bor κ In ∗ A.lft κ q)
  unfolding fseps
  cut q = qed 𝓛 (‵ (fbor κ P) ∷ ‵ (flft κ q) ∷ []) ∵ updating ! $ bor_open ! tt $ move ! (1 ∷ []) $
      use1 𝓛 (some (λ (x : R.Denot). ‵ (Fields x) ⊛ ‵ (Named x))) apart $ pick ! (λ x. split ! $
      use1 𝓛 ((‵ (At x) ⊛ ‵ ftrue) ⊛ raw (PartsBack 𝓛 full_share [] ks b o)) (Struct-parts 𝓛 full_share [] ks (L, tt) (x, tt) b o) $ split ! $ split ! $
      move ! (0 ∷ 3 ∷ []) $ fjoin ! $ fpack ! R.Denot (λ y. fsep (At y) (Named y)) x $ fjoin ! $ move ! (1 ∷ []) $
      use1 𝓛 (‵ (fwand (fsep (fdead κ) (fseps (In ∷ []))) (fupd P))) way_back $ move ! (2 ∷ 1 ∷ 0 ∷ []) $ obor_alter ! tt (In ∷ []) $
      use1 𝓛 (‵ (fbor κ In) ⊛ ‵ ftrue) (id⊢ 𝓤 _) $ split ! $ now ! $ keep ! (0 ∷ 2 ∷ []) $ done !)

  made : (ts : Toks) → Incl (span ts) κ → A.bor κ P ∗ lfts 𝓛 ts ⊢ H.⇛ (⟦ place_shares R d (block_ptr b o) κ ⟧ ∗ lfts 𝓛 ts)
  made ts sp = qed 𝓛 (‵ (fbor κ P) ∷ raw (lfts 𝓛 ts) ∷ []) ∵ updating ! $
      use2 𝓛 (later (‵ (fbor κ In) ⊛ raw (lfts 𝓛 ts))) (by_one 𝓛 κ ts sp (A.bor κ P) (A.bor κ In) cut) $ await ! tt $ split ! $
      name_new ! tt (gnum 0) (λ δ. fjoin ! $ fjoin ! $ fpack ! Bool (state R d b o (κ, δ)) true $
      use1 𝓛 (later (‵ (finv (rule R d b o (κ, δ))))) (𝓛.invs.inv_new (rule R d b o (κ, δ))) $ await ! tt $
      use0 𝓛 (‵ (before κ κ)) (before-Incl 𝓛 κ κ (Incl-refl κ)) $ fjoin ! $ fpack ! Loan (λ t. kept R d b o t κ) (κ, δ) $ now ! $ done !)

pub shares : (T : RattleType) (L : Laws T) → statement T L
shares T L = let m : Member = record { row = T; ty = layout T } in
    let same : T ≡ row_of m = λ i. record {
      Denot = T.Denot;
      mir = L.one i;
      written = T.written;
      reaches = T.reaches;
      lives = T.lives;
      own_val = T.own_val;
      exit = T.exit;
      coded = T.coded;
      shr_at = T.shr_at;
    } in
    subst (λ (τ : List Ty). Law (C.the_written (record T { mir = τ }))) (sym L.one) (record {
      shr_laws = λ d b o. some_shr_laws Loan (kept (row_of m) d b o) (λ t. beside_shr_laws (ends t.0) (always (rule (row_of m) d b o t)) (ends_shr_laws t.0)
          (always_shr_laws (rule (row_of m) d b o t)));
      shares = λ M 𝓤 𝓛 d κ ts b o inc sp. made 𝓛 m d (subst (Lawful 𝓛) same (L.lawful 𝓛)) b o κ ts sp;
    })
