-- Places begin vacant in room for them, have their rules, and end. Assumes `Logic`.
use Rattle.std.proofs.Common.{ℕ, zero, suc, ◌+◌, ◌^◌, ◌≤◌, List, [], ◌∷◌, refl, arith}
use Rattle.std.specs.Prelude.{Option, None, Some}
use seplogic.Ra.Ura.{Ura}
use base.Fraction.{full_share}
use base.FractionLaws.{Counts-all}
use base.Stored.{Gv, gnil, gnum}
use base.Logic.{SProp, ent, sep, ex, guard}
use base.Fml.{Fml, ftrue, fsep, finv, froom}
use types.Logic.{Logic, sem}
use types.Kit.{‵, ◌⊛◌, some as exists, given, later, ◌$◌, ◌∵◌, !, qed, move, keep, drop, use0, use1, use2, split, split3, fsplit, fjoin, fpick, fpack, pick, learn, check, show, rewrite, updating, await, now, done}
use types.Tokens.{lft_new}
use mir.Syntax.{ty_array}
use denote.RattleType.{RattleType}
use denote.Memory.{mem}
use denote.RawPtr.{Ptr, block_ptr}
use denote.Steps.{nothing}
use Rattle.core.proofs.mem.Param.{El, elτ, R as row_of}
use Rattle.sdd_rights.specs.Units.{units, tokens, keys_own}
use Rattle.sdd_rights.proofs.Steps.{issues, splits, tokens_in, tokens_cut}
use Rattle.sdd_shared_values.specs.ValueFractions.{FractionContent, agreed_on, part, holding, holdings}
use Rattle.sdd_shared_values.specs.SharedValues.{vacancy, plain_place, state, rule, plots, rules, content, most, AreVacant}
use Rattle.sdd_shared_values.proofs.ValueMoves.{opens_room}

module _ (E : El) {M : Type 1} {𝓤 : Ura M} (𝓛 : Logic 𝓤) (γ : ℕ) where
  open 𝓛 use {H, A}

  abbrev Pr : Type 2
  Pr = SProp 𝓤

  abbrev ⟦◌⟧ : Fml → Pr
  ⟦ P ⟧ = sem 𝓛 P

  abbrev ◌⊢◌ : Pr → Pr → Type 1
  P ⊢ Q = ent 𝓤 P Q

  abbrev ◌∗◌ : Pr → Pr → Pr
  P ∗ Q = sep 𝓤 P Q

  infix 26 ◌⊢◌
  infixr 35 ◌∗◌
  abbrev R : RattleType
  R = row_of E

  abbrev size : ℕ
  size = (mem R).size

  -- ---- one place
  abbrev Housed : Ptr → ℕ → ℕ → Pr
  Housed p i a = ⟦ plain_place R p γ i ⟧ ∗ ⟦ part γ i a gnil most ⟧ ∗ ⟦ keys_own γ (suc i) ⟧

  houses : (p : Ptr) (i : ℕ) → ⟦ keys_own γ i ⟧ ∗ ⟦ vacancy R p ⟧ ⊢ H.⇛ (ex 𝓤 (Housed p i))
  houses p i = qed 𝓛 (‵ (keys_own γ i) ∷ ‵ (vacancy R p) ∷ []) ∵ updating ! $ lft_new ! tt (λ a. let h : Gv = agreed_on a gnil in
      move ! (1 ∷ []) $ use1 𝓛 (later (‵ (keys_own γ (suc i)) ⊛ ‵ (units γ i h (2 ^ 63)))) (issues 𝓛 γ i h) $ await ! tt $ split ! $
      move ! (1 ∷ []) $ use1 𝓛 (given ((2 ^ 63) ≤ 2 ^ 63) (‵ (units γ i h 1) ⊛ ‵ (units γ i h most)))
      (splits 𝓛 γ i h (2 ^ 63) 1 most (omega arith) (omega arith) (omega arith)) $ learn ! (λ fits. split ! $
      -- [1; most; the ghost map; the token; the room]
      move ! (3 ∷ []) $ use1 𝓛 (‵ (tokens a (2 ^ 63))) (tokens_in 𝓛 a (2 ^ 63) full_share (Counts-all 63)) $
      use1 𝓛 (‵ (tokens a 1) ⊛ ‵ (tokens a most)) (tokens_cut 𝓛 a (2 ^ 63) 1 most (omega arith) (omega arith) (omega arith) (omega arith)) $ split ! $
      -- [the place's token; the others; 1; most; the ghost map; the room]
      move ! (2 ∷ 0 ∷ []) $ fjoin ! $ move ! (0 ∷ 4 ∷ []) $ fjoin ! $ fpack ! ℕ (λ m. fsep (part γ i m gnil 1) (vacancy R p)) a $
      -- [the place; the others' tokens; most; the ghost map]
      move ! (2 ∷ 1 ∷ []) $ fjoin ! $ now ! $ show ! (Housed p i) a $ move ! (1 ∷ 0 ∷ 2 ∷ []) $ done !))

  -- ---- all of them
  module _ (b : ℕ) where
    abbrev space : ℕ → ℕ → Fml
    space n o = froom (ty_array (elτ E) n) b o

    abbrev pub Laid : ℕ → ℕ → ℕ → List FractionContent → Pr
    Laid n i o ls = guard 𝓤 (AreVacant γ i n ls) (⟦ plots R b γ n i o ⟧ ∗ ⟦ holdings ls ⟧)

    pub lays : (n i o : ℕ) → ⟦ keys_own γ i ⟧ ∗ ⟦ space n o ⟧ ⊢ H.⇛ (ex 𝓤 (Laid n i o))
    lays zero i o = qed 𝓛 (‵ (keys_own γ i) ∷ ‵ (space zero o) ∷ []) ∵ updating ! $ drop ! $ drop ! $ nothing ! $ nothing ! $ now ! $
        show ! (Laid zero i o) [] $ check ! tt $ done !
    lays (suc n) i o = let p : Ptr = block_ptr b o in qed 𝓛 (‵ (keys_own γ i) ∷ ‵ (space (suc n) o) ∷ []) ∵ updating ! $ move ! (1 ∷ []) $
        use1 𝓛 (‵ (froom (elτ E) b o) ⊛ ‵ (space n (o + size))) (𝓛.laws.room_uncons (elτ E) n b o) $ split ! $
        use1 𝓛 (‵ (vacancy R p)) (𝓛.laws.room-raw (elτ E) b o) $ move ! (2 ∷ 0 ∷ []) $
        use2 𝓛 (later (exists (λ (a : ℕ). ‵ (plain_place R p γ i) ⊛ ‵ (part γ i a gnil most) ⊛ ‵ (keys_own γ (suc i))))) (houses p i) $ await ! tt $
        pick ! (λ a. split3 ! $
        move ! (2 ∷ 3 ∷ []) $ use2 𝓛 (later (exists (λ (ls : List FractionContent). given (AreVacant γ (suc i) n ls) (‵ (plots R b γ n (suc i)
        (o + size)) ⊛ ‵ (holdings ls)))))
        (lays n (suc i) (o + size)) $ await ! tt $ pick ! (λ ls. learn ! (λ are. split ! $
        -- [the other places; the other fractions; the place; the fraction]
        move ! (2 ∷ 0 ∷ []) $ fjoin ! $ move ! (2 ∷ 1 ∷ []) $ fjoin ! $ now ! $ show ! (Laid (suc n) i o) (content γ i a gnil most ∷ ls) $ check ! (refl, are) $
        move ! (1 ∷ 0 ∷ []) $ done !)))

    -- places that nobody else knows are room again, whatever fractions there are in them
    pub uproots : (n i o : ℕ) → ⟦ plots R b γ n i o ⟧ ⊢ ⟦ space n o ⟧
    uproots zero i o = qed 𝓛 (‵ ftrue ∷ []) ∵ drop ! $ use0 𝓛 (‵ (space zero o)) (𝓛.laws.room_nil (elτ E) b o) $ done !
    uproots (suc n) i o = let p : Ptr = block_ptr b o in qed 𝓛 (‵ (plots R b γ (suc n) i o) ∷ []) ∵ fsplit ! $ fpick ! (λ a. fsplit ! $ drop ! $
        use1 𝓛 (‵ (froom (elτ E) b o)) (𝓛.laws.raw-room (elτ E) b o) $
        move ! (1 ∷ []) $ use1 𝓛 (‵ (space n (o + size))) (uproots n (suc i) (o + size)) $ move ! (1 ∷ 0 ∷ []) $
        use2 𝓛 (‵ (space (suc n) o)) (𝓛.laws.room_cons (elτ E) n b o) $ done !)

    module _ (FitsIn : R.Denot → Type 0) where
      -- each place has its rule from now on
      pub founds : (n i o : ℕ) → ⟦ plots R b γ n i o ⟧ ⊢ H.⇛ ⟦ rules R b γ FitsIn n i o ⟧
      founds zero i o = qed 𝓛 (‵ ftrue ∷ []) ∵ updating ! $ now ! $ done !
      founds (suc n) i o = let p : Ptr = block_ptr b o in let I : Fml = rule R p γ i FitsIn in qed 𝓛 (‵ (plots R b γ (suc n) i o) ∷ []) ∵ updating ! $
          fsplit ! $ fpack ! (Option (Option (ℕ × R.Denot))) (state R p γ i FitsIn) (Some None) $ use1 𝓛 (later (‵ (finv I))) (𝓛.invs.inv_new I) $
          await ! tt $
          move ! (1 ∷ []) $ use1 𝓛 (later (‵ (rules R b γ FitsIn n (suc i) (o + size)))) (founds n (suc i) (o + size)) $ await ! tt $ move ! (1 ∷ 0 ∷ []) $
          fjoin ! $ now ! $ done !

      pub clears : (n i o : ℕ) (ls : List FractionContent) → AreVacant γ i n ls → ⟦ rules R b γ FitsIn n i o ⟧ ∗ ⟦ holdings ls ⟧ ⊢ H.⇛ ⟦ space n o ⟧
      clears zero i o [] are = qed 𝓛 (‵ ftrue ∷ ‵ ftrue ∷ []) ∵ updating ! $ drop ! $ use1 𝓛 (‵ (space zero o)) (𝓛.laws.room_nil (elτ E) b o) $ now ! $
          done !
      clears zero i o (l ∷ ls) are = absurd are
      clears (suc n) i o [] are = absurd are
      clears (suc n) i o (l ∷ ls) are = let p : Ptr = block_ptr b o in let a : ℕ = l.lifetime in
          qed 𝓛 (‵ (rules R b γ FitsIn (suc n) i o) ∷ ‵ (holdings (l ∷ ls)) ∷ []) ∵ updating ! $ fsplit ! $ move ! (2 ∷ []) $ fsplit ! $
          rewrite ! 0 (λ (h : FractionContent). ‵ (holding h)) are.0 refl $ fsplit ! $
          -- [the units; their tokens; the other fractions; the rule; the other rules]
          move ! (3 ∷ 0 ∷ []) $ use2 𝓛 (later (‵ (units γ i (agreed_on a (gnum 0)) most) ⊛ ‵ (vacancy R p))) (opens_room 𝓛 γ i R FitsIn p a) $ await ! tt $
          split ! $ drop ! $ use1 𝓛 (‵ (froom (elτ E) b o)) (𝓛.laws.raw-room (elτ E) b o) $
          -- [the room; the tokens; the other fractions; the other rules]
          move ! (3 ∷ 2 ∷ []) $ use2 𝓛 (later (‵ (space n (o + size)))) (clears n (suc i) (o + size) ls are.1) $ await ! tt $
          move ! (1 ∷ 0 ∷ []) $ use2 𝓛 (‵ (space (suc n) o)) (𝓛.laws.room_cons (elτ E) n b o) $ now ! $ keep ! (0 ∷ []) $ done !
