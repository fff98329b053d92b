-- Where a reader's guard closes, what is lent is lent to guards that are open
use Rattle.std.proofs.Common.{◌≡◌, ◌⊎◌, inl, inr, ℕ, ◌<◌, ◌^◌, List, length, sym, ap, ◌∙◌, arith}
use Rattle.std.specs.Prelude.{slice_set}
use lib.ListN.{length-set}
use Rattle.sdd_rights.specs.Units.{GhostName}
use Rattle.sdd_values.specs.declared.read_sections.SectionState.TheVariants.{Closed}
use Rattle.sdd_values.specs.Block.{settled}
use Rattle.sdd_values.specs.LentValues.{LentValues}
use Rattle.sdd_values.specs.ReadSections.{ReadSections, Kept, whole, kept_at}
use Rattle.sdd_part_examples.specs.SmallSpace.{IsSound, IsOpenAs}
use Rattle.sdd_values.proofs.Fractions.{set-there, set-elsewhere, same-place, all-settled}

module _ (old mid new : ReadSections) (r : ℕ) (k : Kept) (next : ℕ) (first : mid.kept ≡ slice_set old.kept r k) (second : new.kept
    ≡ slice_set mid.kept r (whole Closed next)) where
  none : Kept
  none = whole Closed 0

  kept-elsewhere : (q : ℕ) → (q ≡ r → ⊥) → kept_at new q ≡ kept_at old q
  unfolding none
  kept-elsewhere q other = ap (λ (ks : List Kept). lib.ListN.get_or ks q none) second ∙ set-elsewhere mid.kept r q (whole Closed next) none other
      ∙ ap (λ (ks : List Kept). lib.ListN.get_or ks q none) first ∙ set-elsewhere old.kept r q k none other

  kept-there : r < length old.kept → kept_at new r ≡ whole Closed next
  unfolding none
  kept-there near = let one = ap length first ∙ length-set old.kept r k in
      ap (λ (ks : List Kept). lib.ListN.get_or ks r none) second ∙ set-there mid.kept r (whole Closed next) none (omega (arith, one, near))

  pub sound-closed : {T : Type 0} (places : LentValues T) → IsSound places old → r < old.home.size → mid.home ≡ old.home → new.home ≡ mid.home
      → IsSound (record places { fractions = settled r places.fractions }) new
  sound-closed places is near same then = let homes : new.home ≡ old.home = then ∙ same in
      let sizes = ap (λ (h : GhostName). h.size) homes in let count = is.count in record {
        readers = is.readers ∙ sym sizes;
        count = ap length second ∙ length-set mid.kept r (whole Closed next) ∙ ap length first ∙ length-set old.kept r k ∙ is.count ∙ sym sizes;
        lent = λ at q t e. let so = all-settled (IsOpenAs old) places.fractions is.lent r at q t e in let same = kept-elsewhere q so.1 in
            (ap (λ (x : Kept). x.kind) same ∙ so.0.0, so.0.1 ∙ sym (ap (λ (x : Kept). x.lifetime) same));
        whole = λ q closed. by_reader q closed (same-place q r);
      }
    where
      by_reader : (q : ℕ) → (kept_at new q).kind ≡ Closed → (q ≡ r) ⊎ (q ≡ r → ⊥) → (kept_at new q).units ≡ 2 ^ 63
      by_reader q closed (inl e) = let count = is.count in ap (λ (j : ℕ). (kept_at new j).units) e
          ∙ ap (λ (x : Kept). x.units) (kept-there (omega (arith, near, count)))
      by_reader q closed (inr n) = let same = kept-elsewhere q n in
          ap (λ (x : Kept). x.units) same ∙ is.whole q (ap (λ (x : Kept). x.kind) (sym same) ∙ closed)
